use Rattle.std.proofs.Common.{false, sym, ◌∙◌}
use Rattle.event_buffer.proofs.LeftAt.{given_by_trace, left_whole}
use Rattle.event_buffer.proofs.feed.Feed.new.Goals as goal

pub returns : goal.returns
returns c =
    let net = c.args.net.now in
    let trace = c.args.trace.now in
    let left =
    left_whole net trace c.next_item-item.result
    ∙ c.next_item-item.ensures.left
    ∙ sym (given_by_trace net false trace) in
    λ k. record { net = net; trace = trace; left = left k }
