use Rattle.std.proofs.Common.{◌≡◌, List, option_map, IfSome, true, sym, ap, subst, ◌∙◌, arith}
use Rattle.polis_base.specs.Lists.{head_of}
use Rattle.journals.specs.declared.entry.Owed.{Owed}
use Rattle.journals.specs.Journals.{is_trace_item}
use Rattle.event_buffer.specs.Arrivals.{is_arrival, arrival_of}
use Rattle.event_buffer.specs.Feeds.{FeedState}
use Rattle.event_buffer.proofs.LeftAt.{is_next, first_left, none_left, arrives}
use Rattle.event_buffer.proofs.feed.Feed.peek.Goals as goal
use Rattle.polis_base.proofs.ListTests.{all_get}

pub arrival_at-requires : goal.arrival_at-requires
arrival_at-requires c =
    let i = c.self.inside in
    all_get (is_trace_item i.net.now) i.trace.now i.item c.get.result.now c.self.invariant.0
    c.get.ensures

pub returns-then-self-len-clause-next : goal.returns-then-self-len-clause-next
returns-then-self-len-clause-next c =
    let i = c.self.inside in
    let item = c.get.result.now in
    let below =
    is_next i.net.now i.trace.now i.item i.receiver item c.get.ensures c.self.invariant.2 in
    c.arrival_at.ensures
    ∙ ap (option_map (arrival_of 0))
    (sym (first_left i.net.now i.trace.now i.item i.receiver item c.get.ensures below)
    ∙ ap (λ (f : FeedState). head_of f.left) c.self.view_is)

pub returns-then-self-len-clause-arrival : goal.returns-then-self-len-clause-arrival
returns-then-self-len-clause-arrival c =
    let i = c.self.inside in
    let found = c.arrival_at.result in
    let fits =
    all_get (is_trace_item i.net.now) i.trace.now i.item c.get.result.now
    c.self.invariant.0 c.get.ensures in
    subst (λ (f : FeedState). IfSome found (λ a. is_arrival f.net a ≡ true)) c.self.view_is
    (arrives i.net.now c.get.result.now i.receiver found c.sending_laws.ensures.env_may_arrive fits
    c.arrival_at.ensures)

pub returns-else-self-len-clause-next : goal.returns-else-self-len-clause-next
returns-else-self-len-clause-next c =
    let i = c.self.inside in
    let end = c.len.ensures in
    let none =
    none_left i.net.now i.trace.now i.item i.receiver
    (omega (arith, c.if-self-len.false, c.len.ensures)) in
    ap (λ (l : List Owed). option_map (arrival_of 0) (head_of l))
    (sym none ∙ ap (λ (f : FeedState). f.left) c.self.view_is)
