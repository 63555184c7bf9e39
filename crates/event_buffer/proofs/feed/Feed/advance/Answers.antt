use Rattle.std.proofs.Common.{◌≤◌, ◌+◌, List, length, drop, sym, ap, ◌∙◌, arith}
use Rattle.journals.specs.declared.entry.Owed.{Owed}
use Rattle.journals.specs.Journals.{is_trace_item}
use Rattle.event_buffer.specs.Feeds.{FeedState}
use Rattle.event_buffer.proofs.LeftAt.{is_next, one_more, one_item_more, none_left}
use Rattle.journals.specs.Schedules.{item_deliveries}
use Rattle.event_buffer.proofs.feed.Feed.advance.Goals as goal
use Rattle.polis_base.proofs.ListTests.{all_get}

abbrev passed : FeedState → FeedState
passed f = record { net = f.net; trace = f.trace; left = drop 1 f.left }

pub count_of-count-requires : goal.count_of-count-requires
count_of-count-requires c =
    let i = c.self.inside in
    all_get (is_trace_item i.net.now) i.trace.now i.item c.get.result.now c.self.invariant.0
    c.get.ensures

pub has_next-requires : goal.has_next-requires
has_next-requires c =
    let i = c.self.inside in
    let below =
    is_next i.net.now i.trace.now i.item i.receiver c.get.result.now c.get.ensures
    c.self.invariant.2 in
    let count = c.count_of-count.ensures in
    omega arith

pub returns-then-has_next : goal.returns-then-has_next
returns-then-has_next c =
    let i = c.self.inside in
    let item = c.get.result.now in
    let below =
    is_next i.net.now i.trace.now i.item i.receiver item c.get.ensures c.self.invariant.2 in
    let more = one_more i.net.now i.trace.now i.item i.receiver item c.get.ensures below in
    (λ k. record { net = i.net.now; trace = i.trace.now; left = more k })
    ∙ ap passed c.self.view_is

pub returns-else-has_next : goal.returns-else-has_next
returns-else-has_next c =
    let i = c.self.inside in
    let item = c.get.result.now in
    let next = c.next_item-self-inside in
    let below =
    is_next i.net.now i.trace.now i.item i.receiver item c.get.ensures c.self.invariant.2 in
    let count = c.count_of-count.ensures in
    let last : length (item_deliveries i.net.now item) ≤ i.receiver + 1 =
    let late = c.has_next.ensures.last c.if-has_next.false in omega arith in
    let more =
    one_item_more i.net.now i.trace.now i.item next.result i.receiver item c.get.ensures below last
    next.ensures.left in
    (λ k. record { net = i.net.now; trace = i.trace.now; left = more k })
    ∙ ap passed c.self.view_is

pub returns-else-self-len : goal.returns-else-self-len
returns-else-self-len c =
    let i = c.self.inside in
    let none =
    none_left i.net.now i.trace.now i.item i.receiver
    (omega (arith, c.if-self-len.false, c.len.ensures)) in
    let size =
    ap (λ (l : List Owed). length l)
    (sym none ∙ ap (λ (f : FeedState). f.left) c.self.view_is) in
    let some = c.requires in
    absurd (omega arith)
