use Rattle.std.proofs.Common.{◌≡◌, ◌≢◌, ◌<◌, ◌+◌, ℕ, set, drop, ap, sym, subst, ◌∙◌, arith}
use Rattle.std.specs.Int.{bit_at}
use Rattle.std.proofs.lemmas.List.{get_or_default}
use Rattle.transition_table.specs.declared.decl.Party.TheVariants.{Machine as Sender}
use Rattle.journals.specs.Schedules.{is_way, without_first}
use Rattle.polis_base.proofs.SmallSets.{without_same, without_others}
use Rattle.net_core.specs.declared.config.emissions.Emission.{Emission}
use Rattle.net_core.specs.Emissions.{no_emission, all_waiting, IsQueue}
use Rattle.net_core.proofs.OwedByEmissions.{all_absent, without_none, pass_struck}
use Rattle.net_core.proofs.IsQueue.{none_passed, waits_past, start_is, struck_view, struck_queue}
use Rattle.net_core.proofs.config.owings.Owings.remove_between.Goals as goal

pub invariant_of-self : goal.invariant_of-self
invariant_of-self c =
    let i = c.self.inside in
    let s = c.args.from in
    let m = c.args.to in
    let records = i.records.items in
    let cursors = i.cursors.items in
    let last = i.last.items in
    let p = c.in-Some.place in
    let start = start_is cursors s m c.pair-key.result c.index.result.now c.self.invariant.long
    c.requires.from c.requires.to c.pair-key.ensures c.index.ensures in
    let at = rw c.deref.ensures.value at c.in-Some.ensures in
    let before = none_passed records i.front cursors last s m c.index.result.now p c.self.invariant
    c.requires.from c.requires.to start at.3 in
    let r = c.index-r.result.now in
    let is = c.index-r.ensures ∙ get_or_default records p r no_emission at.1 in
    let rest = c.without-r.result in
    let new : Emission =
    record { from = r.from; event = r.event; code = r.code; left = rest; next = r.next } in
    let left = rw c.deref-in-Some.ensures.value at c.first_left-self-inside.ensures in
    subst (λ (k : ℕ). IsQueue (set records p new) c.first_left-self-inside.result (set cursors k p)
    last) (sym c.pair-key.ensures)
    (struck_queue records i.front c.first_left-self-inside.result cursors last p s m rest new
    c.self.invariant c.requires.from c.requires.to at.1 before at.2
    (ap (λ (x : Emission). let made : Emission = record x { left = rest } in made) is)
    (without_same rest r.left m c.without-r.ensures)
    (subst (λ (x : Emission). (k : ℕ) → k < 64 → k ≢ m → bit_at rest k ≡ bit_at x.left k) is
    (λ k low. without_others rest r.left m c.without-r.ensures k))
    left.from left.within left.struck left.left)

pub returns-in-Some : goal.returns-in-Some
returns-in-Some c =
    let i = c.self.inside in
    let s = c.args.from in
    let m = c.args.to in
    let records = i.records.items in
    let cursors = i.cursors.items in
    let last = i.last.items in
    let p = c.in-Some.place in
    let start = start_is cursors s m c.pair-key.result c.index.result.now c.self.invariant.long
    c.requires.from c.requires.to c.pair-key.ensures c.index.ensures in
    let at = rw c.deref.ensures.value at c.in-Some.ensures in
    let before = none_passed records i.front cursors last s m c.index.result.now p c.self.invariant
    c.requires.from c.requires.to start at.3 in
    let past = waits_past records i.front cursors last s m p c.self.invariant at.2 in
    let r = c.index-r.result.now in
    let is = c.index-r.ensures ∙ get_or_default records p r no_emission at.1 in
    let rest = c.without-r.result in
    let new : Emission =
    record { from = r.from; event = r.event; code = r.code; left = rest; next = r.next } in
    let left = rw c.deref-in-Some.ensures.value at c.first_left-self-inside.ensures in
    pass_struck (set records p new) i.front c.first_left-self-inside.result left.from left.struck
    ∙ struck_view records i.front p s m rest new c.requires.to past (λ k low below. before k below)
    at.2
    (ap (λ (x : Emission). let made : Emission = record x { left = rest } in made) is)
    (without_same rest r.left m c.without-r.ensures)
    (subst (λ (x : Emission). (k : ℕ) → k < 64 → k ≢ m → bit_at rest k ≡ bit_at x.left k) is
    (λ k low. without_others rest r.left m c.without-r.ensures k))
    ∙ ap (without_first (is_way (Sender s) m)) c.self.view_is

pub returns-in_default : goal.returns-in_default
returns-in_default c =
    let i = c.self.inside in
    let s = c.args.from in
    let m = c.args.to in
    let records = i.records.items in
    let cursors = i.cursors.items in
    let last = i.last.items in
    let start = start_is cursors s m c.pair-key.result c.index.result.now c.self.invariant.long
    c.requires.from c.requires.to c.pair-key.ensures c.index.ensures in
    let none = rw c.deref.ensures.value at (rw c.in_default.is at c.place_from.ensures) in
    sym c.self.view_is
    ∙ sym (without_none (is_way (Sender s) m) (all_waiting (drop i.front records))
    (all_absent s m records i.front (λ k past.
    none_passed records i.front cursors last s m c.index.result.now (k + 1) c.self.invariant
    c.requires.from c.requires.to start (λ j low high. none j low) k (omega arith))))
    ∙ ap (without_first (is_way (Sender s) m)) c.self.view_is
