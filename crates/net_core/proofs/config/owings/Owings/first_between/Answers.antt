use Rattle.std.proofs.Common.{◌+◌, Some, drop, ap, sym, ◌∙◌, arith}
use Rattle.std.specs.Prelude.{find}
use Rattle.std.proofs.lemmas.List.{get_or_default}
use Rattle.transition_table.specs.declared.decl.Party.TheVariants.{Machine as Sender}
use Rattle.journals.specs.Schedules.{is_way}
use Rattle.net_core.specs.declared.config.emissions.Emission.{Emission}
use Rattle.net_core.specs.Emissions.{no_emission, owed_to, all_waiting}
use Rattle.net_core.proofs.OwedByEmissions.{all_absent, find_at_place}
use Rattle.net_core.proofs.IsQueue.{none_passed, waits_past, start_is}
use Rattle.net_core.proofs.Bitsets.{find_none}
use Rattle.net_core.proofs.config.owings.Owings.first_between.Goals as goal

pub returns-in-Some : goal.returns-in-Some
returns-in-Some c =
    let i = c.self.inside in
    let s = c.args.from in
    let m = c.args.to in
    let records = i.records.items in
    let cursors = i.cursors.items in
    let last = i.last.items in
    let p = c.in-Some.place in
    let start = start_is cursors s m c.pair.result c.index-start.result.now c.self.invariant.long
    c.requires.from c.requires.to c.pair.ensures c.index-start.ensures in
    let at = rw c.deref.ensures.value at c.in-Some.ensures in
    let r = c.index.result.now in
    let is = c.index.ensures ∙ get_or_default records p r no_emission at.1 in
    let before = none_passed records i.front cursors last s m c.index-start.result.now p
    c.self.invariant c.requires.from c.requires.to start at.3 in
    let past = waits_past records i.front cursors last s m p c.self.invariant at.2 in
    ap Some (c.delivery.ensures ∙ ap (λ (x : Emission). owed_to x m) is)
    ∙ sym (find_at_place s m records i.front p c.requires.to past (λ k low below. before k below)
    at.2)
    ∙ ap (find (is_way (Sender s) m)) c.self.view_is

pub returns-in-None : goal.returns-in-None
returns-in-None c =
    let i = c.self.inside in
    let s = c.args.from in
    let m = c.args.to in
    let records = i.records.items in
    let cursors = i.cursors.items in
    let last = i.last.items in
    let start = start_is cursors s m c.pair.result c.index-start.result.now c.self.invariant.long
    c.requires.from c.requires.to c.pair.ensures c.index-start.ensures in
    let none = rw c.deref.ensures.value at c.in-None.ensures in
    sym (find_none (is_way (Sender s) m) (all_waiting (drop i.front records))
    (all_absent s m records i.front (λ k past.
    none_passed records i.front cursors last s m c.index-start.result.now (k + 1) c.self.invariant
    c.requires.from c.requires.to start (λ j low high. none j low) k (omega arith))))
    ∙ ap (find (is_way (Sender s) m)) c.self.view_is
