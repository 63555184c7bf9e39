use Rattle.std.proofs.Common.{◌≤◌, ◌+◌, ◌++◌, List, drop, length, ap, sym, subst, ◌∙◌, arith}
use Rattle.std.specs.Vec.{vec_len, vec_capacity}
use Rattle.std.proofs.lemmas.List.{length_push}
use Rattle.journals.specs.declared.entry.Entry.{Entry}
use Rattle.journals.specs.declared.entry.Owed.{Owed}
use Rattle.journals.specs.Journals.{FitsNetwork}
use Rattle.journals.specs.Schedules.{firing_deliveries}
use Rattle.net_core.specs.declared.config.emissions.Emission.{Emission}
use Rattle.net_core.specs.Emissions.{IsQueue, IsChain, all_waiting, most_given}
use Rattle.net_core.proofs.Tables.{last_item}
use Rattle.net_core.proofs.config.owings.Owings.write.Goals as goal

pub get-requires : goal.get-requires
get-requires c =
    let many = ap length c.in_ok-push.ensures.ok ∙ length_push c.args.journal.now c.args.entry in
    let place = c.len-place.ensures in
    omega arith

pub emit_given-requires-clause-chain : goal.emit_given-requires-clause-chain
emit_given-requires-clause-chain c =
    let i = c.self.inside in
    subst (λ (l : List Emission). IsChain l i.last.items) (sym c.make_room_for.ensures.items)
    c.self.invariant.chain

pub emit_given-requires-clause-fits : goal.emit_given-requires-clause-fits
emit_given-requires-clause-fits c =
    let is = last_item c.args.journal.now c.push.new.self c.len-place.result c.args.entry
    c.get.result.now c.in_ok-push.ensures.ok c.len-place.ensures c.get.ensures in
    subst (FitsNetwork c.args.net.now) (sym is) c.requires.fits

pub emit_given-requires-clause-few : goal.emit_given-requires-clause-few
emit_given-requires-clause-few c =
    let is = last_item c.args.journal.now c.push.new.self c.len-place.result c.args.entry
    c.get.result.now c.in_ok-push.ensures.ok c.len-place.ensures c.get.ensures in
    let many = ap length c.make_room_for.ensures.items in
    let given = ap most_given is in
    let few = c.in_ok-make_room_for.ensures.few in
    omega arith

pub emit_given-requires-clause-room : goal.emit_given-requires-clause-room
emit_given-requires-clause-room c =
    let is = last_item c.args.journal.now c.push.new.self c.len-place.result c.args.entry
    c.get.result.now c.in_ok-push.ensures.ok c.len-place.ensures c.get.ensures in
    subst (λ (e : Entry). vec_len c.make_room_for.new.records + most_given e
    ≤ vec_capacity c.make_room_for.new.records) (sym is) c.in_ok-make_room_for.ensures.room

pub invariant_of-self-2 : goal.invariant_of-self-2
invariant_of-self-2 c =
    let i = c.self.inside in
    c.emit_given.ensures.queue i.front i.cursors.items
    (subst (λ (l : List Emission). IsQueue l i.front i.cursors.items i.last.items)
    (sym c.make_room_for.ensures.items) c.self.invariant)

pub returns-clause-journal : goal.returns-clause-journal
returns-clause-journal c = c.in_ok-push.ensures.ok

pub returns-clause-owed : goal.returns-clause-owed
returns-clause-owed c =
    let i = c.self.inside in
    let net = c.args.net.now in
    let entry = c.get.result.now in
    let room = c.make_room_for.ensures.items in
    let is = last_item c.args.journal.now c.push.new.self c.len-place.result c.args.entry entry
    c.in_ok-push.ensures.ok c.len-place.ensures c.get.ensures in
    c.emit_given.ensures.view i.front
    (subst (λ (l : List Emission). i.front ≤ length l) (sym room) c.self.invariant.within)
    ∙ ap (λ (l : List Emission). all_waiting (drop i.front l) ++ firing_deliveries net entry) room
    ∙ ap (λ (l : List Owed). l ++ firing_deliveries net entry) c.self.view_is
    ∙ ap (λ (e : Entry). c.args.self.now ++ firing_deliveries net e) is
