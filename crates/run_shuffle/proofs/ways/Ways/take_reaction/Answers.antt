use Rattle.std.proofs.Common.{ℕ, ◌<◌, List, [], cond, length, slice_get, refl, sym, ap, subst, ◌∙◌, arith}
use Rattle.std.specs.Int.{bit_at}
use Rattle.transition_table.specs.Transitions.{IsOutcome, IsSnapshot}
use Rattle.transition_table.specs.declared.network.Network.{Network}
use Rattle.journals.specs.Journals.{emitted, outputs_of}
use Rattle.journals.specs.declared.entry.Entry.TheVariants.{Rea}
use Rattle.polis_base.proofs.SmallSets.{without_same, without_others}
use Rattle.run_shuffle.specs.declared.ways.Ways.{Ways}
use Rattle.run_shuffle.proofs.EntriesOfMoves.{machine_below}
use Rattle.run_shuffle.proofs.WaysAfter.{IsRow, reaction_taken, read_row, row_set, taken}
use Rattle.run_shuffle.proofs.ways.Ways.take_reaction.Goals.{Start}
use Rattle.run_shuffle.proofs.ways.Ways.take_reaction.Goals as goal

-- the machine is one of the network
is_machine : (c : Start) → c.args.machine < length c.args.config.now.net.machines
is_machine c =
    let net = c.args.config.now.net in
    machine_below net c.args.machine
    (λ machine. IsSnapshot machine c.args.snapshot × IsOutcome machine c.args.outcome)
    (slice_get net.machines c.args.machine) refl c.requires.fits

pub returns-clause-ways : goal.returns-clause-ways
returns-clause-ways c =
    let now = c.args.config.now in
    let ways = c.args.self.now in
    let k = c.args.machine in
    let x = c.args.snapshot in
    let o = c.args.outcome in
    let row = c.with_outcome-owes.result in
    let owed = c.get-owed.result.now in
    let below =
    machine_below now.net k (λ machine. IsSnapshot machine x × IsOutcome machine o)
    (slice_get now.net.machines k) refl c.requires.fits in
    let sent : Network → List (ℕ × ℕ) =
    λ (net : Network). cond o.fires (emitted (outputs_of net k) o.outs) [] in
    let made : IsRow now.net (sent now.net) owed row =
    subst (λ (net : Network). IsRow net (sent net) owed row) c.network.ensures
    (record {
      machines = c.with_outcome-owes.ensures.machines;
      others = c.with_outcome-owes.ensures.others;
    }) in
    row_set c.take.new.self (taken now (Rea k x o)) ways c.set_receivers.new.self k row
    c.without-self.result c.in_ok-take.ensures.ok c.set_receivers.ensures.sends
    c.set_receivers.ensures.owed c.set_receivers.ensures.same (λ sum all.
    reaction_taken c.moving_laws.ensures.moves_owed c.moving_laws.ensures.moves_waking
    c.sending_laws.ensures.trace_gives now ways k x o row c.without-self.result sum
    c.journal-journal.ensures.legal c.requires.ways below
    (read_row now.net (sent now.net) ways.sends k owed row c.get-owed.ensures made)
    (without_same c.without-self.result c.set_receivers.new.self.woken k c.without-self.ensures)
    (λ m within other.
    without_others c.without-self.result c.set_receivers.new.self.woken k c.without-self.ensures m
    other
    ∙ ap (λ (w : Ways). bit_at w.woken m) c.set_receivers.ensures.same) all)

pub without-self-requires : goal.without-self-requires
without-self-requires c =
    let now = c.args.config.now in
    let below =
    machine_below now.net c.args.machine
    (λ machine. IsSnapshot machine c.args.snapshot × IsOutcome machine c.args.outcome)
    (slice_get now.net.machines c.args.machine) refl c.requires.fits in
    let few = now.net.few_machines in
    omega (arith, below, few)

pub get-owed-requires : goal.get-owed-requires
get-owed-requires c =
    let below = is_machine (goal.at.get-owed-requires c).Start in
    let long = c.requires.ways.long in
    omega arith

pub with_outcome-owes-requires-clause-machine : goal.with_outcome-owes-requires-clause-machine
with_outcome-owes-requires-clause-machine c =
    subst (λ (net : Network). c.args.machine < length net.machines) (sym c.network.ensures)
    (is_machine (goal.at.with_outcome-owes-requires-clause-machine c).Start)

pub set_receivers-requires-clause-sender : goal.set_receivers-requires-clause-sender
set_receivers-requires-clause-sender c =
    let below = is_machine (goal.at.set_receivers-requires-clause-sender c).Start in
    let long = c.requires.ways.long in
    omega arith

pub set_receivers-requires-clause-few : goal.set_receivers-requires-clause-few
set_receivers-requires-clause-few c =
    let few = c.args.config.now.net.few_machines in
    let long = c.requires.ways.long in
    omega arith
