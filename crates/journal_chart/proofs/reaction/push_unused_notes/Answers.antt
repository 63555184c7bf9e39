use Rattle.std.proofs.Common.{ℕ, Bool, nat_lt, length}
use Rattle.std.proofs.lemmas.Bool.{ltb-true}
use Rattle.polis_base.proofs.ListTests.{all_get}
use Rattle.journal_chart.proofs.UsedInputs.{unused_more}
use Rattle.journal_chart.proofs.reaction.push_unused_notes.Goals as goal

pub push_unused_note-requires : goal.push_unused_note-requires
push_unused_note-requires c =
    let r = c.args.r.now in
    let events = length r.net.now.events in
    let small : ℕ → Bool = λ e. nat_lt e events in
    ltb-true c.get.result.now events
    (all_get small r.machine.now.inputs c.loop-i.i c.get.result.now r.numbered c.get.ensures)

pub loop-i-preserved : goal.loop-i-preserved
loop-i-preserved c =
    let r = c.args.r.now in
    unused_more r.net.now r.machine.now r.snapshot.now.codes c.loop-i.i c.get.result.now
    c.loop-i.notes c.push_unused_note.new.notes _ c.in_ok-unused.unused c.get.ensures
    c.in_ok-unused.ensures c.in_ok-push_unused_note.ensures c.loop-i.invariant
