use Rattle.std.proofs.Common.{take, List, subst, sym, arith}
use Rattle.std.proofs.lemmas.Option.{slice_get_within}
use Rattle.journals.specs.declared.entry.Entry.{Entry}
use Rattle.machine_compiler.specs.inner.Tallies.{AreTallies}
use Rattle.machine_compiler.proofs.AreTallies.{tallies_few}
use Rattle.machine_compiler.proofs.tallies.count_reactions.Goals as goal
use Rattle.journals.proofs.EntriesAt.{fits_at, prefix_more}

pub loop-i-init : goal.loop-i-init
loop-i-init c = rw c.network.ensures at c.in_ok-tallies.ensures c.args.r.now.codes

pub tally_entry-requires-clause-fits : goal.tally_entry-requires-clause-fits
tally_entry-requires-clause-fits c =
    fits_at c.args.r.now.net.now c.args.journal.now c.loop-i.i c.get.result.now
    c.requires.journal c.get.ensures

pub tally_entry-requires-clause-few : goal.tally_entry-requires-clause-few
tally_entry-requires-clause-few c =
    let r = c.args.r.now in
    let i = c.loop-i.i in
    let next = c.loop-i-test.true in
    tallies_few r.net.now r.codes c.args.journal.now i c.loop-i.tallies.items r.tasks.long
    c.requires.counts (slice_get_within c.args.journal.now i c.get.result.now c.get.ensures)
    (omega (arith, next)) c.loop-i.invariant

pub loop-i-preserved : goal.loop-i-preserved
loop-i-preserved c =
    let r = c.args.r.now in
    let journal = c.args.journal.now in
    let i = c.loop-i.i in
    subst (λ (seen : List Entry).
    AreTallies r.net.now r.codes seen c.tally_entry.new.tallies.items)
    (sym (prefix_more journal i c.get.result.now c.get.ensures))
    (c.tally_entry.ensures (take i journal) c.loop-i.invariant)
