use Rattle.determinism.proofs.Bests.{best_none, best_conflict}
use Rattle.determinism.proofs.conflict.conflict_of.Goals as goal
use Rattle.transition_table.proofs.MachineCounts.{row_fits}

pub overlap-requires-clause-of_first : goal.overlap-requires-clause-of_first
overlap-requires-clause-of_first c =
    c.requires.codes.each c.args.a c.get-first.result.now c.of_row.result.now
    (rw c.from.ensures at c.get-first.ensures) (rw c.from-3.ensures at c.of_row.ensures)

pub overlap-requires-clause-of_second : goal.overlap-requires-clause-of_second
overlap-requires-clause-of_second c =
    c.requires.codes.each c.args.b c.get-second.result.now c.of_row-2.result.now
    (rw c.from-2.ensures at c.get-second.ensures) (rw c.from-4.ensures at c.of_row-2.ensures)

pub invariant_of-pair : goal.invariant_of-pair
invariant_of-pair c = record {
  first_row = row_fits c.args.machine.now c.args.a c.get-first.result.now
      (rw c.from.ensures at c.get-first.ensures);
  second_row = row_fits c.args.machine.now c.args.b c.get-second.result.now
      (rw c.from-2.ensures at c.get-second.ensures);
  area = c.overlap.ensures.area c.if-not-overlap.false;
  some = c.overlap.ensures.some c.if-not-overlap.false;
}

pub returns-clause-some : goal.returns-clause-some
returns-clause-some c = λ h.
    best_conflict c.args.a c.args.b c.any_difference.result c.any_difference.new.best
    c.any_difference.ensures.best c.requires.order (rw c.from.ensures at c.get-first.ensures)
    (rw c.from-2.ensures at c.get-second.ensures) h

pub returns-clause-none : goal.returns-clause-none
returns-clause-none c = λ h.
    best_none c.args.a c.args.b c.any_difference.result c.any_difference.new.best.codes
    c.any_difference.ensures.best (rw c.from.ensures at c.get-first.ensures)
    (rw c.from-2.ensures at c.get-second.ensures) h
