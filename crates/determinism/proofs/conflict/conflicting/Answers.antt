use Rattle.std.proofs.Common.{◌+◌, ◌≤◌, length, arith, subst, inl, inr}
use Rattle.std.proofs.lemmas.Bool.{cases_lt}
use Rattle.std.proofs.lemmas.Bool.Decides.{eqb_tells}
use Rattle.transition_table.specs.Transitions.{Conflict}
use Rattle.determinism.proofs.Says.{none_between}
use Rattle.determinism.proofs.Overlaps.{enabled_there}
use Rattle.determinism.proofs.conflict.conflicting.Goals as goal

-- the rows up to the first near one
pub loop-b-init : goal.loop-b-init
loop-b-init c =
    let m = c.args.machine.now in
    let a = c.args.a in
    let marks = c.args.marks.now in
    let near = rw c.as_slice.ensures at c.next_near-b.ensures in
    let long = c.requires.marks.long in
    record {
      sets = c.requires.room.sets;
      long = c.requires.room.long;
      best_long = c.requires.room.best_long;
      from = let start = near.from in omega arith;
      within = let end = near.within in omega arith;
      none = λ d t below conflict.
          elim (cases_lt d (a + 1)) [
            | inl small ↦ absurd (let order = conflict.order in omega arith)
            | inr low ↦ none_between m marks a (a + 1) c.next_near-b.result c.get.result.now
                c.requires.marks (rw c.from.ensures at c.get.ensures) near.within near.apart d t low
                below conflict
          ];
    }

-- a row that was tried, and those up to the next near one
pub loop-b-preserved : goal.loop-b-preserved
loop-b-preserved c =
    let m = c.args.machine.now in
    let a = c.args.a in
    let b = c.loop-b.b in
    let marks = c.args.marks.now in
    let near = rw c.as_slice-in-loop-b.ensures at c.next_near-b-in-loop-b.ensures in
    let long = c.requires.marks.long in
    let order = c.loop-b.invariant.from in
    record {
      sets = c.conflict_of.ensures.room.sets;
      long = c.conflict_of.ensures.room.long;
      best_long = c.conflict_of.ensures.room.best_long;
      from = let start = near.from in omega arith;
      within = let end = near.within in omega arith;
      none = λ d t below conflict.
          elim (cases_lt d b) [
            | inl before ↦ c.loop-b.invariant.none d t before conflict
            | inr past ↦ elim (eqb_tells d b) [
              | inl here ↦ c.conflict_of.ensures.none c.if-conflict_of.false t
                  (subst (λ k. Conflict m a k t) here.1 conflict)
              | inr apart ↦
                  let differ = apart.1 in
                  none_between m marks a (b + 1) c.next_near-b-in-loop-b.result c.get.result.now
                  c.requires.marks (rw c.from.ensures at c.get.ensures) near.within near.apart d
                  t (omega arith) below conflict
            ]
          ];
    }

-- each row was tried or isn't near
pub returns-clause-none : goal.returns-clause-none
returns-clause-none c = λ d t conflict.
    let there = enabled_there t.codes c.args.machine.now.rows d conflict.second in
    let all : length c.args.machine.now.rows ≤ c.loop-b.b =
    rw c.row_count.ensures.count at c.loop-b-test.false in
    c.loop-b.invariant.none d t (omega arith) conflict
