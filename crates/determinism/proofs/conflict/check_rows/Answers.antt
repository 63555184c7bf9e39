use Rattle.std.proofs.Common.{◌<◌, ◌≤◌, ◌+◌, ◌≡◌, ℕ, length, arith, sym, subst, ⊎_elim, inl, inr}
use Rattle.std.proofs.lemmas.Bool.{cases_eq, cases_order}
use Rattle.transition_table.specs.Transitions.{Conflict}
use Rattle.determinism.proofs.Overlaps.{enabled_there}
use Rattle.determinism.proofs.conflict.check_rows.Goals as goal

-- two rows that conflict are there, and each that is there was tried
pub returns : goal.returns
returns c =
    let all : length c.args.m.now.rows ≤ c.loop-a.a =
    rw c.row_count-a-end.ensures.count at c.loop-a-test.false in
    (c.laws.ensures.no_conflicts c.args.m.now).1
    (λ a b s conflict.
    let there = enabled_there s.codes c.args.m.now.rows b conflict.second in
    let order = conflict.order in
    c.loop-a.invariant.none a b s (omega arith) conflict)

-- a pair that conflicts doesn't stand before the rows that were tried
pub returns-in-Some : goal.returns-in-Some
returns-in-Some c =
    let found = rw c.in-Some.is at c.conflicting.ensures.some in
    record {
      conflict = found.conflict;
      least_pair = λ p q t conflict.
          elim (cases_order c.loop-a.a p) [
            | inl here ↦ inr (
              here,
              found.first_row q t
                  (subst (λ k. Conflict c.args.m.now k q t) (sym here) conflict),
            )
            | inr other ↦ elim other [
              | inl above ↦ inl above
              | inr below ↦ absurd (c.loop-a.invariant.none p q t below conflict)
            ]
          ];
      least_snapshot = found.least_snapshot;
    }

pub conflicting-requires-clause-row : goal.conflicting-requires-clause-row
conflicting-requires-clause-row c =
    subst (λ n. c.loop-a.a < n) c.row_count-a-end.ensures.count c.loop-a-test.true

pub conflicting-requires-clause-codes : goal.conflicting-requires-clause-codes
conflicting-requires-clause-codes c = c.requires.codes

pub conflicting-requires-clause-marks : goal.conflicting-requires-clause-marks
conflicting-requires-clause-marks c = c.requires.marks

pub conflicting-requires-clause-sayers : goal.conflicting-requires-clause-sayers
conflicting-requires-clause-sayers c = c.requires.sayers

pub conflicting-requires-clause-room : goal.conflicting-requires-clause-room
conflicting-requires-clause-room c = record {
  sets = c.loop-a.invariant.sets;
  long = c.loop-a.invariant.long;
  best_long = c.loop-a.invariant.best_long;
}

still_below : (k n : ℕ) → k < n + 1 → (k ≡ n → ⊥) → k < n
still_below k n next apart = omega arith

pub loop-a-preserved : goal.loop-a-preserved
loop-a-preserved c =
    let m = c.args.m.now in
    let a = c.loop-a.a in
    let room = c.conflicting.ensures.room in
    record {
      sets = room.sets;
      long = room.long;
      best_long = room.best_long;
      none = λ k d t next conflict.
          ⊎_elim
          (λ same.
          c.in_default.ensures.none d t (subst (λ j. Conflict m j d t) same conflict))
          (λ apart. c.loop-a.invariant.none k d t (still_below k a next apart) conflict)
          (cases_eq k a);
    }
