use Rattle.std.proofs.Common.{◌≡◌, ℕ, ◌<◌, Bool, false, List, length, take, get_or, slice_get, slice_set, Some, ◌+◌, sym, ap, ◌∙◌, subst, arith}
use Rattle.std.proofs.lemmas.List.{length-set, take_all}
use Rattle.std.proofs.lemmas.Option.{slice_get-get_or, slice_get_within}
use Rattle.table_use.specs.inner.Steps.{IsFew, no_tally, tally_after}
use Rattle.table_use.specs.declared.tally.Tally.{Tally}
use Rattle.table_use.proofs.Taken.{AreTaken, is_among, one_taken, row_at, row_below, row_counts, row_once, was_before}
use Rattle.table_use.proofs.cover.count_rows.Goals.{After-from-r}
use Rattle.table_use.proofs.cover.count_rows.Goals as goal
use Rattle.polis_base.proofs.Places.{take_next}

-- what is so of the row at hand
record IsRow (c : After-from-r) : Type 0 where
  at : slice_get c.args.enabled.now c.loop-row.row-index ≡ Some c.from-r.result
  low : c.from-r.result < length c.loop-row.rows
  inside : c.from-r.result < length c.args.rows.now
  once : is_among c.from-r.result (take c.loop-row.row-index c.args.enabled.now) ≡ false

here : (c : After-from-r) → IsRow c
here c =
    let m = c.args.machine.now in
    let s = c.args.s.now.codes in
    let there = row_at c.args.enabled.now c.loop-row.row-index c.from-r.result c.loop-row-test.true
    c.from-r.ensures in
    let below = row_below m s c.args.enabled.now c.loop-row.row-index c.from-r.result
    c.requires.enabled there in
    let many = c.requires.many in
    let long = c.loop-row.invariant.long in
    record {
      at = there;
      low = omega arith;
      inside = omega arith;
      once = row_once m s c.args.enabled.now c.loop-row.row-index c.from-r.result
          c.requires.enabled there;
    }

pub get-requires : goal.get-requires
get-requires c = (here c).low

pub count-requires-clause-few : goal.count-requires-clause-few
count-requires-clause-few c =
    let row = here (goal.at.count-requires-clause-few c).After-from-r in
    let x = c.from-r.result in
    let old = c.args.rows.now in
    let first : Tally = get_or old x no_tally in
    subst (IsFew c.args.p)
    (sym (was_before c.args.p (take c.loop-row.row-index c.args.enabled.now) old c.loop-row.rows x
    first c.get.result.now c.loop-row.invariant.taken row.once
    (slice_get-get_or old x no_tally row.inside) c.get.ensures))
    (c.requires.few x no_tally row.inside)

pub set-requires : goal.set-requires
set-requires c = (here (goal.at.set-requires c).After-from-r).low

pub loop-row-preserved : goal.loop-row-preserved
loop-row-preserved c =
    let row = here (goal.at.loop-row-preserved c).After-from-r in
    let x = c.from-r.result in
    let i = c.loop-row.row-index in
    let xs = c.args.enabled.now in
    let new : Tally = c.count.new.self in
    record {
      long = ap (λ (l : List Tally). length l) c.set.ensures ∙ length-set c.loop-row.rows x new
          ∙ c.loop-row.invariant.long;
      taken = subst (AreTaken c.args.p (take (i + 1) xs) c.args.rows.now) (sym c.set.ensures)
          (subst (λ (done : List ℕ). AreTaken c.args.p done c.args.rows.now
          (slice_set c.loop-row.rows x new)) (sym (take_next xs i x row.at))
          (one_taken c.args.p (take i xs) c.args.rows.now c.loop-row.rows x c.get.result.now new
          c.loop-row.invariant.taken row.once c.get.ensures c.count.ensures));
    }

pub returns-clause-each : goal.returns-clause-each
returns-clause-each c =
    let m = c.args.machine.now in
    let s = c.args.s.now.codes in
    let xs = c.args.enabled.now in
    let end = c.loop-row-test.false in
    λ r t at.
    let within = slice_get_within c.args.rows.now r t at in
    let many = c.requires.many in
    c.loop-row.invariant.taken r t at
    ∙ ap (λ (done : List ℕ). Some (tally_after c.args.p (is_among r done) t))
    (take_all c.loop-row.row-index xs (omega arith))
    ∙ ap (λ (b : Bool). Some (tally_after c.args.p b t))
    (row_counts m s xs r c.requires.enabled (omega arith))
