use Rattle.std.proofs.Common.{◌≡◌, ◌∙◌, ◌<◌, ◌≤◌, [], ℕ, List, length, get_or, replicate, slice_index, arith, sym, ap, subst}
use Rattle.std.proofs.lemmas.List.{length-replicate}
use Rattle.std.specs.Prelude.{◌↔◌}
use Rattle.std.proofs.lemmas.Option.{get_or_from_slice_get}
use Rattle.domains.specs.Tables.{product}
use Rattle.transition_table.specs.Computed.{result_code}
use Rattle.order_sift.specs.inner.Classes.{snapshot_at}
use Rattle.order_sift.specs.inner.Pairs.{AreBelow, ArePairs}
use Rattle.order_sift.proofs.PairKeys.{room_kept}
use Rattle.order_sift.proofs.TableOutcomes.{tell_result, same_outcomes}
use Rattle.order_sift.proofs.PairedLists.{are_pairs}
use Rattle.order_sift.proofs.prepare.outcome_numbers.Goals.{After-as_slice-after}
use Rattle.order_sift.proofs.prepare.outcome_numbers.Goals as goal
use Rattle.polis_base.proofs.Places.{index_zeros}

below_results : (y end long results : ℕ) → y < end → end ≡ long → long ≡ results → y < results
below_results y end long results low end_is wide = omega arith

-- the result's codes beside what was made
pairs_here : (c : After-as_slice-after)
    → ArePairs c.as_slice-before.result.now c.as_slice-after.result.now c.loop-y.seen
pairs_here c =
    let results = c.args.results.now in
    let y = c.loop-y.y in
    let are = c.requires.results in
    let inv = c.loop-y.invariant in
    let low : y < length c.args.m.now.results =
    below_results y c.len-y-end.result (length results) (length c.args.m.now.results)
    c.loop-y-test.true c.len-y-end.ensures are.wide in
    are_pairs (product c.args.m.now.vars) c.as_slice-before.result.now c.loop-y.made
    c.as_slice-after.result.now (get_or results y []) c.loop-y.seen c.as_slice-before.ensures
    (c.as_slice-after.ensures
    ∙ sym (get_or_from_slice_get results y c.get.result.now [] c.get.ensures))
    inv.long inv.below (are.long y low) (are.below y low) inv.room c.requires.few

pub paired-requires-clause-few : goal.paired-requires-clause-few
paired-requires-clause-few c =
    (pairs_here (goal.at.paired-requires-clause-few c).After-as_slice-after).few

pub paired-requires-clause-long : goal.paired-requires-clause-long
paired-requires-clause-long c =
    (pairs_here (goal.at.paired-requires-clause-long c).After-as_slice-after).long

pub paired-requires-clause-room : goal.paired-requires-clause-room
paired-requires-clause-room c =
    (pairs_here (goal.at.paired-requires-clause-room c).After-as_slice-after).room

pub paired-requires-clause-one_below : goal.paired-requires-clause-one_below
paired-requires-clause-one_below c =
    (pairs_here (goal.at.paired-requires-clause-one_below c).After-as_slice-after).one_below

pub paired-requires-clause-other_below : goal.paired-requires-clause-other_below
paired-requires-clause-other_below c =
    (pairs_here (goal.at.paired-requires-clause-other_below c).After-as_slice-after).other_below

pub get-requires : goal.get-requires
get-requires c = subst (λ (n : ℕ). c.loop-y.y < n) c.len-y-end.ensures c.loop-y-test.true

zeros_below : (n : ℕ) → AreBelow n (replicate n 0)
zeros_below n i low =
    let zero_is = index_zeros n i in
    let inside : i < n = subst (λ (k : ℕ). i < k) (length-replicate n 0) low in
    omega arith

pub loop-y-init : goal.loop-y-init
loop-y-init c =
    let made = c.in_ok-made.made in
    let n = product c.args.m.now.vars in
    let is : made ≡ replicate n 0 =
    c.in_ok-made.ensures ∙ ap (λ (k : ℕ). replicate k 0) c.requires.snapshots in
    let zeros : (k : ℕ) → slice_index made k ≡ 0 =
    λ k. ap (λ (xs : List ℕ). slice_index xs k) is ∙ index_zeros n k in
    record {
      room = c.requires.room;
      long = ap (λ (xs : List ℕ). length xs) is ∙ length-replicate n 0;
      below = subst (AreBelow n) (sym is) (zeros_below n);
      same = λ i j li lj. (λ h z low. absurd (omega arith), λ h. zeros i ∙ sym (zeros j));
    }

pub loop-y-preserved : goal.loop-y-preserved
loop-y-preserved c =
    let m = c.args.m.now in
    let n = product m.vars in
    let y = c.loop-y.y in
    let inv = c.loop-y.invariant in
    let results = c.args.results.now in
    let are = c.requires.results in
    let next = c.in_ok-next.next in
    let ly : y < length m.results = let a = c.loop-y-test.true in let b = c.len-y-end.ensures in
    let d = are.wide in omega arith in
    let codes : get_or results y [] ≡ c.as_slice-after.result.now =
    get_or_from_slice_get results y c.get.result.now [] c.get.ensures
    ∙ sym c.as_slice-after.ensures in
    let code = subst (λ (xs : List ℕ). (i : ℕ) → i < n
    → slice_index xs i ≡ result_code m y (snapshot_at m i)) codes
    (λ i li. are.code y i ly li) in
    let wide : length c.as_slice-before.result.now ≡ n =
    ap (λ (xs : List ℕ). length xs) c.as_slice-before.ensures ∙ inv.long in
    let whole = subst (λ (k : ℕ). (i j : ℕ) → i < k → j < k
    → (slice_index next i ≡ slice_index next j)
    ↔ ((slice_index c.as_slice-before.result.now i ≡ slice_index c.as_slice-before.result.now j)
    × (slice_index c.as_slice-after.result.now i ≡ slice_index c.as_slice-after.result.now j)))
    wide c.in_ok-next.ensures.same in
    let both = subst (λ (xs : List ℕ). (i j : ℕ) → i < n → j < n
    → (slice_index next i ≡ slice_index next j)
    ↔ ((slice_index xs i ≡ slice_index xs j)
    × (slice_index c.as_slice-after.result.now i ≡ slice_index c.as_slice-after.result.now j)))
    c.as_slice-before.ensures whole in
    record {
      room = room_kept n _ _ c.paired.auto.seen inv.room;
      long = c.in_ok-next.ensures.long ∙ wide;
      below = subst (λ (k : ℕ). AreBelow k next) wide c.in_ok-next.ensures.below;
      same = tell_result n y c.loop-y.made next c.as_slice-after.result.now
          (λ z i. result_code m z (snapshot_at m i)) inv.same code both;
    }

pub returns : goal.returns
returns c =
    let m = c.args.m.now in
    let inv = c.loop-y.invariant in
    let all : length m.results ≤ c.loop-y.y = let a = c.loop-y-test.false in
    let b = c.len-y-end.ensures in let d = c.requires.results.wide in omega arith in
    record {
      long = inv.long;
      same = λ i j li lj. (
        λ h. same_outcomes m c.laws_below.ensures i j li lj
            (λ z lz. (inv.same i j li lj).0 h z (omega arith)),
        λ e.
            (inv.same i j li lj).1 (λ z lz. ap (λ (xs : List ℕ). slice_index xs z) e),
      );
    }
