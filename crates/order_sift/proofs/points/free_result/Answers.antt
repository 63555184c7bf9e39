use Rattle.std.proofs.Common.{◌≡◌, ◌∙◌, ◌<◌, ℕ, [], List, length, get_or, slice_index, sym, ap, subst, arith}
use Rattle.std.specs.Prelude.{◌↔◌}
use Rattle.std.proofs.lemmas.Option.{get_or_from_slice_get}
use Rattle.domains.specs.Tables.{product}
use Rattle.transition_table.specs.Computed.{result_code}
use Rattle.order_sift.specs.inner.Classes.{snapshot_at}
use Rattle.order_sift.specs.inner.Pairs.{AreBelow, ArePairs}
use Rattle.order_sift.proofs.AreClasses.{result_freed}
use Rattle.order_sift.proofs.PairedLists.{are_pairs}
use Rattle.order_sift.proofs.points.free_result.Goals.{After-as_slice-2}
use Rattle.order_sift.proofs.points.free_result.Goals as goal

pairs_here : (c : After-as_slice-2)
    → ArePairs c.as_slice.result.now c.as_slice-2.result.now c.args.seen.now
pairs_here c =
    let results = c.args.points.now.results in
    let y = c.args.y in
    let are = c.requires.prepared.results in
    are_pairs (product c.args.m.now.vars) c.as_slice.result.now c.args.classes.now
    c.as_slice-2.result.now (get_or results y []) c.args.seen.now c.as_slice.ensures
    (c.as_slice-2.ensures
    ∙ sym (get_or_from_slice_get results c.from.result c.get-codes.result.now []
    c.get-codes.ensures)
    ∙ ap (λ (k : ℕ). get_or results k []) c.from.ensures)
    c.requires.numbers.long c.requires.numbers.below (are.long y c.requires.result)
    (are.below y c.requires.result) c.requires.room c.requires.few

pub paired-requires-clause-few : goal.paired-requires-clause-few
paired-requires-clause-few c =
    (pairs_here (goal.at.paired-requires-clause-few c).After-as_slice-2).few

pub paired-requires-clause-long : goal.paired-requires-clause-long
paired-requires-clause-long c =
    (pairs_here (goal.at.paired-requires-clause-long c).After-as_slice-2).long

pub paired-requires-clause-room : goal.paired-requires-clause-room
paired-requires-clause-room c =
    (pairs_here (goal.at.paired-requires-clause-room c).After-as_slice-2).room

pub paired-requires-clause-one_below : goal.paired-requires-clause-one_below
paired-requires-clause-one_below c =
    (pairs_here (goal.at.paired-requires-clause-one_below c).After-as_slice-2).one_below

pub paired-requires-clause-other_below : goal.paired-requires-clause-other_below
paired-requires-clause-other_below c =
    (pairs_here (goal.at.paired-requires-clause-other_below c).After-as_slice-2).other_below

result_below : (from y results wide : ℕ) → y < results → from ≡ y → wide ≡ results → from < wide
result_below from y results wide low is long = omega arith

pub get-codes-requires : goal.get-codes-requires
get-codes-requires c =
    result_below c.from.result c.args.y (length c.args.m.now.results)
    (length c.args.points.now.results) c.requires.result c.from.ensures
    c.requires.prepared.results.wide

pub returns-clause-classes : goal.returns-clause-classes
returns-clause-classes c =
    let m = c.args.m.now in
    let y = c.args.y in
    let results = c.args.points.now.results in
    let ly = c.requires.result in
    let are = c.requires.prepared.results in
    let get : get_or results y [] ≡ c.get-codes.result.now =
    ap (λ k. get_or results k []) (sym c.from.ensures)
    ∙ get_or_from_slice_get results c.from.result c.get-codes.result.now []
    c.get-codes.ensures in
    let codes : c.as_slice-2.result.now ≡ get_or results y [] = c.as_slice-2.ensures ∙ sym get in
    let classes : c.as_slice.result.now ≡ c.args.classes.now = c.as_slice.ensures in
    let code = subst (λ (xs : List ℕ). (i : ℕ) → i < product m.vars
    → slice_index xs i ≡ result_code m y (snapshot_at m i)) (sym codes)
    (λ i li. are.code y i ly li) in
    let long : length c.as_slice.result.now ≡ product m.vars =
    ap (λ (xs : List ℕ). length xs) classes ∙ c.requires.numbers.long in
    let whole = subst (λ (n : ℕ). (i j : ℕ) → i < n → j < n
    → (slice_index c.in_ok-made.made i ≡ slice_index c.in_ok-made.made j)
    ↔ ((slice_index c.as_slice.result.now i ≡ slice_index c.as_slice.result.now j)
    × (slice_index c.as_slice-2.result.now i ≡ slice_index c.as_slice-2.result.now j))) long
    c.in_ok-made.ensures.same in
    let same = subst (λ (xs : List ℕ). (i j : ℕ) → i < product m.vars → j < product m.vars
    → (slice_index c.in_ok-made.made i ≡ slice_index c.in_ok-made.made j)
    ↔ ((slice_index xs i ≡ slice_index xs j)
    × (slice_index c.as_slice-2.result.now i ≡ slice_index c.as_slice-2.result.now j))) classes
    whole in
    result_freed m c.laws_below.ensures y c.args.classes.now c.as_slice-2.result.now
    c.in_ok-made.made ly code (c.in_ok-made.ensures.long ∙ long)
    (subst (λ (n : ℕ). AreBelow n c.in_ok-made.made) long c.in_ok-made.ensures.below) same

pub returns-clause-numbers : goal.returns-clause-numbers
returns-clause-numbers c =
    let long : length c.as_slice.result.now ≡ product c.args.m.now.vars =
    ap (λ (xs : List ℕ). length xs) c.as_slice.ensures ∙ c.requires.numbers.long in
    record {
      long = c.in_ok-made.ensures.long ∙ long;
      below = subst (λ (n : ℕ). AreBelow n c.in_ok-made.made) long c.in_ok-made.ensures.below;
    }
