-- The graph that a diagram becomes gives the transition.
use Rattle.std.proofs.Common.{◌≡◌, ◌≢◌, ⊎_elim, ℕ, zero, suc, ◌+◌, ◌-◌, ◌<◌, true, List, [], ◌∷◌, ◌++◌, map, length, replicate, slice_get, slice_index, slice_set, Option, Some, None, refl, ap, sym, ◌∙◌, arith, eqb, get_or-set_same, get_or-set_other, get_or-drop, length-set, length-append}
use Rattle.std.proofs.lemmas.Bool.{cases_eq, cases_lt, true≢false}
use Rattle.std.proofs.lemmas.List.{length-replicate}
use Rattle.std.proofs.lemmas.Grind.{same_number_lists}
use Rattle.polis_base.proofs.Lists.{drop_prefix}
use Rattle.domains.specs.Tables.{fits}
use Rattle.transition_table.specs.declared.machine.Machine.{Machine}
use Rattle.transition_table.specs.Transitions.{Transition}
use Rattle.transition_table.specs.Transitions.{reading}
use Rattle.transition_table.proofs.SupportByTest.{char_there}
use Rattle.domains.specs.Orders.{place}
use Rattle.decision_diagram.specs.Diagrams.{Node, Diagrams, inner_at, IsNode, value_of}
use Rattle.decision_diagram.specs.Reached.{Reaches}
use Rattle.sgraph.specs.declared.vertex.Vertex.{Vertex}
use Rattle.sgraph.specs.declared.vertex.Vertex.TheVariants.{Begin, Test, Assign, End}
use Rattle.transition_table.specs.Computed.{result_codes, outcome_by}
use Rattle.sgraph.specs.Trails.{trail}
use Rattle.sgraph.specs.Graphs.{next_of, walk, assign, assign_all, Eval}
use Rattle.sgraph.specs.Built.{Built}
use Rattle.sgraph.proofs.ByRows.{IsDiagramByRows}
use Rattle.domains.proofs.Places.{place_below, place_of_item}
use Rattle.decision_diagram.proofs.Fits.{fits_at}
use Rattle.decision_diagram.proofs.Nodes.{cases_inner, inner_low, none_low}
use Rattle.decision_diagram.proofs.Values.{value_none, value_inner}
use Rattle.decision_diagram.specs.Leading.{Decided}
use Rattle.sgraph.proofs.Below.{HasResults}
use Rattle.sgraph.proofs.Decides.{decided}
use Rattle.decision_diagram.proofs.AppendedLists.{reaches_child}
use Rattle.sgraph.proofs.Trails.{Onward, trail_at}
use Rattle.sgraph.proofs.ResultCodes.{codes_back}
use Rattle.domains.proofs.Ranks.{length_fits}
use Rattle.domains.proofs.FittingCodes.{fits_both, fits_set_any}
use Rattle.polis_base.proofs.Places.{index_append}

trail_none : {X : Type 0} (next : ℕ → X → Option ℕ) (xs : List X) (base : ℕ)
    → trail next xs base None ≡ []
trail_none next [] base = refl
trail_none next (x ∷ xs) base = trail_none next xs (suc base)

pub got_map : (f : ℕ → ℕ) (xs : List ℕ) (i : ℕ) → i < length xs
    → slice_get (map f xs) i ≡ Some (f (slice_index xs i))
got_map f [] i low = absurd (omega arith)
got_map f (x ∷ xs) zero low = refl
got_map f (x ∷ xs) (suc i) low = got_map f xs i (omega arith)

-- False is true nowhere
pub not_low : (s : Diagrams) (n : ℕ) (codes : List ℕ) → value_of s n codes ≡ true → n ≢ 0
not_low s n codes h same =
    let none = inner_low s.nodes n (omega arith) in
    let e : eqb n 1 ≡ eqb 0 1 = ap (λ (k : ℕ). eqb k 1) same in
    true≢false (sym h ∙ value_none s n codes none ∙ e)

module _ (m : Machine) (s : Diagrams) (root : ℕ) (g : List Vertex) (number : ℕ → ℕ)
    (d : IsDiagramByRows m s root) (built : Built m s root g number) (snap b : List ℕ)
    (fit_b : fits s.sizes b ≡ true) (same_vars : (v : ℕ) → v < length m.vars
    → slice_index b v ≡ slice_index snap v) where
  -- what a walk from a node leaves of a result's code: the code that the list has, or what was
  -- there before, and then the node doesn't read the result
  data Left (n : ℕ) (codes after : List ℕ) (y : ℕ) : Type 0 where
    given : slice_index after y ≡ slice_index b (length m.vars + y) → Left n codes after y
    kept : slice_index after y ≡ slice_index codes y
        → ((code : ℕ) → value_of s n (slice_set b (length m.vars + y) code) ≡ value_of s n b)
        → Left n codes after y

  abbrev Leaves : ℕ → List ℕ → List ℕ → Type 0
  Leaves n codes after = (length after ≡ length m.results)
      × ((y : ℕ) → y < length m.results → Left n codes after y)

  abbrev after_walk : ℕ → List ℕ → List ℕ
  after_walk n codes = assign_all codes (trail (next_of snap) g 0 (Some (number n)))

  -- a vertex and its walk
  one_step : (n kid : ℕ) (v : Vertex) (codes : List ℕ) → slice_get g (number n) ≡ Some v
      → next_of snap (number n) v ≡ Some (number kid) → number n < number kid
      → after_walk n codes ≡ after_walk kid (assign codes v)
  one_step n kid v codes is next on =
      let onward : Onward (number n) (next_of snap (number n) v) = rw next on in
      ap (assign_all codes)
      (trail_at (next_of snap) g 0 (number n) (number n) v is (omega arith) onward)
      ∙ ap (λ o. assign_all (assign codes v) (trail (next_of snap) g 0 o)) next

  -- the child that the list leads to
  kid_low : (n : ℕ) (node : Node) → inner_at s.nodes n ≡ Some node
      → slice_index b node.var < length node.kids
  kid_low n node is =
      let good = d.reduced.nodes n node is in
      let var : node.var < length s.sizes = good.var in
      let kids : length node.kids ≡ slice_index s.sizes node.var = good.kids in
      let at = fits_at s.sizes b fit_b node.var var in
      omega arith

  kid_value : (n : ℕ) (node : Node) → inner_at s.nodes n ≡ Some node
      → value_of s n b ≡ value_of s (slice_index node.kids (slice_index b node.var)) b
  kid_value n node is = value_inner s d.reduced n node b is (kid_low n node is)

  -- what the child doesn't read the node doesn't, where its variable is another
  unread : (n : ℕ) (node : Node) (w : ℕ) → inner_at s.nodes n ≡ Some node → node.var ≢ w
      → ((code : ℕ) → value_of s (slice_index node.kids (slice_index b node.var))
      (slice_set b w code) ≡ value_of s (slice_index node.kids (slice_index b node.var)) b)
      → (code : ℕ) → value_of s n (slice_set b w code) ≡ value_of s n b
  unread n node w is other below code =
      let own : slice_index (slice_set b w code) node.var ≡ slice_index b node.var =
      get_or-set_other b w node.var code 0 other in
      let low = kid_low n node is in
      value_inner s d.reduced n node (slice_set b w code) is (omega arith)
      ∙ ap (λ (k : ℕ). value_of s (slice_index node.kids k) (slice_set b w code)) own
      ∙ below code
      ∙ sym (kid_value n node is)

  -- a test leaves what the walk from its child does
  through_test : (n : ℕ) (node : Node) (codes : List ℕ) → inner_at s.nodes n ≡ Some node
      → node.var < length m.vars → Reaches s root n → value_of s n b ≡ true
      → Leaves (slice_index node.kids (slice_index b node.var)) codes
      (after_walk (slice_index node.kids (slice_index b node.var)) codes)
      → Leaves n codes (after_walk n codes)
  through_test n node codes is var there holds rest =
      let c = slice_index b node.var in
      let kid = slice_index node.kids c in
      let low = kid_low n node is in
      let some = not_low s kid b (sym (kid_value n node is) ∙ holds) in
      let next : slice_get (map number node.kids) (slice_index snap node.var) ≡ Some (number kid) =
      ap (slice_get (map number node.kids)) (sym (same_vars node.var var))
      ∙ got_map number node.kids c low in
      let e : after_walk n codes ≡ after_walk kid codes =
      one_step n kid (Test node.var (map number node.kids)) codes
      (built.test n node there is var) next (built.onward n node c there is low some) in
      rw e (rest.0, λ y hy. go y hy (rest.1 y hy))
    where
      go : (y : ℕ) → y < length m.results
          → Left (slice_index node.kids (slice_index b node.var)) codes
          (after_walk (slice_index node.kids (slice_index b node.var)) codes) y
          → Left n codes (after_walk (slice_index node.kids (slice_index b node.var)) codes) y
      go y hy (given same) = given same
      go y hy (kept same below) =
          kept same (unread n node (length m.vars + y) is (λ e. absurd (omega arith)) below)

  -- an assignment gives its result's code
  through_assign : (n : ℕ) (node : Node) (y0 : ℕ) (codes : List ℕ) → length codes ≡ length m.results
      → inner_at s.nodes n ≡ Some node → node.var ≡ length m.vars + y0 → y0 < length m.results
      → Reaches s root n → value_of s n b ≡ true
      → Leaves (slice_index node.kids (slice_index b node.var))
      (slice_set codes y0 (slice_index b node.var))
      (after_walk (slice_index node.kids (slice_index b node.var))
      (slice_set codes y0 (slice_index b node.var))) → Leaves n codes (after_walk n codes)
  through_assign n node y0 codes long is var hy0 there holds rest =
      let c = slice_index b node.var in
      let kid = slice_index node.kids c in
      let low = kid_low n node is in
      let some = not_low s kid b (sym (kid_value n node is) ∙ holds) in
      let e : after_walk n codes ≡ after_walk kid (slice_set codes y0 c) =
      one_step n kid (Assign y0 c (number kid)) codes
      (built.assign n node y0 c there is var low some) refl
      (built.onward n node c there is low some) in
      rw e (rest.0, λ y hy. go y hy (rest.1 y hy))
    where
      go : (y : ℕ) → y < length m.results
          → Left (slice_index node.kids (slice_index b node.var))
          (slice_set codes y0 (slice_index b node.var))
          (after_walk (slice_index node.kids (slice_index b node.var))
          (slice_set codes y0 (slice_index b node.var))) y
          → Left n codes (after_walk (slice_index node.kids (slice_index b node.var))
          (slice_set codes y0 (slice_index b node.var))) y
      go y hy (given same) = given same
      go y hy (kept same below) =
          ⊎_elim
          (λ own.
          let f : node.var ≡ length m.vars + y = omega arith in
          given (same ∙ ap (slice_index (slice_set codes y0 (slice_index b node.var))) own
          ∙ get_or-set_same codes y0 (slice_index b node.var) 0 (omega arith)
          ∙ ap (slice_index b) f))
          (λ other. kept (same ∙ get_or-set_other codes y0 y (slice_index b node.var) 0 other)
          (unread n node (length m.vars + y) is (λ e. other (let f : y ≡ y0 = omega arith in f))
          below))
          (cases_eq y y0)

  sizes_long : length s.sizes ≡ length m.vars + length m.results
  sizes_long = ap (λ (xs : List ℕ). length xs) d.sizes ∙ length-append m.vars m.results

  -- the end leaves all as it is
  at_end : (n : ℕ) (codes : List ℕ) → length codes ≡ length m.results → inner_at s.nodes n ≡ None
      → n ≡ 1 → Leaves n codes (after_walk n codes)
  at_end n codes long none one =
      let is : slice_get g (number n) ≡ Some End =
      ap (λ (k : ℕ). slice_get g (number k)) one ∙ built.end in
      let e : after_walk n codes ≡ codes =
      ap (assign_all codes)
      (trail_at (next_of snap) g 0 (number n) (number n) End is (omega arith) tt)
      ∙ ap (λ (vs : List Vertex). assign_all codes (End ∷ vs))
      (trail_none (next_of snap) g 0) in
      rw e (
        long,
        λ y hy.
            kept refl (λ code. value_none s n (slice_set b (length m.vars + y) code) none
            ∙ sym (value_none s n b none)),
      )

  walks : (bound n : ℕ) (codes : List ℕ) → n < bound → length codes ≡ length m.results → IsNode s n
      → value_of s n b ≡ true → Reaches s root n → Leaves n codes (after_walk n codes)
  walks zero n codes less long in_n holds there = absurd (omega arith)
  walks (suc bound) n codes less long in_n holds there =
      ⊎_elim
      (λ none.
      let low = none_low s.nodes n in_n none in
      at_end n codes long none
      (⊎_elim (λ z. absurd (not_low s n b holds z)) (λ nz. omega arith) (cases_eq n 0)))
      (λ some.
      let node = some.0 in
      let is : inner_at s.nodes n ≡ Some node = some.1 in
      let c = slice_index b node.var in
      let low = kid_low n node is in
      let good = d.reduced.nodes n node is in
      let before : slice_index node.kids c < n = good.before c low in
      let var : node.var < length s.sizes = good.var in
      let size = sizes_long in
      let true_kid = sym (kid_value n node is) ∙ holds in
      let there_kid = reaches_child s root n node c there is low in
      ⊎_elim
      (λ test. through_test n node codes is test there holds
      (walks bound (slice_index node.kids c) codes (omega arith) long (omega arith) true_kid
      there_kid))
      (λ result.
      let y0 : ℕ = node.var - length m.vars in
      let e : node.var ≡ length m.vars + y0 = omega arith in
      through_assign n node y0 codes long is e (omega arith) there holds
      (walks bound (slice_index node.kids c) (slice_set codes y0 c) (omega arith)
      (length-set codes y0 c ∙ long) (omega arith) true_kid there_kid))
      (cases_lt node.var (length m.vars)))
      (cases_inner s.nodes n)

  -- the root reads each result, since where it is true each has one code
  root_reads : HasResults m → (y : ℕ) → y < length m.results → value_of s root b ≡ true
      → ((code : ℕ) → value_of s root (slice_set b (length m.vars + y) code) ≡ value_of s root b)
      → ⊥
  root_reads has y hy holds same =
      let w = length m.vars + y in
      let long = length_fits s.sizes b fit_b in
      let size = sizes_long in
      let two = has.two y hy in
      let own : slice_index s.sizes w ≡ slice_index m.results y =
      ap (λ (xs : List ℕ). slice_index xs w) d.sizes ∙ after_prefix m.vars m.results y in
      ⊎_elim
      (λ zero_there. turned w 1 (omega arith) (omega arith) (omega arith))
      (λ more. turned w 0 (omega arith) (omega arith) (λ e. more e))
      (cases_eq (slice_index b w) 0)
    where
      after_prefix : (xs ys : List ℕ) (y : ℕ)
          → slice_index (xs ++ ys) (length xs + y) ≡ slice_index ys y
      after_prefix [] ys y = let e : 0 + y ≡ y = omega arith in ap (slice_index ys) e
      after_prefix (x ∷ xs) ys y = let e : suc (length xs) + y ≡ suc (length xs + y) =
          omega arith in ap (slice_index (x ∷ (xs ++ ys))) e ∙ after_prefix xs ys y

      turned : (w code : ℕ) → w ≡ length m.vars + y → code < slice_index s.sizes w
          → slice_index b w ≢ code → ⊥
      turned w code is low other =
          let long : length b ≡ length s.sizes = length_fits s.sizes b fit_b in
          let size = sizes_long in
          let set : List ℕ = slice_set b w code in
          let fit = fits_set_any s.sizes b fit_b w code low in
          let there : slice_index set w ≡ code = get_or-set_same b w code 0 (omega arith) in
          let fixed : Decided s root w = rw is (decided m has.below s root y d hy) in
          let e : value_of s root set ≡ true =
          ap (λ (k : ℕ). value_of s root (slice_set b k code)) is ∙ same code ∙ holds in
          let lengths : length s.order ≡ length s.sizes = d.reduced.lengths in
          let inside : place s.order w < length s.order =
          place_below s.order d.reduced.order w (omega arith) in
          other (fixed b set fit_b fit holds e
          (λ j before. sym (get_or-set_other b w (slice_index s.order j) code 0 (λ at.
          let own = place_of_item s.order d.reduced.order j (omega arith) in
          let f = ap (place s.order) at in
          absurd (omega arith)))) ∙ there)

  settled : HasResults m → value_of s root b ≡ true → (codes after : List ℕ) (y : ℕ)
      → y < length m.results → Left root codes after y
      → slice_index after y ≡ slice_index b (length m.vars + y)
  settled has holds codes after y hy (given same) = same
  settled has holds codes after y hy (kept same below) = absurd (root_reads has y hy holds below)

-- ---- the whole walk
at_back : (xs ys : List ℕ) (n y : ℕ) → n ≡ length xs
    → slice_index (xs ++ ys) (n + y) ≡ slice_index ys y
at_back xs ys n y e = sym (get_or-drop n (xs ++ ys) y 0)
    ∙ ap (λ (zs : List ℕ). slice_index zs y) (drop_prefix xs ys n e)

pub walk_codes : (m : Machine) (s : Diagrams) (root : ℕ) (g : List Vertex) (number : ℕ → ℕ)
    → IsDiagramByRows m s root → Built m s root g number → HasResults m → (snap : List ℕ)
    → fits m.vars snap ≡ true → assign_all (replicate (length m.results) 0) (walk g snap)
    ≡ result_codes m snap
walk_codes m s root g number d built has snap fit =
    let n = length m.vars in
    let results : List ℕ = result_codes m snap in
    let b : List ℕ = snap ++ results in
    let zeros : List ℕ = replicate (length m.results) 0 in
    let long_snap : length snap ≡ n = length_fits m.vars snap fit in
    let long_results : length results ≡ length m.results =
    length_fits m.results results (has.fit snap fit) in
    let fit_b : fits s.sizes b ≡ true =
    rw d.sizes (fits_both m.vars m.results snap results fit (has.fit snap fit)) in
    let same_vars : (v : ℕ) → v < n → slice_index b v ≡ slice_index snap v =
    λ v low. index_append snap results v (omega arith) in
    let holds : value_of s root b ≡ true = d.means.value b fit_b ∙ char_there m snap long_snap in
    let begins : assign_all zeros (walk g snap)
    ≡ after_walk m s root g number d built snap b fit_b same_vars root zeros =
    ap (assign_all zeros)
    (trail_at (next_of snap) g 0 0 0 (Begin (number root)) built.begin (omega arith)
    built.first)
    in
    let all = walks m s root g number d built snap b fit_b same_vars (suc root) root zeros
    (omega arith) (length-replicate (length m.results) 0) d.means.node holds (0, refl) in
    begins
    ∙ same_number_lists (after_walk m s root g number d built snap b fit_b same_vars root zeros)
    results (all.0 ∙ sym long_results) (λ y low.
    let inside : y < length m.results = omega (arith, all.0) in
    settled m s root g number d built snap b fit_b same_vars has holds zeros
    (after_walk m s root g number d built snap b fit_b same_vars root zeros) y inside
    (all.1 y inside)
    ∙ at_back snap results n y (sym long_snap))

-- A graph that a diagram became gives the transition on each snapshot.
pub built_evaluates : (m : Machine) (s : Diagrams) (root : ℕ) (g : List Vertex) (number : ℕ → ℕ)
    → IsDiagramByRows m s root → Built m s root g number → HasResults m → (snap : List ℕ)
    → fits m.vars snap ≡ true → Transition m (reading snap) (Eval m g snap)
built_evaluates m s root g number d built has snap fit =
    let o = outcome_by m m.rows snap in
    let moves = has.below.by_rows m snap in
    rw (
      walk_codes m s root g number d built has snap fit,
      codes_back m o (has.below.widths m (reading snap) o moves).next,
    ) moves
