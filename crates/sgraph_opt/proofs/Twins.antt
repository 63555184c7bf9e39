-- Vertices from which walks give the same codes are of one form, with children of which that holds.
use Rattle.std.proofs.Common.{◌≡◌, ℕ, ◌+◌, ◌<◌, true, eqb, List, ◌∷◌, length, replicate, slice_get, slice_index, slice_set, Some, refl, ap, sym, ◌∙◌, arith, get_or-set_same, get_or-set_other}
use Rattle.std.specs.Prelude.{⊤}
use Rattle.std.proofs.lemmas.Bool.{cond-true, cond-false, eq-eqb, ne_eqb}
use Rattle.domains.specs.Orders.{place}
use Rattle.domains.specs.Tables.{fits}
use Rattle.domains.proofs.Ranks.{fits_zeros, length_fits}
use Rattle.transition_table.specs.declared.machine.Machine.{Machine}
use Rattle.transition_table.proofs.Rows.{machine_sizes}
use Rattle.sgraph.specs.declared.vertex.Vertex.{Vertex}
use Rattle.sgraph.specs.declared.vertex.Vertex.TheVariants.{Test, Assign, End}
use Rattle.sgraph.specs.Graphs.{depth}
use Rattle.sgraph.proofs.EvalSteps.{got_some}
use Rattle.sgraph_opt.proofs.Depths.{Placed, child_deeper}
use Rattle.sgraph_opt.proofs.FirstCodes.{code_in}
use Rattle.sgraph_opt.proofs.LaterItems.{late_code, unmoved}
use Rattle.sgraph_opt.proofs.WalksFrom.{walk_from, step_on}
use Rattle.domains.proofs.FittingCodes.{fits_set_any}

-- walks from the two vertices give each result the same code
abbrev pub Same : Machine → List Vertex → List Vertex → ℕ → ℕ → Type 0
Same m g h k l = (s : List ℕ) → fits m.vars s ≡ true → (y : ℕ) → y < length m.results
    → code_in (walk_from g s k) y ≡ code_in (walk_from h s l) y

pub same_back : (m : Machine) (g h : List Vertex) (k l : ℕ) → Same m g h k l → Same m h g l k
same_back m g h k l same s fit y low = sym (same s fit y low)

pub same_both : (m : Machine) (f g h : List Vertex) (j k l : ℕ) → Same m f g j k → Same m g h k l
    → Same m f h j l
same_both m f g h j k l one two s fit y low = one s fit y low ∙ two s fit y low

-- of one form, with children that are the same
abbrev pub Twins : Machine → List Vertex → List Vertex → Vertex → Vertex → Type 0
Twins m g h (Test v kids) (Test w others) =
    (v ≡ w) × (length kids ≡ length others)
    × ((i : ℕ) → i < length kids → Same m g h (slice_index kids i) (slice_index others i))
Twins m g h (Assign y c next) (Assign z d other) = (y ≡ z) × (c ≡ d) × Same m g h next other
Twins m g h End End = ⊤
Twins m g h a b = ⊥

module _ (m : Machine) (order : List ℕ) (g : List Vertex) (p : Placed m order g) where
  abbrev deep : ℕ → ℕ
  deep k = depth (length m.vars) order (slice_get g k)

  var_low : (k v : ℕ) (kids : List ℕ) → slice_get g k ≡ Some (Test v kids) → v < length m.vars
  var_low k v kids is = (p.of_machine.fits_machine.tests k v kids is).0

  pub zero_fits : fits m.vars (replicate (length m.vars) 0) ≡ true
  zero_fits = fits_zeros m.vars (machine_sizes m)

  -- a snapshot that leads to a child
  pub leads_to : (k v : ℕ) (kids : List ℕ) → slice_get g k ≡ Some (Test v kids) → (i : ℕ)
      → i < length kids → (s : List ℕ) → fits m.vars s ≡ true
      → fits m.vars (slice_set s v i) ≡ true
  leads_to k v kids is i inside s fit =
      let test = p.of_machine.fits_machine.tests k v kids is in
      fits_set_any m.vars s fit v i (omega (arith, test.1, inside))

  pub child_code : (k v : ℕ) (kids : List ℕ) → slice_get g k ≡ Some (Test v kids) → (i : ℕ)
      → i < length kids → (s : List ℕ) → fits m.vars s ≡ true → (y : ℕ)
      → code_in (walk_from g s (slice_index kids i)) y
      ≡ code_in (walk_from g (slice_set s v i) k) y
  child_code k v kids is i inside s fit y =
      let t : List ℕ = slice_set s v i in
      let fit_t = leads_to k v kids is i inside s fit in
      let low = var_low k v kids is in
      let long = length_fits m.vars s fit in
      let at : slice_index t v ≡ i = get_or-set_same s v i 0 (omega (arith, long, low)) in
      let j : ℕ = slice_index kids i in
      let down = child_deeper m order g p k i (Test v kids) is inside in
      let within = p.graph.within k (Test v kids) i is inside in
      let still = unmoved m order g p v s t fit fit_t
      (λ w other. sym (get_or-set_other s v w i 0 other)) j within (omega (arith, down)) in
      let step = step_on g t k j (Test v kids) is
      (ap (λ (n : ℕ). slice_get kids n) at ∙ got_some kids i inside)
      (p.graph.above k (Test v kids) i is inside) in
      ap (λ (vs : List Vertex). code_in vs y) still
      ∙ sym (ap (λ (vs : List Vertex). code_in vs y) step)

  -- an assignment
  assign_step : (k z c next : ℕ) → slice_get g k ≡ Some (Assign z c next) → (s : List ℕ)
      → walk_from g s k ≡ Assign z c next ∷ walk_from g s next
  assign_step k z c next is s = step_on g s k next (Assign z c next) is refl
      (p.graph.above k (Assign z c next) 0 is (omega arith))

  pub own_code : (k z c next : ℕ) → slice_get g k ≡ Some (Assign z c next) → (s : List ℕ) (y : ℕ)
      → z ≡ y → code_in (walk_from g s k) y ≡ c
  own_code k z c next is s y same =
      ap (λ (vs : List Vertex). code_in vs y) (assign_step k z c next is s)
      ∙ cond-true (eqb z y) c (code_in (walk_from g s next) y) (eq-eqb z y same)

  pub other_code : (k z c next : ℕ) → slice_get g k ≡ Some (Assign z c next) → (s : List ℕ) (y : ℕ)
      → (z ≡ y → ⊥) → code_in (walk_from g s next) y ≡ code_in (walk_from g s k) y
  other_code k z c next is s y other =
      sym (cond-false (eqb z y) c (code_in (walk_from g s next) y) (ne_eqb z y other))
      ∙ sym (ap (λ (vs : List Vertex). code_in vs y) (assign_step k z c next is s))

  -- after an assignment its result is given no code
  pub next_code : (k z c next : ℕ) → slice_get g k ≡ Some (Assign z c next) → (s : List ℕ)
      → fits m.vars s ≡ true → (y : ℕ) → z ≡ y → code_in (walk_from g s next) y ≡ 0
  next_code k z c next is s fit y same =
      let down = child_deeper m order g p k 0 (Assign z c next) is (omega arith) in
      let e : place order (length m.vars + z) ≡ place order (length m.vars + y) =
      ap (λ (r : ℕ). place order (length m.vars + r)) same in
      late_code m order g p s fit next
      (p.graph.within k (Assign z c next) 0 is (omega arith)) y (omega (arith, down, e))
