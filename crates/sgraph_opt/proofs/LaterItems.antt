-- A walk from a vertex on assigns no result and tests no variable that stands earlier in the order.
use Rattle.std.proofs.Common.{◌≡◌, ◌≢◌, inl, inr, ⊎_elim, ℕ, ◌+◌, ◌<◌, true, false, not, List, [], ◌∷◌, length, slice_get, slice_index, Some, refl, ap, sym, subst, ◌∙◌, arith}
use Rattle.std.proofs.lemmas.Bool.{and_from, or_from, ne_eqb}
use Rattle.domains.specs.Orders.{place}
use Rattle.domains.specs.Tables.{fits}
use Rattle.transition_table.specs.declared.machine.Machine.{Machine}
use Rattle.sgraph.specs.declared.vertex.Vertex.{Vertex}
use Rattle.sgraph.specs.declared.vertex.Vertex.TheVariants.{Begin, Test, Assign, End}
use Rattle.sgraph.specs.Graphs.{kids_of, depth}
use Rattle.sgraph_opt.proofs.Depths.{Placed, child_deeper}
use Rattle.sgraph_opt.proofs.FirstCodes.{code_in, assigns, is_assigned, not_again, each_once, none_code, first_below}
use Rattle.sgraph_opt.proofs.WalksFrom.{walk_from, chosen, child, Steps, steps, by_children}

not_own : (n : ℕ) (order : List ℕ) (v : Vertex) (y : ℕ)
    → place order (n + y) + 1 < depth n order (Some v) → assigns v y ≡ false
not_own n order (Begin next) y less = refl
not_own n order (Test var kids) y less = refl
not_own n order (Assign result code next) y less =
    ne_eqb result y (λ same.
    let e : place order (n + result) ≡ place order (n + y) =
    ap (λ (r : ℕ). place order (n + r)) same in
    absurd (omega arith))
not_own n order End y less = refl

-- where what comes after a vertex assigns nothing that stands before it
none_again : (n : ℕ) (order : List ℕ) (v : Vertex) (vs : List Vertex) (d : ℕ)
    → depth n order (Some v) < d
    → ((y : ℕ) → place order (n + y) + 1 < d → is_assigned vs y ≡ false) → not_again v vs ≡ true
none_again n order (Begin next) vs d less later = refl
none_again n order (Test var kids) vs d less later = refl
none_again n order (Assign result code next) vs d less later = ap not (later result less)
none_again n order End vs d less later = refl

other_chosen : (n : ℕ) (order s t : List ℕ) (v : Vertex) (x : ℕ)
    → place order x + 1 < depth n order (Some v)
    → ((w : ℕ) → w ≢ x → slice_index s w ≡ slice_index t w) → chosen s v ≡ chosen t v
other_chosen n order s t (Begin next) x less same = refl
other_chosen n order s t (Test var kids) x less same =
    same var (λ e. let f : place order var ≡ place order x = ap (place order) e in omega arith)
other_chosen n order s t (Assign result code next) x less same = refl
other_chosen n order s t End x less same = refl

no_kids : (v : Vertex) (i : ℕ) → v ≡ End → i < length (kids_of v) → ⊥
no_kids v i e low =
    let none : i < length (kids_of End) = subst (λ (w : Vertex). i < length (kids_of w)) e low in
    omega arith

module _ (m : Machine) (order : List ℕ) (g : List Vertex) (p : Placed m order g) where
  abbrev deep : ℕ → ℕ
  deep k = depth (length m.vars) order (slice_get g k)

  deeper : (k i : ℕ) (v : Vertex) → slice_get g k ≡ Some v → i < length (kids_of v)
      → depth (length m.vars) order (Some v) < deep (child v i)
  deeper k i v is inside = child_deeper m order g p k i v is inside

  -- ---- results
  abbrev Late : List ℕ → ℕ → Type 0
  Late s k =
      ((y : ℕ) → place order (length m.vars + y) + 1 < deep k
      → is_assigned (walk_from g s k) y ≡ false)
      × (each_once (walk_from g s k) ≡ true)

  late_end : (s : List ℕ) (k : ℕ) (v : Vertex) → v ≡ End → walk_from g s k ≡ v ∷ [] → Late s k
  late_end s k v e walk =
      let whole : walk_from g s k ≡ End ∷ [] = walk ∙ ap (λ (w : Vertex). w ∷ []) e in (
        λ y less. ap (λ (vs : List Vertex). is_assigned vs y) whole,
        ap each_once whole,
      )

  late_on : (s : List ℕ) (k i : ℕ) (v : Vertex) → slice_get g k ≡ Some v → i < length (kids_of v)
      → walk_from g s k ≡ v ∷ walk_from g s (child v i) → Late s (child v i) → Late s k
  late_on s k i v is inside walk later =
      let n = length m.vars in
      let down = deeper k i v is inside in
      let at : deep k ≡ depth n order (Some v) = ap (depth n order) is in
      let rest = walk_from g s (child v i) in (
        λ y less. ap (λ (vs : List Vertex). is_assigned vs y) walk
            ∙ or_from (assigns v y) (is_assigned rest y)
            (not_own n order v y (omega (arith, less, at)))
            (later.0 y (omega (arith, less, at, down))),
        ap each_once walk
            ∙ and_from (not_again v rest) (each_once rest)
            (none_again n order v rest (deep (child v i)) down later.0) later.1,
      )

  late : (s : List ℕ) → fits m.vars s ≡ true → (k : ℕ) → k < length g → Late s k
  late s fit = by_children g p.graph (Late s) (λ k v is later.
      ⊎_elim
      (λ ends. late_end s k v ends.0 ends.1)
      (λ goes. late_on s k (chosen s v) v is goes.0 goes.1 (later (chosen s v) goes.0))
      (steps m g s p.graph p.of_machine.fits_machine fit k v is))

  -- a result that stands earlier is given no code
  pub late_code : (s : List ℕ) → fits m.vars s ≡ true → (k : ℕ) → k < length g → (y : ℕ)
      → place order (length m.vars + y) + 1 < depth (length m.vars) order (slice_get g k)
      → code_in (walk_from g s k) y ≡ 0
  late_code s fit k low y less = none_code (walk_from g s k) y ((late s fit k low).0 y less)

  pub walks_once : (s : List ℕ) → fits m.vars s ≡ true → (k : ℕ) → k < length g
      → each_once (walk_from g s k) ≡ true
  walks_once s fit k low = (late s fit k low).1

  -- ---- variables
  abbrev Unmoved : ℕ → List ℕ → List ℕ → ℕ → Type 0
  Unmoved x s t k = place order x + 1 < deep k → walk_from g s k ≡ walk_from g t k

  unmoved_by : (s t : List ℕ) (k : ℕ) (v : Vertex) → Steps g s k v → Steps g t k v
      → chosen s v ≡ chosen t v
      → ((i : ℕ) → i < length (kids_of v) → walk_from g s (child v i) ≡ walk_from g t (child v i))
      → walk_from g s k ≡ walk_from g t k
  unmoved_by s t k v (inl (e, a)) (inl (f, b)) pick same = a ∙ sym b
  unmoved_by s t k v (inl (e, a)) (inr (low, b)) pick same =
      absurd (no_kids v (chosen t v) e low)
  unmoved_by s t k v (inr (low, a)) (inl (f, b)) pick same =
      absurd (no_kids v (chosen s v) f low)
  unmoved_by s t k v (inr (low, a)) (inr (there, b)) pick same =
      a
      ∙ ap (λ (vs : List Vertex). v ∷ vs) (same (chosen s v) low)
      ∙ ap (λ (i : ℕ). v ∷ walk_from g t (child v i)) pick
      ∙ sym b

  -- codes of a variable that stands earlier change nothing
  pub unmoved : (x : ℕ) (s t : List ℕ) → fits m.vars s ≡ true → fits m.vars t ≡ true
      → ((w : ℕ) → w ≢ x → slice_index s w ≡ slice_index t w) → (k : ℕ) → k < length g
      → place order x + 1 < depth (length m.vars) order (slice_get g k)
      → walk_from g s k ≡ walk_from g t k
  unmoved x s t fit_s fit_t same = by_children g p.graph (Unmoved x s t) (λ k v is later less.
      let n = length m.vars in
      let at : deep k ≡ depth n order (Some v) = ap (depth n order) is in
      unmoved_by s t k v (steps m g s p.graph p.of_machine.fits_machine fit_s k v is)
      (steps m g t p.graph p.of_machine.fits_machine fit_t k v is)
      (other_chosen n order s t v x (omega (arith, less, at)) same)
      (λ i inside.
      let down = deeper k i v is inside in
      later i inside (omega (arith, less, at, down))))

  -- ---- codes
  abbrev Low : List ℕ → ℕ → ℕ → Type 0
  Low s y k = code_in (walk_from g s k) y < slice_index m.results y

  low_on : (s : List ℕ) (y k : ℕ) (v : Vertex) (rest : List Vertex) → slice_get g k ≡ Some v
      → walk_from g s k ≡ v ∷ rest → code_in rest y < slice_index m.results y → Low s y k
  low_on s y k v rest is walk low =
      subst (λ (vs : List Vertex). code_in vs y < slice_index m.results y) (sym walk)
      (first_below v y (code_in rest y) (slice_index m.results y) low
      (λ code next e. p.of_machine.fits_machine.codes k y code next
      (is ∙ ap (λ (w : Vertex). Some w) e)))

  -- the code of a result is one of its codes
  pub code_low : (s : List ℕ) → fits m.vars s ≡ true → (y : ℕ) → 0 < slice_index m.results y
      → (k : ℕ) → k < length g → code_in (walk_from g s k) y < slice_index m.results y
  code_low s fit y some = by_children g p.graph (Low s y) (λ k v is later.
      ⊎_elim
      (λ ends. low_on s y k v [] is ends.1 some)
      (λ goes. low_on s y k v (walk_from g s (child v (chosen s v))) is goes.1
      (later (chosen s v) goes.0))
      (steps m g s p.graph p.of_machine.fits_machine fit k v is))
