-- The layout of a graph does what the graph does.
use Rattle.std.proofs.Common.{◌≡◌, ◌⊎◌, inl, inr, ⊎_elim, ℕ, zero, suc, ◌+◌, ◌<◌, ◌≤◌, Bool, false, cond, ◌==◌, List, [], ◌∷◌, map, length, replicate, slice_get, slice_index, slice_set, Option, Some, None, refl, ap, sym, ◌∙◌, arith}
use Rattle.std.proofs.lemmas.Bool.{cases_eq, eq-eqb, ne_eqb}
use Rattle.transition_table.specs.declared.machine.Machine.{Machine}
use Rattle.sgraph.specs.declared.vertex.Vertex.{Vertex}
use Rattle.sgraph.specs.declared.vertex.Vertex.TheVariants.{Begin, Test as Tests, Assign, End}
use Rattle.task_code.specs.declared.instr.Instr.{Instr}
use Rattle.task_code.specs.declared.instr.Instr.TheVariants.{Test, Set, Goto, Halt}
use Rattle.sgraph.specs.Trails.{trail}
use Rattle.sgraph.specs.Graphs.{next_of, walk, assign, assign_all, with_codes, GoesOn, Eval}
use Rattle.task_code.specs.Codes.{goes_to, executed, set_by, set_all, width, given_before, start, laid_out, Lowered, Exec}
use Rattle.task_code.proofs.LaidOut.{start_next, start_later, instr_at}
use Rattle.sgraph.proofs.Trails.{Onward, trail_at}

module _ (g : List Vertex) (s : List ℕ) (on : GoesOn g) where
  abbrev pub code : List Instr
  code = laid_out (start g) 0 g

  abbrev graph_from : Option ℕ → List ℕ → List ℕ
  graph_from at codes = assign_all codes (trail (next_of s) g 0 at)

  abbrev code_from : Option ℕ → List ℕ → List ℕ
  code_from at codes = set_all codes (trail (goes_to s) code 0 at)

  -- one instruction
  one_instr : (place : ℕ) (i : Instr) (codes : List ℕ) → slice_get code place ≡ Some i
      → Onward place (goes_to s place i)
      → code_from (Some place) codes ≡ code_from (goes_to s place i) (set_by codes i)
  one_instr place i codes is onward =
      ap (set_all codes) (trail_at (goes_to s) code 0 place place i is (omega arith) onward)

  one_vertex : (k : ℕ) (v : Vertex) (codes : List ℕ) → slice_get g k ≡ Some v
      → Onward k (next_of s k v) → graph_from (Some k) codes
      ≡ graph_from (next_of s k v) (assign codes v)
  one_vertex k v codes is onward =
      ap (assign_all codes) (trail_at (next_of s) g 0 k k v is (omega arith) onward)

  -- both go on alike from a vertex
  Alike : ℕ → Type 0
  Alike k = (codes : List ℕ) → graph_from (Some k) codes ≡ code_from (Some (start g k)) codes

  pub trail_none : {X : Type 0} (next : ℕ → X → Option ℕ) (xs : List X) (base : ℕ)
      → trail next xs base None ≡ []
  trail_none next [] base = refl
  trail_none next (x ∷ xs) base = trail_none next xs (suc base)

  pub got_map : (f : ℕ → ℕ) (xs : List ℕ) (i : ℕ)
      → ((slice_get (map f xs) i ≡ None) × (slice_get xs i ≡ None))
      ⊎ ((x : ℕ) × (slice_get (map f xs) i ≡ Some (f x)) × (slice_get xs i ≡ Some x)
      × (i < length xs) × (slice_index xs i ≡ x))
  got_map f [] i = inl (refl, refl)
  got_map f (x ∷ xs) zero = inr (x, refl, refl, omega arith, refl)
  got_map f (x ∷ xs) (suc i) =
      ⊎_elim
      (λ none. inl none)
      (λ some. inr (some.0, some.1, some.2, omega (arith, some.3), some.4))
      (got_map f xs i)

  of_test : (k var : ℕ) (kids : List ℕ) → slice_get g k ≡ Some (Tests var kids)
      → ((j : ℕ) → k < j → j < length g → Alike j) → Alike k
  unfolding Alike
  of_test k var kids is later codes =
      let zero_in : start g k + 0 ≡ start g k = omega arith in
      let instr : slice_get code (start g k) ≡ Some (Test var (map (start g) kids)) =
      ap (slice_get code) (sym zero_in) ∙ instr_at g k 0 (Tests var kids) is (omega arith) in
      ⊎_elim
      (λ none.
      one_vertex k (Tests var kids) codes is (rw none.1 tt)
      ∙ ap (λ (o : Option ℕ). graph_from o codes) none.1
      ∙ ap (assign_all codes) (trail_none (next_of s) g 0)
      ∙ sym (one_instr (start g k) (Test var (map (start g) kids)) codes instr (rw none.0 tt)
      ∙ ap (λ (o : Option ℕ). code_from o codes) none.0
      ∙ ap (set_all codes) (trail_none (goes_to s) code 0)))
      (λ some.
      let j = some.0 in
      let kid : slice_index kids (slice_index s var) ≡ j = some.4 in
      let above = on.above k (Tests var kids) (slice_index s var) is some.3 in
      let within = on.within k (Tests var kids) (slice_index s var) is some.3 in
      let far = start_later g k j (Tests var kids) is (omega arith) in
      let width_one : width k (Tests var kids) ≡ 1 = refl in
      one_vertex k (Tests var kids) codes is (rw some.2 (omega arith))
      ∙ ap (λ (o : Option ℕ). graph_from o codes) some.2
      ∙ later j (omega arith) (omega arith) codes
      ∙ sym (one_instr (start g k) (Test var (map (start g) kids)) codes instr
      (rw some.1 (omega arith)) ∙ ap (λ (o : Option ℕ). code_from o codes) some.1))
      (got_map (start g) kids (slice_index s var))

  of_assign : (k result c next : ℕ) → slice_get g k ≡ Some (Assign result c next)
      → ((j : ℕ) → k < j → j < length g → Alike j) → Alike k
  unfolding Alike
  of_assign k result c next is later codes =
      let zero_in : start g k + 0 ≡ start g k = omega arith in
      let above : k < next = on.above k (Assign result c next) 0 is (omega arith) in
      let within : next < length g = on.within k (Assign result c next) 0 is (omega arith) in
      let from = start_next g 0 k (Assign result c next) is in
      let own : 0 + k ≡ k = omega arith in
      let w_own : width (0 + k) (Assign result c next) ≡ width k (Assign result c next) =
      ap (λ (i : ℕ). width i (Assign result c next)) own in
      let vertex = one_vertex k (Assign result c next) codes is above in
      let set : List ℕ = slice_set codes result c in
      ⊎_elim
      (λ same.
      let w : width k (Assign result c next) ≡ 1 =
      ap (λ (b : Bool). cond {A = ℕ} b 1 2) (eq-eqb next (suc k) same) in
      let instr : slice_get code (start g k) ≡ Some (Set result c) =
      ap (slice_get code) (sym zero_in) ∙ instr_at g k 0 (Assign result c next) is
      (omega arith) in
      let place : suc (start g k) ≡ start g next =
      (let f : given_before 0 g next ≡ given_before 0 g (suc k) = ap (given_before 0 g) same in
      omega arith) in
      vertex
      ∙ later next above within set
      ∙ ap (λ (p : ℕ). code_from (Some p) set) (sym place)
      ∙ sym (one_instr (start g k) (Set result c) codes instr (omega arith)))
      (λ other.
      let off : (next == suc k) ≡ false = ne_eqb next (suc k) other in
      let w : width k (Assign result c next) ≡ 2 = ap (λ (b : Bool). cond {A = ℕ} b 1 2) off in
      let instr : slice_get code (start g k) ≡ Some (Set result c) =
      ap (slice_get code) (sym zero_in) ∙ instr_at g k 0 (Assign result c next) is
      (omega arith) in
      let one_in : start g k + 1 ≡ suc (start g k) = omega arith in
      let jump : slice_get code (suc (start g k)) ≡ Some (Goto (start g next)) =
      ap (slice_get code) (sym one_in)
      ∙ instr_at g k 1 (Assign result c next) is (omega arith)
      ∙ ap (λ (b : Bool). slice_get (Set result c ∷ cond b [] (Goto (start g next) ∷ [])) 1) off
      in
      let far = start_later g k next (Assign result c next) is above in
      vertex
      ∙ later next above within set
      ∙ sym (one_instr (start g k) (Set result c) codes instr (omega arith)
      ∙ one_instr (suc (start g k)) (Goto (start g next)) set jump (omega arith)))
      (cases_eq next (suc k))

  of_end : (k : ℕ) → slice_get g k ≡ Some End → Alike k
  unfolding Alike
  of_end k is codes =
      let zero_in : start g k + 0 ≡ start g k = omega arith in
      let instr : slice_get code (start g k) ≡ Some Halt =
      ap (slice_get code) (sym zero_in) ∙ instr_at g k 0 End is (omega arith) in
      one_vertex k End codes is tt
      ∙ ap (assign_all codes) (trail_none (next_of s) g 0)
      ∙ sym (one_instr (start g k) Halt codes instr tt
      ∙ ap (set_all codes) (trail_none (goes_to s) code 0))

  of_any : (k : ℕ) → 0 < k → k < length g → ((j : ℕ) → k < j → j < length g → Alike j)
      → (o : Option Vertex) → slice_get g k ≡ o → Alike k
  of_any k high low later None is = absurd (there g k low is)
    where
      there : (vs : List Vertex) (k : ℕ) → k < length vs → slice_get vs k ≡ None → ⊥
      there [] k low none = omega arith
      there (v ∷ vs) zero low none = cc
      there (v ∷ vs) (suc k) low none = there vs k (omega arith) none
  of_any k high low later (Some (Begin next)) is = absurd (let e = on.only k next is in omega arith)
  of_any k high low later (Some (Tests var kids)) is = of_test k var kids is later
  of_any k high low later (Some (Assign result c next)) is = of_assign k result c next is later
  of_any k high low later (Some End) is = of_end k is

  alike : (left k : ℕ) → 0 < k → length g ≤ k + left → k < length g → Alike k
  alike zero k high e low = absurd (omega arith)
  alike (suc left) k high e low =
      of_any k high low (λ j less inside. alike left j (omega arith) (omega arith) inside)
      (slice_get g k) refl

  -- the code gives results the codes that the walk gives them
  pub same_codes : (codes : List ℕ) → assign_all codes (walk g s)
      ≡ set_all codes (executed (laid_out (start g) 0 g) s)
  unfolding Alike
  same_codes codes =
      let one_there : 1 < length g = on.within 0 (Begin 1) 0 on.begin (omega arith) in
      let w : width (0 + 0) (Begin 1) ≡ 0 = refl in
      let from = start_next g 0 0 (Begin 1) on.begin in
      let none : given_before 0 g 0 ≡ 0 = refl in
      let e : given_before 0 g 1 ≡ 0 = omega arith in
      one_vertex 0 (Begin 1) codes on.begin (omega arith)
      ∙ alike (length g) 1 (omega arith) (omega arith) one_there codes
      ∙ ap (λ (p : ℕ). code_from (Some p) codes) e

pub lowered_same : (m : Machine) (g : List Vertex) (c : List Instr) (s : List ℕ)
    → GoesOn g → Lowered g c → Exec m c s ≡ Eval m g s
lowered_same m g c s on is =
    ap (λ (code : List Instr). with_codes m
    (set_all (replicate (length m.results) 0) (executed code s))) is
    ∙ ap (with_codes m) (sym (same_codes g s on (replicate (length m.results) 0)))
