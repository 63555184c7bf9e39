-- Two graphs of a deterministic machine give each result the same code.
use Rattle.std.proofs.Common.{◌≡◌, ℕ, zero, suc, ◌+◌, ◌<◌, true, cond, ◌==◌, List, [], ◌∷◌, ◌++◌, length, replicate, take, slice_index, slice_set, refl, ap, sym, ◌∙◌, arith, length-set}
use Rattle.std.proofs.lemmas.List.{get_or-replicate, get_or-take, length-replicate, take-append-drop}
use Rattle.domains.specs.Tables.{fits}
use Rattle.transition_table.specs.declared.machine.Machine.{Machine}
use Rattle.transition_table.specs.Orders.{codes_of}
use Rattle.transition_table.specs.Transitions.{IsDeterministic, reading}
use Rattle.transition_table.proofs.Determinism.{one_outcome}
use Rattle.transition_table.proofs.Ranges.{results_parts}
use Rattle.sgraph.specs.declared.vertex.Vertex.{Vertex}
use Rattle.sgraph.specs.declared.vertex.Vertex.TheVariants.{Begin, Test, Assign, End}
use Rattle.sgraph.specs.Graphs.{walk, assign_all, with_codes, Eval}
use Rattle.sgraph.proofs.EvalSteps.{there}
use Rattle.sgraph.proofs.Outcomes.{drop_more}
use Rattle.sgraph_opt.proofs.Depths.{Placed}
use Rattle.sgraph_opt.proofs.FirstCodes.{code_in, set_code}
use Rattle.sgraph_opt.proofs.LaterItems.{walks_once, code_low}
use Rattle.sgraph_opt.proofs.WalksFrom.{walk_from}

long_all : (vs : List Vertex) (codes : List ℕ) → length (assign_all codes vs) ≡ length codes
long_all [] codes = refl
long_all (Begin next ∷ vs) codes = long_all vs codes
long_all (Test var kids ∷ vs) codes = long_all vs codes
long_all (Assign result code next ∷ vs) codes =
    long_all vs (slice_set codes result code) ∙ length-set codes result code
long_all (End ∷ vs) codes = long_all vs codes

as_bit : (x : ℕ) → x < 2 → cond (x == 1) 1 0 ≡ x
as_bit zero low = refl
as_bit (suc zero) low = refl
as_bit (suc (suc x)) low = absurd (omega arith)

-- an outcome has all the codes
codes_again : (m : Machine) (codes : List ℕ) → 0 < length codes → slice_index codes 0 < 2
    → codes_of (with_codes m codes) ≡ codes
codes_again m [] some low = absurd (omega arith)
codes_again m (x ∷ xs) some low =
    let n = length m.states in
    ap (λ (rest : List ℕ). cond (x == 1) 1 0 ∷ (take n xs ++ rest)) (sym (drop_more n (x ∷ xs)))
    ∙ ap (λ (rest : List ℕ). cond (x == 1) 1 0 ∷ rest) (take-append-drop n xs)
    ∙ ap (λ (c : ℕ). c ∷ xs) (as_bit x low)

-- `go` has two codes
two_codes : (m : Machine) → (0 < length m.results) × (slice_index m.results 0 ≡ 2)
two_codes m =
    let parts = results_parts m in
    let long : length m.results ≡ 1 + length m.states + length m.outputs = parts.0 in (
      omega arith,
      sym (get_or-take (1 + length m.states) m.results 0 0 (omega arith))
          ∙ sym (ap (λ (xs : List ℕ). slice_index xs 0) parts.1),
    )

abbrev codes_by : Machine → List Vertex → List ℕ → List ℕ
codes_by m g s = assign_all (replicate (length m.results) 0) (walk g s)

module _ (m : Machine) (order : List ℕ) (g : List Vertex) (p : Placed m order g) (s : List ℕ)
    (fit : fits m.vars s ≡ true) where
  some_there : 0 < length g
  some_there = there g 0 (Begin p.graph.begin.0) p.graph.begin.1

  pub code_at : (y : ℕ) → y < length m.results
      → slice_index (codes_by m g s) y ≡ code_in (walk_from g s 0) y
  code_at y low =
      let long = length-replicate {A = ℕ} (length m.results) 0 in
      set_code (walk_from g s 0) (replicate (length m.results) 0) y
      (walks_once m order g p s fit 0 some_there) (get_or-replicate (length m.results) y 0 0 low)
      (omega (arith, long, low))

  pub told_codes : codes_of (Eval m g s) ≡ codes_by m g s
  told_codes =
      let two = two_codes m in
      let some = two.0 in
      let size = two.1 in
      let long = long_all (walk g s) (replicate (length m.results) 0) in
      let zeros = length-replicate {A = ℕ} (length m.results) 0 in
      let here = code_at 0 some in
      let low = code_low m order g p s fit 0 (omega arith) 0 some_there in
      codes_again m (codes_by m g s) (omega (arith, long, zeros, some))
      (omega (arith, here, low, size))

pub same_codes : (m : Machine) (order : List ℕ) (g h : List Vertex) → Placed m order g
    → Placed m order h → IsDeterministic m → (s : List ℕ) → fits m.vars s ≡ true → (y : ℕ)
    → y < length m.results → code_in (walk_from g s 0) y ≡ code_in (walk_from h s 0) y
same_codes m order g h pg ph sure s fit y low =
    let same = one_outcome m (reading s) (Eval m g s) (Eval m h s) sure fit
    (pg.of_machine.evaluates s fit) (ph.of_machine.evaluates s fit) in
    let all : codes_by m g s ≡ codes_by m h s =
    sym (told_codes m order g pg s fit) ∙ ap codes_of same ∙ told_codes m order h ph s fit in
    sym (code_at m order g pg s fit y low)
    ∙ ap (λ (xs : List ℕ). slice_index xs y) all
    ∙ code_at m order h ph s fit y low
