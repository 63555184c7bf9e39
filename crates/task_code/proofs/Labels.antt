-- The words for variables and results.
use Rattle.std.proofs.Common.{◌≡◌, ℕ, zero, suc, ◌+◌, ◌-◌, ◌≤◌, List, [], ◌∷◌, ◌++◌, map, length, slice_get, Option, Some, refl, ap, sym, ◌∙◌, arith, append_assoc, codes}
use Rattle.std.specs.Prelude.{unwrap_or}
use Rattle.transition_table.specs.declared.machine.Machine.{Machine}
use Rattle.transition_table.specs.declared.network.Network.{Network}
use Rattle.transition_table.specs.declared.decl.StateDecl.{StateDecl}
use Rattle.transition_table.specs.NetworkNames.{event_name}
use Rattle.task_code.specs.Listings.{labels, label}
use Rattle.task_code.specs.inner.Labels.{result_label}
use Rattle.transition_table.proofs.Ranges.{vars_length}
use Rattle.decision_diagram.proofs.ListItems.{read_within}
use Rattle.std.proofs.lemmas.Option.{slice_get_past}
use Rattle.polis_base.proofs.Places.{get_left, get_map, length_map}

pub behind : {X : Type 0} (xs ys : List X) (i j : ℕ) → i ≡ length xs + j
    → slice_get (xs ++ ys) i ≡ slice_get ys j
behind [] ys i j e = let f : i ≡ j = omega arith in ap (slice_get ys) f
behind (x ∷ xs) ys zero j e = absurd (omega arith)
behind (x ∷ xs) ys (suc i) j e = behind xs ys i j (omega arith)

module _ (net : Network) (m : Machine) where
  abbrev pub ins : List (List ℕ)
  ins = map (λ e. codes "in " ++ event_name net e) m.inputs

  abbrev pub sts : List (List ℕ)
  sts = map (λ state. codes "st " ++ state.name) m.states

  abbrev pub tos : List (List ℕ)
  tos = map (λ state. codes "to " ++ state.name) m.states

  abbrev pub outs : List (List ℕ)
  outs = map (λ e. codes "out " ++ event_name net e) m.outputs

  abbrev words : List ℕ → Option (List ℕ) → Type 0
  words w o = unwrap_or o [] ≡ w

  grouped : labels net m ≡ ins ++ (sts ++ ((codes "go" ∷ tos) ++ outs))
  grouped = append_assoc (ins ++ sts) (codes "go" ∷ tos) outs
      ∙ append_assoc ins sts ((codes "go" ∷ tos) ++ outs)

  at_label : (i : ℕ) → label net m i
      ≡ unwrap_or (slice_get (ins ++ (sts ++ ((codes "go" ∷ tos) ++ outs))) i) []
  at_label i = ap (λ (xs : List (List ℕ)). unwrap_or (slice_get xs i) []) grouped

  pub input_words : (i e : ℕ) → slice_get m.inputs i ≡ Some e
      → label net m i ≡ codes "in " ++ event_name net e
  input_words i e is =
      let low = read_within m.inputs i e is in
      let l = length_map (λ e. codes "in " ++ event_name net e) m.inputs in
      at_label i
      ∙ ap (λ (o : Option (List ℕ)). unwrap_or o [])
      (get_left ins (sts ++ ((codes "go" ∷ tos) ++ outs)) i (omega arith)
      ∙ get_map (λ e. codes "in " ++ event_name net e) m.inputs i e is)

  pub state_words : (i k : ℕ) (state : StateDecl) → slice_get m.states k ≡ Some state
      → i ≡ length m.inputs + k → label net m i ≡ codes "st " ++ state.name
  state_words i k state is e =
      let low = read_within m.states k state is in
      let l = length_map (λ e. codes "in " ++ event_name net e) m.inputs in
      let n = length_map (λ (state : StateDecl). codes "st " ++ state.name) m.states in
      at_label i
      ∙ ap (λ (o : Option (List ℕ)). unwrap_or o [])
      (behind ins (sts ++ ((codes "go" ∷ tos) ++ outs)) i k (omega arith)
      ∙ get_left sts ((codes "go" ∷ tos) ++ outs) k (omega arith)
      ∙ get_map (λ (state : StateDecl). codes "st " ++ state.name) m.states k state is)

  at_result : (y i : ℕ) → i ≡ length m.inputs + length m.states + y
      → label net m i ≡ unwrap_or (slice_get ((codes "go" ∷ tos) ++ outs) y) []
  at_result y i e =
      let l = length_map (λ e. codes "in " ++ event_name net e) m.inputs in
      let n = length_map (λ (state : StateDecl). codes "st " ++ state.name) m.states in
      at_label i
      ∙ ap (λ (o : Option (List ℕ)). unwrap_or o [])
      (behind ins (sts ++ ((codes "go" ∷ tos) ++ outs)) i (length m.states + y) (omega arith)
      ∙ behind sts ((codes "go" ∷ tos) ++ outs) (length m.states + y) y (omega arith))

  pub same_result : (y i : ℕ) → i ≡ length m.inputs + length m.states + y
      → label net m i ≡ result_label net m y
  same_result y i e = let v = vars_length m in let f : i ≡ length m.vars + y = omega arith in
      ap (label net m) f

  pub go_words : result_label net m 0 ≡ codes "go"
  go_words = let v = vars_length m in at_result 0 (length m.vars + 0) (omega arith)

  pub to_words : (y k : ℕ) (state : StateDecl) → slice_get m.states k ≡ Some state → y ≡ 1 + k
      → result_label net m y ≡ codes "to " ++ state.name
  to_words y k state is e =
      let v = vars_length m in
      let low = read_within m.states k state is in
      let n = length_map (λ (state : StateDecl). codes "to " ++ state.name) m.states in
      let f : y ≡ suc k = omega arith in
      at_result y (length m.vars + y) (omega arith)
      ∙ ap (λ (o : Option (List ℕ)). unwrap_or o [])
      (ap (slice_get ((codes "go" ∷ tos) ++ outs)) f
      ∙ get_left tos outs k (omega arith)
      ∙ get_map (λ (state : StateDecl). codes "to " ++ state.name) m.states k state is)

  pub out_words : (y k e : ℕ) → slice_get m.outputs k ≡ Some e → y ≡ 1 + length m.states + k
      → result_label net m y ≡ codes "out " ++ event_name net e
  out_words y k e is at =
      let v = vars_length m in
      let n = length_map (λ (state : StateDecl). codes "to " ++ state.name) m.states in
      at_result y (length m.vars + y) (omega arith)
      ∙ ap (λ (o : Option (List ℕ)). unwrap_or o [])
      (behind (codes "go" ∷ tos) outs y k (omega arith)
      ∙ get_map (λ e. codes "out " ++ event_name net e) m.outputs k e is)

  pub no_words : (y : ℕ) → 1 + length m.states + length m.outputs ≤ y → result_label net m y ≡ []
  no_words y high =
      let v = vars_length m in
      let n = length_map (λ (state : StateDecl). codes "to " ++ state.name) m.states in
      let l = length_map (λ e. codes "out " ++ event_name net e) m.outputs in
      let k : ℕ = y - (1 + length m.states) in
      at_result y (length m.vars + y) (omega arith)
      ∙ ap (λ (o : Option (List ℕ)). unwrap_or o [])
      (behind (codes "go" ∷ tos) outs y k (omega arith)
      ∙ slice_get_past outs k (omega arith))

-- two texts, one after the other
pub two_texts : (old mid new a b : List ℕ) → mid ≡ old ++ a → new ≡ mid ++ b → (w : List ℕ)
    → w ≡ a ++ b → new ≡ old ++ w
two_texts old mid new a b one two w is =
    two ∙ ap (λ (xs : List ℕ). xs ++ b) one ∙ append_assoc old a b
    ∙ ap (λ (xs : List ℕ). old ++ xs) (sym is)

append_none : (xs : List ℕ) → xs ++ [] ≡ xs
append_none [] = refl
append_none (x ∷ xs) = ap (λ (ys : List ℕ). x ∷ ys) (append_none xs)

pub no_text : (old w : List ℕ) → w ≡ [] → old ≡ old ++ w
no_text old w is = sym (append_none old) ∙ ap (λ (xs : List ℕ). old ++ xs) (sym is)
