-- What numbering begins with.
use Rattle.std.proofs.Common.{◌≡◌, ℕ, zero, suc, ◌+◌, Bool, true, cond, ◌==◌, List, ◌∷◌, ◌++◌, map, length, slice_get, Some, option_map, refl, ap, sym, ◌∙◌, arith, []}
use Rattle.std.specs.List.{list_all}
use Rattle.std.proofs.lemmas.Bool.{and_parts, false≢true}
use Rattle.std.proofs.lemmas.List.{map-append}
use Rattle.std.proofs.lemmas.Option.{slice_get-map}
use Rattle.polis_base.specs.Lists.{places_from, upto}
use Rattle.transition_table.specs.Orders.{codes_of}
use Rattle.transition_table.specs.Sources.{code_of}
use Rattle.transition_table.specs.Transitions.{code_given, codes_given, outcome_of}
use Rattle.transition_table.specs.declared.machine.Machine.{Machine}
use Rattle.transition_table.specs.declared.row.Act.{Act}
use Rattle.transition_table.specs.declared.row.Row.{Row}
use Rattle.transition_table.specs.declared.row.Source.{Source}
use Rattle.transition_table.specs.declared.row.Source.TheVariants.{Code, Input, Add}
use Rattle.outcome_table.specs.inner.Numbering.{AreRowOutcomes, BeginWithRows, is_code, is_fixed, rows_left}
use Rattle.outcome_table.proofs.ListMaps.{map_same}
use Rattle.outcome_table.proofs.RowsLeft.{all_left}
use Rattle.polis_base.proofs.Places.{length_map, map_of_map}

upto_more : (k : ℕ) → upto (suc k) ≡ 0 ∷ map suc (upto k)
upto_more zero = refl
upto_more (suc k) = ap (λ (xs : List ℕ). xs ++ suc k ∷ []) (upto_more k)
    ∙ ap (λ (xs : List ℕ). 0 ∷ xs) (sym (map-append suc (upto k) (k ∷ [])))

all_places : {X : Type 0} (n : ℕ) (xs : List X)
    → places_from n (λ (x : X). true) xs ≡ map (λ k. n + k) (upto (length xs))
all_places n [] = refl
all_places {X = X} n (x ∷ xs) =
    let first : n ≡ n + 0 = omega arith in
    ap (λ (ys : List ℕ). n ∷ ys) (all_places (n + 1) xs
    ∙ map_same (λ k. (n + 1) + k) (λ k. n + suc k) (upto (length xs)) (λ k. omega arith)
    ∙ sym (map_of_map (λ k. n + k) suc (upto (length xs))))
    ∙ ap (λ k. k ∷ map (λ k. n + k) (map suc (upto (length xs)))) first
    ∙ sym (ap (map (λ k. n + k)) (upto_more (length xs)))

map_self : (xs : List ℕ) → map (λ k. 0 + k) xs ≡ xs
map_self [] = refl
map_self (x ∷ xs) = let e : 0 + x ≡ x = omega arith in
    ap (λ k. k ∷ map (λ k. 0 + k) xs) e ∙ ap (λ (ys : List ℕ). x ∷ ys) (map_self xs)

pub all_rows : (m : Machine) (rows : List ℕ) (n : ℕ) → rows ≡ upto n → n ≡ length m.rows
    → rows ≡ rows_left m []
all_rows m rows n is whole =
    all_left m 0 rows (is ∙ ap upto whole
    ∙ sym (all_places {X = Row} 0 m.rows ∙ map_self (upto (length m.rows))))

-- ---- outcomes that no variable changes
same_source : (m : Machine) (s t : List ℕ) (y : ℕ) (source : Source) → is_code source ≡ true
    → code_of m.inputs m.vars s y source ≡ code_of m.inputs m.vars t y source
same_source m s t y (Code code) h = refl
same_source m s t y (Input v) h = absurd (false≢true h)
same_source m s t y (Add k) h = absurd (false≢true h)

-- and outcomes of actions that all take the same codes on two lists
same_given : (m : Machine) (s t : List ℕ) (p : Act → Bool)
    → ((act : Act) → p act ≡ true
    → code_of m.inputs m.vars s act.result act.source
    ≡ code_of m.inputs m.vars t act.result act.source)
    → (acts : List Act) (y : ℕ) → list_all p acts ≡ true
    → code_given m s acts y ≡ code_given m t acts y
same_given m s t p each [] y h = refl
same_given m s t p each (act ∷ acts) y h =
    let parts = and_parts (p act) (list_all p acts) h in
    ap (λ k. cond (act.result == y) k (code_given m s acts y)) (each act parts.0)
    ∙ ap (λ k. cond (act.result == y) (code_of m.inputs m.vars t act.result act.source) k)
    (same_given m s t p each acts y parts.1)

pub same_outcome : (m : Machine) (s t : List ℕ) (p : Act → Bool)
    → ((act : Act) → p act ≡ true
    → code_of m.inputs m.vars s act.result act.source
    ≡ code_of m.inputs m.vars t act.result act.source)
    → (acts : List Act) → list_all p acts ≡ true
    → codes_of (outcome_of m s true acts) ≡ codes_of (outcome_of m t true acts)
same_outcome m s t p each acts h =
    let next = map_same (λ k. code_given m s acts (1 + k)) (λ k. code_given m t acts (1 + k))
    (upto (length m.states)) (λ k. same_given m s t p each acts (1 + k) h) in
    let outs = map_same (λ k. code_given m s acts (1 + length m.states + k))
    (λ k. code_given m t acts (1 + length m.states + k)) (upto (length m.outputs))
    (λ k. same_given m s t p each acts (1 + length m.states + k) h) in
    ap (λ (xs : List ℕ). 1 ∷ (xs ++ codes_given m s acts (1 + length m.states) (length m.outputs)))
    next
    ∙ ap (λ (xs : List ℕ). 1 ∷ (codes_given m t acts 1 (length m.states) ++ xs)) outs

pub begin : (m : Machine) (s : List ℕ) (fixed : List Bool) (outcomes : List (List ℕ))
    → AreRowOutcomes m s outcomes → fixed ≡ map (λ (row : Row). list_all is_fixed row.acts) m.rows
    → BeginWithRows m fixed outcomes
begin m s fixed outcomes are is =
    let f : Row → Bool = λ (row : Row). list_all is_fixed row.acts in
    let long = are.long in
    record {
      long = ap (λ (xs : List Bool). length xs) is ∙ length_map f m.rows;
      some = omega arith;
      blank = are.blank;
      rows = λ r row at on t.
          let given : slice_get (map f m.rows) r ≡ Some (f row) =
          slice_get-map f m.rows r ∙ ap (option_map f) at in
          let told : slice_get (map f m.rows) r ≡ Some true =
          ap (λ (xs : List Bool). slice_get xs r) (sym is) ∙ on in
          let h : f row ≡ true = cc in
          are.rows r row at
          ∙ same_outcome m s t is_fixed
          (λ act fix. same_source m s t act.result act.source fix) row.acts h;
    }
