-- Lists whose items are made from others one by one.
use Rattle.std.proofs.Common.{◌≡◌, ⊎_elim, ℕ, suc, ◌+◌, ◌<◌, List, [], ◌∷◌, map, length, slice_index, slice_set, refl, sym, ap, ◌∙◌, arith}
use Rattle.std.proofs.lemmas.Bool.{cases_eq}
use Rattle.sgraph.proofs.GraphOf.{KidNumbers, set_there}
use Rattle.sgraph.proofs.SentPlaces.{Sent}
use Rattle.polis_base.proofs.Places.{index_set, length_set}

pub is_map : (f : ℕ → ℕ) (items list : List ℕ) → length list ≡ length items
    → ((j : ℕ) → j < length items → slice_index list j ≡ f (slice_index items j))
    → list ≡ map f items
is_map f [] [] long each = refl
is_map f [] (y ∷ list) long each = absurd (omega arith)
is_map f (x ∷ items) [] long each = absurd (omega arith)
is_map f (x ∷ items) (y ∷ list) long each =
    ap (λ (n : ℕ). n ∷ list) (each 0 (omega arith))
    ∙ ap (λ (ns : List ℕ). f x ∷ ns)
    (is_map f items list (omega arith) (λ j low. each (suc j) (omega arith)))

pub kids_more : (numbers kids list new : List ℕ) (size code at n : ℕ)
    → KidNumbers numbers kids list size code → code < size → at ≡ code
    → new ≡ slice_set list at n → n ≡ slice_index numbers (slice_index kids code)
    → KidNumbers numbers kids new size (code + 1)
kids_more numbers kids list new size code at n are low at_is set is =
    let long = are.long in
    let here_set : new ≡ slice_set list code n =
    set ∙ ap (λ (k : ℕ). slice_set list k n) at_is in
    record {
      long = ap (λ (xs : List ℕ). length xs) here_set ∙ length_set list code n ∙ long;
      each = λ j before. ap (λ (xs : List ℕ). slice_index xs j) here_set
          ∙ ⊎_elim
          (λ here.
          ap (slice_index (slice_set list code n)) (sym here)
          ∙ index_set list code n (omega arith) ∙ is
          ∙ ap (λ (k : ℕ). slice_index numbers (slice_index kids k)) here)
          (λ other. set_there list code j n other
          ∙ are.each j (let apart : (code ≡ j → ⊥) = other in omega arith))
          (cases_eq code j);
    }

pub sent_more : (table places list new : List ℕ) (j n : ℕ) → Sent table places list j
    → j < length list → new ≡ slice_set list j n → n ≡ slice_index table (slice_index list j)
    → Sent table places new (j + 1)
sent_more table places list new j n are low set is =
    record {
      long = ap (λ (xs : List ℕ). length xs) set ∙ length_set list j n ∙ are.long;
      sent = λ i before. ap (λ (xs : List ℕ). slice_index xs i) set
          ∙ ⊎_elim
          (λ here.
          ap (slice_index (slice_set list j n)) (sym here) ∙ index_set list j n low ∙ is
          ∙ ap (slice_index table) (are.rest j (omega arith))
          ∙ ap (λ (k : ℕ). slice_index table (slice_index places k)) here)
          (λ other. set_there list j i n other
          ∙ are.sent i (let apart : (j ≡ i → ⊥) = other in omega arith))
          (cases_eq j i);
      rest = λ i after. ap (λ (xs : List ℕ). slice_index xs i) set
          ∙ set_there list j i n (λ same. absurd (omega arith)) ∙ are.rest i (omega arith);
    }
