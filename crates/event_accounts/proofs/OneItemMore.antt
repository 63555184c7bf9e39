-- Lists with one item more.
use Rattle.std.specs.Prelude.{◌≡◌, ℕ, zero, suc, ◌<◌, List, [], ◌∷◌, ◌++◌, flat_map}
use Rattle.std.proofs.Common.{sym, ap, ◌∙◌, inl, inr, arith}
use Rattle.std.proofs.lemmas.List.{append-nil, append_assoc}
use Rattle.std.proofs.lemmas.Bool.{cases_lt}
use Rattle.polis_base.specs.Lists.{upto}
use Rattle.polis_base.proofs.Places.{flat_map_push}

-- what holds of the empty list, and of each list with one item more, holds of every list
pub by_end : {X : Type 0} (P : List X → Type 0) → P []
    → ((xs : List X) (x : X) → P xs → P (xs ++ x ∷ [])) → (xs : List X) → P xs
by_end {X} P none more xs = go [] xs none
  where
    go : (done rest : List X) → P done → P (done ++ rest)
    go done [] h = rw append-nil h
    go done (x ∷ rest) h =
        rw (append_assoc done (x ∷ []) rest) at (go (done ++ x ∷ []) rest (more done x h))

-- what the numbers below n give begins with what those below m give, and what m gives
pub split_at : {X : Type 0} (f : ℕ → List X) (n m : ℕ) → m < n
    → (rest : List X) × (flat_map f (upto n) ≡ flat_map f (upto m) ++ (f m ++ rest))
split_at f zero m below = absurd (omega arith)
split_at {X} f (suc n) m below =
    elim (cases_lt m n) [
      | inl inside ↦
          let front = split_at f n m inside in (
            front.0 ++ f n,
            flat_map_push f (upto n) n
                ∙ ap (λ l. l ++ f n) front.1
                ∙ append_assoc (flat_map f (upto m)) (f m ++ front.0) (f n)
                ∙ ap (λ l. flat_map f (upto m) ++ l) (append_assoc (f m) front.0 (f n)),
          )
      | inr last ↦
          let is : n ≡ m = omega arith in (
            [],
            flat_map_push f (upto n) n
                ∙ ap (λ k. flat_map f (upto k) ++ f k) is
                ∙ ap (λ l. flat_map f (upto m) ++ l) (sym (append-nil (f m))),
          )
    ]

-- one item more: what was said of the items from this one on is said of the rest
pub one_more : {X : Type 0} (now new part more rest all : List X) → new ≡ now ++ part
    → more ≡ part ++ rest → now ++ more ≡ all → new ++ rest ≡ all
one_more now new part more rest all made splits was =
    ap (λ l. l ++ rest) made ∙ append_assoc now part rest ∙ ap (λ l. now ++ l) (sym splits) ∙ was
