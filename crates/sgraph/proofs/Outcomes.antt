-- An outcome by the codes of its results.
use Rattle.std.proofs.Common.{◌≡◌, ℕ, zero, suc, ◌+◌, ◌<◌, Bool, false, ◌==◌, List, ◌∷◌, length, take, drop, replicate, slice_set, refl, ap, sym, ◌∙◌, arith, []}
use Rattle.transition_table.specs.declared.snapshot.Outcome.{Outcome}
use Rattle.sgraph.specs.Walks.{outcome_with, width_of}

abbrev pub mk : Bool → List ℕ → List ℕ → Outcome
mk fires next outs = record { fires = fires; next = next; outs = outs }

pub take_zeros : (n more : ℕ) → take n (replicate {A = ℕ} (n + more) 0) ≡ replicate {A = ℕ} n 0
take_zeros zero more = refl
take_zeros (suc n) more =
    let e : suc n + more ≡ suc (n + more) = omega arith in
    ap (λ (k : ℕ). take (suc n) (replicate {A = ℕ} k 0)) e
    ∙ ap (λ (xs : List ℕ). 0 ∷ xs) (take_zeros n more)

pub drop_zeros : (n more : ℕ) → drop n (replicate {A = ℕ} (n + more) 0) ≡ replicate {A = ℕ} more 0
drop_zeros zero more = let e : 0 + more ≡ more = omega arith in
    ap (λ (n : ℕ). replicate {A = ℕ} n 0) e
drop_zeros (suc n) more =
    let e : suc n + more ≡ suc (n + more) = omega arith in
    ap (λ (k : ℕ). drop (suc n) (replicate {A = ℕ} k 0)) e ∙ drop_zeros n more

-- all 0
pub zeros : (n w all : ℕ) (next outs : List ℕ) → next ≡ replicate n 0 → outs ≡ replicate w 0
    → all ≡ 1 + n + w → mk false next outs ≡ outcome_with n (replicate all 0)
zeros n w all next outs is_next is_outs e =
    let f : all ≡ suc (n + w) = omega arith in
    ap (λ (xs : List ℕ). mk false xs outs) (is_next ∙ sym (take_zeros n w))
    ∙ ap (mk false (take n (replicate {A = ℕ} (n + w) 0))) (is_outs ∙ sym (drop_zeros n w))
    ∙ ap (λ (k : ℕ). outcome_with n (replicate {A = ℕ} k 0)) (sym f)

-- one more code is given
take_set : (n k code : ℕ) (xs : List ℕ) → k < n
    → take n (slice_set xs k code) ≡ slice_set (take n xs) k code
take_set zero k code xs low = absurd (omega arith)
take_set (suc n) k code [] low = refl
take_set (suc n) zero code (x ∷ xs) low = refl
take_set (suc n) (suc k) code (x ∷ xs) low =
    ap (λ (ys : List ℕ). x ∷ ys) (take_set n k code xs (omega arith))

drop_set : (n k code : ℕ) (xs : List ℕ) → k < n → drop n (slice_set xs k code) ≡ drop n xs
drop_set zero k code xs low = absurd (omega arith)
drop_set (suc n) k code [] low = refl
drop_set (suc n) zero code (x ∷ xs) low = refl
drop_set (suc n) (suc k) code (x ∷ xs) low = drop_set n k code xs (omega arith)

take_later : (n k i code : ℕ) (xs : List ℕ) → i ≡ n + k → take n (slice_set xs i code) ≡ take n xs
take_later zero k i code xs e = refl
take_later (suc n) k zero code xs e = absurd (omega arith)
take_later (suc n) k (suc i) code [] e = refl
take_later (suc n) k (suc i) code (x ∷ xs) e =
    ap (λ (ys : List ℕ). x ∷ ys) (take_later n k i code xs (omega arith))

drop_later : (n k i code : ℕ) (xs : List ℕ) → i ≡ n + k
    → drop n (slice_set xs i code) ≡ slice_set (drop n xs) k code
drop_later zero k i code xs e = let f : i ≡ k = omega arith in ap (λ (j : ℕ). slice_set xs j code) f
drop_later (suc n) k zero code xs e = absurd (omega arith)
drop_later (suc n) k (suc i) code [] e = refl
drop_later (suc n) k (suc i) code (x ∷ xs) e = drop_later n k i code xs (omega arith)

pub drop_more : (n : ℕ) (xs : List ℕ) → drop n (drop 1 xs) ≡ drop (1 + n) xs
drop_more n [] = none n ∙ sym (none (1 + n))
  where
    none : (k : ℕ) → drop {A = ℕ} k [] ≡ []
    none zero = refl
    none (suc k) = refl
drop_more n (x ∷ xs) = let e : 1 + n ≡ suc n = omega arith in
    ap (λ (k : ℕ). drop k (x ∷ xs)) (sym e)

-- where it is a state variable's
pub gave_next : (o : Outcome) (y k code : ℕ) (next : List ℕ) (codes : List ℕ)
    → length codes ≡ width_of o → o ≡ outcome_with (length o.next) codes → y ≡ 1 + k
    → k < length o.next → next ≡ slice_set o.next k code
    → mk o.fires next o.outs ≡ outcome_with (length o.next) (slice_set codes y code)
gave_next o y k code next [] long is at low e = absurd (omega arith)
gave_next o y k code next (x ∷ xs) long is at low e =
    let n = length o.next in
    let f : y ≡ suc k = omega arith in
    ap (λ (ys : List ℕ). mk o.fires ys o.outs) e
    ∙ ap (λ (p : Outcome). mk p.fires (slice_set p.next k code) p.outs) is
    ∙ ap (λ (ys : List ℕ). mk (x == 1) ys (drop n xs)) (sym (take_set n k code xs low))
    ∙ ap (mk (x == 1) (take n (slice_set xs k code))) (sym (drop_set n k code xs low))
    ∙ ap (λ (i : ℕ). outcome_with n (slice_set (x ∷ xs) i code)) (sym f)

-- where it is an output's
pub gave_out : (o : Outcome) (y k code : ℕ) (outs : List ℕ) (codes : List ℕ)
    → length codes ≡ width_of o → o ≡ outcome_with (length o.next) codes → y ≡ 1 + length o.next + k
    → outs ≡ slice_set o.outs k code → mk o.fires o.next outs
    ≡ outcome_with (length o.next) (slice_set codes y code)
gave_out o y k code outs [] long is at e = absurd (omega arith)
gave_out o y k code outs (x ∷ xs) long is at e =
    let n = length o.next in
    let i : ℕ = n + k in
    let f : y ≡ suc i = omega arith in
    ap (mk o.fires o.next) e
    ∙ ap (λ (p : Outcome). mk p.fires p.next (slice_set p.outs k code)) is
    ∙ ap (λ (ys : List ℕ). mk (x == 1) ys (slice_set (drop n xs) k code))
    (sym (take_later n k i code xs refl))
    ∙ ap (mk (x == 1) (take n (slice_set xs i code))) (sym (drop_later n k i code xs refl))
    ∙ ap (λ (j : ℕ). outcome_with n (slice_set (x ∷ xs) j code)) (sym f)
