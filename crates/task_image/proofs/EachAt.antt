-- Reading things one after the other, as a loop does.
use Rattle.std.proofs.Common.{◌≡◌, ℕ, suc, ◌-◌, ◌+◌, ◌≤◌, ◌<◌, List, [], ◌∷◌, ◌++◌, Ok, Err, refl, sym, ap, subst, ◌∙◌, append_assoc, arith}
use Rattle.std.proofs.lemmas.List.{append-nil}
use Rattle.task_image.specs.declared.fault.Stop.{Stop}
use Rattle.task_image.specs.declared.fault.Stop.TheVariants.{Bad, NoMemory}
use Rattle.task_image.specs.inner.FieldReaders.{Read, ◌>>=◌, each_at}
use Rattle.task_image.specs.inner.Gives.{Fails}

-- what was read before, and what is still read
abbrev pub with_prefix : {X : Type 0} → List X → Read (List X) → Read (List X)
with_prefix prefix read = read >>= λ x. Ok (prefix ++ x.0, x.1)

regroup : {X : Type 0} (prefix : List X) (x : X) (read : Read (List X))
    → with_prefix prefix (read >>= λ y. Ok (x ∷ y.0, y.1)) ≡ with_prefix (prefix ++ x ∷ []) read
regroup {X} prefix x (Ok y) = ap (λ (xs : List X). Ok (xs, y.1))
    (sym (append_assoc prefix (x ∷ []) y.0))
regroup prefix x (Err left) = refl

-- the first of them, and the others
one_more : {X : Type 0} (thing : ℕ → List ℕ → Read X) (prefix : List X) (k n : ℕ) (bytes : List ℕ)
    (x : X) (after : List ℕ) → thing k bytes ≡ Ok (x, after)
    → with_prefix prefix (each_at thing k (suc n) bytes)
    ≡ with_prefix (prefix ++ x ∷ []) (each_at thing (suc k) n after)
unfolding each_at
one_more {X} thing prefix k n bytes x after h =
    ap (λ (r : Read X). with_prefix prefix
    (r >>= λ first. each_at thing (suc k) n first.1 >>= λ others. Ok
    (first.0 ∷ others.0, others.1)))
    h ∙ regroup prefix x (each_at thing (suc k) n after)

pub goes_on : {X : Type 0} (thing : ℕ → List ℕ → Read X) (prefix : List X) (count i : ℕ)
    (bytes : List ℕ) (x : X) (after : List ℕ) (total : Read (List X))
    → i < count
    → thing i bytes ≡ Ok (x, after)
    → with_prefix prefix (each_at thing i (count - i) bytes) ≡ total
    → with_prefix (prefix ++ x ∷ []) (each_at thing (i + 1) (count - (i + 1)) after) ≡ total
goes_on {X} thing prefix count i bytes x after total lt h so_far =
    let k : count - i ≡ suc (count - (i + 1)) = omega arith in
    let s : suc i ≡ i + 1 = omega arith in
    subst (λ (j : ℕ). with_prefix (prefix ++ x ∷ []) (each_at thing j (count - (i + 1)) after) ≡
    total)
    s
    (sym (one_more thing prefix i (count - (i + 1)) bytes x after h)
    ∙ subst (λ (n : ℕ). with_prefix prefix (each_at thing i n bytes) ≡ total) k so_far)

stops : {X : Type 0} (thing : ℕ → List ℕ → Read X) (prefix : List X) (k n : ℕ) (bytes : List ℕ)
    (left : ℕ) → thing k bytes ≡ Err left
    → with_prefix prefix (each_at thing k (suc n) bytes) ≡ Err left
unfolding each_at
stops {X} thing prefix k n bytes left h =
    ap (λ (r : Read X). with_prefix prefix
    (r >>= λ first. each_at thing (suc k) n first.1 >>= λ others. Ok
    (first.0 ∷ others.0, others.1)))
    h

pub ends : {X : Type 0} (thing : ℕ → List ℕ → Read X) (e : Stop) (prefix : List X) (count i : ℕ)
    (bytes : List ℕ) (total : Read (List X))
    → i < count
    → Fails e (thing i bytes)
    → with_prefix prefix (each_at thing i (count - i) bytes) ≡ total
    → Fails e total
ends thing NoMemory prefix count i bytes total lt h so_far = tt
ends thing (Bad left) prefix count i bytes total lt h so_far =
    let k : count - i ≡ suc (count - (i + 1)) = omega arith in
    sym (subst (λ (n : ℕ). with_prefix prefix (each_at thing i n bytes) ≡ total) k so_far)
    ∙ stops thing prefix i (count - (i + 1)) bytes left h

none_left : {X : Type 0} (thing : ℕ → List ℕ → Read X) (prefix : List X) (k : ℕ) (bytes : List ℕ)
    → with_prefix prefix (each_at thing k 0 bytes) ≡ Ok (prefix, bytes)
unfolding each_at
none_left {X} thing prefix k bytes = ap (λ (xs : List X). Ok (xs, bytes)) (append-nil prefix)

pub is_done : {X : Type 0} (thing : ℕ → List ℕ → Read X) (prefix : List X) (count i : ℕ)
    (bytes : List ℕ) (total : Read (List X))
    → count ≤ i
    → with_prefix prefix (each_at thing i (count - i) bytes) ≡ total
    → total ≡ Ok (prefix, bytes)
is_done thing prefix count i bytes total le so_far =
    let k : count - i ≡ 0 = omega arith in
    sym (subst (λ (n : ℕ). with_prefix prefix (each_at thing i n bytes) ≡ total) k so_far)
    ∙ none_left thing prefix i bytes
