-- Bytes that a reader has left and that a writer holds, over several reads and writes.
use Rattle.std.proofs.Common.{◌≡◌, ℕ, ◌+◌, ◌≤◌, List, [], ◌++◌, length, take, Option, Some, None, refl, sym, ◌∙◌, ap, subst, arith, rules}
use Rattle.std.proofs.lemmas.List.{append_assoc, length-append, append-nil, take_at}
use Rattle.std.specs.Io.KnownBytes.{Consumes, Appends, Keeps}

pub consumed_more : (a b c : Option (List ℕ)) (xs ys : List ℕ) → Consumes a b xs → Consumes b c ys
    → Consumes a c (xs ++ ys)
consumed_more None b c xs ys first second = search rules
consumed_more (Some rs) None c xs ys first second = absurd first
consumed_more (Some rs) (Some bs) None xs ys first second = absurd second
consumed_more (Some rs) (Some bs) (Some cs) xs ys first second =
    first ∙ ap (λ zs. xs ++ zs) second ∙ sym (append_assoc xs ys cs)

pub consumed_within : (a b c : Option (List ℕ)) (xs ys : List ℕ) (n : ℕ) → Consumes a b xs
    → Consumes b c ys → length xs + length ys ≤ n
    → (bs : List ℕ) × Consumes a c bs × (length bs ≤ n)
consumed_within a b c xs ys n first second within =
    (xs ++ ys, consumed_more a b c xs ys first second, omega (arith, length-append xs ys))

pub appended_more : (a b c : Option (List ℕ)) (xs ys : List ℕ) → Appends a b xs → Appends b c ys
    → Appends a c (xs ++ ys)
appended_more None b c xs ys first second = search rules
appended_more (Some rs) None c xs ys first second = absurd first
appended_more (Some rs) (Some bs) None xs ys first second = absurd second
appended_more (Some rs) (Some bs) (Some cs) xs ys first second =
    second ∙ ap (λ zs. zs ++ ys) first ∙ append_assoc rs xs ys

pub appended_kept : (a b c : Option (List ℕ)) (xs : List ℕ) → Appends a b xs → Keeps b c
    → Appends a c xs
appended_kept None b c xs first kept = search rules
appended_kept (Some rs) None c xs first kept = absurd first
appended_kept (Some rs) (Some bs) None xs first kept = absurd kept
appended_kept (Some rs) (Some bs) (Some cs) xs first kept = kept ∙ first

pub appended_none : (a b : Option (List ℕ)) → Appends a b [] → Keeps a b
appended_none None b appended = search rules
appended_none (Some rs) None appended = absurd appended
appended_none (Some rs) (Some bs) appended = appended ∙ append-nil rs

-- what was written is a prefix of the bytes
pub appended_prefix : (a b c : Option (List ℕ)) (bytes prefix rest : List ℕ)
    → bytes ≡ prefix ++ rest → Appends a b prefix → Keeps b c → (k : ℕ) × Appends a c (take k bytes)
appended_prefix a b c bytes prefix rest is appended kept =
    let e : take (length prefix) bytes ≡ prefix = ap (take (length prefix)) is
    ∙ take_at prefix rest (length prefix) refl in (
      length prefix,
      subst (λ (zs : List ℕ). Appends a c zs) (sym e)
          (appended_kept a b c prefix appended kept),
    )
