-- Readers of single fields.
use Rattle.std.proofs.Common.{◌≡◌, ℕ, suc, ◌+◌, ◌^◌, ◌<◌, ◌≤◌, Bool, true, false, cond, List, [], ◌∷◌, ◌++◌, length, take, drop, Ok, Err, refl, sym, ap, subst, ◌∙◌, arith, inl, inr}
use Rattle.std.specs.Prelude.{◌&&◌, nat_le}
use Rattle.std.specs.Int.{w32, from_be_bytes, to_be_bytes}
use Rattle.std.specs.List.{concat}
use Rattle.std.proofs.lemmas.Bool.{cases_lt, leb-true, le-leb}
use Rattle.std.proofs.lemmas.List.{append-nil, take_at, drop_at, take-append-drop, length-append, length-take, get_or-drop, get_or-take, get_or_past}
use Rattle.std.proofs.lemmas.Nat.{be_bytes_4, from_be_bytes-to_be_bytes_4}
use Rattle.task_image.specs.inner.FieldReaders.{Read, ◌>>=◌, byte_at, bytes_at, number_at}
use Rattle.task_image.proofs.IsReader.{IsBytes, Takes, IsReader, left_of, shorter, bind_ok, bind_err, ok_is, ok_no_err}
use Rattle.polis_base.proofs.Bools.{and_first, and_second}

guard_ok : {A : Type 0} (b : Bool) (n : ℕ) (x y : A) → cond b (Ok x) (Err n) ≡ Ok y
    → (b ≡ true) × (x ≡ y)
guard_ok true n x y e = (refl, ok_is x y e)
guard_ok false n x y e = absurd cc

guard_err : {A : Type 0} (b : Bool) (n left : ℕ) (x : A) → cond b (Ok x) (Err n) ≡ Err left
    → n ≡ left
guard_err true n left x e = absurd (ok_no_err x left e)
guard_err false n left x e = cc

-- ---- one field
module _ {X : Type 0} (write : X → List ℕ) (p : X → Type 0) (read : List ℕ → Read X)
    (takes : (bytes : List ℕ) (x : X × List ℕ) → IsBytes bytes → read bytes ≡ Ok x
    → Takes bytes (write x.0) x.1 × p x.0)
    (again : (x : X) (rest : List ℕ) → p x → read (write x ++ rest) ≡ Ok (x, rest))
    (stops : (bytes : List ℕ) (left : ℕ) → read bytes ≡ Err left → length bytes ≡ left) where
  short : (bytes : List ℕ) → IsBytes bytes → left_of (read bytes) ≤ length bytes
  short bytes fits = by (read bytes) refl
    where
      by : (r : Read X) → read bytes ≡ r → left_of r ≤ length bytes
      by (Ok x) e = shorter bytes (write x.0) x.1 (takes bytes x fits e).0
      by (Err left) e =
          let l = stops bytes left e in
          omega arith

  single_most : (bytes : List ℕ) → IsBytes bytes → (x : X) → p x → (prefix more : List (List ℕ))
      → (rest : List ℕ) → write x ∷ [] ≡ prefix ++ more → bytes ≡ concat prefix ++ rest
      → left_of (read bytes) ≤ length rest
  single_most bytes fits x ok [] more rest parts are =
      subst (λ (t : List ℕ). left_of (read bytes) ≤ length t) are (short bytes fits)
  single_most bytes fits x ok (field ∷ []) more rest parts are =
      let same : write x ≡ field = cc in
      let whole : bytes ≡ write x ++ rest =
      are ∙ ap (λ (t : List ℕ). t ++ rest) (append-nil field ∙ sym same) in
      let reads : read bytes ≡ Ok (x, rest) = ap read whole ∙ again x rest ok in
      subst (λ (r : Read X). left_of r ≤ length rest) (sym reads) (omega arith)
  single_most bytes fits x ok (field ∷ other ∷ prefix) more rest parts are = absurd cc

  single_reads : (x : X) × p x → IsReader (λ x. write x ∷ []) p read
  single_reads some = record {
    takes = λ bytes x fits e.
        let t = takes bytes x fits e in
        (subst (λ (text : List ℕ). Takes bytes text x.1) (sym (append-nil (write x.0))) t.0, t.1);
    again = λ x rest ok.
        ap (λ (text : List ℕ). read (text ++ rest)) (append-nil (write x)) ∙ again x rest ok;
    begins = λ bytes left fits e. record {
      thing = some.0;
      allowed = some.1;
      prefix = [];
      more = write some.0 ∷ [];
      parts = refl;
      rest = bytes;
      bytes_are = refl;
      long = stops bytes left e;
    };
    most = single_most;
  }

-- ---- one byte
byte_takes : (allowed : ℕ → Bool) (bytes : List ℕ) (x : ℕ × List ℕ) → IsBytes bytes
    → byte_at allowed bytes ≡ Ok x → Takes bytes (x.0 ∷ []) x.1 × (allowed x.0 ≡ true)
byte_takes allowed [] x fits e = absurd cc
byte_takes allowed (b ∷ rest) x fits e =
    let g = guard_ok (allowed b) (suc (length rest)) (b, rest) x e in
    subst (λ (y : ℕ × List ℕ). Takes (b ∷ rest) (y.0 ∷ []) y.1 × (allowed y.0 ≡ true)) g.1
    (record { parts = refl; rest_fits = λ i. fits (suc i) }, g.0)

byte_stops : (allowed : ℕ → Bool) (bytes : List ℕ) (left : ℕ) → byte_at allowed bytes ≡ Err left
    → length bytes ≡ left
byte_stops allowed [] left e = cc
byte_stops allowed (b ∷ rest) left e = guard_err (allowed b) (suc (length rest)) left (b, rest) e

pub byte_reads : (allowed : ℕ → Bool) → (b : ℕ) × (allowed b ≡ true)
    → IsReader (λ b. (b ∷ []) ∷ []) (λ b. allowed b ≡ true) (byte_at allowed)
byte_reads allowed some =
    single_reads (λ b. b ∷ []) (λ b. allowed b ≡ true) (byte_at allowed) (byte_takes allowed)
    (λ b rest p. ap (λ (t : Bool). cond t (Ok (b, rest)) (Err (suc (length rest)))) p)
    (byte_stops allowed) some

-- ---- so many bytes
drop_fits : (n : ℕ) (bytes : List ℕ) → IsBytes bytes → IsBytes (drop n bytes)
drop_fits n bytes h i = rw get_or-drop (h (n + i))

take_fits : (n : ℕ) (bytes : List ℕ) → IsBytes bytes → IsBytes (take n bytes)
take_fits n bytes h i =
    elim (cases_lt i n) [
      | inl lt ↦ rw (get_or-take n bytes i 0 lt) (h i)
      | inr le ↦ rw (get_or_past (take n bytes) i 0 (omega (arith, length-take n bytes)))
          (omega arith)
    ]

bytes_takes : (n : ℕ) (allowed : List ℕ → Bool) (bytes : List ℕ) (x : List ℕ × List ℕ)
    → IsBytes bytes → bytes_at n allowed bytes ≡ Ok x
    → Takes bytes x.0 x.1 × ((length x.0 ≡ n) × (allowed x.0 ≡ true))
bytes_takes n allowed bytes x fits e =
    let g = guard_ok (nat_le n (length bytes) && allowed (take n bytes)) (length bytes)
    (take n bytes, drop n bytes) x e in
    let long = leb-true n (length bytes) (and_first _ _ g.0) in
    subst (λ (y : List ℕ × List ℕ). Takes bytes y.0 y.1
    × ((length y.0 ≡ n) × (allowed y.0 ≡ true))) g.1 (
      record { parts = sym (take-append-drop n bytes); rest_fits = drop_fits n bytes fits },
      (omega (arith, long, length-take n bytes), and_second _ _ g.0),
    )

bytes_again : (n : ℕ) (allowed : List ℕ → Bool) (x rest : List ℕ)
    → (length x ≡ n) × (allowed x ≡ true) → bytes_at n allowed (x ++ rest) ≡ Ok (x, rest)
bytes_again n allowed x rest p =
    let long = le-leb n (length (x ++ rest)) (omega (arith, p.0, length-append x rest)) in
    rw (take_at x rest n p.0, drop_at x rest n p.0, long, p.1) refl

bytes_stops : (n : ℕ) (allowed : List ℕ → Bool) (bytes : List ℕ) (left : ℕ)
    → bytes_at n allowed bytes ≡ Err left → length bytes ≡ left
bytes_stops n allowed bytes left e =
    guard_err (nat_le n (length bytes) && allowed (take n bytes)) (length bytes) left
    (take n bytes, drop n bytes) e

pub bytes_reads : (n : ℕ) (allowed : List ℕ → Bool)
    → (b : List ℕ) × ((length b ≡ n) × (allowed b ≡ true))
    → IsReader (λ b. b ∷ []) (λ b. (length b ≡ n) × (allowed b ≡ true)) (bytes_at n allowed)
bytes_reads n allowed some =
    single_reads (λ b. b) (λ b. (length b ≡ n) × (allowed b ≡ true)) (bytes_at n allowed)
    (bytes_takes n allowed) (bytes_again n allowed) (bytes_stops n allowed) some

-- ---- four bytes
abbrev back : List ℕ → ℕ
back field = from_be_bytes w32 field

below_limit : (bytes : List ℕ) → IsBytes bytes → back bytes < 2 ^ 32
below_limit bytes fits = omega (arith, fits 0, fits 1, fits 2, fits 3)

parts_fit : (bytes x rest : List ℕ) → IsBytes bytes → bytes ≡ x ++ rest → length x ≡ 4 → IsBytes x
parts_fit bytes x rest fits e long =
    subst IsBytes (ap (take 4) e ∙ take_at x rest 4 long) (take_fits 4 bytes fits)

number_takes : (allowed : ℕ → Bool) (bytes : List ℕ) (x : ℕ × List ℕ) → IsBytes bytes
    → number_at allowed bytes ≡ Ok x
    → Takes bytes (to_be_bytes w32 x.0) x.1 × ((allowed x.0 ≡ true) × (x.0 < 2 ^ 32))
number_takes allowed bytes x fits e =
    let a = bind_ok (bytes_at 4 (λ field. allowed (back field)) bytes)
    (λ field. Ok (back field.0, field.1)) x e in
    let t = bytes_takes 4 (λ field. allowed (back field)) bytes a.0 fits a.1 in
    let f = parts_fit bytes a.0.0 a.0.1 fits t.0.parts t.1.0 in
    let same : to_be_bytes w32 (back a.0.0) ≡ a.0.0 = be_bytes_4 a.0.0 (back a.0.0) t.1.0 f refl in
    subst (λ (y : ℕ × List ℕ). Takes bytes (to_be_bytes w32 y.0) y.1
    × ((allowed y.0 ≡ true) × (y.0 < 2 ^ 32))) (ok_is (back a.0.0, a.0.1) x a.2) (
      subst (λ (text : List ℕ). Takes bytes text a.0.1) (sym same) t.0,
      (t.1.1, below_limit a.0.0 f),
    )

number_again : (allowed : ℕ → Bool) (n : ℕ) (rest : List ℕ) → (allowed n ≡ true) × (n < 2 ^ 32)
    → number_at allowed (to_be_bytes w32 n ++ rest) ≡ Ok (n, rest)
number_again allowed n rest p =
    let same = from_be_bytes-to_be_bytes_4 n p.1 in
    let again = bytes_again 4 (λ field. allowed (back field)) (to_be_bytes w32 n) rest
    (refl, ap allowed same ∙ p.0) in
    ap (λ (r : Read (List ℕ)). r >>= λ field. Ok (back field.0, field.1)) again
    ∙ ap (λ (m : ℕ). Ok (m, rest)) same

number_stops : (allowed : ℕ → Bool) (bytes : List ℕ) (left : ℕ) → number_at allowed bytes ≡ Err left
    → length bytes ≡ left
number_stops allowed bytes left e =
    elim (bind_err (bytes_at 4 (λ field. allowed (back field)) bytes)
    (λ field. Ok (back field.0, field.1)) left e) [
      | inl stops ↦ bytes_stops 4 (λ field. allowed (back field)) bytes left stops
      | inr a ↦ absurd (ok_no_err (back a.0.0, a.0.1) left a.2)
    ]

pub number_reads : (allowed : ℕ → Bool) → (n : ℕ) × ((allowed n ≡ true) × (n < 2 ^ 32))
    → IsReader (λ n. to_be_bytes w32 n ∷ []) (λ n. (allowed n ≡ true) × (n < 2 ^ 32))
    (number_at allowed)
number_reads allowed some =
    single_reads (λ n. to_be_bytes w32 n) (λ n. (allowed n ≡ true) × (n < 2 ^ 32))
    (number_at allowed) (number_takes allowed) (number_again allowed) (number_stops allowed) some
