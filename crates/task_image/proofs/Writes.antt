-- Bytes that are put at the end, piece by piece.
use Rattle.std.proofs.Common.{◌≡◌, ℕ, zero, suc, ◌+◌, ◌<◌, ◌≤◌, List, [], ◌∷◌, ◌++◌, length, take, drop, Option, Some, None, Result, Ok, Err, refl, sym, ap, subst, ◌∙◌, append_assoc, arith}
use Rattle.std.specs.Prelude.{slice_get, slice_index, IsSomeAnd, ◌^◌, codes}
use Rattle.std.specs.List.{flat_map}
use Rattle.std.proofs.lemmas.List.{append-nil, length-append, take-append-drop}
use Rattle.std.proofs.lemmas.List.Concat.{flat_map-append}
use Rattle.task_image.specs.declared.fault.EncodeError.{EncodeError}
use Rattle.task_image.specs.declared.fault.EncodeError.TheVariants.{TooLong, NoMemory}
use Rattle.std.proofs.lemmas.Option.{slice_get-get_or, slice_get_within}
use Rattle.polis_base.specs.declared.limits.TheConstants.{LONG_FILE_MAX}
use Rattle.task_code.specs.declared.instr.Instr.{Instr}
use Rattle.task_code.specs.declared.instr.Instr.TheVariants.{Test, Set, Goto, Halt}
use Rattle.task_image.specs.declared.image.Head.{Head}
use Rattle.task_image.specs.declared.image.ImageMachine.{ImageMachine}
use Rattle.task_image.specs.Encoding.{Encodes}
use Rattle.task_image.specs.Fields.{four_bytes}
use Rattle.task_image.specs.inner.Pieces.{instr_bytes, counted, code_bytes, machine_bytes, image_bytes}
use Rattle.task_image.specs.inner.Heads.{machine_of}
use Rattle.task_image.specs.Images.{IsImage, IsImageMachine, head_of}
use Rattle.task_image.specs.inner.Puts.{Writes, Written, HasBytes}
use Rattle.task_image.proofs.Pieces.{bytes_of_image}
use Rattle.task_image.proofs.Prefixes.{take_next}
use Rattle.polis_base.proofs.Places.{some_is, take_whole}

-- after some bytes others are put
pub writes_then : (r : Result (Unit {0}) EncodeError) (old mid new a b : List ℕ)
    → mid ≡ old ++ a → Writes r mid new b → Writes r old new (a ++ b)
writes_then (Ok done) old mid new a b e w =
    (w.0 ∙ ap (λ (xs : List ℕ). xs ++ b) e ∙ append_assoc old a b, w.1)
writes_then (Err TooLong) old mid new a b e w =
    subst (λ (xs : List ℕ). LONG_FILE_MAX < length xs)
    (ap (λ (xs : List ℕ). xs ++ b) e ∙ append_assoc old a b) w
writes_then (Err NoMemory) old mid new a b e w = tt

-- where the first are too many, so are all
pub writes_stops : (e : EncodeError) (old one two a b : List ℕ)
    → Writes (Err e) old one a → Writes (Err e) old two (a ++ b)
writes_stops TooLong old one two a b w =
    let l : length (old ++ (a ++ b)) ≡ length (old ++ a) + length b =
    ap length (sym (append_assoc old a b)) ∙ length-append (old ++ a) b in
    omega (arith, l, w)
writes_stops NoMemory old one two a b w = tt

-- ---- things one after the other
-- what the first so many of them give stands after what was there
pub record ArePut {X : Type 0} (f : X → List ℕ) (base : List ℕ) (xs : List X) (n : ℕ)
    (out : List ℕ) : Type 0 where
  pub is : out ≡ base ++ flat_map f (take n xs)
  pub within : length out ≤ LONG_FILE_MAX

more : {X : Type 0} (f : X → List ℕ) (xs : List X) (i : ℕ) (x : X) → slice_get xs i ≡ Some x
    → flat_map f (take (suc i) xs) ≡ flat_map f (take i xs) ++ f x
more {X} f xs i x e =
    ap (flat_map f) (take_next xs i x e)
    ∙ flat_map-append f (take i xs) (x ∷ [])
    ∙ ap (λ (b : List ℕ). flat_map f (take i xs) ++ b) (append-nil (f x))

pub put_next : {X : Type 0} (f : X → List ℕ) (base : List ℕ) (xs : List X) (i : ℕ) (x : X)
    (out new : List ℕ) → slice_get xs i ≡ Some x → ArePut f base xs i out
    → (new ≡ out ++ f x) × (length new ≤ LONG_FILE_MAX) → ArePut f base xs (i + 1) new
put_next f base xs i x out new e put w =
    let s : suc i ≡ i + 1 = omega arith in
    subst (λ (n : ℕ). ArePut f base xs n new) s
    (record {
      is = w.0 ∙ ap (λ (b : List ℕ). b ++ f x) put.is
          ∙ append_assoc base (flat_map f (take i xs)) (f x)
          ∙ ap (λ (b : List ℕ). base ++ b) (sym (more f xs i x e));
      within = w.1;
    })

pub put_stops : {X : Type 0} (e : EncodeError) (f : X → List ℕ) (base : List ℕ) (xs : List X)
    (i : ℕ) (x : X) (out one two : List ℕ) → slice_get xs i ≡ Some x → ArePut f base xs i out
    → Writes (Err e) out one (f x) → Writes (Err e) base two (flat_map f xs)
put_stops {X} e f base xs i x out one two there put w =
    let whole : flat_map f (take (suc i) xs) ++ flat_map f (drop (suc i) xs) ≡ flat_map f xs =
    sym (flat_map-append f (take (suc i) xs) (drop (suc i) xs))
    ∙ ap (flat_map f) (take-append-drop (suc i) xs) in
    subst (λ (b : List ℕ). Writes (Err e) base two b) whole
    (writes_stops e base one two (flat_map f (take (suc i) xs)) (flat_map f (drop (suc i) xs))
    (subst (λ (b : List ℕ). Writes (Err e) base one b) (sym (more f xs i x there))
    (writes_then (Err e) base out one (flat_map f (take i xs)) (f x) put.is w)))

pub put_done : {X : Type 0} (f : X → List ℕ) (base : List ℕ) (xs : List X) (n : ℕ)
    (out : List ℕ) → length xs ≤ n → ArePut f base xs n out
    → (out ≡ base ++ flat_map f xs) × (length out ≤ LONG_FILE_MAX)
put_done {X} f base xs n out le put =
    (put.is ∙ ap (λ (ys : List X). base ++ flat_map f ys) (take_whole xs n le), put.within)

-- ---- sizes, code, machines
singles : (xs : List ℕ) → flat_map (λ x. x ∷ []) xs ≡ xs
singles [] = refl
singles (x ∷ xs) = ap (λ (ys : List ℕ). x ∷ ys) (singles xs)

pub sized_stops : (e : EncodeError) (old sizes : List ℕ) (i x : ℕ) (out one two : List ℕ)
    → slice_get sizes i ≡ Some x → ArePut (λ b. b ∷ []) (old ++ length sizes ∷ []) sizes i out
    → Writes (Err e) out one (x ∷ []) → Writes (Err e) old two (counted sizes)
sized_stops e old sizes i x out one two there put w =
    subst (λ (b : List ℕ). Writes (Err e) old two (length sizes ∷ b)) (singles sizes)
    (writes_then (Err e) old (old ++ length sizes ∷ []) two (length sizes ∷ [])
    (flat_map (λ b. b ∷ []) sizes) refl
    (put_stops e (λ b. b ∷ []) (old ++ length sizes ∷ []) sizes i x out one two there put w))

pub sized_done : (old sizes : List ℕ) (n : ℕ) (out : List ℕ) → length sizes ≤ n
    → ArePut (λ b. b ∷ []) (old ++ length sizes ∷ []) sizes n out
    → (out ≡ old ++ counted sizes) × (length out ≤ LONG_FILE_MAX)
sized_done old sizes n out le put =
    let d = put_done (λ b. b ∷ []) (old ++ length sizes ∷ []) sizes n out le put in (
      d.0 ∙ append_assoc old (length sizes ∷ []) (flat_map (λ b. b ∷ []) sizes)
          ∙ ap (λ (b : List ℕ). old ++ length sizes ∷ b) (singles sizes),
      d.1,
    )

pub code_stops : (e : EncodeError) (old : List ℕ) (c : List Instr) (k : ℕ) (i : Instr)
    (out one two : List ℕ) → slice_get c k ≡ Some i
    → ArePut instr_bytes (old ++ four_bytes (length c)) c k out
    → Writes (Err e) out one (instr_bytes i) → Writes (Err e) old two (code_bytes c)
code_stops e old c k i out one two there put w =
    writes_then (Err e) old (old ++ four_bytes (length c)) two (four_bytes (length c))
    (flat_map instr_bytes c) refl
    (put_stops e instr_bytes (old ++ four_bytes (length c)) c k i out one two there put w)

instr_some : (i : Instr) → 1 ≤ length (instr_bytes i)
instr_some Halt = omega arith
instr_some (Test var targets) = omega arith
instr_some (Set result code) = omega arith
instr_some (Goto target) = omega arith

instrs_long : (c : List Instr) → length c ≤ length (flat_map instr_bytes c)
instrs_long [] = omega arith
instrs_long (i ∷ c) =
    let l = length-append (instr_bytes i) (flat_map instr_bytes c) in
    let some = instr_some i in
    let rest = instrs_long c in
    omega (arith, l, some, rest)

pub code_long : (c : List Instr) → length c ≤ length (code_bytes c)
code_long c =
    let l = length-append (four_bytes (length c)) (flat_map instr_bytes c) in
    let rest = instrs_long c in
    omega (arith, l, rest)

pub code_too_long : (old : List ℕ) (c : List Instr) (two : List ℕ) → LONG_FILE_MAX < length c
    → Writes (Err TooLong) old two (code_bytes c)
code_too_long old c two lt =
    let l = length-append old (code_bytes c) in
    let long = code_long c in
    omega (arith, l, long)

within_code : (c : List Instr) (t : ℕ) → length c < 2 ^ 32 → t < length c → t < 2 ^ 32
within_code c t few lt = omega arith

pub has_bytes : (m : ImageMachine) → IsImageMachine m → length m.code < 2 ^ 32
    → (k : ℕ) (i : Instr) → slice_get m.code k ≡ Some i → HasBytes i
has_bytes m is few k Halt e = tt
has_bytes m is few k (Test var targets) e =
    let test = is.code.tests k var targets e in
    let fits = is.code.code.each k (Test var targets) e in
    let vars = is.few_vars in (
      omega (arith, test.0, vars),
      λ j t at.
          let within : j < length targets = slice_get_within targets j t at in
          within_code m.code t few (subst (λ (n : ℕ). n < length m.code)
          (some_is (slice_index targets j) t (sym (slice_get-get_or targets j 0 within) ∙ at))
          (fits.1 j within).1),
    )
has_bytes m is few k (Set result code) e =
    let set = is.code.sets k result code e in
    let results = is.few_results in
    omega (arith, set.0, results)
has_bytes m is few k (Goto target) e =
    within_code m.code target few (is.code.code.each k (Goto target) e).1

-- a machine of an image by its head and its code
pub machine_at : (o : Option ImageMachine) (h : Head) (c : List Instr)
    → IsSomeAnd o (λ m. head_of m ≡ h) → IsSomeAnd o (λ m. m.code ≡ c) → o ≡ Some (machine_of h c)
machine_at None h c p q = absurd p
machine_at (Some m) h c p q =
    λ i. Some (record {
      name = (p i).name;
      vars = (p i).vars;
      results = (p i).results;
      code = q i;
    })

member_short : (i : List ImageMachine) (k : ℕ) (m : ImageMachine) → slice_get i k ≡ Some m
    → length m.code ≤ length (flat_map machine_bytes i)
member_short [] k m e = absurd (none_is e)
  where
    none_is : None ≡ Some m → ⊥
    none_is e = cc
member_short (a ∷ i) zero m e =
    let same : a ≡ m = some_is a m e in
    let l = length-append (machine_bytes a) (flat_map machine_bytes i) in
    let long = code_long a.code in
    let n = length-append a.name (counted a.vars ++ (counted a.results ++ code_bytes a.code)) in
    let v = length-append (counted a.vars) (counted a.results ++ code_bytes a.code) in
    let r = length-append (counted a.results) (code_bytes a.code) in
    subst (λ (b : ImageMachine). length b.code ≤ length
    (machine_bytes a ++ flat_map machine_bytes i))
    same (omega (arith, l, long, n, v, r))
member_short (a ∷ i) (suc k) m e =
    let l = length-append (machine_bytes a) (flat_map machine_bytes i) in
    let rest = member_short i k m e in
    omega (arith, l, rest)

pub encodes : (i : List ImageMachine) (r : Result (List ℕ) EncodeError) → IsImage i → Written i r
    → Encodes i r
encodes i (Ok out) is w =
    let long = ap length w.0 in
    let le = w.1 in (
      record {
        image = is;
        counts = λ k m at.
            let short = member_short i k m at in
            omega (arith, short, long, le);
        bytes_are = w.0 ∙ sym (bytes_of_image i);
      },
      le,
    )
encodes i (Err TooLong) is w =
    subst (λ (bytes : List ℕ). LONG_FILE_MAX < length bytes) (sym (bytes_of_image i)) w
encodes i (Err NoMemory) is w = tt

pub glued : (none one two out magic : List ℕ) (count : ℕ) (i : List ImageMachine)
    → none ≡ [] → one ≡ none ++ magic → magic ≡ codes "PIMG"
    → two ≡ one ++ 1 ∷ count ∷ [] → count ≡ length i → out ≡ two ++ flat_map machine_bytes i
    → out ≡ image_bytes i
glued none one two out magic count i n o m t c u =
    let first : one ≡ codes "PIMG" = o ∙ ap (λ (x : List ℕ). x ++ magic) n ∙ m in
    let second : two ≡ codes "PIMG" ++ 1 ∷ count ∷ [] =
    t ∙ ap (λ (x : List ℕ). x ++ 1 ∷ count ∷ []) first in
    u ∙ ap (λ (x : List ℕ). x ++ flat_map machine_bytes i) second
    ∙ ap (λ (k : ℕ). codes "PIMG" ++ 1 ∷ k ∷ flat_map machine_bytes i) c
