-- The first piece of some bytes, by the first byte that passes.
use Rattle.std.proofs.Common.{◌≡◌, ◌<◌, ◌≤◌, ◌+◌, ◌-◌, ℕ, zero, suc, Bool, true, false, List, [], ◌∷◌, length, take, drop, get_or, refl, ap, ◌∙◌, not, arith, add-one, ◌++◌, ◌==◌, sym, Option, Some, None, IfSome, IfNone, Bor}
use Rattle.trace_text.specs.Pieces.{runs, begins_comment, trace_lines, without_comment}
use Rattle.std.proofs.lemmas.Bool.{and_parts, not-true}
use Rattle.std.proofs.lemmas.List.Sums.{take_while-cons}
use Rattle.polis_base.specs.Pieces.{lacks}
use Rattle.polis_base.proofs.Places.{to_the_end}

-- none of the first k bytes passes
abbrev pub NoneBefore : (ℕ → Bool) → List ℕ → ℕ → Type 0
NoneBefore test bytes k = (j : ℕ) → j < k → test (get_or bytes j 0) ≡ false

pub pieces_at : (test : ℕ → Bool) (bytes : List ℕ) (k : ℕ) → k < length bytes
    → NoneBefore test bytes k → test (get_or bytes k 0) ≡ true
    → runs test bytes ≡ take k bytes ∷ runs test (drop (suc k) bytes)
pieces_at test [] k below before here = absurd (omega arith)
pieces_at test (c ∷ rest) zero below before here = rw here refl
pieces_at test (c ∷ rest) (suc k) below before here =
    let first : test c ≡ false = before 0 (omega arith) in
    let e = pieces_at test rest k (omega arith) (λ j h. before (suc j) (omega arith)) here in
    rw (first, e) refl

pub pieces_whole : (test : ℕ → Bool) (bytes : List ℕ) → 0 < length bytes
    → NoneBefore test bytes (length bytes) → runs test bytes ≡ bytes ∷ []
pieces_whole test [] some before = absurd (omega arith)
pieces_whole test (c ∷ []) some before = let first : test c ≡ false = before 0 (omega arith) in
    rw first refl
pieces_whole test (c ∷ d ∷ rest) some before =
    let first : test c ≡ false = before 0 (omega arith) in
    let e = pieces_whole test (d ∷ rest) (omega arith) (λ j h. before (suc j) (omega arith)) in
    rw (first, e) refl

-- the first piece ends at the first byte that passes
pub pieces_cut : (test : ℕ → Bool) (bytes : List ℕ) (k : ℕ) → k < length bytes
    → NoneBefore test bytes k → test (get_or bytes k 0) ≡ true
    → runs test bytes ≡ take k bytes
    ∷ runs test (take (length bytes - (k + 1)) (drop (k + 1) bytes))
pieces_cut test bytes k below before here =
    rw (to_the_end bytes (k + 1), add-one) (pieces_at test bytes k below before here)

pub pieces_uncut : (test : ℕ → Bool) (bytes : List ℕ) (k : ℕ) → 0 < length bytes → length bytes ≤ k
    → NoneBefore test bytes k → runs test bytes ≡ bytes ∷ []
pieces_uncut test bytes k some all before =
    pieces_whole test bytes some (λ j h. before j (omega arith))

-- ---- at the first mark

-- the first line ends at the first LF
pub line_cut : (line rest : List ℕ) → lacks 10 line ≡ true
    → trace_lines (line ++ 10 ∷ rest) ≡ line ∷ trace_lines rest
line_cut [] rest h = refl
line_cut (c ∷ line) rest h =
    let parts = and_parts (not (c == 10)) _ h in
    rw (not-true _ parts.0, line_cut line rest parts.1) refl

pub line_uncut : (line : List ℕ) → 0 < length line → lacks 10 line ≡ true
    → trace_lines line ≡ line ∷ []
line_uncut [] some h = absurd (omega arith)
line_uncut (c ∷ []) some h =
    let parts = and_parts (not (c == 10)) _ h in
    rw (not-true _ parts.0) refl
line_uncut (c ∷ d ∷ line) some h =
    let parts = and_parts (not (c == 10)) _ h in
    rw (not-true _ parts.0, line_uncut (d ∷ line) (omega arith) parts.1) refl

-- the comment begins at the first `#`
before_comment : (line rest : List ℕ) → lacks 35 line ≡ true
    → without_comment (line ++ 35 ∷ rest) ≡ line
before_comment [] rest h = take_while-cons (λ c. not (begins_comment c)) 35 rest
before_comment (c ∷ line) rest h =
    let parts = and_parts (not (c == 35)) _ h in
    take_while-cons (λ c. not (begins_comment c)) c (line ++ 35 ∷ rest)
    ∙ rw parts.0 (ap (λ xs. c ∷ xs) (before_comment line rest parts.1))

no_comment : (line : List ℕ) → lacks 35 line ≡ true → without_comment line ≡ line
no_comment [] h = refl
no_comment (c ∷ line) h =
    let parts = and_parts (not (c == 35)) _ h in
    take_while-cons (λ c. not (begins_comment c)) c line
    ∙ rw parts.0 (ap (λ xs. c ∷ xs) (no_comment line parts.1))

pub comment_cut : (line text : List ℕ) (after : Option (Bor (List ℕ)))
    → IfSome after (λ r. line ≡ text ++ 35 ∷ r.now) → IfNone after (line ≡ text)
    → lacks 35 text ≡ true → text ≡ without_comment line
comment_cut line text None some none free =
    sym (ap without_comment none ∙ no_comment text free)
comment_cut line text (Some r) some none free =
    sym (ap without_comment some ∙ before_comment text r.now free)
