-- Lines and joined words that are the same text are of the same things.
use Rattle.std.proofs.Common.{◌≡◌, ℕ, zero, suc, ◌+◌, ◌^◌, ◌<◌, true, not, ◌==◌, List, [], ◌∷◌, ◌++◌, length, refl, ap, sym, ◌∙◌, append_assoc, arith, decimal, codes}
use Rattle.std.specs.Prelude.{flat_map}
use Rattle.std.specs.List.{join_by}
use Rattle.std.proofs.lemmas.Bool.{and_from}
use Rattle.std.proofs.lemmas.List.{append_cancel_left, append-nil}
use Rattle.std.proofs.lemmas.List.Folds.{list_all-append}
use Rattle.polis_base.specs.Lines.{line}
use Rattle.task_code.specs.Listings.{numbered_lines}
use Rattle.machine_compiler.proofs.CutAtByte.{lacks, cut, line_cut, decimal_lacks}
use Rattle.machine_compiler.proofs.IsLabel.{Each}

-- what is written of each thing is in one line, and of one thing
pub record Writes {X : Type 0} (words : X → List ℕ) (Holds : X → Type 0) : Type 0 where
  pub one_line : (x : X) → Holds x → lacks 10 (words x) ≡ true
  pub one : (x y : X) → Holds x → Holds y → words x ≡ words y → x ≡ y

pub same_lines : {X : Type 0} (words : X → List ℕ) (Holds : X → Type 0)
    → Writes words Holds
    → (xs ys : List X) (k : ℕ) (t u : List ℕ)
    → Each Holds xs
    → Each Holds ys
    → length xs ≡ length ys
    → k + length xs < 2 ^ 64
    → numbered_lines words k xs ++ t ≡ numbered_lines words k ys ++ u
    → (xs ≡ ys) × (t ≡ u)
same_lines words Holds w [] [] k t u hx hy long few e = (refl, e)
same_lines words Holds w [] (y ∷ ys) k t u hx hy long few e = absurd (omega arith)
same_lines words Holds w (x ∷ xs) [] k t u hx hy long few e = absurd (omega arith)
same_lines {X = X} words Holds w (x ∷ xs) (y ∷ ys) k t u hx hy long few e =
    let low : k < 2 ^ 64 = omega arith in
    let number : lacks 10 (decimal k) ≡ true = decimal_lacks 10 (omega arith) k low in
    let whole = λ (z : X) (hz : Holds z). list_all-append (λ (c : ℕ). not (c == 10)) (decimal k)
    (32 ∷ words z) ∙ and_from (lacks 10 (decimal k)) (lacks 10 (32 ∷ words z)) number
    (w.one_line z hz) in
    let rest : line (decimal k ++ 32 ∷ words x) ++ (numbered_lines words (suc k) xs ++ t)
    ≡ line (decimal k ++ 32 ∷ words y) ++ (numbered_lines words (suc k) ys ++ u) =
    sym (append_assoc (line (decimal k ++ 32 ∷ words x)) (numbered_lines words (suc k) xs) t)
    ∙ e ∙ append_assoc (line (decimal k ++ 32 ∷ words y))
    (numbered_lines words (suc k) ys) u
    in
    let first_x = hx zero x refl in
    let first_y = hy zero y refl in
    let r = line_cut (decimal k ++ 32 ∷ words x) (decimal k ++ 32 ∷ words y)
    (numbered_lines words (suc k) xs ++ t) (numbered_lines words (suc k) ys ++ u)
    (whole x first_x) (whole y first_y) rest in
    let spaced : 32 ∷ words x ≡ 32 ∷ words y =
    append_cancel_left (decimal k) (32 ∷ words x) (32 ∷ words y) r.0 in
    let written : words x ≡ words y = cc in
    let same : x ≡ y = w.one x y first_x first_y written in
    let others = same_lines words Holds w xs ys (suc k) t u (λ i z f. hx (suc i) z f)
    (λ i z f. hy (suc i) z f) (omega arith) (omega arith) r.1 in
    let tail : xs ≡ ys = others.0 in
    let all : x ∷ xs ≡ y ∷ ys = cc in
    (all, others.1)

-- ---- words with commas between them
abbrev rest_of : (ℕ → List ℕ) → List ℕ → List ℕ
rest_of words items = flat_map (λ item. codes ", " ++ words item) items

-- two words, each with what follows it: nothing, or a comma and more
pub same_items : (words : ℕ → List ℕ) (Holds : ℕ → Type 0)
    → ((x : ℕ) → Holds x → lacks 44 (words x) ≡ true)
    → ((x y : ℕ) → Holds x → Holds y → words x ≡ words y → x ≡ y)
    → (xs ys : List ℕ)
    → Each Holds xs
    → Each Holds ys
    → length xs ≡ length ys
    → join_by words (codes ", ") xs ≡ join_by words (codes ", ") ys
    → xs ≡ ys
same_items words Holds plain one [] [] hx hy long e = refl
same_items words Holds plain one [] (y ∷ ys) hx hy long e = absurd (omega arith)
same_items words Holds plain one (x ∷ xs) [] hx hy long e = absurd (omega arith)
same_items words Holds plain one (x ∷ []) (y ∷ []) hx hy long e =
    let f : words x ≡ words y = sym (append-nil (words x)) ∙ e ∙ append-nil (words y) in
    let same : x ≡ y = one x y (hx zero x refl) (hy zero y refl) f in
    ap (λ (n : ℕ). n ∷ []) same
same_items words Holds plain one (x ∷ []) (y ∷ z ∷ ys) hx hy long e = absurd (omega arith)
same_items words Holds plain one (x ∷ z ∷ xs) (y ∷ []) hx hy long e = absurd (omega arith)
same_items words Holds plain one (x ∷ v ∷ xs) (y ∷ w ∷ ys) hx hy long e =
    let f : words x ++ 44 ∷ 32 ∷ (words v ++ rest_of words xs)
    ≡ words y ++ 44 ∷ 32 ∷ (words w ++ rest_of words ys) = e in
    let r = cut 44 (words x) (words y) (32 ∷ (words v ++ rest_of words xs))
    (32 ∷ (words w ++ rest_of words ys)) (plain x (hx zero x refl))
    (plain y (hy zero y refl)) f in
    let same : x ≡ y = one x y (hx zero x refl) (hy zero y refl) r.0 in
    let next : words v ++ rest_of words xs ≡ words w ++ rest_of words ys = cc in
    let others : v ∷ xs ≡ w ∷ ys =
    same_items words Holds plain one (v ∷ xs) (w ∷ ys) (λ i n g. hx (suc i) n g)
    (λ i n g. hy (suc i) n g) (omega arith) next in
    cc
