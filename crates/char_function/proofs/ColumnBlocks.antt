-- What varies in a column is what changes in one of its blocks.
use Rattle.std.proofs.Common.{◌≡◌, ℕ, zero, suc, ◌+◌, ◌-◌, ◌*◌, ◌/◌, ◌<◌, ◌≤◌, ◌&&◌, Bool, true, false, not, ◌||◌, nat_le, List, [], ◌∷◌, length, take, drop, slice_index, refl, ap, sym, ◌∙◌, arith, length-take, length-drop}
use Rattle.std.specs.List.{list_any}
use Rattle.std.proofs.lemmas.Bool.{and_parts}
use Rattle.std.proofs.lemmas.List.{drop-drop, drop_more}
use Rattle.std.proofs.lemmas.Nat.{div-mul-add}
use Rattle.polis_base.specs.Lists.{upto}
use Rattle.domains.specs.Names.{is_same}
use Rattle.domains.specs.Tables.{are_sizes, product}
use Rattle.char_function.specs.inner.Columns.{part, varies}
use Rattle.char_function.proofs.Blocks.{times_le}
use Rattle.decision_diagram.proofs.Fits.{size_some}
use Rattle.char_function.proofs.Varies.{any_append}
use Rattle.outcome_table.proofs.Columns.{product_split}
use Rattle.polis_base.proofs.Bools.{or_assoc, or_none}
use Rattle.polis_base.proofs.ListTests.{any_same_below}

-- two neighbours in this block differ
abbrev pub steps : List ℕ → ℕ → ℕ → ℕ → Bool
steps column block stride j =
    not (is_same (take (block - stride) (drop (j * block) column))
    (take (block - stride) (drop (j * block + stride) column)))

pub moved : (column : List ℕ) (a b c d e f g h : ℕ) → a ≡ e → b ≡ f → c ≡ g → d ≡ h
    → not (is_same (take a (drop b column)) (take c (drop d column)))
    ≡ not (is_same (take e (drop f column)) (take g (drop h column)))
moved column a b c d e f g h one two three four =
    ap (λ (k : ℕ). not (is_same (take k (drop b column)) (take c (drop d column)))) one
    ∙ ap (λ (k : ℕ). not (is_same (take e (drop k column)) (take c (drop d column)))) two
    ∙ ap (λ (k : ℕ). not (is_same (take e (drop f column)) (take k (drop d column)))) three
    ∙ ap (λ (k : ℕ). not (is_same (take e (drop f column)) (take g (drop k column)))) four

-- ---- parts of a list
window : (xs : List ℕ) (n c k : ℕ) → c + k ≤ n → take k (drop c (take n xs)) ≡ take k (drop c xs)
window xs n c zero h = refl
window [] zero c (suc k) h = absurd (omega arith)
window [] (suc n) c (suc k) h = refl
window (x ∷ xs) zero c (suc k) h = absurd (omega arith)
window (x ∷ xs) (suc n) zero (suc k) h =
    ap (λ (ys : List ℕ). x ∷ ys) (window xs n zero k (omega arith))
window (x ∷ xs) (suc n) (suc c) (suc k) h = window xs n c (suc k) (omega arith)

window_from : (xs : List ℕ) (n a c k d : ℕ) → c + k ≤ n → d ≡ a + c
    → take k (drop c (take n (drop a xs))) ≡ take k (drop d xs)
window_from xs n a c k d h is =
    window (drop a xs) n c k h
    ∙ ap (take k) (drop-drop c a xs)
    ∙ ap (λ (i : ℕ). take k (drop i xs)) (sym is)

-- ---- some number below a product

any_add : (p : ℕ → Bool) (a w : ℕ)
    → list_any p (upto (a + w)) ≡ (list_any p (upto a) || list_any (λ j. p (a + j)) (upto w))
any_add p a zero =
    let e : a + 0 ≡ a = omega arith in
    ap (λ (k : ℕ). list_any p (upto k)) e ∙ sym (or_none (list_any p (upto a)))
any_add p a (suc w) =
    let e : a + suc w ≡ suc (a + w) = omega arith in
    ap (λ (k : ℕ). list_any p (upto k)) e
    ∙ any_append p (upto (a + w)) ((a + w) ∷ [])
    ∙ ap (λ (b : Bool). b || (p (a + w) || false)) (any_add p a w)
    ∙ or_assoc (list_any p (upto a)) (list_any (λ j. p (a + j)) (upto w)) (p (a + w) || false)
    ∙ ap (λ (b : Bool). list_any p (upto a) || b)
    (sym (any_append (λ j. p (a + j)) (upto w) (w ∷ [])))

any_nest : (p : ℕ → Bool) (n w : ℕ)
    → list_any (λ c. list_any (λ j. p (c * w + j)) (upto w)) (upto n)
    ≡ list_any p (upto (n * w))
any_nest p zero w =
    let e : 0 ≡ 0 * w = omega arith in
    ap (λ (k : ℕ). list_any p (upto k)) e
any_nest p (suc n) w =
    let e : n * w + w ≡ suc n * w = omega arith in
    any_append (λ c. list_any (λ j. p (c * w + j)) (upto w)) (upto n) (n ∷ [])
    ∙ ap (λ (b : Bool). b || (list_any (λ j. p (n * w + j)) (upto w) || false)) (any_nest p n w)
    ∙ ap (λ (b : Bool). list_any p (upto (n * w)) || b)
    (or_none (list_any (λ j. p (n * w + j)) (upto w)))
    ∙ sym (any_add p (n * w) w)
    ∙ ap (λ (k : ℕ). list_any p (upto k)) e

-- ---- blocks
share : (n size w : ℕ) → n ≡ size * w → 1 ≤ size → n / size ≡ w
share n size w is one =
    let e : n ≡ w * size + 0 = omega arith in
    ap (λ (k : ℕ). k / size) e ∙ div-mul-add w size 0 (omega arith)

pub varies_flat : (sizes : List ℕ) (v : ℕ) (column : List ℕ) (block stride : ℕ)
    → are_sizes sizes ≡ true → v < length sizes → length column ≡ product sizes
    → stride ≡ product (drop (v + 1) sizes) → block ≡ product (drop v sizes) → stride ≤ block
    → varies sizes v column
    ≡ list_any (steps column block stride) (upto (product (take v sizes)))
varies_flat [] v column block stride are low long apart wide most = absurd (omega arith)
varies_flat (size ∷ sizes) zero column block stride are low long apart wide most =
    let one = size_some (size ∷ sizes) are 0 (omega arith) in
    let d : length column / size ≡ product sizes =
    share (length column) size (product sizes) long one in
    let e : length column - length column / size ≡ block - stride = omega arith in
    let z : 0 ≡ 0 * block = omega arith in
    let s : length column / size ≡ 0 * block + stride = omega arith in
    moved column (length column - length column / size) 0 (length column - length column / size)
    (length column / size) (block - stride) (0 * block) (block - stride) (0 * block + stride) e z e s
    ∙ sym (or_none (steps column block stride 0))
varies_flat (size ∷ sizes) (suc v) column block stride are low long apart wide most =
    any_same_below (λ code. varies sizes v (part size column code))
    (λ code. list_any (λ j. steps column block stride (code * product (take v sizes) + j))
    (upto (product (take v sizes)))) size
    (λ code code_low.
    varies_flat sizes v (part size column code) block stride rest (omega arith)
    (part_long code code_low) (apart ∙ ap (λ (k : ℕ). product (drop k (size ∷ sizes))) more)
    wide most
    ∙ any_same_below (steps (part size column code) block stride)
    (λ j. steps column block stride (code * product (take v sizes) + j)) (product (take v sizes))
    (λ j j_low. same code j code_low j_low))
    ∙ any_nest (steps column block stride) size (product (take v sizes))
  where
    one : 1 ≤ size
    one = size_some (size ∷ sizes) are 0 (omega arith)

    rest : are_sizes sizes ≡ true
    rest = (and_parts (nat_le 1 size && nat_le size 33) (are_sizes sizes) are).1

    more : suc v + 1 ≡ suc (v + 1)
    more = omega arith

    w : ℕ
    w = length column / size

    w_is : w ≡ product sizes
    w_is = share (length column) size (product sizes) long one

    whole : product (take v sizes) * block ≡ w
    whole = ap (λ (k : ℕ). product (take v sizes) * k) wide ∙ product_split sizes v ∙ sym w_is

    room : (code : ℕ) → code < size → code * w + w ≤ length column
    room code code_low =
        let a = times_le (code + 1) size w (omega arith) in
        let b : (code + 1) * w ≡ code * w + w = omega arith in
        let c : length column ≡ size * w = long ∙ ap (λ (k : ℕ). size * k) (sym w_is) in
        omega arith

    part_long : (code : ℕ) → code < size → length (part size column code) ≡ product sizes
    part_long code code_low =
        let a = length-take (code * w + w - code * w) (drop (code * w) column) in
        let b = length-drop (code * w) column in
        let c = room code code_low in
        let d = w_is in
        omega arith

    same : (code j : ℕ) → code < size → j < product (take v sizes)
        → steps (part size column code) block stride j
        ≡ steps column block stride (code * product (take v sizes) + j)
    same code j code_low j_low =
        let a = times_le (j + 1) (product (take v sizes)) block (omega arith) in
        let b : (j + 1) * block ≡ j * block + block = omega arith in
        let all = whole in
        let c : code * (product (take v sizes) * block) ≡ code * w =
        ap (λ (k : ℕ). code * k) whole in
        let front : (code * product (take v sizes) + j) * block ≡ code * w + j * block =
        omega arith in
        let back : (code * product (take v sizes) + j) * block + stride
        ≡ code * w + (j * block + stride) = omega arith in
        ap (λ (xs : List ℕ). not (is_same xs
        (take (block - stride) (drop (j * block + stride) (part size column code)))))
        (window_from column (code * w + w - code * w) (code * w) (j * block) (block - stride)
        ((code * product (take v sizes) + j) * block) (omega arith) front)
        ∙ ap (λ (xs : List ℕ). not (is_same
        (take (block - stride) (drop ((code * product (take v sizes) + j) * block) column)) xs))
        (window_from column (code * w + w - code * w) (code * w) (j * block + stride)
        (block - stride) ((code * product (take v sizes) + j) * block + stride) (omega arith) back)

-- ---- the body's numbers
-- so many blocks a column has, each of so many codes
pub record AreBlocks (vars : List ℕ) (v size stride count : ℕ) : Type 0 where
  pub some : 1 ≤ size * stride
  pub within : stride ≤ size * stride
  pub block : size * stride ≡ product (drop v vars)
  pub count_is : count ≡ product (take v vars)
  pub whole : count * (size * stride) ≡ product vars
  pub few : product vars ≤ 65536

pub blocks_of : (vars : List ℕ) (v size stride n : ℕ) → are_sizes vars ≡ true → v < length vars
    → size ≡ slice_index vars v → stride ≡ product (drop (v + 1) vars) → n ≡ product vars
    → product vars ≤ 65536 → AreBlocks vars v size stride (n / (size * stride))
blocks_of vars v size stride n are low sized apart long most =
    let one = size_some vars are v low in
    let block : size * stride ≡ product (drop v vars) =
    ap (λ (k : ℕ). k * stride) sized ∙ ap (λ (k : ℕ). slice_index vars v * k) apart
    ∙ sym (ap product (drop_more vars v 0 low)) in
    let some_left = some_lists vars v are in
    let whole : product (take v vars) * (size * stride) ≡ product vars =
    ap (λ (k : ℕ). product (take v vars) * k) block ∙ product_split vars v in
    let wide = times_le 1 size stride (omega arith) in
    let e : n ≡ product (take v vars) * (size * stride) + 0 = omega arith in
    let count : n / (size * stride) ≡ product (take v vars) =
    ap (λ (k : ℕ). k / (size * stride)) e
    ∙ div-mul-add (product (take v vars)) (size * stride) 0 (omega arith) in
    record {
      some = omega arith;
      within = omega arith;
      block = block;
      count_is = count;
      whole = ap (λ (k : ℕ). k * (size * stride)) count ∙ whole;
      few = most;
    }
  where
    some_times : (a b : ℕ) → 1 ≤ a → 1 ≤ b → 1 ≤ a * b
    some_times (suc a) b h k = omega arith
    some_times zero b h k = absurd (omega arith)

    some_lists : (sizes : List ℕ) (k : ℕ) → are_sizes sizes ≡ true → 1 ≤ product (drop k sizes)
    some_lists [] zero are = omega arith
    some_lists [] (suc k) are = omega arith
    some_lists (size ∷ sizes) zero are =
        some_times size (product sizes) (size_some (size ∷ sizes) are 0 (omega arith))
        (some_lists sizes 0 (and_parts (nat_le 1 size && nat_le size 33) (are_sizes sizes) are).1)
    some_lists (size ∷ sizes) (suc k) are =
        some_lists sizes k (and_parts (nat_le 1 size && nat_le size 33) (are_sizes sizes) are).1
