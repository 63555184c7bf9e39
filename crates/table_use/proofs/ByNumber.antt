-- The numbers of snapshots that differ in one code, or in all inputs but one.
use Rattle.std.proofs.Common.{◌≡◌, ℕ, zero, suc, ◌+◌, ◌*◌, ◌%◌, ◌<◌, ◌≤◌, Bool, true, not, ◌&&◌, nat_le, nat_lt, List, [], ◌∷◌, ◌++◌, length, drop, replicate, get_or, slice_get, slice_index, slice_set, Some, refl, sym, ap, ◌∙◌, arith}
use Rattle.std.proofs.lemmas.Bool.{and_parts, eq-eqb, false≢true, le-leb, lt-leb, ne_eqb}
use Rattle.std.proofs.lemmas.List.{get_or-replicate, get_or-set_same, get_or_append_left, length-replicate}
use Rattle.std.proofs.lemmas.Nat.{mod-mul-add}
use Rattle.std.proofs.lemmas.Option.{get_or_from_slice_get}
use Rattle.std.proofs.Math.Nat.{mul-le-mul_right, mul_assoc}
use Rattle.domains.specs.Tables.{are_sizes, fits, product, rank}
use Rattle.domains.proofs.Ranks.{length_fits, ranks_below}
use Rattle.journals.proofs.MomentsAfter.{get_or_table, length_table}
use Rattle.transition_table.specs.declared.machine.Machine.{Machine}
use Rattle.transition_table.proofs.Ranges.{vars_length}
use Rattle.journals.specs.Seen.{is_seen}
use Rattle.table_use.specs.Use.{alone, without}
use Rattle.table_use.specs.Keys.{stride, strides_of}
use Rattle.table_use.proofs.ListCounts.{begins_idle, unseen_idle}
use Rattle.table_use.proofs.Numbers.{fits_drop}
use Rattle.table_use.proofs.Present.{long_left}
use Rattle.domains.proofs.FittingCodes.{product_after}
use Rattle.polis_base.proofs.Bools.{not_not}

-- with the code 0 a snapshot's number is as many strides less as the code was
pub rank_without : (sizes codes : List ℕ) (v : ℕ) → v < length sizes → fits sizes codes ≡ true
    → rank sizes codes ≡ rank sizes (without codes v) + slice_index codes v * stride sizes v
rank_without [] codes v low fit = absurd (omega arith)
rank_without (size ∷ sizes) [] v low fit = absurd (false≢true fit)
rank_without (size ∷ sizes) (c ∷ codes) zero low fit = omega arith
rank_without (size ∷ sizes) (c ∷ codes) (suc v) low fit =
    let parts = and_parts (nat_lt c size) (fits sizes codes) fit in
    let rest = rank_without sizes codes v (omega arith) parts.1 in
    let e : suc v + 1 ≡ suc (v + 1) = omega arith in
    let far : slice_index codes v * stride (size ∷ sizes) (suc v)
    ≡ slice_index codes v * stride sizes v =
    ap (λ (k : ℕ). slice_index codes v * product (drop k (size ∷ sizes))) e in
    omega arith

-- ---- the first k codes

-- those that have 0 there have the numbers below that of lists of the later codes
pub rank_idle : (k : ℕ) (sizes codes : List ℕ) → are_sizes sizes ≡ true
    → fits sizes codes ≡ true
    → nat_le (product (drop k sizes)) (rank sizes codes) ≡ not (begins_idle k codes)
rank_idle zero sizes codes some fit =
    lt-leb (product sizes) (rank sizes codes) (ranks_below sizes codes fit)
rank_idle (suc k) [] [] some fit = lt-leb 1 0 (omega arith)
rank_idle (suc k) [] (c ∷ codes) some fit = absurd (false≢true fit)
rank_idle (suc k) (size ∷ sizes) [] some fit = absurd (false≢true fit)
rank_idle (suc k) (size ∷ sizes) (zero ∷ codes) some fit =
    let parts = and_parts (nat_lt 0 size) (fits sizes codes) fit in
    let rest = and_parts (nat_le 1 size && nat_le size 33) (are_sizes sizes) some in
    (let e : 0 * product sizes + rank sizes codes ≡ rank sizes codes = omega arith in
    ap (nat_le (product (drop k sizes))) e)
    ∙ rank_idle k sizes codes rest.1 parts.1
    ∙ ap (λ (b : Bool). not (b && begins_idle k codes)) (sym (eq-eqb 0 0 refl))
rank_idle (suc k) (size ∷ sizes) (suc c ∷ codes) some fit =
    let rest = and_parts (nat_le 1 size && nat_le size 33) (are_sizes sizes) some in
    let most = product_after sizes k rest.1 in
    let one : 1 ≤ suc c = omega arith in
    let grow = mul-le-mul_right {m = 1} {n = suc c} (product sizes) one in
    le-leb (product (drop k sizes)) (suc c * product sizes + rank sizes codes) (omega arith)
    ∙ ap (λ (b : Bool). not (b && begins_idle k codes))
    (sym (ne_eqb (suc c) 0 (λ e. absurd (omega arith))))

-- whether some input is present, by the number
pub seen_by_number : (m : Machine) (s : List ℕ) → are_sizes m.vars ≡ true → fits m.vars s ≡ true
    → nat_le (product (drop (length m.inputs) m.vars)) (rank m.vars s) ≡ is_seen m s
seen_by_number m s some fit =
    rank_idle (length m.inputs) m.vars s some fit
    ∙ ap not (sym (unseen_idle m s))
    ∙ not_not (is_seen m s)

product_parts : (k : ℕ) (sizes : List ℕ) → (a : ℕ) × (product sizes ≡ a * product (drop k sizes))
product_parts zero sizes = (1, omega arith)
product_parts (suc k) [] = (1, omega arith)
product_parts (suc k) (size ∷ sizes) =
    let rest = product_parts k sizes in (
      size * rest.0,
      ap (λ (n : ℕ). size * n) rest.1 ∙ sym (mul_assoc size rest.0 (product (drop k sizes))),
    )

-- the number is that of the later codes, and some times so many
rank_parts : (k : ℕ) (sizes codes : List ℕ) → fits sizes codes ≡ true
    → (a : ℕ) × (rank sizes codes ≡ a * product (drop k sizes) + rank (drop k sizes) (drop k codes))
rank_parts zero sizes codes fit = (0, omega arith)
rank_parts (suc k) [] [] fit = (0, omega arith)
rank_parts (suc k) [] (c ∷ codes) fit = absurd (false≢true fit)
rank_parts (suc k) (size ∷ sizes) [] fit = absurd (false≢true fit)
rank_parts (suc k) (size ∷ sizes) (c ∷ codes) fit =
    let parts = and_parts (nat_lt c size) (fits sizes codes) fit in
    let rest = rank_parts k sizes codes parts.1 in
    let whole = product_parts k sizes in
    let w = product (drop k sizes) in
    let one : c * product sizes ≡ c * whole.0 * w =
    ap (λ (n : ℕ). c * n) whole.1 ∙ sym (mul_assoc c whole.0 w) in
    let two = rest.1 in (
      c * whole.0 + rest.0,
      joined (c * product sizes) (c * whole.0) rest.0 w (rank sizes codes)
          (rank (drop k sizes) (drop k codes)) one two,
    )
  where
    joined : (x a b w y r : ℕ) → x ≡ a * w → y ≡ b * w + r → x + y ≡ (a + b) * w + r
    joined x a b w y r e f =
        let g : (a + b) * w ≡ a * w + b * w = omega arith in
        omega arith

rank_later : (k : ℕ) (sizes codes : List ℕ) → fits sizes codes ≡ true
    → rank sizes codes % product (drop k sizes) ≡ rank (drop k sizes) (drop k codes)
rank_later k sizes codes fit =
    let parts = rank_parts k sizes codes fit in
    ap (λ (n : ℕ). n % product (drop k sizes)) parts.1
    ∙ mod-mul-add parts.0 (product (drop k sizes)) (rank (drop k sizes) (drop k codes))
    (ranks_below (drop k sizes) (drop k codes) (fits_drop sizes codes k fit))

rank_zeroed : (k : ℕ) (sizes codes : List ℕ) → fits sizes codes ≡ true → k ≤ length codes
    → rank sizes (replicate k 0 ++ drop k codes) ≡ rank (drop k sizes) (drop k codes)
rank_zeroed zero sizes codes fit most = refl
rank_zeroed (suc k) [] [] fit most = refl
rank_zeroed (suc k) [] (c ∷ codes) fit most = absurd (false≢true fit)
rank_zeroed (suc k) (size ∷ sizes) [] fit most = absurd (false≢true fit)
rank_zeroed (suc k) (size ∷ sizes) (c ∷ codes) fit most =
    let parts = and_parts (nat_lt c size) (fits sizes codes) fit in
    (let e : 0 * product sizes + rank sizes (replicate k 0 ++ drop k codes)
    ≡ rank sizes (replicate k 0 ++ drop k codes) = omega arith in e)
    ∙ rank_zeroed k sizes codes parts.1 (omega arith)

-- ---- one input alone

set_back : (xs : List ℕ) (i c : ℕ) → slice_index xs i ≡ 0
    → slice_set (slice_set xs i c) i 0 ≡ xs
set_back [] i c none = refl
set_back (x ∷ xs) zero c none = ap (λ (k : ℕ). k ∷ xs) (sym none)
set_back (x ∷ xs) (suc i) c none = ap (λ (l : List ℕ). x ∷ l) (set_back xs i c none)

pub rank_alone : (m : Machine) (s : List ℕ) (i : ℕ) → fits m.vars s ≡ true
    → fits m.vars (alone m s i) ≡ true → i < length m.inputs
    → rank m.vars (alone m s i)
    ≡ rank m.vars s % product (drop (length m.inputs) m.vars)
    + slice_index s i * stride m.vars i
rank_alone m s i fit fits_too low =
    let k = length m.inputs in
    let long = length_fits m.vars s fit in
    let parts = vars_length m in
    let zeros : List ℕ = replicate k 0 ++ drop k s in
    let many : length (replicate {A = ℕ} k 0) ≡ k = length-replicate k 0 in
    let none : slice_index zeros i ≡ 0 =
    get_or_append_left (replicate k 0) (drop k s) 0 i (omega arith)
    ∙ get_or-replicate k i 0 0 low in
    let back : without (alone m s i) i ≡ zeros = set_back zeros i (slice_index s i) none in
    let total = long_left k s (omega arith) in
    let own : slice_index (alone m s i) i ≡ slice_index s i =
    get_or-set_same zeros i (slice_index s i) 0 (omega arith) in
    rank_without m.vars (alone m s i) i (omega arith) fits_too
    ∙ ap (λ (l : List ℕ). rank m.vars l + slice_index (alone m s i) i * stride m.vars i) back
    ∙ ap (λ (c : ℕ). rank m.vars zeros + c * stride m.vars i) own
    ∙ ap (λ (n : ℕ). n + slice_index s i * stride m.vars i)
    (rank_zeroed k m.vars s fit (omega arith) ∙ sym (rank_later k m.vars s fit))

-- ---- what is read of a lookup

pub strides_long : (vars strides : List ℕ) → strides ≡ strides_of vars
    → length strides ≡ length vars
strides_long vars strides is =
    ap (λ (l : List ℕ). length l) is ∙ length_table (stride vars) (length vars)

pub stride_at : (vars strides : List ℕ) (v x : ℕ) → strides ≡ strides_of vars → v < length vars
    → slice_get strides v ≡ Some x → x ≡ stride vars v
stride_at vars strides v x is low at =
    sym (get_or_from_slice_get strides v x 0 at)
    ∙ ap (λ (l : List ℕ). get_or l v 0) is
    ∙ get_or_table (stride vars) (length vars) v 0 low

-- the number of a snapshot by that without one of its codes
pub number_parts : (vars strides s : List ℕ) (v n code x : ℕ) → fits vars s ≡ true
    → rank vars s ≡ n → v < length vars → strides ≡ strides_of vars → slice_get s v ≡ Some code
    → slice_get strides v ≡ Some x → n ≡ rank vars (without s v) + code * x
number_parts vars strides s v n code x fit number low is here far =
    sym number
    ∙ rank_without vars s v low fit
    ∙ ap (λ (k : ℕ). rank vars (without s v) + k * stride vars v)
    (get_or_from_slice_get s v code 0 here)
    ∙ ap (λ (k : ℕ). rank vars (without s v) + code * k)
    (sym (stride_at vars strides v x is low far))
