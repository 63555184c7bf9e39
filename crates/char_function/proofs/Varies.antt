-- What varies in a column of a function's values is what the function changes with.
use Rattle.std.proofs.Common.{◌≡◌, ⊎_elim, ℕ, zero, suc, ◌+◌, ◌-◌, ◌*◌, ◌/◌, ◌<◌, ◌≤◌, Bool, true, false, not, ◌==◌, ◌&&◌, ◌||◌, List, [], ◌∷◌, ◌++◌, map, length, take, drop, slice_index, refl, ap, sym, ◌∙◌, arith, ltb, leb, get_or-drop, get_or-take, length-take, length-drop}
use Rattle.std.specs.Prelude.{slice_range}
use Rattle.std.specs.List.{list_any}
use Rattle.std.specs.Cmp.Lexicographic.{same_text}
use Rattle.std.proofs.Math.Nat.{mul-div_cancel_left}
use Rattle.std.proofs.lemmas.Bool.{and_parts, and_from, cases_Bool, cases_lt, eq-eqb, eqb-true, lt-ltb, ltb-true, or_left, or_right, true≢false, false_from_ne_true, true_from_ne_false}
use Rattle.std.proofs.lemmas.Grind.{same_number_lists}
use Rattle.polis_base.specs.Lists.{upto}
use Rattle.polis_base.proofs.Lists.{none_upto, upto_all, some_item}
use Rattle.domains.specs.Names.{is_same}
use Rattle.domains.specs.Tables.{fits, are_sizes, product, rank, RanksReach}
use Rattle.domains.specs.AllCodes.{each_after, all_codes}
use Rattle.domains.proofs.Names.{same_self}
use Rattle.transition_table.specs.Computed.{moves, turned}
use Rattle.char_function.specs.inner.Columns.{part, varies}
use Rattle.decision_diagram.proofs.AllCodes.{none_lists, lists_fit}
use Rattle.decision_diagram.proofs.Fits.{size_some}
use Rattle.decision_diagram.proofs.ListItems.{read, read_within}
use Rattle.char_function.proofs.CodesByRank.{at_rank}
use Rattle.outcome_table.proofs.Columns.{all_long}
use Rattle.polis_base.proofs.ListTests.{any_of_flat_map, any_of_map, any_same_below}
use Rattle.polis_base.proofs.Places.{get_map, length_map}

-- ---- some number below another
pub any_append : {X : Type 0} (p : X → Bool) (xs ys : List X)
    → list_any p (xs ++ ys) ≡ (list_any p xs || list_any p ys)
any_append p [] ys = refl
any_append p (x ∷ xs) ys = ap (λ (b : Bool). p x || b) (any_append p xs ys)
    ∙ assoc (p x) (list_any p xs) (list_any p ys)
  where
    assoc : (a b c : Bool) → (a || (b || c)) ≡ ((a || b) || c)
    assoc true b c = refl
    assoc false b c = refl

pub any_found : (p : ℕ → Bool) (n k : ℕ) → k < n → p k ≡ true → list_any p (upto n) ≡ true
any_found p zero k low on = absurd (omega arith)
any_found p (suc n) k low on =
    any_append p (upto n) (n ∷ [])
    ∙ ⊎_elim
    (λ less. or_left (list_any p (upto n)) (p n || false) (any_found p n k less on))
    (λ more. let same : n ≡ k = omega arith in
    or_right (list_any p (upto n)) (p n || false) (or_left (p n) false (ap p same ∙ on)))
    (cases_lt k n)

-- ---- parts
-- the values over the first variable and those results_after it
values : (List ℕ → ℕ) → List ℕ → List ℕ
values g sizes = map g (all_codes sizes)

values_long : (g : List ℕ → ℕ) (sizes : List ℕ) → length (values g sizes) ≡ product sizes
unfolding values
values_long g sizes = length_map g (all_codes sizes) ∙ all_long sizes

values_at : (g : List ℕ → ℕ) (sizes codes : List ℕ) → fits sizes codes ≡ true
    → slice_index (values g sizes) (rank sizes codes) ≡ g codes
unfolding values
values_at g sizes codes fit =
    read (map g (all_codes sizes)) (rank sizes codes) (g codes) 0
    (get_map g (all_codes sizes) (rank sizes codes) codes (at_rank sizes codes fit))

share : (g : List ℕ → ℕ) (size : ℕ) (sizes : List ℕ) → 0 < size
    → length (values g (size ∷ sizes)) / size ≡ product sizes
share g size sizes some = ap (λ (n : ℕ). n / size) (values_long g (size ∷ sizes))
    ∙ mul-div_cancel_left (product sizes) some

index_range : (xs : List ℕ) (a b j : ℕ) → a + j < b → b ≤ length xs
    → slice_index (slice_range xs a b) j ≡ slice_index xs (a + j)
index_range xs a b j low high = get_or-take (b - a) (drop a xs) j 0 (omega arith)
    ∙ get_or-drop a xs j 0

long_range : (xs : List ℕ) (a b : ℕ) → a ≤ b → b ≤ length xs → length (slice_range xs a b) ≡ b - a
long_range xs a b low high = let t = length-take (b - a) (drop a xs) in let d = length-drop a xs in
    omega arith

part_values : (g : List ℕ → ℕ) (size : ℕ) (sizes : List ℕ) (reach : RanksReach) → (code : ℕ)
    → code < size → part size (values g (size ∷ sizes)) code ≡ values (λ s. g (code ∷ s)) sizes
part_values g size sizes reach code low =
    let w = product sizes in
    let all : List ℕ = values g (size ∷ sizes) in
    let whole = values_long g (size ∷ sizes) in
    let e : length all / size ≡ w = share g size sizes (omega arith) in
    let long = values_long (λ s. g (code ∷ s)) sizes in
    let inside : code * w + w ≤ size * w = within code size w low in
    let range : length (slice_range all (code * w) (code * w + w)) ≡ w = let r =
    long_range all (code * w) (code * w + w) (omega arith) (omega arith) in omega arith in
    ap (λ (n : ℕ). slice_range all (code * n) (code * n + n)) e
    ∙ same_number_lists (slice_range all (code * w) (code * w + w))
    (values (λ s. g (code ∷ s)) sizes) (omega arith) (λ j less.
    let here = reach sizes j (omega arith) in
    let s = here.0 in
    let at : rank sizes s ≡ j = here.2 in
    let fit : fits (size ∷ sizes) (code ∷ s) ≡ true =
    and_from (ltb code size) (fits sizes s) (lt-ltb code size low) here.1 in
    index_range all (code * w) (code * w + w) j (omega arith) (omega arith)
    ∙ ap (λ (k : ℕ). slice_index all (code * w + k)) (sym at)
    ∙ values_at g (size ∷ sizes) (code ∷ s) fit
    ∙ sym (values_at (λ s. g (code ∷ s)) sizes s here.1)
    ∙ ap (slice_index (values (λ s. g (code ∷ s)) sizes)) at)
  where
    within : (code size w : ℕ) → code < size → code * w + w ≤ size * w
    within code zero w low = absurd (omega arith)
    within zero (suc size) w low = omega arith
    within (suc code) (suc size) w low = let h = within code size w (omega arith) in omega arith

-- ---- the first variable
-- neighbours are equal
abbrev Level : (List ℕ → ℕ) → ℕ → List ℕ → Type 0
Level g size sizes = (s : List ℕ) → fits sizes s ≡ true → (c : ℕ) → c + 1 < size
    → g ((c + 1) ∷ s) ≡ g (c ∷ s)

level_first : (g : List ℕ → ℕ) (size : ℕ) (sizes : List ℕ) → Level g size sizes → (s : List ℕ)
    → fits sizes s ≡ true → (c : ℕ) → c < size → g (c ∷ s) ≡ g (0 ∷ s)
level_first g size sizes flat s fit zero low = refl
level_first g size sizes flat s fit (suc c) low =
    let e : c + 1 ≡ suc c = omega arith in
    (rw e at (flat s fit c (omega arith))) ∙ level_first g size sizes flat s fit c (omega arith)

-- the place of a code's value
value_at : (g : List ℕ → ℕ) (size : ℕ) (sizes s : List ℕ) (c : ℕ) → fits sizes s ≡ true → c < size
    → slice_index (values g (size ∷ sizes)) (c * product sizes + rank sizes s) ≡ g (c ∷ s)
value_at g size sizes s c fit low =
    values_at g (size ∷ sizes) (c ∷ s)
    (and_from (ltb c size) (fits sizes s) (lt-ltb c size low) fit)

neighbour : (c w r : ℕ) → (c + 1) * w + r ≡ w + (c * w + r)
neighbour c w r = omega arith

module _ (reach : RanksReach) (g : List ℕ → ℕ) (size : ℕ) (sizes : List ℕ) (some : 0 < size) where
  abbrev whole : List ℕ
  whole = values g (size ∷ sizes)

  abbrev w : ℕ
  w = product sizes

  abbrev fronts : List ℕ
  fronts = take (length whole - w) whole

  abbrev backs : List ℕ
  backs = slice_range whole w (length whole)

  whole_long : length whole ≡ size * w
  whole_long = values_long g (size ∷ sizes)

  wide : w ≤ size * w
  wide = go size some
    where
      go : (size : ℕ) → 0 < size → w ≤ size * w
      go zero low = absurd (omega arith)
      go (suc size) low = omega arith

  fronts_long : length fronts ≡ size * w - w
  fronts_long = let t = length-take (length whole - w) whole in let l = whole_long in
      let h = wide in omega arith

  backs_long : length backs ≡ size * w - w
  backs_long = let l = whole_long in let h = wide in
      let r = long_range whole w (length whole) (omega arith) (omega arith) in omega arith

  front_at : (j : ℕ) → j < size * w - w → slice_index fronts j ≡ slice_index whole j
  front_at j low = let l = whole_long in get_or-take (length whole - w) whole j 0 (omega arith)

  back_at : (j : ℕ) → j < size * w - w → slice_index backs j ≡ slice_index whole (w + j)
  back_at j low = let l = whole_long in let h = wide in
      index_range whole w (length whole) j (omega arith) (omega arith)

  below_last : (c r : ℕ) → c + 1 < size → r < w → c * w + r < size * w - w
  below_last c r low less = let h = grid (c + 1) size w low in omega arith
    where
      grid : (a n w : ℕ) → a < n → a * w + w ≤ n * w
      grid a zero w low = absurd (omega arith)
      grid zero (suc n) w low = omega arith
      grid (suc a) (suc n) w low = let h = grid a n w (omega arith) in omega arith

  rank_low : (s : List ℕ) → fits sizes s ≡ true → rank sizes s < w
  rank_low s fit = let within =
      read_within (all_codes sizes) (rank sizes s) s (at_rank sizes s fit) in
      let l = all_long sizes in omega arith

  same_flat : is_same fronts backs ≡ true → Level g size sizes
  same_flat same s fit c low =
      let e : fronts ≡ backs = same_text fronts backs (sym same) in
      let r = rank sizes s in
      let less : r < w = rank_low s fit in
      let j : ℕ = c * w + r in
      let inside : j < size * w - w = below_last c r low less in
      sym (value_at g size sizes s (c + 1) fit low)
      ∙ ap (slice_index whole) (neighbour c w r)
      ∙ sym (back_at j inside)
      ∙ ap (λ (xs : List ℕ). slice_index xs j) (sym e)
      ∙ front_at j inside
      ∙ value_at g size sizes s c fit (omega arith)

  flat_same : Level g size sizes → is_same fronts backs ≡ true
  flat_same flat =
      let e : fronts ≡ backs =
      same_number_lists fronts backs (fronts_long ∙ sym backs_long) (λ j low.
      let inside : j < size * w - w = omega (arith, fronts_long) in
      let there = reach (size ∷ sizes) j (omega arith) in
      one j inside there.0 there.1 there.2)
      in
      ap (is_same fronts) (sym e) ∙ same_self fronts
    where
      one : (j : ℕ) → j < size * w - w → (codes : List ℕ) → fits (size ∷ sizes) codes ≡ true
          → rank (size ∷ sizes) codes ≡ j → slice_index fronts j ≡ slice_index backs j
      one j inside [] fit at = absurd (true≢false (sym fit))
      one j inside (c ∷ s) fit at =
          let parts = and_parts (ltb c size) (fits sizes s) fit in
          let c_low = ltb-true c size parts.0 in
          let r = rank sizes s in
          let sum : c * w + r ≡ j = at in
          let room : c + 1 < size =
          ⊎_elim (λ less. less) (λ full. let last : size ≡ c + 1 = omega arith in
          absurd (let h : size * w ≡ (c + 1) * w = ap (λ (n : ℕ). n * w) last in omega arith))
          (cases_lt (c + 1) size) in
          front_at j inside
          ∙ ap (slice_index whole) (sym sum)
          ∙ value_at g size sizes s c parts.1 c_low
          ∙ sym (flat s parts.1 c room)
          ∙ sym (value_at g size sizes s (c + 1) parts.1 room)
          ∙ ap (slice_index whole) (neighbour c w r ∙ ap (λ (k : ℕ). w + k) sum)
          ∙ sym (back_at j inside)

  -- another code of the first variable changes nothing
  flat_still : Level g size sizes → moves g (size ∷ sizes) 0 ≡ false
  flat_still flat =
      false_from_ne_true (moves g (size ∷ sizes) 0) (λ on.
      let there = some_item (fits (size ∷ sizes)) (λ s. list_any (turned g 0 s) (upto size))
      (all_codes (size ∷ sizes)) (lists_fit (size ∷ sizes)) on in
      let code = some_item (λ k. ltb k size) (turned g 0 there.0) (upto size)
      (upto_all (λ k. ltb k size) size (λ k low. lt-ltb k size low)) there.2 in
      one there.0 code.0 there.1 (ltb-true code.0 size code.1) code.2)
    where
      one : (codes : List ℕ) (k : ℕ) → fits (size ∷ sizes) codes ≡ true → k < size
          → turned g 0 codes k ≡ true → ⊥
      one [] k fit low on = true≢false (sym fit)
      one (c ∷ s) k fit low on =
          let parts = and_parts (ltb c size) (fits sizes s) fit in
          let same : g (k ∷ s) ≡ g (c ∷ s) =
          level_first g size sizes flat s parts.1 k low
          ∙ sym (level_first g size sizes flat s parts.1 c (ltb-true c size parts.0)) in
          true≢false (sym on ∙ ap not (eq-eqb (g (k ∷ s)) (g (c ∷ s)) same))

  still_flat : moves g (size ∷ sizes) 0 ≡ false → Level g size sizes
  still_flat still s fit c low =
      let here = none_lists (size ∷ sizes) (λ s. list_any (turned g 0 s) (upto size)) still (c ∷ s)
      (and_from (ltb c size) (fits sizes s) (lt-ltb c size (omega arith)) fit) in
      let same = none_upto (turned g 0 (c ∷ s)) size here (c + 1) low in
      eqb-true (g ((c + 1) ∷ s)) (g (c ∷ s)) (not_false (g ((c + 1) ∷ s) == g (c ∷ s)) same)
    where
      not_false : (b : Bool) → not b ≡ false → b ≡ true
      not_false true h = refl
      not_false false h = absurd (true≢false h)

  varies_first : not (is_same fronts backs) ≡ moves g (size ∷ sizes) 0
  varies_first =
      ⊎_elim
      (λ same. ap not same ∙ sym (flat_still (same_flat same)))
      (λ other. ap not other
      ∙ sym (true_from_ne_false (moves g (size ∷ sizes) 0)
      (λ still. true≢false (sym (flat_same (still_flat still)) ∙ other))))
      (cases_Bool (is_same fronts backs))

pub varies_moves : RanksReach → (g : List ℕ → ℕ) (sizes : List ℕ) (v : ℕ) → are_sizes sizes ≡ true
    → v < length sizes → varies sizes v (map g (all_codes sizes)) ≡ moves g sizes v
unfolding values
varies_moves reach g [] v sized low = absurd (omega arith)
varies_moves reach g (size ∷ sizes) zero sized low =
    let some = size_some (size ∷ sizes) sized 0 (omega arith) in
    let e = share g size sizes (omega arith) in
    let all : List ℕ = map g (all_codes (size ∷ sizes)) in
    ap (λ (n : ℕ). not (is_same (take (length all - n) all) (slice_range all n (length all)))) e
    ∙ varies_first reach g size sizes (omega arith)
varies_moves reach g (size ∷ sizes) (suc v) sized low =
    let rest : are_sizes sizes ≡ true =
    (and_parts (leb 1 size && leb size 33) (are_sizes sizes) sized).1 in
    let all : List ℕ = map g (all_codes (size ∷ sizes)) in
    any_same_below (λ code. varies sizes v (part size all code))
    (λ code. moves (λ s. g (code ∷ s)) sizes v) size (λ code less.
    ap (varies sizes v) (part_values g size sizes reach code less)
    ∙ varies_moves reach (λ s. g (code ∷ s)) sizes v rest (omega arith))
    ∙ sym
    (any_of_flat_map (λ s. list_any (turned g (suc v) s) (upto (slice_index sizes v)))
    (each_after (all_codes sizes)) (upto size)
    ∙ any_same_below (λ code. list_any (λ s. list_any (turned g (suc v) s) (upto (slice_index sizes v)))
    (each_after (all_codes sizes) code)) (λ code. moves (λ s. g (code ∷ s)) sizes v) size
    (λ code less.
    any_of_map (λ s. list_any (turned g (suc v) s) (upto (slice_index sizes v))) (λ s. code ∷ s)
    (all_codes sizes)))
