-- The rows that allow the codes of the last variables, and the numbers that they give.
use Rattle.std.proofs.Common.{◌≡◌, ℕ, zero, suc, ◌+◌, ◌-◌, ◌<◌, ◌≤◌, Bool, true, cond, ◌&&◌, List, ◌∷◌, ◌++◌, map, flat_map, length, take, drop, get_or, slice_get, slice_index, Option, None, Some, refl, ap, sym, ◌∙◌, subst, inl, inr, arith, nat_lt, length-append, IfSome, []}
use Rattle.std.specs.Prelude.{filter}
use Rattle.std.proofs.Math.Seq.{drop-cons, take-length}
use Rattle.std.proofs.lemmas.Bool.{cases_lt, lt-ltb}
use Rattle.std.proofs.lemmas.List.{append-nil, append_assoc, get_or_append_left, get_or-append-add, get_or_push, length_push, length-take-le, map-append, take_more}
use Rattle.std.proofs.lemmas.Option.{get_or_from_slice_get, slice_get_within}
use Rattle.polis_base.specs.Lists.{upto}
use Rattle.domains.specs.AllCodes.{all_codes, each_after}
use Rattle.transition_table.specs.Computed.{result_codes}
use Rattle.transition_table.specs.Orders.{codes_of}
use Rattle.transition_table.specs.declared.machine.Machine.{Machine}
use Rattle.transition_table.specs.declared.row.Row.{Row}
use Rattle.outcome_table.specs.inner.Needs.{AreEnds}
use Rattle.outcome_table.specs.inner.Numbering.{Adds, BeginWithRows, may_be_enabled, rows_left}
use Rattle.polis_base.specs.Sets.{IsBoth, has_member}
use Rattle.outcome_table.specs.inner.RowSets.{IsSetOf}
use Rattle.outcome_table.specs.inner.Tails.{AddsBoth, EachNarrows, Narrows, number_under}
use Rattle.outcome_table.specs.declared.number.Numbered.{Numbered}
use Rattle.outcome_table.proofs.NumberedOutcomes.{adds_many, adds_on, same_before}
use Rattle.outcome_table.proofs.RowsLeft.{and_true, filter_places, narrowed, places_same}
use Rattle.polis_base.proofs.WideSets.{filter_twice}
use Rattle.outcome_table.proofs.Settled.{first_left, none_left}
use Rattle.polis_base.proofs.Places.{drop_whole, length_map}

filter_same : (p q : ℕ → Bool) (xs : List ℕ) → ((x : ℕ) → p x ≡ q x) → filter p xs ≡ filter q xs
filter_same p q [] each = refl
filter_same p q (x ∷ xs) each =
    ap (λ b. cond b (x ∷ filter p xs) (filter p xs)) (each x)
    ∙ ap (λ (ys : List ℕ). cond (q x) (x ∷ ys) ys) (filter_same p q xs each)

get_map : (f : List ℕ → List ℕ) (xs : List (List ℕ)) (i : ℕ) → i < length xs
    → get_or (map f xs) i [] ≡ f (get_or xs i [])
get_map f [] i low = absurd (omega arith)
get_map f (x ∷ xs) zero low = refl
get_map f (x ∷ xs) (suc i) low = get_map f xs i (omega arith)

-- ---- sets for the codes of no variable, and for one code more
narrows_none : (m : Machine) (from : ℕ) (set : List ℕ) → from ≡ length m.vars
    → ((r : ℕ) → has_member set r ≡ nat_lt r (length m.rows)) → Narrows m from [] set
narrows_none m from set end all = record {
  long = omega arith;
  left = λ fixed rows long is.
      ap (filter (has_member set)) is
      ∙ filter_places (may_be_enabled fixed) (λ (row : Row). true) (has_member set) 0 m.rows each
      ∙ places_same (λ (row : Row). may_be_enabled fixed row && true) (may_be_enabled fixed) 0
      m.rows (λ row. sym (and_true (may_be_enabled fixed row)))
      ∙ ap (rows_left m) (sym (append-nil fixed));
}
  where
    each : (i : ℕ) (row : Row) → slice_get m.rows i ≡ Some row → has_member set (0 + i) ≡ true
    each i row get =
        let inside = slice_get_within m.rows i row get in
        let e : 0 + i ≡ i = omega arith in
        ap (has_member set) e ∙ all i ∙ lt-ltb i (length m.rows) inside

narrows_more : (m : Machine) (a b set codes : List ℕ) (from code : ℕ) → IsSetOf m from code a
    → code < slice_index m.vars from → Narrows m (from + 1) codes b → IsBoth a b set
    → Narrows m from (code ∷ codes) set
narrows_more m a b set codes from code of_code small later both =
    let whole = later.long in
    record {
      long = omega arith;
      left = λ fixed rows long is.
          let first = narrowed m a fixed rows from code of_code (sym long) small is in
          let more = length_push fixed code in
          filter_same (has_member set) (λ r. has_member a r && has_member b r) rows both
          ∙ sym (filter_twice (has_member a) (has_member b) rows)
          ∙ later.left (fixed ++ code ∷ []) (filter (has_member a) rows) (omega arith) first
          ∙ ap (rows_left m) (append_assoc fixed (code ∷ []) codes);
    }

pub each_none : (m : Machine) (from : ℕ) (set : List ℕ) (sets : List (List ℕ))
    → from ≡ length m.vars → ((r : ℕ) → has_member set r ≡ nat_lt r (length m.rows))
    → sets ≡ set ∷ [] → EachNarrows m from (all_codes (drop from m.vars)) sets
each_none m from set sets end all is =
    let lists : all_codes (drop from m.vars) ≡ [] ∷ [] =
    ap (λ k. all_codes (drop k m.vars)) end ∙ ap all_codes (drop_whole m.vars) in
    subst (λ (ls : List (List ℕ)). EachNarrows m from ls sets) (sym lists)
    (subst (λ (ss : List (List ℕ)). EachNarrows m from ([] ∷ []) ss) (sym is)
    (record { long = refl; each = one }))
  where
    one : (j : ℕ) → j < 1 → Narrows m from (get_or ([] ∷ []) j []) (get_or (set ∷ []) j [])
    one zero low = narrows_none m from set end all
    one (suc j) low = absurd (omega arith)

pub each_more : (m : Machine) (a : List ℕ) (lists more later old new : List (List ℕ))
    (from code : ℕ) → IsSetOf m from code a → code < slice_index m.vars from
    → EachNarrows m (from + 1) more later → EachNarrows m from lists old → AddsBoth a later old new
    → EachNarrows m from (lists ++ map (λ codes. code ∷ codes) more) new
each_more m a lists more later old new from code of_code small rest before added =
    let long_old = before.long in
    let long_later = rest.long in
    let long_new = added.long in
    let next : List (List ℕ) = map (λ codes. code ∷ codes) more in
    let long_lists = length-append lists next in
    let long_next : length next ≡ length more = length_map (λ codes. code ∷ codes) more in
    record {
      long = omega arith;
      each = λ j low.
          elim (cases_lt j (length old)) [
            | inl below ↦
                let less : j < length old = below in
                subst (λ (set : List ℕ). Narrows m from (get_or (lists ++ next) j []) set)
                (sym (same_before old new j added.kept less))
                (subst (λ (codes : List ℕ). Narrows m from codes (get_or old j []))
                (sym (get_or_append_left lists next [] j (omega arith))) (before.each j less))
            | inr above ↦
                let high : length old ≤ j = above in
                let i = j - length old in
                let inside : i < length later = omega arith in
                let in_more : i < length more = omega arith in
                let of_old : length old + i ≡ j = omega arith in
                let of_lists : j ≡ length lists + i = omega arith in
                let own = narrows_more m a (get_or later i []) (get_or new (length old + i) [])
                (get_or more i []) from code of_code small (rest.each i inside)
                (added.each i inside) in
                let is : get_or (lists ++ next) j [] ≡ code ∷ get_or more i [] =
                ap (λ k. get_or (lists ++ next) k []) of_lists
                ∙ get_or-append-add lists next i []
                ∙ get_map (λ codes. code ∷ codes) more i in_more in
                subst (λ (codes : List ℕ). Narrows m from codes (get_or new j [])) (sym is)
                (subst (λ k. Narrows m from (code ∷ get_or more i []) (get_or new k [])) of_old own)
          ];
    }

pub lists_here : (vars : List ℕ) (from : ℕ) → from < length vars
    → flat_map (each_after (all_codes (drop (from + 1) vars))) (upto (slice_index vars from))
    ≡ all_codes (drop from vars)
lists_here vars from low =
    let e : suc from ≡ from + 1 = omega arith in
    sym (ap all_codes (drop-cons vars from 0 low ∙ ap (λ k. slice_index vars from ∷ drop k vars) e))

-- ---- one more set that is in both
pub take_first : {X : Type 0} (n : ℕ) (xs ys : List X) → n ≤ length xs
    → take n (xs ++ ys) ≡ take n xs
take_first zero xs ys most = refl
take_first (suc n) [] ys most = absurd (omega arith)
take_first {X = X} (suc n) (x ∷ xs) ys most =
    ap (λ (zs : List X). x ∷ zs) (take_first n xs ys (omega arith))

pub both_pushed : (set : List ℕ) (later made : List (List ℕ)) (x : List ℕ) (n j : ℕ)
    → length made ≡ n + j
    → ((k : ℕ) → k < j → IsBoth set (get_or later k []) (get_or made (n + k) []))
    → IsBoth set (get_or later j []) x
    → (k : ℕ) → k < j + 1 → IsBoth set (get_or later k []) (get_or (made ++ x ∷ []) (n + k) [])
both_pushed set later made x n j long each last k low =
    elim (cases_lt k j) [
      | inl below ↦
          let less : k < j = below in
          subst (λ (ys : List ℕ). IsBoth set (get_or later k []) ys)
          (sym (get_or_append_left made (x ∷ []) [] (n + k) (omega arith))) (each k less)
      | inr drop_whole ↦
          let more : j ≤ k = drop_whole in
          let here : j ≡ k = omega arith in
          let end : length made ≡ n + k = omega arith in
          subst (λ (ys : List ℕ). IsBoth set (get_or later k []) ys)
          (sym (get_or_push made x [] (n + k) end))
          (subst (λ i. IsBoth set (get_or later i []) x) here last)
    ]

-- ---- the rows that are left for one list of codes
pub record Left (m : Machine) (fixed rows set codes : List ℕ) : Type 0 where
  pub long : length (fixed ++ codes) ≡ length m.vars
  pub left : filter (has_member set) rows ≡ rows_left m (fixed ++ codes)

pub left_for : (m : Machine) (s rows set : List ℕ) (lists sets : List (List ℕ)) (from j : ℕ)
    → from < length m.vars → length s ≡ length m.vars → EachNarrows m from lists sets
    → rows ≡ rows_left m (take from s) → slice_get sets j ≡ Some set
    → Left m (take from s) rows set (get_or lists j [])
left_for m s rows set lists sets from j low long each is get =
    let inside = slice_get_within sets j set get in
    let own : Narrows m from (get_or lists j []) set =
    subst (Narrows m from (get_or lists j [])) (get_or_from_slice_get sets j set [] get)
    (each.each j inside) in
    let prefix : length (take from s) ≡ from = length-take-le from s (omega arith) in
    let whole = own.long in
    let both = length-append (take from s) (get_or lists j []) in
    record { long = omega arith; left = own.left (take from s) rows prefix is }

pub below_most : (first : Option ℕ) (k most : ℕ) → k ≤ most → IfSome first (λ r. r < k)
    → IfSome first (λ r. r < most)
below_most None k most few below = below
below_most (Some r) k most few below = let low : r < k = below in
    let more : r < most = omega arith in more

-- ---- the number of one list of codes
abbrev pub IsNumber : Machine → List (List ℕ) → List ℕ → ℕ → Type 0
IsNumber m outcomes full number = (number < length outcomes)
    × (get_or outcomes number [] ≡ result_codes m full)

pub number_is : (m : Machine) (plain : List Bool) (ends : List ℕ) (outcomes : List (List ℕ))
    (full : List ℕ) (first : Option ℕ) → BeginWithRows m plain outcomes → AreEnds m ends
    → ((r : ℕ) → r < length plain → slice_get plain r ≡ Some true) → length full ≡ length m.vars
    → first ≡ slice_get (rows_left m full) 0 → IsNumber m outcomes full (number_under first)
number_is m plain ends outcomes full None begins are all long is =
    let some = begins.some in (
      omega arith,
      begins.blank
          ∙ ap codes_of (sym (none_left m full [] (sym is)))
          ∙ ap (result_codes m) (append-nil full),
    )
number_is m plain ends outcomes full (Some r) begins are all long is =
    let first = first_left m full r (sym is) in
    let e : r - 0 ≡ r = omega arith in
    let there : slice_get m.rows r ≡ Some first.row =
    subst (λ k. slice_get m.rows k ≡ Some first.row) e first.at in
    let inside = slice_get_within m.rows r first.row there in
    let some = begins.some in
    let whole = begins.long in
    let end = are.each r first.row there in
    let most : slice_index ends r ≤ length full = let l = end.0 in omega arith in (
      omega arith,
      begins.rows r first.row there (all r (omega arith)) (full ++ [])
          ∙ ap codes_of (sym (first.gives (slice_index ends r) most end.1 []))
          ∙ ap (result_codes m) (append-nil full),
    )

pub adds_one : (m : Machine) (old made new : Numbered) (fixed : List ℕ) (lists : List (List ℕ))
    (j k : ℕ) → j < length lists → Adds m old made (map (λ codes. fixed ++ codes) (take j lists))
    → new.outcomes ≡ made.outcomes → new.numbers.items ≡ made.numbers.items ++ k ∷ []
    → IsNumber m made.outcomes (fixed ++ get_or lists j []) k
    → Adds m old new (map (λ codes. fixed ++ codes) (take (j + 1) lists))
adds_one m old made new fixed lists j k low before outcomes numbers is =
    let full : List ℕ = fixed ++ get_or lists j [] in
    let kept : take (length made.outcomes) new.outcomes ≡ made.outcomes =
    ap (take (length made.outcomes)) outcomes ∙ take-length made.outcomes in
    let small = is.0 in
    let long = ap (λ (xs : List (List ℕ)). length xs) outcomes in
    let gives : result_codes m full ≡ get_or new.outcomes k [] =
    sym (ap (λ (xs : List (List ℕ)). get_or xs k []) outcomes ∙ is.1) in
    let one : Adds m made new (full ∷ []) =
    adds_many m made new k 1 (full ∷ []) before.within kept numbers (omega arith)
    (ap (λ (c : List ℕ). c ∷ []) gives) in
    let more : map (λ codes. fixed ++ codes) (take j lists) ++ full ∷ []
    ≡ map (λ codes. fixed ++ codes) (take (j + 1) lists) =
    sym (ap (map (λ codes. fixed ++ codes)) (take_more lists j [] low)
    ∙ map-append (λ codes. fixed ++ codes) (take j lists) (get_or lists j [] ∷ [])) in
    subst (λ (ls : List (List ℕ)). Adds m old new ls) more
    (adds_on m old made new (map (λ codes. fixed ++ codes) (take j lists)) (full ∷ []) before one)
