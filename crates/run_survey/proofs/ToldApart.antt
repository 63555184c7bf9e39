-- The first kinds, and the runs of the rest, with one kind more.
use Rattle.std.proofs.Common.{◌≡◌, ◌⊎◌, ℕ, suc, ◌+◌, ◌<◌, ◌≤◌, Bool, true, false, cond, not, ◌||◌, ltb, List, [], ◌∷◌, ◌++◌, length, take, drop, set, get_or, position, sum_by, Option, Some, None, refl, sym, ap, subst, ◌∙◌, zero-add, one-add, inl, inr, arith}
use Rattle.std.specs.List.{list_any, position_or_len}
use Rattle.std.proofs.lemmas.Bool.{cases_lt, false≢true, false_from_ne_true, le-ltb, lt-ltb, ltb-true, or_parts}
use Rattle.std.proofs.lemmas.List.{append-nil, drop_all, drop_at, drop_more, length-append, length-set, length-take, length-take-le, take_all, take_at, take-append-drop}
use Rattle.std.proofs.lemmas.List.Sums.{get_or-le-sum_by, sum_by-cons, sum_by-set, sum_by-take-drop, sum_by_push}
use Rattle.std.proofs.lemmas.Option.{cond_some}
use Rattle.run_survey.specs.declared.told.Kind.{Kind}
use Rattle.run_survey.specs.declared.told.Others.{Others}
use Rattle.run_survey.specs.inner.Merging.{AreTold, count_of, gathered, has_outputs, merged, more, others_count, run_count, with_runs}
use Rattle.run_survey.proofs.MergedKinds.{merged_out}
use Rattle.run_survey.proofs.Places.{position_out}

-- ---- the first that passes

pub position_any : {X : Type 0} (p : X → Bool) (xs : List X) → list_any p xs ≡ true
    → position_or_len p xs < length xs
position_any p [] some = absurd (false≢true some)
position_any {X} p (x ∷ xs) some = cases (p x) some (position_any p xs)
  where
    cases : (b : Bool) → (b || list_any p xs) ≡ true
        → (list_any p xs ≡ true → position_or_len p xs < length xs)
        → cond (not b) (1 + position_or_len p xs) 0 < suc (length xs)
    cases true h rest = omega arith
    cases false h rest = let below = rest h in omega arith

pub some_place : {X : Type 0} (p : X → Bool) (xs : List X) (k : ℕ) → position p xs ≡ Some k
    → (position_or_len p xs < length xs) × (position_or_len p xs ≡ k)
some_place p xs k is =
    let parts = cond_some (ltb (position_or_len p xs) (length xs)) (position_or_len p xs) k is in
    (ltb-true (position_or_len p xs) (length xs) parts.0, parts.1)

pub no_place : {X : Type 0} (p : X → Bool) (xs : List X) → position p xs ≡ None
    → list_any p xs ≡ false
no_place {X} p xs is =
    false_from_ne_true (list_any p xs) (λ some.
    let there : position p xs ≡ Some (position_or_len p xs) =
    ap (λ (b : Bool). cond b (Some (position_or_len p xs)) None)
    (lt-ltb (position_or_len p xs) (length xs) (position_any p xs some)) in
    let clash : None ≡ Some (position_or_len p xs) = sym is ∙ there in cc)

pub place_at : {X : Type 0} (p : X → Bool) (xs : List X) (k : ℕ) (x : X)
    → list_any p (take k xs) ≡ false → k < length xs → x ≡ get_or xs k x → p x ≡ true
    → position p xs ≡ Some k
place_at {X} p xs k x none inside at passes =
    let size : length (take k xs) ≡ k = length-take-le k xs (omega arith) in
    let here : position_or_len p (drop k xs) ≡ 0 =
    ap (position_or_len p) (drop_more xs k x inside)
    ∙ ap (λ (y : X). position_or_len p (y ∷ drop (k + 1) xs)) (sym at)
    ∙ ap (λ (b : Bool). cond (not b) (1 + position_or_len p (drop (k + 1) xs)) 0) passes in
    let front = position_out p (take k xs) (drop k xs) none in
    let whole : position_or_len p xs ≡ position_or_len p (take k xs ++ drop k xs) =
    ap (position_or_len p) (sym (take-append-drop k xs)) in
    let is : position_or_len p xs ≡ k = omega arith in
    ap (λ (n : ℕ). cond (ltb n (length xs)) (Some n) None) is
    ∙ ap (λ (b : Bool). cond b (Some k) None) (lt-ltb k (length xs) inside)

pub place_nowhere : {X : Type 0} (p : X → Bool) (xs : List X) (k : ℕ)
    → list_any p (take k xs) ≡ false → length xs ≤ k → position p xs ≡ None
place_nowhere {X} p xs k none past =
    let all : list_any p xs ≡ false = ap (list_any p) (sym (take_all k xs past)) ∙ none in
    let end = position_out p xs [] all in
    let whole : position_or_len p xs ≡ position_or_len p (xs ++ []) =
    ap (position_or_len p) (sym (append-nil xs)) in
    ap (λ (b : Bool). cond b (Some (position_or_len p xs)) None)
    (le-ltb (position_or_len p xs) (length xs) (omega arith))

-- ---- one kind more

merged_at : (kinds rest : List Kind) (next d : Kind)
    → position_or_len (has_outputs next.outputs) kinds < length kinds
    → merged (kinds ++ rest) next
    ≡ set kinds (position_or_len (has_outputs next.outputs) kinds)
    (more (get_or kinds (position_or_len (has_outputs next.outputs) kinds) d) next.count) ++ rest
merged_at [] rest next d inside = absurd (omega arith)
merged_at (k ∷ kinds) rest next d inside =
    cases (has_outputs next.outputs k) inside (merged_at kinds rest next d)
  where
    tail : ℕ
    tail = position_or_len (has_outputs next.outputs) kinds

    changed : ℕ → List Kind
    changed n = set (k ∷ kinds) n (more (get_or (k ∷ kinds) n d) next.count) ++ rest

    cases : (b : Bool)
        → cond (not b) (1 + position_or_len (has_outputs next.outputs) kinds) 0
        < suc (length kinds)
        → (position_or_len (has_outputs next.outputs) kinds < length kinds
        → merged (kinds ++ rest) next
        ≡ set kinds (position_or_len (has_outputs next.outputs) kinds)
        (more (get_or kinds (position_or_len (has_outputs next.outputs) kinds) d) next.count)
        ++ rest)
        → cond b (more k next.count ∷ (kinds ++ rest)) (k ∷ merged (kinds ++ rest) next)
        ≡ set (k ∷ kinds) (cond (not b) (1 + position_or_len (has_outputs next.outputs) kinds) 0)
        (more
        (get_or (k ∷ kinds) (cond (not b) (1 + position_or_len (has_outputs next.outputs) kinds) 0)
        d) next.count) ++ rest
    cases true h more_on = refl
    cases false h more_on =
        ap (λ (l : List Kind). k ∷ l) (more_on (omega arith))
        ∙ ap (λ (n : ℕ). set (k ∷ kinds) n (more (get_or (k ∷ kinds) n d) next.count) ++ rest)
        (sym (one-add (position_or_len (has_outputs next.outputs) kinds)))

merged_after : (kinds rest : List Kind) (next : Kind)
    → list_any (has_outputs next.outputs) kinds ≡ false
    → merged (kinds ++ rest) next ≡ kinds ++ merged rest next
merged_after [] rest next none = refl
merged_after (k ∷ kinds) rest next none =
    let parts = or_parts (has_outputs next.outputs k) (list_any (has_outputs next.outputs) kinds)
    none in
    ap (λ (b : Bool). cond b (more k next.count ∷ (kinds ++ rest))
    (k ∷ merged (kinds ++ rest) next)) parts.0
    ∙ ap (λ (l : List Kind). k ∷ l) (merged_after kinds rest next parts.1)

-- other items in the first n places
record AreFirst (n : ℕ) (front rest all : List Kind) : Type 0 where
  front_is : take n all ≡ front
  rest_is : drop n all ≡ rest

first_full : (n : ℕ) (front rest : List Kind) → length front ≡ n
    → AreFirst n front rest (front ++ rest)
first_full n front rest long = record {
  front_is = take_at front rest n long;
  rest_is = drop_at front rest n long;
}

first_few : (n : ℕ) (front : List Kind) → length front ≤ n → AreFirst n front [] front
first_few n front few = record {
  front_is = take_all n front few;
  rest_is = drop_all n front few;
}

changed_front : (n : ℕ) (all front : List Kind) → length front ≡ length (take n all)
    → AreFirst n front (drop n all) (front ++ drop n all)
changed_front n all front long = cases (cases_lt (length all) n)
  where
    cases : ((length all < n) ⊎ (n ≤ length all))
        → AreFirst n front (drop n all) (front ++ drop n all)
    cases (inr many) =
        first_full n front (drop n all) (let e = length-take n all in omega arith)
    cases (inl few) =
        let none : [] ≡ drop n all = sym (drop_all n all (omega arith)) in
        let size = length-take n all in
        subst (λ (l : List Kind). AreFirst n front l (front ++ l)) none
        (subst (AreFirst n front []) (sym (append-nil front)) (first_few n front (omega arith)))

-- ---- the others

sum_merged : (kinds : List Kind) (next : Kind)
    → sum_by count_of (merged kinds next) ≡ sum_by count_of kinds + next.count
sum_merged [] next = refl
sum_merged (k ∷ kinds) next = cases (has_outputs next.outputs k) (sum_merged kinds next)
  where
    cases : (b : Bool)
        → sum_by count_of (merged kinds next) ≡ sum_by count_of kinds + next.count
        → sum_by count_of (cond b (more k next.count ∷ kinds) (k ∷ merged kinds next))
        ≡ sum_by count_of (k ∷ kinds) + next.count
    cases true rest =
        let one = sum_by-cons count_of (more k next.count) kinds in
        let other = sum_by-cons count_of k kinds in
        omega arith
    cases false rest =
        let one = sum_by-cons count_of k (merged kinds next) in
        let other = sum_by-cons count_of k kinds in
        omega arith

abbrev others : ℕ → ℕ → Option Others
others count seed = Some (record { count = count; seed = seed })

gathered_more : (kinds : List Kind) (next : Kind)
    → gathered (merged kinds next) ≡ with_runs (gathered kinds) next
gathered_more [] next = ap (λ (n : ℕ). others n next.seed) (zero-add next.count)
gathered_more (k ∷ kinds) next =
    cases (has_outputs next.outputs k) (sum_merged (k ∷ kinds) next)
  where
    cases : (b : Bool)
        → sum_by count_of (cond b (more k next.count ∷ kinds) (k ∷ merged kinds next))
        ≡ sum_by count_of (k ∷ kinds) + next.count
        → gathered (cond b (more k next.count ∷ kinds) (k ∷ merged kinds next))
        ≡ others (sum_by count_of (k ∷ kinds) + next.count) k.seed
    cases true sum = ap (λ (n : ℕ). others n k.seed) sum
    cases false sum = ap (λ (n : ℕ). others n k.seed) sum

-- ---- what is told apart, with one kind more

pub told_found : (n : ℕ) (all kinds : List Kind) (rest : Option Others) (next x : Kind) (k : ℕ)
    (new : List Kind) → AreTold n all kinds rest
    → position (has_outputs next.outputs) kinds ≡ Some k → x ≡ get_or kinds k x
    → new ≡ set kinds k (more x next.count) → AreTold n (merged all next) new rest
told_found n all kinds rest next x k new told place at is =
    let found = some_place (has_outputs next.outputs) kinds k place in
    let made : new
    ≡ set kinds (position_or_len (has_outputs next.outputs) kinds)
    (more (get_or kinds (position_or_len (has_outputs next.outputs) kinds) x) next.count) =
    is ∙ ap (λ (y : Kind). set kinds k (more y next.count)) at
    ∙ ap (λ (j : ℕ). set kinds j (more (get_or kinds j x) next.count)) (sym found.1) in
    let size : length new ≡ length (take n all) =
    ap (λ (l : List Kind). length l) is ∙ length-set kinds k (more x next.count)
    ∙ ap (λ (l : List Kind). length l) told.apart in
    let whole : merged all next ≡ new ++ drop n all =
    ap (λ (l : List Kind). merged l next)
    (sym (take-append-drop n all)
    ∙ ap (λ (l : List Kind). l ++ drop n all) (sym told.apart))
    ∙ merged_at kinds (drop n all) next x found.0
    ∙ ap (λ (l : List Kind). l ++ drop n all) (sym made) in
    let first = subst (AreFirst n new (drop n all)) (sym whole) (changed_front n all new size) in
    record {
      apart = sym first.front_is;
      rest = told.rest ∙ ap gathered (sym first.rest_is);
    }

pub told_new : (n : ℕ) (all kinds : List Kind) (rest : Option Others) (next : Kind)
    (new : List Kind) → AreTold n all kinds rest
    → position (has_outputs next.outputs) kinds ≡ None → length kinds < n
    → new ≡ kinds ++ next ∷ [] → AreTold n (merged all next) new rest
told_new n all kinds rest next new told place few is =
    let none = no_place (has_outputs next.outputs) kinds place in
    let size = length-take n all in
    let same : length kinds ≡ length (take n all) = ap (λ (l : List Kind). length l) told.apart in
    let all_is : kinds ≡ all = told.apart ∙ take_all n all (omega arith) in
    let whole : merged all next ≡ new =
    ap (λ (l : List Kind). merged l next) (sym all_is) ∙ merged_out kinds next none ∙ sym is in
    let longer : length new ≡ length kinds + 1 =
    ap (λ (l : List Kind). length l) is ∙ length-append kinds (next ∷ []) in
    let first = subst (AreFirst n new []) (sym whole) (first_few n new (omega arith)) in
    record {
      apart = sym first.front_is;
      rest =
          told.rest ∙ ap gathered (drop_all n all (omega arith)) ∙ ap gathered (sym first.rest_is);
    }

pub told_other : (n : ℕ) (all kinds : List Kind) (rest : Option Others) (next : Kind)
    (new : Option Others) → AreTold n all kinds rest
    → position (has_outputs next.outputs) kinds ≡ None → n ≤ length kinds
    → new ≡ with_runs rest next → AreTold n (merged all next) kinds new
told_other n all kinds rest next new told place full is =
    let none = no_place (has_outputs next.outputs) kinds place in
    let size = length-take n all in
    let same : length kinds ≡ length (take n all) = ap (λ (l : List Kind). length l) told.apart in
    let whole : merged all next ≡ kinds ++ merged (drop n all) next =
    ap (λ (l : List Kind). merged l next)
    (sym (take-append-drop n all)
    ∙ ap (λ (l : List Kind). l ++ drop n all) (sym told.apart))
    ∙ merged_after kinds (drop n all) next none in
    let first = subst (AreFirst n kinds (merged (drop n all) next)) (sym whole)
    (first_full n kinds (merged (drop n all) next) (omega arith)) in
    record {
      apart = sym first.front_is;
      rest =
          is ∙ ap (λ (o : Option Others). with_runs o next) told.rest
          ∙ sym (gathered_more (drop n all) next) ∙ ap gathered (sym first.rest_is);
    }

-- ---- how many runs these are

pub count_found : (kinds : List Kind) (rest : Option Others) (next x : Kind) (k : ℕ)
    (new : List Kind) → position (has_outputs next.outputs) kinds ≡ Some k → x ≡ get_or kinds k x
    → new ≡ set kinds k (more x next.count)
    → run_count new rest ≡ run_count kinds rest + next.count
count_found kinds rest next x k new place at is =
    let found = some_place (has_outputs next.outputs) kinds k place in
    let inside : k < length kinds = omega arith in
    let sum = sum_by-set count_of kinds k (more x next.count) x inside in
    let here : (get_or kinds k x).count ≡ x.count = ap count_of (sym at) in
    let made = ap (sum_by count_of) is in
    omega arith

pub kind_below : (kinds : List Kind) (rest : Option Others) (next x : Kind) (k : ℕ)
    → position (has_outputs next.outputs) kinds ≡ Some k → x ≡ get_or kinds k x
    → x.count ≤ run_count kinds rest
kind_below kinds rest next x k place at =
    let found = some_place (has_outputs next.outputs) kinds k place in
    let below = get_or-le-sum_by count_of kinds k x (omega arith) in
    let here : (get_or kinds k x).count ≡ x.count = ap count_of (sym at) in
    omega arith

pub count_new : (kinds : List Kind) (rest : Option Others) (next : Kind) (new : List Kind)
    → new ≡ kinds ++ next ∷ [] → run_count new rest ≡ run_count kinds rest + next.count
count_new kinds rest next new is =
    let sum = sum_by_push count_of kinds next in
    let made = ap (sum_by count_of) is in
    omega arith

pub count_other : (kinds : List Kind) (rest : Option Others) (next : Kind) (new : Option Others)
    → new ≡ with_runs rest next → run_count kinds new ≡ run_count kinds rest + next.count
count_other kinds rest next new is =
    let made = ap others_count is in let one = counted rest in omega arith
  where
    counted : (o : Option Others)
        → others_count (with_runs o next) ≡ others_count o + next.count
    counted None = sym (zero-add next.count)
    counted (Some o) = refl

-- the runs of all kinds
pub count_told : (n : ℕ) (all kinds : List Kind) (rest : Option Others) → AreTold n all kinds rest
    → run_count kinds rest ≡ sum_by count_of all
count_told n all kinds rest told =
    let parts = sum_by-take-drop count_of all n in
    let one = ap (sum_by count_of) told.apart in
    let other = ap others_count told.rest ∙ gathered_sum (drop n all) in
    omega arith
  where
    gathered_sum : (l : List Kind) → others_count (gathered l) ≡ sum_by count_of l
    gathered_sum [] = refl
    gathered_sum (k ∷ l) = refl
