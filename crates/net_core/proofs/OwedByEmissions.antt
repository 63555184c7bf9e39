-- The deliveries that emissions still owe.
use Rattle.std.specs.Prelude.{◌≡◌, ◌≢◌, ℕ, zero, suc, ◌<◌, ◌≤◌, Bool, true, false, cond, ◌&&◌, ◌==◌, List, ◌∷◌, ◌++◌, map, filter, length, drop, set, Some, find, option_map, []}
use Rattle.std.specs.Int.{bit_at}
use Rattle.std.specs.Option.{option_or}
use Rattle.std.proofs.Common.{refl, sym, ap, ◌∙◌, arith}
use Rattle.std.proofs.lemmas.List.{append-nil, drop-append-le}
use Rattle.std.proofs.lemmas.List.Concat.{flat_map-append}
use Rattle.std.proofs.lemmas.List.Elements.{filter-append}
use Rattle.std.proofs.lemmas.List.Folds.{find-append}
use Rattle.std.proofs.lemmas.Bool.{false≢true, and_parts}
use Rattle.std.proofs.lemmas.Nat.Bits.{bit_at-zero}
use Rattle.polis_base.specs.Lists.{head_of}
use Rattle.transition_table.specs.declared.decl.Party.TheVariants.{Machine as Sender}
use Rattle.journals.specs.Schedules.{is_way, without_first}
use Rattle.net_core.specs.declared.config.emissions.Emission.{Emission}
use Rattle.net_core.specs.Emissions.{waits, no_emission, nth, owed_to, waiting, all_waiting}
use Rattle.polis_base.specs.Sets.{members}
use Rattle.net_core.proofs.Bitsets.{none_is, one_is, without_one, none_past, find_none}
use Rattle.journals.proofs.DeliveriesOfWay.{filter_nothing, filter_of_map}
use Rattle.journals.proofs.OwedAfter.{drop_of_nothing}

-- ---- lists

find_of_map : {X Y : Type 0} (p : Y → Bool) (f : X → Y) (xs : List X)
    → find p (map f xs) ≡ option_map f (find (λ x. p (f x)) xs)
find_of_map p f [] = refl
find_of_map p f (x ∷ xs) =
    let rest = find_of_map p f xs in
    elim (p (f x)) as (λ b. cond b (Some (f x)) (find p (map f xs))
    ≡ option_map f (cond b (Some x) (find (λ y. p (f y)) xs))) [
      | true ↦ refl
      | false ↦ rest
    ]

without_of_map : {X Y : Type 0} (p : Y → Bool) (f : X → Y) (xs : List X)
    → without_first p (map f xs) ≡ map f (without_first (λ x. p (f x)) xs)
without_of_map p f [] = refl
without_of_map p f (x ∷ xs) =
    let rest = without_of_map p f xs in
    elim (p (f x)) as (λ b. cond b (map f xs) (f x ∷ without_first p (map f xs))
    ≡ map f (cond b xs (x ∷ without_first (λ y. p (f y)) xs))) [
      | true ↦ refl
      | false ↦ ap (λ l. f x ∷ l) rest
    ]

pub without_none : {X : Type 0} (t : X → Bool) (xs : List X) → filter t xs ≡ []
    → without_first t xs ≡ xs
without_none t [] h = refl
without_none t (x ∷ xs) h = cases (t x) h (without_none t xs)
  where
    cases : (b : Bool) → cond b (x ∷ filter t xs) (filter t xs) ≡ []
        → (filter t xs ≡ [] → without_first t xs ≡ xs) → cond b xs (x ∷ without_first t xs) ≡ x ∷ xs
    cases true h rest = cc
    cases false h rest = ap (λ l. x ∷ l) (rest h)

without_after : {X : Type 0} (t : X → Bool) (xs ys : List X) → filter t xs ≡ []
    → without_first t (xs ++ ys) ≡ xs ++ without_first t ys
without_after t [] ys h = refl
without_after t (x ∷ xs) ys h = cases (t x) h (without_after t xs ys)
  where
    cases : (b : Bool) → cond b (x ∷ filter t xs) (filter t xs) ≡ []
        → (filter t xs ≡ [] → without_first t (xs ++ ys) ≡ xs ++ without_first t ys)
        → cond b (xs ++ ys) (x ∷ without_first t (xs ++ ys)) ≡ x ∷ (xs ++ without_first t ys)
    cases true h rest = cc
    cases false h rest = ap (λ l. x ∷ l) (rest h)

without_in : {X : Type 0} (t : X → Bool) (xs ys : List X) (d : X) → find t xs ≡ Some d
    → without_first t (xs ++ ys) ≡ without_first t xs ++ ys
without_in t [] ys d h = cc
without_in t (x ∷ xs) ys d h = cases (t x) h (without_in t xs ys d)
  where
    cases : (b : Bool) → cond b (Some x) (find t xs) ≡ Some d
        → (find t xs ≡ Some d → without_first t (xs ++ ys) ≡ without_first t xs ++ ys)
        → cond b (xs ++ ys) (x ∷ without_first t (xs ++ ys))
        ≡ cond b xs (x ∷ without_first t xs) ++ ys
    cases true h rest = refl
    cases false h rest = ap (λ l. x ∷ l) (rest h)

-- ---- one emission

pub struck_waits : (s m : ℕ) → waits s m no_emission ≡ false
struck_waits s m = let none = bit_at-zero m in rw none (and_false (0 == s))
  where
    and_false : (b : Bool) → (b && false) ≡ false
    and_false true = refl
    and_false false = refl

pub none_waiting : (r : Emission) → r.left ≡ 0 → waiting r ≡ []
unfolding members
none_waiting r none =
    ap (λ left. map (owed_to r) (members left)) none
    ∙ ap (map (owed_to r))
    (none_past (λ m. bit_at 0 m == 1) 0 64 (omega arith)
    (λ k past. ap (λ b. b == 1) (bit_at-zero k)))

pub way_absent : (s m : ℕ) (r : Emission) → waits s m r ≡ false
    → filter (is_way (Sender s) m) (waiting r) ≡ []
unfolding members
way_absent s m r h =
    filter_of_map (is_way (Sender s) m) (owed_to r) (members r.left)
    ∙ ap (map (owed_to r)) (cases (r.from == s) refl)
  where
    cases : (b : Bool) → (r.from == s) ≡ b → filter (λ k. b && k == m) (members r.left) ≡ []
    cases true is =
        none_is (λ k. bit_at r.left k == 1) m 64 (sym (ap (λ b. b && bit_at r.left m == 1) is) ∙ h)
    cases false is = filter_nothing (members r.left)

pub way_present : (s m : ℕ) (r : Emission) → m < 64 → waits s m r ≡ true
    → find (is_way (Sender s) m) (waiting r) ≡ Some (owed_to r m)
unfolding members
way_present s m r within h =
    let parts = and_parts (r.from == s) (bit_at r.left m == 1) h in
    find_of_map (is_way (Sender s) m) (owed_to r) (members r.left)
    ∙ ap (λ b. option_map (owed_to r) (find (λ k. b && k == m) (members r.left))) parts.0
    ∙ ap (option_map (owed_to r)) (one_is (λ k. bit_at r.left k == 1) m 64 within parts.1)

-- one receiver less
pub way_taken : (s m rest : ℕ) (r new : Emission) → m < 64 → waits s m r ≡ true
    → new ≡ record r { left = rest } → bit_at rest m ≡ 0
    → ((k : ℕ) → k < 64 → k ≢ m → bit_at rest k ≡ bit_at r.left k)
    → waiting new ≡ without_first (is_way (Sender s) m) (waiting r)
unfolding members
way_taken s m rest r new within h is gone same =
    let parts = and_parts (r.from == s) (bit_at r.left m == 1) h in
    ap waiting is
    ∙ ap (map (owed_to r))
    (sym (without_one (λ k. bit_at r.left k == 1) (λ k. bit_at rest k == 1) m 64 within parts.1
    (ap (λ b. b == 1) gone) (λ k below other. ap (λ b. b == 1) (same k below other))))
    ∙ sym (without_of_map (is_way (Sender s) m) (owed_to r) (members r.left)
    ∙ ap (λ b. map (owed_to r) (without_first (λ k. b && k == m) (members r.left))) parts.0)

-- ---- all emissions

pub all_absent : (s m : ℕ) (records : List Emission) (front : ℕ)
    → ((i : ℕ) → front ≤ i → waits s m (nth records i) ≡ false)
    → filter (is_way (Sender s) m) (all_waiting (drop front records)) ≡ []
all_absent s m [] zero h = refl
all_absent s m [] (suc front) h = refl
all_absent s m (r ∷ records) zero h =
    filter-append (is_way (Sender s) m) (waiting r) (all_waiting records)
    ∙ ap (λ l. l ++ filter (is_way (Sender s) m) (all_waiting records))
    (way_absent s m r (h 0 (omega arith)))
    ∙ all_absent s m records 0 (λ i past. h (suc i) (omega arith))
all_absent s m (r ∷ records) (suc front) h =
    all_absent s m records front (λ i past. h (suc i) (omega arith))

-- the first emission for which m waits, with its place
pub find_at_place : (s m : ℕ) (records : List Emission) (front p : ℕ) → m < 64 → front ≤ p
    → ((i : ℕ) → front ≤ i → i < p → waits s m (nth records i) ≡ false)
    → waits s m (nth records p) ≡ true
    → find (is_way (Sender s) m) (all_waiting (drop front records))
    ≡ Some (owed_to (nth records p) m)
find_at_place s m [] front p within past before here =
    absurd (false≢true (sym (struck_waits s m) ∙ here))
find_at_place s m (r ∷ records) zero zero within past before here =
    find-append (is_way (Sender s) m) (waiting r) (all_waiting records)
    ∙ ap (λ o. option_or o (find (is_way (Sender s) m) (all_waiting records)))
    (way_present s m r within here)
find_at_place s m (r ∷ records) zero (suc p) within past before here =
    find-append (is_way (Sender s) m) (waiting r) (all_waiting records)
    ∙ ap (λ o. option_or o (find (is_way (Sender s) m) (all_waiting records)))
    (find_none (is_way (Sender s) m) (waiting r)
    (way_absent s m r (before 0 (omega arith) (omega arith))))
    ∙ find_at_place s m records 0 p within (omega arith)
    (λ i a b. before (suc i) (omega arith) (omega arith)) here
find_at_place s m (r ∷ records) (suc front) zero within past before here = absurd (omega arith)
find_at_place s m (r ∷ records) (suc front) (suc p) within past before here =
    find_at_place s m records front p within (omega arith)
    (λ i a b. before (suc i) (omega arith) (omega arith)) here

pub strike_at_place : (s m : ℕ) (records : List Emission) (front p : ℕ) (new : Emission) → m < 64
    → front ≤ p → ((i : ℕ) → front ≤ i → i < p → waits s m (nth records i) ≡ false)
    → waits s m (nth records p) ≡ true
    → waiting new ≡ without_first (is_way (Sender s) m) (waiting (nth records p))
    → all_waiting (drop front (set records p new))
    ≡ without_first (is_way (Sender s) m) (all_waiting (drop front records))
strike_at_place s m [] front p new within past before here is =
    absurd (false≢true (sym (struck_waits s m) ∙ here))
strike_at_place s m (r ∷ records) zero zero new within past before here is =
    ap (λ l. l ++ all_waiting records) is
    ∙ sym (without_in (is_way (Sender s) m) (waiting r) (all_waiting records) (owed_to r m)
    (way_present s m r within here))
strike_at_place s m (r ∷ records) zero (suc p) new within past before here is =
    ap (λ l. waiting r ++ l)
    (strike_at_place s m records 0 p new within (omega arith)
    (λ i a b. before (suc i) (omega arith) (omega arith)) here is)
    ∙ sym (without_after (is_way (Sender s) m) (waiting r) (all_waiting records)
    (way_absent s m r (before 0 (omega arith) (omega arith))))
strike_at_place s m (r ∷ records) (suc front) zero new within past before here is =
    absurd (omega arith)
strike_at_place s m (r ∷ records) (suc front) (suc p) new within past before here is =
    strike_at_place s m records front p new within (omega arith)
    (λ i a b. before (suc i) (omega arith) (omega arith)) here is

-- struck emissions may be passed
pub pass_struck : (records : List Emission) (a b : ℕ) → a ≤ b
    → ((i : ℕ) → a ≤ i → i < b → (nth records i).left ≡ 0)
    → all_waiting (drop b records) ≡ all_waiting (drop a records)
pass_struck [] a b within h =
    ap all_waiting (drop_of_nothing Emission b ∙ sym (drop_of_nothing Emission a))
pass_struck (r ∷ records) zero zero within h = refl
pass_struck (r ∷ records) zero (suc b) within h =
    pass_struck records 0 b (omega arith) (λ i low high. h (suc i) (omega arith) (omega arith))
    ∙ ap (λ l. l ++ all_waiting records) (sym (none_waiting r (h 0 (omega arith) (omega arith))))
pass_struck (r ∷ records) (suc a) zero within h = absurd (omega arith)
pass_struck (r ∷ records) (suc a) (suc b) within h =
    pass_struck records a b (omega arith) (λ i low high. h (suc i) (omega arith) (omega arith))

-- ---- the end

-- what stands beside the deliveries of an emission doesn't count
pub set_same : (records : List Emission) (front k : ℕ) (new : Emission)
    → waiting new ≡ waiting (nth records k)
    → all_waiting (drop front (set records k new)) ≡ all_waiting (drop front records)
set_same [] front k new is = refl
set_same (r ∷ records) zero zero new is = ap (λ l. l ++ all_waiting records) is
set_same (r ∷ records) zero (suc k) new is = ap (λ l. waiting r ++ l) (set_same records 0 k new is)
set_same (r ∷ records) (suc front) zero new is = refl
set_same (r ∷ records) (suc front) (suc k) new is = set_same records front k new is

pub new_more : (records : List Emission) (front : ℕ) (r : Emission) → front ≤ length records
    → all_waiting (drop front (records ++ r ∷ [])) ≡ all_waiting (drop front records) ++ waiting r
new_more records front r within =
    ap all_waiting (drop-append-le front records (r ∷ []) within)
    ∙ flat_map-append waiting (drop front records) (r ∷ [])
    ∙ ap (λ l. all_waiting (drop front records) ++ l) (append-nil (waiting r))

-- ---- the first

pub first_is : (records : List Emission) (front m : ℕ) → front < length records
    → head_of (members (nth records front).left) ≡ Some m
    → head_of (all_waiting (drop front records)) ≡ Some (owed_to (nth records front) m)
first_is [] front m within h = absurd (omega arith)
first_is (r ∷ records) zero m within h = at (members r.left) h
  where
    at : (xs : List ℕ) → head_of xs ≡ Some m
        → head_of (map (owed_to r) xs ++ all_waiting records) ≡ Some (owed_to r m)
    at [] h = cc
    at (x ∷ xs) h = let same : x ≡ m = cc in ap (λ k. Some (owed_to r k)) same
first_is (r ∷ records) (suc front) m within h = first_is records front m (omega arith) h
