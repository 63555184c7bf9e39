-- What one entry more makes of places, states and wakings.
use Rattle.std.specs.Prelude.{◌≡◌, ℕ, zero, suc, ◌+◌, ◌-◌, ◌<◌, ◌≤◌, Bool, true, false, cond, not, ◌&&◌, ◌||◌, ◌==◌, List, [], ◌∷◌, ◌++◌, map, filter_map, length, drop, replicate, slice_get, slice_index, Option, Some, None, option_map, unwrap_or, IsSomeAnd}
use Rattle.std.specs.List.{list_any, after_last, suffix_len, prefix_len}
use Rattle.std.proofs.Common.{inl, inr, refl, sym, ap, ◌∙◌, arith, get_or, set, subst, length-append}
use Rattle.std.proofs.lemmas.List.{append-nil, reverse-append, drop_all, drop-append-le, length_push, get_or_append_left, get_or-append_right, get_or-map, length-map, length-set, get_or_default, get_or-set_other, get_or-set_same, same_lists}
use Rattle.std.proofs.lemmas.List.Elements.{filter_map-append}
use Rattle.std.proofs.lemmas.List.Folds.{list_any-append}
use Rattle.std.proofs.lemmas.Bool.{eq-eqb, ne_eqb, cases_eq, cases_lt, lt-ltb, le-ltb}
use Rattle.std.proofs.lemmas.Option.{slice_get-map, unwrap_or-slice_get, slice_get-get_or, slice_get_within, slice_get_past}
use Rattle.polis_base.specs.Lists.{upto, last_of}
use Rattle.transition_table.specs.Transitions.{IsSnapshot, IsOutcome}
use Rattle.transition_table.specs.declared.decl.Party.{Party}
use Rattle.transition_table.specs.declared.decl.StateDecl.{StateDecl}
use Rattle.transition_table.specs.declared.machine.Machine.{Machine}
use Rattle.transition_table.specs.declared.network.Network.{Network}
use Rattle.transition_table.specs.declared.snapshot.Snapshot.{Snapshot}
use Rattle.transition_table.specs.declared.snapshot.Outcome.{Outcome}
use Rattle.journals.specs.declared.entry.Entry.{Entry}
use Rattle.journals.specs.declared.entry.Entry.TheVariants.{Dep, Rea}
use Rattle.journals.specs.Journals.{inputs_of, states_of, is_firing_of, is_reaction_of, is_delivery_to, code_brought, buffered, value_set, value_given, initial, state, snap, is_woken}
use Rattle.journals.specs.Laws.{FittingSuits, SnapWidth}
use Rattle.journals.specs.Moved.{machine_of, is_dep, code_after, codes_after, moments_of}
use Rattle.polis_base.proofs.UptoPlaces.{length_upto, map_upto}

-- ---- after the last that passes

pub after_last_push : {X : Type 0} (p : X → Bool) (xs : List X) (y : X)
    → after_last p (xs ++ y ∷ []) ≡ cond (p y) [] (after_last p xs ++ y ∷ [])
after_last_push {X} p xs y =
    let q : X → Bool = λ x. not (p x) in
    let back : suffix_len q (xs ++ y ∷ []) ≡ cond (not (p y)) (1 + suffix_len q xs) 0 =
    ap (prefix_len q) (reverse-append xs (y ∷ [])) ∙ refl in
    let more : length (xs ++ y ∷ []) ≡ length xs + 1 = length_push xs y in
    elim
    (p y) as (λ b. p y ≡ b → after_last p (xs ++ y ∷ []) ≡ cond b [] (after_last p xs ++ y ∷ [])) [
      | true ↦ λ e.
          let none : suffix_len q (xs ++ y ∷ []) ≡ 0 = back ∙ rw e refl in
          drop_all (length (xs ++ y ∷ []) - suffix_len q (xs ++ y ∷ [])) (xs ++ y ∷ [])
          (omega arith)
      | false ↦ λ e.
          let some : suffix_len q (xs ++ y ∷ []) ≡ 1 + suffix_len q xs = back ∙ rw e refl in
          let n : length (xs ++ y ∷ []) - suffix_len q (xs ++ y ∷ [])
          ≡ length xs - suffix_len q xs = omega arith in
          ap (λ k. drop k (xs ++ y ∷ [])) n
          ∙ drop-append-le (length xs - suffix_len q xs) xs (y ∷ []) (omega arith)
    ] refl

pub last_of_push : {X : Type 0} (d : X) (xs : List X) (y : X) → last_of d (xs ++ y ∷ []) ≡ y
last_of_push d [] y = refl
last_of_push d (x ∷ xs) y = last_of_push x xs y

-- ---- the places

pub place_dep : (journal : List Entry) (s : Party) (to e c m x : ℕ)
    → buffered (journal ++ Dep s to e c ∷ []) m x
    ≡ cond (to == m && e == x) c (buffered journal m x)
place_dep journal s to e c m x =
    let entry : Entry = Dep s to e c in
    let kept : List Entry = after_last (is_firing_of m) journal in
    let after =
    ap (λ l. last_of 0 (filter_map (code_brought m x) l))
    (after_last_push (is_firing_of m) journal entry)
    ∙ ap (last_of 0) (filter_map-append (code_brought m x) kept (entry ∷ [])) in
    after
    ∙ (elim
    (to == m && e == x) as (λ b. (to == m && e == x) ≡ b
    → last_of 0 (filter_map (code_brought m x) kept ++ filter_map (code_brought m x) (entry ∷ []))
    ≡ cond b c (buffered journal m x)) [
      | true ↦ λ here.
          let one : filter_map (code_brought m x) (entry ∷ []) ≡ c ∷ [] = rw here refl in
          ap (λ l. last_of 0 (filter_map (code_brought m x) kept ++ l)) one
          ∙ last_of_push 0 (filter_map (code_brought m x) kept) c
      | false ↦ λ away.
          let none : filter_map (code_brought m x) (entry ∷ []) ≡ [] = rw away refl in
          ap (λ l. last_of 0 (filter_map (code_brought m x) kept ++ l)) none
          ∙ ap (last_of 0) (append-nil (filter_map (code_brought m x) kept))
    ] refl)

pub place_rea : (journal : List Entry) (k : ℕ) (s : Snapshot) (o : Outcome) (m x : ℕ)
    → buffered (journal ++ Rea k s o ∷ []) m x ≡ cond (k == m && o.fires) 0 (buffered journal m x)
place_rea journal k s o m x =
    let entry : Entry = Rea k s o in
    let kept : List Entry = after_last (is_firing_of m) journal in
    ap (λ l. last_of 0 (filter_map (code_brought m x) l))
    (after_last_push (is_firing_of m) journal entry)
    ∙ (elim
    (k == m && o.fires) as (λ b.
    last_of 0 (filter_map (code_brought m x) (cond b [] (kept ++ entry ∷ [])))
    ≡ cond b 0 (buffered journal m x)) [
      | true ↦ refl
      | false ↦
          ap (last_of 0)
          (filter_map-append (code_brought m x) kept (entry ∷ [])
          ∙ append-nil (filter_map (code_brought m x) kept))
    ])

-- ---- the states

pub state_dep : (net : Network) (journal : List Entry) (s : Party) (to e c m x : ℕ)
    → state net (journal ++ Dep s to e c ∷ []) m x ≡ state net journal m x
state_dep net journal s to e c m x =
    ap (last_of (initial net m x))
    (filter_map-append (value_given m x) journal (Dep s to e c ∷ [])
    ∙ append-nil (filter_map (value_given m x) journal))

given_once : (d : ℕ) (xs : List ℕ) (o : Option ℕ) (ys : List ℕ)
    → (ys ≡ unwrap_or (option_map (λ y. y ∷ []) o) [])
    → last_of d (xs ++ ys) ≡ unwrap_or o (last_of d xs)
given_once d xs None ys e = ap (λ l. last_of d (xs ++ l)) e ∙ ap (last_of d) (append-nil xs)
given_once d xs (Some y) ys e = ap (λ l. last_of d (xs ++ l)) e ∙ last_of_push d xs y

one_given : {X : Type 0} (h : X → Option ℕ) (x : X)
    → filter_map h (x ∷ []) ≡ unwrap_or (option_map (λ y. y ∷ []) (h x)) []
one_given h x =
    elim
    (h x) as (λ o. h x ≡ o → filter_map h (x ∷ []) ≡ unwrap_or (option_map (λ y. y ∷ []) o) []) [
      | None ↦ λ e. rw e refl
      | Some y ↦ λ e. rw e refl
    ] refl

pub state_rea : (net : Network) (journal : List Entry) (k : ℕ) (s : Snapshot) (o : Outcome)
    (m x : ℕ)
    → state net (journal ++ Rea k s o ∷ []) m x
    ≡ cond (k == m && o.fires)
    (unwrap_or (value_set (slice_index o.next x)) (state net journal m x)) (state net journal m x)
state_rea net journal k s o m x =
    ap (last_of (initial net m x)) (filter_map-append (value_given m x) journal (Rea k s o ∷ []))
    ∙ given_once (initial net m x) (filter_map (value_given m x) journal)
    (value_given m x (Rea k s o)) (filter_map (value_given m x) (Rea k s o ∷ []))
    (one_given (value_given m x) (Rea k s o))
    ∙ (elim
    (k == m && o.fires) as (λ b.
    unwrap_or (cond b (value_set (slice_index o.next x)) None) (state net journal m x)
    ≡ cond b (unwrap_or (value_set (slice_index o.next x)) (state net journal m x))
    (state net journal m x)) [
      | true ↦ refl
      | false ↦ refl
    ])

-- ---- the wakings

pub is_woken_after : (journal : List Entry) (entry : Entry) (m : ℕ)
    → is_woken (journal ++ entry ∷ []) m
    ≡ cond (machine_of entry == m) (is_dep entry) (is_woken journal m)
is_woken_after journal (Dep s to e c) m =
    let kept : List Entry = after_last (is_reaction_of m) journal in
    ap (list_any (is_delivery_to m)) (after_last_push (is_reaction_of m) journal (Dep s to e c))
    ∙ list_any-append (is_delivery_to m) kept (Dep s to e c ∷ [])
    ∙ (elim
    (to == m) as (λ b.
    (list_any (is_delivery_to m) kept || (b || false))
    ≡ cond b true (list_any (is_delivery_to m) kept)) [
      | true ↦ or_true (list_any (is_delivery_to m) kept)
      | false ↦ or_false (list_any (is_delivery_to m) kept)
    ])
  where
    or_true : (b : Bool) → (b || true) ≡ true
    or_true true = refl
    or_true false = refl

    or_false : (b : Bool) → (b || false) ≡ b
    or_false true = refl
    or_false false = refl
is_woken_after journal (Rea k s o) m =
    let kept : List Entry = after_last (is_reaction_of m) journal in
    ap (list_any (is_delivery_to m)) (after_last_push (is_reaction_of m) journal (Rea k s o))
    ∙ (elim
    (k == m) as (λ b.
    list_any (is_delivery_to m) (cond b [] (kept ++ Rea k s o ∷ []))
    ≡ cond b false (list_any (is_delivery_to m) kept)) [
      | true ↦ refl
      | false ↦ list_any-append (is_delivery_to m) kept (Rea k s o ∷ [])
          ∙ or_none (list_any (is_delivery_to m) kept)
    ])
  where
    or_none : (b : Bool) → (b || false) ≡ b
    or_none true = refl
    or_none false = refl

-- ---- tables, one item a machine

pub get_or_upto : (n k d : ℕ) → k < n → get_or (upto n) k d ≡ k
get_or_upto zero k d below = absurd (omega arith)
get_or_upto (suc n) k d below =
    elim (cases_eq k n) [
      | inl same ↦ get_or-append_right (upto n) (n ∷ []) n k d (length_upto n) (omega arith)
          ∙ ap (λ i. get_or (n ∷ []) i d) (let e : k - n ≡ 0 = omega arith in e) ∙ sym same
      | inr other ↦ get_or_append_left (upto n) (n ∷ []) d k (let e = length_upto n in omega arith)
          ∙ get_or_upto n k d (omega arith)
    ]

pub length_table : {X : Type 0} (f : ℕ → X) (n : ℕ) → length (map f (upto n)) ≡ n
length_table f n = length-map (upto n) f ∙ length_upto n

pub get_or_table : {X : Type 0} (f : ℕ → X) (n k : ℕ) (d : X) → k < n
    → get_or (map f (upto n)) k d ≡ f k
get_or_table f n k d below = get_or-map f (upto n) k 0 d (let e = length_upto n in omega arith)
    ∙ ap f (get_or_upto n k 0 below)

-- a table in which one item is another
pub set_table : {X : Type 0} (f g : ℕ → X) (n m : ℕ) (y : X) → m < n → g m ≡ y
    → ((k : ℕ) → (k ≡ m → ⊥) → k < n → g k ≡ f k) → set (map f (upto n)) m y ≡ map g (upto n)
set_table {X} f g n m y below here others =
    let size : length (set (map f (upto n)) m y) ≡ n = length-set (map f (upto n)) m y
    ∙ length_table f n in
    same_lists (set (map f (upto n)) m y) (map g (upto n)) (size ∙ sym (length_table g n)) (λ k d h.
    let inside : k < n = omega arith in
    elim (cases_eq k m) [
      | inl same ↦ ap (λ i. get_or (set (map f (upto n)) m y) i d) same
          ∙ get_or-set_same (map f (upto n)) m y d (let e = length_table f n in omega arith)
          ∙ sym here ∙ ap g (sym same) ∙ sym (get_or_table g n k d inside)
      | inr other ↦ get_or-set_other (map f (upto n)) m k y d other ∙ get_or_table f n k d inside
          ∙ sym (others k other inside) ∙ sym (get_or_table g n k d inside)
    ])

-- ---- the empty journal

no_places : (m : ℕ) (inputs : List ℕ) → map (buffered [] m) inputs ≡ replicate (length inputs) 0
no_places m [] = refl
no_places m (x ∷ inputs) = ap (λ l. 0 ∷ l) (no_places m inputs)

read_all : {X : Type 0} (f : X → ℕ) (xs : List X)
    → map (λ x. unwrap_or (option_map f (slice_get xs x)) 0) (upto (length xs)) ≡ map f xs
read_all {X} f xs =
    let at : ℕ → ℕ = λ x. unwrap_or (option_map f (slice_get xs x)) 0 in
    same_lists (map at (upto (length xs))) (map f xs)
    (length_table at (length xs) ∙ sym (length-map xs f)) (λ k d h.
    let inside : k < length xs = let e = length_table at (length xs) in omega arith in
    get_or_table at (length xs) k d inside ∙ ap (λ o. unwrap_or o 0) (sym (slice_get-map f xs k))
    ∙ unwrap_or-slice_get (map f xs) k 0
    ∙ get_or_default (map f xs) k 0 d (let e = length-map xs f in omega arith))

pub first_snap : (net : Network) (m : ℕ) (machine : Machine) (s : Snapshot)
    → slice_get net.machines m ≡ Some machine
    → s.codes
    ≡ replicate (length machine.inputs) 0 ++ map (λ variable. variable.init) machine.states
    → s ≡ snap net [] m
first_snap net m machine s at codes =
    let inputs : inputs_of net m ≡ machine.inputs =
    ap (λ (o : Option Machine). unwrap_or (option_map (λ machine. machine.inputs) o) []) at in
    let states : states_of net m ≡ machine.states =
    ap (λ (o : Option Machine). unwrap_or (option_map (λ machine. machine.states) o) []) at in
    let left = no_places m (inputs_of net m) ∙ ap (λ (l : List ℕ). replicate (length l) 0) inputs in
    let right = read_all (λ (variable : StateDecl). variable.init) (states_of net m)
    ∙ ap (λ (l : List StateDecl). map (λ variable. variable.init) l) states in
    let same = codes
    ∙ sym
    (ap (λ l. l ++ map (state net [] m) (upto (length (states_of net m)))) left
    ∙ ap (λ l. replicate (length machine.inputs) 0 ++ l) right) in
    λ i. record { codes = same i }

pub moments_more : (net : Network) (journal : List Entry) (n : ℕ) (s : Snapshot)
    → s ≡ snap net journal n
    → map (snap net journal) (upto n) ++ s ∷ [] ≡ map (snap net journal) (upto (n + 1))
moments_more net journal n s e = ap (λ x. map (snap net journal) (upto n) ++ x ∷ []) e
    ∙ sym (map_upto (snap net journal) n)

-- ---- the snapshot of one machine

place_away : (journal : List Entry) (entry : Entry) (k x : ℕ) → (machine_of entry == k) ≡ false
    → buffered (journal ++ entry ∷ []) k x ≡ buffered journal k x
place_away journal (Dep s to e c) k x h = place_dep journal s to e c k x ∙ rw h refl
place_away journal (Rea m s o) k x h = place_rea journal m s o k x ∙ rw h refl

state_away : (net : Network) (journal : List Entry) (entry : Entry) (k x : ℕ)
    → (machine_of entry == k) ≡ false
    → state net (journal ++ entry ∷ []) k x ≡ state net journal k x
state_away net journal (Dep s to e c) k x h = state_dep net journal s to e c k x
state_away net journal (Rea m s o) k x h = state_rea net journal m s o k x ∙ rw h refl

pub snap_away : (net : Network) (journal : List Entry) (entry : Entry) (k : ℕ)
    → (machine_of entry ≡ k → ⊥) → snap net (journal ++ entry ∷ []) k ≡ snap net journal k
snap_away net journal entry k other =
    let h = ne_eqb (machine_of entry) k other in
    λ i.
    record {
      codes =
          map (λ x. place_away journal entry k x h i) (inputs_of net k)
          ++ map (λ x. state_away net journal entry k x h i) (upto (length (states_of net k)));
    }

place_code : (machine : Machine) (journal : List Entry) (entry : Entry) (i x : ℕ)
    → slice_get machine.inputs i ≡ Some x
    → buffered (journal ++ entry ∷ []) (machine_of entry) x
    ≡ code_after machine entry i (buffered journal (machine_of entry) x)
place_code machine journal (Dep s to e c) i x at = place_dep journal s to e c to x
    ∙ rw (eq-eqb to to refl)
    (sym
    (ap
    (λ (o : Option ℕ).
    unwrap_or (option_map (λ input. cond (e == input) c (buffered journal to x)) o)
    (buffered journal to x)) at))
place_code machine journal (Rea m s o) i x at = place_rea journal m s o m x
    ∙ rw
    (eq-eqb m m refl, lt-ltb i (length machine.inputs) (slice_get_within machine.inputs i x at))
    refl

state_code : (net : Network) (machine : Machine) (journal : List Entry) (entry : Entry) (i x : ℕ)
    → length machine.inputs ≤ i → x ≡ i - length machine.inputs
    → state net (journal ++ entry ∷ []) (machine_of entry) x
    ≡ code_after machine entry i (state net journal (machine_of entry) x)
state_code net machine journal (Dep s to e c) i x past is =
    state_dep net journal s to e c to x
    ∙ sym
    (ap
    (λ (o : Option ℕ). unwrap_or
    (option_map (λ input. cond (e == input) c (state net journal to x)) o) (state net journal to x))
    (slice_get_past machine.inputs i past))
state_code net machine journal (Rea m s o) i x past is = state_rea net journal m s o m x
    ∙ rw (eq-eqb m m refl, le-ltb i (length machine.inputs) past, is) refl

moved_codes : (net : Network) (machine : Machine) (journal : List Entry) (entry : Entry) (n : ℕ) →
    map (buffered (journal ++ entry ∷ []) (machine_of entry)) machine.inputs
    ++ map (state net (journal ++ entry ∷ []) (machine_of entry)) (upto n)
    ≡ codes_after machine entry
    (map (buffered journal (machine_of entry)) machine.inputs
    ++ map (state net journal (machine_of entry)) (upto n))
moved_codes net machine journal entry n =
    let m = machine_of entry in
    let p : ℕ → ℕ = buffered journal m in
    let q : ℕ → ℕ = buffered (journal ++ entry ∷ []) m in
    let f : ℕ → ℕ = state net journal m in
    let g : ℕ → ℕ = state net (journal ++ entry ∷ []) m in
    let old = map p machine.inputs ++ map f (upto n) in
    let new = map q machine.inputs ++ map g (upto n) in
    let at : ℕ → ℕ = λ k. code_after machine entry k (slice_index old k) in
    let few : length old ≡ length machine.inputs + n =
    length-append (map p machine.inputs) (map f (upto n))
    ∙ rw (length-map machine.inputs p, length_table f n) refl in
    let many : length new ≡ length machine.inputs + n =
    length-append (map q machine.inputs) (map g (upto n))
    ∙ rw (length-map machine.inputs q, length_table g n) refl in
    let left : length (map p machine.inputs) ≡ length machine.inputs =
    length-map machine.inputs p in
    let right : length (map q machine.inputs) ≡ length machine.inputs =
    length-map machine.inputs q in
    same_lists new (map at (upto (length old))) (many ∙ sym (length_table at (length old) ∙ few))
    (λ k d h.
    let inside : k < length old = omega arith in
    elim (cases_lt k (length machine.inputs)) [
      | inl low ↦
          let before : slice_index old k ≡ p (get_or machine.inputs k 0) =
          get_or_append_left (map p machine.inputs) (map f (upto n)) 0 k (omega arith)
          ∙ get_or-map p machine.inputs k 0 0 low in
          get_or_append_left (map q machine.inputs) (map g (upto n)) d k (omega arith)
          ∙ get_or-map q machine.inputs k 0 d low
          ∙ place_code machine journal entry k (get_or machine.inputs k 0)
          (slice_get-get_or machine.inputs k 0 low)
          ∙ ap (code_after machine entry k) (sym before)
          ∙ sym (get_or_table at (length old) k d inside)
      | inr high ↦
          let there : k - length machine.inputs < n = omega arith in
          let before : slice_index old k ≡ f (k - length machine.inputs) =
          get_or-append_right (map p machine.inputs) (map f (upto n))
          (length machine.inputs) k 0 left high
          ∙ get_or_table f n (k - length machine.inputs) 0 there in
          get_or-append_right (map q machine.inputs) (map g (upto n))
          (length machine.inputs) k d right high
          ∙ get_or_table g n (k - length machine.inputs) d there
          ∙ state_code net machine journal entry k (k - length machine.inputs) high refl
          ∙ ap (code_after machine entry k) (sym before)
          ∙ sym (get_or_table at (length old) k d inside)
    ])

pub snap_after : (net : Network) (machine : Machine) (journal : List Entry) (entry : Entry)
    (s before : Snapshot) → slice_get net.machines (machine_of entry) ≡ Some machine
    → before ≡ snap net journal (machine_of entry)
    → s.codes ≡ codes_after machine entry before.codes
    → s ≡ snap net (journal ++ entry ∷ []) (machine_of entry)
snap_after net machine journal entry s before at was is =
    let m = machine_of entry in
    let inputs : inputs_of net m ≡ machine.inputs =
    ap (λ (o : Option Machine). unwrap_or (option_map (λ machine. machine.inputs) o) []) at in
    let whole : List Entry → List ℕ
    → List ℕ = λ entries list.
    map (buffered entries m) list ++ map (state net entries m) (upto (length (states_of net m))) in
    let same = is ∙ ap (λ (x : Snapshot). codes_after machine entry x.codes) was
    ∙ ap (λ list. codes_after machine entry (whole journal list)) inputs
    ∙ sym (moved_codes net machine journal entry (length (states_of net m)))
    ∙ sym (ap (whole (journal ++ entry ∷ [])) inputs) in
    λ i. record { codes = same i }

-- the snapshots after one entry more
pub moments_after : (net : Network) (journal : List Entry) (entry : Entry) (s : Snapshot)
    → machine_of entry < length net.machines
    → s ≡ snap net (journal ++ entry ∷ []) (machine_of entry)
    → set (moments_of net journal) (machine_of entry) s ≡ moments_of net (journal ++ entry ∷ [])
moments_after net journal entry s below is =
    set_table (snap net journal) (snap net (journal ++ entry ∷ [])) (length net.machines)
    (machine_of entry) s below (sym is)
    (λ k other inside. snap_away net journal entry k (λ e. other (sym e)))

pub wakings_after : (n : ℕ) (journal : List Entry) (entry : Entry) → machine_of entry < n
    → set (map (is_woken journal) (upto n)) (machine_of entry) (is_dep entry)
    ≡ map (is_woken (journal ++ entry ∷ [])) (upto n)
wakings_after n journal entry below =
    set_table (is_woken journal) (is_woken (journal ++ entry ∷ [])) n (machine_of entry)
    (is_dep entry) below
    (is_woken_after journal entry (machine_of entry)
    ∙ rw (eq-eqb (machine_of entry) (machine_of entry) refl) refl)
    (λ k other inside. is_woken_after journal entry k
    ∙ rw (ne_eqb (machine_of entry) k (λ e. other (sym e))) refl)

-- ---- widths

pub snap_width : SnapWidth
snap_width net m machine journal at =
    let inputs : inputs_of net m ≡ machine.inputs =
    ap (λ (o : Option Machine). unwrap_or (option_map (λ machine. machine.inputs) o) []) at in
    let states : states_of net m ≡ machine.states =
    ap (λ (o : Option Machine). unwrap_or (option_map (λ machine. machine.states) o) []) at in
    let places : List ℕ = map (buffered journal m) (inputs_of net m) in
    let values : List ℕ = map (state net journal m) (upto (length (states_of net m))) in
    let left = length-map (inputs_of net m) (buffered journal m) in
    let right = length_table (state net journal m) (length (states_of net m)) in
    let whole = length-append places values in
    let a = ap length inputs in
    let b = ap (λ (l : List StateDecl). length l) states in
    omega arith

pub fitting_suits : FittingSuits
fitting_suits net machine (Dep s m e c) h at = tt
fitting_suits net machine (Rea m s o) h at =
    let of : IsSnapshot machine s × IsOutcome machine o =
    subst
    (λ (found : Option Machine). IsSomeAnd found
    (λ machine. IsSnapshot machine s × IsOutcome machine o)) at h in
    of.1.widths

-- ---- the length of a snapshot

pub length_snap : (net : Network) (journal : List Entry) (m : ℕ)
    → length (snap net journal m).codes ≡ length (inputs_of net m) + length (states_of net m)
length_snap net journal m =
    length-append (map (buffered journal m) (inputs_of net m))
    (map (state net journal m) (upto (length (states_of net m))))
    ∙ rw (
      length-map (inputs_of net m) (buffered journal m),
      length_table (state net journal m) (length (states_of net m)),
    ) refl

pub moment_width : (net : Network) (journal : List Entry) (m : ℕ) (machine : Machine) (s : Snapshot)
    → slice_get net.machines m ≡ Some machine → s ≡ snap net journal m
    → length s.codes ≡ length machine.inputs + length machine.states
moment_width net journal m machine s at is =
    ap (λ (x : Snapshot). length x.codes) is ∙ length_snap net journal m
    ∙ ap (λ (o : Option Machine). length (unwrap_or (option_map (λ machine. machine.inputs) o) [])
    + length (unwrap_or (option_map (λ machine. machine.states) o) [])) at
