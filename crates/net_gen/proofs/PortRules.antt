-- The machines of a ring keep the rules of conditions and of actions.
use Rattle.std.proofs.Common.{◌⊎◌, not, ◌≡◌, ℕ, zero, suc, ◌+◌, ◌-◌, ◌%◌, ◌<◌, ◌≤◌, Bool, true, false, cond, List, [], ◌∷◌, ◌++◌, map, flat_map, Option, Some, None, refl, sym, ap, ◌∙◌, arith, inl, inr}
use Rattle.std.specs.Prelude.{codes, decimal, find, filter, option_and_then, option_to_list}
use Rattle.std.proofs.lemmas.Bool.{cases_eq, cases_lt}
use Rattle.std.proofs.lemmas.Option.{none-some}
use Rattle.std.proofs.Math.Nat.{mod-lt, mod-eq_of_lt, add-mod_left}
use Rattle.std.proofs.lemmas.List.Folds.{flat_map-map}
use Rattle.std.proofs.lemmas.Grind.{flat_map-append}
use Rattle.polis_base.specs.Lists.{upto}
use Rattle.domains.specs.Names.{is_same}
use Rattle.net_reader.specs.declared.raw.Word.{Word}
use Rattle.net_reader.specs.declared.raw.RawEvent.{RawEvent}
use Rattle.net_reader.specs.declared.raw.RawRow.{RawRow}
use Rattle.net_reader.specs.declared.raw.RawState.{RawState}
use Rattle.net_reader.specs.declared.raw.RawMachine.{RawMachine}
use Rattle.net_reader.specs.declared.raw.RawEnv.TheVariants.{Between, FromEnv, ToEnv}
use Rattle.net_names.specs.Places.{unless}
use Rattle.net_names.specs.Numbers.{is_name_of, missing, repeated}
use Rattle.net_names.specs.Scopes.{all_outputs, all_inputs, event_domain, is_from_env, is_to_env}
use Rattle.rule_judge.specs.Rules.{rule_6, rule_11, rule_12, rule_13}
use Rattle.polis_base.specs.Draws.{after, draw}
use Rattle.net_gen.specs.Networks.{word, event, tick, valued, output, events_of, last_row, tick_row_at, value_row_at, machine_at, machines, rows, tick_rows, value_rows, ring}
use Rattle.net_gen.proofs.RingNames.{other_number, declared_at, none_of_each, different_flat, all_flat, none_repeats}
use Rattle.net_gen.proofs.DeclarationRules.{none_flat}
use Rattle.domains.proofs.Names.{same_self}
use Rattle.polis_base.proofs.UptoPlaces.{flat_map_upto}

-- ---- the domain of an event

find_left : {X : Type 0} (p : X → Bool) (xs ys : List X) (x : X) → find p xs ≡ Some x
    → find p (xs ++ ys) ≡ Some x
find_left p [] ys x found = absurd (none-some x found)
find_left {X} p (y ∷ xs) ys x found =
    let Goal : Bool → Type 0 = λ b. cond b (Some y) (find p xs) ≡ Some x
    → cond b (Some y) (find p (xs ++ ys)) ≡ Some x in
    elim (p y) as (λ b. Goal b) [ true ↦ λ h. h | false ↦ λ h. find_left p xs ys x h ] found

find_right : {X : Type 0} (p : X → Bool) (xs ys : List X) → find p xs ≡ None
    → find p (xs ++ ys) ≡ find p ys
find_right p [] ys none = refl
find_right {X} p (y ∷ xs) ys none =
    let Goal : Bool → Type 0 = λ b. cond b (Some y) (find p xs) ≡ None
    → cond b (Some y) (find p (xs ++ ys)) ≡ find p ys in
    elim (p y) as (λ b. Goal b) [
      | true ↦ λ h. absurd (none-some y (sym h))
      | false ↦ λ h. find_right p xs ys h
    ] none

abbrev is_valued : ℕ → RawEvent → Bool
is_valued i e = is_same (valued i).name e.name.name

abbrev valued_event : ℕ → RawEvent
valued_event i = event (valued i) (Some (word (codes "d"))) Between

find_none : (i n : ℕ) → n ≤ i → i < 48 → find (is_valued i) (flat_map events_of (upto n)) ≡ None
find_none i zero below small = refl
find_none i (suc n) below small =
    let other : is_same (decimal i) (decimal n) ≡ false =
    other_number i n small (omega arith) (λ e. let same = e in omega arith) in
    ap (find (is_valued i)) (flat_map_upto events_of n)
    ∙ find_right (is_valued i) (flat_map events_of (upto n)) (events_of n)
    (find_none i n (omega arith) small)
    ∙ rw other refl

find_valued : (i n : ℕ) → i < n → n ≤ 48
    → find (is_valued i) (flat_map events_of (upto n)) ≡ Some (valued_event i)
find_valued i zero below small = absurd (omega arith)
find_valued i (suc n) below small =
    elim (cases_eq n i) [
      | inl same ↦
          let here : is_same (decimal i) (decimal n) ≡ true =
          ap (λ (k : ℕ). is_same (decimal i) (decimal k)) same ∙ same_self (decimal i) in
          let last : find (is_valued i) (events_of n) ≡ Some (valued_event n) = rw here refl in
          ap (find (is_valued i)) (flat_map_upto events_of n)
          ∙ find_right (is_valued i) (flat_map events_of (upto n)) (events_of n)
          (find_none i n (omega arith) (omega arith))
          ∙ last
          ∙ ap (λ (k : ℕ). Some (valued_event k)) same
      | inr other ↦
          ap (find (is_valued i)) (flat_map_upto events_of n)
          ∙ find_left (is_valued i) (flat_map events_of (upto n)) (events_of n) (valued_event i)
          (find_valued i n (omega arith) (omega arith))
    ]

pub domain_valued : (n x i : ℕ) → i < n → n ≤ 48
    → event_domain (ring n x) (valued i).name ≡ Some (word (codes "d"))
domain_valued n x i below small =
    ap (option_and_then (λ (e : RawEvent). e.domain)) (find_valued i n below small)

pub tick_pure : (i : ℕ) (is : List ℕ)
    → option_and_then (λ (e : RawEvent). e.domain)
    (find (λ (e : RawEvent). is_same (tick i).name e.name.name) (flat_map events_of is)) ≡ None
tick_pure i [] = refl
tick_pure i (k ∷ is) =
    let f : Option RawEvent → Option Word = option_and_then (λ (e : RawEvent). e.domain) in
    let rest : Option RawEvent =
    find (λ (e : RawEvent). is_same (tick i).name e.name.name) (flat_map events_of is) in
    let first : List RawEvent = events_of k in
    elim (is_same (decimal i) (decimal k)) as
    (λ b. f (cond b (Some (event (tick k) None FromEnv)) rest) ≡ None) [
      | true ↦ refl
      | false ↦ tick_pure i is
    ]

pub output_pure : (i : ℕ) (is : List ℕ)
    → option_and_then (λ (e : RawEvent). e.domain)
    (find (λ (e : RawEvent). is_same (output i).name e.name.name) (flat_map events_of is)) ≡ None
output_pure i [] = refl
output_pure i (k ∷ is) =
    let f : Option RawEvent → Option Word = option_and_then (λ (e : RawEvent). e.domain) in
    let rest : Option RawEvent =
    find (λ (e : RawEvent). is_same (output i).name e.name.name) (flat_map events_of is) in
    elim (is_same (decimal i) (decimal k)) as
    (λ b. f (cond b (Some (event (output k) None ToEnv)) rest) ≡ None) [
      | true ↦ refl
      | false ↦ output_pure i is
    ]

-- ---- domains that are used

abbrev known_domain : List ℕ → Bool
known_domain = is_name_of (word (codes "d") ∷ [])

typed_events : (is : List ℕ)
    → missing known_domain
    (flat_map (λ (e : RawEvent). option_to_list e.domain) (flat_map events_of is)) ≡ []
typed_events [] = refl
typed_events (i ∷ is) = typed_events is

typed_states : (n x : ℕ) (is : List ℕ)
    → missing known_domain
    (flat_map (λ (m : RawMachine). map (λ (s : RawState). s.domain) m.states)
    (map (machine_at n x) is)) ≡ []
typed_states n x [] = refl
typed_states n x (i ∷ is) = typed_states n x is

pub keeps_6 : (n x : ℕ) → rule_6 (ring n x) ≡ []
unfolding machines
keeps_6 n x =
    flat_map-append (λ (w : Word). unless (known_domain w.name) w.at)
    (flat_map (λ (e : RawEvent). option_to_list e.domain) (flat_map events_of (upto n)))
    (flat_map (λ (m : RawMachine). map (λ (s : RawState). s.domain) m.states)
    (map (machine_at n x) (upto n)))
    ∙ rw (typed_events (upto n), typed_states n x (upto n)) refl

-- ---- lists of outputs and inputs

outs : ℕ → ℕ → List Word
outs n i = valued ((i + 1) % n) ∷ output i ∷ []

ins : ℕ → List Word
ins i = tick i ∷ valued i ∷ []

outputs_are : (n x : ℕ) → all_outputs (ring n x) ≡ flat_map (outs n) (upto n)
unfolding machines outs
outputs_are n x = flat_map-map (λ (m : RawMachine). m.outputs) (machine_at n x) (upto n)

inputs_are : (n x : ℕ) → all_inputs (ring n x) ≡ flat_map ins (upto n)
unfolding machines ins
inputs_are n x = flat_map-map (λ (m : RawMachine). m.inputs) (machine_at n x) (upto n)

next_of : (n i : ℕ) → i < n → ((i + 1 < n) × ((i + 1) % n ≡ i + 1))
    ⊎ ((i + 1 ≡ n) × ((i + 1) % n ≡ 0))
next_of n i below =
    elim (cases_lt (i + 1) n) [
      | inl inside ↦ inl (inside, mod-eq_of_lt inside)
      | inr past ↦
          let whole : i + 1 ≡ n = omega arith in
          inr (
            whole,
            ap (λ (k : ℕ). k % n) whole
                ∙ ap (λ (k : ℕ). k % n) (let e : n ≡ n + 0 = omega arith in e)
                ∙ add-mod_left n 0 ∙ mod-eq_of_lt (let some : 0 < n = omega arith in some),
          )
    ]

ring_apart : (n i k : ℕ) → i < k → k < n → (i + 1) % n ≡ (k + 1) % n → ⊥
ring_apart n i k less below same =
    elim (next_of n i (omega arith)) [
      | inl a ↦ elim (next_of n k below) [
        | inl b ↦ let x = a.1 in let y = b.1 in omega arith
        | inr b ↦ let x = a.1 in let y = b.1 in omega arith
      ]
      | inr a ↦ let whole = a.0 in omega arith
    ]

-- the machine before
sender_of : (n i : ℕ) → i < n → (k : ℕ) × (k < n) × ((k + 1) % n ≡ i)
sender_of n zero below =
    let k : ℕ = n - 1 in
    elim (next_of n k (omega arith)) [
      | inl a ↦ let inside = a.0 in absurd (omega arith)
      | inr a ↦ (k, omega arith, a.1)
    ]
sender_of n (suc i) below =
    elim (next_of n i (omega arith)) [
      | inl a ↦ (i, omega arith, a.1 ∙ (let e : i + 1 ≡ suc i = omega arith in e))
      | inr a ↦ let whole = a.0 in absurd (omega arith)
    ]

abbrev ticks_only : List ℕ → List Word
ticks_only is =
    map (λ (e : RawEvent). e.name)
    (filter (λ (e : RawEvent). is_from_env e.env) (flat_map events_of is))

valued_free : (j : ℕ) (is : List ℕ) → is_name_of (ticks_only is) (valued j).name ≡ false
valued_free j [] = refl
valued_free j (i ∷ is) = valued_free j is

output_free : (j : ℕ) (is : List ℕ) → is_name_of (ticks_only is) (output j).name ≡ false
output_free j [] = refl
output_free j (i ∷ is) = output_free j is

pub keeps_11 : (n x : ℕ) → n ≤ 48 → rule_11 (ring n x) ≡ []
unfolding outs
keeps_11 n x few =
    let taken : List ℕ → Bool = is_name_of (ticks_only (upto n)) in
    ap (repeated taken) (outputs_are n x)
    ∙ none_repeats taken (flat_map (outs n) (upto n))
    (all_flat (λ (w : Word). taken w.name ≡ false) (outs n) n
    (λ i below. (valued_free ((i + 1) % n) (upto n), (output_free i (upto n), tt))))
    (different_flat (outs n) n (λ i below. ((refl, tt), (tt, tt)))
    (λ i k less below.
    let some : 0 < n = omega arith in
    let jk = mod-lt (k + 1) some in
    let ji = mod-lt (i + 1) some in
    let values : is_same (decimal ((k + 1) % n)) (decimal ((i + 1) % n)) ≡ false =
    other_number ((k + 1) % n) ((i + 1) % n) (omega arith) (omega arith)
    (λ e. ring_apart n i k less below (sym e)) in
    let outputs : is_same (decimal k) (decimal i) ≡ false =
    other_number k i (omega arith) (omega arith) (λ e. let same = e in omega arith) in
    ((values, (refl, tt)), ((refl, (outputs, tt)), tt))))

sent_words : ℕ → List Word
sent_words i = valued i ∷ output i ∷ []

sent_are : (is : List ℕ)
    → map (λ (e : RawEvent). e.name)
    (filter (λ (e : RawEvent). not (is_from_env e.env)) (flat_map events_of is))
    ≡ flat_map sent_words is
unfolding sent_words
sent_are [] = refl
sent_are (i ∷ is) = ap (λ (ws : List Word). valued i ∷ output i ∷ ws) (sent_are is)

pub keeps_12 : (n x : ℕ) → rule_12 (ring n x) ≡ []
unfolding sent_words outs
keeps_12 n x =
    let sends : List ℕ → Bool = is_name_of (all_outputs (ring n x)) in
    ap (missing sends) (sent_are (upto n))
    ∙ none_of_each (λ (w : Word). unless (sends w.name) w.at) sent_words n (λ i below.
    let s = sender_of n i below in
    let v : sends (valued i).name ≡ true =
    ap (λ (ws : List Word). is_name_of ws (valued i).name) (outputs_are n x)
    ∙ declared_at (outs n) (valued i).name n s.0 s.1
    (let here : is_same (decimal i) (decimal ((s.0 + 1) % n)) ≡ true =
    ap (λ (k : ℕ). is_same (decimal i) (decimal k)) s.2 ∙ same_self (decimal i) in rw here refl) in
    let o : sends (output i).name ≡ true =
    ap (λ (ws : List Word). is_name_of ws (output i).name) (outputs_are n x)
    ∙ declared_at (outs n) (output i).name n i below (rw (same_self (decimal i)) refl) in
    rw (v, o) refl)

read_are : (is : List ℕ)
    → map (λ (e : RawEvent). e.name)
    (filter (λ (e : RawEvent). not (is_to_env e.env)) (flat_map events_of is))
    ≡ flat_map ins is
unfolding ins
read_are [] = refl
read_are (i ∷ is) = ap (λ (ws : List Word). tick i ∷ valued i ∷ ws) (read_are is)

pub keeps_13 : (n x : ℕ) → rule_13 (ring n x) ≡ []
unfolding ins
keeps_13 n x =
    let reads : List ℕ → Bool = is_name_of (all_inputs (ring n x)) in
    ap (missing reads) (read_are (upto n))
    ∙ none_of_each (λ (w : Word). unless (reads w.name) w.at) ins n (λ i below.
    let t : reads (tick i).name ≡ true =
    ap (λ (ws : List Word). is_name_of ws (tick i).name) (inputs_are n x)
    ∙ declared_at ins (tick i).name n i below (rw (same_self (decimal i)) refl) in
    let v : reads (valued i).name ≡ true =
    ap (λ (ws : List Word). is_name_of ws (valued i).name) (inputs_are n x)
    ∙ declared_at ins (valued i).name n i below (rw (same_self (decimal i)) refl) in
    rw (t, v) refl)

-- ---- row by row

pub each_row : (f : RawRow → List ℕ) (i j x : ℕ)
    → ((v : ℕ) → v < 8 → f (tick_row_at i j x v) ≡ [])
    → ((k : ℕ) → k < 7 → f (value_row_at i j (after x 16) k) ≡ [])
    → f (last_row i (draw (after x 23) 8)) ≡ []
    → flat_map f (rows i j x) ≡ []
unfolding rows tick_rows value_rows
each_row f i j x ticks values last =
    let A : List RawRow = map (tick_row_at i j x) (upto 8) in
    let B : List RawRow = map (value_row_at i j (after x 16)) (upto 7) in
    let C : List RawRow = last_row i (draw (after x 23) 8) ∷ [] in
    let first : flat_map f A ≡ [] =
    flat_map-map f (tick_row_at i j x) (upto 8)
    ∙ none_flat (λ v. f (tick_row_at i j x v)) 8 ticks in
    let second : flat_map f B ≡ [] =
    flat_map-map f (value_row_at i j (after x 16)) (upto 7)
    ∙ none_flat (λ k. f (value_row_at i j (after x 16) k)) 7 values in
    let third : flat_map f C ≡ [] = ap (λ (l : List ℕ). l ++ []) last in
    let both : flat_map f (A ++ B) ≡ [] =
    flat_map-append f A B ∙ ap (λ (l : List ℕ). l ++ flat_map f B) first ∙ second in
    flat_map-append f (A ++ B) C ∙ ap (λ (l : List ℕ). l ++ flat_map f C) both ∙ third
