-- The events of a ring, as they are in its network.
use Rattle.std.proofs.Common.{◌≡◌, ℕ, zero, suc, ◌+◌, ◌-◌, ◌*◌, ◌%◌, ◌<◌, ◌≤◌, Bool, true, false, cond, List, [], ◌∷◌, ◌++◌, map, flat_map, length, Option, Some, None, refl, sym, ap, ◌∙◌, subst, arith, inl, inr}
use Rattle.std.specs.Prelude.{codes, decimal, slice_get, option_map, unwrap_or}
use Rattle.std.specs.List.{AllZip}
use Rattle.std.proofs.lemmas.Bool.{cases_eq, cases_lt}
use Rattle.std.proofs.lemmas.Option.{none-some, slice_get-map}
use Rattle.std.proofs.Math.Nat.{mod-lt, mod-eq_of_lt, add-mod_left}
use Rattle.std.proofs.lemmas.List.{map-append, length-map, length-append}
use Rattle.polis_base.specs.Lists.{upto, places_from, places_where}
use Rattle.domains.specs.Names.{is_same}
use Rattle.domains.specs.Domains.{size_of}
use Rattle.domains.specs.declared.domain.Domain.{Domain}
use Rattle.transition_table.specs.declared.decl.EventDecl.{EventDecl}
use Rattle.transition_table.specs.declared.machine.Machine.{Machine}
use Rattle.transition_table.specs.declared.network.Network.{Network}
use Rattle.transition_table.specs.NetworkFacts.{values_of}
use Rattle.journals.specs.Journals.{inputs_of, outputs_of}
use Rattle.net_reader.specs.declared.raw.RawDomain.{RawDomain}
use Rattle.net_reader.specs.declared.raw.RawEvent.{RawEvent}
use Rattle.net_reader.specs.declared.raw.RawMachine.{RawMachine}
use Rattle.net_reader.specs.declared.raw.RawEnv.TheVariants.{Between, FromEnv, ToEnv}
use Rattle.net_names.specs.Numbers.{names_of, is_among, number_in, number}
use Rattle.net_names.specs.Scopes.{event_words}
use Rattle.net_rules.specs.Networks.{IsNetworkOf, IsMachineOf, IsDomainOf, machines_with, event_of}
use Rattle.net_gen.specs.Events.{next_machine, machine_before, tick_event, valued_event, output_event, HasDemoEvents}
use Rattle.net_gen.specs.Networks.{word, event, tick, valued, output, events_of, machine_at, machines, domain, ring, count, network}
use Rattle.polis_base.specs.Draws.{after}
use Rattle.net_gen.proofs.RingNames.{other_number}
use Rattle.net_gen.proofs.DeclarationRules.{draw_below}
use Rattle.domains.proofs.Names.{same_self}
use Rattle.polis_base.proofs.Places.{get_left, get_right, zip_length}
use Rattle.polis_base.proofs.UptoPlaces.{flat_map_upto, get_upto, length_upto}

-- ---- the places of a table where a test passes

places_append : {X : Type 0} (c : ℕ) (p : X → Bool) (xs ys : List X)
    → places_from c p (xs ++ ys) ≡ places_from c p xs ++ places_from (c + length xs) p ys
places_append c p [] ys = ap (λ (k : ℕ). places_from k p ys) (let e : c ≡ c + 0 = omega arith in e)
places_append {X} c p (x ∷ xs) ys =
    let at : ℕ = c + suc (length xs) in
    let rest : places_from (c + 1) p (xs ++ ys)
    ≡ places_from (c + 1) p xs ++ places_from at p ys =
    places_append (c + 1) p xs ys
    ∙ ap (λ (k : ℕ). places_from (c + 1) p xs ++ places_from k p ys)
    (let e : c + 1 + length xs ≡ c + suc (length xs) = omega arith in e) in
    let all : List ℕ = places_from (c + 1) p (xs ++ ys) in
    let first : List ℕ = places_from (c + 1) p xs in
    elim (p x) as (λ b. cond b (c ∷ all) all ≡ cond b (c ∷ first) first ++ places_from at p ys) [
      | true ↦ ap (λ (l : List ℕ). c ∷ l) rest
      | false ↦ rest
    ]

places_more : {X : Type 0} (p : X → Bool) (f : ℕ → X) (n : ℕ)
    → places_where p (map f (upto (suc n)))
    ≡ places_where p (map f (upto n)) ++ cond (p (f n)) (n ∷ []) []
places_more p f n =
    ap (places_where p) (map-append f (upto n) (n ∷ []))
    ∙ places_append 0 p (map f (upto n)) (f n ∷ [])
    ∙ ap (λ (k : ℕ). places_where p (map f (upto n)) ++ cond (p (f n)) (k ∷ []) [])
    (let size = length-map (upto n) f in let long = length_upto n in
    let e : 0 + length (map f (upto n)) ≡ n = omega arith in e)

no_place : {X : Type 0} (p : X → Bool) (f : ℕ → X) (n : ℕ)
    → ((k : ℕ) → k < n → p (f k) ≡ false)
    → places_where p (map f (upto n)) ≡ []
no_place p f zero none = refl
no_place p f (suc n) none =
    places_more p f n
    ∙ rw (no_place p f n (λ k below. none k (omega arith)), none n (omega arith)) refl

one_place : {X : Type 0} (p : X → Bool) (f : ℕ → X) (n i : ℕ) → i < n → p (f i) ≡ true
    → ((k : ℕ) → k < n → (k ≡ i → ⊥) → p (f k) ≡ false)
    → places_where p (map f (upto n)) ≡ i ∷ []
one_place p f zero i below here others = absurd (omega arith)
one_place p f (suc n) i below here others =
    elim (cases_eq n i) [
      | inl same ↦
          let last : p (f n) ≡ true = ap (λ (k : ℕ). p (f k)) same ∙ here in
          places_more p f n
          ∙ rw (
            no_place p f n (λ k less. others k (omega arith)
                (λ e. let k_is = e in omega arith)),
            last,
          ) (ap (λ (k : ℕ). k ∷ []) same)
      | inr other ↦
          places_more p f n
          ∙ rw (
            one_place p f n i (omega arith) here (λ k less. others k (omega arith)),
            others n (omega arith) other,
          ) refl
    ]

-- ---- which machine has which name in its lists

read_at : (n x : ℕ) (name : List ℕ)
    → machines_with (λ (m : RawMachine). m.inputs) (ring n x) name
    ≡ places_where (λ (m : RawMachine). is_among (names_of m.inputs) name)
    (map (machine_at n x) (upto n))
unfolding machines
read_at n x name = refl

sent_at : (n x : ℕ) (name : List ℕ)
    → machines_with (λ (m : RawMachine). m.outputs) (ring n x) name
    ≡ places_where (λ (m : RawMachine). is_among (names_of m.outputs) name)
    (map (machine_at n x) (upto n))
unfolding machines
sent_at n x name = refl

apart : (i k : ℕ) → i < 48 → k < 48 → (k ≡ i → ⊥) → is_same (decimal i) (decimal k) ≡ false
apart i k small_i small_k other = other_number i k small_i small_k (λ e. other (sym e))

abbrev in_inputs : List ℕ → RawMachine → Bool
in_inputs name m = is_among (names_of m.inputs) name

abbrev in_outputs : List ℕ → RawMachine → Bool
in_outputs name m = is_among (names_of m.outputs) name

tick_read : (n x i : ℕ) → i < n → n ≤ 48
    → machines_with (λ (m : RawMachine). m.inputs) (ring n x) (tick i).name ≡ i ∷ []
tick_read n x i below few =
    read_at n x (tick i).name
    ∙ one_place (in_inputs (tick i).name) (machine_at n x) n i below
    (rw (same_self (decimal i)) refl)
    (λ k less other. rw (apart i k (omega arith) (omega arith) other) refl)

valued_read : (n x i : ℕ) → i < n → n ≤ 48
    → machines_with (λ (m : RawMachine). m.inputs) (ring n x) (valued i).name ≡ i ∷ []
valued_read n x i below few =
    read_at n x (valued i).name
    ∙ one_place (in_inputs (valued i).name) (machine_at n x) n i below
    (rw (same_self (decimal i)) refl)
    (λ k less other. rw (apart i k (omega arith) (omega arith) other) refl)

output_read : (n x i : ℕ)
    → machines_with (λ (m : RawMachine). m.inputs) (ring n x) (output i).name ≡ []
output_read n x i =
    read_at n x (output i).name
    ∙ no_place (in_inputs (output i).name) (machine_at n x) n (λ k less. refl)

tick_sent : (n x i : ℕ)
    → machines_with (λ (m : RawMachine). m.outputs) (ring n x) (tick i).name ≡ []
tick_sent n x i =
    sent_at n x (tick i).name
    ∙ no_place (in_outputs (tick i).name) (machine_at n x) n (λ k less. refl)

output_sent : (n x i : ℕ) → i < n → n ≤ 48
    → machines_with (λ (m : RawMachine). m.outputs) (ring n x) (output i).name ≡ i ∷ []
output_sent n x i below few =
    sent_at n x (output i).name
    ∙ one_place (in_outputs (output i).name) (machine_at n x) n i below
    (rw (same_self (decimal i)) refl)
    (λ k less other. rw (apart i k (omega arith) (omega arith) other) refl)

-- ---- the ring of numbers

whole_turn : (n : ℕ) → 0 < n → n % n ≡ 0
whole_turn n some =
    ap (λ (k : ℕ). k % n) (let e : n ≡ n + 0 = omega arith in e)
    ∙ add-mod_left n 0 ∙ mod-eq_of_lt some

pub next_of_before : (n i : ℕ) → i < n → next_machine n (machine_before n i) ≡ i
next_of_before n zero below =
    let last : (0 + (n - 1)) % n ≡ n - 1 =
    mod-eq_of_lt (let less : 0 + (n - 1) < n = omega arith in less)
    ∙ (let e : 0 + (n - 1) ≡ n - 1 = omega arith in e) in
    ap (λ (k : ℕ). (k + 1) % n) last
    ∙ ap (λ (k : ℕ). k % n) (let e : n - 1 + 1 ≡ n = omega arith in e)
    ∙ whole_turn n below
next_of_before n (suc i) below =
    let less : i < n = omega arith in
    let back : (suc i + (n - 1)) % n ≡ i =
    ap (λ (k : ℕ). k % n) (let e : suc i + (n - 1) ≡ n + i = omega arith in e)
    ∙ add-mod_left n i ∙ mod-eq_of_lt less in
    ap (λ (k : ℕ). (k + 1) % n) back
    ∙ ap (λ (k : ℕ). k % n) (let e : i + 1 ≡ suc i = omega arith in e)
    ∙ mod-eq_of_lt below

pub before_of_next : (n k : ℕ) → k < n → machine_before n (next_machine n k) ≡ k
before_of_next n k below =
    elim (cases_lt (k + 1) n) [
      | inl inside ↦
          let next : (k + 1) % n ≡ k + 1 = mod-eq_of_lt inside in
          ap (machine_before n) next
          ∙ ap (λ (m : ℕ). m % n) (let e : k + 1 + (n - 1) ≡ n + k = omega arith in e)
          ∙ add-mod_left n k ∙ mod-eq_of_lt below
      | inr past ↦
          let some : 0 < n = omega arith in
          let next : (k + 1) % n ≡ 0 =
          ap (λ (m : ℕ). m % n) (let e : k + 1 ≡ n = omega arith in e) ∙ whole_turn n some in
          let least : 0 + (n - 1) < n = omega arith in
          ap (machine_before n) next
          ∙ mod-eq_of_lt least
          ∙ (let e : 0 + (n - 1) ≡ k = omega arith in e)
    ]

pub before_below : (n i : ℕ) → 0 < n → machine_before n i < n
before_below n i some = mod-lt (i + (n - 1)) some

pub next_below : (n i : ℕ) → 0 < n → next_machine n i < n
next_below n i some = mod-lt (i + 1) some

valued_sent : (n x i : ℕ) → i < n → n ≤ 48
    → machines_with (λ (m : RawMachine). m.outputs) (ring n x) (valued i).name
    ≡ machine_before n i ∷ []
valued_sent n x i below few =
    let some : 0 < n = omega arith in
    let s : ℕ = machine_before n i in
    let here : is_same (decimal i) (decimal (next_machine n s)) ≡ true =
    ap (λ (k : ℕ). is_same (decimal i) (decimal k)) (next_of_before n i below)
    ∙ same_self (decimal i) in
    sent_at n x (valued i).name
    ∙ one_place (in_outputs (valued i).name) (machine_at n x) n s (before_below n i some)
    (rw here refl)
    (λ k less other.
    let next = next_below n k some in
    let no : is_same (decimal i) (decimal (next_machine n k)) ≡ false =
    apart i (next_machine n k) (omega arith) (omega arith)
    (λ e. other (sym (before_of_next n k less) ∙ ap (machine_before n) e)) in
    rw no refl)

-- ---- each event as it is in the network

tick_made : (n x i : ℕ) → i < n → n ≤ 48
    → event_of (ring n x) (event (tick i) None FromEnv) ≡ tick_event i
tick_made n x i below few =
    rw (tick_sent n x i, tick_read n x i below few) refl

valued_made : (n x i : ℕ) → i < n → n ≤ 48
    → event_of (ring n x) (event (valued i) (Some (word (codes "d"))) Between) ≡ valued_event n i
valued_made n x i below few =
    rw (valued_sent n x i below few, valued_read n x i below few) refl

output_made : (n x i : ℕ) → i < n → n ≤ 48
    → event_of (ring n x) (event (output i) None ToEnv) ≡ output_event i
output_made n x i below few =
    rw (output_sent n x i below few, output_read n x i) refl

-- ---- where events stand

long_events : (n : ℕ) → length (flat_map events_of (upto n)) ≡ 3 * n
long_events zero = refl
long_events (suc n) =
    let rest = long_events n in
    ap length (flat_map_upto events_of n)
    ∙ length-append (flat_map events_of (upto n)) (events_of n)
    ∙ (let e : length (flat_map events_of (upto n)) + 3 ≡ 3 * suc n = omega arith in e)

event_at : (n i r : ℕ) → i < n → r < 3
    → slice_get (flat_map events_of (upto n)) (3 * i + r) ≡ slice_get (events_of i) r
event_at zero i r below small = absurd (omega arith)
event_at (suc n) i r below small =
    let E : List RawEvent = flat_map events_of (upto n) in
    let long : length E ≡ 3 * n = long_events n in
    elim (cases_eq i n) [
      | inl same ↦
          ap (λ (l : List RawEvent). slice_get l (3 * i + r)) (flat_map_upto events_of n)
          ∙ ap (slice_get (E ++ events_of n))
          (let e : 3 * i + r ≡ length E + r = omega arith in e)
          ∙ get_right E (events_of n) r
          ∙ ap (λ (k : ℕ). slice_get (events_of k) r) (sym same)
      | inr other ↦
          ap (λ (l : List RawEvent). slice_get l (3 * i + r)) (flat_map_upto events_of n)
          ∙ get_left E (events_of n) (3 * i + r) (omega arith)
          ∙ event_at n i r (omega arith) small
    ]

made_at : (n x : ℕ) (net : Network) → IsNetworkOf (ring n x) net → (i r : ℕ) → i < n → r < 3
    → slice_get net.events (3 * i + r)
    ≡ option_map (event_of (ring n x)) (slice_get (events_of i) r)
made_at n x net is i r below small =
    ap (λ (l : List EventDecl). slice_get l (3 * i + r)) is.events
    ∙ slice_get-map (event_of (ring n x)) (flat_map events_of (upto n)) (3 * i + r)
    ∙ ap (option_map (event_of (ring n x))) (event_at n i r below small)

-- ---- the numbers of events

abbrev names_at : ℕ → List (List ℕ)
names_at i = (tick i).name ∷ (valued i).name ∷ (output i).name ∷ []

names_are : (is : List ℕ)
    → names_of (map (λ (e : RawEvent). e.name) (flat_map events_of is)) ≡ flat_map names_at is
names_are [] = refl
names_are (i ∷ is) =
    ap (λ (l : List (List ℕ)). (tick i).name ∷ (valued i).name ∷ (output i).name ∷ l) (names_are is)

number_left : (xs ys : List (List ℕ)) (name : List ℕ) (k : ℕ) → number_in xs name ≡ Some k
    → number_in (xs ++ ys) name ≡ Some k
number_left [] ys name k found = absurd (none-some k found)
number_left (x ∷ xs) ys name k found =
    by (is_same name x) (number_in xs name) (number_left xs ys name) found
  where
    by : (b : Bool) (o : Option ℕ)
        → ((j : ℕ) → o ≡ Some j → number_in (xs ++ ys) name ≡ Some j)
        → cond b (Some 0) (option_map suc o) ≡ Some k
        → cond b (Some 0) (option_map suc (number_in (xs ++ ys) name)) ≡ Some k
    by true o rest here = here
    by false None rest here = absurd (none-some k here)
    by false (Some j) rest here = ap (option_map suc) (rest j refl) ∙ here

number_right : (xs ys : List (List ℕ)) (name : List ℕ) → number_in xs name ≡ None
    → number_in (xs ++ ys) name ≡ option_map (λ (k : ℕ). length xs + k) (number_in ys name)
number_right [] ys name none = same (number_in ys name)
  where
    same : (o : Option ℕ) → o ≡ option_map (λ (k : ℕ). 0 + k) o
    same None = refl
    same (Some k) = ap (λ (j : ℕ). Some j) (let e : k ≡ 0 + k = omega arith in e)
number_right (x ∷ xs) ys name none =
    by (is_same name x) (number_in xs name) (number_right xs ys name) none
  where
    more : (o : Option ℕ)
        → option_map suc (option_map (λ (k : ℕ). length xs + k) o)
        ≡ option_map (λ (k : ℕ). suc (length xs) + k) o
    more None = refl
    more (Some k) =
        ap (λ (j : ℕ). Some j)
        (let e : suc (length xs + k) ≡ suc (length xs) + k = omega arith in e)

    by : (b : Bool) (o : Option ℕ)
        → (o ≡ None → number_in (xs ++ ys) name
        ≡ option_map (λ (k : ℕ). length xs + k) (number_in ys name))
        → cond b (Some 0) (option_map suc o) ≡ None
        → cond b (Some 0) (option_map suc (number_in (xs ++ ys) name))
        ≡ option_map (λ (k : ℕ). suc (length xs) + k) (number_in ys name)
    by true o rest here = absurd (none-some 0 (sym here))
    by false None rest here = ap (option_map suc) (rest refl) ∙ more (number_in ys name)
    by false (Some j) rest here = absurd (none-some (suc j) (sym here))

long_names : (n : ℕ) → length (flat_map names_at (upto n)) ≡ 3 * n
long_names zero = refl
long_names (suc n) =
    let rest = long_names n in
    ap length (flat_map_upto names_at n)
    ∙ length-append (flat_map names_at (upto n)) (names_at n)
    ∙ (let e : length (flat_map names_at (upto n)) + 3 ≡ 3 * suc n = omega arith in e)

-- a kind of names, of which each machine has the one at place r
module _ (name : ℕ → List ℕ) (r : ℕ) (here : (i : ℕ) → number_in (names_at i) (name i) ≡ Some r)
    (elsewhere : (i k : ℕ) → i < 48 → k < 48 → (k ≡ i → ⊥)
    → number_in (names_at k) (name i) ≡ None) where
  number_none : (n i : ℕ) → n ≤ i → i < 48
      → number_in (flat_map names_at (upto n)) (name i) ≡ None
  number_none zero i past small = refl
  number_none (suc n) i past small =
      ap (λ (l : List (List ℕ)). number_in l (name i)) (flat_map_upto names_at n)
      ∙ number_right (flat_map names_at (upto n)) (names_at n) (name i)
      (number_none n i (omega arith) small)
      ∙ ap (option_map (λ (k : ℕ). length (flat_map names_at (upto n)) + k))
      (elsewhere i n small (omega arith) (λ e. let same = e in omega arith))

  numbered : (n i : ℕ) → i < n → n ≤ 48
      → number_in (flat_map names_at (upto n)) (name i) ≡ Some (3 * i + r)
  numbered zero i below few = absurd (omega arith)
  numbered (suc n) i below few =
      let before : List (List ℕ) = flat_map names_at (upto n) in
      elim (cases_eq n i) [
        | inl same ↦
            ap (λ (l : List (List ℕ)). number_in l (name i)) (flat_map_upto names_at n)
            ∙ number_right before (names_at n) (name i)
            (number_none n i (omega arith) (omega arith))
            ∙ ap (λ (k : ℕ). option_map (λ (j : ℕ). length before + j)
            (number_in (names_at k) (name i))) same
            ∙ ap (option_map (λ (j : ℕ). length before + j)) (here i)
            ∙ ap (λ (k : ℕ). Some k)
            (let long = long_names n in let e : length before + r ≡ 3 * i + r = omega arith in e)
        | inr other ↦
            ap (λ (l : List (List ℕ)). number_in l (name i)) (flat_map_upto names_at n)
            ∙ number_left before (names_at n) (name i) (3 * i + r)
            (numbered n i (omega arith) (omega arith))
      ]

  event_number : (n x i : ℕ) → i < n → n ≤ 48
      → number (event_words (ring n x)) (name i) ≡ 3 * i + r
  event_number n x i below few =
      ap (λ (l : List (List ℕ)). unwrap_or (number_in l (name i)) 0) (names_are (upto n))
      ∙ ap (λ (o : Option ℕ). unwrap_or o 0) (numbered n i below few)

pub tick_number : (n x i : ℕ) → i < n → n ≤ 48
    → number (event_words (ring n x)) (tick i).name ≡ 3 * i
tick_number n x i below few =
    event_number (λ k. (tick k).name) 0 (λ k. rw (same_self (decimal k)) refl)
    (λ j k small_j small_k other. rw (apart j k small_j small_k other) refl) n x i below few
    ∙ (let e : 3 * i + 0 ≡ 3 * i = omega arith in e)

pub valued_number : (n x i : ℕ) → i < n → n ≤ 48
    → number (event_words (ring n x)) (valued i).name ≡ 3 * i + 1
valued_number n x i below few =
    event_number (λ k. (valued k).name) 1 (λ k. rw (same_self (decimal k)) refl)
    (λ j k small_j small_k other. rw (apart j k small_j small_k other) refl) n x i below few

pub output_number : (n x i : ℕ) → i < n → n ≤ 48
    → number (event_words (ring n x)) (output i).name ≡ 3 * i + 2
output_number n x i below few =
    event_number (λ k. (output k).name) 2 (λ k. rw (same_self (decimal k)) refl)
    (λ j k small_j small_k other. rw (apart j k small_j small_k other) refl) n x i below few

-- ---- machines

zip_at : {A B : Type 0} (R : A → B → Type 0) (xs : List A) (ys : List B) (k : ℕ) (a : A)
    → AllZip R xs ys → slice_get xs k ≡ Some a
    → (b : B) × (slice_get ys k ≡ Some b) × R a b
zip_at R [] [] k a all at = absurd (none-some a at)
zip_at R [] (y ∷ ys) k a all at = absurd all
zip_at R (x ∷ xs) [] k a all at = absurd all
zip_at R (x ∷ xs) (y ∷ ys) zero a all at =
    (y, refl, subst (λ v. R v y) (ap (λ o. unwrap_or o x) at) all.0)
zip_at R (x ∷ xs) (y ∷ ys) (suc k) a all at = zip_at R xs ys k a all.1 at

declared_machine : (n x i : ℕ) → i < n
    → slice_get (ring n x).machines i ≡ Some (machine_at n x i)
unfolding machines
declared_machine n x i below =
    slice_get-map (machine_at n x) (upto n) i ∙ ap (option_map (machine_at n x)) (get_upto n i below)

-- machine i of the network
pub machine_of : (n x : ℕ) (net : Network) → IsNetworkOf (ring n x) net → (i : ℕ) → i < n
    → (m : Machine) × (slice_get net.machines i ≡ Some m)
    × IsMachineOf (ring n x) (machine_at n x i) m
machine_of n x net is i below =
    zip_at (IsMachineOf (ring n x)) (ring n x).machines net.machines i (machine_at n x i)
    is.machines (declared_machine n x i below)

pub machine_count : (n x : ℕ) (net : Network) → IsNetworkOf (ring n x) net
    → length net.machines ≡ n
unfolding machines
machine_count n x net is =
    zip_length (IsMachineOf (ring n x)) (map (machine_at n x) (upto n)) net.machines is.machines
    ∙ length-map (upto n) (machine_at n x)
    ∙ length_upto n

inputs_are : (n x : ℕ) (net : Network) → IsNetworkOf (ring n x) net → n ≤ 48 → (i : ℕ) → i < n
    → inputs_of net i ≡ (3 * i) ∷ (3 * i + 1) ∷ []
inputs_are n x net is few i below =
    let m = machine_of n x net is i below in
    ap (λ (o : Option Machine). unwrap_or (option_map (λ (made : Machine). made.inputs) o) []) m.1
    ∙ m.2.inputs
    ∙ rw (tick_number n x i below few, valued_number n x i below few) refl

outputs_are : (n x : ℕ) (net : Network) → IsNetworkOf (ring n x) net → n ≤ 48 → (i : ℕ) → i < n
    → outputs_of net i ≡ (3 * next_machine n i + 1) ∷ (3 * i + 2) ∷ []
outputs_are n x net is few i below =
    let m = machine_of n x net is i below in
    let j : ℕ = next_machine n i in
    ap (λ (o : Option Machine). unwrap_or (option_map (λ (made : Machine). made.outputs) o) []) m.1
    ∙ m.2.outputs
    ∙ rw (
      valued_number n x j (next_below n i (omega arith)) few,
      output_number n x i below few,
    ) refl

domain_size : (n x : ℕ) (net : Network) → IsNetworkOf (ring n x) net
    → values_of net.domains (Some 0) ≡ 8
domain_size n x net is =
    let d = zip_at (λ (d : RawDomain). IsDomainOf d.shape) (domain ∷ []) net.domains 0 domain
    is.domains refl in
    let span = d.2 in
    ap (λ (o : Option Domain). unwrap_or (option_map size_of o) 0) d.1
    ∙ ap size_of span.1
    ∙ rw (span.2, span.3) refl

-- ---- together

pub demo_events : (n x : ℕ) (net : Network) → n ≤ 48 → IsNetworkOf (ring n x) net
    → HasDemoEvents n net
demo_events n x net few is = record {
  machines = machine_count n x net is;
  events =
      ap length is.events
      ∙ length-map (flat_map events_of (upto n)) (event_of (ring n x))
      ∙ long_events n;
  values = domain_size n x net is;
  tick_is = λ i below.
      ap (slice_get net.events) (let e : 3 * i ≡ 3 * i + 0 = omega arith in e)
      ∙ made_at n x net is i 0 below (omega arith)
      ∙ ap (λ (e : EventDecl). Some e) (tick_made n x i below few);
  valued_is = λ i below.
      made_at n x net is i 1 below (omega arith)
      ∙ ap (λ (e : EventDecl). Some e) (valued_made n x i below few);
  output_is = λ i below.
      made_at n x net is i 2 below (omega arith)
      ∙ ap (λ (e : EventDecl). Some e) (output_made n x i below few);
  reads = inputs_are n x net is few;
  sends = outputs_are n x net is few;
}

pub seeds_have_events : (seed : ℕ) (net : Network) → IsNetworkOf (network seed) net
    → HasDemoEvents (count seed) net
unfolding network
seeds_have_events seed net is =
    demo_events (count seed) (after seed 1) net
    (let h = draw_below seed 25 (omega arith) in omega arith) is
