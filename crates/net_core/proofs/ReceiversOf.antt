-- The receivers of an event as a set of bits.
use Rattle.std.specs.Prelude.{◌≡◌, ◌≢◌, ℕ, zero, suc, ◌+◌, ◌-◌, ◌<◌, ◌≤◌, Bool, false, cond, ◌&&◌, ◌==◌, nat_lt, List, ◌∷◌, ◌++◌, filter, length, slice_get, Option, Some, None, option_map, unwrap_or, []}
use Rattle.std.specs.Int.{bit_at}
use Rattle.std.specs.Cmp.Lexicographic.{pointwise}
use Rattle.std.proofs.Common.{refl, sym, ap, ◌∙◌, inl, inr, arith, get_or}
use Rattle.std.proofs.lemmas.List.{get_or_append_left, get_or-append_right}
use Rattle.std.proofs.lemmas.Bool.{lt-ltb, le-ltb, cases_eq, cases_lt}
use Rattle.std.proofs.lemmas.Bool.Decides.{Decides-eqb}
use Rattle.std.proofs.lemmas.Slice.Eq.{slice_eq-Decides}
use Rattle.polis_base.specs.Lists.{upto, places_from, places_where}
use Rattle.polis_base.proofs.Lists.{same_below}
use Rattle.transition_table.specs.NetworkFacts.{has, has_receivers}
use Rattle.transition_table.specs.declared.decl.EventDecl.{EventDecl}
use Rattle.transition_table.specs.declared.machine.Machine.{Machine}
use Rattle.transition_table.specs.declared.network.Network.{Network}
use Rattle.journals.specs.Journals.{reads}
use Rattle.journals.specs.Schedules.{receivers_of}
use Rattle.polis_base.specs.Sets.{members}
use Rattle.net_core.proofs.Bitsets.{none_past}
use Rattle.journals.proofs.DeliveriesOfWay.{passes_of_each}
use Rattle.polis_base.proofs.Places.{some_at}

-- the test of the i-th item
abbrev at_item : {X : Type 0} → (X → Bool) → List X → ℕ → Bool
at_item test xs i = unwrap_or (option_map test (slice_get xs i)) false

-- ---- the numbers from n on

abbrev from : ℕ → ℕ → List ℕ
from n zero = []
from n (suc k) = n ∷ from (n + 1) k

from_more : (n k : ℕ) → from n (suc k) ≡ from n k ++ (n + k) ∷ []
from_more n zero = let same : n ≡ n + 0 = omega arith in
    ap (λ i. let one : List ℕ = i ∷ [] in one) same
from_more n (suc k) =
    let same : n + 1 + k ≡ n + suc k = omega arith in
    ap (λ l. n ∷ l) (from_more (n + 1) k ∙ ap (λ i. from (n + 1) k ++ i ∷ []) same)

upto_from : (k : ℕ) → upto k ≡ from 0 k
upto_from zero = refl
upto_from (suc k) = let same : k ≡ 0 + k = omega arith in
    ap (λ l. l ++ k ∷ []) (upto_from k) ∙ ap (λ i. from 0 k ++ i ∷ []) same ∙ sym (from_more 0 k)

places_are : {X : Type 0} (test : X → Bool) (n : ℕ) (p : ℕ → Bool) (xs : List X)
    → ((i : ℕ) → p (n + i) ≡ at_item test xs i)
    → places_from n test xs ≡ filter p (from n (length xs))
places_are test n p [] same = refl
places_are {X} test n p (x ∷ xs) same =
    let none : n + 0 ≡ n = omega arith in
    let first : p n ≡ test x = sym (ap p none) ∙ same 0 in
    let rest = places_are test (n + 1) p xs (λ i. let sum : n + 1 + i ≡ n + suc i = omega arith in
    ap p sum ∙ same (suc i)) in
    ap (λ l. cond (test x) (n ∷ l) l) rest
    ∙ ap (λ b. cond b (n ∷ filter p (from (n + 1) (length xs)))
    (filter p (from (n + 1) (length xs)))) (sym first)

-- ---- receivers

reads_at : (net : Network) (e k : ℕ)
    → at_item (λ machine. has machine.inputs e) net.machines k ≡ reads net k e
reads_at net e k = cases (slice_get net.machines k)
  where
    cases : (o : Option Machine) → unwrap_or (option_map (λ machine. has machine.inputs e) o) false
        ≡ has (unwrap_or (option_map (λ machine. machine.inputs) o) []) e
    cases None = refl
    cases (Some machine) = refl

pub receivers_are : (net : Network) (e : ℕ) (event : EventDecl) → slice_get net.events e ≡ Some event
    → event.receivers ≡ filter (λ k. reads net k e) (upto (length net.machines))
receivers_are net e event at =
    let places = places_where (λ machine. has machine.inputs e) net.machines in
    (slice_eq-Decides Decides-eqb event.receivers places (pointwise ◌==◌ event.receivers places)
    refl).0
    (passes_of_each (has_receivers net.machines) 0 e e net.events event (omega arith) net.receivers
    at)
    ∙ places_are (λ machine. has machine.inputs e) 0 (λ k. reads net k e) net.machines
    (λ i. let same : 0 + i ≡ i = omega arith in
    ap (λ k. reads net k e) same ∙ sym (reads_at net e i))
    ∙ ap (filter (λ k. reads net k e)) (sym (upto_from (length net.machines)))

-- one machine more
pub marked : (net : Network) (e m old new : ℕ) (machine : Machine) (is : Bool)
    → slice_get net.machines m ≡ Some machine → is ≡ has machine.inputs e → (bit_at new m == 1) ≡ is
    → ((k : ℕ) → k ≢ m → bit_at new k ≡ bit_at old k)
    → ((k : ℕ) → (bit_at old k == 1) ≡ (nat_lt k m && reads net k e)) → (k : ℕ)
    → (bit_at new k == 1) ≡ (nat_lt k (m + 1) && reads net k e)
marked net e m old new machine is at says here others were k =
    elim (cases_eq k m) [
      | inl same ↦
          ap (λ j. bit_at new j == 1) same ∙ here ∙ says
          ∙ sym (ap (λ b. b && reads net k e) (lt-ltb k (m + 1) (omega arith))
          ∙ ap (λ j. reads net j e) same ∙ ap
          (λ (o : Option Machine). has (unwrap_or (option_map (λ machine. machine.inputs) o) [])
          e) at)
      | inr other ↦
          ap (λ b. b == 1) (others k other) ∙ were k
          ∙ elim (cases_lt k m) [
            | inl below ↦ ap (λ b. b && reads net k e)
                (lt-ltb k m below ∙ sym (lt-ltb k (m + 1) (omega arith)))
            | inr past ↦ let apart : k ≢ m = other in
                ap (λ b. b && reads net k e) (le-ltb k m past
                ∙ sym (le-ltb k (m + 1) (omega arith)))
          ]
    ]

-- the set whose members are the machines that read the event
pub receivers_in : (net : Network) (e set : ℕ) → e < length net.events
    → ((k : ℕ) → (bit_at set k == 1) ≡ (nat_lt k (length net.machines) && reads net k e))
    → members set ≡ receivers_of net e
unfolding members
receivers_in net e set within bits =
    let found = some_at net.events e within in
    let event : EventDecl = found.0 in
    let at : slice_get net.events e ≡ Some event = found.1 in
    let n = length net.machines in
    let few : n ≤ 64 = net.few_machines in
    none_past (λ k. bit_at set k == 1) n 64 few
    (λ k past. bits k ∙ ap (λ b. b && reads net k e) (le-ltb k n past))
    ∙ same_below (λ k. bit_at set k == 1) (λ k. reads net k e) n
    (λ k below. bits k ∙ ap (λ b. b && reads net k e) (lt-ltb k n below))
    ∙ sym (receivers_are net e event at)
    ∙ sym (ap (λ (o : Option EventDecl). unwrap_or (option_map (λ event. event.receivers) o) []) at)

-- the sets of one event more
pub readers_more : (net : Network) (sets : List ℕ) (event set : ℕ) → length sets ≡ event
    → event < length net.events
    → ((k : ℕ) → (bit_at set k == 1) ≡ (nat_lt k (length net.machines) && reads net k event))
    → ((e : ℕ) → e < event → members (get_or sets e 0) ≡ receivers_of net e) → (e : ℕ)
    → e < event + 1 → members (get_or (sets ++ set ∷ []) e 0) ≡ receivers_of net e
readers_more net sets event set long within bits are e below =
    elim (cases_eq e event) [
      | inl is ↦
          let none : e - event ≡ 0 = omega arith in
          ap members (get_or-append_right sets (set ∷ []) event e 0 long (omega arith)
          ∙ ap (λ k. get_or (set ∷ []) k 0) none)
          ∙ receivers_in net event set within bits ∙ ap (receivers_of net) (sym is)
      | inr other ↦
          let apart : e ≢ event = other in
          ap members (get_or_append_left sets (set ∷ []) 0 e (omega arith)) ∙ are e (omega arith)
    ]
