-- What a firing emits, output by output, written one delivery after another.
use Rattle.std.specs.Prelude.{◌≡◌, ℕ, zero, suc, ◌+◌, ◌≤◌, List, [], ◌∷◌, ◌++◌, map, flat_map, length, take, slice_get, Option, Some, option_map, unwrap_or}
use Rattle.std.proofs.Common.{refl, sym, ap, ◌∙◌, arith, append_assoc}
use Rattle.std.proofs.lemmas.List.{length-map}
use Rattle.transition_table.specs.declared.network.Network.{Network}
use Rattle.transition_table.specs.declared.decl.Party.{Party}
use Rattle.transition_table.specs.declared.decl.EventDecl.{EventDecl}
use Rattle.journals.specs.Journals.{emitted}
use Rattle.journals.specs.Schedules.{receivers_of, deliveries_of}
use Rattle.journals.specs.declared.entry.Owed.{Owed}
use Rattle.event_buffer.specs.declared.arrival.Arrival.{Arrival}
use Rattle.event_buffer.specs.Arrivals.{arrival_of}
use Rattle.journals.proofs.StampSteps.{length_prefix}
use Rattle.polis_base.proofs.Places.{length_append}

pub receivers_of_event :
    (net : Network) (e : ℕ) (event : EventDecl)
    → slice_get net.events e ≡ Some event → receivers_of net e ≡ event.receivers
receivers_of_event net e event at =
    ap (λ (o : Option EventDecl). unwrap_or (option_map (λ event. event.receivers) o) []) at

-- what s gives by emitting these events with these codes
abbrev pub given_by : Network → Party → List ℕ → List ℕ → List Owed
given_by net s events codes = flat_map (deliveries_of net s) (emitted events codes)

-- ---- how many there are

deliveries_long :
    (net : Network) (s : Party) (e c : ℕ)
    → length (deliveries_of net s (e, c)) ≡ length (receivers_of net e)
deliveries_long net s e c =
    length-map (receivers_of net e) (λ m. record { from = s; to = m; event = e; code = c })

-- there are no more deliveries than receivers of outputs
pub few_deliveries :
    (net : Network) (s : Party) (events codes : List ℕ)
    → length (given_by net s events codes)
    ≤ length (flat_map (receivers_of net) events)
few_deliveries net s [] codes = omega arith
few_deliveries net s (e ∷ events) [] = omega arith
few_deliveries net s (e ∷ events) (zero ∷ codes) =
    let rest = few_deliveries net s events codes in
    let size = length_append (receivers_of net e) (flat_map (receivers_of net) events) in
    omega arith
few_deliveries net s (e ∷ events) (suc v ∷ codes) =
    let rest = few_deliveries net s events codes in
    let size = length_append (receivers_of net e) (flat_map (receivers_of net) events) in
    let here =
    length_append (deliveries_of net s (e, suc v)) (given_by net s events codes) in
    let one = deliveries_long net s e (suc v) in
    omega arith

pub receivers_next :
    (net : Network) (xs : List ℕ) (k x : ℕ)
    → slice_get xs k ≡ Some x
    → length (flat_map (receivers_of net) (take (suc k) xs))
    ≡ length (flat_map (receivers_of net) (take k xs)) + length (receivers_of net x)
receivers_next net [] k x h = absurd cc
receivers_next net (y ∷ xs) zero x h =
    let same : y ≡ x = cc in
    let size = length_append (receivers_of net y) [] in
    let other = ap (λ z. length (receivers_of net z)) same in
    omega arith
receivers_next net (y ∷ xs) (suc k) x h =
    let rest = receivers_next net xs k x h in
    let size = length_append (receivers_of net y) (flat_map (receivers_of net) (take (suc k) xs)) in
    let before = length_append (receivers_of net y) (flat_map (receivers_of net) (take k xs)) in
    omega arith

-- ---- one delivery more

pub map_next :
    {X : Type 0} (f : ℕ → X) (xs : List ℕ) (k x : ℕ)
    → slice_get xs k ≡ Some x → map f (take (suc k) xs) ≡ map f (take k xs) ++ f x ∷ []
map_next f [] k x h = absurd cc
map_next f (y ∷ xs) zero x h = let same : y ≡ x = cc in ap (λ z. f z ∷ []) same
map_next f (y ∷ xs) (suc k) x h = ap (λ l. f y ∷ l) (map_next f xs k x h)

abbrev pub an_arrival : Party → ℕ → ℕ → ℕ → ℕ → Arrival
an_arrival s m e c stamp = record { from = s; to = m; event = e; code = c; stamp = stamp }

abbrev an_owed : Party → ℕ → ℕ → ℕ → Owed
an_owed s m e c = record { from = s; to = m; event = e; code = c }

pub arrivals_to :
    (s : Party) (e c stamp : ℕ) (ms : List ℕ)
    → map (λ (m : ℕ). an_arrival s m e c stamp) ms
    ≡ map (arrival_of stamp) (map (λ (m : ℕ). an_owed s m e c) ms)
arrivals_to s e c stamp [] = refl
arrivals_to s e c stamp (m ∷ ms) =
    ap (λ l. an_arrival s m e c stamp ∷ l) (arrivals_to s e c stamp ms)

-- where this event comes next there is room for it
pub room_for :
    (net : Network) (s : Party) (stamp : ℕ) (room : List Arrival) (count e c : ℕ)
    (here rest whole : List Owed)
    → count ≤ length room
    → length whole ≤ length room
    → here ≡ deliveries_of net s (e, c) ++ rest
    → take count room ++ map (arrival_of stamp) here ≡ map (arrival_of stamp) whole
    → count + length (receivers_of net e) ≤ length room
room_for net s stamp room count e c here rest whole inside few is all =
    let a = ap (λ (l : List Arrival). length l) all in
    let b = length_append (take count room) (map (arrival_of stamp) here) in
    let d = length_prefix room count inside in
    let f = length-map here (arrival_of stamp) in
    let g = length-map whole (arrival_of stamp) in
    let h = ap (λ (l : List Owed). length l) is ∙ length_append (deliveries_of net s (e, c)) rest in
    let i = deliveries_long net s e c in
    omega arith

pub written_on :
    (before after here rest whole one : List Arrival)
    → after ≡ before ++ one
    → here ≡ one ++ rest
    → before ++ here ≡ whole
    → after ++ rest ≡ whole
written_on before after here rest whole one is next all =
    ap (λ l. l ++ rest) is
    ∙ append_assoc before one rest
    ∙ ap (λ l. before ++ l) (sym next)
    ∙ all
