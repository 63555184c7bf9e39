-- Deliveries of a firing that are passed, one after the other.
use Rattle.std.specs.Prelude.{◌≡◌, ℕ, zero, suc, true, ◌+◌, ◌-◌, ◌<◌, ◌≤◌, List, [], ◌∷◌, length, drop, Some}
use Rattle.std.proofs.Common.{refl, ap, ◌∙◌, arith}
use Rattle.std.proofs.lemmas.Bool.{and_parts}
use Rattle.std.proofs.lemmas.List.{length-drop}
use Rattle.std.proofs.lemmas.Option.{none-some}
use Rattle.polis_base.specs.Lists.{head_of}
use Rattle.transition_table.specs.declared.network.Network.{Network}
use Rattle.event_buffer.specs.declared.arrival.Arrival.{Arrival}
use Rattle.event_buffer.specs.Arrivals.{OutgoingState, is_arrival, are_arrivals}

-- what is left of all is what stands after those that were passed
abbrev pub Passed : OutgoingState → OutgoingState → Type 0
Passed all left =
    (length left.arrivals ≤ length all.arrivals)
    × (left
    ≡ record all {
      arrivals = drop (length all.arrivals - length left.arrivals) all.arrivals;
    })

drop_one_more : {X : Type 0} (k : ℕ) (xs : List X) → drop 1 (drop k xs) ≡ drop (suc k) xs
drop_one_more zero xs = refl
drop_one_more (suc k) [] = refl
drop_one_more (suc k) (x ∷ xs) = drop_one_more k xs

pub passed_more : (all now next : OutgoingState) → Passed all now → 0 < length now.arrivals
    → next ≡ record now { arrivals = drop 1 now.arrivals }
    → Passed all next × (length next.arrivals + 1 ≡ length now.arrivals)
passed_more all now next h some is =
    let size : length next.arrivals ≡ length (drop 1 now.arrivals) =
    ap (λ (o : OutgoingState). length o.arrivals) is in
    let shorter : length (drop 1 now.arrivals) ≡ length now.arrivals - 1 =
    length-drop 1 now.arrivals in
    let few = h.0 in
    let passed : suc (length all.arrivals - length now.arrivals)
    ≡ length all.arrivals - length next.arrivals = omega arith in (
      (
        omega arith,
        is ∙ ap (λ (o : OutgoingState). record o { arrivals = drop 1 o.arrivals }) h.1
            ∙ ap (λ (l : List Arrival). record all { arrivals = l })
            (drop_one_more (length all.arrivals - length now.arrivals) all.arrivals
            ∙ ap (λ (k : ℕ). drop k all.arrivals) passed),
      ),
      omega arith,
    )

-- a list with a first delivery isn't empty
pub some_left : (arrivals : List Arrival) (a : Arrival) → head_of arrivals ≡ Some a
    → 0 < length arrivals
some_left [] a h = absurd (none-some a h)
some_left (x ∷ arrivals) a h = omega arith

-- those after the first one may arrive, too
pub rest_arrive : (net : Network) (arrivals : List Arrival) → are_arrivals net arrivals ≡ true
    → are_arrivals net (drop 1 arrivals) ≡ true
rest_arrive net [] h = refl
rest_arrive net (x ∷ arrivals) h = (and_parts (is_arrival net x) (are_arrivals net arrivals) h).1
