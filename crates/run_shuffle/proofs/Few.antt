-- How many moves are offered.
use Rattle.std.proofs.Common.{◌≡◌, ℕ, suc, ◌+◌, ◌*◌, ◌≤◌, Bool, true, false, cond, List, [], ◌∷◌, filter, filter_map, flat_map, length, Option, Some, None, refl, subst, length-append, arith}
use Rattle.std.proofs.lemmas.List.{length-map}
use Rattle.polis_base.specs.Lists.{head_of}
use Rattle.transition_table.specs.declared.decl.Party.{Party}
use Rattle.transition_table.specs.declared.decl.Party.TheVariants.{Machine as Sender}
use Rattle.transition_table.specs.declared.network.Network.{Network}
use Rattle.journals.specs.declared.entry.Entry.{Entry}
use Rattle.journals.specs.declared.entry.Owed.{Owed}
use Rattle.journals.specs.declared.entry.Pick.TheVariants.{React}
use Rattle.journals.specs.declared.entry.TraceItem.{TraceItem}
use Rattle.journals.specs.Journals.{is_woken}
use Rattle.journals.specs.Schedules.{first_pick, first_woken, owed_by_machines}
use Rattle.run_shuffle.specs.declared.order.RunOrder.{RunOrder}
use Rattle.run_shuffle.specs.declared.order.RunOrder.TheVariants.{Free, Settled, Scheduled}
use Rattle.run_shuffle.specs.Moves.{machines_of, network_moves, next_deliveries, next_delivery, next_sends, reactions}
use Rattle.run_shuffle.specs.Orders.{network_offered, picked_move}
use Rattle.polis_base.proofs.UptoPlaces.{length_upto}

given_few : {X Y : Type 0} (f : X → Option Y) (xs : List X) → length (filter_map f xs) ≤ length xs
given_few f [] = omega arith
given_few {X} {Y} f (x ∷ xs) = cases (f x) refl (given_few f xs)
  where
    cases : (o : Option Y) → f x ≡ o → length (filter_map f xs) ≤ length xs
        → length (filter_map f (x ∷ xs)) ≤ suc (length xs)
    cases None is rest = rw is (omega (arith, rest))
    cases (Some y) is rest = rw is (omega (arith, rest))

pub passing_few : {X : Type 0} (p : X → Bool) (xs : List X) → length (filter p xs) ≤ length xs
passing_few p [] = omega arith
passing_few {X} p (x ∷ xs) = cases (p x) (passing_few p xs)
  where
    cases : (b : Bool) → length (filter p xs) ≤ length xs
        → length (cond b (x ∷ filter p xs) (filter p xs)) ≤ suc (length xs)
    cases true rest = omega (arith, rest)
    cases false rest = omega (arith, rest)

joined_few : {X Y : Type 0} (f : X → List Y) (n : ℕ) (xs : List X)
    → ((x : X) → length (f x) ≤ n) → length (flat_map f xs) ≤ length xs * n
joined_few f n [] h = omega arith
joined_few f n (x ∷ xs) h =
    let here = h x in
    let rest = joined_few f n xs h in
    let size = length-append (f x) (flat_map f xs) in
    let product : suc (length xs) * n ≡ n + length xs * n = grind arith in
    omega (arith, here, rest, size, product)

sends_few : (net : Network) (trace : List TraceItem) (journal : List Entry) (s : Party)
    → length (next_deliveries net trace journal s) ≤ length net.machines
sends_few net trace journal s =
    let all = given_few (next_delivery net trace journal s) (machines_of net) in
    let size = length_upto (length net.machines) in
    omega arith

pub network_few : (net : Network) (trace : List TraceItem) (journal : List Entry)
    → length (network_moves net trace journal)
    ≤ length net.machines * length net.machines + length net.machines
network_few net trace journal =
    let size = length_upto (length net.machines) in
    let sends =
    joined_few (λ s. next_deliveries net trace journal (Sender s)) (length net.machines)
    (machines_of net) (λ s. sends_few net trace journal (Sender s)) in
    let sends_all : length (next_sends net trace journal) ≤ length net.machines * length net.machines =
    subst (λ k. length (next_sends net trace journal) ≤ k * length net.machines) size sends in
    let woken = passing_few (is_woken journal) (machines_of net) in
    let reacts = length-map (filter (is_woken journal) (machines_of net)) React in
    let both = length-append (next_sends net trace journal) (reactions net journal) in
    omega (arith, sends_all, woken, reacts, both, size)

all_few : (n k : ℕ) → n ≤ 64 → k ≤ n * n + n → k ≤ 4160
all_few n k few below = grind (arith, few, below)

pub network_offered_few : (net : Network) (trace : List TraceItem) (journal : List Entry)
    (order : RunOrder) → length net.machines ≤ 64
    → length (network_offered order net trace journal) ≤ 4160
network_offered_few net trace journal Free few =
    all_few (length net.machines) (length (network_moves net trace journal)) few
    (network_few net trace journal)
network_offered_few net trace journal Settled few =
    all_few (length net.machines) (length (network_moves net trace journal)) few
    (network_few net trace journal)
network_offered_few net trace journal Scheduled few =
    one (head_of (owed_by_machines net journal)) (first_woken net journal)
  where
    one : (a : Option Owed) (c : Option ℕ) → length (picked_move (first_pick a None c)) ≤ 4160
    one (Some d) c = omega arith
    one None (Some m) = omega arith
    one None None = omega arith
