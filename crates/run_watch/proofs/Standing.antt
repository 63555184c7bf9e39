-- The entry at which a complaint stands.
use Rattle.std.proofs.Common.{◌≡◌, ℕ, suc, ◌+◌, List, [], ◌∷◌, filter, slice_get, Option, Some, None, option_map, refl, ap, subst, inl, inr, arith}
use Rattle.std.specs.List.{Contains, enumerate_from}
use Rattle.std.proofs.lemmas.Option.{none-some}
use Rattle.polis_base.proofs.Members.{first_or_later, in_at, none_in_empty, of_filter, of_filter_map, of_flat_map, of_map}
use Rattle.transition_table.specs.declared.network.Network.{Network}
use Rattle.journals.specs.declared.entry.Entry.{Entry}
use Rattle.journals.specs.Journals.{reads}
use Rattle.journals.specs.Outputs.{outputs}
use Rattle.run_watch.specs.Emissions.{emission_at, placed_in, placed_outputs}
use Rattle.run_watch.specs.Laws.{EmitsHeard, StandsAtHeard}
use Rattle.run_watch.specs.Monitors.{heard, heard_by, watched}
use Rattle.run_watch.specs.declared.emission.Emission.{Emission}

-- an item that is numbered stands there
numbered_at : {X : Type 0} (n : ℕ) (xs : List X) (k : ℕ) (x : X)
    → Contains (enumerate_from n xs) (k, x)
    → (j : ℕ) × (k ≡ n + j) × (slice_get xs j ≡ Some x)
numbered_at n [] k x h = absurd (none_in_empty (k, x) h)
numbered_at {X} n (y ∷ xs) k x h =
    elim (first_or_later (n, y) (enumerate_from (n + 1) xs) (k, x) h) [
      | inl same ↦
          let number : n ≡ k = ap (λ (p : ℕ × X). p.0) same in
          (0, omega arith, ap (λ (p : ℕ × X). Some p.1) same)
      | inr later ↦
          let (j, number, at) = numbered_at (n + 1) xs k x later in
          (suc j, omega arith, at)
    ]

-- an output that stands with its place
placed_at : (net : Network) (journal : List Entry) (y : Emission)
    → Contains (placed_outputs net journal) y
    → (entry : Entry) × (slice_get journal y.place ≡ Some entry)
    × Contains (outputs net (entry ∷ [])) (y.event, y.code)
placed_at net journal y member =
    let ((k, entry), numbered, inside) =
    of_flat_map (placed_in net) (enumerate_from 0 journal) y member in
    let ((e, code), output, is) = of_map (emission_at k) (outputs net (entry ∷ [])) y inside in
    let (j, number, at) = numbered_at 0 journal k entry numbered in
    let place : j ≡ y.place =
    let same : k ≡ y.place = ap (λ (x : Emission). x.place) is in omega arith in (
      entry,
      subst (λ (p : ℕ). slice_get journal p ≡ Some entry) place at,
      subst (λ (x : Emission). Contains (outputs net (entry ∷ [])) (x.event, x.code)) is output,
    )

-- what is heard is of an output at its place
heard_at : (net monitor : Network) (journal : List Entry) (y x : Emission)
    → Contains (placed_outputs net journal) y → heard_by (watched net monitor) y ≡ Some x
    → EmitsHeard net monitor journal x.place
heard_at net monitor journal y x member is =
    go (watched net monitor y.event) refl is
  where
    go : (o : Option ℕ) → watched net monitor y.event ≡ o
        → option_map (λ w. record { place = y.place; event = w; code = y.code }) o ≡ Some x
        → EmitsHeard net monitor journal x.place
    go None none some = absurd (none-some x some)
    go (Some w) one some =
        let (entry, at, output) = placed_at net journal y member in
        let place : y.place ≡ x.place =
        let same : record { place = y.place; event = w; code = y.code } ≡ x = cc in
        ap (λ (z : Emission). z.place) same in
        record {
          entry = entry;
          there = subst (λ (p : ℕ). slice_get journal p ≡ Some entry) place at;
          event = y.event;
          code = y.code;
          emits = output;
          heard_as = w;
          heard = one;
        }

pub stands_at_heard : StandsAtHeard
stands_at_heard net monitor journal watch place stands =
    let m = stands.told.machine in
    let all : List Emission = heard net monitor journal in
    let (x, kept, is) =
    of_map (λ (x : Emission). x.place) (filter (λ (x : Emission). reads monitor m x.event) all)
    place (in_at _ stands.told.number place stands.told.source) in
    let (member, read) = of_filter (λ (x : Emission). reads monitor m x.event) all x kept in
    let (y, output, told) =
    of_filter_map (heard_by (watched net monitor)) (placed_outputs net journal) x member in
    subst (EmitsHeard net monitor journal) is (heard_at net monitor journal y x output told)
