-- Reactions made again, and the legal entries that a journal begins with.
use Rattle.std.specs.Prelude.{◌≡◌, ◌⊎◌, ℕ, zero, suc, ◌+◌, ◌<◌, List, [], ◌∷◌, map, length, replicate, take, slice_get, slice_set, Option, Some, IsSomeAnd}
use Rattle.std.proofs.Common.{inl, inr, refl, sym, ap, ◌∙◌, subst}
use Rattle.std.proofs.lemmas.List.{length-map}
use Rattle.transition_table.specs.Laws.{TransitionFits}
use Rattle.transition_table.specs.Transitions.{OfMachine, IsSnapshot, IsOutcome, HasWidths, Transition, blank}
use Rattle.transition_table.specs.declared.machine.Machine.{Machine}
use Rattle.transition_table.specs.declared.network.Network.{Network}
use Rattle.transition_table.specs.declared.snapshot.Snapshot.{Snapshot}
use Rattle.transition_table.specs.declared.snapshot.Outcome.{Outcome}
use Rattle.journals.specs.declared.entry.Entry.{Entry}
use Rattle.journals.specs.declared.entry.TraceItem.{TraceItem}
use Rattle.journals.specs.Laws.{GoesOnBySteps}
use Rattle.journals.specs.Legality.{Legal, MayFollow}
use Rattle.net_core.specs.Blanks.{AreWide}
use Rattle.journals.proofs.StampSteps.{prefix_more}
use Rattle.polis_base.proofs.Places.{length_set}

-- ---- outcomes to write into

item_of_map : {X Y : Type 0} (f : X → Y) (xs : List X) (m : ℕ) (x : X) (y : Y)
    → slice_get xs m ≡ Some x → slice_get (map f xs) m ≡ Some y → y ≡ f x
item_of_map f [] m x y at is = absurd (cc)
item_of_map f (z ∷ xs) zero x y at is = let same : z ≡ x = cc in
    let made : f z ≡ y = cc in
    sym made ∙ ap f same
item_of_map f (z ∷ xs) (suc m) x y at is = item_of_map f xs m x y at is

length_replicate : {X : Type 0} (n : ℕ) (x : X) → length (replicate n x) ≡ n
length_replicate zero x = refl
length_replicate (suc n) x = ap suc (length_replicate n x)

pub blanks_are_wide : (net : Network) (outcomes : List Outcome) → outcomes ≡ map blank net.machines
    → AreWide net outcomes
blanks_are_wide net outcomes are = subst (AreWide net) (sym are) (record {
  many = length-map net.machines blank;
  wide = λ m machine o at is.
      subst (HasWidths machine) (sym (item_of_map blank net.machines m machine o at is))
      (record {
        next = length_replicate (length machine.states) 0;
        outs = length_replicate (length machine.outputs) 0;
      });
})

set_item : {X : Type 0} (xs : List X) (m : ℕ) (y : X) (k : ℕ) (x : X)
    → slice_get (slice_set xs m y) k ≡ Some x → ((k ≡ m) × (x ≡ y)) ⊎ (slice_get xs k ≡ Some x)
set_item [] m y k x is = inr is
set_item (z ∷ xs) zero y zero x is = inl (refl, (let same : x ≡ y = cc in same))
set_item (z ∷ xs) zero y (suc k) x is = inr is
set_item (z ∷ xs) (suc m) y zero x is = inr is
set_item (z ∷ xs) (suc m) y (suc k) x is =
    elim (set_item xs m y k x is) [
      | inl own ↦ inl (ap suc own.0, own.1)
      | inr other ↦ inr other
    ]

pub wide_after : TransitionFits
    → (net : Network) (outcomes : List Outcome) (m : ℕ) (s : Snapshot) (o p : Outcome)
    → AreWide net outcomes → OfMachine net m (λ machine. IsSnapshot machine s × IsOutcome machine o)
    → OfMachine net m (λ machine. Transition machine s p) → AreWide net (slice_set outcomes m p)
wide_after law net outcomes m s o p wide fits made = record {
  many = length_set outcomes m p ∙ wide.many;
  wide = λ k machine x at is.
      elim (set_item outcomes m p k x is) [
        | inl own ↦
            let here = subst (λ (i : ℕ). slice_get net.machines i ≡ Some machine) own.0 at in
            let snapshot = subst
            (λ (found : Option Machine). IsSomeAnd found
            (λ machine. IsSnapshot machine s × IsOutcome machine o)) here fits in
            let gives = subst
            (λ (found : Option Machine). IsSomeAnd found (λ machine. Transition machine s p)) here
            made in
            subst (HasWidths machine) (sym own.1) (law machine s p snapshot.0 gives).widths
        | inr other ↦ wide.wide k machine x at other
      ];
}

-- ---- one entry of a journal

-- it may follow where the journal with it is legal
pub follows_if_legal : GoesOnBySteps
    → (net : Network) (trace : List TraceItem) (journal : List Entry) (i : ℕ) (entry : Entry)
    → i < length journal → slice_get journal i ≡ Some entry
    → Legal net trace (take (i + 1) journal) → MayFollow net trace (take i journal) entry
follows_if_legal steps net trace journal i entry below at h =
    ((steps net trace (take i journal) entry).0
    (subst (Legal net trace) (prefix_more journal i entry below at) h)).2
