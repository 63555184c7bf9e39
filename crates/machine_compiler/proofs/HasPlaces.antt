-- What workers compile, put into its places.
use Rattle.std.specs.List.{All}
use Rattle.std.proofs.Common.{◌≡◌, ℕ, zero, suc, ◌+◌, ◌<◌, ◌≤◌, List, [], ◌∷◌, ◌++◌, length, slice_get, slice_set, drop, Option, Some, None, refl, ap, sym, subst, ◌∙◌, arith}
use Rattle.transition_table.specs.declared.machine.Machine.{Machine}
use Rattle.transition_table.specs.declared.network.Network.{Network}
use Rattle.machine_compiler.specs.declared.compiled.Compiled.{Compiled}
use Rattle.machine_compiler.specs.declared.shares.CompiledAt.{CompiledAt}
use Rattle.machine_compiler.specs.Parts.{IsRightPart, part_of_compiled}
use Rattle.machine_compiler.specs.inner.Shares.{IsRightAt, AreRightEach, StandsAt, HasPlaces}
use Rattle.polis_base.proofs.Places.{each_more, length_set}

-- a share with one more
pub share_more : (net : Network) (share new : List CompiledAt) (one : CompiledAt)
    → AreRightEach net share
    → new ≡ share ++ one ∷ []
    → IsRightAt net one.number one.compiled
    → AreRightEach net new
share_more net share new one right more holds i other at =
    each_more (λ (x : CompiledAt). IsRightAt net x.number x.compiled) share one right holds i other
    (ap (λ (l : List CompiledAt). slice_get l i) (sym more) ∙ at)

-- one place more, with nothing there
pub places_more : (places new : List (Option Compiled))
    → ((k : ℕ) (place : Option Compiled) → slice_get places k ≡ Some place → place ≡ None)
    → new ≡ places ++ None ∷ []
    → (k : ℕ) (place : Option Compiled) → slice_get new k ≡ Some place → place ≡ None
places_more places new empty more k place at =
    each_more (λ (p : Option Compiled). p ≡ None) places None empty refl k place
    (ap (λ (l : List (Option Compiled)). slice_get l k) (sym more) ∙ at)

pub nothing_placed : (net : Network) (places : List (Option Compiled))
    → length places ≡ length net.machines
    → ((k : ℕ) (place : Option Compiled) → slice_get places k ≡ Some place → place ≡ None)
    → HasPlaces net places
nothing_placed net places long empty = record {
  long = long;
  right = λ k place at compiled is. absurd (none_is (sym (empty k place at) ∙ is));
}
  where
    none_is : {compiled : Compiled} → None ≡ Some compiled → ⊥
    none_is e = cc

-- ---- one item in the place of another

-- an item of the new list is the new one at its place, or stood there before
in_set : {X : Type 0} (P : ℕ → X → Type 0) (xs : List X) (k : ℕ) (x : X)
    → ((i : ℕ) (y : X) → slice_get xs i ≡ Some y → P i y)
    → P k x
    → (i : ℕ) (y : X) → slice_get (slice_set xs k x) i ≡ Some y → P i y
in_set P [] k x all holds i y at = all i y at
in_set P (z ∷ xs) zero x all holds zero y at =
    let same : x ≡ y = cc in subst (P zero) same holds
in_set P (z ∷ xs) zero x all holds (suc i) y at = all (suc i) y at
in_set P (z ∷ xs) (suc k) x all holds zero y at = all zero y at
in_set P (z ∷ xs) (suc k) x all holds (suc i) y at =
    in_set (λ j. P (suc j)) xs k x (λ j w there. all (suc j) w there) holds i y at

pub placed : (net : Network) (places new : List (Option Compiled)) (k : ℕ) (compiled : Compiled)
    → HasPlaces net places
    → new ≡ slice_set places k (Some compiled)
    → IsRightAt net k compiled
    → HasPlaces net new
placed net places new k compiled has set right = record {
  long = ap (λ (l : List (Option Compiled)). length l) set
      ∙ length_set places k (Some compiled) ∙ has.long;
  right = λ i place at.
      in_set (StandsAt net) places k (Some compiled) has.right here
      i place (ap (λ (l : List (Option Compiled)). slice_get l i) (sym set) ∙ at);
}
  where
    here : StandsAt net k (Some compiled)
    here other is = let same : compiled ≡ other = cc in subst (IsRightAt net k) same right

-- ---- the next one of what is left

-- what is right for one machine of this number is right for the machine of this number
pub right_at : (net : Network) (k : ℕ) (m : Machine) (compiled : Compiled)
    → slice_get net.machines k ≡ Some m
    → IsRightPart m (part_of_compiled compiled)
    → IsRightAt net k compiled
right_at net k m compiled at right n at_n =
    let one : Some m ≡ Some n = sym at ∙ at_n in
    let same : m ≡ n = cc in
    subst (λ (x : Machine). IsRightPart x (part_of_compiled compiled)) same right

pub share_next : (net : Network) (left : List CompiledAt) (one : CompiledAt) (rest : List CompiledAt)
    → left ≡ one ∷ rest
    → AreRightEach net left
    → IsRightAt net one.number one.compiled × AreRightEach net rest
share_next net left one rest is right =
    let all = subst (AreRightEach net) is right in
    (all 0 one refl, λ i other at. all (suc i) other at)

pub all_next : {X : Type 0} (P : X → Type 0) (left : List X) (x : X) (rest : List X)
    → left ≡ x ∷ rest
    → All P left
    → P x × All P rest
all_next P left x rest is each =
    let all = subst (All P) is each in
    (all 0 x (omega arith), λ k d low. all (suc k) d (omega arith))

pub drop_next : {X : Type 0} (xs : List X) (k : ℕ) (x : X) (rest : List X)
    → drop k xs ≡ x ∷ rest
    → (slice_get xs k ≡ Some x) × (k < length xs) × (drop (k + 1) xs ≡ rest)
drop_next [] zero x rest e = absurd cc
drop_next [] (suc k) x rest e = absurd cc
drop_next (y ∷ xs) zero x rest e =
    let first : y ≡ x = cc in
    let others : xs ≡ rest = cc in
    (ap Some first, omega arith, others)
drop_next (y ∷ xs) (suc k) x rest e =
    let next = drop_next xs k x rest e in
    let at : suc k + 1 ≡ suc (k + 1) = omega arith in
    (next.0, omega arith, ap (λ (n : ℕ). drop n (y ∷ xs)) at ∙ next.2)

pub drop_none : {X : Type 0} (xs : List X) (k : ℕ) → length (drop k xs) ≡ 0 → length xs ≤ k
drop_none xs zero e = omega arith
drop_none [] (suc k) e = omega arith
drop_none (x ∷ xs) (suc k) e = let rest = drop_none xs k e in omega arith
