-- The parts of the machines that are compiled so far, one after another.
use Rattle.std.proofs.Common.{◌≡◌, ◌∙◌, ℕ, ◌+◌, List, [], ◌∷◌, ◌++◌, length, map, slice_get, Some, refl, ap, sym}
use Rattle.std.proofs.lemmas.List.{map_push}
use Rattle.transition_table.specs.declared.machine.Machine.{Machine}
use Rattle.transition_table.specs.declared.network.Network.{Network}
use Rattle.task_code.specs.Listings.{Part}
use Rattle.machine_compiler.specs.Parts.{AreRightParts, IsRightPart}
use Rattle.machine_compiler.proofs.RightParts.{Paired, none_paired, more_paired, length_push}

-- the first so many machines have right parts, and this is kept of them
pub record PartsSoFar (net : Network) (k : ℕ) (Keeps : List Part → Type 0) : Type 0 where
  pub parts : List Part
  pub long : length parts ≡ k
  pub right : Paired IsRightPart net.machines parts
  pub kept : Keeps parts

pub no_part : (net : Network) (Keeps : List Part → Type 0) → Keeps [] → PartsSoFar net 0 Keeps
no_part net Keeps kept =
    record {
      parts = [];
      long = refl;
      right = none_paired IsRightPart net.machines [] refl;
      kept = kept;
    }

pub one_part : (net : Network) (k : ℕ) (Keeps Keeps' : List Part → Type 0) (m : Machine) (q : Part)
    → PartsSoFar net k Keeps
    → slice_get net.machines k ≡ Some m
    → IsRightPart m q
    → ((qs : List Part) → slice_get net.machines (length qs) ≡ Some m → Keeps qs
    → Keeps' (qs ++ q ∷ []))
    → PartsSoFar net (k + 1) Keeps'
one_part net k Keeps Keeps' m q so_far at right more =
    let qs = so_far.parts in
    record {
      parts = qs ++ q ∷ [];
      long = length_push qs (qs ++ q ∷ []) q k so_far.long refl;
      right = more_paired IsRightPart net.machines qs (qs ++ q ∷ []) k m q so_far.right so_far.long refl
          at right;
      kept = more qs (ap (slice_get net.machines) so_far.long ∙ at) so_far.kept;
    }

pub all_parts : (net : Network) (k : ℕ) (Keeps : List Part → Type 0)
    (so_far : PartsSoFar net k Keeps) → k ≡ length net.machines → AreRightParts net so_far.parts
all_parts net k Keeps so_far all = record { long = so_far.long ∙ all; each = so_far.right }

-- one more item of a list that has one for each part
pub one_item : {X : Type 0} (f : Part → X) (qs : List Part) (q : Part) (xs xs' : List X)
    → xs ≡ map f qs → xs' ≡ xs ++ f q ∷ [] → xs' ≡ map f (qs ++ q ∷ [])
one_item {X = X} f qs q xs xs' so_far more =
    more ∙ ap (λ (ys : List X). ys ++ f q ∷ []) so_far ∙ sym (map_push f qs q)
