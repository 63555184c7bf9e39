-- The entry at a place of a journal.
use Rattle.std.specs.Prelude.{◌≡◌, ℕ, zero, suc, ◌+◌, ◌<◌, List, [], ◌∷◌, ◌++◌, length, take, slice_get, Option, Some, IsSomeAnd}
use Rattle.std.proofs.Common.{ap, ◌∙◌, subst, get_or}
use Rattle.std.proofs.lemmas.List.{take_more}
use Rattle.std.proofs.lemmas.Option.{slice_get_within, get_or_from_slice_get}
use Rattle.transition_table.specs.Transitions.{IsSnapshot, IsOutcome}
use Rattle.transition_table.specs.declared.machine.Machine.{Machine}
use Rattle.transition_table.specs.declared.network.Network.{Network}
use Rattle.transition_table.specs.declared.snapshot.Snapshot.{Snapshot}
use Rattle.journals.specs.declared.entry.Entry.{Entry}
use Rattle.journals.specs.declared.entry.Entry.TheVariants.{Dep, Rea}
use Rattle.journals.specs.Journals.{FitsNetwork, IsJournal, snap}
use Rattle.journals.specs.Moved.{machine_of, SuitsMachine, moments_of}
use Rattle.journals.proofs.MomentsAfter.{get_or_table}

pub fits_at : (net : Network) (journal : List Entry) (i : ℕ) (entry : Entry) → IsJournal net journal
    → slice_get journal i ≡ Some entry → FitsNetwork net entry
fits_at net [] i entry h at = cc
fits_at net (x ∷ journal) zero entry h at = let same : x ≡ entry = cc in
    subst (FitsNetwork net) same h.0
fits_at net (x ∷ journal) (suc i) entry h at = fits_at net journal i entry h.1 at

pub suits_machine : (net : Network) (machine : Machine) (entry : Entry) → FitsNetwork net entry
    → slice_get net.machines (machine_of entry) ≡ Some machine → SuitsMachine machine entry
suits_machine net machine (Dep s m e c) h at = tt
suits_machine net machine (Rea m s o) h at =
    let of : IsSnapshot machine s × IsOutcome machine o =
    subst (λ (found : Option Machine). IsSomeAnd found
    (λ machine. IsSnapshot machine s × IsOutcome machine o)) at h in
    of.1.widths

pub prefix_more : (journal : List Entry) (i : ℕ) (entry : Entry) → slice_get journal i ≡ Some entry
    → take (i + 1) journal ≡ take i journal ++ entry ∷ []
prefix_more journal i entry at = take_more journal i entry (slice_get_within journal i entry at)
    ∙ ap (λ x. take i journal ++ x ∷ []) (get_or_from_slice_get journal i entry entry at)

-- the snapshot of a machine among those of all
pub moment_of : (net : Network) (journal : List Entry) (moments : List Snapshot) (m : ℕ)
    (s : Snapshot) → moments ≡ moments_of net journal → m < length net.machines
    → s ≡ get_or moments m s → s ≡ snap net journal m
moment_of net journal moments m s are below at =
    at ∙ ap (λ (l : List Snapshot). get_or l m s) are
    ∙ get_or_table (snap net journal) (length net.machines) m s below
