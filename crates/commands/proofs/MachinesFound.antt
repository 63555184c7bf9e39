-- The machine whose code is wrong, or whose tables differ, stands in the network.
use Rattle.std.proofs.Common.{◌≡◌, ◌<◌, ℕ, List, length, slice_get, Option, Some, None, refl, sym, subst, ◌∙◌}
use Rattle.std.proofs.lemmas.Option.{slice_get_within}
use Rattle.transition_table.specs.declared.machine.Machine.{Machine}
use Rattle.transition_table.specs.declared.network.Network.{Network}
use Rattle.transition_table.specs.declared.snapshot.Snapshot.{Snapshot}
use Rattle.transition_table.specs.Transitions.{IsSnapshot}
use Rattle.machine_equiv.specs.declared.nets.Differing.{Differing}
use Rattle.machine_equiv.specs.Comparing.{IsNetComparison}
use Rattle.task_image.specs.declared.finding.Verify.TheVariants.{Wrong}
use Rattle.task_image.specs.declared.image.ImageMachine.{ImageMachine}
use Rattle.task_image.specs.Verifying.{Verifies, IsWrongAt}

-- what is read of the machine that stands at a place
same_machine : (net : Network) (k : ℕ) (a b : Machine) (s : Snapshot)
    → slice_get net.machines k ≡ Some a → slice_get net.machines k ≡ Some b
    → IsSnapshot a s → IsSnapshot b s
same_machine net k a b s at_a at_b is =
    let both : ◌≡◌ {A = Option Machine} (Some a) (Some b) = sym at_a ∙ at_b in
    let same : a ≡ b = cc in
    subst (λ (m : Machine). IsSnapshot m s) same is

wrong_at : (a : Option ImageMachine) (m : Option Machine) (s : Snapshot) → IsWrongAt a m s
    → (x : Machine) × (m ≡ Some x) × IsSnapshot x s
wrong_at (Some a) (Some m) s h = (m, refl, h.1.fit)
wrong_at (Some a) None s h = absurd h
wrong_at None m s h = absurd h

pub wrong_within : (image : List ImageMachine) (net : Network) (k : ℕ) (s : Snapshot)
    → Verifies image net (Wrong k s) → k < length net.machines
wrong_within image net k s h =
    let w = wrong_at (slice_get image k) (slice_get net.machines k) s h.1 in
    slice_get_within net.machines k w.0 w.1

pub wrong_snapshot : (image : List ImageMachine) (net : Network) (k : ℕ) (s : Snapshot)
    (m : Machine) → Verifies image net (Wrong k s) → slice_get net.machines k ≡ Some m
    → IsSnapshot m s
wrong_snapshot image net k s m h at =
    let w = wrong_at (slice_get image k) (slice_get net.machines k) s h.1 in
    same_machine net k w.0 m s w.1 at w.2

pub differing_within : (net other : Network) (found : Differing)
    → IsNetComparison net other (Some found) → found.machine < length net.machines
differing_within net other found h = slice_get_within net.machines found.machine h.one h.one_is

pub differing_snapshot : (net other : Network) (found : Differing) (m : Machine)
    → IsNetComparison net other (Some found) → slice_get net.machines found.machine ≡ Some m
    → IsSnapshot m found.snapshot
differing_snapshot net other found m h at =
    same_machine net found.machine h.one m found.snapshot h.one_is at h.least.fit
