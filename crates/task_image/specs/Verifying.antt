-- What a check of an image against a network finds.
use Rattle.std.specs.Prelude.{◌≡◌, ℕ, ◌<◌, List, length, slice_get, Option, Some, None, ⊤}
use Rattle.domains.specs.Least.{IsLeast}
use Rattle.transition_table.specs.declared.machine.Machine.{Machine}
use Rattle.transition_table.specs.declared.network.Network.{Network}
use Rattle.transition_table.specs.declared.snapshot.Snapshot.{Snapshot}
use Rattle.transition_table.specs.Transitions.{Transition, reading}
use Rattle.task_code.specs.declared.instr.Instr.{Instr}
use Rattle.task_code.specs.Codes.{Exec, Computes}
use Rattle.task_image.specs.declared.image.ImageMachine.{ImageMachine}
use Rattle.task_image.specs.declared.finding.Verify.{Verify}
use Rattle.task_image.specs.declared.finding.Verify.TheVariants.{Fits, Shape, Wrong}

-- the two agree in the name and in the sizes of variables and results
pub record AreAlike (a : ImageMachine) (m : Machine) : Type 0 where
  pub name : a.name ≡ m.name
  pub vars : a.vars ≡ m.vars
  pub results : a.results ≡ m.results

-- they agree, and the code gives the machine's transition on each snapshot
abbrev pub FitsMachine : ImageMachine → Machine → Type 0
FitsMachine a m = AreAlike a m × Computes a.code m

-- the snapshot is the least one on which the code doesn't give the transition
abbrev pub IsFirstWrong : Machine → List Instr → Snapshot → Type 0
IsFirstWrong m c s =
    IsLeast m.vars (λ codes. ¬ Transition m (reading codes) (Exec m c codes)) s.codes

-- what is found of the machines of one number, of which one may be lacking
abbrev pub FitsAt : Option ImageMachine → Option Machine → Type 0
FitsAt (Some a) (Some m) = FitsMachine a m
FitsAt (Some a) None = ⊥
FitsAt None other = ⊥

abbrev pub IsShapeAt : Option ImageMachine → Option Machine → Type 0
IsShapeAt (Some a) (Some m) = ¬ AreAlike a m
IsShapeAt (Some a) None = ⊤
IsShapeAt None (Some m) = ⊤
IsShapeAt None None = ⊥

abbrev pub IsWrongAt : Option ImageMachine → Option Machine → Snapshot → Type 0
IsWrongAt (Some a) (Some m) s = AreAlike a m × IsFirstWrong m a.code s
IsWrongAt (Some a) None s = ⊥
IsWrongAt None other s = ⊥

-- what is found of the machines of number k, where it isn't that they fit
abbrev pub FoundAt : Verify → ℕ → Option ImageMachine → Option Machine → Type 0
FoundAt Fits k a m = ⊥
FoundAt (Shape j) k a m = (j ≡ k) × IsShapeAt a m
FoundAt (Wrong j s) k a m = (j ≡ k) × IsWrongAt a m s

-- the machines of each number below this one fit
abbrev pub FitBefore : List ImageMachine → Network → ℕ → Type 0
FitBefore i net k = (j : ℕ) → j < k → FitsAt (slice_get i j) (slice_get net.machines j)

-- Fits where there are as many machines and all fit; else what is found of the least number at
-- which machines don't fit: that one lacks or that names or sizes differ, or where they agree the
-- least snapshot on which the code doesn't give the transition
abbrev pub Verifies : List ImageMachine → Network → Verify → Type 0
Verifies i net Fits = (length i ≡ length net.machines) × FitBefore i net (length i)
Verifies i net (Shape k) =
    FitBefore i net k × IsShapeAt (slice_get i k) (slice_get net.machines k)
Verifies i net (Wrong k s) =
    FitBefore i net k × IsWrongAt (slice_get i k) (slice_get net.machines k) s
