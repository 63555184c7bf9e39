-- The bytes of an image, piece by piece.
use Rattle.std.specs.Prelude.{ℕ, List, [], ◌∷◌, ◌++◌, length, flat_map, codes}
use Rattle.task_code.specs.declared.instr.Instr.{Instr}
use Rattle.task_code.specs.declared.instr.Instr.TheVariants.{Test, Set, Goto, Halt}
use Rattle.task_image.specs.declared.image.ImageMachine.{ImageMachine}
use Rattle.task_image.specs.Fields.{four_bytes}

-- a byte that says how many bytes follow, and these
abbrev pub counted : List ℕ → List ℕ
counted bytes = length bytes ∷ bytes

abbrev pub instr_bytes : Instr → List ℕ
instr_bytes Halt = 0 ∷ []
instr_bytes (Test var targets) = 1 ∷ var ∷ flat_map four_bytes targets
instr_bytes (Set result code) = 2 ∷ result ∷ code ∷ []
instr_bytes (Goto target) = 3 ∷ four_bytes target

abbrev pub code_bytes : List Instr → List ℕ
code_bytes c = four_bytes (length c) ++ flat_map instr_bytes c

abbrev pub machine_bytes : ImageMachine → List ℕ
machine_bytes m = counted m.name ++ (counted m.vars ++ (counted m.results ++ code_bytes m.code))

abbrev pub image_bytes : List ImageMachine → List ℕ
image_bytes i = codes "PIMG" ++ 1 ∷ length i ∷ flat_map machine_bytes i
