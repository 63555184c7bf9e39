-- The fields of an image, in order.
use Rattle.std.specs.Prelude.{ℕ, List, [], ◌∷◌, ◌++◌, map, length, flat_map, codes}
use Rattle.std.specs.Int.{w32, to_be_bytes}
use Rattle.std.specs.List.{concat}
use Rattle.task_code.specs.declared.instr.Instr.{Instr}
use Rattle.task_code.specs.declared.instr.Instr.TheVariants.{Test, Set, Goto, Halt}
use Rattle.task_image.specs.declared.image.ImageMachine.{ImageMachine}

-- a number of one byte, and one of four bytes from the highest byte
abbrev pub one_byte : ℕ → List ℕ
one_byte n = n ∷ []

abbrev pub four_bytes : ℕ → List ℕ
four_bytes n = to_be_bytes w32 n

-- a tag, and what the instruction names
abbrev pub instr_fields : Instr → List (List ℕ)
instr_fields Halt = one_byte 0 ∷ []
instr_fields (Test var targets) = one_byte 1 ∷ one_byte var ∷ map four_bytes targets
instr_fields (Set result code) = one_byte 2 ∷ one_byte result ∷ one_byte code ∷ []
instr_fields (Goto target) = one_byte 3 ∷ four_bytes target ∷ []

-- how many sizes, and each size
abbrev pub sizes_fields : List ℕ → List (List ℕ)
sizes_fields sizes = one_byte (length sizes) ∷ map one_byte sizes

-- how many instructions, and each instruction
abbrev pub code_fields : List Instr → List (List ℕ)
code_fields c = four_bytes (length c) ∷ flat_map instr_fields c

-- how long the name is, the name, the sizes of the variables and of the results, the code
abbrev pub machine_fields : ImageMachine → List (List ℕ)
machine_fields m =
    one_byte (length m.name) ∷ m.name
    ∷ (sizes_fields m.vars ++ (sizes_fields m.results ++ code_fields m.code))

-- the magic, version 1, how many machines, and each machine
abbrev pub image_fields : List ImageMachine → List (List ℕ)
image_fields i = codes "PIMG" ∷ one_byte 1 ∷ one_byte (length i) ∷ flat_map machine_fields i

abbrev pub ImageBytes : List ImageMachine → List ℕ
ImageBytes i = concat (image_fields i)
