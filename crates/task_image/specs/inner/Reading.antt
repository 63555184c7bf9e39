-- The fields of an image, each with what is allowed after the fields before it.
use Rattle.std.specs.Prelude.{ℕ, zero, suc, ◌+◌, ◌^◌, ◌==◌, nat_lt, cond, List, length, slice_index, Result, Ok, Err, codes}
use Rattle.polis_base.specs.Names.{is_name}
use Rattle.domains.specs.Names.{is_same}
use Rattle.task_code.specs.declared.instr.Instr.{Instr}
use Rattle.task_code.specs.declared.instr.Instr.TheVariants.{Test, Set, Goto, Halt}
use Rattle.task_image.specs.declared.image.ImageMachine.{ImageMachine}
use Rattle.task_image.specs.inner.FieldReaders.{Read, ◌>>=◌, within, from_to, byte_at, bytes_at, number_at, each_at}

-- how many sizes, and each size
unfoldable pub sizes_at : ℕ → List ℕ → Read (List ℕ)
sizes_at most bytes = do
  count ← byte_at (within 1 most) bytes
  each_at (λ k. byte_at (within 1 33)) 0 count.0 count.1

-- the place of an instruction after number k, of so many
abbrev pub target_at : ℕ → ℕ → List ℕ → Read ℕ
target_at count k = number_at (from_to (k + 1) count)

-- the variable, and a target for each code of it
unfoldable pub test_at : List ℕ → ℕ → ℕ → List ℕ → Read Instr
test_at vars count k bytes = do
  var ← byte_at (λ var. nat_lt var (length vars)) bytes
  targets ← each_at (λ j. target_at count k) 0 (slice_index vars var.0) var.1
  Ok (Test var.0 targets.0, targets.1)

-- the result, and one of its codes
unfoldable pub set_at : List ℕ → List ℕ → Read Instr
set_at results bytes = do
  result ← byte_at (λ result. nat_lt result (length results)) bytes
  code ← byte_at (λ code. nat_lt code (slice_index results result.0)) result.1
  Ok (Set result.0 code.0, code.1)

unfoldable pub goto_at : ℕ → ℕ → List ℕ → Read Instr
goto_at count k bytes = do
  target ← target_at count k bytes
  Ok (Goto target.0, target.1)

-- the tags are 0 to 3, and the last instruction's is 0
abbrev pub greatest_tag : ℕ → ℕ → ℕ
greatest_tag count k = cond (nat_lt (suc k) count) 3 0

-- what follows the tag of instruction k, of so many
abbrev pub after_tag : List ℕ → List ℕ → ℕ → ℕ → ℕ → List ℕ → Read Instr
after_tag vars results count k zero bytes = Ok (Halt, bytes)
after_tag vars results count k (suc zero) bytes = test_at vars count k bytes
after_tag vars results count k (suc (suc zero)) bytes = set_at results bytes
after_tag vars results count k (suc (suc (suc n))) bytes = goto_at count k bytes

unfoldable pub instr_at : List ℕ → List ℕ → ℕ → ℕ → List ℕ → Read Instr
instr_at vars results count k bytes = do
  tag ← byte_at (within 0 (greatest_tag count k)) bytes
  after_tag vars results count k tag.0 tag.1

-- how many instructions, and each one
unfoldable pub code_at : List ℕ → List ℕ → List ℕ → Read (List Instr)
code_at vars results bytes = do
  count ← number_at (from_to 1 (2 ^ 32)) bytes
  each_at (instr_at vars results count.0) 0 count.0 count.1

unfoldable pub machine_at : List ℕ → Read ImageMachine
machine_at bytes = do
  width ← byte_at (within 1 24) bytes
  name ← bytes_at width.0 is_name width.1
  vars ← sizes_at 24 name.1
  results ← sizes_at 25 vars.1
  code ← code_at vars.0 results.0 results.1
  Ok (record { name = name.0; vars = vars.0; results = results.0; code = code.0 }, code.1)

unfoldable pub machines_at : List ℕ → Read (List ImageMachine)
machines_at bytes = do
  magic ← bytes_at 4 (is_same (codes "PIMG")) bytes
  version ← byte_at (within 1 1) magic.1
  count ← byte_at (within 1 64) version.1
  each_at (λ k. machine_at) 0 count.0 count.1

-- all of the bytes
unfoldable pub image_at : List ℕ → Result (List ImageMachine) ℕ
image_at bytes = do
  machines ← machines_at bytes
  cond (length machines.1 == 0) (Ok machines.0) (Err (length machines.1))
