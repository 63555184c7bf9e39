-- A test by its variable and its targets; code that was read.
use Rattle.std.proofs.Common.{◌≡◌, ℕ, ◌-◌, List, length, take, drop, Ok, Err, refl, sym, ap, ◌∙◌}
use Rattle.std.specs.Prelude.{nat_lt, slice_get, slice_index, Some}
use Rattle.std.proofs.lemmas.Option.{get_or_from_slice_get}
use Rattle.polis_base.specs.Names.{is_name}
use Rattle.task_code.specs.declared.instr.Instr.{Instr}
use Rattle.task_code.specs.declared.instr.Instr.TheVariants.{Test}
use Rattle.task_code.specs.Facts.{IsCode}
use Rattle.task_image.specs.declared.fault.Stop.{Stop}
use Rattle.task_image.specs.declared.fault.Stop.TheVariants.{Bad, NoMemory}
use Rattle.task_image.specs.inner.FieldReaders.{Read, ◌>>=◌, byte_at, bytes_at, within, each_at}
use Rattle.task_image.specs.inner.Gives.{Fails}
use Rattle.task_image.specs.inner.Reading.{target_at, test_at, sizes_at, code_at, machine_at}
use Rattle.task_image.proofs.IsImage.{machine_to}
use Rattle.task_image.proofs.MachinesAt.{machine_reads}
use Rattle.task_image.proofs.IsReader.{IsBytes}
use Rattle.polis_base.proofs.Places.{to_the_end}

pub test_given : (vars : List ℕ) (count k : ℕ) (bytes : List ℕ) (var : ℕ) (rest : List ℕ)
    (size : ℕ) (r : Read (List ℕ))
    → byte_at (λ v. nat_lt v (length vars)) bytes ≡ Ok (var, rest)
    → slice_get vars var ≡ Some size
    → each_at (λ j. target_at count k) 0 size rest ≡ r
    → test_at vars count k bytes ≡ (r >>= λ targets. Ok (Test var targets.0, targets.1))
unfolding test_at
test_given vars count k bytes var rest size r first there targets =
    let is : slice_index vars var ≡ size = get_or_from_slice_get vars var size 0 there in
    ap (λ (b : Read ℕ). b >>= λ var. each_at (λ j. target_at count k) 0 (slice_index vars var.0)
    var.1
    >>= λ targets. Ok (Test var.0 targets.0, targets.1)) first
    ∙ ap (λ (n : ℕ). each_at (λ j. target_at count k) 0 n rest
    >>= λ targets. Ok (Test var targets.0, targets.1)) is
    ∙ ap (λ (b : Read (List ℕ)). b >>= λ targets. Ok (Test var targets.0, targets.1)) targets

pub test_fails : (vars : List ℕ) (count k : ℕ) (bytes : List ℕ) (var : ℕ) (rest : List ℕ)
    (size : ℕ) (e : Stop)
    → byte_at (λ v. nat_lt v (length vars)) bytes ≡ Ok (var, rest)
    → slice_get vars var ≡ Some size
    → Fails e (each_at (λ j. target_at count k) 0 size rest)
    → Fails e (test_at vars count k bytes)
test_fails vars count k bytes var rest size NoMemory first there fails = tt
test_fails vars count k bytes var rest size (Bad left) first there fails =
    test_given vars count k bytes var rest size (Err left) first there fails

pub whole : (bytes : List ℕ) (width : ℕ) (r1 name r2 vars r3 results r4 : List ℕ) (c : List Instr)
    (after : List ℕ)
    → byte_at (within 1 24) bytes ≡ Ok (width, r1)
    → bytes_at width is_name r1 ≡ Ok (name, r2)
    → sizes_at 24 r2 ≡ Ok (vars, r3)
    → sizes_at 25 r3 ≡ Ok (results, r4)
    → code_at vars results r4 ≡ Ok (c, after)
    → machine_at bytes
    ≡ Ok (record { name = name; vars = vars; results = results; code = c }, after)
unfolding machine_at
whole bytes width r1 name r2 vars r3 results r4 c after e1 e2 e3 e4 e5 = rw (e1, e2, e3, e4, e5)
    refl

-- ---- where a field fails, the machine does

pub fails_at_width : (bytes : List ℕ) (e : Stop)
    → Fails e (byte_at (within 1 24) bytes) → Fails e (machine_at bytes)
unfolding machine_at
fails_at_width bytes NoMemory h = tt
fails_at_width bytes (Bad left) h = rw h refl

pub fails_at_name : (bytes : List ℕ) (width : ℕ) (r1 : List ℕ) (e : Stop)
    → byte_at (within 1 24) bytes ≡ Ok (width, r1)
    → Fails e (bytes_at width is_name r1) → Fails e (machine_at bytes)
unfolding machine_at
fails_at_name bytes width r1 NoMemory e1 h = tt
fails_at_name bytes width r1 (Bad left) e1 h = rw (e1, h) refl

pub fails_at_vars : (bytes : List ℕ) (width : ℕ) (r1 : List ℕ) (name r2 : List ℕ) (e : Stop)
    → byte_at (within 1 24) bytes ≡ Ok (width, r1)
    → bytes_at width is_name r1 ≡ Ok (name, r2)
    → Fails e (sizes_at 24 r2) → Fails e (machine_at bytes)
unfolding machine_at
fails_at_vars bytes width r1 name r2 NoMemory e1 e2 h = tt
fails_at_vars bytes width r1 name r2 (Bad left) e1 e2 h = rw (e1, e2, h) refl

pub fails_at_results : (bytes : List ℕ) (width : ℕ) (r1 : List ℕ) (name r2 : List ℕ) (vars r3 : List ℕ) (e : Stop)
    → byte_at (within 1 24) bytes ≡ Ok (width, r1)
    → bytes_at width is_name r1 ≡ Ok (name, r2)
    → sizes_at 24 r2 ≡ Ok (vars, r3)
    → Fails e (sizes_at 25 r3) → Fails e (machine_at bytes)
unfolding machine_at
fails_at_results bytes width r1 name r2 vars r3 NoMemory e1 e2 e3 h = tt
fails_at_results bytes width r1 name r2 vars r3 (Bad left) e1 e2 e3 h = rw (e1, e2, e3, h) refl

pub fails_at_code : (bytes : List ℕ) (width : ℕ) (r1 : List ℕ) (name r2 : List ℕ) (vars r3 : List ℕ) (results r4 : List ℕ) (e : Stop)
    → byte_at (within 1 24) bytes ≡ Ok (width, r1)
    → bytes_at width is_name r1 ≡ Ok (name, r2)
    → sizes_at 24 r2 ≡ Ok (vars, r3)
    → sizes_at 25 r3 ≡ Ok (results, r4)
    → Fails e (code_at vars results r4) → Fails e (machine_at bytes)
unfolding machine_at
fails_at_code bytes width r1 name r2 vars r3 results r4 NoMemory e1 e2 e3 e4 h = tt
fails_at_code bytes width r1 name r2 vars r3 results r4 (Bad left) e1 e2 e3 e4 h = rw (e1, e2, e3, e4, h) refl

-- the code of a machine that was read
pub code_is : (bytes : List ℕ) (width : ℕ) (r1 name : List ℕ) (n : ℕ)
    (vars r3 results r4 : List ℕ) (c : List Instr) (after : List ℕ) → IsBytes bytes
    → n ≡ width
    → byte_at (within 1 24) bytes ≡ Ok (width, r1)
    → bytes_at width is_name r1 ≡ Ok (name, drop width r1)
    → sizes_at 24 (take (length r1 - n) (drop n r1)) ≡ Ok (vars, r3)
    → sizes_at 25 r3 ≡ Ok (results, r4)
    → code_at vars results r4 ≡ Ok (c, after)
    → IsCode c
code_is bytes width r1 name n vars r3 results r4 c after fits same e1 e2 e3 e4 e5 =
    let left : drop width r1 ≡ take (length r1 - n) (drop n r1) =
    ap (λ (m : ℕ). drop m r1) (sym same) ∙ sym (to_the_end r1 n) in
    let t = machine_reads.takes bytes
    (record { name = name; vars = vars; results = results; code = c }, after) fits
    (whole bytes width r1 name (drop width r1) vars r3 results r4 c after e1 e2
    (ap (sizes_at 24) left ∙ e3) e4 e5) in
    (machine_to (record { name = name; vars = vars; results = results; code = c }) t.1).code.code
