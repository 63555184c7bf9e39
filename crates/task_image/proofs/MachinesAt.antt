-- Readers of code, machines and images.
use Rattle.std.proofs.Common.{◌≡◌, ℕ, zero, suc, ◌^◌, ◌<◌, ◌≤◌, true, List, [], ◌∷◌, ◌++◌, length, replicate, Ok, refl, sym, ap, subst, arith}
use Rattle.std.specs.Prelude.{◌&&◌, nat_le, nat_lt, slice_index, codes}
use Rattle.std.specs.List.{flat_map, list_all}
use Rattle.std.proofs.lemmas.Bool.{leb-true, le-leb, lt-ltb, and_from}
use Rattle.std.proofs.lemmas.List.{length-replicate}
use Rattle.std.proofs.lemmas.List.Concat.{flat_map_single}
use Rattle.polis_base.specs.Names.{is_name, is_word, continues_name}
use Rattle.domains.specs.Names.{is_same}
use Rattle.task_code.specs.declared.instr.Instr.{Instr}
use Rattle.task_code.specs.declared.instr.Instr.TheVariants.{Halt}
use Rattle.task_image.specs.declared.image.ImageMachine.{ImageMachine}
use Rattle.task_image.specs.Fields.{one_byte, four_bytes, instr_fields, sizes_fields, code_fields, machine_fields, image_fields}
use Rattle.task_image.specs.inner.FieldReaders.{◌>>=◌, within, from_to, byte_at, bytes_at, number_at, each_at}
use Rattle.task_image.specs.inner.Reading.{instr_at, code_at, sizes_at, machine_at, machines_at}
use Rattle.task_image.proofs.IsReader.{IsReader, then_reads, map_reads, same_reads, AllFrom, SoMany, some_many, each_reads}
use Rattle.task_image.proofs.FieldReaders.{byte_reads, bytes_reads, number_reads}
use Rattle.task_image.proofs.InstrAt.{HaveCodes, InstrOk, instr_reads, halt_ok}
use Rattle.domains.proofs.Names.{same_texts}
use Rattle.polis_base.proofs.Bools.{and_first, and_second}

pub low_of : (least most n : ℕ) → within least most n ≡ true → least ≤ n
low_of least most n e = leb-true least n (and_first (nat_le least n) (nat_le n most) e)

pub high_of : (least most n : ℕ) → within least most n ≡ true → n ≤ most
high_of least most n e = leb-true n most (and_second (nat_le least n) (nat_le n most) e)

pub in_range : (least most n : ℕ) → least ≤ n → n ≤ most → within least most n ≡ true
in_range least most n low high =
    and_from (nat_le least n) (nat_le n most) (le-leb least n low) (le-leb n most high)

-- ---- code
abbrev CountOk : ℕ → Type 0
CountOk n = (from_to 1 (2 ^ 32) n ≡ true) × (n < 2 ^ 32)

abbrev pub CodeOk : List ℕ → List ℕ → List Instr → Type 0
CodeOk vars results c = CountOk (length c) × AllFrom (InstrOk vars results (length c)) 0 c

count_ok : (n : ℕ) → 1 ≤ n → n < 2 ^ 32 → CountOk n
count_ok n some few = (
  and_from (nat_le 1 n) (nat_lt n (2 ^ 32)) (le-leb 1 n some) (lt-ltb n (2 ^ 32) few),
  few,
)

some_halt : (vars results : List ℕ) (n k : ℕ) → (i : Instr) × InstrOk vars results n k i
some_halt vars results n k = (Halt, halt_ok vars results n k)

-- code that halts at once
some_code : (vars results : List ℕ) → CodeOk vars results (Halt ∷ [])
some_code vars results =
    (count_ok 1 (omega arith) (omega arith), (halt_ok vars results 1 0, tt))

code_reads : (vars results : List ℕ) → HaveCodes vars results
    → IsReader code_fields (CodeOk vars results) (λ bytes. code_at vars results bytes)
unfolding code_at
code_reads vars results some =
    then_reads (λ n. four_bytes n ∷ []) CountOk
    (number_at (from_to 1 (2 ^ 32))) (λ (c : List Instr). length c) (flat_map instr_fields)
    (λ c. AllFrom (InstrOk vars results (length c)) 0 c)
    (λ n bytes. each_at (instr_at vars results n) 0 n bytes)
    (number_reads (from_to 1 (2 ^ 32)) (1, count_ok 1 (omega arith) (omega arith)))
    (λ n p.
    same_reads (flat_map instr_fields) (flat_map instr_fields)
    (SoMany (InstrOk vars results n) 0 n)
    (λ c. (length c ≡ n) × AllFrom (InstrOk vars results (length c)) 0 c)
    (each_at (instr_at vars results n) 0 n)
    (each_reads instr_fields (InstrOk vars results n) (instr_at vars results n)
    (λ k. instr_reads vars results n k some p.1) (some_halt vars results n) 0 n)
    (λ c q. (q.0, subst (λ (m : ℕ). AllFrom (InstrOk vars results m) 0 c) (sym q.0) q.1))
    (λ c q. (q.0, subst (λ (m : ℕ). AllFrom (InstrOk vars results m) 0 c) q.0 q.1))
    (λ c q. refl))
    (λ n p.
    let c = some_many (InstrOk vars results n) (some_halt vars results n) 0 n in (
      c.0,
      c.1.0,
      subst (λ (m : ℕ). AllFrom (InstrOk vars results m) 0 c.0) (sym c.1.0) c.1.1,
    ))

-- ---- sizes
abbrev SizeOk : ℕ → ℕ → Type 0
SizeOk k size = within 1 33 size ≡ true

abbrev pub SizesOk : ℕ → List ℕ → Type 0
SizesOk most sizes = (within 1 most (length sizes) ≡ true) × AllFrom SizeOk 0 sizes

abbrev some_size : (k : ℕ) → (size : ℕ) × SizeOk k size
some_size k = (1, in_range 1 33 1 (omega arith) (omega arith))

-- one size
some_sizes : (most : ℕ) → 1 ≤ most → SizesOk most (1 ∷ [])
some_sizes most some = (in_range 1 most 1 (omega arith) some, ((some_size 0).1, tt))

pub sizes_reads : (most : ℕ) → 1 ≤ most
    → IsReader sizes_fields (SizesOk most) (λ bytes. sizes_at most bytes)
unfolding sizes_at
sizes_reads most some =
    same_reads (λ xs. (one_byte (length xs) ∷ []) ++ flat_map (λ x. one_byte x ∷ []) xs)
    sizes_fields (SizesOk most) (SizesOk most) (λ bytes. sizes_at most bytes)
    (then_reads (λ n. one_byte n ∷ []) (λ n. within 1 most n ≡ true) (byte_at (within 1 most))
    (λ (xs : List ℕ). length xs) (flat_map (λ x. one_byte x ∷ []))
    (λ xs. AllFrom SizeOk 0 xs)
    (λ n bytes. each_at (λ k. byte_at (within 1 33)) 0 n bytes)
    (byte_reads (within 1 most) (1, in_range 1 most 1 (omega arith) some))
    (λ n p. each_reads (λ x. one_byte x ∷ []) SizeOk
    (λ k. byte_at (within 1 33)) (λ k. byte_reads (within 1 33) (some_size k)) some_size 0 n)
    (λ n p.
    let xs = some_many SizeOk some_size 0 n in
    (xs.0, xs.1.0, xs.1.1)))
    (λ xs p. p) (λ xs p. p)
    (λ xs p. ap (λ (ys : List (List ℕ)). one_byte (length xs) ∷ ys) (flat_map_single one_byte xs))

codes_there : (k : ℕ) (sizes : List ℕ) (v : ℕ) → AllFrom SizeOk k sizes → v < length sizes
    → 0 < slice_index sizes v
codes_there k [] v all lt = absurd (omega (arith, lt))
codes_there k (s ∷ sizes) zero all lt =
    let low = low_of 1 33 s all.0 in
    omega (arith, low)
codes_there k (s ∷ sizes) (suc v) all lt =
    codes_there (suc k) sizes v all.1 (omega (arith, lt))

have_codes : (vars results : List ℕ) → 0 < length vars → SizesOk 25 results
    → HaveCodes vars results
have_codes vars results some ok =
    let low = low_of 1 25 (length results) ok.0 in
    record {
      var = some;
      result = omega (arith, low);
      code = λ v lt. codes_there 0 results v ok.1 lt;
    }

-- ---- names
letters : (n : ℕ) → list_all continues_name (replicate n 65) ≡ true
letters zero = refl
letters (suc n) = letters n

-- so many letters `A`
some_name : (width : ℕ) → within 1 24 width ≡ true
    → (name : List ℕ) × (length name ≡ width) × (is_name name ≡ true)
some_name zero e =
    let low = low_of 1 24 zero e in
    absurd (omega (arith, low))
some_name (suc n) e =
    let high = high_of 1 24 (suc n) e in
    let long : length (65 ∷ replicate n 65) ≡ suc n = ap suc (length-replicate n 65) in (
      65 ∷ replicate n 65,
      long,
      and_from (nat_le (length (65 ∷ replicate n 65)) 24 && is_word (65 ∷ replicate n 65)) true
          (and_from (nat_le (length (65 ∷ replicate n 65)) 24) (is_word (65 ∷ replicate n 65))
          (le-leb (length (65 ∷ replicate n 65)) 24 (omega (arith, long, high))) (letters n))
          refl,
    )

-- ---- machines
abbrev made : List ℕ → List ℕ → List ℕ → List Instr → ImageMachine
made name vars results code =
    record { name = name; vars = vars; results = results; code = code }

abbrev NameOk : ℕ → List ℕ → Type 0
NameOk width name = (length name ≡ width) × (is_name name ≡ true)

abbrev AfterResults : ImageMachine → Type 0
AfterResults m = CodeOk m.vars m.results m.code

abbrev AfterVars : ImageMachine → Type 0
AfterVars m = SizesOk 25 m.results × AfterResults m

abbrev AfterName : ImageMachine → Type 0
AfterName m = SizesOk 24 m.vars × AfterVars m

abbrev pub MachineOk : ImageMachine → Type 0
MachineOk m = (within 1 24 (length m.name) ≡ true) × ((is_name m.name ≡ true) × AfterName m)

some_vars : SizesOk 24 (1 ∷ [])
some_vars = some_sizes 24 (omega arith)

some_results : SizesOk 25 (1 ∷ [])
some_results = some_sizes 25 (omega arith)

code_rest : (name vars results : List ℕ) → HaveCodes vars results
    → IsReader (λ m. code_fields m.code)
    (λ m. (m.results ≡ results) × ((m.name ≡ name) × (m.vars ≡ vars)
    × CodeOk m.vars m.results m.code))
    (λ bytes. code_at vars results bytes >>= λ code. Ok (made name vars results code.0, code.1))
code_rest name vars results some =
    same_reads (λ m. code_fields m.code) (λ m. code_fields m.code)
    (λ m. ((m.name ≡ name) × (m.vars ≡ vars) × (m.results ≡ results))
    × CodeOk vars results m.code)
    (λ m. (m.results ≡ results) × ((m.name ≡ name) × (m.vars ≡ vars)
    × CodeOk m.vars m.results m.code))
    (λ bytes. code_at vars results bytes >>= λ code. Ok (made name vars results code.0, code.1))
    (map_reads code_fields (CodeOk vars results) (λ bytes. code_at vars results bytes)
    (λ (m : ImageMachine). m.code) (λ c. made name vars results c)
    (λ m. (m.name ≡ name) × (m.vars ≡ vars) × (m.results ≡ results))
    (code_reads vars results some)
    (λ c. (refl, (refl, refl, refl)))
    (λ m f. λ i. record {
      name = sym f.0 i;
      vars = sym f.1 i;
      results = sym f.2 i;
      code = m.code;
    }))
    (λ m p. (
      p.0.2,
      (
        p.0.0,
        p.0.1,
        subst (λ (v : List ℕ). CodeOk v m.results m.code) (sym p.0.1)
            (subst (λ (r : List ℕ). CodeOk vars r m.code) (sym p.0.2) p.1),
      ),
    ))
    (λ m q. (
      (q.1.0, q.1.1, q.0),
      subst (λ (r : List ℕ). CodeOk vars r m.code) q.0
          (subst (λ (v : List ℕ). CodeOk v m.results m.code) q.1.1 q.1.2),
    ))
    (λ m q. refl)

results_rest : (name vars : List ℕ) → 0 < length vars
    → IsReader (λ m. sizes_fields m.results ++ code_fields m.code)
    (λ m. (m.vars ≡ vars) × ((m.name ≡ name) × AfterVars m))
    (λ bytes. sizes_at 25 bytes >>= λ results. code_at vars results.0 results.1
    >>= λ code. Ok (made name vars results.0 code.0, code.1))
results_rest name vars some =
    same_reads (λ m. sizes_fields m.results ++ code_fields m.code)
    (λ m. sizes_fields m.results ++ code_fields m.code)
    (λ m. SizesOk 25 m.results
    × ((m.name ≡ name) × (m.vars ≡ vars) × CodeOk m.vars m.results m.code))
    (λ m. (m.vars ≡ vars) × ((m.name ≡ name) × AfterVars m))
    (λ bytes. sizes_at 25 bytes >>= λ results. code_at vars results.0 results.1
    >>= λ code. Ok (made name vars results.0 code.0, code.1))
    (then_reads sizes_fields (SizesOk 25) (λ bytes. sizes_at 25 bytes)
    (λ (m : ImageMachine). m.results) (λ m. code_fields m.code)
    (λ m. (m.name ≡ name) × (m.vars ≡ vars) × CodeOk m.vars m.results m.code)
    (λ results bytes. code_at vars results bytes
    >>= λ code. Ok (made name vars results code.0, code.1))
    (sizes_reads 25 (omega arith))
    (λ results p. code_rest name vars results (have_codes vars results some p))
    (λ results p. (
      made name vars results (Halt ∷ []),
      refl,
      (refl, refl, some_code vars results),
    )))
    (λ m p. (p.1.1, (p.1.0, (p.0, p.1.2))))
    (λ m q. (q.1.1.0, (q.1.0, q.0, q.1.1.1)))
    (λ m q. refl)

vars_rest : (name : List ℕ)
    → IsReader (λ m. sizes_fields m.vars ++ (sizes_fields m.results ++ code_fields m.code))
    (λ m. (m.name ≡ name) × AfterName m)
    (λ bytes. sizes_at 24 bytes >>= λ vars. sizes_at 25 vars.1
    >>= λ results. code_at vars.0 results.0 results.1
    >>= λ code. Ok (made name vars.0 results.0 code.0, code.1))
vars_rest name =
    same_reads (λ m. sizes_fields m.vars ++ (sizes_fields m.results ++ code_fields m.code))
    (λ m. sizes_fields m.vars ++ (sizes_fields m.results ++ code_fields m.code))
    (λ m. SizesOk 24 m.vars × ((m.name ≡ name) × AfterVars m))
    (λ m. (m.name ≡ name) × AfterName m)
    (λ bytes. sizes_at 24 bytes >>= λ vars. sizes_at 25 vars.1
    >>= λ results. code_at vars.0 results.0 results.1
    >>= λ code. Ok (made name vars.0 results.0 code.0, code.1))
    (then_reads sizes_fields (SizesOk 24) (λ bytes. sizes_at 24 bytes)
    (λ (m : ImageMachine). m.vars) (λ m. sizes_fields m.results ++ code_fields m.code)
    (λ m. (m.name ≡ name) × AfterVars m)
    (λ vars bytes. sizes_at 25 bytes >>= λ results. code_at vars results.0 results.1
    >>= λ code. Ok (made name vars results.0 code.0, code.1))
    (sizes_reads 24 (omega arith))
    (λ vars p.
    let low = low_of 1 24 (length vars) p.0 in
    results_rest name vars (omega (arith, low)))
    (λ vars p. (
      made name vars (1 ∷ []) (Halt ∷ []),
      refl,
      (refl, (some_results, some_code vars (1 ∷ []))),
    )))
    (λ m p. (p.1.0, (p.0, p.1.1)))
    (λ m q. (q.1.0, (q.0, q.1.1)))
    (λ m q. refl)

some_after : (name : List ℕ) → AfterName (made name (1 ∷ []) (1 ∷ []) (Halt ∷ []))
some_after name = (some_vars, (some_results, some_code (1 ∷ []) (1 ∷ [])))

name_rest : (width : ℕ) → within 1 24 width ≡ true
    → IsReader (λ m. (m.name ∷ []) ++ (sizes_fields m.vars ++
    (sizes_fields m.results ++ code_fields m.code)))
    (λ m. (length m.name ≡ width) × ((is_name m.name ≡ true) × AfterName m))
    (λ bytes. bytes_at width is_name bytes >>= λ name. sizes_at 24 name.1
    >>= λ vars. sizes_at 25 vars.1 >>= λ results. code_at vars.0 results.0 results.1
    >>= λ code. Ok (made name.0 vars.0 results.0 code.0, code.1))
name_rest width ok =
    same_reads (λ m. (m.name ∷ []) ++ (sizes_fields m.vars ++
    (sizes_fields m.results ++ code_fields m.code)))
    (λ m. (m.name ∷ []) ++ (sizes_fields m.vars ++ (sizes_fields m.results ++ code_fields m.code)))
    (λ m. NameOk width m.name × AfterName m)
    (λ m. (length m.name ≡ width) × ((is_name m.name ≡ true) × AfterName m))
    (λ bytes. bytes_at width is_name bytes >>= λ name. sizes_at 24 name.1
    >>= λ vars. sizes_at 25 vars.1 >>= λ results. code_at vars.0 results.0 results.1
    >>= λ code. Ok (made name.0 vars.0 results.0 code.0, code.1))
    (then_reads (λ name. name ∷ []) (NameOk width) (bytes_at width is_name)
    (λ (m : ImageMachine). m.name)
    (λ m. sizes_fields m.vars ++ (sizes_fields m.results ++ code_fields m.code)) AfterName
    (λ name bytes. sizes_at 24 bytes
    >>= λ vars. sizes_at 25 vars.1 >>= λ results. code_at vars.0 results.0 results.1
    >>= λ code. Ok (made name vars.0 results.0 code.0, code.1))
    (bytes_reads width is_name
    (let name = some_name width ok in (name.0, (name.1, name.2))))
    (λ name p. vars_rest name)
    (λ name p. (made name (1 ∷ []) (1 ∷ []) (Halt ∷ []), refl, some_after name)))
    (λ m p. (p.0.0, (p.0.1, p.1)))
    (λ m q. ((q.0, q.1.0), q.1.1))
    (λ m q. refl)

pub machine_reads : IsReader machine_fields MachineOk (λ bytes. machine_at bytes)
unfolding machine_at
machine_reads =
    same_reads (λ m. (one_byte (length m.name) ∷ [])
    ++ ((m.name ∷ []) ++ (sizes_fields m.vars ++ (sizes_fields m.results ++ code_fields m.code))))
    machine_fields MachineOk MachineOk (λ bytes. machine_at bytes)
    (then_reads (λ n. one_byte n ∷ []) (λ n. within 1 24 n ≡ true) (byte_at (within 1 24))
    (λ (m : ImageMachine). length m.name)
    (λ m. (m.name ∷ []) ++ (sizes_fields m.vars ++ (sizes_fields m.results ++ code_fields m.code)))
    (λ m. (is_name m.name ≡ true) × AfterName m)
    (λ width bytes. bytes_at width is_name bytes >>= λ name. sizes_at 24 name.1
    >>= λ vars. sizes_at 25 vars.1 >>= λ results. code_at vars.0 results.0 results.1
    >>= λ code. Ok (made name.0 vars.0 results.0 code.0, code.1))
    (byte_reads (within 1 24) (1, in_range 1 24 1 (omega arith) (omega arith)))
    (λ width p. name_rest width p)
    (λ width p.
    let name = some_name width p in
    (made name.0 (1 ∷ []) (1 ∷ []) (Halt ∷ []), name.1, (name.2, some_after name.0))))
    (λ m p. p) (λ m p. p) (λ m p. refl)

some_machine : (k : ℕ) → (m : ImageMachine) × MachineOk m
some_machine k =
    let one = in_range 1 24 1 (omega arith) (omega arith) in
    let name = some_name 1 one in (
      made name.0 (1 ∷ []) (1 ∷ []) (Halt ∷ []),
      (
        subst (λ (n : ℕ). within 1 24 n ≡ true) (sym name.1) one,
        (name.2, some_after name.0),
      ),
    )

-- ---- images
abbrev magic : List ℕ
magic = codes "PIMG"

abbrev pub MachinesOk : List ImageMachine → Type 0
MachinesOk i = (within 1 64 (length i) ≡ true) × AllFrom (λ k. MachineOk) 0 i

counted_reads : (n : ℕ) → IsReader (flat_map machine_fields)
    (λ i. (length i ≡ n) × AllFrom (λ k. MachineOk) 0 i)
    (λ bytes. each_at (λ k. machine_at) 0 n bytes)
counted_reads n =
    each_reads machine_fields (λ k. MachineOk) (λ k. machine_at) (λ k. machine_reads) some_machine
    0 n

some_machines : (n : ℕ) → (i : List ImageMachine) × (length i ≡ n) × AllFrom (λ k. MachineOk) 0 i
some_machines n =
    let i = some_many (λ k. MachineOk) some_machine 0 n in
    (i.0, i.1.0, i.1.1)

some_image : (i : List ImageMachine) × MachinesOk i
some_image =
    let i = some_machines 1 in (
      i.0,
      (
        subst (λ (n : ℕ). within 1 64 n ≡ true) (sym i.1)
            (in_range 1 64 1 (omega arith) (omega arith)),
        i.2,
      ),
    )

count_rest : IsReader (λ i. (one_byte (length i) ∷ []) ++ flat_map machine_fields i) MachinesOk
    (λ bytes. byte_at (within 1 64) bytes
    >>= λ count. each_at (λ k. machine_at) 0 count.0 count.1)
count_rest =
    then_reads (λ n. one_byte n ∷ []) (λ n. within 1 64 n ≡ true) (byte_at (within 1 64))
    (λ (i : List ImageMachine). length i) (flat_map machine_fields)
    (λ i. AllFrom (λ k. MachineOk) 0 i)
    (λ n bytes. each_at (λ k. machine_at) 0 n bytes)
    (byte_reads (within 1 64) (1, in_range 1 64 1 (omega arith) (omega arith)))
    (λ n p. counted_reads n) (λ n p. some_machines n)

-- the version is 1, and nothing hangs on it
version_is : (n : ℕ) → within 1 1 n ≡ true → 1 ≡ n
version_is n e =
    let low = leb-true 1 n (and_first (nat_le 1 n) (nat_le n 1) e) in
    let high = leb-true n 1 (and_second (nat_le 1 n) (nat_le n 1) e) in
    omega arith

version_rest : IsReader (λ i. (one_byte 1 ∷ []) ++
    ((one_byte (length i) ∷ []) ++ flat_map machine_fields i)) MachinesOk
    (λ bytes. byte_at (within 1 1) bytes >>= λ version. byte_at (within 1 64) version.1
    >>= λ count. each_at (λ k. machine_at) 0 count.0 count.1)
version_rest =
    same_reads (λ i. (one_byte 1 ∷ []) ++ ((one_byte (length i) ∷ []) ++ flat_map machine_fields i))
    (λ i. (one_byte 1 ∷ []) ++ ((one_byte (length i) ∷ []) ++ flat_map machine_fields i))
    (λ i. (within 1 1 1 ≡ true) × MachinesOk i) MachinesOk
    (λ bytes. byte_at (within 1 1) bytes >>= λ version. byte_at (within 1 64) version.1
    >>= λ count. each_at (λ k. machine_at) 0 count.0 count.1)
    (then_reads (λ n. one_byte n ∷ []) (λ n. within 1 1 n ≡ true) (byte_at (within 1 1))
    (λ (i : List ImageMachine). 1) (λ i. (one_byte (length i) ∷ []) ++ flat_map machine_fields i)
    MachinesOk
    (λ version bytes. byte_at (within 1 64) bytes
    >>= λ count. each_at (λ k. machine_at) 0 count.0 count.1)
    (byte_reads (within 1 1) (1, in_range 1 1 1 (omega arith) (omega arith)))
    (λ version p.
    same_reads (λ i. (one_byte (length i) ∷ []) ++ flat_map machine_fields i)
    (λ i. (one_byte (length i) ∷ []) ++ flat_map machine_fields i)
    MachinesOk (λ i. (1 ≡ version) × MachinesOk i)
    (λ bytes. byte_at (within 1 64) bytes
    >>= λ count. each_at (λ k. machine_at) 0 count.0 count.1)
    count_rest (λ i q. (version_is version p, q)) (λ i q. q.1) (λ i q. refl))
    (λ version p. (some_image.0, version_is version p, some_image.1)))
    (λ i p. p.1) (λ i q. (refl, q)) (λ i q. refl)

abbrev MagicOk : List ℕ → Type 0
MagicOk field = (length field ≡ 4) × (is_same magic field ≡ true)

pub machines_reads : IsReader image_fields MachinesOk (λ bytes. machines_at bytes)
unfolding machines_at
machines_reads =
    same_reads
    (λ i. (magic ∷ []) ++ ((one_byte 1 ∷ []) ++
    ((one_byte (length i) ∷ []) ++ flat_map machine_fields i)))
    image_fields (λ i. MagicOk magic × MachinesOk i) MachinesOk (λ bytes. machines_at bytes)
    (then_reads (λ field. field ∷ []) MagicOk (bytes_at 4 (is_same magic))
    (λ (i : List ImageMachine). magic)
    (λ i. (one_byte 1 ∷ []) ++ ((one_byte (length i) ∷ []) ++ flat_map machine_fields i)) MachinesOk
    (λ field bytes. byte_at (within 1 1) bytes >>= λ version. byte_at (within 1 64) version.1
    >>= λ count. each_at (λ k. machine_at) 0 count.0 count.1)
    (bytes_reads 4 (is_same magic) (magic, (refl, refl)))
    (λ field p.
    same_reads (λ i. (one_byte 1 ∷ []) ++ ((one_byte (length i) ∷ []) ++ flat_map machine_fields i))
    (λ i. (one_byte 1 ∷ []) ++ ((one_byte (length i) ∷ []) ++ flat_map machine_fields i))
    MachinesOk (λ i. (magic ≡ field) × MachinesOk i)
    (λ bytes. byte_at (within 1 1) bytes >>= λ version. byte_at (within 1 64) version.1
    >>= λ count. each_at (λ k. machine_at) 0 count.0 count.1)
    version_rest (λ i q. (same_texts magic field p.1, q)) (λ i q. q.1) (λ i q. refl))
    (λ field p. (some_image.0, same_texts magic field p.1, some_image.1)))
    (λ i p. p.1) (λ i q. ((refl, refl), q)) (λ i q. refl)
