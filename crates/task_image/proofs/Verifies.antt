-- What is found of an image.
use Rattle.std.proofs.Common.{◌≡◌, ℕ, suc, ◌<◌, ◌≤◌, List, [], ◌∷◌, length, Option, Some, None, refl, sym, ap, subst, ◌∙◌, arith, inl, inr}
use Rattle.std.specs.Prelude.{slice_get, slice_index, option_map, IsSomeAnd}
use Rattle.std.proofs.lemmas.Bool.{cases_lt}
use Rattle.std.proofs.lemmas.Option.{slice_get-map, slice_get_within, slice_get_past}
use Rattle.task_code.specs.declared.instr.Instr.{Instr}
use Rattle.task_code.specs.Codes.{Computes}
use Rattle.task_machine.specs.Running.{CodeFits}
use Rattle.task_machine.specs.Tasks.{AreTasks}
use Rattle.transition_table.specs.declared.machine.Machine.{Machine}
use Rattle.transition_table.specs.declared.network.Network.{Network}
use Rattle.transition_table.specs.declared.snapshot.Snapshot.{Snapshot}
use Rattle.task_image.specs.declared.image.Head.{Head}
use Rattle.task_image.specs.declared.image.ImageMachine.{ImageMachine}
use Rattle.task_image.specs.inner.Heads.{machine_of}
use Rattle.task_image.specs.Images.{IsImage, IsImageMachine, codes_of, head_of}
use Rattle.task_image.specs.Verifying.{AreAlike, IsFirstWrong, FitsAt, IsShapeAt, IsWrongAt, FitBefore}
use Rattle.polis_base.proofs.Places.{some_is}

-- the code of an image's machine fits a machine of the same sizes
pub code_fits : (a : ImageMachine) (m : Machine) → IsImageMachine a → AreAlike a m
    → CodeFits m a.code
code_fits a m is alike = record {
  tests = λ k var targets e.
      let t = is.code.tests k var targets e in
      subst (λ (v : List ℕ). (var < length v) × (length targets ≡ slice_index v var)) alike.vars t;
  sets = λ k result code e.
      let s = is.code.sets k result code e in
      subst (λ (r : List ℕ). result < length r) alike.results s.0;
  codes = λ k result code e.
      let s = is.code.sets k result code e in
      subst (λ (r : List ℕ). code < slice_index r result) alike.results s.1;
}

pub shape_at : (o : Option ImageMachine) (p : Option Machine) (h : Head) (m : Machine)
    → IsSomeAnd o (λ a. head_of a ≡ h) → p ≡ Some m
    → ((c : List Instr) → ¬ AreAlike (machine_of h c) m) → IsShapeAt o p
shape_at None p h m head there differ = absurd head
shape_at (Some a) p h m head there differ =
    subst (λ (q : Option Machine). IsShapeAt (Some a) q) (sym there)
    (λ alike. differ a.code
    (subst (λ (g : Head). AreAlike (machine_of g a.code) m) head alike))

pub wrong_at : (o : Option ImageMachine) (p : Option Machine) (h : Head) (m : Machine)
    (c : List Instr) (s : Snapshot)
    → o ≡ Some (machine_of h c) → p ≡ Some m → AreAlike (machine_of h c) m
    → IsFirstWrong m c s → IsWrongAt o p s
wrong_at o p h m c s here there alike first =
    subst (λ (q : Option ImageMachine). IsWrongAt q p s) (sym here)
    (subst (λ (q : Option Machine). IsWrongAt (Some (machine_of h c)) q s) (sym there)
    (alike, first))

pub fits_at : (o : Option ImageMachine) (p : Option Machine) (h : Head) (m : Machine)
    (c : List Instr)
    → o ≡ Some (machine_of h c) → p ≡ Some m → AreAlike (machine_of h c) m
    → Computes c m → FitsAt o p
fits_at o p h m c here there alike computes =
    subst (λ (q : Option ImageMachine). FitsAt q p) (sym here)
    (subst (λ (q : Option Machine). FitsAt (Some (machine_of h c)) q) (sym there)
    (alike, computes))

-- the code at a place of the codes is that of the machine there
taken : (o : Option ImageMachine) (p : Option Machine) (m : Machine) (c : List Instr)
    → FitsAt o p → p ≡ Some m → option_map (λ a. a.code) o ≡ Some c
    → (a : ImageMachine) × (o ≡ Some a) × AreAlike a m × Computes a.code m × (a.code ≡ c)
taken None p m c fit there at = absurd fit
taken (Some a) p m c fit there at =
    let f : FitsAt (Some a) (Some m) = subst (λ (q : Option Machine). FitsAt (Some a) q) there fit
    in
    (a, refl, f.0, f.1, some_is a.code c at)

pub all_fit : (i : List ImageMachine) (net : Network) (k : ℕ) → FitBefore i net k
    → length i ≤ k → length net.machines ≤ k
    → (length i ≡ length net.machines) × FitBefore i net (length i)
all_fit i net k fit long many =
    elim (cases_lt (length i) (length net.machines)) [
      | inl fewer ↦
          absurd (subst (λ (o : Option ImageMachine). FitsAt o (slice_get net.machines (length i)))
          (slice_get_past i (length i) (omega arith)) (fit (length i) (omega (arith, fewer, many))))
      | inr enough ↦
          elim (cases_lt (length net.machines) (length i)) [
            | inl fewer ↦
                absurd (lacking (slice_get i (length net.machines))
                (subst (λ (p : Option Machine). FitsAt (slice_get i (length net.machines)) p)
                (slice_get_past net.machines (length net.machines) (omega arith))
                (fit (length net.machines) (omega (arith, fewer, long)))))
            | inr same ↦
                (omega (arith, enough, same), λ j lt. fit j (omega (arith, lt, long)))
          ]
    ]
  where
    lacking : (o : Option ImageMachine) → FitsAt o None → ⊥
    lacking None fits = fits
    lacking (Some a) fits = fits

codes_long : (i : List ImageMachine) → length (codes_of i) ≡ length i
codes_long [] = refl
codes_long (a ∷ i) = ap suc (codes_long i)

pub tasks_of : (i : List ImageMachine) (net : Network) → IsImage i
    → length i ≡ length net.machines → FitBefore i net (length i) → AreTasks net (codes_of i)
tasks_of i net is long fit =
    let of = λ (k : ℕ) (m : Machine) (c : List Instr) (there : slice_get net.machines k ≡ Some m)
    (at : slice_get (codes_of i) k ≡ Some c).
    let low = slice_get_within net.machines k m there in
    taken (slice_get i k) (slice_get net.machines k) m c (fit k (omega (arith, low, long))) there
    (sym (slice_get-map (λ a. a.code) i k) ∙ at) in
    record {
      long = codes_long i ∙ long;
      fits = λ k m c there at.
          let f = of k m c there at in
          subst (λ (d : List Instr). CodeFits m d) f.4
          (code_fits f.0 m (is.each k f.0 f.1) f.2);
      computes = λ k m c there at.
          let f = of k m c there at in
          subst (λ (d : List Instr). Computes d m) f.4 f.3;
    }
