-- Right parts execute at most 75 instructions a reaction, so that their counts fit.
use Rattle.std.proofs.Common.{◌≡◌, ℕ, ◌*◌, ◌^◌, ◌<◌, ◌≤◌, Bool, true, false, ◌==◌, List, [], ◌∷◌, length, slice_get, Some, inr, refl, ap, sym, ◌∙◌, arith}
use Rattle.std.proofs.lemmas.Bool.{eqb-true}
use Rattle.std.proofs.lemmas.Option.{slice_get_within}
use Rattle.transition_table.specs.declared.machine.Machine.{Machine}
use Rattle.transition_table.specs.declared.network.Network.{Network}
use Rattle.journals.specs.declared.entry.Entry.{Entry}
use Rattle.journals.specs.declared.entry.Entry.TheVariants.{Dep, Rea}
use Rattle.journals.specs.Journals.{IsJournal}
use Rattle.task_code.specs.declared.instr.Instr.{Instr}
use Rattle.task_code.specs.Listings.{Part}
use Rattle.machine_compiler.specs.Laws.{RightCountsFit}
use Rattle.machine_compiler.specs.Lines.{reactions_of, steps_on}
use Rattle.machine_compiler.specs.Parts.{IsRightPart, codes_in}
use Rattle.machine_compiler.proofs.AreTallies.{snapshot_of, steps_cons}
use Rattle.machine_compiler.proofs.DistinctItems.{mapped}
use Rattle.polis_base.proofs.Places.{some_at}

few_on : (net : Network) (k : ℕ) (m : Machine) (q : Part) (journal : List Entry)
    → slice_get net.machines k ≡ Some m
    → IsRightPart m q
    → IsJournal net journal
    → steps_on q.code (reactions_of k journal) ≤ 75 * length journal
few_on net k m q [] at right is = omega arith
few_on net k m q (Dep from to event code ∷ entries) at right is =
    let h = few_on net k m q entries at right is.1 in omega arith
few_on net k m q (Rea i s o ∷ entries) at right is =
    by_number (i == k) refl (few_on net k m q entries at right is.1)
  where
    by_number : (b : Bool) → (i == k) ≡ b
        → steps_on q.code (reactions_of k entries) ≤ 75 * length entries
        → steps_on q.code (reactions_of k (Rea i s o ∷ entries))
        ≤ 75 * length (Rea i s o ∷ entries)
    by_number true e h =
        let f : reactions_of k (Rea i s o ∷ entries) ≡ s.codes ∷ reactions_of k entries =
        rw e refl in
        let steps = ap (steps_on q.code) f ∙ steps_cons q.code s.codes (reactions_of k entries) in
        let one = right.steps s.codes (snapshot_of net k m i s o at (sym (eqb-true i k e)) is.0) in
        omega (arith, h, steps, one)
    by_number false e h =
        let f : reactions_of k (Rea i s o ∷ entries) ≡ reactions_of k entries = rw e refl in
        let steps = ap (steps_on q.code) f in
        omega (arith, h, steps)

pub right_counts_fit : RightCountsFit
right_counts_fit net parts journal right is long = inr each
  where
    each : (k : ℕ) (code : List Instr) → slice_get (codes_in parts) k ≡ Some code
        → steps_on code (reactions_of k journal) < 2 ^ 62
    each k code at =
        let q = mapped (λ (p : Part). p.code) parts k code at in
        let low : k < length net.machines =
        let l = slice_get_within parts k q.0 q.1 in let e = right.long in omega arith in
        let m = some_at net.machines k low in
        let few = few_on net k m.0 q.0 journal m.1 (right.each k m.0 q.0 m.1 q.1) is in
        let same = ap (λ (c : List Instr). steps_on c (reactions_of k journal)) q.2 in
        omega (arith, few, same, long)
