-- What the tests know of the sample networks.
use Rattle.std.specs.Prelude.{◌≡◌, ℕ, zero, suc, false, ◌==◌, Bool, cond, filter, List, [], ◌∷◌, IsTrue}
use Rattle.std.specs.List.{list_all}
use Rattle.std.proofs.Common.{refl, sym, ap, subst, arith}
use Rattle.std.proofs.lemmas.Bool.{ne_eqb}
use Rattle.transition_table.specs.samples.Join.{join}
use Rattle.transition_table.specs.declared.decl.Party.TheVariants.{Env}
use Rattle.journals.specs.declared.entry.Entry.{Entry}
use Rattle.journals.specs.declared.entry.Entry.TheVariants.{Dep}
use Rattle.journals.specs.Alone.{IsAlone, is_own, ReactsAfter}
use Rattle.journals.specs.Logs.{of_machine}
use Rattle.journals.specs.Journals.{IsJournal}

-- landings without reactions are legal by themselves

pub landings_alone : (m : ℕ)
    → IsAlone join m (Dep Env 0 0 1 ∷ Dep Env 0 0 1 ∷ Dep Env 0 1 1 ∷ [])
landings_alone zero =
    record { fitting = (refl, (refl, (refl, tt))); own = refl; reacting = (tt, (tt, (tt, tt))) }
landings_alone (suc m) =
    let away : (0 == suc m) ≡ false =
    ne_eqb 0 (suc m) (λ h. let e : suc m ≡ 0 = sym h in omega arith) in
    let none : filter (of_machine (suc m)) (Dep Env 0 0 1 ∷ Dep Env 0 0 1 ∷ Dep Env 0 1 1 ∷ [])
    ≡ [] =
    ap of_none away in
    record {
      fitting = subst (IsJournal join) (sym none) tt;
      own = subst (λ (l : List Entry). IsTrue (list_all (is_own join (suc m)) l)) (sym none) refl;
      reacting = subst (ReactsAfter join []) (sym none) tt;
    }
  where
    of_none : Bool → List Entry
    of_none b =
        let last : List Entry = cond b (Dep Env 0 1 1 ∷ []) [] in
        let both : List Entry = cond b (Dep Env 0 0 1 ∷ last) last in
        cond b (Dep Env 0 0 1 ∷ both) both
