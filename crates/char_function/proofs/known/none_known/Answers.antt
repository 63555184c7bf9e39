use Rattle.std.proofs.Common.{◌≡◌, ◌∙◌, ℕ, zero, suc, List, length, get_or, replicate, Option, None, Some, refl, sym, ap, subst}
use Rattle.std.proofs.lemmas.List.{length-replicate}
use Rattle.decision_diagram.specs.Diagrams.{Diagrams}
use Rattle.char_function.specs.inner.Known.{AreKnown}
use Rattle.char_function.proofs.known.none_known.Goals as goal

none_at : (n k : ℕ) → get_or (replicate {A = Option ℕ} n None) k None ≡ None
none_at zero k = refl
none_at (suc n) zero = refl
none_at (suc n) (suc k) = none_at n k

no_some : (n : ℕ) → ◌≡◌ {A = Option ℕ} None (Some n) → ⊥
no_some n e = cc

are_none : (s : Diagrams) (vars start : ℕ) (outcomes : List (List ℕ))
    → AreKnown s vars start outcomes (replicate (length outcomes) None)
are_none s vars start outcomes = record {
  long = length-replicate (length outcomes) None;
  means = λ k n some. absurd (no_some n (sym (none_at (length outcomes) k) ∙ some));
  levels = λ k n some. absurd (no_some n (sym (none_at (length outcomes) k) ∙ some));
}

pub returns : goal.returns
returns c =
    let vars = length c.args.m.now.vars in
    let outcomes = c.args.table.now.outcomes in
    subst (AreKnown c.args.store.now vars c.args.start outcomes)
    (sym (c.in_ok-known.ensures
    ∙ ap (λ (n : ℕ). replicate {A = Option ℕ} n None) c.len.ensures))
    (are_none c.args.store.now vars c.args.start outcomes)
