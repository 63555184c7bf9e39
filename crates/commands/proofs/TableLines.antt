-- Lines of what the tables of machines leave open, one machine after another.
use Rattle.std.proofs.Common.{◌≡◌, ℕ, suc, ◌+◌, List, ◌++◌, drop, flat_map, slice_get, Option, Some, None, refl, sym, ap, ◌∙◌, add-one, append_assoc}
use Rattle.std.specs.Prelude.{IsSomeAnd}
use Rattle.transition_table.specs.Transitions.{OfMachine}
use Rattle.transition_table.specs.declared.machine.Machine.{Machine}
use Rattle.transition_table.specs.declared.network.Network.{Network}
use Rattle.table_use.specs.Lint.{lint_of}
use Rattle.table_use.specs.LintLines.{lint_text}
use Rattle.table_use.specs.declared.finding.MachineLint.{MachineLint}
use Rattle.commands.specs.Lint.{table_text}
use Rattle.polis_base.proofs.Places.{drop_one}

-- one machine more is written
pub next_table : (net : Network) (m : ℕ) (found : MachineLint) (now new all : List ℕ)
    → OfMachine net m (λ machine. found ≡ lint_of machine)
    → OfMachine net m (λ machine. new ≡ now ++ lint_text net machine found)
    → now ++ flat_map (table_text net) (drop m net.machines) ≡ all
    → new ++ flat_map (table_text net) (drop (m + 1) net.machines) ≡ all
next_table net m found now new all is made was = by_case (slice_get net.machines m) refl is made
  where
    by_case : (o : Option Machine) → slice_get net.machines m ≡ o
        → IsSomeAnd o (λ machine. found ≡ lint_of machine)
        → IsSomeAnd o (λ machine. new ≡ now ++ lint_text net machine found)
        → new ++ flat_map (table_text net) (drop (m + 1) net.machines) ≡ all
    by_case None at a b = absurd a
    by_case (Some machine) at a b =
        let rest = flat_map (table_text net) (drop (suc m) net.machines) in
        ap (λ (k : ℕ). new ++ flat_map (table_text net) (drop k net.machines)) (add-one m)
        ∙ ap (λ (l : List ℕ). l ++ rest)
        (b ∙ ap (λ (x : MachineLint). now ++ lint_text net machine x) a)
        ∙ append_assoc now (table_text net machine) rest
        ∙ ap (λ (l : List Machine). now ++ flat_map (table_text net) l)
        (sym (drop_one net.machines m machine at))
        ∙ was
