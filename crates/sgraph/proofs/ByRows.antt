-- The value of an exact root, by the function that reads the rows.
use Rattle.std.proofs.Common.{◌≡◌, ℕ, true, List, subst}
use Rattle.domains.specs.Tables.{fits}
use Rattle.transition_table.specs.declared.machine.Machine.{Machine}
use Rattle.transition_table.specs.Computed.{char}
use Rattle.transition_table.specs.Laws.{CharByTest}
use Rattle.transition_table.specs.Orders.{sizes_of, Allowed}
use Rattle.transition_table.specs.Transitions.{IsDeterministic}
use Rattle.decision_diagram.specs.Diagrams.{Diagrams, AreReduced, Means, value_of}
use Rattle.sgraph.specs.Built.{IsDiagram}
use Rattle.polis_base.proofs.Bools.{same_truth}

-- the root's value is the function that reads the rows
pub record IsDiagramByRows (m : Machine) (s : Diagrams) (root : ℕ) : Type 0 where
  pub sure : IsDeterministic m
  pub reduced : AreReduced s
  pub sizes : s.sizes ≡ sizes_of m
  pub allowed : Allowed m s.order
  pub means : Means s root (char m)

pub by_rows : CharByTest → (m : Machine) (s : Diagrams) (root : ℕ) → IsDiagram m s root
    → IsDiagramByRows m s root
by_rows test m s root d = record {
  sure = d.sure;
  reduced = d.reduced;
  sizes = d.sizes;
  allowed = d.allowed;
  means = record {
    node = d.node;
    value = λ codes fit.
        let fit_too : fits (sizes_of m) codes ≡ true =
        subst (λ (xs : List ℕ). fits xs codes ≡ true) d.sizes fit in
        let own = d.exact codes fit_too in
        let rows = test m codes d.sure fit_too in
        same_truth (value_of s root codes) (char m codes) (λ on. rows.1 (own.0 on))
        (λ on. own.1 (rows.0 on));
  };
}
