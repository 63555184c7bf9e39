use Rattle.std.proofs.Common.{◌∷◌, [], ℕ, List, IsTrue, refl, subst, sym}
use Rattle.domains.specs.Tables.{fits}
use Rattle.transition_table.specs.declared.machine.Machine.{Machine}
use Rattle.layer_calls.proofs.tests.diagrams.pressed.Goals as goal

pub evaluate-requires : goal.evaluate-requires
evaluate-requires c = record {
  machine = c.args.m.now;
  graph = c.requires.graph;
  snapshot = subst (λ (m : Machine). IsTrue (fits m.vars c.in_ok-from_slice.field-0))
      (sym c.requires.machine)
      (subst (λ (codes : List ℕ). IsTrue (fits (2 ∷ 2 ∷ []) codes))
      (sym c.in_ok-from_slice.ensures) refl);
  blank = c.in_ok-outcome.ensures.blank;
}
