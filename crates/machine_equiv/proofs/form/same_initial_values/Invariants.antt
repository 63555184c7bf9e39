use Rattle.std.proofs.Common.{◌≡◌}
use Rattle.transition_table.specs.declared.decl.StateDecl.{StateDecl}
use Rattle.polis_base.specs.Lists.{AgreeBelow}
use Rattle.machine_equiv.proofs.form.same_initial_values.Given as goal

abbrev pub invariant-loop-k : goal.invariant-loop-k
invariant-loop-k l = AgreeBelow (λ (x y : StateDecl). x.init ≡ y.init) l.a l.b l.k
