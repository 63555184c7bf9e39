use Rattle.std.proofs.Common.{◌≡◌}
use Rattle.transition_table.specs.Orders.{sizes_of}
use Rattle.transition_table.specs.samples.Lamp.{lamp_machine}
use Rattle.layer_calls.proofs.tests.diagrams.all_of.Given as goal

abbrev pub invariant-loop-item : goal.invariant-loop-item
invariant-loop-item l = l.store.sizes ≡ sizes_of lamp_machine
