use Rattle.std.proofs.Common.{◌≡◌, ◌++◌, map}
use Rattle.polis_base.specs.Lists.{upto}
use Rattle.wave_text.specs.declared.signal.Signal.TheVariants.{State}
use Rattle.wave_text.proofs.signal.push_states.Given as goal

-- those before this one stand at the end
abbrev pub invariant-loop-variable : goal.invariant-loop-variable
invariant-loop-variable l = l.into ≡ l.fn.into ++ map (State l.m) (upto l.variable)
