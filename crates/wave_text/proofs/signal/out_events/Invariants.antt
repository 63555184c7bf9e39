use Rattle.std.proofs.Common.{◌≡◌}
use Rattle.std.specs.Prelude.{filter}
use Rattle.polis_base.specs.Lists.{upto}
use Rattle.journals.specs.Outputs.{goes_out}
use Rattle.wave_text.proofs.signal.out_events.Given as goal

-- those before this one
abbrev pub invariant-loop-e : goal.invariant-loop-e
invariant-loop-e l = l.events ≡ filter (goes_out l.net) (upto l.e)
