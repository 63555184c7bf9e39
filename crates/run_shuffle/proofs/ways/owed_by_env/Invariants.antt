use Rattle.run_shuffle.specs.inner.Ways.{IsSetOf, env_owes}
use Rattle.run_shuffle.proofs.ways.owed_by_env.Given as goal

-- the machines before this one are told
abbrev pub invariant-loop-m : goal.invariant-loop-m
invariant-loop-m l =
    IsSetOf l.m (env_owes l.config.net l.config.trace l.config.journal) l.set
