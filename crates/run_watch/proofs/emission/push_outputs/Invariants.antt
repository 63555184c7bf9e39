use Rattle.std.proofs.Common.{◌≡◌, ◌++◌, drop}
use Rattle.journals.specs.Journals.{emitted, outputs_of}
use Rattle.run_watch.specs.inner.Emissions.{going_out}
use Rattle.run_watch.proofs.emission.push_outputs.Given as goal

-- those of the outputs from this one on are left
abbrev pub invariant-loop-k : goal.invariant-loop-k
invariant-loop-k l =
    l.into
    ++ going_out l.net l.place (emitted (drop l.k (outputs_of l.net l.m)) (drop l.k l.codes))
    ≡ l.fn.into ++ going_out l.net l.place (emitted (outputs_of l.net l.m) l.codes)
