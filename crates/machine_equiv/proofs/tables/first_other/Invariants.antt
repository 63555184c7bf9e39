use Rattle.std.proofs.Common.{◌≡◌, ◌<◌, ℕ, [], length, get_or}
use Rattle.outcome_table.specs.Outcomes.{named}
use Rattle.machine_equiv.specs.inner.FirstOthers.{AreEqualOnes}
use Rattle.machine_equiv.proofs.tables.first_other.Given as goal

abbrev pub invariant-loop-i : goal.invariant-loop-i
invariant-loop-i l = record {
  before : (k : ℕ) → k < l.i
      → get_or (named l.a.outcomes l.a.numbers) k [] ≡ get_or (named l.b.outcomes l.b.numbers) k [];
  long : length l.equal ≡ length l.a.outcomes;
  equal : AreEqualOnes l.a.outcomes l.b.outcomes l.equal;
}
