-- Ranges with the same ends are the same.
use Rattle.std.proofs.Common.{◌≤◌, ◌<◌, ◌-◌}
use mathlib.Core.HLevel.{is_prop→PathP}
use Rattle.std.specs.Coded.{le_prop}
use Rattle.domains.specs.Domains.{SameSpan}

pub same_span : SameSpan
same_span a b p q = λ i. record {
  first = p i;
  last = q i;
  ordered = is_prop→PathP (λ j. p j ≤ q j) (λ j. le_prop) a.ordered b.ordered i;
  few = is_prop→PathP (λ j. q j - p j < 32) (λ j. le_prop) a.few b.few i;
}
