use Rattle.std.proofs.Common.{◌≢◌, ◌<◌, ℕ, slice_get, Some}
use Rattle.domains.proofs.domain.NameList.place_of.Given as goal

abbrev pub invariant-loop-i : goal.invariant-loop-i
invariant-loop-i l = (i : ℕ) → i < l.i → slice_get l.self i ≢ Some l.word
