-- None of the words before this one has the name.
use Rattle.std.proofs.Common.{◌≡◌, drop}
use Rattle.net_names.specs.Numbers.{is_name_of}
use Rattle.net_names.proofs.values.has_name.Given as goal

abbrev pub invariant-loop-word : goal.invariant-loop-word
invariant-loop-word l = is_name_of (drop l.word-index l.words) l.name ≡ is_name_of l.words l.name
