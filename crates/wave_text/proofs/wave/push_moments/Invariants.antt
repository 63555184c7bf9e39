use Rattle.std.proofs.Common.{◌≡◌, ◌++◌, take}
use Rattle.std.specs.List.{flat_map}
use Rattle.polis_base.specs.Lists.{upto}
use Rattle.journals.specs.Moved.{moments_of}
use Rattle.wave_text.specs.inner.Changing.{AreValues}
use Rattle.wave_text.specs.Waves.{moment_text}
use Rattle.wave_text.proofs.wave.push_moments.Given as goal

-- the moments of the entries before this one are written, and the tables are those after them
abbrev pub invariant-loop-p : goal.invariant-loop-p
invariant-loop-p l = record {
  moments_are : l.moments.items ≡ moments_of l.net (take l.p l.j);
  values_are : AreValues l.net (take l.p l.j) l.values;
  written : l.into ≡ l.fn.into ++ flat_map (moment_text l.net l.j) (upto l.p);
}
