use Rattle.std.proofs.Common.{◌≡◌, ℕ, length, slice_get, Option, Some, None}
use Rattle.machine_compiler.specs.declared.compiled.Compiled.{Compiled}
use Rattle.machine_compiler.proofs.shares.empty_places.Given as goal

-- as many places as were counted, with nothing there
abbrev pub invariant-loop : goal.invariant-loop
invariant-loop l = record {
  long : length l.places ≡ l.counter;
  empty :
      (k : ℕ) (place : Option Compiled) → slice_get l.places k ≡ Some place → place ≡ None;
}
