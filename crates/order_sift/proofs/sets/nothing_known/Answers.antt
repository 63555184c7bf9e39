use Rattle.std.proofs.Common.{List, length, arith, ap}
use Rattle.std.proofs.lemmas.Option.{slice_get_within}
use Rattle.order_sift.specs.declared.sets.KnownLevel.{KnownLevel}
use Rattle.order_sift.specs.declared.sets.KnownNumbers.{KnownNumbers}
use Rattle.order_sift.proofs.sets.nothing_known.Goals as goal

pub returns : goal.returns
returns c = record {
  numbers = λ k one h. absurd (let l = slice_get_within c.new-numbers.result k one h in
      let e = ap (λ (xs : List KnownNumbers). length xs) c.new-numbers.ensures in omega arith);
  levels = λ k one h. absurd (let l = slice_get_within c.new-levels.result k one h in
      let e = ap (λ (xs : List KnownLevel). length xs) c.new-levels.ensures in omega arith);
}
