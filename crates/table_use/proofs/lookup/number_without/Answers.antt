use Rattle.std.proofs.Common.{◌≡◌, ◌<◌, ◌*◌, ◌+◌, ℕ, Some, sym, ap, ◌∙◌, arith}
use Rattle.domains.proofs.Ranks.{length_fits, ranks_below}
use Rattle.domains.specs.Tables.{rank}
use Rattle.table_use.specs.Use.{without}
use Rattle.table_use.proofs.ByNumber.{number_parts, strides_long}
use Rattle.table_use.proofs.lookup.number_without.Goals.{After-get-2}
use Rattle.table_use.proofs.lookup.number_without.Goals as goal

pub get-requires : goal.get-requires
get-requires c =
    let long = length_fits c.args.lookup.now.machine.now.vars c.args.codes.now c.requires.fits in
    let low = c.requires.var in
    omega arith

pub get-requires-2 : goal.get-requires-2
get-requires-2 c =
    let lookup = c.args.lookup.now in
    let long = strides_long lookup.machine.now.vars lookup.keys.now.strides
    lookup.are_keys.strides in
    let low = c.requires.var in
    omega arith

-- the number by its parts
record IsParted (c : After-get-2) : Type 0 where
  parts : c.args.n
      ≡ rank c.args.lookup.now.machine.now.vars (without c.args.codes.now c.args.v)
      + c.from.result * c.get-2.result.now
  low : c.args.n < 65536

here : (c : After-get-2) → IsParted c
here c =
    let lookup = c.args.lookup.now in
    let vars = lookup.machine.now.vars in
    let below = ranks_below vars c.args.codes.now c.requires.fits in
    let most = c.var_count.ensures.snapshots in
    let number = c.requires.number in
    record {
      parts = number_parts vars lookup.keys.now.strides c.args.codes.now c.args.v c.args.n
          c.from.result c.get-2.result.now c.requires.fits c.requires.number c.requires.var
          lookup.are_keys.strides (c.get.ensures ∙ ap (λ (k : ℕ). Some k) (sym c.from.ensures))
          c.get-2.ensures;
      low = omega arith;
    }

pub overflow_mul-result : goal.overflow_mul-result
overflow_mul-result c =
    let parted = here (goal.at.overflow_mul-result c).After-get-2 in
    let parts = parted.parts in
    let low = parted.low in
    omega arith

pub overflow_sub-result : goal.overflow_sub-result
overflow_sub-result c =
    let parts = (here (goal.at.overflow_sub-result c).After-get-2).parts in
    omega arith

pub returns : goal.returns
returns c =
    let parts = (here (goal.at.returns c).After-get-2).parts in
    omega arith
