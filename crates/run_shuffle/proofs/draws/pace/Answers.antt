use Rattle.std.proofs.Common.{◌^◌, ◌*◌, arith}
use Rattle.std.proofs.Math.Nat.{mod-le}
use Rattle.run_shuffle.proofs.ChosenMoves.{small_power}
use Rattle.run_shuffle.proofs.draws.pace.Goals as goal

pub returns-clause-small : goal.returns-clause-small
returns-clause-small c =
    let low = small_power c.draw.result c.draw.ensures.below in
    let cut = mod-le (1 * 2 ^ c.draw.result) 18446744073709551616 in
    omega (arith, low, cut)
