use Rattle.std.proofs.Common.{arith}
use Rattle.machine_compiler.proofs.shares.compile_network_by.Goals as goal

pub place_all-requires : goal.place_all-requires
place_all-requires g c = λ k d low.
    let len = c.in_ok-shares.ensures.len in
    let ok = c.in_ok-shares.shares.ok in
    (c.in_ok-shares.ensures.each k d (omega (arith, low, len, ok))).1.met
