use Rattle.std.proofs.Common.{refl}
use Rattle.commands.proofs.run_result.carry_on.Goals as goal

pub returns : goal.returns
returns g c =
    let net = c.requires.network in
    let finished = c.in_ok-finished.ensures in
    record {
      gathered = refl;
      adopted = c.len-adopted.ensures.len;
      begins = finished.begins;
      follows = rw net at finished.follows;
      legal = rw net at finished.legal;
      within = finished.within;
      stops = rw net at finished.ends;
      ends = rw net at finished.complete;
    }
