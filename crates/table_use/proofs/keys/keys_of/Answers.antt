use Rattle.table_use.proofs.EqualOutcomes.{keys_are}
use Rattle.table_use.proofs.keys.keys_of.Goals as goal

pub returns : goal.returns
returns c =
    keys_are c.args.machine.now c.args.results.now
    (record {
      firsts = c.in_ok-firsts.firsts;
      fires = c.in_ok-fires.fires;
      strides = c.in_ok-strides.strides;
    })
    c.requires c.in_ok-firsts.ensures c.in_ok-fires.ensures c.in_ok-strides.ensures
