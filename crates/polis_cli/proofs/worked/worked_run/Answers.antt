use Rattle.net_reader.specs.Samples.{lamp as lamp_declared}
use Rattle.polis_cli.proofs.LampRun.{lamp_row}
use Rattle.polis_cli.proofs.worked.worked_run.Goals as goal

pub returns : goal.returns
returns c = lamp_row (lamp_declared, c.worked_texts.ensures.lamp, c.worked_network.ensures.lamp)
    c.laws.ensures.one_row c.worked_rows.ensures.lamp_once
