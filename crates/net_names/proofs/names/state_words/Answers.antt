use Rattle.std.proofs.lemmas.List.Concat.{flat_map_single}
use Rattle.net_reader.specs.declared.raw.RawState.{RawState}
use Rattle.net_names.proofs.IfOk.{IfOk_same}
use Rattle.net_names.proofs.names.state_words.Goals as goal

pub returns : goal.returns
returns c = IfOk_same c.gather_all.result _ _
    (flat_map_single (λ (x : RawState). x.name) c.args.machine.now.states) c.gather_all.ensures
