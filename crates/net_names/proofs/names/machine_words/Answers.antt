use Rattle.std.proofs.lemmas.List.Concat.{flat_map_single}
use Rattle.net_reader.specs.declared.raw.RawMachine.{RawMachine}
use Rattle.net_names.proofs.IfOk.{IfOk_same}
use Rattle.net_names.proofs.names.machine_words.Goals as goal

pub returns : goal.returns
returns c = IfOk_same c.gather_all.result _ _
    (flat_map_single (λ (x : RawMachine). x.name) c.args.raw.now.machines) c.gather_all.ensures
