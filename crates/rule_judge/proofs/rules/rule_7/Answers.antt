use Rattle.std.proofs.Common.{◌≡◌, ◌∙◌, ℕ, Bool, List, ◌++◌, flat_map, ap}
use Rattle.net_reader.specs.declared.raw.RawMachine.{RawMachine}
use Rattle.net_names.specs.Places.{least_place}
use Rattle.net_names.specs.Numbers.{missing, is_name_of}
use Rattle.net_names.specs.Tables.{has}
use Rattle.net_names.specs.Scopes.{event_words}
use Rattle.net_names.proofs.IfOk.{IfOk_same}
use Rattle.rule_judge.proofs.rules.rule_7.Goals as goal

pub returns : goal.returns
returns c =
    let names : has c.in_ok-events.events ≡ is_name_of (event_words c.args.raw.now) =
    c.in_ok-events.ensures.names ∙ ap is_name_of c.in_ok-words.ensures in
    IfOk_same c.check_all.result _ _
    (ap (λ (declared : List ℕ → Bool). least_place
    (flat_map (λ (m : RawMachine). missing declared (m.inputs ++ m.outputs))
    c.args.raw.now.machines)) names) c.check_all.ensures
