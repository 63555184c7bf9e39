use Rattle.std.proofs.Common.{not}
use Rattle.net_names.specs.Scopes.{is_from_env}
use Rattle.net_names.proofs.IfOk.{IfOk_same}
use Rattle.rule_judge.proofs.FoundInParts.{where_words}
use Rattle.rule_judge.proofs.ports.not_from_env.Goals as goal

pub returns : goal.returns
returns c = IfOk_same c.gather_all.result _ _
    (where_words (λ env. not (is_from_env env)) c.args.raw.now.events) c.gather_all.ensures
