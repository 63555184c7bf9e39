use Rattle.net_names.specs.Scopes.{var_words}
use Rattle.net_names.proofs.IsVar.{var_at, var_below}
use Rattle.net_names.proofs.vars.var_numbered.Goals as goal

pub get-requires : goal.get-requires
get-requires c =
    var_below c.args.names.now.scope.now.raw.now c.args.names.now.machine.now
    (var_words c.args.names.now.machine.now) c.args.vars.now c.args.name c.args.number
    c.requires.vars c.requires.number

pub returns : goal.returns
returns c = var_at c.args.names.now.scope.now.raw.now c.args.names.now.machine.now
    (var_words c.args.names.now.machine.now) c.args.vars.now c.args.name c.args.number
    c.get.result.now c.requires.vars c.requires.number c.get.ensures
