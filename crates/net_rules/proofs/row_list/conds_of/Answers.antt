use Rattle.std.proofs.Common.{◌∙◌, ◌++◌, ap}
use Rattle.net_names.specs.Numbers.{number}
use Rattle.net_names.specs.Scopes.{state_words}
use Rattle.net_rules.specs.Networks.{cond_of}
use Rattle.net_rules.proofs.Zips.{map_step}
use Rattle.net_rules.proofs.row_list.conds_of.Goals as goal

pub loop-cond-preserved : goal.loop-cond-preserved
loop-cond-preserved c =
    map_step (cond_of c.args.names.now.scope.now.raw.now c.args.names.now.machine.now)
    c.args.conds.now c.loop-cond.cond-index c.cond-item.result c.loop-cond.made c.push.new.self
    c.cond_of.result c.loop-cond-test.true c.cond-item.is c.in_ok-push.ensures.ok c.cond_of.ensures
    c.loop-cond.invariant

pub cond_of-requires-clause-number : goal.cond_of-requires-clause-number
cond_of-requires-clause-number c =
    let m = c.args.names.now.machine.now in
    c.variable_number_from-number.ensures
    ∙ ap (number (m.inputs ++ state_words m)) c.cond_name.ensures

pub bounds-conds-cond-index : goal.bounds-conds-cond-index
bounds-conds-cond-index c = c.loop-cond-test.true

pub cond_of-requires-clause-kept : goal.cond_of-requires-clause-kept
cond_of-requires-clause-kept c = c.requires.kept

pub cond_of-requires-clause-sound : goal.cond_of-requires-clause-sound
cond_of-requires-clause-sound c = c.requires.sound

pub cond_of-requires-clause-variables : goal.cond_of-requires-clause-variables
cond_of-requires-clause-variables c = c.requires.variables

pub cond_of-requires-clause-vars : goal.cond_of-requires-clause-vars
cond_of-requires-clause-vars c = c.requires.vars
