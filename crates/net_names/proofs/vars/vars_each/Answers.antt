use Rattle.net_reader.specs.declared.raw.Word.{Word}
use Rattle.net_names.specs.Vars.{IsVar}
use Rattle.net_names.proofs.Zips.{zip_step}
use Rattle.net_names.proofs.vars.vars_each.Goals as goal

pub loop-word-preserved : goal.loop-word-preserved
loop-word-preserved c =
    zip_step (λ (w : Word). IsVar c.args.names.now.scope.now.raw.now c.args.names.now.machine.now
    w.name) c.args.words.now c.loop-word.word-index c.word-item.result c.loop-word.vars
    c.var_of.result c.push.new.self c.loop-word-test.true c.word-item.is c.in_ok-push.ensures.ok
    c.var_of.ensures c.loop-word.invariant
