use Rattle.std.proofs.Common.{List, ◌∷◌, ◌++◌, [], take, ap, sym, ◌∙◌, arith}
use Rattle.journals.specs.declared.entry.Entry.{Entry}
use Rattle.journals.proofs.StampSteps.{prefix_more}
use Rattle.journal_replay.proofs.judge.first_entries.Goals as goal

pub loop-i-preserved : goal.loop-i-preserved
loop-i-preserved c =
    let j = c.args.j.now in
    let few = c.requires in
    c.in_ok-push.ensures.ok
    ∙ ap (λ (l : List Entry). l ++ c.in_ok-copy.field-0 ∷ []) c.loop-i.invariant
    ∙ ap (λ (e : Entry). take c.loop-i.i j ++ e ∷ []) c.in_ok-copy.ensures
    ∙ sym (prefix_more j c.loop-i.i c.get.result.now (omega arith) c.get.ensures)
