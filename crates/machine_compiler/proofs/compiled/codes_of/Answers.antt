use Rattle.std.proofs.Common.{◌≡◌, ◌∙◌, ◌++◌, ◌∷◌, [], List, ap, sym, subst, arith}
use Rattle.task_code.specs.declared.instr.Instr.{Instr}
use Rattle.task_machine.specs.Tasks.{AreTasks}
use Rattle.machine_compiler.specs.Parts.{codes_in, parts_of}
use Rattle.machine_compiler.proofs.RightParts.{right_tasks}
use Rattle.machine_compiler.proofs.Pairwise.{more_codes, all_codes_in}
use Rattle.machine_compiler.proofs.compiled.codes_of.Goals as goal

pub loop-k-preserved : goal.loop-k-preserved
loop-k-preserved c =
    let cs = c.args.compiled.now in
    let codes = c.loop-k.codes in
    more_codes cs c.loop-k.k c.get.result.now codes c.push.new.self (codes_in (parts_of cs))
    c.loop-k.invariant c.get.ensures (c.in_ok-push.ensures.ok
    ∙ ap (λ (x : List Instr). codes ++ x ∷ []) c.in_ok-code.ensures)

pub returns-clause-tasks : goal.returns-clause-tasks
returns-clause-tasks c = λ net right.
    let cs = c.args.compiled.now in
    let end = c.loop-k-test.false in
    let long = c.len-k-end.ensures in
    let all : c.loop-k.codes ≡ codes_in (parts_of cs) =
    all_codes_in cs c.loop-k.k c.loop-k.codes (codes_in (parts_of cs)) (omega arith)
    c.loop-k.invariant in
    subst (AreTasks net) (sym all) (right_tasks net (parts_of cs) right)
