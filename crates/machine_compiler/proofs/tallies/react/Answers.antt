use Rattle.std.proofs.Common.{arith}
use Rattle.machine_compiler.proofs.tallies.react.Goals as goal

pub overflow_add-to-2 : goal.overflow_add-to-2
overflow_add-to-2 c =
    let few = c.run-steps.ensures.few in
    let long = c.len.ensures.code.few in
    let room = c.requires.few_steps in
    omega (arith, few, long, room)

pub returns-clause-few : goal.returns-clause-few
returns-clause-few c =
    let few = c.run-steps.ensures.few in
    let long = c.len.ensures.code.few in
    omega (arith, few, long)
