use Rattle.machine_compiler.proofs.shares.or_compiled.Goals as goal

pub compile_machine-requires : goal.compile_machine-requires
compile_machine-requires c = c.requires.deterministic c.args.k c.get.result.now c.get.ensures

pub returns-in-Some : goal.returns-in-Some
returns-in-Some c = c.requires.right c.in-Some.compiled c.in-Some.is
