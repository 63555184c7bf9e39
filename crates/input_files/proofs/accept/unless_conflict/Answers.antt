use Rattle.input_files.proofs.accept.unless_conflict.Goals as goal

pub returns-then-all-clause-ok : goal.returns-then-all-clause-ok
returns-then-all-clause-ok c =
    (c.in-Ok.ensures.ok, c.in-Ok-are_deterministic.ensures.ok c.if-all.true)
