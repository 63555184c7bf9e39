use Rattle.std.proofs.Common.{inl}
use Rattle.commands.proofs.texts.tasks_lines.Goals as goal

pub print_tries-requires-clause-counts : goal.print_tries-requires-clause-counts
print_tries-requires-clause-counts c = inl c.requires.few

pub print_code_tries-requires-clause-counts : goal.print_code_tries-requires-clause-counts
print_code_tries-requires-clause-counts c = inl c.requires.few
