-- What rules read leaves fewer tokens.
use Rattle.std.proofs.Common.{ℕ}
use Rattle.net_reader.specs.Reading.{Shrinks, word_at, value_at, domain_at, event_at, state_at, cond_at, act_at, row_at, machine_at}
use Rattle.net_reader.proofs.Combinators.{shrinks}
use Rattle.net_reader.proofs.Tokens.{word_laws, value_laws}
use Rattle.net_reader.proofs.DeclarationLaws.{domain_laws, event_laws, state_laws}
use Rattle.net_reader.proofs.ConditionLaws.{cond_laws}
use Rattle.net_reader.proofs.ActionLaws.{act_laws}
use Rattle.net_reader.proofs.MachineLaws.{row_laws, machine_laws}

pub word_shrinks : Shrinks word_at
word_shrinks = shrinks word_laws

pub value_shrinks : Shrinks value_at
value_shrinks = shrinks value_laws

pub domain_shrinks : Shrinks domain_at
domain_shrinks = shrinks domain_laws

pub event_shrinks : Shrinks event_at
event_shrinks = shrinks event_laws

pub state_shrinks : Shrinks state_at
state_shrinks = shrinks state_laws

pub cond_shrinks : Shrinks cond_at
cond_shrinks = shrinks cond_laws

pub act_shrinks : (version : ℕ) → Shrinks (act_at version)
act_shrinks version = shrinks (act_laws version)

pub row_shrinks : (version : ℕ) → Shrinks (row_at version)
row_shrinks version = shrinks (row_laws version)

pub machine_shrinks : (version : ℕ) → Shrinks (machine_at version)
machine_shrinks version = shrinks (machine_laws version)
