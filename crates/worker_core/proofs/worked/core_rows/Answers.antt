use Rattle.std.proofs.Common.{refl}
use Rattle.worker_core.proofs.worked.core_rows.Goals as goal

pub returns-clause-two : goal.returns-clause-two
returns-clause-two c = record { merges = refl; stamped = refl }

pub returns-clause-pong : goal.returns-clause-pong
returns-clause-pong c = record { merges = refl; stamped = refl }
