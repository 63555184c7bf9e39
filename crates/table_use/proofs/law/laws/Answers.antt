use Rattle.table_use.proofs.AgreeingReads.{reads_agree}
use Rattle.table_use.proofs.Tests.{jammed_by_test, jammed_is_seen, unused_by_test}
use Rattle.table_use.proofs.law.laws.Goals as goal

pub returns : goal.returns
returns c = record {
  jammed_by_test = jammed_by_test;
  unused_by_test = unused_by_test;
  jammed_is_seen = jammed_is_seen;
  reads_agree = reads_agree;
}
