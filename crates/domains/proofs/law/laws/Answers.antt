use Rattle.domains.proofs.Ranks.{ranks_below, ranks_differ, ranks_reach}
use Rattle.domains.proofs.Spans.{same_span}
use Rattle.domains.proofs.Words.{words_differ}
use Rattle.domains.proofs.law.laws.Goals as goal

pub returns : goal.returns
returns c = record {
  words = words_differ;
  same_span = same_span;
  ranks_below = ranks_below;
  ranks_differ = ranks_differ;
  ranks_reach = ranks_reach;
}
