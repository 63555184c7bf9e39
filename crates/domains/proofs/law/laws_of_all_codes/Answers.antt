use Rattle.domains.proofs.AllCodes.{counts_all, stands_at_rank, stands_once, lists_fit, lists_all}
use Rattle.domains.proofs.law.laws_of_all_codes.Goals as goal

pub returns : goal.returns
returns c = record {
  counts_all = counts_all;
  stands_at_rank = stands_at_rank;
  stands_once = stands_once;
  lists_fit = lists_fit;
  lists_all = lists_all;
}
