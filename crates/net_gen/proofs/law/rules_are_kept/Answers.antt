use Rattle.net_gen.proofs.SeedsKeepRules.{seeds_keep}
use Rattle.net_gen.proofs.law.rules_are_kept.Goals as goal

pub returns : goal.returns
returns c = seeds_keep
