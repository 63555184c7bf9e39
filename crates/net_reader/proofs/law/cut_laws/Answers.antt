use Rattle.net_reader.proofs.FirstMachines.{sentences_have}
use Rattle.net_reader.proofs.CutTexts.{cuts_have, cuts_need, one_needs}
use Rattle.net_reader.proofs.law.cut_laws.Goals as goal

pub returns-clause-sentences : goal.returns-clause-sentences
returns-clause-sentences c = sentences_have

pub returns-clause-cuts : goal.returns-clause-cuts
returns-clause-cuts c = cuts_have

pub returns-clause-all_tokens : goal.returns-clause-all_tokens
returns-clause-all_tokens c = cuts_need

pub returns-clause-one_machine : goal.returns-clause-one_machine
returns-clause-one_machine c = one_needs
