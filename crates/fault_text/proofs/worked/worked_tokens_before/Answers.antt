use Rattle.fault_text.proofs.SmallTexts.{tokens_before}
use Rattle.fault_text.proofs.worked.worked_tokens_before.Goals as goal

pub returns : goal.returns
returns c = tokens_before
