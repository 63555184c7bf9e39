use Rattle.fault_text.proofs.SmallTexts.{blocks}
use Rattle.fault_text.proofs.worked.worked_blocks.Goals as goal

pub returns : goal.returns
returns c = blocks
