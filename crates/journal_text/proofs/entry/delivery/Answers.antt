use Rattle.journals.proofs.ValueWords.{domain_in}
use Rattle.journal_text.proofs.entry.delivery.Goals as goal

pub code_of_word-requires : goal.code_of_word-requires
code_of_word-requires c = domain_in c.args.index.now.net.now _ c.get.result.now c.get.ensures
