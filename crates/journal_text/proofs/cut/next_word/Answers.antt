use Rattle.std.proofs.Common.{◌∙◌, sym}
use Rattle.journal_text.proofs.CutAt.{not_all}
use Rattle.journal_text.proofs.cut.next_word.Goals as goal

pub returns-else-is_plain_word-clause-none : goal.returns-else-is_plain_word-clause-none
returns-else-is_plain_word-clause-none c =
    sym (not_all _ _ _ c.in-Some.ensures.some
    (sym c.is_plain_word.ensures ∙ c.if-is_plain_word.false))
