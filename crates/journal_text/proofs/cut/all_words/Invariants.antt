use Rattle.std.proofs.Common.{◌≡◌, length}
use Rattle.std.specs.List.{list_all}
use Rattle.journal_text.specs.Forms.{words_of, is_word}
use Rattle.journal_text.proofs.cut.all_words.Given as goal

-- the pieces before the rest are words
abbrev pub invariant-loop-after : goal.invariant-loop-after
invariant-loop-after l = list_all is_word (words_of l.fn.words) ≡ list_all is_word (words_of l.rest)

abbrev pub decreases-loop-after : goal.decreases-loop-after
decreases-loop-after l = length l.rest
