-- What explaining gives.
use Rattle.std.specs.Prelude.{ℕ, ◌+◌, false, List, [], Option}
use Rattle.net_core.specs.declared.answer.Why.{Why}
use Rattle.fault_text.specs.Blocks.{line_block_text}
use Rattle.polis_words.specs.Sentences.{why_sentence}
use Rattle.input_files.specs.declared.load.Detail.{Detail}
use Rattle.input_files.specs.declared.load.Detail.TheVariants as details

-- what is said of the k-th entry of a journal's text, where this is the cause against it: nothing,
-- or what explains it
abbrev pub entry_explained : Detail → List ℕ → List ℕ → ℕ → Option Why → List ℕ
entry_explained details.Cause name text k why = []
entry_explained details.Explained name text k why =
    line_block_text false name text (k + 2) (why_sentence why)
