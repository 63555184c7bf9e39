-- Words that name files.
use Rattle.std.specs.Prelude.{ℕ, ◌≤◌, List, length}
use Rattle.polis_base.specs.declared.limits.TheConstants.{FILE_NAME_MAX}

-- a word of 1 to 200 bytes
abbrev pub IsFileWord : List ℕ → Type 0
IsFileWord word = (1 ≤ length word) × (length word ≤ FILE_NAME_MAX)
