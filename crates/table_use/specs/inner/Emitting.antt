-- Which results a row gives a code other than 0, wherever it is enabled.
use Rattle.std.specs.Prelude.{ℕ, Bool, true, false, cond, not, ◌==◌, List, [], ◌∷◌}
use Rattle.transition_table.specs.declared.row.Act.{Act}
use Rattle.transition_table.specs.declared.row.Source.{Source}
use Rattle.transition_table.specs.declared.row.Source.TheVariants.{Code, Input, Add}

-- the source has another code than 0 where its row is enabled: the input that it names is present
abbrev pub is_some : Source → Bool
is_some (Code code) = not (code == 0)
is_some (Input v) = true
is_some (Add k) = true

-- the actions give the result y such a source
abbrev pub gives_some : List Act → ℕ → Bool
gives_some [] y = false
gives_some (act ∷ acts) y = cond (act.result == y) (is_some act.source) (gives_some acts y)
