-- Texts that are saved under names, and what is held after.
use Rattle.std.specs.Prelude.{◌≡◌, ◌≢◌, ℕ, List, [], ◌∷◌, ◌++◌, fold, Some, ⊤}
use Rattle.std.specs.FinMap.{insert}
use Rattle.polis_base.specs.Host.{Files, bytes_at}

-- a name, and the text that is saved under it
pub record Save : Type 0 where
  pub name : List ℕ
  pub text : List ℕ

-- the files after these saves, in order
abbrev pub files_after : Files → List Save → Files
files_after files saves = fold (λ held save. insert held save.name save.text) files saves

-- after the first ones of these saves the others weren't made
abbrev pub MadeSome : List Save → Files → Files → Type 0
MadeSome saves before now = (first rest : List Save) × (saves ≡ first ++ rest)
    × (now ≡ files_after before first)

-- the name is none of those of the saves
abbrev pub IsOther : List ℕ → List Save → Type 0
IsOther name [] = ⊤
IsOther name (save ∷ saves) = (name ≢ save.name) × IsOther name saves

-- no two saves have one name
abbrev pub AreApart : List Save → Type 0
AreApart [] = ⊤
AreApart (save ∷ saves) = IsOther save.name saves × AreApart saves

-- each text is held under its name
abbrev pub AreHeld : Files → List Save → Type 0
AreHeld files [] = ⊤
AreHeld files (save ∷ saves) = (bytes_at files save.name ≡ Some save.text) × AreHeld files saves
