-- Kinds of outputs without a limit, and how those of later runs are added.
use Rattle.std.specs.Prelude.{◌≡◌, ℕ, ◌+◌, Bool, cond, fold, List, [], ◌∷◌, map, sum_by, take, drop, Option, Some, None, bytes_eq}
use Rattle.run_survey.specs.declared.told.Kind.{Kind}
use Rattle.run_survey.specs.declared.told.Others.{Others}
use Rattle.run_survey.specs.Kinds.{kind_of, new_texts}

-- a kind of so many runs more
abbrev pub more : Kind → ℕ → Kind
more kind n = record { outputs = kind.outputs; count = kind.count + n; seed = kind.seed }

abbrev pub has_outputs : List ℕ → Kind → Bool
has_outputs outputs kind = bytes_eq kind.outputs outputs

-- the kinds with the runs of a later one, which are of the kind with its outputs, or a kind more
abbrev pub merged : List Kind → Kind → List Kind
merged [] next = next ∷ []
merged (kind ∷ kinds) next =
    cond (has_outputs next.outputs kind) (more kind next.count ∷ kinds) (kind ∷ merged kinds next)

abbrev pub all_merged : List Kind → List Kind → List Kind
all_merged kinds next = fold merged kinds next

-- all kinds of the runs, however many
abbrev pub all_kinds : ℕ → List (List ℕ) → List Kind
all_kinds first texts = map (kind_of first texts) (new_texts texts)

abbrev pub count_of : Kind → ℕ
count_of kind = kind.count

-- the runs of these kinds as others
abbrev pub gathered : List Kind → Option Others
gathered [] = None
gathered (kind ∷ kinds) =
    Some (record { count = sum_by count_of (kind ∷ kinds); seed = kind.seed })

-- the runs of a kind more among the others
abbrev pub with_runs : Option Others → Kind → Option Others
with_runs None next = Some (record { count = next.count; seed = next.seed })
with_runs (Some others) next =
    Some (record { count = others.count + next.count; seed = others.seed })

abbrev pub others_count : Option Others → ℕ
others_count None = 0
others_count (Some others) = others.count

-- how many runs these are
abbrev pub run_count : List Kind → Option Others → ℕ
run_count kinds others = sum_by count_of kinds + others_count others

-- the first n kinds are told apart, and the runs of the rest are others
pub record AreTold (n : ℕ) (all kinds : List Kind) (others : Option Others) : Type 0 where
  pub apart : kinds ≡ take n all
  pub rest : others ≡ gathered (drop n all)
