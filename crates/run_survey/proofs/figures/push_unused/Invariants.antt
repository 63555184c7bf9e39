use Rattle.std.proofs.Common.{◌≡◌, ◌++◌, map, take}
use Rattle.table_use.specs.declared.used.InputUse.{InputUse}
use Rattle.run_survey.proofs.figures.push_unused.Given as goal

-- those of the inputs before this one
abbrev pub invariant-loop-input : goal.invariant-loop-input
invariant-loop-input l =
    l.into
    ≡ l.fn.into ++ map (λ (input : InputUse). input.unused.count) (take l.input-index l.used.inputs)
