use Rattle.std.proofs.Common.{◌<◌, ◌++◌, ◌∷◌, [], ℕ, List, cond, length, ap, sym, subst, ◌∙◌}
use Rattle.journal_chart.specs.Columns.{has_column}
use Rattle.journal_chart.proofs.Columns.{columns_more, flag_is, length_flags}
use Rattle.journal_chart.proofs.layout.columns_of.Goals as goal

pub get-requires : goal.get-requires
get-requires c =
    subst (λ (n : ℕ). c.loop-m.m < n)
    (c.len-m-end.ensures
    ∙ sym (length_flags (has_column c.args.entries.now) (length c.args.net.now.machines)
    c.args.flags.now c.requires)) c.loop-m-test.true

pub loop-m-preserved : goal.loop-m-preserved
loop-m-preserved c =
    let p = has_column c.args.entries.now in
    let m = c.loop-m.m in
    let flag = c.get.result.now in
    c.in_ok-push_if.ensures ∙ ap (λ (l : List ℕ). l ++ cond flag (m ∷ []) []) c.loop-m.invariant
    ∙ sym (columns_more p m flag
    (flag_is p (length c.args.net.now.machines) m c.args.flags.now flag c.requires
    (subst (λ (n : ℕ). m < n) c.len-m-end.ensures c.loop-m-test.true) c.get.ensures))
