use Rattle.std.proofs.Common.{◌<◌, ◌+◌, ◌/◌, ◌++◌, ◌∷◌, [], ℕ, List, length, ap, sym, subst, ◌∙◌}
use Rattle.journal_chart.specs.Columns.{has_column}
use Rattle.journal_chart.proofs.Columns.{bare_more, flag_is, length_flags, places_more}
use Rattle.journal_chart.proofs.layout.layout_of.Goals as goal

pub get-requires : goal.get-requires
get-requires c =
    subst (λ (n : ℕ). c.loop-m.m < n)
    (c.len-m-end.ensures
    ∙ sym (length_flags (has_column c.args.entries.now) (length c.args.net.now.machines)
    c.args.flags.now c.requires.flags)) c.loop-m-test.true

pub loop-m-preserved : goal.loop-m-preserved
loop-m-preserved c =
    let entries = c.args.entries.now in
    let m = c.loop-m.m in
    let flag = c.get.result.now in (
      places_more c.args.net.now entries c.args.width m c.loop-m.bare c.loop-m.places
          c.push.new.self c.requires.width c.loop-m.invariant.1 c.loop-m.invariant.0
          (c.in_ok-push.ensures.ok
          ∙ ap (λ (l : List ℕ). c.loop-m.places ++ (length l + c.args.width / 2) ∷ [])
          c.as_slice.ensures),
      bare_more entries c.args.width m flag c.loop-m.bare c.push_bare_if.new.bare
          (flag_is (has_column entries) (length c.args.net.now.machines) m c.args.flags.now flag
          c.requires.flags (subst (λ (n : ℕ). m < n) c.len-m-end.ensures c.loop-m-test.true)
          c.get.ensures)
          c.loop-m.invariant.1 c.in_ok-push_bare_if.ensures,
    )
