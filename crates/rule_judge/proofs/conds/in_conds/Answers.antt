use Rattle.std.proofs.Common.{◌≡◌, ◌∙◌, ap}
use Rattle.net_names.specs.Places.{sooner, least_place}
use Rattle.rule_judge.specs.declared.conds.CondFaults.{CondFaults}
use Rattle.rule_judge.specs.Rules.{unknown, unsuited, wrong_values}
use Rattle.rule_judge.proofs.LeastPlace.{found_more, found_none}
use Rattle.rule_judge.proofs.conds.in_conds.Goals as goal
use Rattle.rule_judge.proofs.conds.in_conds.Goals.{then-not-is_kept, else-not-is_kept}

pub loop-cond-preserved : goal.loop-cond-preserved
loop-cond-preserved c =
    let net = c.args.names.now.scope.now.raw.now in
    let m = c.args.names.now.machine.now in
    let cond = c.cond-item.result in
    let found = c.loop-cond.found in
    let next = c.if-not-is_kept.found in
    let kept = c.is_kept.ensures in
    let first : next.unknown ≡ sooner found.unknown (least_place (unknown m cond)) =
    elim c.if-not-is_kept.branch [
      | then-not-is_kept w ↦ ap (λ (f : CondFaults). f.unknown) w.found-is
          ∙ w.in_cond-found.ensures.unknown
      | else-not-is_kept w ↦ ap (λ (f : CondFaults). f.unknown) w.found-is
          ∙ found_none found.unknown _ (kept.unknown w.if-not-is_kept.false)
    ] in
    let second : next.unsuited ≡ sooner found.unsuited (least_place (unsuited net m cond)) =
    elim c.if-not-is_kept.branch [
      | then-not-is_kept w ↦ ap (λ (f : CondFaults). f.unsuited) w.found-is
          ∙ w.in_cond-found.ensures.unsuited
      | else-not-is_kept w ↦ ap (λ (f : CondFaults). f.unsuited) w.found-is
          ∙ found_none found.unsuited _ (kept.unsuited w.if-not-is_kept.false)
    ] in
    let third : next.valueless ≡ sooner found.valueless (least_place (wrong_values net m cond)) =
    elim c.if-not-is_kept.branch [
      | then-not-is_kept w ↦ ap (λ (f : CondFaults). f.valueless) w.found-is
          ∙ w.in_cond-found.ensures.valueless
      | else-not-is_kept w ↦ ap (λ (f : CondFaults). f.valueless) w.found-is
          ∙ found_none found.valueless _ (kept.valueless w.if-not-is_kept.false)
    ] in (
      found_more (unknown m) c.args.conds.now c.loop-cond.cond-index cond found.unknown
          next.unknown _ c.loop-cond-test.true c.cond-item.is first c.loop-cond.invariant.0,
      found_more (unsuited net m) c.args.conds.now c.loop-cond.cond-index cond found.unsuited
          next.unsuited _ c.loop-cond-test.true c.cond-item.is second c.loop-cond.invariant.1,
      found_more (wrong_values net m) c.args.conds.now c.loop-cond.cond-index cond found.valueless
          next.valueless _ c.loop-cond-test.true c.cond-item.is third c.loop-cond.invariant.2,
    )
