use Rattle.std.proofs.Common.{◌≡◌, ℕ, ◌+◌, List, sum_by, take, sym, ap, subst, ◌∙◌, arith}
use Rattle.std.proofs.lemmas.List.{take_all}
use Rattle.std.proofs.lemmas.List.Sums.{fold_more, sum_by_more}
use Rattle.run_survey.specs.declared.told.Kind.{Kind}
use Rattle.run_survey.specs.Kinds.{most_kinds}
use Rattle.run_survey.specs.inner.Merging.{AreTold, all_merged, count_of, merged}
use Rattle.run_survey.proofs.kinds.join_kinds.Goals as goal

-- one kind more is counted
counted : (start before now one sum more : ℕ) → now ≡ before + one → before ≡ start + sum
    → more ≡ sum + one → now ≡ start + more
counted start before now one sum more p q r = omega arith

pub loop-kind-preserved : goal.loop-kind-preserved
loop-kind-preserved c =
    let next = c.args.next.now in
    let i = c.loop-kind.kind-index in
    let kind = c.kind-item.result in
    let low = c.loop-kind-test.true in
    record {
      room =
          counted _ _ _ kind.count _ _ c.in_ok-join_kind.ensures.room c.loop-kind.invariant.room
          (sum_by_more count_of next i kind low
          ∙ ap (λ (k : Kind). sum_by count_of (take i next) + k.count) (sym c.kind-item.is));
      told = λ all was.
          subst
          (λ (kinds : List Kind).
          AreTold most_kinds kinds c.join_kind.new.kinds.items c.join_kind.new.others)
          (ap (merged (all_merged all (take i next))) c.kind-item.is
          ∙ sym (fold_more merged all next i kind low))
          (c.in_ok-join_kind.ensures.told (all_merged all (take i next))
          (c.loop-kind.invariant.told all was));
    }

pub returns : goal.returns
returns c = λ all was.
    subst
    (λ (kinds : List Kind).
    AreTold most_kinds (all_merged all kinds) c.loop-kind.kinds.items c.loop-kind.others)
    (take_all c.loop-kind.kind-index c.args.next.now c.loop-kind-test.false)
    (c.loop-kind.invariant.told all was)
