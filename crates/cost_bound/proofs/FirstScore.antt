-- The score of the first instruction is the greatest or the least cost.
use Rattle.std.proofs.Common.{◌≡◌, ℕ, ◌<◌, ◌≤◌, true, List, [], length, replicate, refl, ap, sym, ◌∙◌, arith}
use Rattle.domains.specs.Tables.{fits, product, rank, RanksBelow, RanksDiffer}
use Rattle.domains.proofs.Ranks.{fits_zeros}
use Rattle.transition_table.specs.declared.machine.Machine.{Machine}
use Rattle.transition_table.proofs.Rows.{machine_sizes}
use Rattle.task_code.specs.declared.instr.Instr.{Instr}
use Rattle.task_code.specs.Facts.{IsCode, OnceCode}
use Rattle.task_machine.specs.Running.{CodeFits}
use Rattle.cost_bound.specs.declared.aim.Aim.{Aim}
use Rattle.cost_bound.specs.declared.aim.Aim.TheVariants.{Most, Least}
use Rattle.cost_bound.specs.declared.bound.Bound.{Bound}
use Rattle.cost_bound.specs.declared.costs.Costs.{Costs}
use Rattle.cost_bound.specs.declared.score.Score.{Score}
use Rattle.cost_bound.specs.Bounds.{IsFirst, IsWorst}
use Rattle.cost_bound.specs.Costs.{CostOf}
use Rattle.cost_bound.specs.inner.Scores.{AtLeast, score_of, weights_of, AreScores, IsExtreme}
use Rattle.cost_bound.proofs.WeightedSums.{dot, dot_weights, dot_zeros}
use Rattle.cost_bound.proofs.SnapshotsOfScores.{attained, bounded}
use Rattle.polis_base.proofs.Places.{index_zeros}

-- what is the worst of one measure is that of an equal one
pub worst_same : (m : Machine) (f g : List ℕ → ℕ) (b : Bound) → ((s : List ℕ) → f s ≡ g s)
    → IsWorst m f b → IsWorst m g b
worst_same m f g b same worst = record {
  first = record {
    fit = worst.first.fit;
    holds = sym (same b.snapshot.codes) ∙ worst.first.holds;
    least = λ s fs e. worst.first.least s fs (same s ∙ e);
  };
  most = λ s fs. let e = same s in let le = worst.most s fs in omega arith;
}

-- what is first among those that take the best is the best
made : (aim : Aim) (m : Machine) (takes : List ℕ → ℕ) (b : Bound) → IsFirst m takes b
    → ((s : List ℕ) → fits m.vars s ≡ true
    → AtLeast aim b.steps (rank m.vars b.snapshot.codes) (takes s) (rank m.vars s))
    → IsExtreme aim m takes b
made Most m takes b first least = record { first = first; most = λ s fs. (least s fs).0 }
made Least m takes b first least = record { first = first; least = λ s fs. (least s fs).0 }

first_of_equal : (aim : Aim) (a an b bn : ℕ) → AtLeast aim a an b bn → b ≡ a → an ≤ bn
first_of_equal Most a an b bn (p, f) e = f (sym e)
first_of_equal Least a an b bn (p, f) e = f (sym e)

module _ (aim : Aim) (costs : Costs) (c : List Instr) (m : Machine) (ok : IsCode c)
    (fit : CodeFits m c) (once : OnceCode c) where
  -- some codes take the score of the first instruction
  pub taking : (ws : List ℕ) (scores : List Score) → AreScores aim costs ws c scores
      → (t : List ℕ) × (fits m.vars t ≡ true) × (CostOf costs c t ≡ (score_of scores 0).cost)
      × (dot ws t ≡ (score_of scores 0).number)
  taking ws scores are =
      let got = attained aim costs ws c scores m ok fit are (length c) []
      (replicate (length m.vars) 0) 0 (omega arith) ok.some once
      (fits_zeros m.vars (machine_sizes m)) (λ v out. index_zeros (length m.vars) v) in (
        got.codes,
        got.fit_vars,
        got.cost_is,
        got.number_is ∙ omega (arith, dot_zeros ws (length m.vars)),
      )

  -- none take a better one
  pub taken_by_none : (ws : List ℕ) (scores : List Score) → AreScores aim costs ws c scores
      → (s : List ℕ) → fits m.vars s ≡ true
      → AtLeast aim (score_of scores 0).cost (score_of scores 0).number (CostOf costs c s)
      (dot ws s)
  taken_by_none ws scores are s fs =
      bounded aim costs ws c scores m ok fit are (length c) [] s s 0 (omega arith) ok.some once fs
      refl (λ v out. refl)

  pub number_below : (scores : List Score) → AreScores aim costs (weights_of m.vars) c scores
      → RanksBelow → (score_of scores 0).number < product m.vars
  number_below scores are ranks_below =
      let t = taking (weights_of m.vars) scores are in
      omega (arith, t.3, dot_weights m.vars t.0, ranks_below m.vars t.0 t.1)

  pub extreme : (scores : List Score) → AreScores aim costs (weights_of m.vars) c scores
      → RanksDiffer → (b : Bound) → b.steps ≡ (score_of scores 0).cost
      → fits m.vars b.snapshot.codes ≡ true
      → rank m.vars b.snapshot.codes ≡ (score_of scores 0).number
      → IsExtreme aim m (CostOf costs c) b
  extreme scores are ranks_differ b steps fs number =
      let t = taking (weights_of m.vars) scores are in
      let same : b.snapshot.codes ≡ t.0 =
      ranks_differ m.vars b.snapshot.codes t.0 fs t.1
      (number ∙ sym t.3 ∙ dot_weights m.vars t.0) in
      let least : (s : List ℕ) → fits m.vars s ≡ true
      → AtLeast aim b.steps (rank m.vars b.snapshot.codes) (CostOf costs c s) (rank m.vars s) =
      λ s within. with_equal b.steps (score_of scores 0).cost (rank m.vars b.snapshot.codes)
      (score_of scores 0).number (CostOf costs c s) (rank m.vars s)
      (dot (weights_of m.vars) s) steps number (sym (dot_weights m.vars s))
      (taken_by_none (weights_of m.vars) scores are s within) in
      made aim m (CostOf costs c) b
      record {
        fit = fs;
        holds = ap (CostOf costs c) same ∙ t.2 ∙ sym steps;
        least = λ s within e. first_of_equal aim b.steps (rank m.vars b.snapshot.codes)
            (CostOf costs c s) (rank m.vars s) (least s within) e;
      }
      least
    where
      with_equal : (a b an bn e en fn : ℕ) → a ≡ b → an ≡ bn → en ≡ fn
          → AtLeast aim b bn e fn → AtLeast aim a an e en
      with_equal a b an bn e en fn p q u h = rw (p, q, u) h
