use Rattle.std.proofs.Common.{◌≡◌, ◌*◌, ◌<◌, ◌∙◌, ℕ, List, ap, arith, length, slice_get, slice_index, Some, subst, sym}
use Rattle.std.proofs.lemmas.Option.{get_or_from_slice_get}
use Rattle.domains.specs.Tables.{product}
use Rattle.transition_table.specs.declared.machine.Machine.{Machine}
use Rattle.transition_table.proofs.Rows.{machine_sizes}
use Rattle.task_code.specs.declared.instr.Instr.{Instr}
use Rattle.task_code.specs.declared.instr.Instr.TheVariants.{Test, Set, Goto, Halt}
use Rattle.task_machine.specs.Running.{CodeFits}
use Rattle.cost_bound.specs.declared.score.Score.{Score}
use Rattle.cost_bound.specs.inner.Scores.{AreScores, weights_of, nothing, score_of, Weigh}
use Rattle.cost_bound.proofs.FirstScore.{number_below, extreme}
use Rattle.cost_bound.proofs.Weights.{long_weights, weight_few}
use Rattle.cost_bound.proofs.extremes.best.Goals as goal
use Rattle.transition_table.proofs.MachineCounts.{few_snapshots}

weigh : (m : Machine) (c : List Instr) (i : ℕ) (x : Instr) → CodeFits m c → slice_get c i ≡ Some x
    → Weigh (weights_of m.vars) x
weigh m c i (Test var targets) fit is =
    let test = fit.tests i var targets is in
    let few = weight_few m.vars var (machine_sizes m) test.0 in
    let size : slice_index (weights_of m.vars) var * length targets
    ≡ slice_index (weights_of m.vars) var * slice_index m.vars var =
    ap (λ (n : ℕ). slice_index (weights_of m.vars) var * n) test.1 in
    (omega (arith, test.0, long_weights m.vars), omega (arith, few_snapshots m))
weigh m c i (Set result code) fit is = tt
weigh m c i (Goto target) fit is = tt
weigh m c i Halt fit is = tt

pub scores_of-requires : goal.scores_of-requires
scores_of-requires c = λ i x is.
    subst (λ (ws : List ℕ). Weigh ws x) (sym (c.in_ok-weights.ensures))
    (weigh c.args.m.now c.args.code.now i x c.requires.fits is)

pub get-first-requires : goal.get-first-requires
get-first-requires c =
    let some = c.len.ensures.code.some in
    let long = c.in_ok-scores.ensures.long in
    omega arith

pub codes_at-requires-clause-number : goal.codes_at-requires-clause-number
codes_at-requires-clause-number c =
    let are = subst (λ (ws : List ℕ). AreScores c.args.aim c.args.costs.now ws c.args.code.now
    c.in_ok-scores.scores) (c.in_ok-weights.ensures) (c.in_ok-scores.ensures) in
    let first : score_of c.in_ok-scores.scores 0 ≡ c.get-first.result.now =
    get_or_from_slice_get c.in_ok-scores.scores 0 c.get-first.result.now nothing
    c.get-first.ensures in
    subst (λ (r : Score). r.number < product c.args.m.now.vars) first
    (number_below c.args.aim c.args.costs.now c.args.code.now c.args.m.now c.len.ensures.code
    c.requires.fits c.requires.once c.in_ok-scores.scores are c.laws.ensures.ranks_below)

pub returns : goal.returns
returns c =
    let are = subst (λ (ws : List ℕ). AreScores c.args.aim c.args.costs.now ws c.args.code.now
    c.in_ok-scores.scores) (c.in_ok-weights.ensures) (c.in_ok-scores.ensures) in
    let first : c.get-first.result.now ≡ score_of c.in_ok-scores.scores 0 =
    sym (get_or_from_slice_get c.in_ok-scores.scores 0 c.get-first.result.now nothing
    c.get-first.ensures) in
    extreme c.args.aim c.args.costs.now c.args.code.now c.args.m.now c.len.ensures.code
    c.requires.fits c.requires.once c.in_ok-scores.scores are c.laws.ensures.ranks_differ
    record { steps = c.get-first.result.now.cost; snapshot = record { codes = c.in_ok-codes.codes } }
    (ap (λ (r : Score). r.cost) first) c.in_ok-codes.ensures.fits
    (c.in_ok-codes.ensures.rank ∙ ap (λ (r : Score). r.number) first)
