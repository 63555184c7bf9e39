use Rattle.std.proofs.Common.{◌∙◌, ◌+◌, ◌<◌, ◌^◌, ap, arith, codes, drop, sym}
use Rattle.std.specs.Prelude.{unwrap_or}
use Rattle.polis_base.specs.declared.limits.TheConstants.{ENTRIES_MAX}
use Rattle.polis_words.specs.declared.requests.order.GivenOrder.TheVariants.{Mixed}
use Rattle.polis_words.specs.RunOptions.{Said}
use Rattle.polis_words.proofs.AskOptions.{asked_within}
use Rattle.polis_words.proofs.AsksSurvey.{no_survey, one_survey, options_surveyed, too_many}
use Rattle.polis_words.proofs.requests.survey.survey_of.Goals as goal
use Rattle.polis_base.proofs.Bools.{not_both}

pub returns-in-None-clause-nothing : goal.returns-in-None-clause-nothing
returns-in-None-clause-nothing c = λ survey asks.
    c.in-None.ensures.none asks.asks.said (options_surveyed c.args.words.now survey asks)

pub returns-then-not-draws_many-clause-nothing : goal.returns-then-not-draws_many-clause-nothing
returns-then-not-draws_many-clause-nothing c =
    no_survey c.args.words.now c.in-Some.options c.in-Some.ensures.some (λ none.
    let yes = c.draws_many.ensures.1 none in
    let no = c.if-not-draws_many.true in
    not_both c.draws_many.result yes no)

pub returns-then-seed-runs-clause-nothing : goal.returns-then-seed-runs-clause-nothing
returns-then-seed-runs-clause-nothing c =
    let runs = c.in-Some-read_number.runs in
    let is = c.in-Some-read_number.ensures.some in
    let some = is.1 in
    let few = is.2 in
    let high = c.if-seed-runs.true in
    let small : runs < 2 ^ 64 = omega (arith, few) in
    let many : 2 ^ 64 < c.or_else-seed.result + runs = omega (arith, high, some, few) in
    too_many c.args.words.now runs c.or_else-seed.result c.in-Some.options
    (rw is.0 at c.get.ensures) small c.in-Some.ensures.some
    (c.or_else-seed.ensures ∙ ap (λ (s : Said). unwrap_or s.seed 0) c.options.view_is) many

pub invariant_of-result : goal.invariant_of-result
invariant_of-result c =
    let within = asked_within (drop 4 c.args.words.now) c.in-Some.options c.in-Some.ensures.some in
    let is = c.in-Some-read_number.ensures.some in
    let some_runs = is.1 in
    let few_runs = is.2 in
    let low = c.if-seed-runs.false in
    let some = within.0.0 in
    let few = within.0.1 in
    let least = within.1.0 in
    let most = within.1.1 in
    let w = ap (λ (s : Said). unwrap_or s.workers 1) c.options.view_is in
    let l = ap (λ (s : Said). unwrap_or s.limit ENTRIES_MAX) c.options.view_is in
    let workers = c.or_else-then-is_file_word-2.ensures in
    let limit = c.or_else.ensures in (
      some_runs,
      few_runs,
      omega (arith, low, some_runs, few_runs),
      omega (arith, least, l, limit),
      omega (arith, most, l, limit),
      omega (arith, some, w, workers),
      omega (arith, few, w, workers),
    )

pub returns-then-is_file_word-2-clause-one : goal.returns-then-is_file_word-2-clause-one
returns-then-is_file_word-2-clause-one c = λ other asks.
    let same = c.options.view_is in
    let runs = c.in-Some-read_number.runs in
    let is = c.in-Some-read_number.ensures.some in
    let few = is.2 in
    let small : runs < 2 ^ 64 = omega (arith, few) in
    one_survey c.args.words.now (codes "survey") c.get-net.result.now c.get-trace.result.now runs
    c.in-Some.options other c.requires c.get-net.ensures c.get-trace.ensures
    (rw is.0 at c.get.ensures) small c.in-Some.ensures.some asks
    ∙ (λ i. record {
      net = c.get-net.result.now;
      trace = c.get-trace.result.now;
      runs = runs;
      seed = (ap (λ (s : Said). unwrap_or s.seed 0) (sym same) ∙ sym c.or_else-seed.ensures) i;
      order = (ap (λ (s : Said). unwrap_or s.order Mixed) (sym same) ∙ sym c.or_mixed.ensures) i;
      limit =
          (ap (λ (s : Said). unwrap_or s.limit ENTRIES_MAX) (sym same) ∙ sym c.or_else.ensures) i;
      workers =
          (ap (λ (s : Said). unwrap_or s.workers 1) (sym same)
          ∙ sym c.or_else-then-is_file_word-2.ensures) i;
      monitor = ap (λ (s : Said). s.watch) (sym same) i;
    })
