use Rattle.std.proofs.Common.{◌∙◌, ap, arith, codes, sym}
use Rattle.std.specs.Prelude.{unwrap_or}
use Rattle.std.proofs.Common.{drop}
use Rattle.polis_base.specs.declared.limits.TheConstants.{ENTRIES_MAX}
use Rattle.polis_words.specs.RunOptions.{Said}
use Rattle.polis_words.proofs.AskOptions.{asked_within}
use Rattle.polis_words.proofs.AsksRun.{no_drawn, one_run, options_asked}
use Rattle.polis_words.proofs.requests.run.run_of.Goals as goal
use Rattle.polis_base.proofs.Bools.{not_both}

pub invariant_of-result : goal.invariant_of-result
invariant_of-result c =
    let within = asked_within (drop 4 c.args.words.now) c.in-Some.options c.in-Some.ensures.some in
    let some = within.0.0 in
    let few = within.0.1 in
    let least = within.1.0 in
    let most = within.1.1 in
    let w = ap (λ (s : Said). unwrap_or s.workers 1) c.options.view_is in
    let l = ap (λ (s : Said). unwrap_or s.limit ENTRIES_MAX) c.options.view_is in
    let workers = c.or_else.ensures in
    let limit = c.or_else-then-is_file_word-3.ensures in (
      omega (arith, some, w, workers),
      omega (arith, few, w, workers),
      omega (arith, least, l, limit),
      omega (arith, most, l, limit),
    )

pub returns-in-None-clause-nothing : goal.returns-in-None-clause-nothing
returns-in-None-clause-nothing c = λ run asks.
    c.in-None.ensures.none asks.said (options_asked c.args.words.now run asks)

pub returns-then-not-draws_nothing-clause-nothing : goal.returns-then-not-draws_nothing-clause-nothing
returns-then-not-draws_nothing-clause-nothing c =
    no_drawn c.args.words.now c.in-Some.options c.in-Some.ensures.some (λ none.
    let yes = c.draws_nothing.ensures.1 none in
    let no = c.if-not-draws_nothing.true in
    not_both c.draws_nothing.result yes no)

pub returns-then-is_file_word-3-clause-one : goal.returns-then-is_file_word-3-clause-one
returns-then-is_file_word-3-clause-one c = λ other asks.
    let same = c.options.view_is in
    one_run c.args.words.now (codes "run") c.get-net.result.now c.get-trace.result.now
    c.get-stem.result.now c.in-Some.options other c.requires c.get-net.ensures c.get-trace.ensures
    c.get-stem.ensures c.in-Some.ensures.some asks
    ∙ (λ i. record {
      net = c.get-net.result.now;
      trace = c.get-trace.result.now;
      stem = c.get-stem.result.now;
      workers =
          (ap (λ (s : Said). unwrap_or s.workers 1) (sym same) ∙ sym c.or_else.ensures) i;
      limit =
          (ap (λ (s : Said). unwrap_or s.limit ENTRIES_MAX) (sym same)
          ∙ sym c.or_else-then-is_file_word-3.ensures) i;
      image = ap (λ (s : Said). s.image) (sym same) i;
    })
