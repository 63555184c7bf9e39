use Rattle.std.proofs.Common.{ap, arith, drop}
use Rattle.std.specs.Prelude.{unwrap_or}
use Rattle.polis_base.specs.declared.limits.TheConstants.{ENTRIES_MAX}
use Rattle.polis_words.specs.RunOptions.{Said}
use Rattle.polis_words.proofs.AskOptions.{asked_within}
use Rattle.polis_words.proofs.AsksShuffle.{no_settings}
use Rattle.polis_words.proofs.requests.shuffle.settings_of.Goals as goal
use Rattle.polis_base.proofs.Bools.{not_both}

pub returns-in-None-clause-none : goal.returns-in-None-clause-none
returns-in-None-clause-none c = λ order limit asks. c.in-None.ensures.none asks.said asks.asks

pub returns-then-not-draws_one-clause-none : goal.returns-then-not-draws_one-clause-none
returns-then-not-draws_one-clause-none c =
    no_settings (drop 5 c.args.words.now) c.in-Some.options c.in-Some.ensures.some (λ none.
    let yes = c.draws_one.ensures.1 none in
    let no = c.if-not-draws_one.true in
    not_both c.draws_one.result yes no)

pub returns-clause-few : goal.returns-clause-few
returns-clause-few c =
    let within = asked_within (drop 5 c.args.words.now) c.in-Some.options c.in-Some.ensures.some in
    let least = within.1.0 in
    let most = within.1.1 in
    let l = ap (λ (s : Said). unwrap_or s.limit ENTRIES_MAX) c.options.view_is in
    let limit = c.or_else.ensures in
    (omega (arith, least, l, limit), omega (arith, most, l, limit))
