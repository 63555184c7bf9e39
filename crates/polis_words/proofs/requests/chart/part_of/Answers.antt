use Rattle.std.proofs.Common.{drop}
use Rattle.polis_words.proofs.AsksChart.{no_part}
use Rattle.polis_words.proofs.requests.chart.part_of.Goals as goal
use Rattle.polis_base.proofs.Bools.{not_both}

pub returns-in-None-clause-none : goal.returns-in-None-clause-none
returns-in-None-clause-none c = λ from to asks. c.in-None.ensures.none asks.said asks.asks

pub returns-then-not-shows_part-clause-none : goal.returns-then-not-shows_part-clause-none
returns-then-not-shows_part-clause-none c =
    no_part (drop 4 c.args.words.now) c.in-Some.options c.in-Some.ensures.some (λ none.
    let yes = c.shows_part.ensures.1 none in
    let no = c.if-not-shows_part.true in
    not_both c.shows_part.result yes no)
