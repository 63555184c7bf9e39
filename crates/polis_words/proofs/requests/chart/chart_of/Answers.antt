use Rattle.polis_words.proofs.AsksChart.{chart_asked, files_asked, one_charted, part_asked}
use Rattle.polis_words.proofs.requests.chart.chart_of.Goals as goal

pub returns-in-None-clause-nothing : goal.returns-in-None-clause-nothing
returns-in-None-clause-nothing c = λ chart asks.
    c.in-None.ensures.none chart.from chart.to (part_asked c.args.words.now chart asks)

pub returns-in-None-files_of-clause-nothing : goal.returns-in-None-files_of-clause-nothing
returns-in-None-files_of-clause-nothing c = λ chart asks.
    let at = files_asked c.args.words.now chart asks in
    c.in-None-files_of.ensures.none chart.replay at.net at.trace at.journal asks.files

pub returns-in-Some-files_of-clause-asks : goal.returns-in-Some-files_of-clause-asks
returns-in-Some-files_of-clause-asks c =
    let found = c.in-Some-files_of.ensures in
    chart_asked c.args.words.now (record {
      replay = c.in-Some-files_of.replay;
      from = c.in-Some.part.from;
      to = c.in-Some.part.to;
    }) c.requires found.net found.trace found.journal found.files c.in-Some.ensures.some

pub returns-in-Some-files_of-clause-one : goal.returns-in-Some-files_of-clause-one
returns-in-Some-files_of-clause-one c = λ other asks.
    let found = c.in-Some-files_of.ensures in
    one_charted c.args.words.now other _ asks (chart_asked c.args.words.now (record {
      replay = c.in-Some-files_of.replay;
      from = c.in-Some.part.from;
      to = c.in-Some.part.to;
    }) c.requires found.net found.trace found.journal found.files c.in-Some.ensures.some)
