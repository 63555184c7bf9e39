use Rattle.polis_cli.proofs.Headline.{draws_give_headline, runs_give_headline}
use Rattle.commands.proofs.IsRan.{alone_is_scheduled}
use Rattle.polis_cli.proofs.OneRun.{journals_determine_run}
use Rattle.polis_cli.proofs.SavesDetermineRun.{one_run}
use Rattle.polis_cli.proofs.SurveyRuns.{survey_runs_are_drawn}
use Rattle.polis_cli.proofs.TextsDetermine.{texts_determine}
use Rattle.polis_cli.proofs.law.laws.Goals as goal

pub returns-clause-headline : goal.returns-clause-headline
returns-clause-headline c = runs_give_headline

pub returns-clause-drawn : goal.returns-clause-drawn
returns-clause-drawn c = draws_give_headline

pub returns-clause-alone : goal.returns-clause-alone
returns-clause-alone c = alone_is_scheduled

pub returns-clause-determined : goal.returns-clause-determined
returns-clause-determined c = one_run c.laws-2.ensures.one_stamped_journal

pub returns-clause-of_texts : goal.returns-clause-of_texts
returns-clause-of_texts c =
    texts_determine c.laws.ensures.one_schedule c.laws-3.ensures.one c.laws-5.ensures.figures
    c.laws-5.ensures.text c.laws-4.ensures.one c.laws-6.ensures

pub returns-clause-of_journal : goal.returns-clause-of_journal
returns-clause-of_journal c = journals_determine_run c.laws-2.ensures.one_stamped_journal

pub returns-clause-survey_runs : goal.returns-clause-survey_runs
returns-clause-survey_runs c = survey_runs_are_drawn c.laws-3.ensures.one
