-- What each command saves and shows, but for runs by several workers, is a function of the texts that it is made of.
use Rattle.journals.specs.Laws.{OneSchedule}
use Rattle.run_shuffle.specs.Laws.{OneShuffle}
use Rattle.run_survey.specs.Laws.{OneFigures, OneText}
use Rattle.run_watch.specs.Laws.{OneAnswer}
use Rattle.polis_cli.specs.OneProduct.{TextsDetermine}
use Rattle.task_image.specs.Laws.{ImageLaws}
use Rattle.polis_cli.proofs.OneAlone.{alone_one, demo_one}
use Rattle.polis_cli.proofs.OneDrawn.{shuffle_one, survey_one}
use Rattle.polis_cli.proofs.OneJudged.{chart_one, explain_one, migrate_one, on_journal_one, replay_one, watch_one, wave_one}
use Rattle.polis_cli.proofs.OneProduct.{bound_one, equiv_one, from_net_one, on_net_one}
use Rattle.polis_cli.proofs.TwoCalls.{of_texts}

pub texts_determine : OneSchedule → OneShuffle → OneFigures → OneText → OneAnswer → ImageLaws
    → TextsDetermine
texts_determine schedule shuffle figures text answer images = record {
  on_net = λ kind. of_texts _ _ _ _ (on_net_one kind);
  from_net = λ kind. of_texts _ _ _ _ (from_net_one kind);
  bound = of_texts _ _ _ _ bound_one;
  equiv = of_texts _ _ _ _ equiv_one;
  shuffle = of_texts _ _ _ _ (shuffle_one shuffle);
  survey = of_texts _ _ _ _ (survey_one figures text);
  on_journal = λ kind. of_texts _ _ _ _ (on_journal_one kind);
  wave = of_texts _ _ _ _ wave_one;
  chart = of_texts _ _ _ _ chart_one;
  watch = of_texts _ _ _ _ (watch_one answer);
  replay = of_texts _ _ _ _ replay_one;
  migrate = of_texts _ _ _ _ migrate_one;
  explain = of_texts _ _ _ _ explain_one;
  demo = of_texts _ _ _ _ (demo_one schedule);
  run = of_texts _ _ _ _ (alone_one schedule images);
}
