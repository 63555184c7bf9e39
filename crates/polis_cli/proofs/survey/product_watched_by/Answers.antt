use Rattle.polis_cli.proofs.SurveyMeaning.{made_product}
use Rattle.polis_cli.proofs.survey.product_watched_by.Goals as goal

pub survey_by-requires-clause-trace : goal.survey_by-requires-clause-trace
survey_by-requires-clause-trace g c κs lives = rw c.new-reactor.ensures c.requires.fits.trace

pub survey_by-requires-clause-watcher : goal.survey_by-requires-clause-watcher
survey_by-requires-clause-watcher g c κs lives = rw c.new-reactor.ensures c.requires.watched.watches

pub returns : goal.returns
returns g c =
    made_product c.args.asked.now c.args.loaded.now c.in_ok-told.told c.product_of.result
    (
    rw (
      c.new-reactor.ensures,
      c.requires.watched.monitor,
      c.order_of.ensures,
      c.order.ensures,
      c.limit.ensures.is,
      c.seed.ensures,
      c.runs.ensures.is,
    ) at c.in_ok-told.ensures.is
    )
    c.product_of.ensures

pub new-reactor-requires : goal.new-reactor-requires
new-reactor-requires g c = c.requires.fits.deterministic

pub product_of-requires : goal.product_of-requires
product_of-requires g c =
    rw (c.new-reactor.ensures, c.requires.watched.monitor) at c.in_ok-told.ensures.shape
