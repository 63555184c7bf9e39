-- What is drawn of the same texts is one product.
use Rattle.std.proofs.Common.{◌≡◌, ◌↔◌, ℕ, List, [], ◌∷◌, Option, Some, None, IfSome, IsTrue, ap, sym, subst, ◌∙◌}
use Rattle.std.specs.Prelude.{option_to_list}
use Rattle.polis_base.specs.Host.{Files}
use Rattle.transition_table.specs.Transitions.{AreDeterministic}
use Rattle.transition_table.specs.declared.network.Network.{Network}
use Rattle.journals.specs.declared.entry.Entry.{Entry}
use Rattle.journals.specs.declared.entry.TraceItem.{TraceItem}
use Rattle.journals.specs.Legality.{Complete}
use Rattle.run_shuffle.specs.Laws.{OneShuffle}
use Rattle.run_shuffle.specs.Shuffles.{IsShuffled}
use Rattle.run_shuffle.specs.declared.order.Order.{Order}
use Rattle.run_watch.specs.Monitors.{IsMonitor}
use Rattle.run_survey.specs.Laws.{OneFigures, OneText}
use Rattle.run_survey.specs.Runs.{IsSurveyOf}
use Rattle.run_survey.specs.Surveys.{said_of}
use Rattle.run_survey.specs.Watching.{ending_by, ending_of, found_runs, unfinished_runs}
use Rattle.run_survey.specs.declared.figures.Figures.{Figures}
use Rattle.run_survey.specs.declared.told.Survey.{Survey}
use Rattle.polis_words.specs.declared.requests.Request.TheVariants as requests
use Rattle.polis_words.specs.declared.requests.order.GivenOrder.{GivenOrder}
use Rattle.polis_words.specs.Shuffle.{ShuffleWords}
use Rattle.output_files.specs.Products.{shows_and_ends}
use Rattle.commands.specs.Shuffle.{order_of, shuffle_product}
use Rattle.polis_cli.specs.OneProduct.{ProductsOfTexts, drawn_settings, no_stem, survey_settings}
use Rattle.polis_cli.specs.Survey.{HoldsMonitorOf, end_surveyed, survey_product}
use Rattle.commands.proofs.OneNet.{one_held_net}
use Rattle.polis_cli.proofs.Held.{first_same, one_monitor, one_trace, others_same, same_answer}
use Rattle.polis_cli.proofs.ReadTraces.{trace_fits}

-- ---- shuffles
-- the same command line, with nothing for its stem
bare : ShuffleWords → ShuffleWords
bare asked = record {
  net = asked.net;
  trace = asked.trace;
  stem = [];
  seed = asked.seed;
  order = asked.order;
  limit = asked.limit;
}

pub shuffle_one : OneShuffle → ProductsOfTexts requests.Shuffle (λ w. w.net ∷ w.trace ∷ [])
    drawn_settings (λ w. w.stem)
unfolding bare
shuffle_one law one two before now p q texts says a b =
    let net = one_held_net before now one.net two.net a.net b.net (first_same texts) a.holds_net
    b.holds_net in
    let trace = one_trace before now one.trace two.trace a.net b.net a.trace b.trace net
    (first_same (others_same texts)) a.holds_trace b.holds_trace in
    let again = subst (λ (n : Network). IsShuffled n a.trace one.seed (order_of one.order) one.limit
    b.journal) (sym net)
    (subst (λ (t : List TraceItem). IsShuffled b.net t one.seed (order_of one.order) one.limit
    b.journal) (sym trace)
    (subst (λ (s : ℕ × GivenOrder × ℕ). IsShuffled b.net b.trace s.0 (order_of s.1) s.2 b.journal)
    (sym says) b.drawn.shuffled)) in
    let journal = law a.net a.trace one.seed (order_of one.order) one.limit a.journal b.journal
    a.holds_net.accepted.1 (trace_fits a.net a.holds_trace.text a.trace a.holds_trace.read)
    a.drawn.shuffled again in
    let complete = same_answer a.complete b.complete (Complete b.net b.trace b.journal)
    (subst (λ (n : Network). IsTrue a.complete ↔ Complete n b.trace b.journal) net
    (subst (λ (t : List TraceItem). IsTrue a.complete ↔ Complete a.net t b.journal) trace
    (subst (λ (j : List Entry). IsTrue a.complete ↔ Complete a.net a.trace j) journal
    a.drawn.is.ends))) b.drawn.is.ends in (
      shuffle_product (bare one) a.net a.journal a.complete,
      a.made,
      b.made ∙ ap (shuffle_product two b.net b.journal) (sym complete)
          ∙ ap (λ (j : List Entry). shuffle_product two b.net j a.complete) (sym journal)
          ∙ ap (λ (n : Network). shuffle_product two n a.journal a.complete) (sym net),
    )

-- ---- surveys
-- a monitor that is held is deterministic, and one of the network
monitor_fits : (named : Option (List ℕ)) (files : Files) (net : Network) (m : Option Network)
    → HoldsMonitorOf named files net m → IfSome m (λ w. AreDeterministic w × IsMonitor net w)
monitor_fits named files net None held = tt
monitor_fits None files net (Some w) held = absurd held
monitor_fits (Some name) files net (Some w) held = (held.holds.accepted.1, held.is_monitor)

-- two surveys with the same figures end in one way
one_end : (net : Network) (monitor : Option Network) (trace : List TraceItem) (order : Order)
    (limit seed runs : ℕ) (a b : Survey) (p : IsSurveyOf net monitor trace order limit seed runs a)
    (q : IsSurveyOf net monitor trace order limit seed runs b) → p.figures ≡ q.figures
    → ending_of a ≡ ending_of b
one_end net monitor trace order limit seed runs a b p q same =
    let found = p.told.found
    ∙ ap (λ (fs : List Figures). found_runs seed (said_of fs)) same ∙ sym q.told.found in
    let unfinished = p.told.unfinished
    ∙ ap (λ (fs : List Figures). unfinished_runs seed (said_of fs)) same
    ∙ sym q.told.unfinished in
    λ i. ending_by (found i) (unfinished i)

pub survey_one : OneFigures → OneText → ProductsOfTexts requests.Survey
    (λ w. w.net ∷ w.trace ∷ option_to_list w.monitor) survey_settings no_stem
survey_one figures text one two before now p q texts says a b =
    let net = one_held_net before now one.net two.net a.net b.net (first_same texts)
    a.holds.holds_net b.holds.holds_net in
    let trace = one_trace before now one.trace two.trace a.net b.net a.trace b.trace net
    (first_same (others_same texts)) a.holds.holds_trace b.holds.holds_trace in
    let monitor = one_monitor before now one.monitor two.monitor a.net b.net a.monitor b.monitor
    (others_same (others_same texts)) a.holds.holds_monitor b.holds.holds_monitor in
    let order = order_of one.order in
    let again : IsSurveyOf a.net a.monitor a.trace order one.limit one.seed one.runs b.survey =
    subst (λ (n : Network). IsSurveyOf n a.monitor a.trace order one.limit one.seed one.runs
    b.survey) (sym net)
    (subst (λ (m : Option Network). IsSurveyOf b.net m a.trace order one.limit one.seed one.runs
    b.survey) (sym monitor)
    (subst (λ (t : List TraceItem). IsSurveyOf b.net b.monitor t order one.limit one.seed one.runs
    b.survey) (sym trace)
    (subst (λ (s : ℕ × ℕ × GivenOrder × ℕ). IsSurveyOf b.net b.monitor b.trace (order_of s.2) s.3
    s.1 s.0 b.survey) (sym says) b.surveyed))) in
    let fit = monitor_fits one.monitor before a.net a.monitor a.holds.holds_monitor in
    let sure = a.holds.holds_net.accepted.1 in
    let lines = text a.net a.monitor a.trace order one.limit one.seed one.runs a.survey b.survey
    sure fit a.fits a.surveyed again in
    let same = figures a.net a.monitor a.trace order one.limit one.seed one.runs
    a.surveyed.figures again.figures sure fit a.fits a.surveyed.drawn again.drawn in
    let ending = one_end a.net a.monitor a.trace order one.limit one.seed one.runs a.survey
    b.survey a.surveyed again same in (
      survey_product a.net a.monitor a.survey,
      a.made,
      b.made ∙ sym (λ i. survey_product (net i) (monitor i) b.survey)
          ∙ sym (λ i. shows_and_ends (lines i) (end_surveyed (ending i))),
    )
