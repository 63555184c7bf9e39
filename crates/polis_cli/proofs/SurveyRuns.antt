-- The runs of a survey are those that `shuffle` saves.
use Rattle.std.proofs.Common.{◌↔◌, ℕ, Bool, List, Option, IsTrue, ap, sym, subst, ◌∙◌, arith}
use Rattle.transition_table.specs.Transitions.{AreDeterministic}
use Rattle.transition_table.specs.declared.network.Network.{Network}
use Rattle.journals.specs.declared.entry.Entry.{Entry}
use Rattle.journals.specs.declared.entry.TraceItem.{TraceItem}
use Rattle.journals.specs.Journals.{IsTrace}
use Rattle.journals.specs.Legality.{Complete}
use Rattle.run_shuffle.specs.Laws.{OneShuffle}
use Rattle.run_shuffle.specs.Shuffles.{IsShuffled}
use Rattle.run_shuffle.specs.declared.order.Order.{Order}
use Rattle.run_survey.specs.Figures.{figures_of}
use Rattle.run_survey.specs.Runs.{AreFiguresOf}
use Rattle.run_survey.specs.Watching.{IsSaid}
use Rattle.run_survey.specs.declared.figures.Figures.{Figures}
use Rattle.polis_words.specs.declared.requests.order.GivenOrder.{GivenOrder}
use Rattle.commands.specs.Shuffle.{order_of}
use Rattle.polis_cli.specs.SurveyRuns.{AreOfJournal, SurveyRunsAreDrawn}
use Rattle.commands.proofs.OneNet.{one_held_net}
use Rattle.polis_cli.proofs.Held.{first_same, one_trace, others_same, same_answer}
use Rattle.polis_base.proofs.Places.{some_at}

-- the figures of the run that is drawn from a seed are those of the journal that is
of_journal : OneShuffle → (net : Network) (monitor : Option Network) (trace : List TraceItem)
    (order : Order) (limit seed : ℕ) (figures : Figures) (journal : List Entry) (complete : Bool)
    → AreDeterministic net → IsTrace net trace
    → AreFiguresOf net monitor trace order limit seed figures
    → IsShuffled net trace seed order limit journal
    → IsTrue complete ↔ Complete net trace journal
    → AreOfJournal net monitor journal complete figures
of_journal law net monitor trace order limit seed figures journal complete sure fits of drawn ends =
    let same = law net trace seed order limit of.journal journal sure fits of.shuffled drawn in
    let whole = same_answer figures.complete complete (Complete net trace journal)
    (subst (λ (j : List Entry). IsTrue figures.complete ↔ Complete net trace j) same of.ends) ends
    in
    record {
      are = of.are
          ∙ ap (λ (j : List Entry). figures_of net j figures.complete figures.watched) same
          ∙ ap (λ (c : Bool). figures_of net journal c figures.watched) whole;
      said = subst (λ (j : List Entry). IsSaid net monitor j figures.watched) same of.said;
    }

pub survey_runs_are_drawn : OneShuffle → SurveyRunsAreDrawn
survey_runs_are_drawn law survey shuffle before now p q k a b texts order limit seed below =
    let net = one_held_net before now survey.net shuffle.net a.net b.net (first_same texts)
    a.holds.holds_net b.holds_net in
    let trace = one_trace before now survey.trace shuffle.trace a.net b.net a.trace b.trace net
    (first_same (others_same texts)) a.holds.holds_trace b.holds_trace in
    let many = a.surveyed.drawn.many in
    let there = some_at a.surveyed.figures k (omega (arith, many, below)) in
    let of = a.surveyed.drawn.each k there.0 there.1 in
    let again = subst (λ (n : Network). AreFiguresOf n a.monitor b.trace (order_of shuffle.order)
    shuffle.limit shuffle.seed there.0) net
    (subst (λ (t : List TraceItem). AreFiguresOf a.net a.monitor t (order_of shuffle.order)
    shuffle.limit shuffle.seed there.0) trace
    (subst (λ (o : GivenOrder). AreFiguresOf a.net a.monitor a.trace (order_of o) shuffle.limit
    shuffle.seed there.0) order
    (subst (λ (l : ℕ). AreFiguresOf a.net a.monitor a.trace (order_of survey.order) l shuffle.seed
    there.0) limit
    (subst (λ (s : ℕ). AreFiguresOf a.net a.monitor a.trace (order_of survey.order) survey.limit s
    there.0) (sym seed) of)))) in
    let fits = subst (λ (n : Network). IsTrace n b.trace) net
    (subst (λ (t : List TraceItem). IsTrace a.net t) trace a.fits) in (
      there.0,
      there.1,
      of_journal law b.net a.monitor b.trace (order_of shuffle.order) shuffle.limit shuffle.seed
          there.0 b.journal b.complete b.holds_net.accepted.1 fits again b.drawn.shuffled
          b.drawn.is.ends,
    )
