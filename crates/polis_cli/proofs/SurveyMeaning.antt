-- What `survey` means.
use Rattle.std.proofs.Common.{◌≡◌, inl, inr, ℕ, suc, List, [], ◌∷◌, filter_map, slice_get, Option, Some, None, option_map, is_some, refl, sym, ap, subst, ◌∙◌, IsTrue, Ok, Err, IfOk}
use Rattle.std.specs.Prelude.{Result}
use Rattle.polis_base.specs.declared.NoMemory.{NoMemory}
use Rattle.polis_base.specs.Host.{Files, WhereTold}
use Rattle.polis_base.specs.Lists.{head_of}
use Rattle.transition_table.specs.declared.network.Network.{Network}
use Rattle.journals.specs.declared.entry.TraceItem.{TraceItem}
use Rattle.run_watch.specs.declared.answer.Watched.{Watched}
use Rattle.run_shuffle.specs.declared.order.Order.{Order}
use Rattle.run_survey.specs.Runs.{IsSurveyOf}
use Rattle.run_survey.specs.Surveys.{said_of}
use Rattle.run_survey.specs.Watching.{as_found, complaint_in, ending_by, ending_of, met, those, unfinished_in}
use Rattle.run_survey.specs.declared.ending.Ending.{Ending}
use Rattle.run_survey.specs.declared.ending.Ending.TheVariants as endings
use Rattle.run_survey.specs.declared.figures.Figures.{Figures}
use Rattle.run_survey.specs.declared.told.Survey.{Survey}
use Rattle.polis_words.specs.declared.cause.Cause.{Cause}
use Rattle.polis_words.specs.declared.cause.Failure.{Failure}
use Rattle.polis_words.specs.declared.cause.Failure.TheVariants as failures
use Rattle.polis_words.specs.declared.status.Status.TheVariants.{Refused}
use Rattle.polis_words.specs.Lines.{cause_status}
use Rattle.polis_words.specs.Survey.{SurveyWords}
use Rattle.output_files.specs.declared.product.Product.{Product}
use Rattle.output_files.specs.Ends.{end_status}
use Rattle.input_files.specs.Failures.{is_finding, FilesFail}
use Rattle.input_files.specs.Inputs.{HoldsNet, HoldsTrace}
use Rattle.input_files.proofs.InputsFail.{inputs_refused, inputs_unfound}
use Rattle.polis_base.proofs.WhereTold.{told_both, told_from}
use Rattle.polis_cli.specs.declared.survey_inputs.SurveyInputs.{SurveyInputs}
use Rattle.commands.specs.Monitors.{HoldsMonitor, MonitorFails}
use Rattle.commands.specs.Shuffle.{order_of}
use Rattle.polis_cli.specs.Survey.{AcceptsSurvey, FailsSurvey, HoldsMonitorOf, HoldsSurvey, IsSurveyed, end_surveyed, ends_surveyed, survey_meaning, survey_product}
use Rattle.commands.specs.inner.Lawful.{IsLawful}
use Rattle.commands.specs.Made.{IsMadeProduct}
use Rattle.polis_cli.specs.inner.Survey.{FailsMonitorOf, IsLoadedSurvey, IsSurveyProduct}
use Rattle.commands.proofs.IsMade.{product_made}
use Rattle.commands.proofs.MonitorFails.{monitor_refused, monitor_unfound}
use Rattle.commands.proofs.OneNet.{one_held_net}

-- ---- where a file fails
-- the monitor that is named is held
named_held : (named : Option (List ℕ)) (files : Files) (net : Network) (monitor : Option Network)
    (name : List ℕ) → named ≡ Some name → HoldsMonitorOf named files net monitor
    → (held : Network) × HoldsMonitor files name net held
named_held None files net monitor name is h = cc
named_held (Some other) files net None name is h = absurd h
named_held (Some other) files net (Some monitor) name is h =
    let same : other ≡ name = cc in
    (monitor, subst (λ (n : List ℕ). HoldsMonitor files n net monitor) same h)

survey_refused : (files : Files) (asked : SurveyWords) (name : List ℕ) (cause : Cause)
    → cause_status cause ≡ Refused → FailsSurvey asked files name cause
    → ¬ AcceptsSurvey asked files
survey_refused files asked name cause s (inl h) all =
    inputs_refused files asked.net asked.trace name cause all.0 all.1 s h all.3.holds_net
    all.3.holds_trace
survey_refused files asked name cause s (inr h) all =
    let held = named_held asked.monitor files all.0 all.2 name h.named all.3.holds_monitor in
    monitor_refused files name all.0 held.0 cause s
    (subst (λ (n : Network). MonitorFails files n name cause)
    (one_held_net files files asked.net asked.net h.net all.0 refl h.holds_net all.3.holds_net)
    h.fails)
    held.1

survey_unfound : (files : Files) (asked : SurveyWords) (name : List ℕ) (cause : Cause)
    → IsTrue (is_finding (cause_status cause)) → ¬ FailsSurvey asked files name cause
survey_unfound files asked name cause f (inl h) =
    inputs_unfound files asked.net asked.trace name cause f h
survey_unfound files asked name cause f (inr h) =
    monitor_unfound files name h.net cause f h.fails

pub survey_lawful : (asked : SurveyWords) → IsLawful (survey_meaning asked)
survey_lawful asked = record {
  made_accepts = λ files product m. (m.net, m.trace, m.monitor, m.holds);
  made_finds = λ files product status m found. found;
  refused = λ files name cause h s. survey_refused files asked name cause s h;
  found = λ files name cause h f. absurd (survey_unfound files asked name cause f h);
  found_accepts = λ files status h. absurd h;
  found_ends = λ files status h. absurd h;
  found_once = λ files s t h k. absurd h;
}

-- ---- how it ends
-- of runs of which nothing is said nothing is met
none_met : {Y : Type 0} (look : Option Watched → Option Y) (figures : List Figures)
    → look None ≡ None
    → ((k : ℕ) (one : Figures) → slice_get figures k ≡ Some one → one.watched ≡ None)
    → filter_map look (said_of figures) ≡ []
none_met look [] none all = refl
none_met look (one ∷ figures) none all =
    let first : look one.watched ≡ None = ap look (all 0 one refl) ∙ none in
    let others = none_met look figures none (λ k x at. all (suc k) x at) in
    rw (first, others) refl

unmet : {X Y : Type 0} (look : X → Option Y) (first : ℕ) (xs : List X) → filter_map look xs ≡ []
    → met look first xs ≡ None
unmet {Y = Y} look first xs none =
    ap (λ (ys : List Y). option_map (λ y. (those (λ x. is_some (look x)) first xs, y)) (head_of ys))
    none

-- without a monitor nothing is said of a run
nothing_said : (net : Network) (trace : List TraceItem) (order : Order) (limit seed runs : ℕ)
    (s : Survey) (is : IsSurveyOf net None trace order limit seed runs s) (k : ℕ) (one : Figures)
    → slice_get is.figures k ≡ Some one → one.watched ≡ None
nothing_said net trace order limit seed runs s is k one at = (is.drawn.each k one at).said

-- without a monitor none complains
unwatched_holds : (net : Network) (trace : List TraceItem) (order : Order) (limit seed runs : ℕ)
    (s : Survey) → IsSurveyOf net None trace order limit seed runs s
    → ending_of s ≡ endings.Held
unwatched_holds net trace order limit seed runs s is =
    let nothing = nothing_said net trace order limit seed runs s is in
    let found = is.told.found ∙ ap (option_map as_found)
    (unmet complaint_in seed (said_of is.figures) (none_met complaint_in is.figures refl nothing))
    in
    let unfinished = is.told.unfinished ∙ ap (option_map (λ p. p.0))
    (unmet unfinished_in seed (said_of is.figures) (none_met unfinished_in is.figures refl nothing))
    in
    λ i. ending_by (found i) (unfinished i)

-- each end has its status, by whether a monitor is named
survey_ends : (named : Option (List ℕ)) (monitor : Option Network) (ending : Ending)
    → is_some monitor ≡ is_some named → (monitor ≡ None → ending ≡ endings.Held)
    → IsTrue (ends_surveyed named (end_status (end_surveyed ending)))
survey_ends None None ending same held =
    subst (λ (e : Ending). IsTrue (ends_surveyed None (end_status (end_surveyed e))))
    (sym (held refl)) refl
survey_ends None (Some monitor) ending same held = cc
survey_ends (Some name) monitor endings.Held same held = refl
survey_ends (Some name) monitor endings.Unfinished same held = refl
survey_ends (Some name) monitor endings.Found same held = refl

-- ---- what is made
-- the product of a survey of the runs that are asked for
pub made_product : (asked : SurveyWords) (loaded : SurveyInputs) (told : Survey)
    (result : Result Product NoMemory)
    → IsSurveyed asked loaded.inputs.net loaded.inputs.trace loaded.monitor told
    → IfOk result (λ product. product ≡ survey_product loaded.inputs.net loaded.monitor told)
    → IfOk result (IsSurveyProduct asked loaded)
made_product asked loaded told (Ok product) is made =
    record { survey = told; surveyed = is; made = made }
made_product asked loaded told (Err error) is made = tt

pub survey_made : (o : Option Files) (asked : SurveyWords) (loaded : SurveyInputs)
    (product : Product)
    → WhereTold o (λ files. HoldsSurvey asked files loaded.inputs.net loaded.inputs.trace
    loaded.monitor)
    → IsLoadedSurvey asked loaded → IsSurveyProduct asked loaded product
    → IsMadeProduct (survey_meaning asked) o product
survey_made o asked loaded product held fits p =
    product_made (survey_meaning asked) o product
    (survey_product loaded.inputs.net loaded.monitor p.survey) p.made tt
    (survey_ends asked.monitor loaded.monitor (ending_of p.survey) fits.named
    (λ none. unwatched_holds loaded.inputs.net loaded.inputs.trace (order_of asked.order) asked.limit
    asked.seed asked.runs p.survey
    (subst (λ (m : Option Network). IsSurveyed asked loaded.inputs.net loaded.inputs.trace m p.survey)
    none p.surveyed)))
    (told_from o
    (λ files. HoldsSurvey asked files loaded.inputs.net loaded.inputs.trace loaded.monitor) _
    (λ files h. record {
      net = loaded.inputs.net;
      trace = loaded.inputs.trace;
      monitor = loaded.monitor;
      holds = h;
      fits = fits.trace;
      survey = p.survey;
      surveyed = p.surveyed;
      made = p.made;
    }) held)

-- ---- what was loaded
-- the network, the trace, and the monitor where one is named
pub survey_held : (o : Option Files) (asked : SurveyWords) (net : Network)
    (trace : List TraceItem) (monitor : Option Network)
    → WhereTold o (λ files. HoldsNet files asked.net net × HoldsTrace files asked.trace net trace)
    → WhereTold o (λ files. HoldsMonitorOf asked.monitor files net monitor)
    → WhereTold o (λ files. HoldsSurvey asked files net trace monitor)
survey_held o asked net trace monitor held named =
    told_both o (λ files. HoldsNet files asked.net net × HoldsTrace files asked.trace net trace)
    (λ files. HoldsMonitorOf asked.monitor files net monitor) _
    (λ files h k. record { holds_net = h.0; holds_trace = h.1; holds_monitor = k }) held named

-- the monitor that is named is held under its name
pub monitor_of_held : (o : Option Files) (named : Option (List ℕ)) (net : Network)
    (name : List ℕ) (monitor : Network) → named ≡ Some name
    → WhereTold o (λ files. HoldsMonitor files name net monitor)
    → WhereTold o (λ files. HoldsMonitorOf named files net (Some monitor))
monitor_of_held o named net name monitor is held =
    told_from o (λ files. HoldsMonitor files name net monitor) _
    (λ files h. subst (λ (n : Option (List ℕ)). HoldsMonitorOf n files net (Some monitor)) (sym is) h)
    held

-- the monitor fails, the network and the trace being accepted
pub monitor_of_fails : (o : Option Files) (asked : SurveyWords) (net : Network)
    (trace : List TraceItem) (failure : Failure)
    → WhereTold o (λ files. HoldsNet files asked.net net × HoldsTrace files asked.trace net trace)
    → FilesFail o (FailsMonitorOf asked.monitor net) failure
    → FilesFail o (FailsSurvey asked) failure
monitor_of_fails o asked net trace failures.NoMemory held h = tt
monitor_of_fails o asked net trace (failures.File name cause more) held (h, none) = (
  (
    told_both o (λ files. HoldsNet files asked.net net × HoldsTrace files asked.trace net trace)
        (λ files. FailsMonitorOf asked.monitor net files name.now cause)
        (λ files. FailsSurvey asked files name.now cause)
        (λ files k f. inr (record {
          named = f.0;
          net = net;
          trace = trace;
          holds_net = k.0;
          holds_trace = k.1;
          fails = f.1;
        })) held h.0,
    h.1,
  ),
  none,
)
