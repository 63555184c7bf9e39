-- A deterministic network has one survey of each range of seeds.
use Rattle.std.proofs.Common.{◌≡◌, ◌↔◌, ℕ, ◌+◌, ◌<◌, Bool, true, false, IsTrue, List, [], ◌++◌, map, flat_map, length, get_or, Option, Some, None, IfSome, codes, decimal, refl, sym, ap, subst, ◌∙◌, arith}
use Rattle.std.specs.List.{zip}
use Rattle.std.proofs.lemmas.List.{length-map, same_lists}
use Rattle.std.proofs.lemmas.Option.{slice_get-get_or}
use Rattle.transition_table.specs.Transitions.{AreDeterministic}
use Rattle.transition_table.specs.declared.network.Network.{Network}
use Rattle.journals.specs.Journals.{IsTrace}
use Rattle.journals.specs.Legality.{Complete}
use Rattle.journals.specs.declared.entry.Entry.{Entry}
use Rattle.journals.specs.declared.entry.TraceItem.{TraceItem}
use Rattle.event_accounts.specs.InputLines.{input_lines}
use Rattle.run_shuffle.specs.Laws.{OneShuffle, ShuffledIsLegal}
use Rattle.run_shuffle.specs.Shuffles.{IsShuffled}
use Rattle.run_shuffle.specs.declared.order.Order.{Order}
use Rattle.run_watch.specs.Laws.{OneAnswer}
use Rattle.run_watch.specs.Monitors.{IsMonitor}
use Rattle.run_watch.specs.declared.answer.Watched.{Watched}
use Rattle.run_survey.specs.declared.figures.Figures.{Figures}
use Rattle.run_survey.specs.declared.told.FoundRuns.{FoundRuns}
use Rattle.run_survey.specs.declared.told.Kind.{Kind}
use Rattle.run_survey.specs.declared.told.Others.{Others}
use Rattle.run_survey.specs.declared.told.Spread.{Spread}
use Rattle.run_survey.specs.declared.told.Survey.{Survey}
use Rattle.run_survey.specs.Figures.{figures_of}
use Rattle.run_survey.specs.Laws.{OneFigures, OneText}
use Rattle.run_survey.specs.Runs.{AreFiguresOf}
use Rattle.run_survey.specs.Spreads.{AreSpreads}
use Rattle.run_survey.specs.SurveyLines.{jammed_line, kind_line, kinds_line, monitor_line, named_line, never_lines, others_line, survey_lines}
use Rattle.run_survey.specs.Surveys.{IsSurvey}
use Rattle.run_survey.specs.Watching.{IsSaid}
use Rattle.polis_base.specs.Lines.{line}

-- the monitor is deterministic, if one is given
abbrev pub IsSure : Network → Option Network → Type 0
IsSure net monitor = IfSome monitor (λ m. AreDeterministic m × IsMonitor net m)

-- of a drawn run one thing alone is said
abbrev pub OneSaid : Type 0
OneSaid =
    (net : Network) (monitor : Option Network) (trace : List TraceItem) (order : Order)
    (limit seed : ℕ) (journal : List Entry) (a b : Option Watched)
    → IsSure net monitor
    → IsTrace net trace
    → IsShuffled net trace seed order limit journal
    → IsSaid net monitor journal a
    → IsSaid net monitor journal b
    → a ≡ b

pub one_said : ShuffledIsLegal → OneAnswer → OneSaid
one_said legal answer net None trace order limit seed journal a b sure trace_fits drawn x y =
    x ∙ sym y
one_said legal answer net (Some m) trace order limit seed journal None b sure trace_fits drawn
    x y = absurd x
one_said legal answer net (Some m) trace order limit seed journal (Some a) None sure
    trace_fits drawn x y = absurd y
one_said legal answer net (Some m) trace order limit seed journal (Some a) (Some b) sure
    trace_fits drawn x y =
    ap Some
    (answer net m journal a b sure.0 sure.1
    (legal net trace seed order limit journal trace_fits drawn).0 x.0 y.0)

same_flag : (a b : Bool) (P : Type 0) → (IsTrue a ↔ P) → (IsTrue b ↔ P) → a ≡ b
same_flag true b P one other = sym (other.1 (one.0 refl))
same_flag false true P one other = one.1 (other.0 refl)
same_flag false false P one other = refl

one_run : OneShuffle → OneSaid → (net : Network) (monitor : Option Network)
    (trace : List TraceItem) (order : Order) (limit seed : ℕ) (f g : Figures)
    → AreDeterministic net → IsSure net monitor → IsTrace net trace
    → AreFiguresOf net monitor trace order limit seed f → AreFiguresOf net monitor trace order limit seed g → f ≡ g
one_run law says net monitor trace order limit seed f g one_outcome sure fits a b =
    let same = law net trace seed order limit a.journal b.journal one_outcome fits a.shuffled
    b.shuffled in
    let flag = same_flag f.complete g.complete (Complete net trace b.journal)
    (subst (λ (j : List Entry). IsTrue f.complete ↔ Complete net trace j) same a.ends) b.ends in
    let answer = says net monitor trace order limit seed b.journal f.watched g.watched sure fits
    b.shuffled
    (subst (λ (j : List Entry). IsSaid net monitor j f.watched) same a.said) b.said in
    a.are
    ∙ ap (λ (j : List Entry). figures_of net j f.complete f.watched) same
    ∙ ap (λ (c : Bool). figures_of net b.journal c f.watched) flag
    ∙ ap (figures_of net b.journal g.complete) answer
    ∙ sym b.are

pub one_figures : OneShuffle → OneSaid → OneFigures
one_figures law says net monitor trace order limit seed runs xs ys one_outcome sure fits a b =
    same_lists xs ys (a.many ∙ sym b.many) (λ k d low.
    let size = a.many ∙ sym b.many in
    one_run law says net monitor trace order limit (seed + k) (get_or xs k d) (get_or ys k d)
    one_outcome sure fits
    (a.each k (get_or xs k d) (slice_get-get_or xs k d low))
    (b.each k (get_or ys k d) (slice_get-get_or ys k d (omega arith))))

-- ---- what is told of figures

same_spreads : (first : ℕ) (lists : List (List ℕ)) (a b : List Spread) → 0 < length lists
    → AreSpreads first lists a → AreSpreads first lists b → a ≡ b
same_spreads first lists a b some one other =
    let size : length a ≡ length b = sym (one.long 0 [] some) ∙ other.long 0 [] some in
    same_lists a b size (λ k d low.
    one.each k (get_or a k d) (slice_get-get_or a k d low)
    ∙ sym (other.each k (get_or b k d) (slice_get-get_or b k d (omega arith))))

-- the text of a survey by its fields
abbrev text_of : Network → Option Network → ℕ → ℕ → List Kind → Option Others → List Spread
    → List Spread → List Spread → List Spread → Option FoundRuns → Option Others → List ℕ
text_of net monitor runs complete kinds others lost unused jammed taken found unfinished =
    line (codes "runs " ++ decimal runs ++ codes " complete " ++ decimal complete)
    ++ kinds_line kinds ++ flat_map kind_line kinds ++ others_line others
    ++ (input_lines (named_line (codes "lost")) net lost
    ++ input_lines (named_line (codes "unused")) net unused
    ++ flat_map jammed_line (zip net.machines jammed) ++ never_lines net.machines taken)
    ++ monitor_line monitor found unfinished

pub same_text : (net : Network) (monitor : Option Network) (s : Survey) {runs complete : ℕ} {kinds : List Kind}
    {others : Option Others} {lost unused jammed taken : List Spread} {found : Option FoundRuns}
    {unfinished : Option Others} → s.runs ≡ runs
    → s.complete ≡ complete → s.kinds.items ≡ kinds → s.others ≡ others → s.lost ≡ lost
    → s.unused ≡ unused → s.jammed ≡ jammed → s.taken ≡ taken → s.found ≡ found
    → s.unfinished ≡ unfinished
    → survey_lines net monitor s
    ≡ text_of net monitor runs complete kinds others lost unused jammed taken found unfinished
same_text net monitor s a b c d e f g h j k =
    λ i. text_of net monitor (a i) (b i) (c i) (d i) (e i) (f i) (g i) (h i) (j i) (k i)

one_told : (net : Network) (monitor : Option Network) (first : ℕ) (figures : List Figures) (s t : Survey)
    → IsSurvey first figures s → IsSurvey first figures t
    → survey_lines net monitor s ≡ survey_lines net monitor t
one_told net monitor first figures s t a b =
    same_text net monitor s (a.runs ∙ sym b.runs) (a.complete ∙ sym b.complete) (a.kinds ∙ sym b.kinds)
    (a.others ∙ sym b.others) (same (λ (f : Figures). f.lost) s.lost t.lost a.lost b.lost)
    (same (λ (f : Figures). f.unused) s.unused t.unused a.unused b.unused)
    (same (λ (f : Figures). f.jammed) s.jammed t.jammed a.jammed b.jammed)
    (same (λ (f : Figures). f.taken) s.taken t.taken a.taken b.taken) (a.found ∙ sym b.found)
    (a.unfinished ∙ sym b.unfinished)
  where
    same : (field : Figures → List ℕ) (x y : List Spread)
        → AreSpreads first (map field figures) x → AreSpreads first (map field figures) y → x ≡ y
    same field x y one other =
        let some = a.some in
        let size = length-map figures field in
        same_spreads first (map field figures) x y (omega arith) one other

pub one_text : OneShuffle → OneSaid → OneText
one_text law says net monitor trace order limit seed runs s t one_outcome sure fits a b =
    let same = one_figures law says net monitor trace order limit seed runs a.figures b.figures
    one_outcome sure fits a.drawn b.drawn in
    one_told net monitor seed b.figures s t
    (subst (λ (l : List Figures). IsSurvey seed l s) same a.told) b.told
