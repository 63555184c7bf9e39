-- Laws of what monitors say.
use Rattle.std.proofs.Common.{◌≡◌, ℕ, List, [], ◌∷◌, Some, refl, sym, ap, ◌∙◌, subst}
use Rattle.std.proofs.lemmas.Option.{none-some, some_pair_parts}
use Rattle.polis_base.specs.declared.limits.TheConstants.{ENTRIES_MAX}
use Rattle.polis_base.specs.Lists.{head_of}
use Rattle.transition_table.specs.declared.network.Network.{Network}
use Rattle.journals.specs.declared.entry.Entry.{Entry}
use Rattle.journals.specs.declared.entry.TraceItem.{TraceItem}
use Rattle.journals.specs.Journals.{IsJournal}
use Rattle.journals.specs.Laws.{FollowingIsLegal, OneSchedule, ScheduleOfLength, StopsWhereComplete}
use Rattle.journals.specs.Legality.{Legal}
use Rattle.journals.specs.Outputs.{outputs}
use Rattle.journals.specs.Schedules.{IsSchedule, pick}
use Rattle.journals.specs.declared.entry.Pick.{Pick}
use Rattle.journals.specs.declared.entry.Pick.TheVariants.{Deliver, React, Stop}
use Rattle.run_watch.specs.Emissions.{placed_outputs}
use Rattle.run_watch.specs.Laws.{ComplaintStands, OneAnswer, SomeAnswer, SourcesInStep}
use Rattle.run_watch.specs.Monitors.{IsMonitor, heard, settled, watch_trace}
use Rattle.run_watch.specs.Watches.{Says, StandsAt}
use Rattle.run_watch.specs.declared.answer.Complaint.{Complaint}
use Rattle.run_watch.specs.declared.answer.Watched.{Watched}
use Rattle.run_watch.specs.declared.answer.Watched.TheVariants.{Held, Unfinished, Found}
use Rattle.run_watch.specs.declared.emission.Emission.{Emission}
use Rattle.run_watch.proofs.Fitting.{trace_fits}
use Rattle.run_watch.proofs.Hears.{sources_many}
use Rattle.run_watch.proofs.Placed.{first_placed, none_placed}
use Rattle.run_watch.proofs.Telling.{one_place, some_place}

pub sources_in_step : SourcesInStep
sources_in_step net monitor journal watch m =
    sources_many monitor (heard net monitor journal) m watch

pub complaint_stands : FollowingIsLegal → ComplaintStands
complaint_stands following net monitor journal watch n may fits scheduled some =
    go (placed_outputs monitor watch) refl
  where
    legal : Legal monitor (settled (heard net monitor journal)) watch
    legal =
        following monitor (watch_trace net monitor journal) watch 0
        (trace_fits net monitor journal may fits) (tt, tt) scheduled.follows

    go : (xs : List Emission) → placed_outputs monitor watch ≡ xs
        → (place : ℕ) × StandsAt monitor (heard net monitor journal) watch place
    go [] is = absurd (some (none_placed monitor watch is))
    go (x ∷ xs) is =
        let first : head_of (placed_outputs monitor watch) ≡ Some x =
        ap (λ (l : List Emission). head_of l) is in
        let (place, told) =
        some_place monitor (heard net monitor journal) watch x legal first in
        (place, record { first = x; is = first; told = told })

none_and_some : {X : Type 0} (xs : List X) (x : X) → xs ≡ [] → head_of xs ≡ Some x → ⊥
none_and_some xs x none some = none-some x (sym (ap head_of none) ∙ some)

module _ (monitor : Network) (heard : List Emission) (watch : List Entry) where
  pub says_one : (a b : Watched) → Says monitor heard watch a → Says monitor heard watch b → a ≡ b
  says_one Held Held x y = refl
  says_one Held Unfinished x y = absurd (y.1 x.1)
  says_one Held (Found d) x y = absurd (none_and_some _ (d.event, d.code) x.0 y.0)
  says_one Unfinished Held x y = absurd (x.1 y.1)
  says_one Unfinished Unfinished x y = refl
  says_one Unfinished (Found d) x y = absurd (none_and_some _ (d.event, d.code) x.0 y.0)
  says_one (Found c) Held x y = absurd (none_and_some _ (c.event, c.code) y.0 x.0)
  says_one (Found c) Unfinished x y = absurd (none_and_some _ (c.event, c.code) y.0 x.0)
  says_one (Found c) (Found d) x y =
      let both = some_pair_parts c.event d.event c.code d.code (sym x.0 ∙ y.0) in
      let place = one_place monitor heard watch c.place d.place x.1 y.1 in
      ap Found (same_complaint c d place both.0 both.1)
    where
      same_complaint : (c d : Complaint) → c.place ≡ d.place → c.event ≡ d.event
          → c.code ≡ d.code → c ≡ d
      same_complaint c d place event code =
          λ i. record { place = place i; event = event i; code = code i }

pub one_answer : OneSchedule → OneAnswer
one_answer one net monitor journal a b sure may fits x y =
    let all : List Emission = heard net monitor journal in
    let same : x.watch ≡ y.watch =
    one monitor (settled all) ENTRIES_MAX x.watch y.watch sure (trace_fits net monitor journal may fits)
    x.scheduled y.scheduled in
    says_one monitor all y.watch a b
    (subst (λ (w : List Entry). Says monitor all w a) same x.says) y.says

-- ---- there is an answer

some_says : StopsWhereComplete → FollowingIsLegal → (net monitor : Network)
    (journal watch : List Entry) (n : ℕ) → IsMonitor net monitor → IsJournal net journal
    → IsSchedule monitor (watch_trace net monitor journal) n watch
    → Legal monitor (watch_trace net monitor journal) watch
    → (answer : Watched)
    × Says monitor (heard net monitor journal) watch answer
some_says stops following net monitor journal watch n may fits scheduled legal =
    go (placed_outputs monitor watch) refl
  where
    trace : List TraceItem
    trace = watch_trace net monitor journal

    all : List Emission
    all = heard net monitor journal

    silent : outputs monitor watch ≡ [] → (p : Pick) → pick monitor trace watch ≡ p
        → (answer : Watched) × Says monitor all watch answer
    silent none Stop is = (Held, (none, (stops monitor trace watch legal).0 is))
    silent none (Deliver s m e c) is = (
      Unfinished,
      (
        none,
        λ complete. let stop = (stops monitor trace watch legal).1 complete in
            let both : Deliver s m e c ≡ Stop = sym is ∙ stop in cc,
      ),
    )
    silent none (React m) is = (
      Unfinished,
      (
        none,
        λ complete. let stop = (stops monitor trace watch legal).1 complete in
            let both : React m ≡ Stop = sym is ∙ stop in cc,
      ),
    )

    go : (xs : List Emission) → placed_outputs monitor watch ≡ xs
        → (answer : Watched) × Says monitor all watch answer
    go [] is = silent (none_placed monitor watch is) (pick monitor trace watch) refl
    go (x ∷ xs) is =
        let first : head_of (placed_outputs monitor watch) ≡ Some x =
        ap (λ (l : List Emission). head_of l) is in
        let at = first_placed monitor watch x first in
        let (place, stands) =
        complaint_stands following net monitor journal watch n may fits scheduled
        (λ none. none_and_some (outputs monitor watch) (x.event, x.code) none at) in (
          Found (record { place = place; event = x.event; code = x.code }),
          (at, stands),
        )

pub some_answer : ScheduleOfLength → StopsWhereComplete → FollowingIsLegal → SomeAnswer
some_answer schedules stops following net monitor journal may fits =
    let trace : List TraceItem = watch_trace net monitor journal in
    let (watch, scheduled, legal) =
    schedules monitor trace ENTRIES_MAX (trace_fits net monitor journal may fits) in
    let (answer, says) =
    some_says stops following net monitor journal watch ENTRIES_MAX may fits scheduled legal in
    (answer, record { watch = watch; scheduled = scheduled; says = says })
