-- How many numbers the figures of a network's runs have.
use Rattle.std.proofs.Common.{◌≡◌, ◌⊎◌, ℕ, zero, suc, ◌+◌, ◌<◌, ◌≤◌, List, [], ◌∷◌, ◌++◌, map, flat_map, length, take, get_or, slice_get, Option, None, Some, IfSome, refl, sym, ap, ◌∙◌, add-one, inl, inr, arith}
use Rattle.std.specs.List.{enumerate_from}
use Rattle.std.proofs.lemmas.List.{length-append, length-map, take_all, take_more}
use Rattle.std.proofs.lemmas.List.FromFn.{length-enumerate_from}
use Rattle.std.proofs.lemmas.Option.{slice_get_cases}
use Rattle.polis_base.specs.Lists.{upto}
use Rattle.transition_table.specs.declared.machine.Machine.{Machine}
use Rattle.transition_table.specs.declared.network.Network.{Network}
use Rattle.journals.specs.declared.entry.Entry.{Entry}
use Rattle.journals.specs.declared.entry.TraceItem.{TraceItem}
use Rattle.journals.specs.Journals.{inputs_of}
use Rattle.journals.proofs.MomentsAfter.{length_table}
use Rattle.event_accounts.specs.Accounts.{account, accounts_of, buffers, buffers_of}
use Rattle.event_accounts.specs.declared.account.Account.{Account}
use Rattle.event_accounts.proofs.InputLines.{buffers_next}
use Rattle.event_accounts.proofs.InputsOf.{inputs_of_machine}
use Rattle.event_accounts.proofs.RowsOf.{buffers_many}
use Rattle.table_use.specs.Coverage.{coverage_of, coverages, input_use, taken_by}
use Rattle.table_use.specs.declared.tally.Tally.{Tally}
use Rattle.table_use.specs.declared.used.InputUse.{InputUse}
use Rattle.table_use.specs.declared.used.MachineUse.{MachineUse}
use Rattle.run_shuffle.specs.declared.order.Order.{Order}
use Rattle.run_watch.specs.WatchLines.{IsShown}
use Rattle.run_watch.specs.declared.answer.Watched.TheVariants.{Found}
use Rattle.run_survey.specs.declared.figures.Figures.{Figures}
use Rattle.run_survey.specs.declared.told.Survey.{Survey}
use Rattle.run_survey.specs.Figures.{figures_of, taken_counts, unused_counts}
use Rattle.run_survey.specs.Runs.{AreFiguresFrom, IsShapedBy, IsSurveyOf}
use Rattle.run_survey.specs.Surveys.{IsSurvey}
use Rattle.run_survey.proofs.NeverLines.{rows_in}
use Rattle.run_survey.proofs.SaidOfRuns.{shown_found}
use Rattle.polis_base.proofs.Places.{flat_map_push}

abbrev inputs_in : Machine → List ℕ
inputs_in machine = machine.inputs

-- ---- the inputs

-- the inputs of the machines before this one
inputs_before : (net : Network) (m : ℕ) → m ≤ length net.machines
    → length (flat_map (buffers_of net) (upto m))
    ≡ length (flat_map inputs_in (take m net.machines))
inputs_before net zero low = refl
inputs_before net (suc m) low =
    one_more (slice_get_cases net.machines m).1 (inputs_before net m (omega arith))
  where
    ms : List Machine
    ms = net.machines

    one_more : ((x : Machine) × (m < length net.machines) × (slice_get net.machines m ≡ Some x)
        × (get_or net.machines m x ≡ x))
        ⊎ ((length net.machines ≤ m) × (slice_get net.machines m ≡ None))
        → length (flat_map (buffers_of net) (upto m))
        ≡ length (flat_map inputs_in (take m net.machines))
        → length (flat_map (buffers_of net) (upto (suc m)))
        ≡ length (flat_map inputs_in (take (suc m) net.machines))
    one_more (inr past) rest = absurd (let h = past.0 in omega arith)
    one_more (inl (x, inside, at, here)) rest =
        let next = buffers_next net m in
        let many = buffers_many m 0 (inputs_of net m) in
        let inputs = ap length (inputs_of_machine net m x at) in
        let taken : take (suc m) net.machines ≡ take m net.machines ++ x ∷ [] =
        ap (λ (n : ℕ). take n net.machines) (sym (add-one m))
        ∙ take_more net.machines m x inside
        ∙ ap (λ (y : Machine). take m net.machines ++ y ∷ []) here in
        let size : length (flat_map inputs_in (take (suc m) net.machines))
        ≡ length (flat_map inputs_in (take m net.machines)) + length x.inputs =
        ap (λ (l : List Machine). length (flat_map inputs_in l)) taken
        ∙ ap length (flat_map_push inputs_in (take m net.machines) x)
        ∙ length-append (flat_map inputs_in (take m net.machines)) x.inputs in
        let step : length (flat_map (buffers_of net) (upto (suc m)))
        ≡ length (flat_map (buffers_of net) (upto (m + 1))) =
        ap (λ (n : ℕ). length (flat_map (buffers_of net) (upto n))) (sym (add-one m)) in
        omega arith

buffers_long : (net : Network)
    → length (buffers net) ≡ length (flat_map inputs_in net.machines)
buffers_long net =
    let all = length net.machines in
    inputs_before net (length net.machines) (omega arith)
    ∙ ap (λ (l : List Machine). length (flat_map inputs_in l))
    (take_all (length net.machines) net.machines (omega arith))

-- ---- what coverages say of inputs and of rows

unused_long : (journal : List Entry) (n : ℕ) (machines : List Machine)
    → length (flat_map unused_counts (map (coverage_of journal) (enumerate_from n machines)))
    ≡ length (flat_map inputs_in machines)
unused_long journal n [] = refl
unused_long journal n (machine ∷ machines) =
    let rest = unused_long journal (n + 1) machines in
    let used : MachineUse = coverage_of journal (n, machine) in
    let here = length-map used.inputs (λ (input : InputUse). input.unused.count)
    ∙ length_table (input_use machine n journal) (length machine.inputs) in
    let more = map (coverage_of journal) (enumerate_from (n + 1) machines) in
    let one = length-append (unused_counts used) (flat_map unused_counts more) in
    let other = length-append machine.inputs (flat_map inputs_in machines) in
    omega arith

taken_long : (journal : List Entry) (n : ℕ) (machines : List Machine)
    → length (flat_map taken_counts (map (coverage_of journal) (enumerate_from n machines)))
    ≡ length (flat_map rows_in machines)
taken_long journal n [] = refl
taken_long journal n (machine ∷ machines) =
    let rest = taken_long journal (n + 1) machines in
    let used : MachineUse = coverage_of journal (n, machine) in
    let here = length-map used.rows (λ (row : Tally). row.count)
    ∙ length_table (taken_by machine n journal) (length machine.rows) in
    let more = map (coverage_of journal) (enumerate_from (n + 1) machines) in
    let one = length-append (taken_counts used) (flat_map taken_counts more) in
    let other = length-append machine.rows (flat_map rows_in machines) in
    omega arith

-- ---- figures

lost_many : (net : Network) (journal : List Entry)
    → length (map (λ (a : Account). a.lost) (accounts_of net journal)) ≡ length (buffers net)
lost_many net journal =
    length-map (accounts_of net journal) (λ (a : Account). a.lost)
    ∙ length-map (buffers net) (account journal)

jammed_many : (net : Network) (journal : List Entry)
    → length (map (λ (used : MachineUse). used.jammed.count) (coverages net journal))
    ≡ length net.machines
jammed_many net journal =
    length-map (coverages net journal) (λ (used : MachineUse). used.jammed.count)
    ∙ length-map (enumerate_from 0 net.machines) (coverage_of journal)
    ∙ length-enumerate_from 0 net.machines

shaped_by : (net : Network) (monitor : Option Network) (journal : List Entry) (f : Figures) (s : Survey)
    → f ≡ figures_of net journal f.complete f.watched
    → length f.lost ≡ length s.lost → length f.unused ≡ length s.unused
    → length f.jammed ≡ length s.jammed → length f.taken ≡ length s.taken
    → IfSome monitor (λ m. IfSome s.found (λ g. IsShown m (Found g.complaint)))
    → IsShapedBy net monitor s
shaped_by net monitor journal f s is lost unused jammed taken shown = record {
  lost = sym lost ∙ ap (λ (g : Figures). length g.lost) is ∙ lost_many net journal;
  unused =
      sym unused ∙ ap (λ (g : Figures). length g.unused) is
      ∙ unused_long journal 0 net.machines ∙ sym (buffers_long net);
  jammed = sym jammed ∙ ap (λ (g : Figures). length g.jammed) is ∙ jammed_many net journal;
  taken =
      sym taken ∙ ap (λ (g : Figures). length g.taken) is ∙ taken_long journal 0 net.machines;
  shown = shown;
}

pub shaped : (net : Network) (monitor : Option Network) (trace : List TraceItem) (order : Order)
    (limit seed runs : ℕ) (s : Survey) → IsSurveyOf net monitor trace order limit seed runs s
    → IsShapedBy net monitor s
shaped net monitor trace order limit seed runs s of = first of.figures of.drawn of.told
  where
    first : (figures : List Figures) → AreFiguresFrom net monitor trace order limit seed runs figures
        → IsSurvey seed figures s → IsShapedBy net monitor s
    first [] drawn told = absurd (let h = told.some in omega arith)
    first (f ∷ figures) drawn told =
        let one = drawn.each 0 f refl in
        shaped_by net monitor one.journal f s one.are (told.lost.long 0 [] (omega arith))
        (told.unused.long 0 [] (omega arith)) (told.jammed.long 0 [] (omega arith))
        (told.taken.long 0 [] (omega arith))
        (shown_found net monitor trace order limit seed runs (f ∷ figures) s drawn told)
