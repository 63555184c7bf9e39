-- What one worker runs of the same texts is one product.
use Rattle.std.proofs.Common.{◌≡◌, ◌↔◌, ℕ, List, [], ◌∷◌, Option, Some, None, Ok, IsTrue, refl, ap, sym, subst, ◌∙◌, arith}
use Rattle.std.specs.Prelude.{option_to_list}
use Rattle.polis_base.specs.declared.limits.TheConstants.{ENTRIES_MAX}
use Rattle.polis_base.specs.Host.{Files}
use Rattle.transition_table.specs.Transitions.{AreDeterministic}
use Rattle.transition_table.specs.declared.network.Network.{Network}
use Rattle.journals.specs.declared.entry.Entry.{Entry}
use Rattle.journals.specs.declared.entry.TraceItem.{TraceItem}
use Rattle.journals.specs.Journals.{IsTrace}
use Rattle.journals.specs.Laws.{OneSchedule}
use Rattle.journals.specs.Legality.{Complete}
use Rattle.trace_text.specs.Traces.{trace_of}
use Rattle.net_reader.specs.Layout.{network_text}
use Rattle.net_gen.specs.Networks.{network}
use Rattle.net_gen.specs.Traces.{trace_text}
use Rattle.machine_compiler.specs.Parts.{AreRightParts}
use Rattle.machine_compiler.proofs.OneRightPart.{one_right_parts}
use Rattle.task_image.specs.Decoding.{AreBytesOf}
use Rattle.task_image.specs.Images.{codes_of}
use Rattle.task_image.specs.Laws.{ImageLaws}
use Rattle.polis_words.specs.declared.requests.Request.TheVariants as requests
use Rattle.polis_words.specs.Run.{RunWords}
use Rattle.commands.specs.declared.run_result.RunResult.{RunResult}
use Rattle.commands.specs.Demo.{IsDrawn, demo_product}
use Rattle.commands.specs.Run.{Compiled, Given, IsRan, RunsTasks, Tasks, run_product}
use Rattle.commands.proofs.IsRan.{alone_is_scheduled}
use Rattle.polis_cli.specs.OneProduct.{LoneRun, ProductsOfTexts, at_stem, held_under, no_stem}
use Rattle.commands.proofs.OneNet.{one_held_net, one_net_of}
use Rattle.polis_cli.proofs.Held.{first_same, one_text, one_trace, others_same, same_answer}
use Rattle.polis_cli.proofs.ReadTraces.{trace_fits}
use Rattle.commands.proofs.RunsWhole.{one_trace as same_ok}

-- ---- what is run
same_ran : (a b : RunResult) → a.journal ≡ b.journal → a.complete ≡ b.complete
    → a.gathered ≡ b.gathered → a.adopted ≡ b.adopted → a ≡ b
same_ran a b journal complete gathered adopted = λ i. record {
  journal = journal i;
  complete = complete i;
  gathered = gathered i;
  adopted = adopted i;
}

-- one worker runs one journal
ran_alone_one : OneSchedule → (limit : ℕ) (net : Network) (trace : List TraceItem)
    (a b : RunResult) → AreDeterministic net → IsTrace net trace → IsRan 1 limit net trace a
    → IsRan 1 limit net trace b → a ≡ b
ran_alone_one law limit net trace a b sure fits x y =
    let journal = law net trace limit a.journal b.journal sure fits
    (alone_is_scheduled limit net trace a x) (alone_is_scheduled limit net trace b y) in
    let complete = same_answer a.complete b.complete (Complete net trace b.journal)
    (subst (λ (j : List Entry). IsTrue a.complete ↔ Complete net trace j) journal x.is.ends)
    y.is.ends in
    let none = x.begins.alone refl in
    let nothing = y.begins.alone refl in
    let few = x.begins.adopted_few in
    let fewer = y.begins.adopted_few in
    same_ran a b journal complete (none ∙ sym nothing) (omega (arith, none, nothing, few, fewer))

-- ---- demos
pub demo_one : OneSchedule → ProductsOfTexts requests.Demo (λ w. []) (λ w. w.seed) no_stem
demo_one law one two before now p q texts says a b =
    let drawn = subst (λ (s : ℕ). IsDrawn s b.net b.trace) (sym says) b.drawn in
    let text = trace_text one.seed in
    let net = one_net_of (network_text (network one.seed)) a.net b.net a.drawn.accepted.0
    drawn.accepted.0 in
    let trace = same_ok (trace_of b.net text) a.trace b.trace
    (subst (λ (n : Network). trace_of n text ≡ Ok a.trace) net a.drawn.read) drawn.read in
    let again = subst (λ (n : Network). IsRan 1 ENTRIES_MAX n a.trace b.ran) (sym net)
    (subst (λ (t : List TraceItem). IsRan 1 ENTRIES_MAX b.net t b.ran) (sym trace) b.is_ran) in
    let sure = a.drawn.accepted.1 in
    let ran = ran_alone_one law ENTRIES_MAX a.net a.trace a.ran b.ran sure
    (trace_fits a.net text a.trace a.drawn.read) a.is_ran again in
    let parts = one_right_parts a.net a.parts b.parts sure a.right
    (subst (λ (n : Network). AreRightParts n b.parts) (sym net) b.right) in (
      demo_product a.net a.ran a.parts,
      a.made,
      b.made ∙ sym (λ i. demo_product (net i) (ran i) (parts i)),
    )

-- ---- runs
-- the code that is run
tasks_one : ImageLaws → (before now : Files) (named others : Option (List ℕ)) (a b : Network)
    (s t : Tasks) → a ≡ b
    → held_under before (option_to_list named) ≡ held_under now (option_to_list others)
    → AreDeterministic a → RunsTasks named before a s → RunsTasks others now b t → s ≡ t
tasks_one laws before now None None a b (Compiled p) (Compiled q) net same sure x y =
    ap Compiled (one_right_parts a p q sure x
    (subst (λ (n : Network). AreRightParts n q) (sym net) y))
tasks_one laws before now None None a b (Compiled p) (Given d) net same sure x y = absurd y
tasks_one laws before now None None a b (Given c) t net same sure x y = absurd x
tasks_one laws before now None (Some other) a b s t net same sure x y = cc
tasks_one laws before now (Some name) None a b s t net same sure x y = cc
tasks_one laws before now (Some name) (Some other) a b (Compiled p) t net same sure x y = absurd x
tasks_one laws before now (Some name) (Some other) a b (Given c) (Compiled q) net same sure x y =
    absurd y
tasks_one laws before now (Some name) (Some other) a b (Given c) (Given d) net same sure x y =
    let texts = one_text before now name other _ _ x.1.text y.1.text (first_same same) x.1.holds
    y.1.holds in
    let image = laws.one_image x.0 y.0 x.1.text x.1.bytes
    (subst (λ (t : List ℕ). AreBytesOf y.0 t) (sym texts) y.1.bytes) in
    ap Given (x.2 ∙ ap codes_of image ∙ sym y.2)

-- a command line that names nothing
nameless : RunWords
nameless = record { net = []; trace = []; stem = []; workers = 1; limit = 0; image = None }

-- a run's product but for its stem
under_stem : (run : RunWords) (net : Network) (ran : RunResult) (tasks : Tasks)
    → run_product run net ran tasks ≡ at_stem run.stem (run_product nameless net ran tasks)
unfolding nameless
under_stem run net ran (Compiled parts) = refl
under_stem run net ran (Given code) = refl

pub alone_one : OneSchedule → ImageLaws → ProductsOfTexts (λ (w : LoneRun). requests.Run w.run)
    (λ w. w.run.net ∷ w.run.trace ∷ option_to_list w.run.image) (λ w. w.run.limit)
    (λ w. w.run.stem)
alone_one law laws one two before now p q texts says a b =
    let net = one_held_net before now one.run.net two.run.net a.net b.net (first_same texts) a.holds_net
    b.holds_net in
    let trace = one_trace before now one.run.trace two.run.trace a.net b.net a.trace b.trace net
    (first_same (others_same texts)) a.holds_trace b.holds_trace in
    let sure = a.holds_net.accepted.1 in
    let x = subst (λ (w : ℕ). IsRan w one.run.limit a.net a.trace a.ran) one.alone a.is_ran in
    let y = subst (λ (n : Network). IsRan 1 one.run.limit n a.trace b.ran) (sym net)
    (subst (λ (t : List TraceItem). IsRan 1 one.run.limit b.net t b.ran) (sym trace)
    (subst (λ (l : ℕ). IsRan 1 l b.net b.trace b.ran) (sym says)
    (subst (λ (w : ℕ). IsRan w two.run.limit b.net b.trace b.ran) two.alone b.is_ran))) in
    let ran = ran_alone_one law one.run.limit a.net a.trace a.ran b.ran sure
    (trace_fits a.net a.holds_trace.text a.trace a.holds_trace.read) x y in
    let tasks = tasks_one laws before now one.run.image two.run.image a.net b.net a.tasks b.tasks
    net (others_same (others_same texts)) sure a.are_tasks b.are_tasks in (
      run_product nameless a.net a.ran a.tasks,
      a.made ∙ under_stem one.run a.net a.ran a.tasks,
      b.made ∙ sym (λ i. run_product two.run (net i) (ran i) (tasks i))
          ∙ under_stem two.run a.net a.ran a.tasks,
    )
