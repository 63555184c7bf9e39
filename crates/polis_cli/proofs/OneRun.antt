-- What is made of one network text and one journal is one product, but for a line.
use Rattle.std.proofs.Common.{◌≡◌, ◌≤◌, ℕ, Bool, List, [], ◌++◌, Option, Some, None, refl, ap, sym, subst, ◌∙◌, arith, codes, decimal}
use Rattle.polis_base.specs.declared.limits.TheConstants.{ENTRIES_MAX}
use Rattle.polis_base.specs.Host.{Files, bytes_at}
use Rattle.transition_table.specs.declared.network.Network.{Network}
use Rattle.journals.specs.declared.entry.Entry.{Entry}
use Rattle.journals.specs.Outputs.{lost}
use Rattle.journal_text.specs.Laws.{OneStampedJournal}
use Rattle.journal_text.specs.Texts.{count_text, output_text}
use Rattle.task_code.specs.Listings.{Part, ListingText}
use Rattle.machine_compiler.specs.Lines.{tries_text}
use Rattle.machine_compiler.specs.Parts.{AreRightParts}
use Rattle.machine_compiler.proofs.OneRightPart.{one_right_parts}
use Rattle.polis_words.specs.declared.requests.Request.TheVariants.{Run}
use Rattle.polis_words.specs.Run.{AsksRun, RunWords, journal_name}
use Rattle.polis_words.proofs.AskOptions.{asked_within}
use Rattle.output_files.specs.declared.product.Product.{Product}
use Rattle.output_files.specs.Saves.{AreHeld}
use Rattle.commands.specs.declared.run_result.RunResult.{RunResult}
use Rattle.commands.specs.Run.{Compiled, Given, MakesRun, RunsTasks, Tasks, end_of, journal_of, run_product, saved_journal}
use Rattle.polis_cli.specs.Calls.{EndedCall}
use Rattle.polis_cli.specs.OneProduct.{JournalsDetermineRun, RunTexts, run_of_texts}
use Rattle.commands.proofs.OneNet.{one_held_net}
use Rattle.polis_cli.proofs.SavesDetermineRun.{one_saved}
use Rattle.polis_cli.proofs.TwoCalls.{asked_made, written}
use Rattle.polis_base.proofs.Places.{same_some}

-- ---- the texts of a run
abbrev texts_of : Network → List Entry → Bool → List Part → RunTexts
texts_of net journal complete parts = record {
  outputs = output_text net journal;
  journal = saved_journal net journal complete;
  listing = ListingText net parts;
  entries = codes "entries " ++ count_text journal complete;
  lost = codes "lost " ++ decimal (lost net journal);
  machines = tries_text net parts journal;
  end = end_of complete;
}

-- they make its product
product_is : (run : RunWords) (net : Network) (ran : RunResult) (parts : List Part)
    → run_product run net ran (Compiled parts)
    ≡ run_of_texts (texts_of net ran.journal ran.complete parts) run.stem ran.gathered ran.adopted
product_is run net ran parts = refl

-- the machines of a run that names no image were compiled
parts_in : Tasks → List Part
parts_in (Compiled parts) = parts
parts_in (Given code) = []

is_named : (name : List ℕ) → Some name ≡ None → ⊥
is_named name none = cc

compiled : (named : Option (List ℕ)) (files : Files) (net : Network) (tasks : Tasks)
    → named ≡ None → RunsTasks named files net tasks → tasks ≡ Compiled (parts_in tasks)
unfolding parts_in
compiled None files net (Compiled parts) none are = refl
compiled None files net (Given code) none are = absurd are
compiled (Some name) files net tasks none are = absurd (is_named name none)

right : (named : Option (List ℕ)) (files : Files) (net : Network) (tasks : Tasks)
    → named ≡ None → RunsTasks named files net tasks → AreRightParts net (parts_in tasks)
unfolding parts_in
right None files net (Compiled parts) none are = are
right None files net (Given code) none are = absurd are
right (Some name) files net tasks none are = absurd (is_named name none)

-- so its product is that of the texts of its right parts
texts_in : (run : RunWords) (files : Files) (p : Product) → MakesRun run files p → RunTexts
texts_in run files p a = texts_of a.net a.ran.journal a.ran.complete (parts_in a.tasks)

made_of_texts : (run : RunWords) (files : Files) (p : Product) (a : MakesRun run files p)
    → run.image ≡ None
    → p ≡ run_of_texts (texts_in run files p a) run.stem a.ran.gathered a.ran.adopted
unfolding texts_in
made_of_texts run files p a none =
    a.made ∙ ap (run_product run a.net a.ran) (compiled run.image files a.net a.tasks none a.are_tasks)
    ∙ product_is run a.net a.ran (parts_in a.tasks)

products_one : (one two : RunWords) (before now : Files) (p q : Product)
    (a : MakesRun one before p) (b : MakesRun two now q)
    → one.image ≡ None → two.image ≡ None → bytes_at before one.net ≡ bytes_at now two.net
    → a.ran.journal ≡ b.ran.journal → a.ran.complete ≡ b.ran.complete
    → (texts : RunTexts)
    × (p ≡ run_of_texts texts one.stem a.ran.gathered a.ran.adopted)
    × (q ≡ run_of_texts texts two.stem b.ran.gathered b.ran.adopted)
unfolding texts_in
products_one one two before now p q a b none also_none nets journal complete =
    let net = one_held_net before now one.net two.net a.net b.net nets a.holds_net b.holds_net in
    let parts = one_right_parts a.net (parts_in a.tasks) (parts_in b.tasks) a.holds_net.accepted.1
    (right one.image before a.net a.tasks none a.are_tasks)
    (subst (λ (n : Network). AreRightParts n (parts_in b.tasks)) (sym net)
    (right two.image now b.net b.tasks also_none b.are_tasks)) in
    let same : texts_in one before p a ≡ texts_in two now q b =
    λ i. texts_of (net i) (journal i) (complete i) (parts i) in (
      texts_in one before p a,
      made_of_texts one before p a none,
      made_of_texts two now q b also_none
          ∙ ap (λ (t : RunTexts). run_of_texts t two.stem b.ran.gathered b.ran.adopted) (sym same),
    )

-- ---- two calls
limit_few : (words : List (List ℕ)) (run : RunWords) → AsksRun words run
    → run.limit ≤ ENTRIES_MAX
limit_few words run asks =
    let is = asks.limit in
    let few = (asked_within asks.options asks.said asks.asks).1.1 in
    omega (arith, is, few)

-- what a run's call holds as its journal
journal_held : (run : RunWords) (call : EndedCall (Run run))
    → (a : MakesRun run call.before (written (Run run) call).product)
    → bytes_at call.now (journal_name run) ≡ Some (journal_of a.net a.ran)
journal_held run call a =
    (subst (λ (r : Product). AreHeld call.now r.saves) a.made (written (Run run) call).saved).1.0

pub journals_determine_run : OneStampedJournal → JournalsDetermineRun
journals_determine_run law = record {
  products = products_one;
  calls = λ one two a b none also_none nets journals.
      let p = written (Run one) a in
      let q = written (Run two) b in
      let x = asked_made (Run one) a in
      let y = asked_made (Run two) b in
      let net = one_held_net a.before b.before one.net two.net x.net y.net nets x.holds_net y.holds_net
      in
      let texts = same_some (bytes_at a.now (journal_name one)) (journal_of x.net x.ran)
      (journal_of y.net y.ran) (journal_held one a x) (journals ∙ journal_held two b y) in
      let found = one_saved law one two a.before b.before p.product q.product x y net
      (limit_few a.words one a.asks) (limit_few b.words two b.asks) texts in
      let is = products_one one two a.before b.before p.product q.product x y none also_none nets
      found.0 found.1 in (
        is.0,
        (x.ran.gathered, x.ran.adopted, (p, is.1)),
        (y.ran.gathered, y.ran.adopted, (q, is.2)),
      );
}
