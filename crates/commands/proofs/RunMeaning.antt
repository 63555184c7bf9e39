-- What `run` means.
use Rattle.std.proofs.Common.{inl, inr, ◌≡◌, ◌<◌, lit<, ℕ, Bool, true, false, List, [], ◌∷◌, ◌++◌, refl, sym, ap, subst, ◌∙◌, IsTrue, codes, get_or, arith, Option, Some, None}
use Rattle.polis_base.specs.Host.{Files, WhereTold}
use Rattle.transition_table.specs.declared.network.Network.{Network}
use Rattle.journal_text.specs.Texts.{output_text}
use Rattle.task_image.specs.declared.image.ImageMachine.{ImageMachine}
use Rattle.journals.specs.declared.entry.TraceItem.{TraceItem}
use Rattle.polis_words.specs.declared.cause.Cause.{Cause}
use Rattle.polis_words.specs.declared.cause.Failure.{Failure}
use Rattle.polis_words.specs.declared.cause.Failure.TheVariants as failures
use Rattle.polis_words.specs.declared.status.Status.TheVariants.{Refused}
use Rattle.polis_words.specs.Lines.{cause_status}
use Rattle.polis_words.specs.Run.{RunWords}
use Rattle.output_files.specs.declared.product.End.{End}
use Rattle.commands.specs.declared.run_inputs.RunInputs.{RunInputs}
use Rattle.output_files.specs.declared.product.Product.{Product}
use Rattle.commands.specs.declared.run_result.RunResult.{RunResult}
use Rattle.output_files.specs.Ends.{end_status}
use Rattle.commands.specs.ImageFiles.{HoldsImage, ImageFails}
use Rattle.input_files.specs.Inputs.{HoldsNet, HoldsTrace}
use Rattle.input_files.specs.Failures.{is_finding, FilesFail}
use Rattle.commands.specs.Run.{AcceptsRun, AcceptsImage, RunsTasks, Tasks, Compiled, Given, FailsRun, ends_run, end_of, journal_of, listing_of, listing_saves, run_product, run_text, run_meaning}
use Rattle.output_files.specs.Saves.{Save, AreApart}
use Rattle.commands.specs.inner.Lawful.{IsLawful}
use Rattle.commands.specs.Made.{IsMadeProduct}
use Rattle.commands.specs.inner.Run.{RunsLoaded, FailsImageOf, HoldsImageOf, HoldsRun, IsProductOf, listed_under}
use Rattle.commands.proofs.ImageFails.{image_refused, image_unfound}
use Rattle.input_files.proofs.InputsFail.{inputs_refused, inputs_unfound}
use Rattle.commands.proofs.IsMade.{product_made}
use Rattle.polis_base.proofs.WhereTold.{told_from, told_both}

-- the image of a run's tasks is accepted
accepts_image : (named : Option (List ℕ)) (files : Files) (net : Network) (tasks : Tasks)
    → RunsTasks named files net tasks → AcceptsImage named files net
accepts_image None files net tasks h = tt
accepts_image (Some name) files net (Compiled parts) h = absurd h
accepts_image (Some name) files net (Given code) h = (h.0, h.1)

-- where a file of a run fails its files aren't all accepted
named_refused : (files : Files) (net : Network) (named : Option (List ℕ)) (name : List ℕ)
    (cause : Cause) → named ≡ Some name → cause_status cause ≡ Refused
    → ImageFails files net name cause → ¬ AcceptsImage named files net
named_refused files net None name cause is s h all = cc
named_refused files net (Some other) name cause is s h all =
    let same : other ≡ name = cc in
    image_refused files net name cause all.0 s h
    (subst (λ (n : List ℕ). HoldsImage files n net all.0) same all.1)

run_refused : (files : Files) (run : RunWords) (name : List ℕ) (cause : Cause)
    → cause_status cause ≡ Refused → FailsRun run files name cause → ¬ AcceptsRun run files
run_refused files run name cause s (inl h) all =
    inputs_refused files run.net run.trace name cause all.net all.trace s h all.holds_net
    all.holds_trace
run_refused files run name cause s (inr h) all =
    named_refused files all.net run.image name cause h.named s (h.fails all.net all.holds_net)
    all.image

run_unfound : (files : Files) (run : RunWords) (name : List ℕ) (cause : Cause)
    → IsTrue (is_finding (cause_status cause)) → ¬ FailsRun run files name cause
run_unfound files run name cause f (inl h) = inputs_unfound files run.net run.trace name cause f h
run_unfound files run name cause f (inr h) =
    image_unfound files h.net name cause f (h.fails h.net h.holds_net)

pub run_lawful : (run : RunWords) → IsLawful (run_meaning run)
run_lawful run = record {
  made_accepts = λ files product m. record {
    net = m.net;
    trace = m.trace;
    holds_net = m.holds_net;
    holds_trace = m.holds_trace;
    image = accepts_image run.image files m.net m.tasks m.are_tasks;
  };
  made_finds = λ files product status m found. found;
  refused = λ files name cause h s. run_refused files run name cause s h;
  found = λ files name cause h f. absurd (run_unfound files run name cause f h);
  found_accepts = λ files status h. absurd h;
  found_ends = λ files status h. absurd h;
  found_once = λ files s t h k. absurd h;
}

-- both ends are a run's
pub run_ends : (complete : Bool) → IsTrue (ends_run (end_status (end_of complete)))
run_ends true = refl
run_ends false = refl

-- lists with one prefix have one rest
same_rest : (prefix a b : List ℕ) → prefix ++ a ≡ prefix ++ b → a ≡ b
same_rest [] a b e = e
same_rest (x ∷ prefix) a b e = let h : prefix ++ a ≡ prefix ++ b = cc in same_rest prefix a b h

-- two endings that differ in their second byte
pub endings_differ : (stem a b : List ℕ) → get_or a 1 0 < get_or b 1 0 → stem ++ a ≡ stem ++ b → ⊥
endings_differ stem a b less e =
    let h : get_or a 1 0 ≡ get_or b 1 0 = ap (λ xs. get_or xs 1 0) (same_rest stem a b e) in
    omega (arith, less, h)

-- no two saves of a run have one name
run_apart : (run : RunWords) (net : Network) (ran : RunResult) (tasks : Tasks)
    → AreApart (run_product run net ran tasks).saves
run_apart run net ran (Compiled parts) = (
  (
    λ e. endings_differ run.stem (codes ".jnl") (codes ".out") (lit< tt) (sym e),
    (λ e. endings_differ run.stem (codes ".lst") (codes ".out") (lit< tt) (sym e), tt),
  ),
  ((endings_differ run.stem (codes ".jnl") (codes ".lst") (lit< tt), tt), (tt, tt)),
)
run_apart run net ran (Given code) = (
  (λ e. endings_differ run.stem (codes ".jnl") (codes ".out") (lit< tt) (sym e), tt),
  (tt, tt),
)

-- the tasks of what was loaded are those of the files
tasks_are : (named : Option (List ℕ)) (files : Files) (net : Network)
    (image : Option (List ImageMachine)) (tasks : Tasks) → HoldsImageOf named files net image
    → RunsLoaded image net tasks → RunsTasks named files net tasks
tasks_are None files net None (Compiled parts) holds are = are
tasks_are None files net None (Given code) holds are = are
tasks_are None files net (Some image) tasks holds are = absurd holds
tasks_are (Some name) files net None tasks holds are = absurd holds
tasks_are (Some name) files net (Some image) (Compiled parts) holds are = absurd are
tasks_are (Some name) files net (Some image) (Given code) holds are = (image, holds, are)

-- the product of a run
pub run_made : (o : Option Files) (run : RunWords) (loaded : RunInputs) (product : Product)
    → WhereTold o (HoldsRun run loaded) → IsProductOf run loaded product
    → IsMadeProduct (run_meaning run) o product
run_made o run loaded product held p =
    let net = loaded.inputs.net in
    let is = p.is_product in
    product_made (run_meaning run) o product (run_product run net is.ran p.tasks) is.made
    (run_apart run net is.ran p.tasks) (run_ends is.ran.complete)
    (told_from o (HoldsRun run loaded) _
    (λ files h. record {
      net = net;
      trace = loaded.inputs.trace;
      holds_net = h.net;
      holds_trace = h.trace;
      ran = is.ran;
      is_ran = is.is_ran;
      tasks = p.tasks;
      are_tasks = tasks_are run.image files net loaded.image p.tasks h.image p.are_tasks;
      made = is.made;
    }) held)

-- the save of a listing under its name
listed_is : (run : RunWords) (listing : Option (List ℕ))
    → listed_under run.stem listing ≡ listing_saves run listing
listed_is run None = refl
listed_is run (Some listing) = refl

-- the parts of a run's product
pub run_is : (run : RunWords) (net : Network) (ran : RunResult) (tasks : Tasks)
    (stem outputs text shown : List ℕ) (listing : Option (List ℕ)) (saves : List Save) (end : End)
    → saves ≡ record { name = stem ++ codes ".out"; text = outputs }
    ∷ record { name = stem ++ codes ".jnl"; text = text } ∷ listed_under stem listing
    → stem ≡ run.stem → outputs ≡ output_text net ran.journal → text ≡ journal_of net ran
    → listing ≡ listing_of net tasks → shown ≡ run_text net tasks ran → end ≡ end_of ran.complete
    → ◌≡◌ {A = Product} (record { saves = saves; shown = shown; end = end })
    (run_product run net ran tasks)
run_is run net ran tasks stem outputs text shown listing saves end e st ou te li sh en =
    let list = (λ i. listed_under (st i) (li i)) ∙ listed_is run (listing_of net tasks) in
    let all = e ∙ (λ i. record { name = st i ++ codes ".out"; text = ou i }
    ∷ record { name = st i ++ codes ".jnl"; text = te i } ∷ list i) in
    λ i. record { saves = all i; shown = sh i; end = en i }

-- ---- what was loaded
-- the network, the trace, and the image where one is named
pub run_held : (o : Option Files) (run : RunWords) (net : Network) (trace : List TraceItem)
    (image : Option (List ImageMachine))
    → WhereTold o (λ files. HoldsNet files run.net net × HoldsTrace files run.trace net trace)
    → WhereTold o (λ files. HoldsImageOf run.image files net image)
    → WhereTold o (HoldsRun run
    (record { inputs = record { net = net; trace = trace }; image = image }))
run_held o run net trace image held named =
    told_both o (λ files. HoldsNet files run.net net × HoldsTrace files run.trace net trace)
    (λ files. HoldsImageOf run.image files net image) _
    (λ files h k. record { net = h.0; trace = h.1; image = k }) held named

-- the image fails, the network and the trace being accepted
image_told : (o : Option Files) (run : RunWords) (net : Network) (trace : List TraceItem)
    (name : List ℕ) (cause : Cause)
    → WhereTold o (λ files. HoldsNet files run.net net × HoldsTrace files run.trace net trace)
    → WhereTold o (λ files. (other : Network) → HoldsNet files run.net other → other ≡ net)
    → WhereTold o (λ files. FailsImageOf run.image net files name cause)
    → WhereTold o (λ files. FailsRun run files name cause)
image_told o run net trace name cause held one fails =
    told_both o (λ files. (HoldsNet files run.net net × HoldsTrace files run.trace net trace)
    × ((other : Network) → HoldsNet files run.net other → other ≡ net))
    (λ files. FailsImageOf run.image net files name cause)
    (λ files. FailsRun run files name cause)
    (λ files h f. inr (record {
      named = f.0;
      net = net;
      trace = trace;
      holds_net = h.0.0;
      holds_trace = h.0.1;
      fails = λ other k.
          subst (λ (n : Network). ImageFails files n name cause) (sym (h.1 other k)) f.1;
    }))
    (told_both o
    (λ files. HoldsNet files run.net net × HoldsTrace files run.trace net trace)
    (λ files. (other : Network) → HoldsNet files run.net other → other ≡ net) _
    (λ files a b. (a, b)) held one) fails

pub image_fails : (o : Option Files) (run : RunWords) (net : Network) (trace : List TraceItem)
    (failure : Failure)
    → WhereTold o (λ files. HoldsNet files run.net net × HoldsTrace files run.trace net trace)
    → WhereTold o (λ files. (other : Network) → HoldsNet files run.net other → other ≡ net)
    → FilesFail o (FailsImageOf run.image net) failure
    → FilesFail o (FailsRun run) failure
image_fails o run net trace failures.NoMemory held one h = tt
image_fails o run net trace (failures.File name cause more) held one (h, none) =
    ((image_told o run net trace name.now cause held one h.0, h.1), none)
