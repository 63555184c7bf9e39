-- The texts that a run saves determine its journal and its compiled machines.
use Rattle.std.proofs.Common.{◌≡◌, ◌≤◌, ℕ, List, [], ◌∷◌, Option, Some, None, sym, ap, subst, ◌∙◌, arith}
use Rattle.polis_base.specs.declared.limits.TheConstants.{ENTRIES_MAX}
use Rattle.transition_table.specs.Transitions.{AreDeterministic}
use Rattle.transition_table.specs.declared.network.Network.{Network}
use Rattle.journals.specs.Stamps.{least}
use Rattle.journals.proofs.LeastStamps.{least_is_rising}
use Rattle.journal_text.specs.Texts.{AreStamps}
use Rattle.journal_text.specs.Laws.{OneStampedJournal, Prints}
use Rattle.polis_base.specs.Host.{Files}
use Rattle.machine_compiler.proofs.OneRightPart.{one_right_parts}
use Rattle.polis_words.specs.Run.{RunWords}
use Rattle.output_files.specs.declared.product.Product.{Product}
use Rattle.commands.specs.Run.{Compiled, Given, MakesRun, RunsTasks, SavesDetermineRun, Tasks, journal_of}
use Rattle.output_files.specs.Saves.{Save}
use Rattle.commands.proofs.Accepted.{names_hold_accepted}
use Rattle.commands.proofs.IsJudged.{rising_stamps}

-- ---- the journal
prints : (run : RunWords) (files : Files) (p : Product) (a : MakesRun run files p)
    → run.limit ≤ ENTRIES_MAX → Prints a.net a.ran.journal
prints run files p a few = let within = a.is_ran.is.within in (
  names_hold_accepted a.holds_net.text a.net a.holds_net.accepted,
  a.is_ran.is.legal.0,
  omega (arith, within, few),
)

has_stamps : (run : RunWords) (files : Files) (p : Product) (a : MakesRun run files p)
    → run.limit ≤ ENTRIES_MAX → AreStamps a.ran.journal (least a.net a.ran.journal)
has_stamps run files p a few = let within = a.is_ran.is.within in
    rising_stamps a.net a.ran.journal (least a.net a.ran.journal)
    (least_is_rising a.net a.ran.journal (omega (arith, within, few)))

-- two runs of one network that save one journal text have one journal, complete in both or in
-- neither
pub one_saved : OneStampedJournal → (run other : RunWords) (before now : Files) (p q : Product)
    (a : MakesRun run before p) (b : MakesRun other now q) → a.net ≡ b.net
    → run.limit ≤ ENTRIES_MAX → other.limit ≤ ENTRIES_MAX
    → journal_of a.net a.ran ≡ journal_of b.net b.ran
    → (a.ran.journal ≡ b.ran.journal) × (a.ran.complete ≡ b.ran.complete)
one_saved one run other before now p q a b net few less same =
    let texts : journal_of a.net a.ran ≡ journal_of a.net b.ran =
    same ∙ ap (λ (n : Network). journal_of n b.ran) (sym net) in
    let printed = subst (λ (n : Network). Prints n b.ran.journal) (sym net)
    (prints other now q b less) in
    let stamped = subst (λ (n : Network). AreStamps b.ran.journal (least n b.ran.journal)) (sym net)
    (has_stamps other now q b less) in
    let found = one a.net a.ran.journal b.ran.journal (least a.net a.ran.journal)
    (least a.net b.ran.journal) a.ran.complete b.ran.complete (prints run before p a few) printed
    (has_stamps run before p a few) stamped texts in
    (found.0, found.2)

-- ---- the tasks
-- those of runs that name no image
one_tasks : (named : Option (List ℕ)) (before now : Files) (net : Network) (s t : Tasks)
    → named ≡ None → AreDeterministic net → RunsTasks named before net s
    → RunsTasks named now net t → s ≡ t
one_tasks None before now net (Compiled p) (Compiled q) none sure a b =
    ap Compiled (one_right_parts net p q sure a b)
one_tasks None before now net (Compiled p) (Given c) none sure a b = absurd b
one_tasks None before now net (Given c) t none sure a b = absurd a
one_tasks (Some name) before now net s t none sure a b = cc

-- ---- what is saved
-- the text of the second save
second_text : List Save → List ℕ
second_text [] = []
second_text (save ∷ []) = []
second_text (save ∷ next ∷ saves) = next.text

pub one_run : OneStampedJournal → SavesDetermineRun
unfolding second_text
one_run one = λ run before now p q a b net few same.
    let saves = sym (ap (λ (r : Product). r.saves) a.made) ∙ same
    ∙ ap (λ (r : Product). r.saves) b.made in
    let tasks = subst (λ (n : Network). RunsTasks run.image now n b.tasks) (sym net) b.are_tasks in
    let found = one_saved one run run before now p q a b net few few (ap second_text saves) in (
      found.0,
      found.1,
      λ none. one_tasks run.image before now a.net a.tasks b.tasks none a.holds_net.accepted.1
          a.are_tasks tasks,
    )
