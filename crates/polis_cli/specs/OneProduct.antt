-- What is made of the same texts is one product.
use Rattle.std.specs.Prelude.{◌≡◌, ℕ, List, [], ◌∷◌, ◌++◌, map, Option, None, option_to_list, ⊤, codes, decimal}
use Rattle.polis_base.specs.Lines.{line}
use Rattle.polis_base.specs.Host.{Files, bytes_at}
use Rattle.polis_words.specs.declared.requests.Request.{Request}
use Rattle.polis_words.specs.declared.requests.Request.TheVariants as requests
use Rattle.polis_words.specs.declared.requests.explain.Explain.{Explain}
use Rattle.polis_words.specs.declared.requests.explain.Explain.TheVariants.{Net, Trace, Journal}
use Rattle.polis_words.specs.declared.requests.order.GivenOrder.{GivenOrder}
use Rattle.polis_words.specs.declared.requests.command.FromJournal.TheVariants.{Migrate, Wave}
use Rattle.polis_words.specs.declared.requests.command.FromNet.{FromNet}
use Rattle.polis_words.specs.declared.requests.command.OnJournal.{OnJournal}
use Rattle.polis_words.specs.declared.requests.command.OnNet.{OnNet}
use Rattle.polis_words.specs.Chart.{ChartWords}
use Rattle.polis_words.specs.Check.{CheckWords}
use Rattle.polis_words.specs.NetStem.{NetStemWords}
use Rattle.polis_words.specs.Replay.{ReplayWords}
use Rattle.polis_words.specs.ReplayStem.{ReplayStemWords}
use Rattle.polis_words.specs.Run.{RunWords, journal_name}
use Rattle.polis_words.specs.Shuffle.{ShuffleWords}
use Rattle.polis_words.specs.Survey.{SurveyWords}
use Rattle.output_files.specs.declared.product.End.{End}
use Rattle.output_files.specs.declared.product.Product.{Product}
use Rattle.output_files.specs.Saves.{Save}
use Rattle.commands.specs.Run.{MakesRun}
use Rattle.polis_cli.specs.Calls.{EndedCall, Wrote}
use Rattle.polis_cli.specs.Commands.{meaning}

-- ---- the stem
-- these texts, each saved under its ending after the stem
abbrev pub under : List ℕ → List Save → List Save
under stem endings =
    map (λ (save : Save). record { name = stem ++ save.name; text = save.text }) endings

-- the product, its texts saved so
abbrev pub at_stem : List ℕ → Product → Product
at_stem stem bare = record { saves = under stem bare.saves; shown = bare.shown; end = bare.end }

-- ---- command lines of one form
-- what the files hold under these names, in order
abbrev pub held_under : Files → List (List ℕ) → List (Option (List ℕ))
held_under files names = map (bytes_at files) names

-- Two command lines of a form ask for this; where the files hold the same texts under these names
-- and both say the same else, one product is made, but for the stem of what is saved.
abbrev pub ProductsOfTexts : {W X : Type 0} → (W → Request) → (W → List (List ℕ)) → (W → X)
    → (W → List ℕ) → Type 0
ProductsOfTexts {W = W} asks names says stem =
    (one two : W) (before now : Files) (p q : Product)
    → held_under before (names one) ≡ held_under now (names two) → says one ≡ says two
    → (meaning (asks one)).makes before p → (meaning (asks two)).makes now q
    → (bare : Product) × (p ≡ at_stem (stem one) bare) × (q ≡ at_stem (stem two) bare)

-- Two calls, with what each finds in its files: one product is written, but for the stem. So both
-- hold the same texts under the same endings, show the same text, and end with the same status.
abbrev pub CallsOfTexts : {W X : Type 0} → (W → Request) → (W → List (List ℕ)) → (W → X)
    → (W → List ℕ) → Type 0
CallsOfTexts {W = W} asks names says stem =
    (one two : W) (a : EndedCall (asks one)) (b : EndedCall (asks two))
    → held_under a.before (names one) ≡ held_under b.before (names two) → says one ≡ says two
    → (bare : Product) × Wrote a (at_stem (stem one) bare) × Wrote b (at_stem (stem two) bare)

-- what is saved and shown is a function of the texts of these names and of what else is said
pub record OfTexts {W X : Type 0} (asks : W → Request) (names : W → List (List ℕ)) (says : W → X)
    (stem : W → List ℕ) : Type 0 where
  pub products : ProductsOfTexts asks names says stem
  pub calls : CallsOfTexts asks names says stem

-- for a form that says nothing but names
abbrev pub nothing : {W : Type 0} → W → ⊤
nothing asked = tt

-- for a form that saves nothing
abbrev pub no_stem : {W : Type 0} → W → List ℕ
no_stem asked = []

-- the names of one, two or three files
abbrev pub explained_names : Explain → List (List ℕ)
explained_names (Net check) = check.net ∷ []
explained_names (Trace asked) = asked.net ∷ asked.trace ∷ []
explained_names (Journal replay) = replay.net ∷ replay.trace ∷ replay.journal ∷ []

-- what is said of a drawn run, of a survey and of a chart, beside the names of files
abbrev pub drawn_settings : ShuffleWords → ℕ × GivenOrder × ℕ
drawn_settings asked = (asked.seed, asked.order, asked.limit)

abbrev pub survey_settings : SurveyWords → ℕ × ℕ × GivenOrder × ℕ
survey_settings asked = (asked.runs, asked.seed, asked.order, asked.limit)

abbrev pub chart_part : ChartWords → ℕ × ℕ
chart_part asked = (asked.from, asked.to)

-- a run by one worker
pub record LoneRun : Type 0 where
  pub run : RunWords
  pub alone : run.workers ≡ 1

-- What each command saves and shows, but for runs by several workers, is a function of these texts
-- and words. So a survey is the same whatever its number of workers; and of a journal the trace
-- doesn't matter, but where it is said whether the journal is complete.
pub record TextsDetermine : Type 0 where
  -- Of the network text.
  pub on_net : (kind : OnNet) → OfTexts (λ (w : CheckWords). requests.OnNet kind w)
      (λ w. w.net ∷ []) nothing no_stem
  pub from_net : (kind : FromNet) → OfTexts (λ (w : NetStemWords). requests.FromNet kind w)
      (λ w. w.net ∷ []) nothing (λ w. w.stem)
  pub bound : OfTexts requests.Bound (λ w. w.net ∷ []) (λ w. w.costs) no_stem
  -- Of two network texts.
  pub equiv : OfTexts requests.Equiv (λ w. w.net ∷ w.other ∷ []) nothing no_stem
  -- Of the network text and the trace text, and those of a monitor and of an image, where one is
  -- named.
  pub shuffle : OfTexts requests.Shuffle (λ w. w.net ∷ w.trace ∷ []) drawn_settings
      (λ w. w.stem)
  pub survey : OfTexts requests.Survey (λ w. w.net ∷ w.trace ∷ option_to_list w.monitor)
      survey_settings no_stem
  pub run : OfTexts (λ (w : LoneRun). requests.Run w.run)
      (λ w. w.run.net ∷ w.run.trace ∷ option_to_list w.run.image) (λ w. w.run.limit)
      (λ w. w.run.stem)
  -- Of the network text and the journal text.
  pub on_journal : (kind : OnJournal) → OfTexts (λ (w : ReplayWords). requests.OnJournal kind w)
      (λ w. w.net ∷ w.journal ∷ []) nothing no_stem
  pub wave : OfTexts (λ (w : ReplayStemWords). requests.FromJournal Wave w)
      (λ w. w.replay.net ∷ w.replay.journal ∷ []) nothing (λ w. w.stem)
  pub chart : OfTexts requests.Chart (λ w. w.replay.net ∷ w.replay.journal ∷ []) chart_part
      no_stem
  pub watch : OfTexts requests.Watch (λ w. w.replay.net ∷ w.replay.journal ∷ w.monitor ∷ [])
      nothing no_stem
  -- Of all three.
  pub replay : OfTexts requests.Replay (λ w. w.net ∷ w.trace ∷ w.journal ∷ []) nothing no_stem
  pub migrate : OfTexts (λ (w : ReplayStemWords). requests.FromJournal Migrate w)
      (λ w. w.replay.net ∷ w.replay.trace ∷ w.replay.journal ∷ []) nothing (λ w. w.stem)
  -- Of as many as are named.
  pub explain : OfTexts requests.Explain explained_names nothing no_stem
  -- Of the seed alone.
  pub demo : OfTexts requests.Demo (λ w. []) (λ w. w.seed) no_stem

-- ---- runs
-- The texts that a run saves, the words of the first two lines that it shows, the lines after the
-- third, and how it ends.
pub record RunTexts : Type 0 where
  pub outputs : List ℕ
  pub journal : List ℕ
  pub listing : List ℕ
  pub entries : List ℕ
  pub lost : List ℕ
  pub machines : List ℕ
  pub end : End

-- the product of a run with these texts and this stem, of which the third line says how many
-- entries were gathered and adopted
abbrev pub run_of_texts : RunTexts → List ℕ → ℕ → ℕ → Product
run_of_texts texts stem gathered adopted = record {
  saves = under stem (record { name = codes ".out"; text = texts.outputs }
      ∷ record { name = codes ".jnl"; text = texts.journal }
      ∷ record { name = codes ".lst"; text = texts.listing } ∷ []);
  shown = line texts.entries ++ line texts.lost
      ++ line (codes "gathered " ++ decimal gathered ++ codes " adopted " ++ decimal adopted)
      ++ texts.machines;
  end = texts.end;
}

-- the call wrote such a product
abbrev pub WroteRun : {request : Request} → EndedCall request → RunTexts → List ℕ → Type 0
WroteRun call texts stem = (gathered : ℕ) × (adopted : ℕ)
    × Wrote call (run_of_texts texts stem gathered adopted)

-- Two runs of one network text that name no image, and that may differ in trace, stem, workers and
-- limit, have the same texts but for that line where they have one journal, complete in both or in
-- neither; and so two calls that save the same journal text.
pub record JournalsDetermineRun : Type 0 where
  pub products : (one two : RunWords) (before now : Files) (p q : Product)
      (a : MakesRun one before p) (b : MakesRun two now q)
      → one.image ≡ None → two.image ≡ None → bytes_at before one.net ≡ bytes_at now two.net
      → a.ran.journal ≡ b.ran.journal → a.ran.complete ≡ b.ran.complete
      → (texts : RunTexts)
      × (p ≡ run_of_texts texts one.stem a.ran.gathered a.ran.adopted)
      × (q ≡ run_of_texts texts two.stem b.ran.gathered b.ran.adopted)
  pub calls : (one two : RunWords) (a : EndedCall (requests.Run one))
      (b : EndedCall (requests.Run two))
      → one.image ≡ None → two.image ≡ None
      → bytes_at a.before one.net ≡ bytes_at b.before two.net
      → bytes_at a.now (journal_name one) ≡ bytes_at b.now (journal_name two)
      → (texts : RunTexts) × WroteRun a texts one.stem × WroteRun b texts two.stem
