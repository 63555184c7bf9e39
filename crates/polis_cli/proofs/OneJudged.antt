-- What is made of one journal text is one product.
use Rattle.std.proofs.Common.{◌≡◌, ◌↔◌, ℕ, Bool, List, [], ◌∷◌, Option, Some, None, IsTrue, ap, sym, subst, ◌∙◌}
use Rattle.polis_base.specs.Host.{Files, bytes_at}
use Rattle.transition_table.specs.declared.network.Network.{Network}
use Rattle.journals.specs.declared.entry.Entry.{Entry}
use Rattle.journals.specs.declared.entry.TraceItem.{TraceItem}
use Rattle.journals.specs.Journals.{IsJournal}
use Rattle.journals.specs.Legality.{Complete}
use Rattle.run_watch.specs.Laws.{OneAnswer}
use Rattle.run_watch.specs.Watches.{IsAnswer}
use Rattle.polis_words.specs.declared.requests.Request.TheVariants as requests
use Rattle.polis_words.specs.declared.requests.explain.Explain.TheVariants.{Net, Trace, Journal}
use Rattle.polis_words.specs.declared.requests.command.FromJournal.TheVariants.{Migrate, Wave}
use Rattle.polis_words.specs.declared.requests.command.OnJournal.{OnJournal}
use Rattle.polis_words.specs.declared.requests.command.OnNet.TheVariants.{Check}
use Rattle.polis_words.specs.Replay.{ReplayWords}
use Rattle.polis_words.specs.ReplayStem.{ReplayStemWords}
use Rattle.input_files.specs.JournalFiles.{LegalAndRising}
use Rattle.commands.specs.Explain.{items_product}
use Rattle.commands.specs.JournalProducts.{chart_product, product_of, replay_product, saving_of}
use Rattle.commands.specs.Judging.{IsJudged}
use Rattle.commands.specs.Watch.{watch_product}
use Rattle.polis_cli.specs.OneProduct.{ProductsOfTexts, chart_part, explained_names, no_stem, nothing}
use Rattle.commands.proofs.OneNet.{one_held_net}
use Rattle.polis_cli.proofs.Held.{first_same, one_journal, one_trace, others_same, same_answer}
use Rattle.polis_cli.proofs.OneProduct.{on_net_one}

-- ---- the network and the journal
-- two networks with their journals that the same texts give are one
record AreOne (a b : Network) (j k : List Entry) : Type 0 where
  net : a ≡ b
  journal : j ≡ k

judged_one : (one two : ReplayWords) (before now : Files) (a b : Network) (t u : List TraceItem)
    (j k : List Entry) (c d : Bool) → bytes_at before one.net ≡ bytes_at now two.net
    → bytes_at before one.journal ≡ bytes_at now two.journal → IsJudged one before a t j c
    → IsJudged two now b u k d → AreOne a b j k
judged_one one two before now a b t u j k c d nets journals x y =
    let net = one_held_net before now one.net two.net a b nets x.holds.holds_net y.holds.holds_net in
    record {
      net = net;
      journal = one_journal before now one.journal two.journal a b j k x.stamps y.stamps net
          journals x.holds.holds_journal y.holds.holds_journal;
    }

-- what is made of them is one, too
made_of : {X : Type 0} (f : Network → List Entry → X) (a b : Network) (j k : List Entry)
    → AreOne a b j k → f b k ≡ f a j
made_of f a b j k one = ap (f b) (sym one.journal) ∙ ap (λ (n : Network). f n j) (sym one.net)

pub on_journal_one : (kind : OnJournal) → ProductsOfTexts
    (λ (w : ReplayWords). requests.OnJournal kind w) (λ w. w.net ∷ w.journal ∷ []) nothing no_stem
on_journal_one kind one two before now p q texts says a b = (
  product_of kind a.net a.journal,
  a.made,
  b.made ∙ made_of (product_of kind) a.net b.net a.journal b.journal
      (judged_one one two before now a.net b.net a.trace b.trace a.journal b.journal a.complete
      b.complete (first_same texts) (first_same (others_same texts)) a.judged b.judged),
)

-- the chart of the entries that both ask for
pub chart_one : ProductsOfTexts requests.Chart (λ w. w.replay.net ∷ w.replay.journal ∷ [])
    chart_part no_stem
chart_one one two before now p q texts says a b = (
  chart_product one a.net a.journal,
  a.made,
  b.made ∙ made_of (chart_product two) a.net b.net a.journal b.journal
      (judged_one one.replay two.replay before now a.net b.net a.trace b.trace a.journal b.journal
      a.complete b.complete (first_same texts) (first_same (others_same texts)) a.judged
      b.judged)
      ∙ ap (λ (part : ℕ × ℕ). chart_product (record {
        replay = two.replay;
        from = part.0;
        to = part.1;
      }) a.net a.journal) (sym says),
)

pub wave_one : ProductsOfTexts (λ (w : ReplayStemWords). requests.FromJournal Wave w)
    (λ w. w.replay.net ∷ w.replay.journal ∷ []) nothing (λ w. w.stem)
wave_one one two before now p q texts says a b = (
  saving_of Wave [] a.net a.journal a.complete,
  a.made,
  b.made ∙ made_of (λ (n : Network) (j : List Entry). saving_of Wave two.stem n j a.complete) a.net
      b.net a.journal b.journal
      (judged_one one.replay two.replay before now a.net b.net a.trace b.trace a.journal b.journal
      a.complete b.complete (first_same texts) (first_same (others_same texts)) a.judged
      b.judged),
)

-- ---- monitors
-- a journal that is legal is one of its network
fits : (net : Network) (trace : List TraceItem) (journal : List Entry)
    (stamps : Option (List ℕ)) → LegalAndRising net trace journal stamps → IsJournal net journal
fits net trace journal None legal = legal.0
fits net trace journal (Some stamps) (legal, rising) = legal.0

pub watch_one : OneAnswer → ProductsOfTexts requests.Watch
    (λ w. w.replay.net ∷ w.replay.journal ∷ w.monitor ∷ []) nothing no_stem
watch_one law one two before now p q texts says a b =
    let is = judged_one one.replay two.replay before now a.net b.net a.trace b.trace a.journal
    b.journal a.complete b.complete (first_same texts) (first_same (others_same texts)) a.judged
    b.judged in
    let monitor = one_held_net before now one.monitor two.monitor a.monitor b.monitor
    (first_same (others_same (others_same texts))) a.monitors.holds b.monitors.holds in
    let again = subst (λ (n : Network). IsAnswer n a.monitor a.journal b.said) (sym is.net)
    (subst (λ (w : Network). IsAnswer b.net w a.journal b.said) (sym monitor)
    (subst (λ (j : List Entry). IsAnswer b.net b.monitor j b.said) (sym is.journal) b.answers)) in
    let said = law a.net a.monitor a.journal a.said b.said a.monitors.holds.accepted.1
    a.monitors.is_monitor (fits a.net a.trace a.journal a.judged.stamps a.judged.lawful) a.answers
    again in (
      watch_product a.monitor a.said,
      a.made,
      b.made ∙ ap (watch_product b.monitor) (sym said)
          ∙ ap (λ (w : Network). watch_product w a.said) (sym monitor),
    )

-- ---- the trace too
-- whether the journal is complete
complete_one : (one two : ReplayWords) (before now : Files) (a b : Network)
    (t u : List TraceItem) (j k : List Entry) (c d : Bool) → AreOne a b j k
    → bytes_at before one.trace ≡ bytes_at now two.trace → IsJudged one before a t j c
    → IsJudged two now b u k d → c ≡ d
complete_one one two before now a b t u j k c d is traces x y =
    let trace = one_trace before now one.trace two.trace a b t u is.net traces x.holds.holds_trace
    y.holds.holds_trace in
    same_answer c d (Complete b u k)
    (subst (λ (n : Network). IsTrue c ↔ Complete n u k) is.net
    (subst (λ (s : List TraceItem). IsTrue c ↔ Complete a s k) trace
    (subst (λ (e : List Entry). IsTrue c ↔ Complete a t e) is.journal x.ends))) y.ends

pub replay_one : ProductsOfTexts requests.Replay (λ w. w.net ∷ w.trace ∷ w.journal ∷ []) nothing
    no_stem
replay_one one two before now p q texts says a b =
    let is = judged_one one two before now a.net b.net a.trace b.trace a.journal b.journal
    a.complete b.complete (first_same texts) (first_same (others_same (others_same texts)))
    a.judged b.judged in
    let complete = complete_one one two before now a.net b.net a.trace b.trace a.journal b.journal
    a.complete b.complete is (first_same (others_same texts)) a.judged b.judged in (
      replay_product a.net a.journal a.complete,
      a.made,
      b.made ∙ ap (replay_product b.net b.journal) (sym complete)
          ∙ ap (λ (j : List Entry). replay_product a.net j a.complete) (sym is.journal),
    )

pub migrate_one : ProductsOfTexts (λ (w : ReplayStemWords). requests.FromJournal Migrate w)
    (λ w. w.replay.net ∷ w.replay.trace ∷ w.replay.journal ∷ []) nothing (λ w. w.stem)
migrate_one one two before now p q texts says a b =
    let is = judged_one one.replay two.replay before now a.net b.net a.trace b.trace a.journal
    b.journal a.complete b.complete (first_same texts)
    (first_same (others_same (others_same texts))) a.judged b.judged in
    let complete = complete_one one.replay two.replay before now a.net b.net a.trace b.trace
    a.journal b.journal a.complete b.complete is (first_same (others_same texts)) a.judged
    b.judged in (
      saving_of Migrate [] a.net a.journal a.complete,
      a.made,
      b.made ∙ ap (saving_of Migrate two.stem b.net b.journal) (sym complete)
          ∙ made_of (λ (n : Network) (j : List Entry). saving_of Migrate two.stem n j a.complete)
          a.net b.net a.journal b.journal is,
    )

-- as many files as are named
pub explain_one : ProductsOfTexts requests.Explain explained_names nothing no_stem
explain_one (Net one) (Net two) before now p q texts says a b =
    on_net_one Check one two before now p q texts says a b
explain_one (Trace one) (Trace two) before now p q texts says a b =
    let net = one_held_net before now one.net two.net a.net b.net (first_same texts) a.holds_net
    b.holds_net in
    let trace = one_trace before now one.trace two.trace a.net b.net a.trace b.trace net
    (first_same (others_same texts)) a.holds_trace b.holds_trace in
    (items_product a.trace, a.made, b.made ∙ ap items_product (sym trace))
explain_one (Journal one) (Journal two) before now p q texts says a b =
    replay_one one two before now p q texts says a b
explain_one (Net one) (Trace two) before now p q texts says a b = cc
explain_one (Net one) (Journal two) before now p q texts says a b = cc
explain_one (Trace one) (Net two) before now p q texts says a b = cc
explain_one (Trace one) (Journal two) before now p q texts says a b = cc
explain_one (Journal one) (Net two) before now p q texts says a b = cc
explain_one (Journal one) (Trace two) before now p q texts says a b = cc
