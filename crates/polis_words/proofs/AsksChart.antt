-- The chart that a command line asks for.
use Rattle.std.proofs.Common.{◌≡◌, ℕ, List, drop, slice_get, Some, sym, ap, subst, ◌∙◌, codes}
use Rattle.std.specs.Prelude.{unwrap_or}
use Rattle.polis_base.specs.declared.limits.TheConstants.{ENTRIES_MAX}
use Rattle.polis_words.specs.Chart.{AskPart, AsksChart, ChartWords, chart_form}
use Rattle.polis_words.specs.Replay.{ReplayWords, AreFileWords}
use Rattle.polis_words.specs.RunOptions.{Said, AskOptions, ShowsPart}
use Rattle.polis_words.specs.inner.Commands.{IsCommand}
use Rattle.polis_words.proofs.AskOptions.{one_asked_for}
use Rattle.polis_words.proofs.AsksRun.{words_are}

-- words that ask for a chart have options that say which entries it shows
pub part_asked : (words : List (List ℕ)) (chart : ChartWords) → AsksChart words chart
    → AskPart (drop 4 words) chart.from chart.to
part_asked words chart a =
    subst (λ (o : List (List ℕ)). AskPart o chart.from chart.to) (sym (ap (drop 4) a.form)) a.asks

-- and its files at their places
pub record FilesAt (words : List (List ℕ)) (replay : ReplayWords) : Type 0 where
  pub net : slice_get words 1 ≡ Some replay.net
  pub trace : slice_get words 2 ≡ Some replay.trace
  pub journal : slice_get words 3 ≡ Some replay.journal

pub files_asked : (words : List (List ℕ)) (chart : ChartWords) → AsksChart words chart
    → FilesAt words chart.replay
files_asked words chart a = record {
  net = ap (λ (w : List (List ℕ)). slice_get w 1) a.form;
  trace = ap (λ (w : List (List ℕ)). slice_get w 2) a.form;
  journal = ap (λ (w : List (List ℕ)). slice_get w 3) a.form;
}

-- options say one first entry and one end
one_part : (words : List (List ℕ)) (a b c d : ℕ) → AskPart words a b → AskPart words c d
    → (c ≡ a) × (d ≡ b)
one_part words a b c d p q =
    let same = one_asked_for words p.said q.said p.asks q.asks in (
      q.from_is ∙ ap (λ (s : Said). unwrap_or s.from 0) same ∙ sym p.from_is,
      q.to_is ∙ ap (λ (s : Said). unwrap_or s.to ENTRIES_MAX) same ∙ sym p.to_is,
    )

-- options that say more than which entries are shown are none of a chart
pub no_part : (words : List (List ℕ)) (said : Said) → AskOptions words said
    → ¬ ShowsPart said → (from to : ℕ) → ¬ AskPart words from to
no_part words said asks more from to a =
    more (subst ShowsPart (sym (one_asked_for words a.said said a.asks asks)) a.shows_part)

-- the command line asks for this chart
pub chart_asked : (words : List (List ℕ)) (chart : ChartWords) → IsCommand words (codes "chart")
    → slice_get words 1 ≡ Some chart.replay.net → slice_get words 2 ≡ Some chart.replay.trace
    → slice_get words 3 ≡ Some chart.replay.journal → AreFileWords chart.replay
    → AskPart (drop 4 words) chart.from chart.to → AsksChart words chart
chart_asked words chart a b c d files asks = record {
  options = drop 4 words;
  form = words_are words (codes "chart") chart.replay.net chart.replay.trace chart.replay.journal
      a b c d;
  files = files;
  asks = asks;
}

-- and for no other
pub one_charted : (words : List (List ℕ)) (a b : ChartWords) → AsksChart words a
    → AsksChart words b → a ≡ b
one_charted words a b asks again =
    let forms : chart_form a.replay asks.options ≡ chart_form b.replay again.options =
    sym asks.form ∙ again.form in
    let net : a.replay.net ≡ b.replay.net = cc in
    let trace : a.replay.trace ≡ b.replay.trace = cc in
    let journal : a.replay.journal ≡ b.replay.journal = cc in
    let part = one_part (drop 4 words) b.from b.to a.from a.to
    (part_asked words b again) (part_asked words a asks) in
    λ i. record {
      replay = record { net = net i; trace = trace i; journal = journal i };
      from = part.0 i;
      to = part.1 i;
    }
