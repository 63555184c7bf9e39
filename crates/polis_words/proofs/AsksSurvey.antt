-- The survey that a command line asks for.
use Rattle.std.proofs.Common.{◌≡◌, ◌+◌, ◌≤◌, ◌<◌, ◌^◌, ℕ, List, ◌∷◌, drop, slice_get, Some, sym, ap, subst, ◌∙◌, arith, codes, decimal}
use Rattle.std.specs.Prelude.{unwrap_or}
use Rattle.std.proofs.lemmas.Fmt.{decimal_injective}
use Rattle.polis_base.specs.declared.limits.TheConstants.{ENTRIES_MAX, RUNS_MAX}
use Rattle.polis_words.specs.declared.requests.order.GivenOrder.TheVariants.{Mixed}
use Rattle.polis_words.specs.RunOptions.{Said, AskOptions, DrawsMany}
use Rattle.polis_words.specs.Survey.{AsksSurvey, SurveyWords, survey_form}
use Rattle.polis_words.proofs.AskOptions.{one_asked_for}
use Rattle.polis_words.proofs.AsksRun.{words_are}
use Rattle.polis_base.proofs.Places.{same_some}

-- words that ask for a survey have options that say what it has
pub options_surveyed : (words : List (List ℕ)) (survey : SurveyWords) (a : AsksSurvey words survey)
    → AskOptions (drop 4 words) a.asks.said
options_surveyed words survey a =
    subst (λ (o : List (List ℕ)). AskOptions o a.asks.said) (sym (ap (drop 4) a.form)) a.asks.asks

-- words with an option of another command ask for no survey
pub no_survey : (words : List (List ℕ)) (said : Said) → AskOptions (drop 4 words) said
    → ¬ DrawsMany said → (survey : SurveyWords) → ¬ AsksSurvey words survey
no_survey words said asks other survey a =
    other (subst DrawsMany
    (sym (one_asked_for (drop 4 words) a.asks.said said (options_surveyed words survey a) asks))
    a.asks.draws_many)

-- the survey of these names, so many runs and options
abbrev pub survey_with : List ℕ → List ℕ → ℕ → Said → SurveyWords
survey_with net trace runs said = record {
  net = net;
  trace = trace;
  runs = runs;
  seed = unwrap_or said.seed 0;
  order = unwrap_or said.order Mixed;
  limit = unwrap_or said.limit ENTRIES_MAX;
  workers = unwrap_or said.workers 1;
  monitor = said.watch;
}

-- the fourth word is the number of runs
fourth : (words : List (List ℕ)) (survey : SurveyWords) → AsksSurvey words survey
    → slice_get words 3 ≡ Some (decimal survey.runs)
fourth words survey a = ap (λ (w : List (List ℕ)). slice_get w 3) a.form

-- where it is no number from 1 to the most, no survey is asked for
pub no_runs : (words : List (List ℕ)) (word : List ℕ) → slice_get words 3 ≡ Some word
    → ((n : ℕ) → n ≤ RUNS_MAX → 1 ≤ n → word ≡ decimal n → ⊥)
    → (survey : SurveyWords) → ¬ AsksSurvey words survey
no_runs words word at none survey a =
    none survey.runs a.few a.some
    (same_some (slice_get words 3) word (decimal survey.runs) at (fourth words survey a))

-- where the last seed isn't below 2^64, none is
pub too_many : (words : List (List ℕ)) (runs seed : ℕ) (said : Said)
    → slice_get words 3 ≡ Some (decimal runs) → runs < 2 ^ 64 → AskOptions (drop 4 words) said
    → seed ≡ unwrap_or said.seed 0 → 2 ^ 64 < seed + runs
    → (survey : SurveyWords) → ¬ AsksSurvey words survey
too_many words runs seed said at small asks is many survey a =
    let text = same_some (slice_get words 3) (decimal survey.runs) (decimal runs)
    (fourth words survey a) at in
    let few = a.few in
    let below : survey.runs < 2 ^ 64 = omega (arith, few) in
    let same_runs = decimal_injective survey.runs runs below small text in
    let same = one_asked_for (drop 4 words) said a.asks.said asks
    (options_surveyed words survey a) in
    let seed_is = a.asks.seed ∙ ap (λ (s : Said). unwrap_or s.seed 0) same in
    let seeds = a.seeds in
    omega (arith, seeds, same_runs, seed_is, is, many)

-- words ask for one survey
pub one_survey : (words : List (List ℕ)) (first net trace : List ℕ) (runs : ℕ) (said : Said)
    (other : SurveyWords)
    → slice_get words 0 ≡ Some first → slice_get words 1 ≡ Some net
    → slice_get words 2 ≡ Some trace → slice_get words 3 ≡ Some (decimal runs) → runs < 2 ^ 64
    → AskOptions (drop 4 words) said → AsksSurvey words other
    → other ≡ survey_with net trace runs said
one_survey words first net trace runs said other a b c d small asks_options asks =
    let forms : survey_form other asks.options ≡ first ∷ net ∷ trace ∷ decimal runs ∷ drop 4 words =
    sym asks.form ∙ words_are words first net trace (decimal runs) a b c d in
    let same_net : other.net ≡ net = cc in
    let same_trace : other.trace ≡ trace = cc in
    let text : decimal other.runs ≡ decimal runs = cc in
    let few = asks.few in
    let below : other.runs < 2 ^ 64 = omega (arith, few) in
    let same_runs = decimal_injective other.runs runs below small text in
    let same = one_asked_for (drop 4 words) said asks.asks.said asks_options
    (options_surveyed words other asks) in
    let seed = asks.asks.seed ∙ ap (λ (s : Said). unwrap_or s.seed 0) same in
    let order = asks.asks.order ∙ ap (λ (s : Said). unwrap_or s.order Mixed) same in
    let limit = asks.asks.limit ∙ ap (λ (s : Said). unwrap_or s.limit ENTRIES_MAX) same in
    let workers = asks.asks.workers ∙ ap (λ (s : Said). unwrap_or s.workers 1) same in
    let monitor = asks.asks.monitor ∙ ap (λ (s : Said). s.watch) same in
    λ i. record {
      net = same_net i;
      trace = same_trace i;
      runs = same_runs i;
      seed = seed i;
      order = order i;
      limit = limit i;
      workers = workers i;
      monitor = monitor i;
    }

-- words ask for one survey at most
pub one_surveyed : (words : List (List ℕ)) (a b : SurveyWords) → AsksSurvey words a
    → AsksSurvey words b → a ≡ b
one_surveyed words a b asks again =
    let few = again.few in
    let small : b.runs < 2 ^ 64 = omega (arith, few) in
    one_survey words (codes "survey") b.net b.trace b.runs again.asks.said a
    (ap (λ (w : List (List ℕ)). slice_get w 0) again.form)
    (ap (λ (w : List (List ℕ)). slice_get w 1) again.form)
    (ap (λ (w : List (List ℕ)). slice_get w 2) again.form)
    (fourth words b again) small (options_surveyed words b again) asks
    ∙ (λ i. record {
      net = b.net;
      trace = b.trace;
      runs = b.runs;
      seed = sym again.asks.seed i;
      order = sym again.asks.order i;
      limit = sym again.asks.limit i;
      workers = sym again.asks.workers i;
      monitor = sym again.asks.monitor i;
    })
