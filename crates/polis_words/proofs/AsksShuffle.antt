-- The drawn run that a command line asks for.
use Rattle.std.proofs.Common.{◌≡◌, ◌<◌, ◌^◌, ℕ, List, [], ◌∷◌, drop, slice_get, Some, sym, ap, subst, ◌∙◌, codes, decimal}
use Rattle.std.specs.Prelude.{unwrap_or}
use Rattle.std.proofs.lemmas.Fmt.{decimal_injective}
use Rattle.polis_base.specs.declared.limits.TheConstants.{ENTRIES_MAX}
use Rattle.polis_words.specs.declared.requests.order.GivenOrder.{GivenOrder}
use Rattle.polis_words.specs.declared.requests.order.GivenOrder.TheVariants.{Mixed}
use Rattle.polis_words.specs.FileWords.{IsFileWord}
use Rattle.polis_words.specs.RunOptions.{Said, AskOptions, DrawsOne}
use Rattle.polis_words.specs.Shuffle.{AskSettings, AsksShuffle, ShuffleWords, shuffle_form}
use Rattle.polis_words.specs.inner.Commands.{IsCommand}
use Rattle.polis_words.proofs.AskOptions.{one_asked_for}

-- the words after the first five are the options
words_are : (words : List (List ℕ)) (a b c d e : List ℕ) → slice_get words 0 ≡ Some a
    → slice_get words 1 ≡ Some b → slice_get words 2 ≡ Some c → slice_get words 3 ≡ Some d
    → slice_get words 4 ≡ Some e → words ≡ a ∷ b ∷ c ∷ d ∷ e ∷ drop 5 words
words_are [] a b c d e p q r s t = cc
words_are (v ∷ []) a b c d e p q r s t = cc
words_are (v ∷ w ∷ []) a b c d e p q r s t = cc
words_are (v ∷ w ∷ x ∷ []) a b c d e p q r s t = cc
words_are (v ∷ w ∷ x ∷ y ∷ []) a b c d e p q r s t = cc
words_are (v ∷ w ∷ x ∷ y ∷ z ∷ more) a b c d e p q r s t = cc

-- words that ask for a drawn run have options that say what it has
pub settings_asked : (words : List (List ℕ)) (shuffle : ShuffleWords) → AsksShuffle words shuffle
    → AskSettings (drop 5 words) shuffle.order shuffle.limit
settings_asked words shuffle a =
    subst (λ (o : List (List ℕ)). AskSettings o shuffle.order shuffle.limit)
    (sym (ap (drop 5) a.form)) a.asks

-- options say one order and one limit
one_setting : (words : List (List ℕ)) (o p : GivenOrder) (n m : ℕ) → AskSettings words o n
    → AskSettings words p m → (p ≡ o) × (m ≡ n)
one_setting words o p n m a b =
    let same = one_asked_for words a.said b.said a.asks b.asks in (
      b.order_is ∙ ap (λ (s : Said). unwrap_or s.order Mixed) same ∙ sym a.order_is,
      b.limit_is ∙ ap (λ (s : Said). unwrap_or s.limit ENTRIES_MAX) same ∙ sym a.limit_is,
    )

-- options that say more than an order and a limit are none of a drawn run
pub no_settings : (words : List (List ℕ)) (said : Said) → AskOptions words said
    → ¬ DrawsOne said → (order : GivenOrder) (limit : ℕ) → ¬ AskSettings words order limit
no_settings words said asks some order limit a =
    some (subst DrawsOne (sym (one_asked_for words a.said said a.asks asks)) a.draws_one)

-- the command line asks for this drawn run
pub shuffle_asked : (words : List (List ℕ)) (shuffle : ShuffleWords)
    → IsCommand words (codes "shuffle")
    → slice_get words 1 ≡ Some shuffle.net → slice_get words 2 ≡ Some shuffle.trace
    → slice_get words 3 ≡ Some shuffle.stem → slice_get words 4 ≡ Some (decimal shuffle.seed)
    → IsFileWord shuffle.net → IsFileWord shuffle.trace → IsFileWord shuffle.stem
    → shuffle.seed < 2 ^ 64 → AskSettings (drop 5 words) shuffle.order shuffle.limit
    → AsksShuffle words shuffle
shuffle_asked words shuffle a b c d e net trace stem seed asks = record {
  options = drop 5 words;
  form = words_are words (codes "shuffle") shuffle.net shuffle.trace shuffle.stem
      (decimal shuffle.seed) a b c d e;
  net = net;
  trace = trace;
  stem = stem;
  seed = seed;
  asks = asks;
}

-- and for no other
pub one_shuffle : (words : List (List ℕ)) (a b : ShuffleWords) → AsksShuffle words a
    → AsksShuffle words b → a ≡ b
one_shuffle words a b asks again =
    let forms : shuffle_form a asks.options ≡ shuffle_form b again.options =
    sym asks.form ∙ again.form in
    let net : a.net ≡ b.net = cc in
    let trace : a.trace ≡ b.trace = cc in
    let stem : a.stem ≡ b.stem = cc in
    let text : decimal a.seed ≡ decimal b.seed = cc in
    let seed = decimal_injective a.seed b.seed asks.seed again.seed text in
    let said = one_setting (drop 5 words) b.order a.order b.limit a.limit
    (settings_asked words b again) (settings_asked words a asks) in
    λ i. record {
      net = net i;
      trace = trace i;
      stem = stem i;
      seed = seed i;
      order = said.0 i;
      limit = said.1 i;
    }
