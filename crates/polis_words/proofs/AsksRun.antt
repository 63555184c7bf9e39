-- The run that a command line asks for.
use Rattle.std.proofs.Common.{◌≡◌, ℕ, List, [], ◌∷◌, drop, slice_get, Some, sym, ap, subst, ◌∙◌, codes}
use Rattle.std.specs.Prelude.{unwrap_or}
use Rattle.polis_base.specs.declared.limits.TheConstants.{ENTRIES_MAX}
use Rattle.polis_words.specs.Run.{RunWords, AsksRun, run_form}
use Rattle.polis_words.specs.RunOptions.{Said, AskOptions, DrawsNothing}
use Rattle.polis_words.proofs.AskOptions.{one_asked_for}

-- the words after the first four are the options
pub words_are : (words : List (List ℕ)) (a b c d : List ℕ) → slice_get words 0 ≡ Some a
    → slice_get words 1 ≡ Some b → slice_get words 2 ≡ Some c → slice_get words 3 ≡ Some d
    → words ≡ a ∷ b ∷ c ∷ d ∷ drop 4 words
words_are [] a b c d p q r s = cc
words_are (w ∷ []) a b c d p q r s = cc
words_are (w ∷ x ∷ []) a b c d p q r s = cc
words_are (w ∷ x ∷ y ∷ []) a b c d p q r s = cc
words_are (w ∷ x ∷ y ∷ z ∷ more) a b c d p q r s = cc

-- words that ask for a run have options that say what it has
pub options_asked : (words : List (List ℕ)) (run : RunWords) (a : AsksRun words run)
    → AskOptions (drop 4 words) a.said
options_asked words run a =
    subst (λ (o : List (List ℕ)). AskOptions o a.said) (sym (ap (drop 4) a.form)) a.asks

-- words whose options say something of drawn runs ask for no run
pub no_drawn : (words : List (List ℕ)) (said : Said) → AskOptions (drop 4 words) said
    → ¬ DrawsNothing said → (run : RunWords) → ¬ AsksRun words run
no_drawn words said asks some run a =
    some (subst DrawsNothing
    (sym (one_asked_for (drop 4 words) a.said said (options_asked words run a) asks))
    a.draws_nothing)

-- the run of these names and options
abbrev pub run_with : List ℕ → List ℕ → List ℕ → Said → RunWords
run_with net trace stem said = record {
  net = net;
  trace = trace;
  stem = stem;
  workers = unwrap_or said.workers 1;
  limit = unwrap_or said.limit ENTRIES_MAX;
  image = said.image;
}

-- words ask for one run
pub one_run : (words : List (List ℕ)) (first net trace stem : List ℕ) (said : Said)
    (other : RunWords)
    → slice_get words 0 ≡ Some first → slice_get words 1 ≡ Some net
    → slice_get words 2 ≡ Some trace → slice_get words 3 ≡ Some stem
    → AskOptions (drop 4 words) said → AsksRun words other
    → other ≡ run_with net trace stem said
one_run words first net trace stem said other a b c d asks_options asks =
    let forms : run_form other asks.options ≡ first ∷ net ∷ trace ∷ stem ∷ drop 4 words =
    sym asks.form ∙ words_are words first net trace stem a b c d in
    let same_net : other.net ≡ net = cc in
    let same_trace : other.trace ≡ trace = cc in
    let same_stem : other.stem ≡ stem = cc in
    let same = one_asked_for (drop 4 words) said asks.said asks_options
    (options_asked words other asks) in
    let workers = asks.workers ∙ ap (λ (s : Said). unwrap_or s.workers 1) same in
    let limit = asks.limit ∙ ap (λ (s : Said). unwrap_or s.limit ENTRIES_MAX) same in
    let image = asks.image ∙ ap (λ (s : Said). s.image) same in
    λ i. record {
      net = same_net i;
      trace = same_trace i;
      stem = same_stem i;
      workers = workers i;
      limit = limit i;
      image = image i;
    }

-- words ask for one run at most
pub one_asked : (words : List (List ℕ)) (run other : RunWords) → AsksRun words run
    → AsksRun words other → other ≡ run
one_asked words run other asks again =
    let that = one_run words (codes "run") run.net run.trace run.stem asks.said other
    (ap (λ (w : List (List ℕ)). slice_get w 0) asks.form)
    (ap (λ (w : List (List ℕ)). slice_get w 1) asks.form)
    (ap (λ (w : List (List ℕ)). slice_get w 2) asks.form)
    (ap (λ (w : List (List ℕ)). slice_get w 3) asks.form)
    (options_asked words run asks) again in
    that ∙ (λ i. record {
      net = run.net;
      trace = run.trace;
      stem = run.stem;
      workers = sym asks.workers i;
      limit = sym asks.limit i;
      image = sym asks.image i;
    })
