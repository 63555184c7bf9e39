-- The survey of ten runs of two machines that read one event.
use Rattle.std.proofs.Common.{◌≡◌, ℕ, zero, suc, ◌+◌, true, List, [], ◌∷◌, ◌++◌, All, length, replicate, slice_get, Some, None, codes, refl, sym, ap, subst, ◌∙◌, inr, lit<, arith}
use Rattle.std.specs.Fmt.{digits}
use Rattle.std.proofs.lemmas.List.Elements.{All-replicate}
use Rattle.std.proofs.lemmas.Option.{same_Some}
use Rattle.polis_base.specs.Lines.{line}
use Rattle.journals.specs.Runs.{two_by_priority_run, two_by_priority_trace}
use Rattle.journals.specs.Samples.{two}
use Rattle.journals.specs.declared.entry.Entry.{Entry}
use Rattle.run_shuffle.specs.Laws.{FewerIsComplete}
use Rattle.run_shuffle.specs.Shuffles.{IsShuffled}
use Rattle.run_shuffle.specs.Worked.{a_before_b, b_before_a}
use Rattle.run_shuffle.specs.declared.order.Order.TheVariants.{Mixed}
use Rattle.run_shuffle.proofs.DrawnEntries.{shuffled}
use Rattle.run_survey.specs.declared.figures.Figures.{Figures}
use Rattle.run_survey.specs.declared.told.Spread.{Spread}
use Rattle.run_survey.specs.declared.told.Survey.{Survey}
use Rattle.run_survey.specs.Figures.{figures_of}
use Rattle.run_survey.specs.Runs.{AreFiguresOf, IsSurveyOf}
use Rattle.run_survey.specs.Spreads.{AreSpreads, column, spread_of}
use Rattle.run_survey.specs.SurveyLines.{survey_lines}
use Rattle.run_survey.specs.Surveys.{IsSurvey}
use Rattle.run_survey.specs.Two.{TellsTen, a_first, b_first, nothing, once_each, ten_figures, two_figures}
use Rattle.run_survey.proofs.OneSurvey.{same_text}

-- the figures of the runs from a seed on, one after another
abbrev AreInTurn : ℕ → List Figures → Type 0
AreInTurn seed [] = Unit {0}
AreInTurn seed (f ∷ figures) =
    AreFiguresOf (two 2 1) None two_by_priority_trace Mixed 60000 seed f × AreInTurn (seed + 1) figures

each_in_turn : (figures : List Figures) (seed k : ℕ) (one : Figures)
    → AreInTurn seed figures → slice_get figures k ≡ Some one
    → AreFiguresOf (two 2 1) None two_by_priority_trace Mixed 60000 (seed + k) one
each_in_turn [] seed k one are at = cc
each_in_turn (f ∷ figures) seed zero one are at =
    let same : f ≡ one = cc in
    subst (λ (g : Figures). AreFiguresOf (two 2 1) None two_by_priority_trace Mixed 60000 (seed + 0) g)
    same
    (subst (λ (n : ℕ). AreFiguresOf (two 2 1) None two_by_priority_trace Mixed 60000 n f)
    (let e : seed ≡ seed + 0 = omega arith in e) are.0)
each_in_turn (f ∷ figures) seed (suc k) one are at =
    subst (λ (n : ℕ). AreFiguresOf (two 2 1) None two_by_priority_trace Mixed 60000 n one)
    (let e : seed + 1 + k ≡ seed + suc k = omega arith in e)
    (each_in_turn figures (seed + 1) k one are.1 at)

module _ (law : FewerIsComplete) where
  one_of : (seed : ℕ) (journal : List Entry) (f : Figures)
      → IsShuffled (two 2 1) two_by_priority_trace seed Mixed 60000 journal
      → length journal ≡ 4 → f.complete ≡ true → f ≡ figures_of (two 2 1) journal f.complete f.watched
      → f.watched ≡ None
      → AreFiguresOf (two 2 1) None two_by_priority_trace Mixed 60000 seed f
  one_of seed journal f drawn size flag are none = record {
    journal = journal;
    shuffled = drawn;
    ends = (
      λ _. law (two 2 1) two_by_priority_trace seed Mixed 60000 journal refl drawn
          (omega (arith, size)),
      λ _. flag,
    );
    are = are;
    said = none;
  }

  a_run : (seed : ℕ) → IsShuffled (two 2 1) two_by_priority_trace seed Mixed 60000 a_before_b
      → AreFiguresOf (two 2 1) None two_by_priority_trace Mixed 60000 seed (two_figures a_first)
  a_run seed drawn = one_of seed a_before_b (two_figures a_first) drawn refl refl refl refl

  ten_in_turn : AreInTurn 0 ten_figures
  ten_in_turn = (
    a_run 0 (shuffled refl (inr (lit< tt, refl))),
    (
      a_run 1 (shuffled refl (inr (lit< tt, refl))),
      (
        one_of 2 two_by_priority_run (two_figures b_first) (shuffled refl (inr (lit< tt, refl)))
            refl refl refl refl,
        (
          a_run 3 (shuffled refl (inr (lit< tt, refl))),
          (
            a_run 4 (shuffled refl (inr (lit< tt, refl))),
            (
              one_of 5 b_before_a (two_figures b_first) (shuffled refl (inr (lit< tt, refl))) refl
                  refl refl refl,
              (
                a_run 6 (shuffled refl (inr (lit< tt, refl))),
                (
                  a_run 7 (shuffled refl (inr (lit< tt, refl))),
                  (
                    a_run 8 (shuffled refl (inr (lit< tt, refl))),
                    (a_run 9 (shuffled refl (inr (lit< tt, refl))), tt),
                  ),
                ),
              ),
            ),
          ),
        ),
      ),
    ),
  )

-- ---- what is told of them

two_spreads : (row : List ℕ) (lists : List (List ℕ)) (a b : Spread) (s : List Spread)
    → lists ≡ replicate 10 row → length row ≡ 2 → s ≡ a ∷ b ∷ []
    → a ≡ spread_of 0 (column 0 lists) → b ≡ spread_of 0 (column 1 lists) → AreSpreads 0 lists s
two_spreads row lists a b s rows long are first second = record {
  long = subst (All (λ (l : List ℕ). length l ≡ length s)) (sym rows)
      (All-replicate (λ (l : List ℕ). length l ≡ length s) 10 row
      (long ∙ sym (ap (λ (l : List Spread). length l) are)));
  each = λ place t at. cases place t (ap (λ (l : List Spread). slice_get l place) (sym are) ∙ at);
}
  where
    cases : (place : ℕ) (t : Spread) → slice_get (a ∷ b ∷ []) place ≡ Some t
        → t ≡ spread_of 0 (column place lists)
    cases zero t at = sym (same_Some a t at) ∙ first
    cases (suc zero) t at = sym (same_Some b t at) ∙ second
    cases (suc (suc k)) t at = let clash : None ≡ Some t = at in cc

ten_told : (s : Survey) → TellsTen s → IsSurvey 0 ten_figures s
ten_told s tells = record {
  some = lit< tt;
  seed = tells.seed;
  runs = tells.runs;
  complete = tells.complete;
  kinds = tells.kinds;
  others = tells.others;
  found = tells.found;
  unfinished = tells.unfinished;
  lost = two_spreads (0 ∷ 0 ∷ []) (replicate 10 (0 ∷ 0 ∷ [])) nothing nothing s.lost refl refl
      tells.lost refl refl;
  unused = two_spreads (0 ∷ 0 ∷ []) (replicate 10 (0 ∷ 0 ∷ [])) nothing nothing s.unused refl refl
      tells.unused refl refl;
  jammed = two_spreads (0 ∷ 0 ∷ []) (replicate 10 (0 ∷ 0 ∷ [])) nothing nothing s.jammed refl refl
      tells.jammed refl refl;
  taken = two_spreads (1 ∷ 1 ∷ []) (replicate 10 (1 ∷ 1 ∷ [])) once_each once_each s.taken refl
      refl tells.taken refl refl;
}

pub ten_survey : FewerIsComplete → (s : Survey) → TellsTen s
    → IsSurveyOf (two 2 1) None two_by_priority_trace Mixed 60000 0 10 s
ten_survey law s tells = record {
  figures = ten_figures;
  drawn = record {
    many = refl;
    each = λ k one at. each_in_turn ten_figures 0 k one (ten_in_turn law) at;
  };
  told = ten_told s tells;
}

pub ten_text : (s : Survey) → TellsTen s → survey_lines (two 2 1) None s
    ≡ line (codes "runs 10 complete 10") ++ line (codes "kinds 2")
    ++ line (codes "kind 8 seed 0 outputs 2 : ya yb")
    ++ line (codes "kind 2 seed 2 outputs 2 : yb ya")
unfolding digits
ten_text s tells =
    same_text (two 2 1) None s tells.runs tells.complete tells.kinds tells.others tells.lost
    tells.unused tells.jammed tells.taken tells.found tells.unfinished
    ∙ refl
