-- Surveys of the runs that are drawn from neighbouring seeds.
use Rattle.std.proofs.Common.{◌≡◌, ◌⊎◌, ◌↔◌, Bool, IsTrue, ℕ, zero, suc, ◌+◌, ◌-◌, ◌<◌, ◌≤◌, List, [], ◌∷◌, ◌++◌, length, slice_get, Option, Some, None, refl, sym, ap, subst, ◌∙◌, inl, inr, arith}
use Rattle.std.proofs.lemmas.Bool.{cases_lt}
use Rattle.std.proofs.lemmas.List.{length-append, length-map}
use Rattle.std.proofs.lemmas.Option.{same_Some}
use Rattle.transition_table.specs.declared.network.Network.{Network}
use Rattle.journals.specs.declared.entry.Entry.{Entry}
use Rattle.journals.specs.declared.entry.TraceItem.{TraceItem}
use Rattle.journals.specs.Legality.{Complete}
use Rattle.run_shuffle.specs.declared.order.Order.{Order}
use Rattle.run_shuffle.specs.Shuffles.{IsShuffled}
use Rattle.run_watch.specs.declared.answer.Watched.{Watched}
use Rattle.run_survey.specs.declared.figures.Figures.{Figures}
use Rattle.run_survey.specs.declared.told.Survey.{Survey}
use Rattle.run_survey.specs.Figures.{figures_of}
use Rattle.run_survey.specs.Joins.{CoversBoth, TellsBoth}
use Rattle.run_survey.specs.Kinds.{most_kinds}
use Rattle.run_survey.specs.Runs.{AreFiguresFrom, AreFiguresOf, IsShapedBy, IsSurveyOf}
use Rattle.run_survey.specs.Surveys.{AreAlike, IsOfRuns, IsSurvey, texts_of}
use Rattle.run_survey.specs.Watching.{IsSaid}
use Rattle.run_survey.proofs.OtherTexts.{none_beyond}
use Rattle.polis_base.proofs.Places.{get_left, get_right}

-- the figures that are made of a drawn run
pub drawn_figures : (net own : Network) (monitor : Option Network) (trace : List TraceItem)
    (order : Order) (limit seed : ℕ) (journal : List Entry) (complete : Bool)
    (said : Option Watched) (f : Figures) → own ≡ net
    → IsShuffled net trace seed order limit journal
    → (IsTrue complete ↔ Complete net trace journal) → f ≡ figures_of own journal complete said
    → IsSaid net monitor journal said → AreFiguresOf net monitor trace order limit seed f
drawn_figures net own monitor trace order limit seed journal complete said f same shuffled ends is
    says =
    let flag : f.complete ≡ complete = ap (λ (g : Figures). g.complete) is in
    let told : f.watched ≡ said = ap (λ (g : Figures). g.watched) is in
    record {
      journal = journal;
      shuffled = shuffled;
      ends = subst (λ (b : Bool). IsTrue b ↔ Complete net trace journal) (sym flag) ends;
      are = is ∙ ap (λ (n : Network). figures_of n journal complete said) same
          ∙ ap (λ (b : Bool). figures_of net journal b said) (sym flag)
          ∙ ap (figures_of net journal f.complete) (sym told);
      said =
          subst (λ (w : Option Watched). IsSaid net monitor journal w) (sym told) says;
    }

module _ (net : Network) (monitor : Option Network) (trace : List TraceItem) (order : Order) (limit : ℕ) where
  -- ---- of one run
  one_from : (seed : ℕ) (f : Figures) → AreFiguresOf net monitor trace order limit seed f
      → (k : ℕ) (one : Figures) → slice_get (f ∷ []) k ≡ Some one
      → AreFiguresOf net monitor trace order limit (seed + k) one
  one_from seed f are zero one at =
      subst (λ (g : Figures). AreFiguresOf net monitor trace order limit (seed + 0) g) (same_Some f one at)
      (subst (λ (n : ℕ). AreFiguresOf net monitor trace order limit n f)
      (let e : seed ≡ seed + 0 = omega arith in e) are)
  one_from seed f are (suc k) one at = let h : None ≡ Some one = at in absurd (cc)

  pub one_run : (seed : ℕ) (f : Figures) (s : Survey)
      → AreFiguresOf net monitor trace order limit seed f → IsSurvey seed (f ∷ []) s
      → IsSurveyOf net monitor trace order limit seed 1 s
  one_run seed f s are told = record {
    figures = f ∷ [];
    drawn = record { many = refl; each = one_from seed f are };
    told = told;
  }

  -- ---- of all
  joined_from : (seed a b : ℕ) (xs ys : List Figures)
      → AreFiguresFrom net monitor trace order limit seed a xs
      → AreFiguresFrom net monitor trace order limit (seed + a) b ys
      → AreFiguresFrom net monitor trace order limit seed (a + b) (xs ++ ys)
  joined_from seed a b xs ys one next = record {
    many =
        (let both = length-append xs ys in
        let few = one.many in
        let more = next.many in
        omega arith);
    each = λ k f at. cases k f at (cases_lt k (length xs));
  }
    where
      cases : (k : ℕ) (f : Figures) → slice_get (xs ++ ys) k ≡ Some f
          → ((k < length xs) ⊎ (length xs ≤ k)) → AreFiguresOf net monitor trace order limit (seed + k) f
      cases k f at (inl low) = one.each k f (sym (get_left xs ys k low) ∙ at)
      cases k f at (inr high) =
          let j : ℕ = k - length xs in
          let place : length xs + j ≡ k = omega arith in
          let there : slice_get ys j ≡ Some f =
          sym (get_right xs ys j) ∙ ap (slice_get (xs ++ ys)) place ∙ at in
          let few = one.many in
          subst (λ (n : ℕ). AreFiguresOf net monitor trace order limit n f)
          (let e : seed + a + j ≡ seed + k = omega arith in e)
          (next.each j f there)

  -- ---- what joining asks for
  pub of_runs : (seed a : ℕ) (s : Survey) → IsSurveyOf net monitor trace order limit seed a s → IsOfRuns s
  of_runs seed a s of =
      (of.figures, subst (λ (n : ℕ). IsSurvey n of.figures s) (sym of.told.seed) of.told)

  pub runs_are : (seed a : ℕ) (s : Survey) → IsSurveyOf net monitor trace order limit seed a s
      → s.runs ≡ a
  runs_are seed a s of = of.told.runs ∙ of.drawn.many

  -- by what the survey itself says of its runs
  pub of_own : (seed a : ℕ) (s : Survey) → IsSurveyOf net monitor trace order limit seed a s
      → IsSurveyOf net monitor trace order limit s.seed s.runs s
  of_own seed a s of =
      subst (λ (n : ℕ). IsSurveyOf net monitor trace order limit n s.runs s) (sym of.told.seed)
      (subst (λ (n : ℕ). IsSurveyOf net monitor trace order limit seed n s)
      (sym (runs_are seed a s of)) of)

  pub one_more : (seed a : ℕ) (s new : Survey) → IsSurveyOf net monitor trace order limit seed a s
      → IsSurveyOf net monitor trace order limit s.seed (s.runs + 1) new
      → IsSurveyOf net monitor trace order limit seed (a + 1) new
  one_more seed a s new of more =
      subst (λ (n : ℕ). IsSurveyOf net monitor trace order limit n (a + 1) new) of.told.seed
      (subst (λ (n : ℕ). IsSurveyOf net monitor trace order limit s.seed (n + 1) new)
      (runs_are seed a s of) more)

  pub neighbours : (seed a b : ℕ) (s t : Survey) → IsSurveyOf net monitor trace order limit seed a s
      → IsSurveyOf net monitor trace order limit (seed + a) b t → t.seed ≡ s.seed + s.runs
  neighbours seed a b s t of next =
      let one = of.told.seed in
      let other = next.told.seed in
      let many = runs_are seed a s of in
      omega arith

  pub few_runs : (seed a : ℕ) (s : Survey) → IsSurveyOf net monitor trace order limit seed a s
      → a ≤ most_kinds → s.others ≡ None
  few_runs seed a s of few =
      let many = of.drawn.many in
      let size = length-map of.figures (λ (f : Figures). f.outputs) in
      of.told.others ∙ none_beyond most_kinds seed (texts_of of.figures) (omega arith)

-- so the survey of both is of all these runs
pub covers_both : (one next all : Survey) → TellsBoth one next all → CoversBoth one next all
covers_both one next all tells net monitor trace order limit seed a b of more = record {
  figures = of.figures ++ more.figures;
  drawn =
      joined_from net monitor trace order limit seed a b of.figures more.figures of.drawn
      more.drawn;
  told =
      tells seed of.figures more.figures of.told
      (subst (λ (n : ℕ). IsSurvey (seed + n) more.figures next) (sym of.drawn.many) more.told);
}

pub alike : (net : Network) (monitor : Option Network) (s t : Survey) → IsShapedBy net monitor s
    → IsShapedBy net monitor t → AreAlike s t
alike net monitor s t one other = record {
  lost = one.lost ∙ sym other.lost;
  unused = one.unused ∙ sym other.unused;
  jammed = one.jammed ∙ sym other.jammed;
  taken = one.taken ∙ sym other.taken;
}
