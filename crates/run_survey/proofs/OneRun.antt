-- The survey of one run.
use Rattle.std.proofs.Common.{◌≡◌, ℕ, ◌+◌, Bool, true, false, cond, not, List, [], ◌∷◌, bytes_eq, count_by, None, refl, sym, ap, ◌∙◌, arith}
use Rattle.run_survey.specs.declared.figures.Figures.{Figures}
use Rattle.run_survey.specs.declared.told.Kind.{Kind}
use Rattle.run_survey.specs.declared.told.Survey.{Survey}
use Rattle.run_survey.specs.Kinds.{kind_of, most_kinds}
use Rattle.run_survey.specs.Surveys.{IsSurvey}
use Rattle.run_survey.specs.Watching.{found_runs, unfinished_runs}
use Rattle.run_survey.specs.inner.Joining.{singles}
use Rattle.run_survey.proofs.MergedKinds.{kind}
use Rattle.run_survey.proofs.OtherTexts.{none_beyond}
use Rattle.run_survey.proofs.Places.{count_next}
use Rattle.run_survey.proofs.SpreadsJoined.{spreads_one}
use Rattle.run_survey.proofs.Texts.{itself}

one_kind : (seed : ℕ) (text : List ℕ) → kind text 1 seed ≡ kind_of seed (text ∷ []) text
one_kind seed text =
    ap (λ (n : ℕ). kind text n seed)
    (sym (count_next (bytes_eq text) text [] ∙ ap (λ (b : Bool). cond b 1 0 + 0) (itself text)))
    ∙ ap (λ (n : ℕ). kind text (count_by (bytes_eq text) (text ∷ [])) n)
    ((let e : seed ≡ seed + 0 = omega arith in e)
    ∙ ap (λ (b : Bool). seed + cond (not b) (1 + 0) 0) (sym (itself text)))

-- what is made of the figures of one run
pub record IsOfOne (seed : ℕ) (figures : Figures) (s : Survey) : Type 0 where
  pub seed_is : s.seed ≡ seed
  pub runs : s.runs ≡ 1
  pub complete : s.complete ≡ cond figures.complete 1 0
  pub kinds : s.kinds.items ≡ kind figures.outputs 1 seed ∷ []
  pub others : s.others ≡ None
  pub found : s.found ≡ found_runs seed (figures.watched ∷ [])
  pub unfinished : s.unfinished ≡ unfinished_runs seed (figures.watched ∷ [])
  pub lost : s.lost ≡ singles seed figures.lost
  pub unused : s.unused ≡ singles seed figures.unused
  pub jammed : s.jammed ≡ singles seed figures.jammed
  pub taken : s.taken ≡ singles seed figures.taken

pub one_survey : (seed : ℕ) (figures : Figures) (s : Survey) → IsOfOne seed figures s
    → IsSurvey seed (figures ∷ []) s
one_survey seed figures s is = record {
  some = omega arith;
  seed = is.seed_is;
  runs = is.runs;
  complete = is.complete ∙ whole figures.complete
      ∙ sym (count_next (λ (f : Figures). f.complete) figures []);
  kinds = is.kinds ∙ ap (λ (k : Kind). k ∷ []) (one_kind seed figures.outputs);
  others = is.others ∙ sym (none_beyond most_kinds seed (figures.outputs ∷ []) (omega arith));
  found = is.found;
  unfinished = is.unfinished;
  lost = spreads_one seed figures.lost s.lost is.lost;
  unused = spreads_one seed figures.unused s.unused is.unused;
  jammed = spreads_one seed figures.jammed s.jammed is.jammed;
  taken = spreads_one seed figures.taken s.taken is.taken;
}
  where
    whole : (b : Bool) → cond b 1 0 ≡ cond b 1 0 + 0
    whole true = refl
    whole false = refl
