use Rattle.std.proofs.Common.{◌≡◌, ℕ, List, ◌++◌, flat_map, refl, ap, ◌∙◌}
use Rattle.std.proofs.lemmas.List.{append_assoc}
use Rattle.std.proofs.lemmas.Result.{on_ok_weaker}
use Rattle.run_survey.specs.declared.told.Kind.{Kind}
use Rattle.run_survey.specs.SurveyLines.{kind_line}
use Rattle.run_survey.proofs.lines.push_lines.Goals as goal

-- five texts after another
five : (old a b c d e : List ℕ)
    → old ++ a ++ b ++ c ++ d ++ e ≡ old ++ (a ++ b ++ c ++ d ++ e)
five old a b c d e = simp append_assoc refl

appended : (a b c d e : List ℕ) (old i j k l new : List ℕ) → i ≡ old ++ a → j ≡ i ++ b
    → k ≡ j ++ c → l ≡ k ++ d → new ≡ l ++ e → new ≡ old ++ (a ++ b ++ c ++ d ++ e)
appended a b c d e old i j k l new p q r s t =
    t
    ∙ ap (λ (x : List ℕ). x ++ e)
    (s
    ∙ ap (λ (x : List ℕ). x ++ d)
    (r ∙ ap (λ (x : List ℕ). x ++ c) (q ∙ ap (λ (x : List ℕ). x ++ b) p)))
    ∙ five old a b c d e

pub returns : goal.returns
returns c =
    on_ok_weaker c.push_ending.result
    (appended _ _ _ _ _ c.args.into.now c.push_counts.new.into c.push_kinds.new.into
    c.push_others.new.into c.push_numbers.new.into c.push_ending.new.into
    c.in_ok-push_counts.ensures
    (c.in_ok-push_kinds.ensures
    ∙ ap (λ (kinds : List Kind). c.push_counts.new.into ++ flat_map kind_line kinds)
    c.deref.ensures.value)
    c.in_ok-push_others.ensures
    c.in_ok-push_numbers.ensures)
    c.push_ending.ensures
