use Rattle.std.proofs.Common.{◌≡◌, ℕ, Bool, cond, ◌==◌, List, [], ◌∷◌, ◌++◌, append-nil, codes, refl, sym, ap, ◌∙◌}
use Rattle.std.proofs.lemmas.Bool.{ne_eqb}
use Rattle.std.proofs.lemmas.List.{append_assoc}
use Rattle.std.proofs.lemmas.Result.{on_ok_weaker}
use Rattle.transition_table.specs.declared.machine.Machine.{Machine}
use Rattle.run_survey.specs.declared.told.Spread.{Spread}
use Rattle.run_survey.specs.SurveyLines.{jammed_line, spread_text}
use Rattle.run_survey.proofs.lines.push_jammed_one.Goals as goal

four : (old a b c d : List ℕ) → old ++ a ++ b ++ c ++ d ≡ old ++ (a ++ b ++ c ++ d)
four old a b c d = simp append_assoc refl

some_jammed : (machine : Machine) (s : Spread) (old i j k new : List ℕ) → (s.most ≡ 0 → ⊥)
    → i ≡ old ++ codes "jammed " → j ≡ i ++ machine.name → k ≡ j ++ spread_text s
    → new ≡ k ++ 10 ∷ [] → new ≡ old ++ jammed_line (machine, s)
some_jammed machine s old i j k new some p q r t =
    t
    ∙ ap (λ (x : List ℕ). x ++ 10 ∷ [])
    (r ∙ ap (λ (x : List ℕ). x ++ spread_text s) (q ∙ ap (λ (x : List ℕ). x ++ machine.name) p))
    ∙ four old (codes "jammed ") machine.name (spread_text s) (10 ∷ [])
    ∙ ap
    (λ (b : Bool). old ++ cond b [] (codes "jammed " ++ machine.name ++ spread_text s ++ 10 ∷ []))
    (sym (ne_eqb s.most 0 some))

none_jammed : (machine : Machine) (s : Spread) (old : List ℕ) → s.most ≡ 0
    → old ≡ old ++ jammed_line (machine, s)
none_jammed machine s old none =
    sym (append-nil old)
    ∙ ap
    (λ (n : ℕ). old
    ++ cond (n == 0) [] (codes "jammed " ++ machine.name ++ spread_text s ++ 10 ∷ []))
    (sym none)

pub returns : goal.returns
returns c =
    on_ok_weaker c.push-3.result
    (some_jammed c.args.machine.now c.args.spread.now c.args.into.now c.push.new.self
    c.push-2.new.self c.push_spread.new.into c.push-3.new.self
    (λ e. absurd (c.if-spread-eq0.false e)) c.in_ok-push.ensures.ok
    (c.in_ok-push-2.ensures.ok ∙ ap (λ (x : List ℕ). c.push.new.self ++ x) c.bytes.ensures.bytes)
    c.in_ok-push_spread.ensures)
    c.push-3.ensures.ok

pub returns-then-spread-eq0 : goal.returns-then-spread-eq0
returns-then-spread-eq0 c =
    none_jammed c.args.machine.now c.args.spread.now c.args.into.now c.if-spread-eq0.true
