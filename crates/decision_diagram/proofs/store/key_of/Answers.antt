use Rattle.std.proofs.Common.{◌∙◌, ◌<◌, ℕ, List, [], ◌∷◌, ◌++◌, take, sym, ap, subst, arith}
use Rattle.std.proofs.lemmas.List.{get_or_default, take_all, take_more}
use Rattle.decision_diagram.specs.Keys.{IsKey}
use Rattle.decision_diagram.proofs.store.key_of.Goals as goal

var_key : (var : ℕ) (rest : List ℕ) → var < 4294967296 → IsKey (var ∷ rest)
var_key var rest low = record {
  some = omega arith;
  narrow = low;
}

pub loop-kid-init : goal.loop-kid-init
loop-kid-init c =
    c.in_ok-push.ensures.items
    ∙ ap (λ (xs : List ℕ). xs ++ c.from.result ∷ []) c.in_ok-key.ensures.items
    ∙ ap (λ (n : ℕ). n ∷ []) c.from.ensures

pub bounds-kids-kid-index : goal.bounds-kids-kid-index
bounds-kids-kid-index c = c.loop-kid-test.true

pub loop-kid-preserved : goal.loop-kid-preserved
loop-kid-preserved c =
    let kids = c.args.kids.now in
    let i = c.loop-kid.kid-index in
    c.in_ok-push-2.ensures.items
    ∙ ap (λ (xs : List ℕ). xs ++ c.number.result ∷ []) c.loop-kid.invariant
    ∙ ap (λ (n : ℕ). c.args.var ∷ (take i kids ++ n ∷ [])) (c.number.ensures ∙ c.kid-item.is
    ∙ get_or_default kids i c.kid-item.result 0 c.loop-kid-test.true)
    ∙ ap (λ (xs : List ℕ). c.args.var ∷ xs) (sym (take_more kids i 0 c.loop-kid-test.true))

pub returns-clause-items : goal.returns-clause-items
returns-clause-items c =
    c.loop-kid.invariant
    ∙ ap (λ (xs : List ℕ). c.args.var ∷ xs)
    (take_all c.loop-kid.kid-index c.args.kids.now c.loop-kid-test.false)

pub returns-clause-key : goal.returns-clause-key
returns-clause-key c =
    subst IsKey (sym c.loop-kid.invariant)
    (var_key c.args.var (take c.loop-kid.kid-index c.args.kids.now) c.ranges.var.fits)
