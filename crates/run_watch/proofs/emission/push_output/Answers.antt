use Rattle.std.proofs.Common.{◌≡◌, ℕ, zero, suc, ◌<◌, List, ◌++◌, refl, sym, ap, ◌∙◌, arith}
use Rattle.run_watch.specs.declared.emission.Emission.{Emission}
use Rattle.run_watch.proofs.Placed.{goes_out_once, none_added, none_coded, stays_in}
use Rattle.run_watch.proofs.emission.push_output.Goals as goal

some : (n : ℕ) → (n ≡ 0 → ⊥) → 0 < n
some zero h = absurd (h refl)
some (suc n) h = omega arith

pub returns-then-code-eq0 : goal.returns-then-code-eq0
returns-then-code-eq0 c =
    none_added c.args.into.now _
    (none_coded c.args.net.now c.args.place c.args.event c.args.code c.if-code-eq0.true)

pub returns-then-not-get : goal.returns-then-not-get
returns-then-not-get c =
    none_added c.args.into.now _
    (stays_in c.args.net.now c.args.place c.args.event c.args.code c.get.result.now
    (some c.args.code c.if-code-eq0.false) c.get.ensures c.if-not-get.true)

pub returns : goal.returns
returns c =
    c.in_ok-push.ensures.ok
    ∙ ap (λ (l : List Emission). c.args.into.now ++ l)
    (sym
    (goes_out_once c.args.net.now c.args.place c.args.event c.args.code c.get.result.now
    (some c.args.code c.if-code-eq0.false) c.get.ensures c.if-not-get.false))
