use Rattle.std.proofs.Common.{refl, ◌≡◌, ◌≤◌, ℕ, List, take, length, flat_map, drop, Some, slice_get, sym, ap, subst, ◌∙◌, arith}
use Rattle.net_core.specs.inner.Clocks.{left}
use Rattle.journals.specs.Stamps.{greatest, once_each}
use Rattle.net_core.proofs.LeftOfFirings.{left_further, given_further, left_here}
use Rattle.net_core.proofs.clocks.first_owed.Goals as goal
use Rattle.journals.specs.declared.stamped.Stamped.{Stamped}
use Rattle.journals.specs.Logs.{stamped}
use Rattle.journals.proofs.StampSteps.{item_fits}

pub count_emitted-count-requires-clause-fits : goal.count_emitted-count-requires-clause-fits
count_emitted-count-requires-clause-fits c =
    item_fits c.args.net.now c.args.firings.now c.loop-f.f
    (stamped c.firing.inside.stamp c.firing.inside.entry.now) c.requires.fits
    (c.get-firing.ensures ∙ ap Some (sym c.firing.view_is))

pub returns-then-cursor-count-clause-stamp : goal.returns-then-cursor-count-clause-stamp
returns-then-cursor-count-clause-stamp c =
    let net = c.args.net.now in
    let firings = c.args.firings.now in
    left_here net c.args.m firings c.loop-f.f c.loop-f.cursor.taken c.count_emitted-count.result
    (stamped c.firing.inside.stamp c.firing.inside.entry.now)
    (c.get-firing.ensures ∙ ap Some (sym c.firing.view_is)) c.count_emitted-count.ensures
    c.if-cursor-count.true
    ∙ ap (λ (i : ℕ). greatest
    (take 1 (left net c.args.m firings (record { firing = i; taken = c.loop-f.cursor.taken }))))
    (sym c.loop-f.invariant.here)
    ∙ ap (λ (l : List ℕ). greatest (take 1 l)) c.loop-f.invariant.left_is

pub loop-f-preserved : goal.loop-f-preserved
loop-f-preserved c =
    let net = c.args.net.now in
    let m = c.args.m in
    let firings = c.args.firings.now in
    let f = c.loop-f.f in
    let taken = c.loop-f.cursor.taken in
    let count = c.count_emitted-count.result in
    let x : Stamped = stamped c.firing.inside.stamp c.firing.inside.entry.now in
    let at : slice_get firings f ≡ Some x = c.get-firing.ensures ∙ ap Some (sym c.firing.view_is) in
    let all : count ≤ taken = c.if-cursor-count.false in
    let few = c.loop-f.invariant.few in
    record {
      left_is = sym (left_further net m firings f taken count x at c.count_emitted-count.ensures
          all)
          ∙ ap (λ (i : ℕ). left net m firings (record { firing = i; taken = taken }))
          (sym c.loop-f.invariant.here) ∙ c.loop-f.invariant.left_is;
      here = refl;
      within = omega arith;
      given = λ h. given_further net m firings f taken count x at c.count_emitted-count.ensures
          (subst (λ (i : ℕ). taken ≤ length (flat_map (once_each net m) (drop i firings)))
          c.loop-f.invariant.here (c.loop-f.invariant.given h));
      few = omega arith;
    }
