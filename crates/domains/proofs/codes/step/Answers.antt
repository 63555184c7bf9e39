use Rattle.std.proofs.Common.{◌≡◌, ◌+◌, ℕ, List, set, ap, sym, refl, ◌∙◌, length, arith, add-one}
use Rattle.std.proofs.lemmas.Option.{get_or_from_slice_get}
use Rattle.domains.proofs.Steps.{stepped_first, stepped_more, stepped_all, length_made}
use Rattle.domains.proofs.codes.step.Goals as goal

pub loop-after-init : goal.loop-after-init
loop-after-init c =
    let h = stepped_first c.args.codes.now c.args.k c.requires.place in
    let e = get_or_from_slice_get c.args.codes.now _ _ 0 c.get.ensures in (
      omega arith,
      c.set.ensures ∙ ap (λ (n : ℕ). set c.args.codes.now c.args.k (n + 1)) (sym e) ∙ h
          ∙ rw add-one refl,
    )

pub set-requires-in-loop-after : goal.set-requires-in-loop-after
set-requires-in-loop-after c =
    omega (
      arith,
      length_made c.args.codes.now c.args.k c.loop-after.after c.loop-after.codes
          c.loop-after.invariant.1,
    )

pub loop-after-preserved : goal.loop-after-preserved
loop-after-preserved c =
    let h = stepped_more c.args.codes.now c.args.k c.loop-after.after c.loop-after.invariant.0
    (omega arith) in (
      omega arith,
      c.set-in-loop-after.ensures
          ∙ ap (λ (xs : List ℕ). set xs c.loop-after.after 0) c.loop-after.invariant.1 ∙ h
          ∙ rw add-one refl,
    )

pub returns : goal.returns
returns c =
    let h = stepped_all c.args.codes.now c.args.k in
    let e : c.loop-after.after ≡ length c.args.codes.now = omega arith in
    c.loop-after.invariant.1 ∙ rw e h
