use Rattle.std.proofs.Common.{refl}
use Rattle.std.specs.Prelude.{slice_get}
use Rattle.task_image.specs.inner.Heads.{machine_of}
use Rattle.task_image.proofs.Verifies.{code_fits, shape_at, wrong_at, fits_at}
use Rattle.task_image.proofs.Writes.{machine_at}
use Rattle.task_image.proofs.verifying.found_at.Goals as goal

pub returns-then-not-are_alike-clause-some : goal.returns-then-not-are_alike-clause-some
returns-then-not-are_alike-clause-some c = (
  refl,
  shape_at (slice_get c.args.image.now c.args.k)
      (slice_get c.args.net.now.machines c.args.k) c.head.result.now c.get-m.result.now
      c.head.ensures c.get-m.ensures (c.are_alike.ensures.differ c.if-not-are_alike.true),
)

pub first_wrong-requires-clause-deterministic : goal.first_wrong-requires-clause-deterministic
first_wrong-requires-clause-deterministic c =
    c.requires.deterministic c.args.k c.get-m.result.now c.get-m.ensures

pub first_wrong-requires-clause-fits : goal.first_wrong-requires-clause-fits
first_wrong-requires-clause-fits c =
    code_fits (machine_of c.head.result.now c.code.result.now) c.get-m.result.now
    (c.requires.image.each c.args.k (machine_of c.head.result.now c.code.result.now)
    (machine_at (slice_get c.args.image.now c.args.k) c.head.result.now c.code.result.now
    c.head.ensures c.code.ensures))
    (c.are_alike.ensures.alike c.if-not-are_alike.false c.code.result.now)

pub returns-in-Some-clause-some : goal.returns-in-Some-clause-some
returns-in-Some-clause-some c = (
  refl,
  wrong_at (slice_get c.args.image.now c.args.k)
      (slice_get c.args.net.now.machines c.args.k) c.head.result.now c.get-m.result.now
      c.code.result.now c.in-Some.snapshot
      (machine_at (slice_get c.args.image.now c.args.k) c.head.result.now c.code.result.now
      c.head.ensures c.code.ensures) c.get-m.ensures
      (c.are_alike.ensures.alike c.if-not-are_alike.false c.code.result.now)
      (rw c.in-Some.is at c.in_ok-snapshot.ensures.some),
)

pub returns-in-None-clause-none : goal.returns-in-None-clause-none
returns-in-None-clause-none c =
    fits_at (slice_get c.args.image.now c.args.k)
    (slice_get c.args.net.now.machines c.args.k) c.head.result.now c.get-m.result.now
    c.code.result.now
    (machine_at (slice_get c.args.image.now c.args.k) c.head.result.now c.code.result.now
    c.head.ensures c.code.ensures) c.get-m.ensures
    (c.are_alike.ensures.alike c.if-not-are_alike.false c.code.result.now)
    (rw c.in-None.is at c.in_ok-snapshot.ensures.none)
