use Rattle.std.proofs.Common.{inl, refl, subst, sym}
use Rattle.polis_words.specs.declared.cause.Failure.{Failure}
use Rattle.polis_base.specs.declared.limits.TheConstants.{LONG_FILE_MAX}
use Rattle.commands.specs.ImageFiles.{ImageFails}
use Rattle.input_files.specs.Inputs.{LoadFails}
use Rattle.input_files.specs.Failures.{FileFails, explains_nothing}
use Rattle.commands.proofs.ImageFails.{image_faulty, image_held}
use Rattle.input_files.proofs.FileFails.{file_fails}
use Rattle.commands.proofs.image_file.load_image.Goals as goal

pub returns-in-Ok-image_in-clause-held : goal.returns-in-Ok-image_in-clause-held
returns-in-Ok-image_in-clause-held g c =
    image_held (g.H.Host.files c.args.host.now) c.args.net.now c.args.name.now c.in-Ok.bytes
    c.in-Ok-image_in.image c.in-Ok.ensures.held
    (rw c.as_slice.ensures at c.in-Ok-image_in.ensures.fits)

pub returns-in-Err-clause-failed : goal.returns-in-Err-clause-failed
returns-in-Err-clause-failed g c =
    let name = c.args.name.now in
    file_fails name (g.H.Host.files c.args.host.now) (λ files. LoadFails files LONG_FILE_MAX name)
    (λ files. ImageFails files c.args.net.now name) explains_nothing c.in-Err.failure
    (λ files cause h. inl h) c.in-Err.ensures.failed

pub returns-in-Err-Cause-clause-failed : goal.returns-in-Err-Cause-clause-failed
returns-in-Err-Cause-clause-failed g c =
    let o = g.H.Host.files c.args.host.now in
    let net = c.args.net.now in
    let name = c.args.name.now in
    subst (λ (f : Failure). FileFails name o (λ files. ImageFails files net name) f)
    (sym c.of.ensures) (
      image_faulty o net name c.in-Ok.bytes c.in-Err-Cause.cause c.in-Ok.ensures.held
          (rw (c.in-Err-Cause.field-0-is, c.as_slice.ensures) at c.in-Err-Cause.ensures.failed),
      refl,
    )
