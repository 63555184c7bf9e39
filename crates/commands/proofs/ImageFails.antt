-- Where an image fails, none that fits the network is held.
use Rattle.std.proofs.Common.{◌≡◌, inl, inr, ℕ, true, List, length, slice_get, Option, Some, None, IsTrue, refl, ap, subst, arith}
use Rattle.std.proofs.lemmas.Bool.{cases_lt}
use Rattle.std.proofs.lemmas.Option.{slice_get_past}
use Rattle.polis_base.specs.declared.limits.TheConstants.{LONG_FILE_MAX}
use Rattle.polis_base.specs.Host.{Files, bytes_at, WhereTold}
use Rattle.transition_table.specs.declared.machine.Machine.{Machine}
use Rattle.transition_table.specs.declared.network.Network.{Network}
use Rattle.transition_table.specs.declared.snapshot.Snapshot.{Snapshot}
use Rattle.task_image.specs.declared.finding.Verify.TheVariants.{Fits, Shape, Wrong}
use Rattle.task_image.specs.declared.image.ImageMachine.{ImageMachine}
use Rattle.task_image.specs.Decoding.{AreBytesOf}
use Rattle.task_image.specs.Verifying.{Verifies, FitsAt, IsShapeAt, IsWrongAt}
use Rattle.task_image.proofs.ImageLaws.{image_laws}
use Rattle.polis_words.specs.declared.cause.Cause.{Cause}
use Rattle.polis_words.specs.declared.cause.Cause.TheVariants.{ImageByte, ImageShape, ImageWrong}
use Rattle.polis_words.specs.declared.status.Status.TheVariants.{Refused}
use Rattle.polis_words.specs.Lines.{cause_status}
use Rattle.commands.specs.ImageFiles.{HoldsImage, IsImageFault, ImageFails}
use Rattle.input_files.specs.Inputs.{HoldsText}
use Rattle.input_files.specs.Failures.{is_finding, is_failure}
use Rattle.commands.specs.inner.Image.{IsFittingImage}
use Rattle.input_files.proofs.Holds.{one_text}
use Rattle.input_files.proofs.InputsFail.{load_refused, load_unfound}
use Rattle.polis_base.proofs.WhereTold.{told_from}

-- ---- an image that fits
no_shape : (a : Option ImageMachine) (m : Option Machine) → FitsAt a m → ¬ IsShapeAt a m
no_shape (Some a) (Some m) fits shape = shape fits.0
no_shape (Some a) None fits shape = fits
no_shape None m fits shape = fits

no_wrong : (a : Option ImageMachine) (m : Option Machine) (s : Snapshot) → FitsAt a m
    → ¬ IsWrongAt a m s
no_wrong (Some a) (Some m) s fits wrong = wrong.1.holds (fits.1 s.codes wrong.1.fit)
no_wrong (Some a) None s fits wrong = fits
no_wrong None m s fits wrong = fits

none_past : (a : Option ImageMachine) (m : Option Machine) → a ≡ None → m ≡ None → ¬ IsShapeAt a m
none_past None None p q shape = shape
none_past (Some a) m p q shape = cc
none_past None (Some m) p q shape = cc

none_wrong : (a : Option ImageMachine) (m : Option Machine) (s : Snapshot) → a ≡ None
    → ¬ IsWrongAt a m s
none_wrong None m s p wrong = wrong
none_wrong (Some a) m s p wrong = cc

fits_shape : (image : List ImageMachine) (net : Network) (k : ℕ) → Verifies image net Fits
    → ¬ Verifies image net (Shape k)
fits_shape image net k fits shape =
    elim (cases_lt k (length image)) [
      | inl below ↦ no_shape (slice_get image k) (slice_get net.machines k) (fits.1 k below) shape.1
      | inr above ↦
          let many = fits.0 in
          none_past (slice_get image k) (slice_get net.machines k)
          (slice_get_past image k (omega arith))
          (slice_get_past net.machines k (omega (arith, many))) shape.1
    ]

fits_wrong : (image : List ImageMachine) (net : Network) (k : ℕ) (s : Snapshot)
    → Verifies image net Fits → ¬ Verifies image net (Wrong k s)
fits_wrong image net k s fits wrong =
    elim (cases_lt k (length image)) [
      | inl below ↦
          no_wrong (slice_get image k) (slice_get net.machines k) s (fits.1 k below) wrong.1
      | inr above ↦
          none_wrong (slice_get image k) (slice_get net.machines k) s
          (slice_get_past image k (omega arith)) wrong.1
    ]

-- ---- an image that fails
-- bytes that fail are those of no image that fits
unfit : (net : Network) (bytes : List ℕ) (cause : Cause) (image : List ImageMachine)
    → IsImageFault net bytes cause → AreBytesOf image bytes → ¬ Verifies image net Fits
unfit net bytes (ImageByte place) image h are fits = h.none image are
unfit net bytes (ImageShape k) image (other, others, shape) are fits =
    let same = image_laws.one_image other image bytes others are in
    fits_shape image net k fits (subst (λ (i : List ImageMachine). Verifies i net (Shape k)) same shape)
unfit net bytes (ImageWrong printed) image (other, others, wrong) are fits =
    let same = image_laws.one_image other image bytes others are in
    fits_wrong image net wrong.number wrong.snapshot fits
    (subst (λ (i : List ImageMachine). Verifies i net (Wrong wrong.number wrong.snapshot)) same
    wrong.wrong)
unfit net bytes other image h are fits = h

pub image_refused : (files : Files) (net : Network) (name : List ℕ) (cause : Cause)
    (image : List ImageMachine) → cause_status cause ≡ Refused → ImageFails files net name cause
    → ¬ HoldsImage files name net image
image_refused files net name cause image s (inl h) k =
    load_refused files LONG_FILE_MAX name k.text cause s h k.holds
image_refused files net name cause image s (inr (bytes, holds, fault)) k =
    unfit net bytes cause image fault
    (subst (λ (t : List ℕ). AreBytesOf image t)
    (one_text (bytes_at files name) bytes k.text holds.held k.holds.held) k.bytes) k.fits

-- nothing is found of an image that fails
fault_unfound : (net : Network) (bytes : List ℕ) (cause : Cause)
    → IsTrue (is_finding (cause_status cause)) → ¬ IsImageFault net bytes cause
fault_unfound net bytes (ImageByte place) s h = cc
fault_unfound net bytes (ImageShape k) s h = cc
fault_unfound net bytes (ImageWrong printed) s h = cc
fault_unfound net bytes other s h = h

pub image_unfound : (files : Files) (net : Network) (name : List ℕ) (cause : Cause)
    → IsTrue (is_finding (cause_status cause)) → ¬ ImageFails files net name cause
image_unfound files net name cause s (inl h) = load_unfound files LONG_FILE_MAX name cause s h
image_unfound files net name cause s (inr (bytes, holds, fault)) =
    fault_unfound net bytes cause s fault

-- a fault of an image is refused
fault_refused : (net : Network) (bytes : List ℕ) (cause : Cause) → IsImageFault net bytes cause
    → cause_status cause ≡ Refused
fault_refused net bytes (ImageByte place) h = refl
fault_refused net bytes (ImageShape k) h = refl
fault_refused net bytes (ImageWrong printed) h = refl
fault_refused net bytes other h = absurd h

-- the bytes of an image that fits are held under the name
pub image_held : (o : Option Files) (net : Network) (name bytes : List ℕ)
    (image : List ImageMachine) → WhereTold o (λ files. HoldsText files LONG_FILE_MAX name bytes)
    → IsFittingImage net bytes image → WhereTold o (λ files. HoldsImage files name net image)
image_held o net name bytes image held fits =
    told_from o (λ files. HoldsText files LONG_FILE_MAX name bytes) _
    (λ files h. record { text = bytes; holds = h; bytes = fits.are_bytes; fits = fits.fits }) held

-- bytes that fail are held under the name
pub image_faulty : (o : Option Files) (net : Network) (name bytes : List ℕ) (cause : Cause)
    → WhereTold o (λ files. HoldsText files LONG_FILE_MAX name bytes)
    → IsImageFault net bytes cause
    → (name ≡ name) × WhereTold o (λ files. ImageFails files net name cause)
    × IsTrue (is_failure true (cause_status cause))
image_faulty o net name bytes cause held fault = (
  refl,
  told_from o (λ files. HoldsText files LONG_FILE_MAX name bytes) _
      (λ files h. inr (bytes, h, fault)) held,
  ap (is_failure true) (fault_refused net bytes cause fault),
)
