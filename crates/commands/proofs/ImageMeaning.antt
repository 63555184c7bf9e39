-- What `image` means.
use Rattle.std.proofs.Common.{◌≡◌, ◌⊎◌, ◌≤◌, inl, inr, ℕ, true, zero, suc, List, [], ◌∷◌, length, slice_get, Option, Some, refl, ap, sym, subst, ◌∙◌, IsTrue, arith}
use Rattle.polis_base.specs.declared.limits.TheConstants.{LONG_FILE_MAX}
use Rattle.std.proofs.lemmas.List.{length-map}
use Rattle.polis_base.specs.Host.{Files, WhereTold}
use Rattle.transition_table.specs.declared.network.Network.{Network}
use Rattle.net_rules.specs.Whole.{HasMachines}
use Rattle.task_code.specs.declared.instr.Instr.{Instr}
use Rattle.task_code.specs.Listings.{Part}
use Rattle.machine_compiler.specs.Parts.{AreRightParts, codes_in}
use Rattle.task_image.specs.Fields.{ImageBytes}
use Rattle.task_image.specs.Images.{AreStorable, IsCodeOf}
use Rattle.polis_words.specs.declared.cause.Cause.{Cause}
use Rattle.polis_words.specs.declared.cause.Cause.TheVariants.{ImageLong}
use Rattle.polis_words.specs.declared.cause.Failure.{Failure}
use Rattle.polis_words.specs.declared.cause.Failure.TheVariants as failures
use Rattle.polis_words.specs.declared.status.Status.TheVariants.{Refused}
use Rattle.polis_words.specs.NetStem.{NetStemWords}
use Rattle.polis_words.specs.Lines.{cause_status}
use Rattle.output_files.specs.declared.product.Product.{Product}
use Rattle.commands.specs.Image.{HasShortImage, FailsImage, image_of_parts, image_product, image_meaning}
use Rattle.input_files.specs.Inputs.{HoldsNet, NetFails}
use Rattle.input_files.specs.Failures.{is_finding, is_failure, FileFails}
use Rattle.commands.specs.inner.Image.{IsImageProduct, IsLongImage}
use Rattle.commands.specs.inner.Lawful.{IsLawful}
use Rattle.commands.specs.Made.{IsMadeProduct, IsMadeFailure}
use Rattle.polis_base.proofs.WhereTold.{told_from}
use Rattle.input_files.proofs.InputsFail.{net_refused, net_unfound}
use Rattle.commands.proofs.IsMade.{product_made, none_told}
use Rattle.commands.proofs.OneNet.{one_held_net}
use Rattle.machine_compiler.proofs.OneRightPart.{one_right_parts}

image_refused : (image : NetStemWords) (files : Files) (name : List ℕ) (cause : Cause)
    → FailsImage image files name cause → cause_status cause ≡ Refused
    → ¬ HasShortImage image files
image_refused image files name cause (same, inl h) s all =
    net_refused files image.net cause all.net s h all.holds_net
image_refused image files name cause (same, inr h) s all =
    let net = one_held_net files files image.net image.net all.net h.1.net refl all.holds_net
    h.1.holds_net in
    let parts = one_right_parts all.net all.parts h.1.parts all.holds_net.accepted.1 all.right
    (subst (λ (n : Network). AreRightParts n h.1.parts) (sym net) h.1.right) in
    let same_length : length (ImageBytes (image_of_parts all.net all.parts))
    ≡ length (ImageBytes (image_of_parts h.1.net h.1.parts)) =
    ap (λ (q : List Part). length (ImageBytes (image_of_parts all.net q))) parts
    ∙ ap (λ (n : Network). length (ImageBytes (image_of_parts n h.1.parts))) net in
    let short = all.long in
    let long = h.1.long in
    omega arith

image_unfound : (image : NetStemWords) (files : Files) (name : List ℕ) (cause : Cause)
    → IsTrue (is_finding (cause_status cause)) → ¬ FailsImage image files name cause
image_unfound image files name cause f (same, inl h) = net_unfound files image.net cause f h
image_unfound image files name cause f (same, inr h) =
    let e = ap (λ (c : Cause). is_finding (cause_status c)) h.0 in
    let k = sym f ∙ e in cc

pub image_lawful : (image : NetStemWords) → IsLawful (image_meaning image)
image_lawful image = record {
  made_accepts = λ files product m. record {
    net = m.net;
    holds_net = m.holds_net;
    parts = m.parts;
    right = m.right;
    long = subst (λ (bytes : List ℕ). length bytes ≤ LONG_FILE_MAX) m.are_bytes.bytes_are
        m.within;
  };
  made_finds = λ files product status m found. found;
  refused = λ files name cause h s. image_refused image files name cause h s;
  found = λ files name cause h f. absurd (image_unfound image files name cause f h);
  found_accepts = λ files status h. absurd h;
  found_ends = λ files status h. absurd h;
  found_once = λ files s t h k. absurd h;
}

-- the product of an image
pub image_made : (o : Option Files) (image : NetStemWords) (net : Network) (product : Product)
    → WhereTold o (λ files. HoldsNet files image.net net) → IsImageProduct image net product
    → IsMadeProduct (image_meaning image) o product
image_made o image net product held p =
    product_made (image_meaning image) o product (image_product image.stem p.bytes) p.made
    (tt, tt) refl
    (told_from o (λ files. HoldsNet files image.net net) _
    (λ files h. record {
      net = net;
      holds_net = h;
      parts = p.parts;
      right = p.right;
      bytes = p.bytes;
      are_bytes = p.are_bytes;
      within = p.within;
      made = p.made;
    }) held)

-- the network isn't loaded, or isn't accepted
pub net_fails : (o : Option Files) (image : NetStemWords) (failure : Failure)
    → FileFails image.net o (λ files. NetFails files image.net) failure
    → IsMadeFailure (image_meaning image) o failure
net_fails o image failures.NoMemory h = tt
net_fails o image (failures.File name cause more) (h, none) = (
  told_from o (λ files. NetFails files image.net cause) _ (λ files k. (h.0, inl k)) h.1,
  inr h.2,
  none_told (image_meaning image) o name.now cause more (λ told name cause. refl) none,
)

-- the image is too long
pub too_long : (o : Option Files) (image : NetStemWords) (net : Network) (name : List ℕ)
    (cause : Cause) (more : List ℕ) → name ≡ image.net
    → WhereTold o (λ files. HoldsNet files image.net net) → IsLongImage net cause → more ≡ []
    → WhereTold o (λ files. FailsImage image files name cause)
    × (IsTrue ((image_meaning image).ends (cause_status cause))
    ⊎ IsTrue (is_failure true (cause_status cause)))
    × (image_meaning image).explains o name cause more
too_long o image net name ImageLong more same held (parts, right, long) none = (
  told_from o (λ files. HoldsNet files image.net net) _
      (λ files h. (
        same,
        inr (
          refl,
          record { net = net; holds_net = h; parts = parts; right = right; long = long },
        ),
      )) held,
  inr refl,
  none_told (image_meaning image) o name ImageLong more (λ told name cause. refl) none,
)
too_long o image net name other more same held h none = absurd h

-- ---- the image of right parts
-- the part whose code stands at a place
part_at : (parts : List Part) (k : ℕ) (c : List Instr) → slice_get (codes_in parts) k ≡ Some c
    → (q : Part) × (slice_get parts k ≡ Some q) × (q.code ≡ c)
part_at [] k c at = cc
part_at (q ∷ qs) zero c at = let same : q.code ≡ c = cc in (q, refl, same)
part_at (q ∷ qs) (suc k) c at = part_at qs k c at

-- the code of right parts can be stored, where there is a machine and each has an input
pub storable : (net : Network) (parts : List Part) → HasMachines net → AreRightParts net parts
    → AreStorable net (codes_in parts)
storable net parts has right = record {
  some = has.some;
  long = length-map parts (λ q. q.code) ∙ right.long;
  inputs = has.inputs;
  codes = λ k m c at_m at_c.
      let q = part_at parts k c at_c in
      let is = right.each k m q.0 at_m q.1 in
      subst (IsCodeOf m.vars m.results) q.2 (record {
        code = is.is_code;
        tests = is.code_fits.tests;
        sets = λ j result code at.
            (is.code_fits.sets j result code at, is.code_fits.codes j result code at);
      });
}
