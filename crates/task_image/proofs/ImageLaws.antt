-- Bytes are those of one image, or break at one place.
use Rattle.std.proofs.Common.{◌≡◌, ◌⊎◌, ℕ, ◌+◌, ◌-◌, List, length, Result, Ok, Err, refl, sym, ◌∙◌, arith, inl, inr}
use Rattle.task_image.specs.declared.image.ImageMachine.{ImageMachine}
use Rattle.task_image.specs.Decoding.{AreBytesOf, BreaksAt}
use Rattle.task_image.specs.Laws.{ImageLaws}
use Rattle.task_image.specs.inner.Reading.{image_at}
use Rattle.task_image.proofs.BreaksAt.{fit, image_takes, image_again, image_ends, breaks}
use Rattle.task_image.proofs.IsReader.{IsBytes, ok_is}

one_image : (i j : List ImageMachine) (bytes : List ℕ) → AreBytesOf i bytes → AreBytesOf j bytes
    → i ≡ j
one_image i j bytes a b = ok_is i j (sym (image_again bytes i a) ∙ image_again bytes j b)

one_place : (bytes : List ℕ) (p q : ℕ) → BreaksAt bytes p → BreaksAt bytes q → p ≡ q
one_place bytes p q a b =
    let low = b.most p a.begin in
    let high = a.most q b.begin in
    omega (arith, low, high)

decided : (bytes : List ℕ) → IsBytes bytes → (r : Result (List ImageMachine) ℕ)
    → image_at bytes ≡ r
    → ((i : List ImageMachine) × AreBytesOf i bytes) ⊎ ((p : ℕ) × BreaksAt bytes p)
decided bytes fits (Ok i) e = inl (i, image_takes bytes i fits e)
decided bytes fits (Err left) e =
    let le = image_ends bytes left fits e in
    let there : (length bytes - left) + left ≡ length bytes = omega (arith, le) in
    inr (length bytes - left, breaks bytes left (length bytes - left) fits e there)

pub image_laws : ImageLaws
image_laws = record {
  one_image = one_image;
  one_place = one_place;
  image_or_break = λ bytes all. decided bytes (fit bytes all) (image_at bytes) refl;
}
