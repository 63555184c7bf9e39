-- Laws of images and their bytes.
use Rattle.std.specs.Prelude.{◌≡◌, ◌⊎◌, ℕ, nat_lt, List, IsTrue}
use Rattle.std.specs.List.{list_all}
use Rattle.task_image.specs.Decoding.{AreBytesOf, BreaksAt}
use Rattle.task_image.specs.declared.image.ImageMachine.{ImageMachine}

-- Bytes are those of one image at most, and break at one place at most; and they are those of an
-- image, or they break somewhere.
pub record ImageLaws : Type 0 where
  pub one_image :
      (i j : List ImageMachine) (bytes : List ℕ)
      → AreBytesOf i bytes
      → AreBytesOf j bytes
      → i ≡ j
  pub one_place : (bytes : List ℕ) (p q : ℕ) → BreaksAt bytes p → BreaksAt bytes q → p ≡ q
  pub image_or_break :
      (bytes : List ℕ)
      → IsTrue (list_all (λ byte. nat_lt byte 256) bytes)
      → ((i : List ImageMachine) × AreBytesOf i bytes) ⊎ ((p : ℕ) × BreaksAt bytes p)
