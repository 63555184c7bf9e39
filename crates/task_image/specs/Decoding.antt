-- What decoding answers.
use Rattle.std.specs.Prelude.{◌≡◌, ℕ, ◌<◌, ◌≤◌, ◌^◌, List, ◌++◌, length, slice_get, Some, Result, Ok, Err, ⊤}
use Rattle.std.specs.List.{concat}
use Rattle.task_image.specs.declared.fault.ImageFault.{ImageFault}
use Rattle.task_image.specs.declared.fault.ImageFault.TheVariants.{Bad, NoMemory}
use Rattle.task_image.specs.declared.image.ImageMachine.{ImageMachine}
use Rattle.task_image.specs.Images.{IsImage}
use Rattle.task_image.specs.Fields.{image_fields, ImageBytes}

-- these are the bytes of the image, whose counts of instructions have four bytes each
pub record AreBytesOf (i : List ImageMachine) (bytes : List ℕ) : Type 0 where
  pub image : IsImage i
  pub counts :
      (k : ℕ) (m : ImageMachine)
      → slice_get i k ≡ Some m
      → length m.code < 2 ^ 32
  pub bytes_are : bytes ≡ ImageBytes i

-- Some image begins with so many of the bytes, and they are whole fields of it.
pub record BeginImage (bytes : List ℕ) (count : ℕ) : Type 0 where
  pub image : List ImageMachine
  pub has_bytes : AreBytesOf image (ImageBytes image)
  pub prefix : List (List ℕ)
  pub more : List (List ℕ)
  pub fields : image_fields image ≡ prefix ++ more
  pub rest : List ℕ
  pub bytes_are : bytes ≡ concat prefix ++ rest
  pub long : length (concat prefix) ≡ count

-- The bytes are those of no image, and the first field at fault begins at this place: it is the
-- greatest number of bytes, being whole fields, with which both they and some image begin.
pub record BreaksAt (bytes : List ℕ) (place : ℕ) : Type 0 where
  pub none : (i : List ImageMachine) → ¬ AreBytesOf i bytes
  pub begin : BeginImage bytes place
  pub most : (count : ℕ) → BeginImage bytes count → count ≤ place

-- Ok where the bytes are those of an image, with that image, which is the only one; Bad where they
-- are those of none, with the place of the first fault; running out of memory is free
abbrev pub Decodes : List ℕ → Result (List ImageMachine) ImageFault → Type 0
Decodes bytes (Ok i) =
    AreBytesOf i bytes × ((j : List ImageMachine) → AreBytesOf j bytes → j ≡ i)
Decodes bytes (Err (Bad place)) = BreaksAt bytes place
Decodes bytes (Err NoMemory) = ⊤
