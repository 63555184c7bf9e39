-- What the definitions say of the lamp's image.
use Rattle.std.specs.Prelude.{◌≡◌, true, [], ◌∷◌, ◌++◌, length, take, drop, codes}
use Rattle.transition_table.specs.samples.Lamp.{lamp_machine}
use Rattle.transition_table.specs.samples.Join.{join_machine}
use Rattle.transition_table.specs.Transitions.{Transition, reading}
use Rattle.task_code.specs.Codes.{Exec}
use Rattle.task_image.specs.Decoding.{AreBytesOf, BreaksAt}
use Rattle.task_image.specs.Fields.{ImageBytes}
use Rattle.task_image.specs.Verifying.{AreAlike}
use Rattle.task_image.specs.samples.Lamp.{lamp_image, lamp_bytes, changed, other_code, other_machine}

pub record LampImage : Type 0 where
  pub bytes : ImageBytes lamp_image ≡ lamp_bytes
  pub long : length lamp_bytes ≡ 56
  pub first_test :
      take 10 (drop 26 lamp_bytes) ≡ 1 ∷ 0 ∷ 0 ∷ 0 ∷ 0 ∷ 5 ∷ 0 ∷ 0 ∷ 0 ∷ 1 ∷ []
  pub reads : AreBytesOf lamp_image lamp_bytes

-- where the lamp's image breaks, cut off, changed or with more after it
pub record LampFaults : Type 0 where
  -- the last tag lacks
  pub cut : BreaksAt (take 55 lamp_bytes) 55
  -- the name is cut off
  pub cut_name : BreaksAt (take 10 lamp_bytes) 7
  pub longer : BreaksAt (lamp_bytes ++ 7 ∷ []) 56
  -- the first test's first target is its own place
  pub target : BreaksAt (changed 28 (0 ∷ 0 ∷ 0 ∷ 0 ∷ []) lamp_bytes) 28
  -- version 2
  pub version : BreaksAt (changed 4 (2 ∷ []) lamp_bytes) 4
  -- a name that is no word, and one that is a keyword
  pub name : BreaksAt (changed 7 (codes "1amp_ctl") lamp_bytes) 7
  pub keyword : BreaksAt (changed 7 (codes "priority") lamp_bytes) 7
  -- the last instruction isn't a halt
  pub halt : BreaksAt (changed 55 (3 ∷ []) lamp_bytes) 55
  -- a code above the result's
  pub code : BreaksAt (changed 51 (3 ∷ []) lamp_bytes) 51

-- Byte 51 set to 1: an image whose code gives another outcome than the lamp's, where the lamp is
-- off and pressed. Its machine and the lamp agree in name and sizes; the machine of another network
-- doesn't.
pub record LampChecks : Type 0 where
  pub reads : AreBytesOf (other_machine ∷ []) (changed 51 (1 ∷ []) lamp_bytes)
  pub gives :
      Exec lamp_machine other_code (1 ∷ 0 ∷ [])
      ≡ record { fires = true; next = 1 ∷ []; outs = 1 ∷ [] }
  pub wrong :
      ¬ Transition lamp_machine (reading (1 ∷ 0 ∷ []))
      (Exec lamp_machine other_code (1 ∷ 0 ∷ []))
  pub alike : AreAlike other_machine lamp_machine
  pub shape : ¬ AreAlike other_machine join_machine
