-- The lamp's image and its faults, computed.
use Rattle.std.proofs.Common.{◌≡◌, ℕ, zero, suc, ◌+◌, List, ◌++◌, take, Ok, Err, length, get_or, true, false, [], ◌∷◌, refl, ap, inl, inr, arith}
use Rattle.std.specs.Prelude.{IsTrue, nat_lt, codes}
use Rattle.std.specs.List.{list_all}
use Rattle.task_image.specs.inner.FieldReaders.{each_at}
use Rattle.task_image.specs.inner.Reading.{sizes_at, test_at, set_at, goto_at, instr_at, code_at, machine_at, machines_at, image_at}
use Rattle.transition_table.specs.samples.Lamp.{lamp_machine}
use Rattle.transition_table.specs.Transitions.{Transition, reading, is_enabled}
use Rattle.transition_table.specs.declared.snapshot.Outcome.{Outcome}
use Rattle.task_code.specs.Codes.{Exec}
use Rattle.task_image.specs.declared.image.ImageMachine.{ImageMachine}
use Rattle.task_image.specs.Decoding.{AreBytesOf, BreaksAt}
use Rattle.task_image.specs.samples.Lamp.{lamp_image, lamp_bytes, changed, other_code, other_machine}
use Rattle.task_image.proofs.BreaksAt.{fit, image_takes, breaks}
use Rattle.task_image.specs.Worked.{LampImage, LampFaults, LampChecks}

-- ---- bytes
reads : (bytes : List ℕ) (i : List ImageMachine)
    → list_all (λ byte. nat_lt byte 256) bytes ≡ true → image_at bytes ≡ Ok i
    → AreBytesOf i bytes
reads bytes i all e = image_takes bytes i (fit bytes all) e

breaks_at : (bytes : List ℕ) (left place : ℕ)
    → list_all (λ byte. nat_lt byte 256) bytes ≡ true → image_at bytes ≡ Err left
    → place + left ≡ length bytes → BreaksAt bytes place
breaks_at bytes left place all e there = breaks bytes left place (fit bytes all) e there

pub lamp_rows : LampImage
unfolding each_at sizes_at test_at set_at goto_at instr_at code_at machine_at machines_at image_at
lamp_rows = record {
  bytes = refl;
  long = refl;
  first_test = refl;
  reads = reads lamp_bytes lamp_image refl refl;
}

pub lamp_fault_rows : LampFaults
unfolding each_at sizes_at test_at set_at goto_at instr_at code_at machine_at machines_at image_at
lamp_fault_rows = record {
  cut = breaks_at (take 55 lamp_bytes) 0 55 refl refl refl;
  cut_name = breaks_at (take 10 lamp_bytes) 3 7 refl refl refl;
  longer = breaks_at (lamp_bytes ++ 7 ∷ []) 1 56 refl refl refl;
  target = breaks_at (changed 28 (0 ∷ 0 ∷ 0 ∷ 0 ∷ []) lamp_bytes) 28 28 refl refl refl;
  version = breaks_at (changed 4 (2 ∷ []) lamp_bytes) 52 4 refl refl refl;
  name = breaks_at (changed 7 (codes "1amp_ctl") lamp_bytes) 49 7 refl refl refl;
  keyword = breaks_at (changed 7 (codes "priority") lamp_bytes) 49 7 refl refl refl;
  halt = breaks_at (changed 55 (3 ∷ []) lamp_bytes) 1 55 refl refl refl;
  code = breaks_at (changed 51 (3 ∷ []) lamp_bytes) 5 51 refl refl refl;
}

-- ---- what a check finds
off_isn_t_on : ◌≡◌ {A = ℕ} 1 2 → ⊥
off_isn_t_on e = omega (arith, e)

no_row : (r : ℕ) → IsTrue (is_enabled lamp_machine (suc r) (reading (1 ∷ 0 ∷ []))) → ⊥
no_row zero e = cc
no_row (suc r) e = cc

on_press : ¬ Transition lamp_machine (reading (1 ∷ 0 ∷ []))
    (Exec lamp_machine other_code (1 ∷ 0 ∷ []))
on_press (inl (zero, enabled, e)) =
    off_isn_t_on (ap (λ (o : Outcome). get_or o.next 0 0) e)
on_press (inl (suc r, enabled, e)) = no_row r enabled
on_press (inr (none, e)) = true_false (none 0)
  where
    true_false : true ≡ false → ⊥
    true_false e = cc

pub lamp_check_rows : LampChecks
unfolding each_at sizes_at test_at set_at goto_at instr_at code_at machine_at machines_at image_at
lamp_check_rows = record {
  reads = reads (changed 51 (1 ∷ []) lamp_bytes) (other_machine ∷ []) refl refl;
  gives = refl;
  wrong = on_press;
  alike = record { name = refl; vars = refl; results = refl };
  shape = λ alike. absurd (omega (arith, ap length alike.name));
}
