-- The small machines on their snapshots, by computation.
use Rattle.std.proofs.Common.{◌≡◌, ◌<◌, ℕ, zero, suc, true, false, ◌==◌, nat_lt, List, [], ◌∷◌, slice_index, arith, lit<, refl, sym, ap, subst, inl, inr}
use Rattle.std.specs.List.{list_all}
use Rattle.std.specs.Int.{bit_at}
use Rattle.std.proofs.lemmas.Bool.{ltb-true}
use Rattle.domains.specs.Tables.{fits}
use Rattle.transition_table.specs.samples.Clash.{clash_machine}
use Rattle.transition_table.specs.samples.Echo.{echo_machine}
use Rattle.transition_table.specs.samples.Lamp.{lamp_machine}
use Rattle.transition_table.specs.samples.Loop.{loop_machine}
use Rattle.transition_table.specs.samples.Twice.{agreeing_machine, differing_machine}
use Rattle.transition_table.specs.samples.Value.{value_machine}
use Rattle.transition_table.specs.samples.Parts.{has_codes}
use Rattle.transition_table.specs.Transitions.{reading, is_enabled, allows, result, IsDeterministic, Conflict}
use Rattle.transition_table.specs.Worked.{Fires, Idles}
use Rattle.transition_table.specs.declared.snapshot.Outcome.{Outcome}
use Rattle.domains.proofs.Ranks.{length_fits}
use Rattle.polis_base.proofs.Bools.{and_first}

pub lamp_pressed : Fires lamp_machine (1 ∷ 0 ∷ []) 0 (2 ∷ []) (1 ∷ [])
lamp_pressed = record {
  snapshot = refl;
  enabled = refl;
  gives = refl;
  transition = inl (0, refl, refl);
}

lamp_on_none : (row : ℕ) → is_enabled lamp_machine row (reading (1 ∷ 1 ∷ [])) ≡ false
lamp_on_none zero = refl
lamp_on_none (suc row) = refl

pub lamp_on : Idles lamp_machine (1 ∷ 1 ∷ [])
lamp_on = record { snapshot = refl; none = lamp_on_none; transition = inr (lamp_on_none, refl) }

pub lamp_unpressed_none : (row : ℕ) → is_enabled lamp_machine row (reading (0 ∷ 0 ∷ [])) ≡ false
lamp_unpressed_none zero = refl
lamp_unpressed_none (suc row) = refl

pub lamp_unpressed : Idles lamp_machine (0 ∷ 0 ∷ [])
lamp_unpressed =
    record {
      snapshot = refl;
      none = lamp_unpressed_none;
      transition = inr (lamp_unpressed_none, refl);
    }

pub loop_first : Fires loop_machine (1 ∷ 0 ∷ 0 ∷ []) 0 (2 ∷ []) (1 ∷ [])
loop_first = record {
  snapshot = refl;
  enabled = refl;
  gives = refl;
  transition = inl (0, refl, refl);
}

pub loop_second : Fires loop_machine (0 ∷ 1 ∷ 1 ∷ []) 1 (3 ∷ []) (1 ∷ [])
loop_second = record {
  snapshot = refl;
  enabled = refl;
  gives = refl;
  transition = inl (1, refl, refl);
}

pub loop_third : Fires loop_machine (0 ∷ 1 ∷ 2 ∷ []) 2 (4 ∷ []) (0 ∷ [])
loop_third = record {
  snapshot = refl;
  enabled = refl;
  gives = refl;
  transition = inl (2, refl, refl);
}

loop_end_none : (row : ℕ) → is_enabled loop_machine row (reading (1 ∷ 1 ∷ 3 ∷ [])) ≡ false
loop_end_none zero = refl
loop_end_none (suc zero) = refl
loop_end_none (suc (suc zero)) = refl
loop_end_none (suc (suc (suc row))) = refl

pub loop_end : Idles loop_machine (1 ∷ 1 ∷ 3 ∷ [])
loop_end = record { snapshot = refl; none = loop_end_none; transition = inr (loop_end_none, refl) }

pub value_five : Fires value_machine (6 ∷ []) 0 [] (1 ∷ [])
value_five = record {
  snapshot = refl;
  enabled = refl;
  gives = refl;
  transition = inl (0, refl, refl);
}

value_four_none : (row : ℕ) → is_enabled value_machine row (reading (5 ∷ [])) ≡ false
value_four_none zero = refl
value_four_none (suc row) = refl

pub value_four : Idles value_machine (5 ∷ [])
value_four = record {
  snapshot = refl;
  none = value_four_none;
  transition = inr (value_four_none, refl);
}

pub clash : Conflict clash_machine 0 2 (reading (1 ∷ 1 ∷ []))
clash = record {
  order = lit< tt;
  snapshot = refl;
  first = refl;
  second = refl;
  differ = λ e. let outs = ap (λ (o : Outcome). o.outs) e in cc;
}

-- a snapshot of one variable with 9 codes, of which a condition allows the code 2 alone
pub one_code : (xs : List ℕ) → fits (9 ∷ []) xs ≡ true
    → list_all (allows xs) (has_codes 0 4 ∷ []) ≡ true → xs ≡ 2 ∷ []
one_code [] fit held = cc
one_code (x ∷ y ∷ xs) fit held = let long = length_fits (9 ∷ []) (x ∷ y ∷ xs) fit in
    absurd (omega arith)
one_code (x ∷ []) fit held =
    pick x (ltb-true x 9 (and_first (nat_lt x 9) true fit)) (and_first (bit_at 4 x == 1) true held)
  where
    pick : (x : ℕ) → x < 9 → (bit_at 4 x == 1) ≡ true → x ∷ [] ≡ 2 ∷ []
    pick zero below set = cc
    pick (suc zero) below set = cc
    pick (suc (suc zero)) below set = refl
    pick (suc (suc (suc zero))) below set = cc
    pick (suc (suc (suc (suc zero)))) below set = cc
    pick (suc (suc (suc (suc (suc zero))))) below set = cc
    pick (suc (suc (suc (suc (suc (suc zero)))))) below set = cc
    pick (suc (suc (suc (suc (suc (suc (suc zero))))))) below set = cc
    pick (suc (suc (suc (suc (suc (suc (suc (suc zero)))))))) below set = cc
    pick (suc (suc (suc (suc (suc (suc (suc (suc (suc x))))))))) below set = absurd (omega arith)

pub echo_six : Fires echo_machine (6 ∷ 6 ∷ []) 0 (2 ∷ []) (6 ∷ [])
echo_six = record {
  snapshot = refl;
  enabled = refl;
  gives = refl;
  transition = inl (0, refl, refl);
}

echo_absent_none : (row : ℕ) → is_enabled echo_machine row (reading (0 ∷ 6 ∷ [])) ≡ false
echo_absent_none zero = refl
echo_absent_none (suc row) = refl

pub echo_absent : Idles echo_machine (0 ∷ 6 ∷ [])
echo_absent = record {
  snapshot = refl;
  none = echo_absent_none;
  transition = inr (echo_absent_none, refl);
}

pub differing : Conflict differing_machine 0 1 (reading (2 ∷ []))
differing = record {
  order = lit< tt;
  snapshot = refl;
  first = refl;
  second = refl;
  differ = λ e. let outs = ap (λ (o : Outcome). slice_index o.outs 0) e in omega arith;
}

-- where the second row is enabled, the first gives the same
pub agreeing : IsDeterministic agreeing_machine
agreeing zero zero s order snapshot first second = absurd (omega arith)
agreeing zero (suc zero) s order snapshot first second =
    let only : s.codes ≡ 2 ∷ [] = one_code s.codes snapshot second in
    subst (λ codes. result agreeing_machine 0 (reading codes)
    ≡ result agreeing_machine 1 (reading codes)) (sym only) refl
agreeing zero (suc (suc b)) s order snapshot first second = cc
agreeing (suc zero) zero s order snapshot first second = absurd (omega arith)
agreeing (suc zero) (suc zero) s order snapshot first second = absurd (omega arith)
agreeing (suc zero) (suc (suc b)) s order snapshot first second = cc
agreeing (suc (suc a)) b s order snapshot first second = cc
