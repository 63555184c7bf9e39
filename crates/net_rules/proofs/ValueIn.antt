-- The number of a value.
use Rattle.std.proofs.Common.{◌≡◌, ℕ, ◌+◌, ◌-◌, ◌&&◌, nat_le, ◌<◌, Bool, true, false, cond, Some, None, is_some, true≢false, refl, ap, sym, arith}
use Rattle.std.proofs.lemmas.List.{length-map}
use Rattle.net_reader.specs.declared.raw.Word.{Word}
use Rattle.net_reader.specs.declared.raw.RawValue.{RawValue}
use Rattle.net_reader.specs.declared.raw.RawValue.TheVariants as values
use Rattle.net_reader.specs.declared.raw.RawShape.{RawShape}
use Rattle.net_reader.specs.declared.raw.RawShape.TheVariants as shapes
use Rattle.net_names.specs.Values.{value_in, count_of}
use Rattle.net_names.specs.Numbers.{names_of}
use Rattle.net_names.proofs.NumberIn.{number_below}

-- a value's number is below the count
pub value_below : (shape : RawShape) (value : RawValue) (n : ℕ) → value_in shape value ≡ Some n
    → n < count_of shape
value_below (shapes.Names words) (values.Name w) n h =
    omega (arith, number_below (names_of words) w.name n h, length-map words (λ (w : Word). w.name))
value_below (shapes.Names words) (values.Number v) n h = absurd (true≢false (sym (ap is_some h)))
value_below (shapes.Range first last) (values.Name w) n h = absurd (true≢false (sym (ap is_some h)))
value_below (shapes.Range first last) (values.Number v) n h =
    by (nat_le first.number v.number && nat_le v.number last.number) refl h
  where
    by : (b : Bool) → (nat_le first.number v.number && nat_le v.number last.number) ≡ b
        → cond b (Some (v.number - first.number)) None ≡ Some n → n < last.number - first.number + 1
    by true inside h = grind (arith, inside, h)
    by false outside h = absurd (true≢false (sym (ap is_some h)))
