-- Values of declared domains.
use Rattle.std.specs.Prelude.{ℕ, ◌+◌, ◌-◌, Bool, false, ◌&&◌, nat_le, List, length, Option, Some, None, is_some, if◌then◌else◌}
use Rattle.net_reader.specs.declared.raw.RawValue.{RawValue}
use Rattle.net_reader.specs.declared.raw.RawValue.TheVariants as values
use Rattle.net_reader.specs.declared.raw.RawShape.{RawShape}
use Rattle.net_reader.specs.declared.raw.RawShape.TheVariants as shapes
use Rattle.net_names.specs.Places.{unless}
use Rattle.net_names.specs.Numbers.{names_of, number_in}

-- the number of a value in a domain of this shape: the place of its name, or how far it is above
-- the first number
abbrev pub value_in : RawShape → RawValue → Option ℕ
value_in (shapes.Names words) (values.Name word) = number_in (names_of words) word.name
value_in (shapes.Names words) (values.Number n) = None
value_in (shapes.Range first last) (values.Name word) = None
value_in (shapes.Range first last) (values.Number n) =
    if nat_le first.number n.number && nat_le n.number last.number then Some
    (n.number - first.number) else None

-- how many values there are
abbrev pub count_of : RawShape → ℕ
count_of (shapes.Names words) = length words
count_of (shapes.Range first last) = last.number - first.number + 1

-- the place of the value's token
abbrev pub place_of : RawValue → ℕ
place_of (values.Name word) = word.at
place_of (values.Number n) = n.at

-- it is a value of the domain, where there is one
abbrev pub is_value : Option RawShape → RawValue → Bool
is_value None value = false
is_value (Some shape) value = is_some (value_in shape value)

-- the value's place, where it is no value of the domain
abbrev pub no_value : Option RawShape → RawValue → List ℕ
no_value shape value = unless (is_value shape value) (place_of value)
