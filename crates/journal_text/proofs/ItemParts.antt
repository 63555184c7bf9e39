-- Names and values that the code finds.
use Rattle.std.proofs.Common.{◌≡◌, true, ◌∷◌, ◌++◌, Option, Some, None, IfSome, IfNone, sym, ◌∙◌, ap, Bor, option_copied}
use Rattle.journal_text.specs.Forms.{Text}
use Rattle.journal_text.specs.Items.{name_part, value_part_of}
use Rattle.polis_base.specs.Pieces.{lacks}
use Rattle.journal_text.proofs.ItemCodes.{name_of_item, value_of_item}
use Rattle.std.proofs.lemmas.List.{append-nil}

-- the name and the value of an item that was cut at its first `=`
pub split_name : (item name : Text) (value : Option (Bor Text))
    → IfSome value (λ r. item ≡ name ++ 61 ∷ r.now) → IfNone value (item ≡ name)
    → lacks 61 name ≡ true → name ≡ name_part item
split_name item name None some none free =
    sym (name_of_item name None free) ∙ ap name_part (append-nil name ∙ sym none)
split_name item name (Some r) some none free =
    sym (name_of_item name (Some r.now) free) ∙ ap name_part (sym some)

pub split_value : (item name : Text) (value : Option (Bor Text))
    → IfSome value (λ r. item ≡ name ++ 61 ∷ r.now) → IfNone value (item ≡ name)
    → lacks 61 name ≡ true → option_copied value ≡ value_part_of item
split_value item name None some none free =
    sym (value_of_item name None free) ∙ ap value_part_of (append-nil name ∙ sym none)
split_value item name (Some r) some none free =
    sym (value_of_item name (Some r.now) free) ∙ ap value_part_of (sym some)
