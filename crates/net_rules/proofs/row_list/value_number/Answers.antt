use Rattle.std.proofs.Common.{◌∙◌, ap, sym, option_copied}
use Rattle.net_rules.proofs.Counts.{shape_in}
use Rattle.net_rules.proofs.row_list.value_number.Goals as goal

pub value_or_zero-requires : goal.value_or_zero-requires
value_or_zero-requires c =
    (shape_in c.args.scope.now.raw.now c.in-Some.word.name c.in-Some-shape_of.shape.now c.requires
    (sym c.shape_of.ensures ∙ ap option_copied c.in-Some-shape_of.is)).1
