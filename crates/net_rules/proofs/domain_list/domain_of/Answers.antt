use Rattle.std.proofs.Common.{refl}
use Rattle.net_rules.proofs.Shapes.{names_kept, range_of}
use Rattle.net_rules.proofs.domain_list.domain_of.Goals as goal

pub of-requires : goal.of-requires
of-requires c =
    names_kept c.args.shape.now c.in-Names.words c.in_ok-names-in-Names.names c.in-Names.is
    c.in_ok-names-in-Names.ensures c.requires.order c.requires.some c.requires.few

pub returns-in-Range : goal.returns-in-Range
returns-in-Range c =
    range_of c.args.shape.now c.in-Range.first c.in-Range.last _ c.in-Range.is refl refl
