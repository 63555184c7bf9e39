use Rattle.std.proofs.Common.{◌+◌, arith, ◌∙◌}
use Rattle.std.proofs.lemmas.Fmt.{decimal_injective}
use Rattle.domains.proofs.domain.Span.value_of.Goals as goal

pub returns-else-contains-clause-none : goal.returns-else-contains-clause-none
returns-else-contains-clause-none c v within same =
    let span = c.args.self in
    let number = c.in_ok-number.number in
    let e = decimal_injective (span.first + v) number (omega arith) c.contains.ensures.range
    (same ∙ c.in_ok-number.ensures.some) in
    let inside = c.if-contains.ensures.no (omega arith) (omega arith) in
    cc
