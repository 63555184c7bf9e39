use Rattle.std.proofs.Common.{◌+◌, arith, sym, ◌∙◌}
use Rattle.std.proofs.lemmas.Option.{IfSome_then}
use Rattle.std.proofs.lemmas.Fmt.{decimal_injective}
use Rattle.domains.proofs.Words.{none_then, only_place, no_place}
use Rattle.domains.proofs.domain.Domain.value_of.Goals as goal

pub returns-in-Names-clause-only : goal.returns-in-Names-clause-only
returns-in-Names-clause-only c =
    rw c.in-Names.is
    (IfSome_then c.place_of.result c.place_of.ensures.some
    (λ v at w below same. only_place c.in-Names.names c.args.word.now v w
    c.place_of.ensures.names at below same))

pub returns-in-Names-clause-none : goal.returns-in-Names-clause-none
returns-in-Names-clause-none c =
    rw c.in-Names.is
    (none_then c.place_of.result c.place_of.ensures.none
    (λ none v below same. none v (no_place c.in-Names.names c.args.word.now v below same)))

pub returns-in-Range-clause-only : goal.returns-in-Range-clause-only
returns-in-Range-clause-only c =
    let span = c.in-Range.span in
    rw c.in-Range.is (IfSome_then c.value_of.result c.value_of.ensures.some (λ v at w below same.
    let e = decimal_injective (span.first + w) (span.first + v) (omega arith) (omega arith)
    (same ∙ sym at.1) in
    omega arith))
