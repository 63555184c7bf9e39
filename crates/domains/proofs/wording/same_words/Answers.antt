use Rattle.std.proofs.Common.{◌∙◌, sym, ap}
use Rattle.domains.specs.Domains.{words_of}
use Rattle.domains.proofs.WordsOf.{names_are}
use Rattle.domains.proofs.wording.same_words.Goals as goal

pub returns-in-Names-b : goal.returns-in-Names-b
returns-in-Names-b c =
    let a = ap words_of c.in-Names.is ∙ names_are c.in-Names.names in
    let b = ap words_of c.in-Names-b.is ∙ names_are c.in-Names-b.others in (
      λ held. a ∙ c.same_names.ensures.0 held ∙ sym b,
      λ same. c.same_names.ensures.1 (sym a ∙ same ∙ b),
    )

pub returns-in-Range-b : goal.returns-in-Range-b
returns-in-Range-b c =
    let a = ap words_of c.in-Names.is ∙ names_are c.in-Names.names in (
      λ held. cc,
      λ same. absurd (c.never_numbers.ensures (sym a ∙ same ∙ ap words_of c.in-Range-b.is)),
    )

pub returns-in-Names-b-2 : goal.returns-in-Names-b-2
returns-in-Names-b-2 c =
    let b = ap words_of c.in-Names-b-2.is ∙ names_are c.in-Names-b-2.names in (
      λ held. cc,
      λ same. absurd (c.never_numbers-in-Names-b-2.ensures
          (sym b ∙ sym same ∙ ap words_of c.in-Range.is)),
    )
