use Rattle.journals.proofs.ValueWords.{value_answer}
use Rattle.journals.proofs.value.value_in.Goals as goal

pub returns-clause-value : goal.returns-clause-value
returns-clause-value c =
    value_answer c.laws.ensures.words c.args.domain.now c.args.word.now c.value_of.result
    c.size-size.ensures.domain c.value_of.ensures.some c.value_of.ensures.none
