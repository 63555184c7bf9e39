use Rattle.std.proofs.Common.{arith}
use Rattle.std.proofs.lemmas.Bool.{eqb-true, eq-eqb}
use Rattle.domains.proofs.WordsOf.{same_ends, same_span_words}
use Rattle.domains.proofs.wording.same_ends.Goals as goal

pub returns-then-a-b : goal.returns-then-a-b
returns-then-a-b c = (
  λ held. same_span_words c.args.a.now c.args.b.now c.if-a-b.true (eqb-true _ _ held),
  λ same. eq-eqb c.args.a.now.last c.args.b.now.last
      (same_ends c.args.a.now c.args.b.now (omega arith) (omega arith) same).1,
)

pub returns-else-a-b : goal.returns-else-a-b
returns-else-a-b c = (
  λ held. absurd (c.if-a-b.false (eqb-true _ _ held)),
  λ same. eq-eqb c.args.a.now.first c.args.b.now.first
      (same_ends c.args.a.now c.args.b.now (omega arith) (omega arith) same).0,
)
