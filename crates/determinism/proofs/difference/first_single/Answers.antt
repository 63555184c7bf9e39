use Rattle.std.proofs.Common.{refl}
use Rattle.determinism.proofs.LeastCodes.{single_before}
use Rattle.determinism.proofs.difference.first_single.Goals as goal

pub returns-clause-some : goal.returns-clause-some
returns-clause-some c = λ h. record {
  inside = c.first_code.ensures.inside;
  differ = c.first_code.ensures.differ h;
  least = λ t there differ.
      single_before c.args.pair.now.sets.now c.args.s.now.codes c.first_code.new.s.codes t c.args.v
      c.requires.inside c.first_code.ensures.inside c.first_code.ensures.same there
      (c.first_code.ensures.least h t there (λ apart. absurd (apart refl)) differ);
}

pub returns-clause-none : goal.returns-clause-none
returns-clause-none c = λ h t there.
    c.first_code.ensures.none h t there (λ apart. absurd (apart refl))
