use Rattle.std.proofs.Common.{◌≡◌, true, List, ℕ, ◌∷◌, subst, sym, ap, ◌∙◌}
use Rattle.polis_base.specs.Names.{is_name}
use Rattle.net_gen.specs.Networks.{word}
use Rattle.net_gen.proofs.NumberedNames.{one_digit, two_digits}
use Rattle.net_gen.proofs.words.named.Goals.{then-i-lt10, else-i-lt10}
use Rattle.net_gen.proofs.words.named.Goals as goal

pub of_token-name-requires : goal.of_token-name-requires
of_token-name-requires c =
    subst (λ (xs : List ℕ). is_name (c.args.letter ∷ xs) ≡ true)
    (one_digit c.args.i c.if-i-lt10.true) c.requires.name

pub of_token-name-requires-else-i-lt10 : goal.of_token-name-requires-else-i-lt10
of_token-name-requires-else-i-lt10 c =
    subst (λ (xs : List ℕ). is_name (c.args.letter ∷ xs) ≡ true)
    (two_digits c.args.i c.if-i-lt10.false c.requires.small) c.requires.name

pub returns : goal.returns
returns c =
    elim c.if-i-lt10.branch [
      | then-i-lt10 w ↦ ap word
          (w.name-is ∙ w.of_token-name.ensures
          ∙ ap (λ (xs : List ℕ). c.args.letter ∷ xs) (sym (one_digit c.args.i w.if-i-lt10.true)))
      | else-i-lt10 w ↦ ap word
          (w.name-is ∙ w.of_token-name-else-i-lt10.ensures
          ∙ ap (λ (xs : List ℕ). c.args.letter ∷ xs)
          (sym (two_digits c.args.i w.if-i-lt10.false c.requires.small)))
    ]
