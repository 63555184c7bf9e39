use Rattle.std.proofs.Common.{◌∙◌, List, ℕ, sym, subst}
use Rattle.order_sift.specs.inner.Classes.{AreClasses}
use Rattle.order_sift.specs.inner.Known.{in_set}
use Rattle.order_sift.proofs.ItemSets.{numbers_more}
use Rattle.order_sift.proofs.sets.numbers_of.Goals as goal

pub freed-requires-clause-numbers : goal.freed-requires-clause-numbers
freed-requires-clause-numbers c =
    let classes = c.requires.classes in
    record { long = classes.long; below = classes.below }

pub returns-then-place-ge-KEPT-clause-numbers : goal.returns-then-place-ge-KEPT-clause-numbers
returns-then-place-ge-KEPT-clause-numbers c =
    c.in_ok-made.ensures.classes (in_set c.args.set) c.requires.next c.requires.classes

pub returns-clause-numbers : goal.returns-clause-numbers
returns-clause-numbers c =
    c.in_ok-made.ensures.classes (in_set c.args.set) c.requires.next c.requires.classes

pub returns-clause-known : goal.returns-clause-known
returns-clause-known c = record {
  numbers = numbers_more c.args.m.now _ _ _ c.requires.known.numbers c.in_ok-push.ensures.ok
      (subst (λ (xs : List ℕ). AreClasses c.args.m.now (in_set c.args.set) xs)
      (sym (c.in_ok-numbers.ensures ∙ c.as_slice-2.ensures))
      (c.in_ok-made.ensures.classes (in_set c.args.set) c.requires.next c.requires.classes));
  levels = c.requires.known.levels;
}
