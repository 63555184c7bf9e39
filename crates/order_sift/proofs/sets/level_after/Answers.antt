use Rattle.order_sift.proofs.ItemSets.{levels_more}
use Rattle.order_sift.specs.inner.Known.{in_set}
use Rattle.order_sift.proofs.sets.level_after.Goals as goal

pub level_of-level-requires-clause-numbers : goal.level_of-level-requires-clause-numbers
level_of-level-requires-clause-numbers c =
    let classes = c.requires.classes in
    record { long = classes.long; below = classes.below }

pub returns-then-place-len-clause-few : goal.returns-then-place-len-clause-few
returns-then-place-len-clause-few c =
    (c.requires.known.levels c.place_of_level-place.result c.get.result.now c.get.ensures).few

pub returns-in_ok-push-clause-known : goal.returns-in_ok-push-clause-known
returns-in_ok-push-clause-known c = record {
  numbers = c.requires.known.numbers;
  levels = levels_more c.args.m.now _ _ _ c.requires.known.levels c.in_ok-push.ensures.ok (record {
    is = c.level_of-level.ensures.level (in_set c.args.set) c.requires.free c.requires.classes;
    few = c.level_of-level.ensures.few;
  });
}
