use Rattle.commands.proofs.ImageMeaning.{storable}
use Rattle.commands.proofs.image.image_of_net.Goals as goal

pub of-requires : goal.of-requires
of-requires c =
    let made = c.in_ok-codes.ensures in
    rw made.codes_are (storable c.args.net.now made.parts c.requires.whole made.right)

pub returns : goal.returns
returns c =
    let made = c.in_ok-codes.ensures in
    record {
      parts = made.parts;
      right = made.right;
      image_is = rw made.codes_are at c.in_ok-image.ensures.image;
      is_image = c.in_ok-image.ensures.is_image;
    }
