-- What `demo` means.
use Rattle.std.proofs.Common.{Option, refl}
use Rattle.polis_base.specs.Host.{Files}
use Rattle.polis_words.specs.Demo.{DemoWords}
use Rattle.output_files.specs.declared.product.Product.{Product}
use Rattle.commands.specs.Demo.{MakesDemo, demo_product, demo_meaning}
use Rattle.commands.specs.inner.Lawful.{IsLawful}
use Rattle.commands.specs.Made.{IsMadeProduct}
use Rattle.commands.proofs.IsMade.{product_made}
use Rattle.polis_base.proofs.WhereTold.{told_always}

pub demo_lawful : (demo : DemoWords) → IsLawful (demo_meaning demo)
demo_lawful demo = record {
  made_accepts = λ files product m. tt;
  made_finds = λ files product status m found. found;
  refused = λ files name cause h s all. h;
  found = λ files name cause h f. absurd h;
  found_accepts = λ files status h. absurd h;
  found_ends = λ files status h. absurd h;
  found_once = λ files s t h k. absurd h;
}

-- the product of a demo
pub demo_made : (o : Option Files) (demo : DemoWords) (product : Product) → MakesDemo demo product
    → IsMadeProduct (demo_meaning demo) o product
demo_made o demo product m =
    product_made (demo_meaning demo) o product (demo_product m.net m.ran m.parts) m.made tt refl
    (told_always o _ (λ files. m))
