-- What `bound` means.
use Rattle.std.proofs.Common.{◌≡◌, ℕ, List, Option, refl}
use Rattle.polis_base.specs.Host.{Files, WhereTold}
use Rattle.transition_table.specs.declared.network.Network.{Network}
use Rattle.cost_bound.specs.declared.costs.Costs.{Costs}
use Rattle.polis_words.specs.Bound.{BoundWords}
use Rattle.output_files.specs.declared.product.Product.{Product}
use Rattle.output_files.specs.Products.{shows_only}
use Rattle.commands.specs.Bound.{MakesBound, AreCosts, bound_product, bound_meaning}
use Rattle.input_files.specs.Inputs.{HoldsNet}
use Rattle.commands.specs.Ranges.{ranges_text}
use Rattle.commands.specs.inner.Bound.{ShowsRanges}
use Rattle.input_files.specs.declared.load.Detail.TheVariants as details
use Rattle.commands.specs.inner.Lawful.{IsLawful}
use Rattle.commands.specs.Made.{IsMadeProduct}
use Rattle.polis_base.proofs.WhereTold.{told_from}
use Rattle.commands.proofs.NetMeaning.{net_lawful}
use Rattle.commands.proofs.IsMade.{product_made, product_is}

pub bound_lawful : (bound : BoundWords) → IsLawful (bound_meaning bound)
bound_lawful bound =
    net_lawful details.Cause bound.net (MakesBound bound)
    (λ files product m. (m.net, m.holds_net))

-- the product of the ranges of a network's machines
pub bound_made : (o : Option Files) (bound : BoundWords) (net : Network) (costs : Costs)
    (product : Product) (shown : List ℕ) → WhereTold o (λ files. HoldsNet files bound.net net)
    → AreCosts bound.costs costs → product ≡ shows_only shown → ShowsRanges costs net shown
    → IsMadeProduct (bound_meaning bound) o product
bound_made o bound net costs product shown held asked is shows =
    let made = product_is product shown (ranges_text net shows.ranges) is shows.shown in
    product_made (bound_meaning bound) o product (bound_product net shows.ranges) made tt refl
    (told_from o (λ files. HoldsNet files bound.net net) _
    (λ files h. record {
      net = net;
      holds_net = h;
      costs = costs;
      asked = asked;
      ranges = shows.ranges;
      are = shows.are;
      made = made;
    }) held)
