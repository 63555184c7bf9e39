-- What each command that reads a network text alone makes of the network, but for bounds and images.
use Rattle.std.specs.Prelude.{◌≡◌, ℕ, List, ◌++◌, codes}
use Rattle.polis_base.specs.Host.{Files}
use Rattle.transition_table.specs.declared.network.Network.{Network}
use Rattle.net_reader.specs.declared.raw.RawNet.{RawNet}
use Rattle.task_code.specs.Listings.{Part, ListingText}
use Rattle.graph_drawing.specs.Drawings.{DrawingText}
use Rattle.machine_compiler.specs.Parts.{AreRightParts, graphs_in}
use Rattle.machine_compiler.specs.Lines.{lengths_text}
use Rattle.polis_words.specs.declared.requests.command.FromNet.{FromNet}
use Rattle.polis_words.specs.declared.requests.command.FromNet.TheVariants.{Compile, Image, Draw}
use Rattle.polis_words.specs.declared.requests.command.OnNet.{OnNet}
use Rattle.polis_words.specs.declared.requests.command.OnNet.TheVariants.{Check, Lint}
use Rattle.polis_words.specs.Check.{CheckWords}
use Rattle.polis_words.specs.NetStem.{NetStemWords}
use Rattle.polis_words.specs.Texts.{accepted_text}
use Rattle.output_files.specs.declared.product.Product.{Product}
use Rattle.output_files.specs.Products.{saves_one, shows_only}
use Rattle.input_files.specs.Inputs.{HoldsDeclared, HoldsNet}
use Rattle.input_files.specs.declared.load.Detail.{Detail}
use Rattle.input_files.specs.declared.load.Detail.TheVariants as details
use Rattle.commands.specs.Image.{image_meaning}
use Rattle.commands.specs.Lint.{tables_text}
use Rattle.commands.specs.Meanings.{Meaning, net_meaning}

-- ---- what is shown of a network
-- how large it is, or what its tables leave open, by its declarations
abbrev pub text_of : OnNet → RawNet → Network → List ℕ
text_of Check raw net = accepted_text net
text_of Lint raw net = tables_text raw net

abbrev pub product_of : OnNet → RawNet → Network → Product
product_of kind raw net = shows_only (text_of kind raw net)

-- the file holds a network that is accepted, with these declarations, and the product is that of it
pub record MakesOnNet (kind : OnNet) (asked : CheckWords) (files : Files) (product : Product) :
    Type 0 where
  pub raw : RawNet
  pub net : Network
  pub holds : HoldsDeclared files asked.net raw net
  pub made : product ≡ product_of kind raw net

-- with so much said of a file that is refused
abbrev pub on_net_meaning : Detail → OnNet → CheckWords → Meaning
on_net_meaning detail kind asked = net_meaning detail asked.net (MakesOnNet kind asked)

-- ---- what is saved of a network
-- the file holds a network that is accepted, each of its machines was compiled rightly, and the
-- product is this of the network and its parts
pub record MakesOfParts (of : Network → List Part → Product) (asked : NetStemWords)
    (files : Files) (product : Product) : Type 0 where
  pub net : Network
  pub holds_net : HoldsNet files asked.net net
  pub parts : List Part
  pub right : AreRightParts net parts
  pub made : product ≡ of net parts

abbrev pub parts_meaning : (Network → List Part → Product) → NetStemWords → Meaning
parts_meaning of asked = net_meaning details.Cause asked.net (MakesOfParts of asked)

-- the listing of the compiled machines is saved, and it is shown how long their graphs and their
-- code are
abbrev pub compile_product : List ℕ → Network → List Part → Product
compile_product stem net parts =
    saves_one (stem ++ codes ".lst") (ListingText net parts) (lengths_text net parts)

-- likewise the drawing of the network and of the graphs of its machines
abbrev pub draw_product : List ℕ → Network → List Part → Product
draw_product stem net parts =
    saves_one (stem ++ codes ".dot") (DrawingText net (graphs_in parts)) (lengths_text net parts)

abbrev pub from_net_meaning : FromNet → NetStemWords → Meaning
from_net_meaning Compile asked = parts_meaning (compile_product asked.stem) asked
from_net_meaning Image asked = image_meaning asked
from_net_meaning Draw asked = parts_meaning (draw_product asked.stem) asked
