-- What commands that read a network text alone make of it.
use Rattle.std.proofs.Common.{◌≡◌, List, refl, Option, IsTrue}
use Rattle.polis_base.specs.Host.{Files, WhereTold}
use Rattle.transition_table.specs.declared.network.Network.{Network}
use Rattle.net_reader.specs.declared.raw.RawNet.{RawNet}
use Rattle.task_code.specs.Listings.{Part}
use Rattle.polis_words.specs.Check.{CheckWords}
use Rattle.polis_words.specs.NetStem.{NetStemWords}
use Rattle.polis_words.specs.Texts.{accepted_text}
use Rattle.polis_words.specs.declared.requests.command.FromNet.{FromNet}
use Rattle.polis_words.specs.declared.requests.command.FromNet.TheVariants.{Image}
use Rattle.polis_words.specs.declared.requests.command.OnNet.{OnNet}
use Rattle.polis_words.specs.declared.requests.command.OnNet.TheVariants.{Check}
use Rattle.output_files.specs.Ends.{end_status}
use Rattle.output_files.specs.Products.{shows_only}
use Rattle.output_files.specs.Saves.{AreApart}
use Rattle.output_files.specs.declared.product.Product.{Product}
use Rattle.input_files.specs.Inputs.{HoldsDeclared, HoldsNet}
use Rattle.net_rules.specs.NetOf.{NetOf}
use Rattle.input_files.specs.declared.load.Detail.{Detail}
use Rattle.input_files.specs.declared.load.Detail.TheVariants as details
use Rattle.input_files.proofs.Holds.{declared_net}
use Rattle.commands.specs.Made.{IsMadeProduct}
use Rattle.commands.specs.Meanings.{ends_done}
use Rattle.commands.specs.NetProducts.{MakesOfParts, MakesOnNet, from_net_meaning, on_net_meaning, parts_meaning, product_of}
use Rattle.commands.specs.inner.Lawful.{IsLawful}
use Rattle.commands.specs.inner.Parts.{IsOfParts}
use Rattle.polis_base.proofs.WhereTold.{told_from}
use Rattle.commands.proofs.ImageMeaning.{image_lawful}
use Rattle.commands.proofs.IsMade.{product_made}
use Rattle.commands.proofs.NetMeaning.{net_lawful}

-- ---- what is shown
pub on_net_lawful : (detail : Detail) (kind : OnNet) (asked : CheckWords)
    → IsLawful (on_net_meaning detail kind asked)
on_net_lawful detail kind asked =
    net_lawful detail asked.net (MakesOnNet kind asked)
    (λ files product m. (m.net, declared_net files asked.net m.raw m.net m.holds))

-- of declarations that are held
pub declared_made : (detail : Detail) (kind : OnNet) (o : Option Files) (asked : CheckWords)
    (raw : RawNet) (net : Network) (product : Product)
    → WhereTold o (λ files. HoldsDeclared files asked.net raw net)
    → product ≡ product_of kind raw net → IsMadeProduct (on_net_meaning detail kind asked) o product
declared_made detail kind o asked raw net product held made =
    product_made (on_net_meaning detail kind asked) o product (product_of kind raw net) made tt refl
    (told_from o (λ files. HoldsDeclared files asked.net raw net) _
    (λ files h. record { raw = raw; net = net; holds = h; made = made }) held)

-- a network that is held is declared
declared : (kind : OnNet) (asked : CheckWords) (net : Network) (product : Product) (files : Files)
    → ((raw : RawNet) → product ≡ product_of kind raw net) → HoldsNet files asked.net net
    → MakesOnNet kind asked files product
declared kind asked net product files made h = by_text h.accepted.0
  where
    by_text : NetOf h.text net → MakesOnNet kind asked files product
    by_text (raw, has, is) = record {
      raw = raw;
      net = net;
      holds = record {
        text = h.text;
        holds = h.holds;
        declares = record { has = has; is_net = is; deterministic = h.accepted.1 };
      };
      made = made raw;
    }

-- of a network, whatever its declarations
pub check_made : (detail : Detail) (o : Option Files) (asked : CheckWords) (net : Network)
    (product : Product) → WhereTold o (λ files. HoldsNet files asked.net net)
    → product ≡ shows_only (accepted_text net)
    → IsMadeProduct (on_net_meaning detail Check asked) o product
check_made detail o asked net product held made =
    product_made (on_net_meaning detail Check asked) o product (shows_only (accepted_text net)) made
    tt refl
    (told_from o (λ files. HoldsNet files asked.net net) _
    (λ files h. declared Check asked net product files (λ raw. made) h) held)

-- ---- what is saved
parts_lawful : (of : Network → List Part → Product) (asked : NetStemWords)
    → IsLawful (parts_meaning of asked)
parts_lawful of asked =
    net_lawful details.Cause asked.net (MakesOfParts of asked)
    (λ files product m. (m.net, m.holds_net))

pub from_net_lawful : (kind : FromNet) (asked : NetStemWords)
    → IsLawful (from_net_meaning kind asked)
from_net_lawful Image asked = image_lawful asked
from_net_lawful other asked = parts_lawful _ asked

pub parts_made : (o : Option Files) (of : Network → List Part → Product) (asked : NetStemWords)
    (net : Network) (product : Product) → WhereTold o (λ files. HoldsNet files asked.net net)
    → IsOfParts of net product
    → ((parts : List Part) → AreApart (of net parts).saves
    × IsTrue (ends_done (end_status (of net parts).end)))
    → IsMadeProduct (parts_meaning of asked) o product
parts_made o of asked net product held (parts, right, made) saves =
    product_made (parts_meaning of asked) o product (of net parts) made (saves parts).0
    (saves parts).1
    (told_from o (λ files. HoldsNet files asked.net net) _
    (λ files h. record { net = net; holds_net = h; parts = parts; right = right; made = made })
    held)
