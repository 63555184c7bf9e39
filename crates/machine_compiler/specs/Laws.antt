-- A machine has one right part, a listing has one list of parts, and the counts of right parts fit.
use Rattle.std.specs.Prelude.{◌≡◌, ◌<◌, ◌^◌, List, length, IsTrue}
use Rattle.transition_table.specs.declared.machine.Machine.{Machine}
use Rattle.transition_table.specs.declared.network.Network.{Network}
use Rattle.transition_table.specs.Transitions.{AreDeterministic, IsDeterministic}
use Rattle.journals.specs.declared.entry.Entry.{Entry}
use Rattle.journals.specs.Journals.{IsJournal}
use Rattle.journal_text.specs.Holding.{names_hold}
use Rattle.task_code.specs.Listings.{Part, ListingText}
use Rattle.machine_compiler.specs.Lines.{CountsFit}
use Rattle.machine_compiler.specs.Parts.{AreRightParts, IsRightPart, codes_in}

-- two right parts of one machine are the same: the order that sifting gives, its sizes, the graph
-- in that order, and its code
abbrev pub OneRightPart : Type 0
OneRightPart =
    (m : Machine) (p q : Part)
    → IsDeterministic m
    → IsRightPart m p
    → IsRightPart m q
    → p ≡ q

-- and so a network has one list of right parts
abbrev pub OneRightParts : Type 0
OneRightParts =
    (net : Network) (p q : List Part)
    → AreDeterministic net
    → AreRightParts net p
    → AreRightParts net q
    → p ≡ q

-- right parts of one network with the same listing are the same parts
abbrev pub ListingDeterminesParts : Type 0
ListingDeterminesParts =
    (net : Network) (p q : List Part)
    → IsTrue (names_hold net)
    → AreRightParts net p
    → AreRightParts net q
    → ListingText net p ≡ ListingText net q
    → p ≡ q

-- the counts of right parts fit, in each journal of fewer than 2 ^ 32 entries
abbrev pub RightCountsFit : Type 0
RightCountsFit =
    (net : Network) (parts : List Part) (journal : List Entry)
    → AreRightParts net parts
    → IsJournal net journal
    → length journal < 2 ^ 32
    → CountsFit (codes_in parts) journal

-- the laws of parts
pub record PartLaws : Type 0 where
  pub one_part : OneRightPart
  pub one_parts : OneRightParts
  pub listing_determines : ListingDeterminesParts
  pub counts_fit : RightCountsFit
