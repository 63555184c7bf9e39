-- One step of reading a list of items.
use Rattle.std.specs.Prelude.{◌≡◌, ℕ, Bool, nat_lt, length, List, ◌∷◌, Some, Err}
use Rattle.std.specs.List.{list_all}
use Rattle.transition_table.specs.declared.decl.StateDecl.{StateDecl}
use Rattle.transition_table.specs.declared.network.Network.{Network}
use Rattle.journal_text.specs.Forms.{Texts}
use Rattle.journal_text.specs.Items.{Named, with_code, some_codes, all_values}
use Rattle.journal_text.specs.declared.fault.JournalKind.{JournalKind}
use Rattle.journal_text.specs.declared.fault.JournalKind.TheVariants.{Value}

-- whatever things are after it, a thing takes this code from the items, and these are left
abbrev pub Steps : Network → Named → Texts → ℕ → Texts → Type 0
Steps net named items code after = (things : List Named)
    → some_codes net (named ∷ things) items ≡ with_code (Some code) (some_codes net things after)

-- whatever things are after it, the next item has its name and a value at fault
abbrev pub Stops : Network → Named → Texts → Type 0
Stops net named items = (things : List Named) → some_codes net (named ∷ things) items ≡ Err Value

-- the next item gives a state variable this value, and these items are left
abbrev pub GivesValue : Network → Named → Texts → ℕ → Texts → Type 0
GivesValue net named items value after = (things : List Named)
    → all_values net (named ∷ things) items ≡ with_code (Some value) (all_values net things after)

-- the next item has this fault
abbrev pub StopsValues : Network → Named → Texts → JournalKind → Type 0
StopsValues net named items kind = (things : List Named)
    → all_values net (named ∷ things) items ≡ Err kind

-- the events are of the network, and the domains of the state variables are
abbrev pub are_events : Network → List ℕ → Bool
are_events net events = list_all (λ e. nat_lt e (length net.events)) events

abbrev pub are_states : Network → List StateDecl → Bool
are_states net variables =
    list_all (λ variable. nat_lt variable.domain (length net.domains)) variables
