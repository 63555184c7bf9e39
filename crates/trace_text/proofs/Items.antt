-- Items that fit a network.
use Rattle.std.proofs.Common.{◌≡◌, ◌<◌, ◌≤◌, ℕ, Bool, true, false, true≢false, ap, ◌&&◌, List, length, Some, slice_get, refl, sym, ◌∙◌, IsTrue}
use Rattle.std.specs.Cmp.Derive.{both_true}
use Rattle.std.proofs.lemmas.Bool.{lt-ltb, le-leb, and_parts}
use Rattle.polis_base.specs.Names.{is_name}
use Rattle.domains.specs.Names.{is_same}
use Rattle.transition_table.specs.NetworkFacts.{values_of}
use Rattle.transition_table.specs.declared.decl.Party.TheVariants.{Env}
use Rattle.transition_table.specs.declared.decl.EventDecl.{EventDecl}
use Rattle.transition_table.specs.declared.network.Network.{Network}
use Rattle.journals.specs.declared.entry.TraceItem.TheVariants.{Event}
use Rattle.journals.specs.Journals.{is_trace_item, same_party}
use Rattle.trace_text.specs.Traces.{is_sent, is_sent_event}
use Rattle.trace_text.proofs.IsSentEvent.{sent_event}
use Rattle.domains.proofs.Names.{same_texts}

-- an event of the network with one of its codes is an item where the environment sends it
pub item_fits : (net : Network) (word : List ℕ) (e code : ℕ) (event : EventDecl)
    → e < length net.events → slice_get net.events e ≡ Some event → is_sent_event net word e ≡ true
    → 1 ≤ code → code ≤ values_of net.domains event.domain
    → IsTrue (is_trace_item net (Event e code))
item_fits net word e code event below at sent some few =
    let named : is_sent word event ≡ true = rw at at sent in
    let env : same_party event.sender Env ≡ true =
    (and_parts (is_same event.name word) _ named).1 in
    rw (at, env) (both_true
    (both_true (both_true (lt-ltb e _ below) (le-leb 1 code some)) (le-leb code _ few)) refl)

-- an event whose name is a name token hasn't another word as its name
pub not_sent : (net : Network) (word : List ℕ) (e : ℕ) (event : EventDecl)
    → slice_get net.events e ≡ Some event → is_name event.name ≡ true → is_name word ≡ false
    → is_sent_event net word e ≡ false
not_sent net word e event at token strange =
    sent_event net word e event false at (by (is_same event.name word) refl)
  where
    by : (b : Bool) → is_same event.name word ≡ b
        → false ≡ (b && same_party event.sender Env)
    by true h = absurd (true≢false (sym token ∙ ap is_name (same_texts event.name word h) ∙ strange))
    by false h = refl
