-- The values that words name, and the domains of events.
use Rattle.std.proofs.Common.{◌≡◌, ◌≢◌, ◌<◌, ℕ, true, nat_lt, List, length, Option, Some, None, IfSome, IfNone, slice_get, sym, ◌∙◌, arith}
use Rattle.std.specs.Option.{option_map_or}
use Rattle.std.proofs.lemmas.Bool.{ltb-true}
use Rattle.polis_base.proofs.Found.{find_none, find_only}
use Rattle.domains.specs.Names.{is_same}
use Rattle.domains.specs.Domains.{size_of, word_of, IsDomain, WordsDiffer}
use Rattle.domains.specs.declared.domain.Domain.{Domain}
use Rattle.domains.proofs.Names.{texts_same, texts_differ}
use Rattle.transition_table.specs.NetworkFacts.{has_domain}
use Rattle.transition_table.specs.declared.decl.EventDecl.{EventDecl}
use Rattle.transition_table.specs.declared.network.Network.{Network}
use Rattle.journals.specs.ValueWords.{value_named}
use Rattle.polis_base.proofs.ListTests.{all_get}

-- what a search for a value with the word gives
pub value_answer : WordsDiffer → (d : Domain) (word : List ℕ) (found : Option ℕ) → IsDomain d
    → IfSome found (λ v. (v < size_of d) × (word_of d v ≡ word))
    → IfNone found ((v : ℕ) → v < size_of d → word_of d v ≢ word) → found ≡ value_named word d
value_answer differ d word None domain some none =
    sym (find_none (λ u. is_same (word_of d u) word) (size_of d)
    (λ v below. texts_differ (word_of d v) word (none v below)))
value_answer differ d word (Some v) domain some none =
    sym (find_only (λ u. is_same (word_of d u) word) (size_of d) v some.0
    (texts_same (word_of d v) word some.1)
    (λ u before. texts_differ (word_of d u) word
    (λ same. let e = differ d u v domain (omega arith) some.0 (same ∙ sym some.1) in
    omega arith)))

-- the domain of an event is one of the network
pub domain_in : (net : Network) (e : ℕ) (event : EventDecl) → slice_get net.events e ≡ Some event
    → IfSome event.domain (λ d. d < length net.domains)
domain_in net e event at =
    go event.domain (all_get (has_domain net.domains) net.events e event net.event_domains at)
  where
    go : (o : Option ℕ) → option_map_or (λ d. nat_lt d (length net.domains)) o true ≡ true
        → IfSome o (λ d. d < length net.domains)
    go None h = tt
    go (Some d) h = ltb-true _ _ h
