-- How many values an event has, by their words, and that its domain is there.
use Rattle.std.proofs.Common.{◌≡◌, ℕ, List, [], length, slice_get, Option, Some, None, option_map, unwrap_or, true, refl}
use Rattle.domains.specs.Domains.{size_of, words_of}
use Rattle.domains.specs.declared.domain.Domain.{Domain}
use Rattle.transition_table.specs.EventWords.{words_in}
use Rattle.transition_table.specs.NetworkFacts.{has_domain, values_of}
use Rattle.transition_table.specs.declared.decl.EventDecl.{EventDecl}
use Rattle.transition_table.specs.declared.network.Network.{Network}
use Rattle.polis_base.proofs.ListTests.{all_get}
use Rattle.domains.proofs.WordsOf.{long_words}

-- as many as there are words
pub long_words_in : (net : Network) (d : ℕ)
    → length (words_in net d) ≡ values_of net.domains (Some d)
long_words_in net d =
    elim (slice_get net.domains d) as (λ (o : Option Domain).
    length (unwrap_or (option_map words_of o) []) ≡ unwrap_or (option_map size_of o) 0) [
      | None ↦ refl
      | Some domain ↦ long_words domain
    ]

-- how many values there are with these words, one where there are none
pub count_of : Option (List (List ℕ)) → ℕ
count_of None = 1
count_of (Some words) = length words

pub counted : (net : Network) (o : Option ℕ)
    → count_of (option_map (words_in net) o) ≡ values_of net.domains o
unfolding count_of
counted net None = refl
counted net (Some d) = long_words_in net d

pub event_domain : (net : Network) (k : ℕ) (event : EventDecl) → slice_get net.events k ≡ Some event
    → has_domain net.domains event ≡ true
event_domain net k event is =
    all_get (has_domain net.domains) net.events k event net.event_domains is
