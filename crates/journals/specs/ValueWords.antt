-- The values and the codes that words give.
use Rattle.std.specs.Prelude.{ℕ, ◌+◌, List, slice_get, Option, Some, None, option_map}
use Rattle.std.specs.List.{find}
use Rattle.polis_base.specs.Lists.{upto}
use Rattle.domains.specs.Names.{is_same}
use Rattle.domains.specs.Domains.{size_of, word_of}
use Rattle.domains.specs.declared.domain.Domain.{Domain}
use Rattle.transition_table.specs.NetworkNames.{joined}
use Rattle.transition_table.specs.declared.network.Network.{Network}

-- the value of a domain that has this word
abbrev pub value_named : List ℕ → Domain → Option ℕ
value_named word domain = find (λ v. is_same (word_of domain v) word) (upto (size_of domain))

-- the code of what has no domain, which is 1 and has no value, or of the value v of the domain,
-- which is 1 + v
abbrev pub word_code : Network → Option ℕ → Option (List ℕ) → Option ℕ
word_code net None None = Some 1
word_code net None (Some word) = None
word_code net (Some d) None = None
word_code net (Some d) (Some word) =
    option_map (λ v. 1 + v) (joined (option_map (value_named word) (slice_get net.domains d)))
