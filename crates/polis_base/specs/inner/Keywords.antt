-- The words that are no names.
use Rattle.std.specs.Prelude.{ℕ, Bool, cond, ◌==◌, List, Option, Some, None, is_some, codes}
use Rattle.std.specs.Option.{option_or}
use Rattle.std.specs.Cmp.Lexicographic.{pointwise}
use Rattle.polis_base.specs.declared.token.Keyword.{Keyword as Reserved}
use Rattle.polis_base.specs.declared.token.Keyword.TheVariants.{KwNetwork, KwVersion, KwDomain, KwEvent, KwMachine, KwFrom, KwTo, KwEnv, KwPriority, KwInput, KwOutput, KwState, KwWhen, KwDo, KwEmit, KwAbsent, KwIn, KwNothing, KwSettle, KwValue}

abbrev pub same_word : List ℕ → List ℕ → Bool
same_word = pointwise ◌==◌

-- the keyword that a word is, if it is one of those that a name or a number of a declaration stands
-- after
abbrev pub heading_keyword : List ℕ → Option Reserved
heading_keyword word =
    cond (same_word word (codes "network")) (Some KwNetwork)
    (cond (same_word word (codes "version")) (Some KwVersion)
    (cond (same_word word (codes "domain")) (Some KwDomain)
    (cond (same_word word (codes "event")) (Some KwEvent)
    (cond (same_word word (codes "machine")) (Some KwMachine)
    (cond (same_word word (codes "priority")) (Some KwPriority)
    (cond (same_word word (codes "input")) (Some KwInput)
    (cond (same_word word (codes "output")) (Some KwOutput)
    (cond (same_word word (codes "state")) (Some KwState) None))))))))

-- the keyword that a word is, if it is one of the others
abbrev pub inner_keyword : List ℕ → Option Reserved
inner_keyword word =
    cond (same_word word (codes "from")) (Some KwFrom)
    (cond (same_word word (codes "to")) (Some KwTo)
    (cond (same_word word (codes "env")) (Some KwEnv)
    (cond (same_word word (codes "when")) (Some KwWhen)
    (cond (same_word word (codes "do")) (Some KwDo)
    (cond (same_word word (codes "emit")) (Some KwEmit)
    (cond (same_word word (codes "absent")) (Some KwAbsent)
    (cond (same_word word (codes "in")) (Some KwIn)
    (cond (same_word word (codes "nothing")) (Some KwNothing)
    (cond (same_word word (codes "settle")) (Some KwSettle)
    (cond (same_word word (codes "value")) (Some KwValue) None))))))))))

-- the keyword that a word is, if it is one
abbrev pub keyword_of : List ℕ → Option Reserved
keyword_of word = option_or (heading_keyword word) (inner_keyword word)

abbrev pub is_keyword : List ℕ → Bool
is_keyword word = is_some (keyword_of word)
