use Rattle.std.proofs.Common.{◌≡◌, List, ℕ}
use Rattle.net_names.specs.Tables.{number_at}
use Rattle.transition_table.specs.declared.decl.EventDecl.{EventDecl}
use Rattle.journal_text.proofs.NameNumbers.{first_of}
use Rattle.journal_text.proofs.index.number_events.Given as goal

-- those before this one have their numbers
abbrev pub invariant-loop-e : goal.invariant-loop-e
invariant-loop-e l = (word : List ℕ)
    → number_at l.table word ≡ first_of (λ (event : EventDecl). event.name) l.net.events l.e word
