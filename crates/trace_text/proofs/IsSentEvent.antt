-- The first number that passes a test.
use Rattle.std.proofs.Common.{◌≡◌, ◌+◌, ℕ, Bool, false, List, [], ◌∷◌, Some, None, refl, sym, add-one, slice_get}
use Rattle.std.specs.List.{find}
use Rattle.std.proofs.lemmas.List.Folds.{find-append}
use Rattle.polis_base.specs.Lists.{upto}
use Rattle.transition_table.specs.declared.decl.EventDecl.{EventDecl}
use Rattle.transition_table.specs.declared.network.Network.{Network}
use Rattle.trace_text.specs.Traces.{is_sent, is_sent_event}

-- one more number, where none before it passes
pub find_next : (test : ℕ → Bool) (n : ℕ) → find test (upto n) ≡ None → test n ≡ false
    → find test (upto (n + 1)) ≡ None
find_next test n before here = rw (add-one, find-append test (upto n) (n ∷ []), before, here) refl

-- whether the environment sends this event by this name
pub sent_event : (net : Network) (word : List ℕ) (e : ℕ) (event : EventDecl) (b : Bool)
    → slice_get net.events e ≡ Some event → b ≡ is_sent word event → is_sent_event net word e ≡ b
sent_event net word e event b at is = rw at (sym is)
