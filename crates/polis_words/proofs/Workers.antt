-- Requests that more than one worker does.
use Rattle.std.proofs.Common.{◌≡◌, ◌↔◌, ◌<◌, ℕ, Bool, false, List, IsTrue, ap, subst, arith}
use Rattle.std.specs.Bool.{Decides}
use Rattle.polis_words.specs.Requests.{Asks, AsksNothing}
use Rattle.polis_words.specs.Workers.{NeedsWorkers, workers_of}
use Rattle.polis_words.specs.declared.requests.Request.{Request}

-- the one request that is asked for tells
pub needs : (words : List (List ℕ)) (request : Request) → Asks words request
    → ((other : Request) → Asks words other → other ≡ request)
    → (workers : ℕ) → workers ≡ workers_of request
    → (test : Bool) → Decides test (1 < workers) → IsTrue test ↔ NeedsWorkers words
needs words request asks one workers same test is = (
  λ passes. (request, asks, subst (λ (n : ℕ). 1 < n) same (is.0 passes)),
  λ some.
      let this : workers_of some.0 ≡ workers_of request = ap workers_of (one some.0 some.1) in
      let more = some.2 in
      is.1 (omega (arith, this, more, same)),
)

pub needs_none : (words : List (List ℕ)) → AsksNothing words → IsTrue false ↔ NeedsWorkers words
needs_none words none = (λ test. cc, λ some. absurd (none some.0 some.1))
