-- Which events of a monitor the network has as outputs.
use Rattle.std.proofs.Common.{◌≡◌, ⊎_elim, ℕ, ◌+◌, ◌<◌, slice_get, Some, sym, ap, ◌∙◌, subst, arith}
use Rattle.std.proofs.lemmas.Bool.{cases_lt}
use Rattle.transition_table.specs.declared.decl.EventDecl.{EventDecl}
use Rattle.transition_table.specs.declared.network.Network.{Network}

-- what holds of each event before a place
abbrev pub EachBefore : Network → (EventDecl → Type 0) → ℕ → Type 0
EachBefore net P n =
    (k : ℕ) (event : EventDecl) → k < n → slice_get net.events k ≡ Some event → P event

-- holds of one more, if it does of that
pub each_more : (net : Network) (P : EventDecl → Type 0) (n : ℕ) (event : EventDecl)
    → slice_get net.events n ≡ Some event → P event → EachBefore net P n
    → EachBefore net P (n + 1)
each_more net P n event here holds each k other low there =
    ⊎_elim
    (λ less. each k other less there)
    (λ more.
    let at : n ≡ k = omega arith in
    let same : event ≡ other =
    let both : Some event ≡ Some other = sym here ∙ ap (slice_get net.events) at ∙ there in cc in
    subst P same holds)
    (cases_lt k n)
