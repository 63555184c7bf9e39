-- How many entries are adopted.
use Rattle.std.specs.Prelude.{◌≡◌, ℕ, ◌≤◌, min, List, length}
use Rattle.std.proofs.Common.{sym, ap, ◌∙◌, subst}
use Rattle.std.proofs.Math.Nat.{min-le_right, le-min}
use Rattle.std.proofs.lemmas.List.{length-take}
use Rattle.transition_table.specs.declared.network.Network.{Network}
use Rattle.journals.specs.declared.entry.Entry.{Entry}
use Rattle.journals.specs.declared.entry.TraceItem.{TraceItem}
use Rattle.net_core.specs.Prefixes.{IsAdopted}

-- no more than the journal has, and than the limit
pub adopted_most : (net : Network) (trace : List TraceItem) (journal : List Entry) (limit : ℕ)
    (adopted : List Entry) (kept : ℕ) → IsAdopted net trace journal limit adopted
    → kept ≡ min (length journal) limit → (length adopted ≤ kept) × (kept ≤ limit)
adopted_most net trace journal limit adopted kept h is =
    let size : length adopted ≡ min (length adopted) (length journal) =
    ap (λ (l : List Entry). length l) h.prefix ∙ length-take (length adopted) journal in
    let short : length adopted ≤ length journal =
    subst (λ k. k ≤ length journal) (sym size) (min-le_right (length adopted) (length journal)) in (
      subst (λ k. length adopted ≤ k) (sym is) (le-min short h.within),
      subst (λ k. k ≤ limit) (sym is) (min-le_right (length journal) limit),
    )
