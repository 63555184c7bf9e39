use Rattle.std.proofs.Common.{◌≡◌, ◌⊎◌, ◌∙◌, ℕ, zero, suc, List, [], inl, inr, refl, subst, sym, arith}
use Rattle.std.proofs.lemmas.Bool.{eqb-true}
use Rattle.std.proofs.lemmas.List.{append-nil}
use Rattle.journals.specs.declared.entry.Owed.{Owed}
use Rattle.net_core.specs.declared.config.emissions.Emission.{Emission}
use Rattle.net_core.specs.Emissions.{no_place, IsChain, IsMore}
use Rattle.net_core.specs.inner.Emissions.{given_to}
use Rattle.net_core.proofs.OwedByEmissions.{none_waiting}
use Rattle.net_core.proofs.config.emissions.emit.Goals.{then-code-eq0-via-then-code-eq0, then-code-eq0-via-else-code-eq0+then-is_empty}
use Rattle.net_core.proofs.config.emissions.emit.Goals as goal

nothing_more : (records : List Emission) (last : List ℕ) → IsChain records last
    → IsMore records last records last []
nothing_more records last chain = record {
  chain = chain;
  grown = omega arith;
  queue = λ front cursors is. is;
  view = λ front within. sym (append-nil _);
}

given_none : (from event code left : ℕ) → (code ≡ 0) ⊎ (left ≡ 0)
    → given_to from event code left ≡ []
given_none from event zero left h = refl
given_none from event (suc v) left (inl none) = absurd (omega (arith, none))
given_none from event (suc v) left (inr none) =
    none_waiting
    (record { from = from; event = event; code = suc v; left = left; next = no_place }) none

pub returns-then-code-eq0-clause-more : goal.returns-then-code-eq0-clause-more
returns-then-code-eq0-clause-more c =
    let none : (c.args.code ≡ 0) ⊎ (c.args.left ≡ 0) =
    elim c.then-code-eq0.branch [
      | then-code-eq0-via-then-code-eq0 w ↦ inl w.if-code-eq0.true
      | then-code-eq0-via-else-code-eq0+then-is_empty w ↦ inr
          (eqb-true c.args.left 0 (sym w.is_empty.ensures ∙ w.if-is_empty.true))
    ] in
    subst (λ (owed : List Owed). IsMore c.args.records.now.items c.args.last.now.items
    c.args.records.now.items c.args.last.now.items owed)
    (sym (given_none c.args.from c.args.event c.args.code c.args.left none))
    (nothing_more c.args.records.now.items c.args.last.now.items c.requires.chain)
