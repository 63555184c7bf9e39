-- Declarations give no two networks.
use Rattle.std.proofs.Common.{◌≡◌, ◌∙◌, ◌≤◌, ◌<◌, ◌-◌, List, [], ◌∷◌, refl, ap, sym}
use mathlib.Core.HLevel.{is_prop→PathP}
use Rattle.std.specs.Coded.{le_prop}
use Rattle.std.specs.List.{AllZip}
use Rattle.domains.specs.declared.domain.Span.{Span}
use Rattle.domains.specs.declared.domain.Domain.{Domain}
use Rattle.domains.specs.declared.domain.Domain.TheVariants as domains
use Rattle.transition_table.specs.declared.row.Row.{Row}
use Rattle.transition_table.specs.declared.machine.Machine.{Machine}
use Rattle.net_reader.specs.declared.raw.RawShape.{RawShape}
use Rattle.net_reader.specs.declared.raw.RawShape.TheVariants as shapes
use Rattle.net_reader.specs.declared.raw.RawDomain.{RawDomain}
use Rattle.net_reader.specs.declared.raw.RawRow.{RawRow}
use Rattle.net_reader.specs.declared.raw.RawMachine.{RawMachine}
use Rattle.net_reader.specs.declared.raw.RawNet.{RawNet}
use Rattle.net_rules.specs.Networks.{IsDomainOf, IsRowOf, IsMachineOf}
use Rattle.net_rules.specs.Unique.{OneNetwork}
use Rattle.transition_table.proofs.SameData.{same_row, same_machine, same_network}

-- two lists that match one, item by item, are the same
alike : {A B : Type 0} (R : A → B → Type 0) → ((a : A) (x y : B) → R a x → R a y → x ≡ y)
    → (raw : List A) (xs ys : List B) → AllZip R raw xs → AllZip R raw ys → xs ≡ ys
alike R one [] [] [] p q = refl
alike R one [] [] (y ∷ ys) p q = absurd q
alike R one [] (x ∷ xs) ys p q = absurd p
alike R one (a ∷ raw) [] ys p q = absurd p
alike R one (a ∷ raw) (x ∷ xs) [] p q = absurd q
alike R one (a ∷ raw) (x ∷ xs) (y ∷ ys) p q =
    let first = one a x y p.0 q.0 in
    let rest = alike R one raw xs ys p.1 q.1 in
    λ i. first i ∷ rest i

same_span : (a b : Span) → a.first ≡ b.first → a.last ≡ b.last → a ≡ b
same_span a b p q = λ i. record {
  first = p i;
  last = q i;
  ordered = is_prop→PathP (λ j. p j ≤ q j) (λ j. le_prop) a.ordered b.ordered i;
  few = is_prop→PathP (λ j. q j - p j < 32) (λ j. le_prop) a.few b.few i;
}

one_domain : (shape : RawShape) (a b : Domain) → IsDomainOf shape a → IsDomainOf shape b → a ≡ b
one_domain (shapes.Names words) a b p q = p ∙ sym q
one_domain (shapes.Range first last) a b p q =
    p.1 ∙ ap domains.Range (same_span p.0 q.0 (p.2 ∙ sym q.2) (p.3 ∙ sym q.3)) ∙ sym q.1

one_row : (net : RawNet) (m : RawMachine) (raw : RawRow) (a b : Row) → IsRowOf net m raw a
    → IsRowOf net m raw b → a ≡ b
one_row net m raw a b p q = same_row a b (p.conds ∙ sym q.conds) (p.acts ∙ sym q.acts)

one_machine : (net : RawNet) (raw : RawMachine) (a b : Machine) → IsMachineOf net raw a
    → IsMachineOf net raw b → a ≡ b
one_machine net raw a b p q = same_machine a b (record {
  name = p.name ∙ sym q.name;
  priority = p.priority ∙ sym q.priority;
  inputs = p.inputs ∙ sym q.inputs;
  outputs = p.outputs ∙ sym q.outputs;
  states = p.states ∙ sym q.states;
  vars = p.vars ∙ sym q.vars;
  results = p.results ∙ sym q.results;
  rows = alike (IsRowOf net raw) (one_row net raw) raw.rows a.rows b.rows p.rows q.rows;
})

pub one_network : OneNetwork
one_network raw a b p q = same_network a b (record {
  name = p.name ∙ sym q.name;
  domains = alike (λ (d : RawDomain). IsDomainOf d.shape) (λ d. one_domain d.shape) raw.domains
      a.domains b.domains p.domains q.domains;
  events = p.events ∙ sym q.events;
  machines = alike (IsMachineOf raw) (one_machine raw) raw.machines a.machines b.machines p.machines
      q.machines;
})
