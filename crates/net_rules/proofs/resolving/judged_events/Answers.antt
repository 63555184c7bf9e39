use Rattle.std.proofs.Common.{◌≡◌, ◌∙◌, Option, None, ap, sym, subst}
use Rattle.net_reader.specs.declared.raw.RawNet.{RawNet}
use Rattle.rule_judge.specs.declared.verdict.Broken.{Broken}
use Rattle.rule_judge.specs.Declarations.{declaration_rules}
use Rattle.rule_judge.specs.Judged.{broken, first_broken, machine_rules}
use Rattle.rule_judge.proofs.FirstBroken.{declaration_broken, declarations_kept}
use Rattle.net_rules.specs.inner.Sound.{IsSound}
use Rattle.net_rules.proofs.IsSound.{sound}
use Rattle.net_rules.proofs.NetworkFacts.{domain_count, machine_count}
use Rattle.net_rules.proofs.Sentences.{sentences_have_values}
use Rattle.net_rules.proofs.resolving.judged_events.Goals as goal

-- where no rule on declarations is broken, the first of all is that of the machines
on_machines : (raw scope : RawNet) → scope ≡ raw → (first second : Option Broken)
    → first ≡ first_broken (declaration_rules raw) → first ≡ None
    → second ≡ first_broken (machine_rules scope) → broken raw ≡ second
on_machines raw scope same first second judged none found =
    declarations_kept raw (sym judged ∙ none)
    ∙ ap (λ (net : RawNet). first_broken (machine_rules net)) (sym same) ∙ sym found

pub returns-in-Some-clause-fault : goal.returns-in-Some-clause-fault
returns-in-Some-clause-fault c =
    declaration_broken c.args.raw.now c.in-Some.broken
    (sym c.in_ok-broken.ensures ∙ c.in-Some.is)

pub returns-in-Some-2-clause-fault : goal.returns-in-Some-2-clause-fault
returns-in-Some-2-clause-fault c =
    on_machines c.args.raw.now c.in_ok-scope.scope.raw.now c.in_ok-scope.ensures _ _
    c.in_ok-broken.ensures c.in_default.is c.in_ok-broken-2.ensures ∙ c.in-Some-2.is

pub events_of-requires-clause-domains : goal.events_of-requires-clause-domains
events_of-requires-clause-domains c =
    domain_count c.in_ok-scope.scope.raw.now
    (subst IsSound (sym c.in_ok-scope.ensures)
    (sound c.args.raw.now
    (on_machines c.args.raw.now c.in_ok-scope.scope.raw.now c.in_ok-scope.ensures _ _
    c.in_ok-broken.ensures c.in_default.is c.in_ok-broken-2.ensures ∙ c.in_default-2.is)
    (sentences_have_values c.args.raw.now c.requires)))

pub events_of-requires-clause-machines : goal.events_of-requires-clause-machines
events_of-requires-clause-machines c =
    machine_count c.in_ok-scope.scope.raw.now
    (subst IsSound (sym c.in_ok-scope.ensures)
    (sound c.args.raw.now
    (on_machines c.args.raw.now c.in_ok-scope.scope.raw.now c.in_ok-scope.ensures _ _
    c.in_ok-broken.ensures c.in_default.is c.in_ok-broken-2.ensures ∙ c.in_default-2.is)
    (sentences_have_values c.args.raw.now c.requires)))
