-- The laws of the rule of a network.
use Rattle.std.proofs.Common.{ℕ, Bool, false, refl, sym, subst}
use Rattle.polis_base.specs.declared.token.Keyword.TheVariants.{KwNetwork, KwVersion, KwDomain, KwEvent, KwMachine}
use Rattle.polis_base.specs.declared.token.Kind.TheVariants as kinds
use Rattle.net_reader.specs.Grammar.{IsNet}
use Rattle.net_reader.specs.Reading.{is, net_at}
use Rattle.net_reader.specs.declared.raw.RawNet.{RawNet}
use Rattle.net_reader.proofs.BoundParts.{closed, last_of, with_value, without_value}
use Rattle.net_reader.proofs.Laws.{Laws, none, bind_laws}
use Rattle.net_reader.proofs.Combinators.{same_laws, pure_laws, many_laws}
use Rattle.net_reader.proofs.Tokens.{apart, within, only_laws, word_laws, num_laws, one_goes, some_laws}
use Rattle.net_reader.proofs.DeclarationLaws.{domain_laws, event_laws}
use Rattle.net_reader.proofs.MachineLaws.{machine_laws}

abbrev pub net_goes : ℕ → Bool
net_goes = one_goes (is (kinds.Keyword KwMachine)) none

pub net_laws : Laws net_at IsNet (is (kinds.Keyword KwNetwork)) net_goes false
unfolding net_at
net_laws = same_laws
    (λ e ts f. subst (λ (z : RawNet). IsNet z ts) (sym f.5.5.5.5.5.5.5.0)
    (without_value f (without_value f.5 (without_value f.5.5 (without_value f.5.5.5
    (without_value f.5.5.5.5 (without_value f.5.5.5.5.5 (last_of f.5.5.5.5.5.5))))))))
    (λ e ts f.
    with_value tt f (with_value e.name f.4 (with_value tt f.4.4 (with_value e.version
    f.4.4.4 (with_value e.domains f.4.4.4.4 (with_value e.events f.4.4.4.4.4 (closed
    e.machines f.4.4.4.4.4.4 refl)))))))
    (bind_laws (only_laws (kinds.Keyword KwNetwork) refl)
    (λ _. bind_laws word_laws (λ name.
    bind_laws (only_laws (kinds.Keyword KwVersion) refl)
    (λ _. bind_laws num_laws (λ version.
    bind_laws (many_laws (is (kinds.Keyword KwDomain)) domain_laws (within _ _ refl)
    (apart _ _ refl))
    (λ domains. bind_laws
    (many_laws (is (kinds.Keyword KwEvent)) event_laws (within _ _ refl) (apart _ _ refl))
    (λ events. bind_laws
    (some_laws (is (kinds.Keyword KwMachine)) (machine_laws version.number) (within _ _ refl)
    (apart _ _ refl))
    (λ machines. pure_laws {A = RawNet}
    (record {
      name = name;
      version = version;
      domains = domains;
      events = events;
      machines = machines;
    })) (apart _ _ refl)) (apart _ _ refl)) (apart _ _ refl))
    (apart _ _ refl)) (apart _ _ refl)) (apart _ _ refl)) (apart _ _ refl))
