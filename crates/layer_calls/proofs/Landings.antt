-- Deliveries of the environment to the machine of the join.
use Rattle.std.proofs.Common.{◌≡◌, refl, sym, subst}
use Rattle.transition_table.specs.declared.decl.Party.TheVariants.{Env}
use Rattle.transition_table.specs.declared.network.Network.{Network}
use Rattle.transition_table.specs.samples.Join.{join}
use Rattle.journals.specs.declared.entry.Entry.{Entry}
use Rattle.journals.specs.declared.entry.Entry.TheVariants.{Dep}
use Rattle.journals.specs.Journals.{FitsNetwork}

-- one of the first event fits a network that is the join
pub landing_fits : (net : Network) (entry : Entry) → net ≡ join → entry ≡ Dep Env 0 0 1
    → FitsNetwork net entry
landing_fits net entry same is =
    subst (λ (n : Network). FitsNetwork n entry) (sym same)
    (subst (λ (e : Entry). FitsNetwork join e) (sym is) refl)
