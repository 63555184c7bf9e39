use Rattle.std.proofs.Common.{◌≡◌, ◌<◌, ℕ, true, List, Option, None, Some, length, slice_get, refl, sym, subst, ◌∙◌, IsTrue}
use Rattle.std.specs.Prelude.{◌↔◌, IsSomeAnd}
use Rattle.std.proofs.lemmas.Option.{slice_get_read}
use Rattle.transition_table.specs.Transitions.{HasWidths, OfMachine, Transition}
use Rattle.transition_table.specs.declared.machine.Machine.{Machine}
use Rattle.transition_table.specs.declared.snapshot.Outcome.{Outcome}
use Rattle.transition_table.specs.declared.network.Network.{Network}
use Rattle.journals.specs.Journals.{FitsNetwork}
use Rattle.journals.specs.declared.entry.Entry.{Entry}
use Rattle.journals.specs.declared.entry.Entry.TheVariants.{Rea}
use Rattle.journals.proofs.CursorsAfter.{machine_within}
use Rattle.net_core.specs.Blanks.{AreWide}
use Rattle.net_core.specs.inner.Outcomes.{SaysOutcome}
use Rattle.net_core.proofs.Prefixes.{wide_after}
use Rattle.net_core.proofs.blanks.Blanks.is_right.Goals as goal

pub invariant_of-self : goal.invariant_of-self
invariant_of-self g c =
    let a = c.args in
    let net = c.self.inside.net.now in
    let m = c.in-Rea.machine in
    let s = c.in-Rea.snapshot in
    let o = c.in-Rea.outcome in
    wide_after c.laws.ensures.transition_fits net c.self.inside.outcomes.items m s o
    c.makes.new.made c.self.invariant
    (subst (λ (n : Network). FitsNetwork n (Rea m s o)) (sym c.self.view_is)
    (subst (λ (e : Entry). FitsNetwork a.self.now e) c.in-Rea.is c.requires.fits))
    (subst (λ (n : Network). OfMachine n m (λ machine. Transition machine s c.makes.new.made))
    (c.requires.network ∙ sym c.self.view_is) c.makes.ensures.made)

pub returns-in-Rea-clause-right : goal.returns-in-Rea-clause-right
returns-in-Rea-clause-right g c =
    subst (λ (e : Entry). SaysOutcome c.args.self.now e c.makes.result) (sym c.in-Rea.is)
    (subst
    (λ (n : Network). IsTrue c.makes.result
    ↔ OfMachine n c.in-Rea.machine
    (λ machine. Transition machine c.in-Rea.snapshot c.in-Rea.outcome)) c.requires.network
    c.makes.ensures.gives)

pub makes-requires-clause-fits : goal.makes-requires-clause-fits
makes-requires-clause-fits g c =
    let entry = Rea c.in-Rea.machine c.in-Rea.snapshot c.in-Rea.outcome in
    subst (λ (n : Network). FitsNetwork n entry) (sym c.requires.network)
    (subst (λ (e : Entry). FitsNetwork c.args.self.now e) c.in-Rea.is c.requires.fits)

-- the outcome of a machine that there is has the machine's widths
wide_there : (net : Network) (outcomes : List Outcome) (m : ℕ) (o : Outcome) (P : Machine → Type 0)
    → AreWide net outcomes → slice_get outcomes m ≡ Some o → OfMachine net m P
    → OfMachine net m (λ machine. HasWidths machine o)
wide_there net outcomes m o P wide at there = of (slice_get net.machines m) refl there
  where
    of : (found : Option Machine) → slice_get net.machines m ≡ found → IsSomeAnd found P
        → IsSomeAnd found (λ machine. HasWidths machine o)
    of None is none = none
    of (Some machine) is holds = wide.wide m machine o is at

pub makes-requires-clause-wide : goal.makes-requires-clause-wide
makes-requires-clause-wide g c =
    let m = c.in-Rea.machine in
    let entry = Rea m c.in-Rea.snapshot c.in-Rea.outcome in
    let made = c.index_mut-made.result.now in
    let net = c.self.inside.net.now in
    let outcomes = c.self.inside.outcomes.items in
    let fits = subst (λ (n : Network). FitsNetwork n entry) (sym c.self.view_is)
    (subst (λ (e : Entry). FitsNetwork c.args.self.now e) c.in-Rea.is c.requires.fits) in
    subst (λ (n : Network). OfMachine n m (λ machine. HasWidths machine made))
    (c.self.view_is ∙ sym c.requires.network)
    (wide_there net outcomes m made _ c.self.invariant
    (slice_get_read outcomes (length outcomes) m made refl
    (subst (λ (n : ℕ). m < n) (sym c.self.invariant.many) (machine_within net entry fits))
    c.index_mut-made.ensures.value) fits)

pub returns-in-Dep-clause-right : goal.returns-in-Dep-clause-right
returns-in-Dep-clause-right g c =
    subst (λ (e : Entry). SaysOutcome c.args.self.now e true) (sym c.in-Dep.is) tt

pub returns-in-Rea-clause-same : goal.returns-in-Rea-clause-same
returns-in-Rea-clause-same g c = c.self.view_is
