use Rattle.std.proofs.Common.{◌≡◌, ◌<◌, ℕ, length, ap, sym, subst, ◌∙◌, arith}
use Rattle.std.proofs.lemmas.Bool.{both_ways}
use Rattle.transition_table.specs.declared.network.Network.{Network}
use Rattle.transition_table.specs.declared.snapshot.Outcome.{Outcome}
use Rattle.transition_table.specs.declared.snapshot.Snapshot.{Snapshot as OneSnapshot}
use Rattle.journals.specs.declared.entry.Entry.{Entry}
use Rattle.journals.specs.declared.entry.Entry.TheVariants.{Rea}
use Rattle.journals.specs.Journals.{FitsNetwork, snap}
use Rattle.journals.specs.Legality.{MayFollowIfReaction}
use Rattle.journals.proofs.MomentsAfter.{length_table}
use Rattle.journals.proofs.EntriesAt.{moment_of}
use Rattle.journals.proofs.CursorsAfter.{machine_within}
use Rattle.net_core.proofs.MayFollow.{not_woken, other_snapshot, other_outcome, reacts}
use Rattle.net_core.proofs.config.tables.Tables.against.Goals as goal

pub returns-in-Dep : goal.returns-in-Dep
returns-in-Dep c = λ journal current.
    c.against_delivery.ensures journal
    (subst (λ (e : Entry). MayFollowIfReaction c.args.net.now c.args.trace.now journal e)
    (sym c.in-Dep.is) tt) current

-- the machine of a reaction is one of the network
within : (net : Network) (entry : Entry) (m : ℕ) (s : OneSnapshot) (o : Outcome) → entry ≡ Rea m s o
    → FitsNetwork net entry → m < length net.machines
within net entry m s o is fits =
    machine_within net (Rea m s o) (subst (FitsNetwork net) is fits)

pub index-requires : goal.index-requires
index-requires c =
    let a = c.args in
    let r = c.in-Rea in
    let below = within a.net.now a.entry.now r.machine r.snapshot r.outcome r.is c.requires.fits in
    let size = ap length c.requires.current.1.moments_are
    ∙ length_table (snap a.net.now c.requires.current.0) (length a.net.now.machines) in
    omega arith

pub returns-then-not-has : goal.returns-then-not-has
returns-then-not-has c = λ journal current.
    let a = c.args in
    let r = c.in-Rea in
    let below = within a.net.now a.entry.now r.machine r.snapshot r.outcome r.is c.requires.fits in
    not_woken a.net.now a.trace.now journal a.entry.now r.machine r.snapshot r.outcome r.is
    (sym (c.has.ensures ∙ current.woken_are r.machine below) ∙ c.if-not-has.true)

pub returns-then-not-same_codes : goal.returns-then-not-same_codes
returns-then-not-same_codes c = λ journal current.
    let a = c.args in
    let r = c.in-Rea in
    let below = within a.net.now a.entry.now r.machine r.snapshot r.outcome r.is c.requires.fits in
    let moment = moment_of a.net.now journal a.self.now.moments.items r.machine
    c.index.result.now current.moments_are below c.index.ensures in
    other_snapshot a.net.now a.trace.now journal a.entry.now r.machine r.snapshot r.outcome r.is
    (sym (c.has.ensures ∙ current.woken_are r.machine below) ∙ c.if-not-has.false)
    (λ same. both_ways c.same_codes.result c.if-not-same_codes.true
    (c.same_codes.ensures.1
    (ap (λ (x : OneSnapshot). x.codes) (same ∙ sym moment))))

pub returns-then-is_right : goal.returns-then-is_right
returns-then-is_right c = λ journal current.
    let a = c.args in
    let r = c.in-Rea in
    let below = within a.net.now a.entry.now r.machine r.snapshot r.outcome r.is c.requires.fits in
    let moment = moment_of a.net.now journal a.self.now.moments.items r.machine
    c.index.result.now current.moments_are below c.index.ensures in
    let codes = c.same_codes.ensures.0 c.if-not-same_codes.false in
    let same : r.snapshot ≡ c.index.result.now = λ i. record { codes = codes i } in
    reacts a.net.now a.trace.now journal a.entry.now r.machine r.snapshot r.outcome a.is_right r.is
    (sym (c.has.ensures ∙ current.woken_are r.machine below) ∙ c.if-not-has.false)
    (same ∙ moment) c.requires.right c.if-is_right.true

pub returns-else-is_right : goal.returns-else-is_right
returns-else-is_right c = λ journal current.
    let a = c.args in
    let r = c.in-Rea in
    let below = within a.net.now a.entry.now r.machine r.snapshot r.outcome r.is c.requires.fits in
    let moment = moment_of a.net.now journal a.self.now.moments.items r.machine
    c.index.result.now current.moments_are below c.index.ensures in
    let codes = c.same_codes.ensures.0 c.if-not-same_codes.false in
    let same : r.snapshot ≡ c.index.result.now = λ i. record { codes = codes i } in
    other_outcome a.net.now a.trace.now journal a.entry.now r.machine r.snapshot r.outcome
    a.is_right r.is
    (sym (c.has.ensures ∙ current.woken_are r.machine below) ∙ c.if-not-has.false)
    (same ∙ moment) c.requires.right c.if-is_right.false

pub against_delivery-requires-clause-fits : goal.against_delivery-requires-clause-fits
against_delivery-requires-clause-fits c = c.requires.fits

pub against_delivery-requires-clause-current : goal.against_delivery-requires-clause-current
against_delivery-requires-clause-current c = c.requires.current
