use Rattle.std.proofs.Common.{◌<◌, ◌≤◌, ℕ, Option, None, Some, sym, subst, arith}
use Rattle.std.specs.Prelude.{IfOk}
use Rattle.std.proofs.lemmas.List.{take_all}
use Rattle.transition_table.specs.declared.network.Network.{Network}
use Rattle.journals.specs.Stamps.{IsFirstNotRising}
use Rattle.journals.specs.Legality.{Legal}
use Rattle.net_core.specs.Prefixes.{IsLegalPrefix}
use Rattle.journal_replay.specs.Verdicts.{IsStampedVerdict}
use Rattle.journal_replay.proofs.WholeIsLegal.{whole_is_legal}
use Rattle.journal_replay.proofs.LegalAndRises.{stamps_refused}
use Rattle.journal_replay.proofs.judge.replay_stamped.Goals as goal

pub returns-in-Some : goal.returns-in-Some
returns-in-Some g c =
    let net = g.R.Reactor.meaning c.args.r.now in
    let j = c.args.j.now in
    let s = c.args.s.now in
    let p = c.in-Some.entry in
    let up = c.in_ok-prefix.ensures.up_to in
    let k = c.in_ok-prefix.prefix.count in
    let many = c.requires.many in
    let first : IsFirstNotRising net j s (Some p) =
    subst (λ (n : Network). IsFirstNotRising n j s (Some p)) c.network-2.ensures
    (subst (λ (o : Option ℕ). IsFirstNotRising c.network-2.result.now j s o) c.in-Some.is
    c.in_ok-entry.ensures) in
    stamps_refused c.laws.ensures.prefixes c.laws.ensures.steps net c.args.trace.now j s k p j s
    up.within up.legal (sym (take_all k j (omega arith))) (sym (take_all k s (omega arith))) first

pub legal_prefix-requires-clause-trace : goal.legal_prefix-requires-clause-trace
legal_prefix-requires-clause-trace g c = c.requires.trace

pub legal_prefix-requires-clause-fits : goal.legal_prefix-requires-clause-fits
legal_prefix-requires-clause-fits g c = c.requires.fits

pub first_wrong-requires-clause-legal : goal.first_wrong-requires-clause-legal
first_wrong-requires-clause-legal g c =
    let p = c.in_ok-prefix.prefix in
    subst
    (λ (n : Network).
    IsLegalPrefix n c.args.trace.now c.args.j.now p.count p.complete p.against)
    (sym c.network.ensures) c.in_ok-prefix.ensures

pub first_wrong-requires-clause-more : goal.first_wrong-requires-clause-more
first_wrong-requires-clause-more g c =
    subst (λ (n : ℕ). c.in_ok-prefix.prefix.count < n) c.len.ensures c.if-prefix-len.true

pub first_wrong-requires-clause-many : goal.first_wrong-requires-clause-many
first_wrong-requires-clause-many g c = c.requires.many

pub returns-then-prefix-len : goal.returns-then-prefix-len
returns-then-prefix-len g c =
    subst
    (λ (n : Network).
    IfOk c.first_wrong.result
    (λ v. IsStampedVerdict n c.args.trace.now c.args.j.now c.args.s.now v))
    c.network.ensures c.first_wrong.ensures

pub first_not_rising-requires-clause-legal : goal.first_not_rising-requires-clause-legal
first_not_rising-requires-clause-legal g c =
    let p = c.in_ok-prefix.prefix in
    let all = subst (λ (n : ℕ). n ≤ p.count) c.len.ensures c.if-prefix-len.false in
    let whole =
    whole_is_legal (g.R.Reactor.meaning c.args.r.now) c.args.trace.now c.args.j.now p.count
    p.complete p.against c.in_ok-prefix.ensures all in
    subst (λ (n : Network). Legal n c.args.trace.now c.args.j.now) (sym c.network-2.ensures)
    whole.0

pub first_not_rising-requires-clause-many : goal.first_not_rising-requires-clause-many
first_not_rising-requires-clause-many g c = c.requires.many

pub returns-in-None : goal.returns-in-None
returns-in-None g c =
    let net = g.R.Reactor.meaning c.args.r.now in
    let j = c.args.j.now in
    let s = c.args.s.now in
    let p = c.in_ok-prefix.prefix in
    let all = subst (λ (n : ℕ). n ≤ p.count) c.len.ensures c.if-prefix-len.false in
    let whole =
    whole_is_legal net c.args.trace.now j p.count p.complete p.against c.in_ok-prefix.ensures all
    in
    let rises : IsFirstNotRising net j s None =
    subst (λ (n : Network). IsFirstNotRising n j s None) c.network-2.ensures
    (subst (λ (o : Option ℕ). IsFirstNotRising c.network-2.result.now j s o) c.in-None.is
    c.in_ok-entry.ensures) in
    ((whole.0, rises), whole.1)
