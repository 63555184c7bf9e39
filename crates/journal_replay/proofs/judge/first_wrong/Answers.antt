use Rattle.std.proofs.Common.{ℕ, Option, Some, subst}
use Rattle.journals.specs.Stamps.{IsFirstNotRising}
use Rattle.journal_replay.proofs.LegalAndRises.{stamps_refused}
use Rattle.journal_replay.proofs.judge.first_wrong.Goals as goal

pub returns-in-Some : goal.returns-in-Some
returns-in-Some c =
    let net = c.args.net.now in
    let p = c.in-Some.entry in
    let entries = c.in_ok-entries.entries in
    let stamps = c.in_ok-stamps.stamps in
    let first : IsFirstNotRising net entries stamps (Some p) =
    subst (λ (o : Option ℕ). IsFirstNotRising net entries stamps o) c.in-Some.is
    c.in_ok-entry.ensures in
    stamps_refused c.laws.ensures.prefixes c.laws.ensures.steps net c.args.trace.now c.args.j.now
    c.args.s.now c.args.legal.count p entries stamps c.requires.legal.up_to.within
    c.requires.legal.up_to.legal c.in_ok-entries.ensures c.in_ok-stamps.ensures first
