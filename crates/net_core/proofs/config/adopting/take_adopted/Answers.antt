use Rattle.std.proofs.Common.{◌≡◌, ◌<◌, ◌≤◌, ℕ, List, Option, length, take, ◌∙◌, sym, subst, arith}
use Rattle.journals.specs.declared.entry.Entry.{Entry}
use Rattle.journals.proofs.EntriesAt.{fits_at}
use Rattle.journals.proofs.StampSteps.{prefix_more}
use Rattle.net_core.specs.Judging.{IsCauseAgainst}
use Rattle.net_core.specs.Prefixes.{IsAdopted}
use Rattle.net_core.specs.Tables.{AreTables}
use Rattle.net_core.specs.declared.answer.Why.{Why}
use Rattle.net_core.proofs.Causes.{caused_may_not_follow}
use Rattle.net_core.proofs.IsAdopted.{adopted_at, entry_reacts}
use Rattle.net_core.proofs.Prefixes.{follows_if_legal}
use Rattle.net_core.proofs.config.adopting.take_adopted.Goals as goal

pub against_delivery-requires-clause-fits : goal.against_delivery-requires-clause-fits
against_delivery-requires-clause-fits c =
    fits_at c.args.net.now c.args.j.now c.loop-i.i c.get-entry.result.now
    (c.laws.ensures.alone_fits c.args.net.now c.args.j.now c.requires.alone) c.get-entry.ensures

pub against_delivery-requires-clause-current : goal.against_delivery-requires-clause-current
against_delivery-requires-clause-current c =
    (take c.loop-i.i c.args.j.now, c.loop-i.invariant.current)

pub returns-in-Some-clause-adopted : goal.returns-in-Some-clause-adopted
returns-in-Some-clause-adopted c =
    let net = c.args.net.now in
    let trace = c.args.trace.now in
    let j = c.args.j.now in
    let entry = c.get-entry.result.now in
    let prefix = take c.loop-i.i j in
    let current = c.loop-i.invariant.current in
    adopted_at c.laws.ensures.prefixes net trace j c.loop-i.i c.args.limit (omega arith)
    c.loop-i.invariant.few current.legal
    (λ below small h.
    caused_may_not_follow net trace prefix c.in-Some.field-0 entry
    (subst (λ (o : Option Why). IsCauseAgainst net trace prefix entry o) c.in-Some.is
    (c.against_delivery.ensures prefix
    (entry_reacts c.laws.ensures.reacts_by_own net trace j c.loop-i.i entry c.requires.alone below
    c.get-entry.ensures) current))
    (follows_if_legal c.laws.ensures.steps net trace j c.loop-i.i entry below c.get-entry.ensures
    h))

pub take_next-requires-clause-fits : goal.take_next-requires-clause-fits
take_next-requires-clause-fits c =
    fits_at c.args.net.now c.args.j.now c.loop-i.i c.get-entry.result.now
    (c.laws.ensures.alone_fits c.args.net.now c.args.j.now c.requires.alone) c.get-entry.ensures

pub take_next-requires-clause-current : goal.take_next-requires-clause-current
take_next-requires-clause-current c =
    let prefix = take c.loop-i.i c.args.j.now in
    let entry = c.get-entry.result.now in
    let current = c.loop-i.invariant.current in
    let reacts = entry_reacts c.laws.ensures.reacts_by_own c.args.net.now c.args.trace.now
    c.args.j.now c.loop-i.i entry c.requires.alone (omega arith) c.get-entry.ensures in (
      prefix,
      subst
          (λ (o : Option Why). IsCauseAgainst c.args.net.now c.args.trace.now prefix entry o)
          c.in-None.is (c.against_delivery.ensures prefix reacts current),
      current,
    )

pub loop-i-preserved : goal.loop-i-preserved
loop-i-preserved c =
    let prefix = take c.loop-i.i c.args.j.now in
    let entry = c.get-entry.result.now in
    let current = c.loop-i.invariant.current in
    let few = c.loop-i.invariant.few in
    let below : c.loop-i.i < length c.args.j.now = omega arith in
    let reacts = entry_reacts c.laws.ensures.reacts_by_own c.args.net.now c.args.trace.now
    c.args.j.now c.loop-i.i entry c.requires.alone below c.get-entry.ensures in
    let follows = subst
    (λ (o : Option Why). IsCauseAgainst c.args.net.now c.args.trace.now prefix entry o)
    c.in-None.is (c.against_delivery.ensures prefix reacts current) in
    let tables = c.take_next.new.self in
    record {
      current = subst (λ (l : List Entry). AreTables c.args.net.now c.args.trace.now l
          tables.readers.items tables.moments.items tables.woken tables.cursors tables.owed)
          (sym (prefix_more c.args.j.now c.loop-i.i entry below c.get-entry.ensures))
          (c.in_ok-take_next-in-None.ensures prefix follows current);
      few = omega arith;
    }

pub get-entry-requires : goal.get-entry-requires
get-entry-requires c = subst (λ n. c.loop-i.i < n) c.len-i-end.ensures c.loop-i-test.true

pub returns-in-Some-clause-current : goal.returns-in-Some-clause-current
returns-in-Some-clause-current c = c.loop-i.invariant.current

pub returns-then-i-limit-clause-current : goal.returns-then-i-limit-clause-current
returns-then-i-limit-clause-current c =
    let tables = c.loop-i.tables in
    subst
    (λ (k : ℕ).
    AreTables c.args.net.now c.args.trace.now (take k c.args.j.now) tables.readers.items
    tables.moments.items tables.woken tables.cursors tables.owed)
    c.if-i-limit.true c.loop-i.invariant.current

no_more : (i limit : ℕ) → i ≡ limit → i < limit → ⊥
no_more i limit same below = omega arith

up_to : (i end long : ℕ) → end ≡ long → i ≤ end → i ≤ long
up_to i end long same most = omega arith

pub returns-then-i-limit-clause-adopted : goal.returns-then-i-limit-clause-adopted
returns-then-i-limit-clause-adopted c =
    let net = c.args.net.now in
    let trace = c.args.trace.now in
    let j = c.args.j.now in
    let i = c.loop-i.i in
    let limit = c.args.limit in
    subst (λ (k : ℕ). IsAdopted net trace j limit (take k j)) c.if-i-limit.true
    (adopted_at c.laws.ensures.prefixes net trace j i limit
    (up_to i c.len-i-end.result (length j) c.len-i-end.ensures c.loop-i.auto.i-end)
    c.loop-i.invariant.few c.loop-i.invariant.current.legal
    (λ below small h. no_more i limit c.if-i-limit.true small))

at_end : (i end long : ℕ) → end ≡ long → i ≤ end → end ≤ i → i ≡ long
at_end i end long same most least = omega arith

pub returns-clause-current : goal.returns-clause-current
returns-clause-current c =
    let tables = c.loop-i.tables in
    let end = at_end c.loop-i.i c.len-i-end.result _ c.len-i-end.ensures c.loop-i.auto.i-end
    c.loop-i-test.false in
    subst
    (λ (k : ℕ).
    AreTables c.args.net.now c.args.trace.now (take k c.args.j.now) tables.readers.items
    tables.moments.items tables.woken tables.cursors tables.owed)
    (end ∙ sym c.len.ensures) c.loop-i.invariant.current

pub returns-clause-adopted : goal.returns-clause-adopted
returns-clause-adopted c =
    let net = c.args.net.now in
    let trace = c.args.trace.now in
    let j = c.args.j.now in
    let i = c.loop-i.i in
    let limit = c.args.limit in
    let end = at_end i c.len-i-end.result (length j) c.len-i-end.ensures c.loop-i.auto.i-end
    c.loop-i-test.false in
    subst (λ (k : ℕ). IsAdopted net trace j limit (take k j)) (end ∙ sym c.len.ensures)
    (adopted_at c.laws.ensures.prefixes net trace j i limit
    (up_to i c.len-i-end.result (length j) c.len-i-end.ensures c.loop-i.auto.i-end)
    c.loop-i.invariant.few c.loop-i.invariant.current.legal
    (λ below small h. no_more i (length j) end below))
