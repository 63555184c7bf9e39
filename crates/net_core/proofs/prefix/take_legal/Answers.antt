use Rattle.std.proofs.Common.{◌≡◌, ◌<◌, ◌≤◌, ℕ, List, length, refl, Option, take, sym, subst, ◌∙◌, arith}
use Rattle.transition_table.specs.declared.network.Network.{Network}
use Rattle.journals.specs.declared.entry.TraceItem.{TraceItem}
use Rattle.journals.specs.Legality.{Legal}
use Rattle.journals.specs.declared.entry.Entry.{Entry}
use Rattle.journals.specs.Journals.{FitsNetwork}
use Rattle.journals.proofs.EntriesAt.{fits_at}
use Rattle.journals.proofs.StampSteps.{prefix_more}
use Rattle.net_core.specs.Judging.{IsCauseAgainst}
use Rattle.net_core.specs.Prefixes.{IsLegalUpTo}
use Rattle.net_core.specs.Tables.{AreTables}
use Rattle.net_core.specs.declared.answer.Why.{Why}
use Rattle.net_core.specs.inner.Outcomes.{SaysOutcome}
use Rattle.net_core.proofs.Causes.{caused_may_not_follow}
use Rattle.net_core.proofs.Prefixes.{follows_if_legal}
use Rattle.net_core.proofs.prefix.take_legal.Goals as goal

pub is_right-is_right-requires-clause-fits : goal.is_right-is_right-requires-clause-fits
is_right-is_right-requires-clause-fits g c =
    subst (λ (n : Network). FitsNetwork n c.get-entry.result.now) (sym c.loop-i.invariant.blanks_are)
    (fits_at c.args.net.now c.args.j.now c.loop-i.i c.get-entry.result.now c.requires.fits
    c.get-entry.ensures)

pub against-requires-clause-fits : goal.against-requires-clause-fits
against-requires-clause-fits g c =
    fits_at c.args.net.now c.args.j.now c.loop-i.i c.get-entry.result.now c.requires.fits
    c.get-entry.ensures

pub against-requires-clause-right : goal.against-requires-clause-right
against-requires-clause-right g c =
    subst (λ (n : Network). SaysOutcome n c.get-entry.result.now c.is_right-is_right.result)
    c.loop-i.invariant.blanks_are c.is_right-is_right.ensures.right

pub against-requires-clause-current : goal.against-requires-clause-current
against-requires-clause-current g c =
    (take c.loop-i.i c.args.j.now, c.loop-i.invariant.current)

pub returns-in-Some-clause-longest : goal.returns-in-Some-clause-longest
returns-in-Some-clause-longest g c =
    let net = c.args.net.now in
    let trace = c.args.trace.now in
    let j = c.args.j.now in
    let entry = c.get-entry.result.now in
    let prefix = take c.loop-i.i j in
    let current = c.loop-i.invariant.current in
    record {
      within = omega arith;
      legal = current.legal;
      longest = λ below h. caused_may_not_follow net trace prefix c.in-Some.why entry
          (subst (λ (o : Option Why). IsCauseAgainst net trace prefix entry o) c.in-Some.is
          (c.against.ensures prefix current))
          (follows_if_legal c.laws.ensures.steps net trace j c.loop-i.i entry below
          c.get-entry.ensures h);
    }

pub returns-in-Some-clause-reason : goal.returns-in-Some-clause-reason
returns-in-Some-clause-reason g c = λ below. (
  c.get-entry.result.now,
  c.get-entry.ensures,
  subst
      (λ (o : Option Why). IsCauseAgainst c.args.net.now c.args.trace.now
      (take c.loop-i.i c.args.j.now) c.get-entry.result.now o) c.in-Some.is
      (c.against.ensures (take c.loop-i.i c.args.j.now) c.loop-i.invariant.current),
)

pub returns-in-Some-clause-no_reason : goal.returns-in-Some-clause-no_reason
returns-in-Some-clause-no_reason g c = λ same. absurd (omega arith)

pub take_next-requires-clause-fits : goal.take_next-requires-clause-fits
take_next-requires-clause-fits g c =
    fits_at c.args.net.now c.args.j.now c.loop-i.i c.get-entry.result.now c.requires.fits
    c.get-entry.ensures

pub take_next-requires-clause-current : goal.take_next-requires-clause-current
take_next-requires-clause-current g c =
    let prefix = take c.loop-i.i c.args.j.now in
    let current = c.loop-i.invariant.current in (
      prefix,
      subst
          (λ (o : Option Why). IsCauseAgainst c.args.net.now c.args.trace.now prefix
          c.get-entry.result.now o) c.in-None.is (c.against.ensures prefix current),
      current,
    )

pub loop-i-preserved : goal.loop-i-preserved
loop-i-preserved g c =
    let current = c.loop-i.invariant.current in
    let prefix = take c.loop-i.i c.args.j.now in
    let more = prefix_more c.args.j.now c.loop-i.i c.get-entry.result.now (omega arith)
    c.get-entry.ensures in
    let follows = subst
    (λ (o : Option Why). IsCauseAgainst c.args.net.now c.args.trace.now prefix
    c.get-entry.result.now o) c.in-None.is (c.against.ensures prefix current) in
    let tables = c.take_next.new.self in
    record {
      current = subst (λ (l : List Entry). AreTables c.args.net.now c.args.trace.now l
          tables.readers.items tables.moments.items tables.woken tables.cursors tables.owed)
          (sym more) (c.in_ok-take_next-in-None.ensures prefix follows current);
      blanks_are = c.is_right-is_right.ensures.same ∙ c.loop-i.invariant.blanks_are;
    }

pub get-entry-requires : goal.get-entry-requires
get-entry-requires g c = subst (λ n. c.loop-i.i < n) c.len-i-end.ensures c.loop-i-test.true

pub is_right-is_right-requires-clause-network : goal.is_right-is_right-requires-clause-network
is_right-is_right-requires-clause-network g c =
    c.requires.network ∙ sym c.loop-i.invariant.blanks_are

pub returns-in-Some-clause-current : goal.returns-in-Some-clause-current
returns-in-Some-clause-current g c = c.loop-i.invariant.current

at_end : (i end long : ℕ) → end ≡ long → i ≤ end → end ≤ i → i ≡ long
at_end i end long same most least = omega arith

pub returns-clause-current : goal.returns-clause-current
returns-clause-current g c =
    let tables = c.loop-i.tables in
    let end = at_end c.loop-i.i c.len-i-end.result _ c.len-i-end.ensures c.loop-i.auto.i-end
    c.loop-i-test.false in
    subst
    (λ (k : ℕ).
    AreTables c.args.net.now c.args.trace.now (take k c.args.j.now) tables.readers.items
    tables.moments.items tables.woken tables.cursors tables.owed)
    (end ∙ sym c.len.ensures) c.loop-i.invariant.current

-- all entries are legal, so none is refused
whole : (net : Network) (trace : List TraceItem) (j : List Entry) (i n : ℕ) → i ≡ length j
    → n ≡ length j → Legal net trace (take i j) → IsLegalUpTo net trace j n
whole net trace j i n end size legal = record {
  within = omega arith;
  legal = subst (λ (k : ℕ). Legal net trace (take k j)) (end ∙ sym size) legal;
  longest = λ below. absurd (omega arith);
}

pub returns-clause-longest : goal.returns-clause-longest
returns-clause-longest g c =
    let end = at_end c.loop-i.i c.len-i-end.result _ c.len-i-end.ensures c.loop-i.auto.i-end
    c.loop-i-test.false in
    whole c.args.net.now c.args.trace.now c.args.j.now c.loop-i.i c.len.result end c.len.ensures
    c.loop-i.invariant.current.legal

none_below : (n long : ℕ) → n ≡ long → n < long → ⊥
none_below n long same below = omega arith

pub returns-clause-reason : goal.returns-clause-reason
returns-clause-reason g c = λ below. absurd (none_below c.len.result _ c.len.ensures below)

pub returns-clause-no_reason : goal.returns-clause-no_reason
returns-clause-no_reason g c = λ same. refl
