use Rattle.std.proofs.Common.{◌≡◌, ◌<◌, ◌+◌, ◌∷◌, ◌++◌, [], ℕ, List, true, false, length, take, sym, ap, subst, ◌∙◌, arith}
use Rattle.std.proofs.lemmas.Bool.{both_ways}
use Rattle.journals.specs.declared.entry.Entry.{Entry}
use Rattle.journals.specs.declared.stamped.Stamped.{Stamped}
use Rattle.journals.specs.Logs.{with_stamps}
use Rattle.journals.specs.Stamps.{greatest, stamps_below, Rising}
use Rattle.net_core.specs.inner.Clocks.{AreClocks}
use Rattle.net_core.proofs.IsBacked.{is_next}
use Rattle.journals.proofs.StampSteps.{length_prefix, prefix_more}
use Rattle.net_core.proofs.stamps.first_not_rising.Goals as goal

pub below-below-requires-clause-fits : goal.below-below-requires-clause-fits
below-below-requires-clause-fits c =
    let i = c.loop-i.i in
    let many = c.requires.many in
    let size = length_prefix c.args.s.now i (omega arith) in
    (is_next c.laws.ensures.prefixes c.laws.ensures.steps c.sending_laws.ensures.delivered_begins
    c.stamp_laws.ensures.sent_many c.args.net.now c.args.trace.now c.args.j.now
    (take i c.args.s.now) i c.get-entry.result.now 0 c.requires.legal (omega arith)
    c.get-entry.ensures size).fits

pub below-below-requires-clause-has : goal.below-below-requires-clause-has
below-below-requires-clause-has c =
    let i = c.loop-i.i in
    let ts : List ℕ = take i c.args.s.now in
    let many = c.requires.many in
    let size = length_prefix c.args.s.now i (omega arith) in
    let whole = (is_next c.laws.ensures.prefixes c.laws.ensures.steps
    c.sending_laws.ensures.delivered_begins c.stamp_laws.ensures.sent_many c.args.net.now
    c.args.trace.now c.args.j.now ts i c.get-entry.result.now 0 c.requires.legal (omega arith)
    c.get-entry.ensures size).size in
    let fits = c.len-i-end.type_inv in
    let len = c.len-i-end.ensures in
    (with_stamps (take i c.args.j.now) ts, c.loop-i.invariant.clocks_are, omega arith)

pub take-requires-clause-fits : goal.take-requires-clause-fits
take-requires-clause-fits c =
    let i = c.loop-i.i in
    let many = c.requires.many in
    let size = length_prefix c.args.s.now i (omega arith) in
    (is_next c.laws.ensures.prefixes c.laws.ensures.steps c.sending_laws.ensures.delivered_begins
    c.stamp_laws.ensures.sent_many c.args.net.now c.args.trace.now c.args.j.now
    (take i c.args.s.now) i c.get-entry.result.now 0 c.requires.legal (omega arith)
    c.get-entry.ensures size).fits

pub take-requires-clause-has : goal.take-requires-clause-has
take-requires-clause-has c =
    let i = c.loop-i.i in
    let ts : List ℕ = take i c.args.s.now in
    let done : List Stamped = with_stamps (take i c.args.j.now) ts in
    let many = c.requires.many in
    let size = length_prefix c.args.s.now i (omega arith) in
    let whole = (is_next c.laws.ensures.prefixes c.laws.ensures.steps
    c.sending_laws.ensures.delivered_begins c.stamp_laws.ensures.sent_many c.args.net.now
    c.args.trace.now c.args.j.now ts i c.get-entry.result.now 0 c.requires.legal (omega arith)
    c.get-entry.ensures size).size in
    let fits = c.len-i-end.type_inv in
    let len = c.len-i-end.ensures in
    (done, c.below-below.ensures.same done c.loop-i.invariant.clocks_are, omega arith)

pub returns-then-not-is_above : goal.returns-then-not-is_above
returns-then-not-is_above c =
    let net = c.args.net.now in
    let i = c.loop-i.i in
    let entry = c.get-entry.result.now in
    let t : ℕ = c.get-stamp.result.now in
    let prefix : List Entry = take i c.args.j.now in
    let ts : List ℕ = take i c.args.s.now in
    let done : List Stamped = with_stamps prefix ts in
    let many = c.requires.many in
    let size = length_prefix c.args.s.now i (omega arith) in
    let size_prefix = length_prefix c.args.j.now i (omega arith) in
    let same : length ts ≡ length prefix = omega arith in
    let is = c.below-below.ensures.stamp done c.loop-i.invariant.clocks_are in
    let no : c.is_above.result ≡ false = cc in (
      (let h : i < length c.args.j.now = omega arith in h),
      c.loop-i.invariant.rising,
      (λ rising.
          let both : Rising net (prefix ++ entry ∷ []) (ts ++ t ∷ []) =
          subst (λ (l : List ℕ). Rising net (prefix ++ entry ∷ []) l)
          (prefix_more c.args.s.now i t (omega arith) c.get-stamp.ensures)
          (subst (λ (l : List Entry). Rising net l (take (i + 1) c.args.s.now))
          (prefix_more c.args.j.now i entry (omega arith) c.get-entry.ensures) rising) in
          let last = ((c.stamp_laws.ensures.rising_steps net prefix ts entry t same).0 both).1 in
          let parts = (c.stamp_laws.ensures.stands_above (stamps_below net done entry) t).0 last in
          let low = parts.0 in
          both_ways c.is_above.result no
          (c.is_above.ensures.1 ((let h : c.below-below.result < t = omega arith in h), parts.1))),
    )

pub loop-i-preserved : goal.loop-i-preserved
loop-i-preserved c =
    let net = c.args.net.now in
    let i = c.loop-i.i in
    let entry = c.get-entry.result.now in
    let t : ℕ = c.get-stamp.result.now in
    let prefix : List Entry = take i c.args.j.now in
    let ts : List ℕ = take i c.args.s.now in
    let done : List Stamped = with_stamps prefix ts in
    let many = c.requires.many in
    let size = length_prefix c.args.s.now i (omega arith) in
    let size_prefix = length_prefix c.args.j.now i (omega arith) in
    let same : length ts ≡ length prefix = omega arith in
    let next = is_next c.laws.ensures.prefixes c.laws.ensures.steps
    c.sending_laws.ensures.delivered_begins c.stamp_laws.ensures.sent_many net c.args.trace.now
    c.args.j.now ts i entry t c.requires.legal (omega arith) c.get-entry.ensures size in
    let is = c.below-below.ensures.stamp done c.loop-i.invariant.clocks_are in
    let up : c.is_above.result ≡ true = cc in
    let bounds = c.is_above.ensures.0 up in
    let low = bounds.0 in
    let last =
    (c.stamp_laws.ensures.stands_above (stamps_below net done entry) t).1
    ((let h : greatest (stamps_below net done entry) < t = omega arith in h), bounds.1) in
    let longer =
    (c.stamp_laws.ensures.rising_steps net prefix ts entry t same).1
    (c.loop-i.invariant.rising, last) in
    let all_entries = prefix_more c.args.j.now i entry (omega arith) c.get-entry.ensures in
    let all = prefix_more c.args.s.now i t (omega arith) c.get-stamp.ensures in
    record {
      rising = subst (λ (l : List ℕ). Rising net (take (i + 1) c.args.j.now) l) (sym all)
          (subst (λ (l : List Entry). Rising net l (ts ++ t ∷ [])) (sym all_entries) longer);
      clocks_are = subst (λ (d : List Stamped). AreClocks net d c.take.new.self)
          (sym (ap (with_stamps (take (i + 1) c.args.j.now)) all ∙ next.next))
          (c.in_ok-take.ensures.taken done
          (c.below-below.ensures.same done c.loop-i.invariant.clocks_are) next.backed next.more);
    }
