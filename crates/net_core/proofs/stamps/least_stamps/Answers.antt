use Rattle.std.proofs.Common.{◌≡◌, ◌+◌, ◌∷◌, ◌++◌, [], ℕ, List, length, take, sym, ap, subst, ◌∙◌, arith}
use Rattle.journals.specs.declared.entry.Entry.{Entry}
use Rattle.journals.specs.declared.stamped.Stamped.{Stamped}
use Rattle.journals.specs.Logs.{with_stamps}
use Rattle.journals.specs.Stamps.{greatest, stamps_below, least_stamp, least, Rising}
use Rattle.std.proofs.lemmas.List.{take_all}
use Rattle.net_core.specs.inner.Clocks.{AreClocks}
use Rattle.net_core.proofs.IsBacked.{is_next, least_below}
use Rattle.journals.proofs.StampSteps.{length_prefix, prefix_more}
use Rattle.net_core.proofs.stamps.least_stamps.Goals as goal

pub below-stamp-requires-clause-fits : goal.below-stamp-requires-clause-fits
below-stamp-requires-clause-fits c =
    let prefix : List Entry = take c.loop-i.i c.args.j.now in
    let size = length_prefix c.args.j.now c.loop-i.i (omega arith) in
    let many : length c.loop-i.stamps ≡ c.loop-i.i =
    ap length c.loop-i.invariant.stamps_are
    ∙ c.stamp_laws.ensures.least_many c.args.net.now prefix ∙ size in
    (is_next c.laws.ensures.prefixes c.laws.ensures.steps c.sending_laws.ensures.delivered_begins
    c.stamp_laws.ensures.sent_many c.args.net.now c.args.trace.now c.args.j.now c.loop-i.stamps
    c.loop-i.i c.get-entry.result.now 0 c.requires.legal (omega arith) c.get-entry.ensures
    many).fits

pub below-stamp-requires-clause-has : goal.below-stamp-requires-clause-has
below-stamp-requires-clause-has c =
    let prefix : List Entry = take c.loop-i.i c.args.j.now in
    let size = length_prefix c.args.j.now c.loop-i.i (omega arith) in
    let many : length c.loop-i.stamps ≡ c.loop-i.i =
    ap length c.loop-i.invariant.stamps_are
    ∙ c.stamp_laws.ensures.least_many c.args.net.now prefix ∙ size in
    let whole = (is_next c.laws.ensures.prefixes c.laws.ensures.steps
    c.sending_laws.ensures.delivered_begins c.stamp_laws.ensures.sent_many c.args.net.now
    c.args.trace.now c.args.j.now c.loop-i.stamps c.loop-i.i c.get-entry.result.now 0
    c.requires.legal (omega arith) c.get-entry.ensures many).size in
    let few = c.requires.few in
    (with_stamps prefix c.loop-i.stamps, c.loop-i.invariant.clocks_are, omega arith)

pub overflow_add-stamp : goal.overflow_add-stamp
overflow_add-stamp c =
    let net = c.args.net.now in
    let prefix : List Entry = take c.loop-i.i c.args.j.now in
    let size = length_prefix c.args.j.now c.loop-i.i (omega arith) in
    let are = c.loop-i.invariant.stamps_are in
    let is =
    c.below-stamp.ensures.stamp (with_stamps prefix c.loop-i.stamps) c.loop-i.invariant.clocks_are
    ∙ ap (λ (l : List ℕ). greatest (stamps_below net (with_stamps prefix l) c.get-entry.result.now))
    are in
    let most = least_below c.stamp_laws.ensures.least_many c.stamp_laws.ensures.least_within
    c.stamp_laws.ensures.least_steps net prefix c.get-entry.result.now in
    let few = c.requires.few in
    omega arith

pub take-requires-clause-fits : goal.take-requires-clause-fits
take-requires-clause-fits c =
    let prefix : List Entry = take c.loop-i.i c.args.j.now in
    let size = length_prefix c.args.j.now c.loop-i.i (omega arith) in
    let many : length c.loop-i.stamps ≡ c.loop-i.i =
    ap length c.loop-i.invariant.stamps_are
    ∙ c.stamp_laws.ensures.least_many c.args.net.now prefix ∙ size in
    (is_next c.laws.ensures.prefixes c.laws.ensures.steps c.sending_laws.ensures.delivered_begins
    c.stamp_laws.ensures.sent_many c.args.net.now c.args.trace.now c.args.j.now c.loop-i.stamps
    c.loop-i.i c.get-entry.result.now 0 c.requires.legal (omega arith) c.get-entry.ensures
    many).fits

pub take-requires-clause-has : goal.take-requires-clause-has
take-requires-clause-has c =
    let prefix : List Entry = take c.loop-i.i c.args.j.now in
    let size = length_prefix c.args.j.now c.loop-i.i (omega arith) in
    let many : length c.loop-i.stamps ≡ c.loop-i.i =
    ap length c.loop-i.invariant.stamps_are
    ∙ c.stamp_laws.ensures.least_many c.args.net.now prefix ∙ size in
    let whole = (is_next c.laws.ensures.prefixes c.laws.ensures.steps
    c.sending_laws.ensures.delivered_begins c.stamp_laws.ensures.sent_many c.args.net.now
    c.args.trace.now c.args.j.now c.loop-i.stamps c.loop-i.i c.get-entry.result.now 0
    c.requires.legal (omega arith) c.get-entry.ensures many).size in
    let few = c.requires.few in (
      with_stamps prefix c.loop-i.stamps,
      c.below-stamp.ensures.same (with_stamps prefix c.loop-i.stamps)
          c.loop-i.invariant.clocks_are,
      omega arith,
    )

pub loop-i-preserved : goal.loop-i-preserved
loop-i-preserved c =
    let net = c.args.net.now in
    let i = c.loop-i.i in
    let entry = c.get-entry.result.now in
    let stamps = c.loop-i.stamps in
    let prefix : List Entry = take i c.args.j.now in
    let done : List Stamped = with_stamps prefix stamps in
    let t : ℕ = c.below-stamp.result + 1 in
    let are = c.loop-i.invariant.stamps_are in
    let size = length_prefix c.args.j.now i (omega arith) in
    let many : length stamps ≡ i =
    ap length are ∙ c.stamp_laws.ensures.least_many net prefix ∙ size in
    let next = is_next c.laws.ensures.prefixes c.laws.ensures.steps
    c.sending_laws.ensures.delivered_begins c.stamp_laws.ensures.sent_many net c.args.trace.now
    c.args.j.now stamps i entry t c.requires.legal (omega arith) c.get-entry.ensures many in
    let is = c.below-stamp.ensures.stamp done c.loop-i.invariant.clocks_are in
    let least_is : t ≡ least_stamp net done entry = omega arith in
    let pushed : c.push.new.self ≡ stamps ++ t ∷ [] = c.in_ok-push.ensures.ok in
    record {
      stamps_are = pushed ∙ ap (λ (u : ℕ). stamps ++ u ∷ []) least_is
          ∙ ap (λ (s : List ℕ). s ++ least_stamp net (with_stamps prefix s) entry ∷ []) are
          ∙ sym (ap (least net) (prefix_more c.args.j.now i entry (omega arith) c.get-entry.ensures)
          ∙ c.stamp_laws.ensures.least_steps net prefix entry);
      clocks_are = subst (λ (d : List Stamped). AreClocks net d c.take.new.self)
          (sym (ap (with_stamps (take (i + 1) c.args.j.now)) pushed ∙ next.next))
          (c.in_ok-take.ensures.taken done
          (c.below-stamp.ensures.same done c.loop-i.invariant.clocks_are) next.backed next.more);
    }

pub loop-i-init : goal.loop-i-init
loop-i-init c = record {
  stamps_are = c.new-stamps.ensures;
  clocks_are = subst (λ (l : List ℕ). AreClocks c.args.net.now (with_stamps [] l)
      c.in_ok-clocks.clocks) (sym c.new-stamps.ensures) c.in_ok-clocks.ensures;
}

pub returns-clause-least : goal.returns-clause-least
returns-clause-least c =
    let len = c.len-i-end.ensures in
    c.loop-i.invariant.stamps_are
    ∙ ap (least c.args.net.now) (take_all c.loop-i.i c.args.j.now (omega arith))

pub returns-clause-rising : goal.returns-clause-rising
returns-clause-rising c =
    let len = c.len-i-end.ensures in
    let few = c.requires.few in
    let is = c.loop-i.invariant.stamps_are
    ∙ ap (least c.args.net.now) (take_all c.loop-i.i c.args.j.now (omega arith)) in
    subst (Rising c.args.net.now c.args.j.now) (sym is)
    (c.stamp_laws.ensures.least_rises c.args.net.now c.args.j.now (omega arith))
