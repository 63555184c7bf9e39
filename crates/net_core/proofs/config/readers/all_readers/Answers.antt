use Rattle.std.proofs.Common.{◌≡◌, ◌+◌, ◌<◌, ℕ, List, get_or, length, ap, sym, subst, ◌∙◌, arith}
use Rattle.std.proofs.lemmas.List.{length_push}
use Rattle.journals.specs.Schedules.{receivers_of}
use Rattle.polis_base.specs.Sets.{members}
use Rattle.net_core.proofs.ReceiversOf.{readers_more}
use Rattle.net_core.proofs.config.readers.all_readers.Goals as goal

pub loop-event-preserved : goal.loop-event-preserved
loop-event-preserved c =
    let net = c.args.net.now in
    let sets = c.loop-event.readers.items in
    let event = c.loop-event.event in
    let inv = c.loop-event.invariant in
    record {
      long = ap length c.in_ok-push.ensures.items ∙ length_push sets c.readers_of.result
          ∙ (let long = inv.long in omega arith);
      are = subst (λ (l : List ℕ). (e : ℕ) → e < event + 1
          → members (get_or l e 0) ≡ receivers_of net e) (sym c.in_ok-push.ensures.items)
          (readers_more net sets event c.readers_of.result inv.long (omega arith)
          c.readers_of.ensures inv.are);
    }
