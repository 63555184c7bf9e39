use Rattle.std.proofs.Common.{◌≡◌, refl, sym, ◌∙◌, arith}
use Rattle.std.proofs.lemmas.Bool.{false≢true}
use Rattle.std.proofs.lemmas.Option.{slice_get_within}
use Rattle.transition_table.specs.declared.decl.Party.TheVariants.{Env}
use Rattle.transition_table.proofs.EventWords.{event_domain}
use Rattle.run_watch.specs.Monitors.{HasOutput}
use Rattle.run_watch.proofs.Outputs.{each_more}
use Rattle.run_watch.proofs.monitor.is_monitor.Goals as goal

pub is_told-requires : goal.is_told-requires
is_told-requires c =
    event_domain c.args.monitor.now c.loop-w.w c.get-event.result.now c.get-event.ensures

pub returns-then-not-is_told : goal.returns-then-not-is_told
returns-then-not-is_told c = (
  λ wrong. absurd (false≢true wrong),
  λ may.
      sym c.if-not-is_told.true
      ∙ c.is_told.ensures.1 (may c.loop-w.w c.get-event.result.now c.get-event.ensures),
)

pub loop-w-preserved : goal.loop-w-preserved
loop-w-preserved c =
    each_more c.args.monitor.now
    (λ event. event.sender ≡ Env → HasOutput c.args.net.now c.args.monitor.now event) c.loop-w.w
    c.get-event.result.now c.get-event.ensures (c.is_told.ensures.0 c.if-not-is_told.false)
    c.loop-w.invariant

pub returns : goal.returns
returns c = (
  λ yes w event at env. c.loop-w.invariant w event
      (let within = slice_get_within c.args.monitor.now.events w event at in
      let end = c.len-w-end.ensures in
      let off = c.loop-w-test.false in
      omega arith) at env,
  λ may. refl,
)
