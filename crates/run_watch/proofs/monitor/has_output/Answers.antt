use Rattle.std.proofs.Common.{refl, sym, ◌∙◌, arith}
use Rattle.std.proofs.lemmas.Bool.{false≢true}
use Rattle.std.proofs.lemmas.Option.{slice_get_within}
use Rattle.transition_table.proofs.EventWords.{event_domain}
use Rattle.run_watch.specs.Monitors.{IsHeardAs}
use Rattle.run_watch.proofs.Outputs.{each_more}
use Rattle.run_watch.proofs.monitor.has_output.Goals as goal

pub is_heard_as-requires-clause-output : goal.is_heard_as-requires-clause-output
is_heard_as-requires-clause-output c =
    event_domain c.args.net.now c.loop-e.e c.get-output.result.now c.get-output.ensures

pub returns-then-is_heard_as : goal.returns-then-is_heard_as
returns-then-is_heard_as c = (
  λ yes. record {
    number = c.loop-e.e;
    output = c.get-output.result.now;
    there = c.get-output.ensures;
    heard = c.is_heard_as.ensures.0 c.if-is_heard_as.true;
  },
  λ has. refl,
)

pub loop-e-preserved : goal.loop-e-preserved
loop-e-preserved c =
    each_more c.args.net.now
    (λ output. IsHeardAs c.args.net.now output c.args.monitor.now c.args.event.now → ⊥) c.loop-e.e
    c.get-output.result.now c.get-output.ensures
    (λ heard. false≢true (sym c.if-is_heard_as.false ∙ c.is_heard_as.ensures.1 heard))
    c.loop-e.invariant

pub returns : goal.returns
returns c = (
  λ wrong. absurd (false≢true wrong),
  λ has. absurd
      (c.loop-e.invariant has.number has.output
      (let within = slice_get_within c.args.net.now.events has.number has.output has.there in
      let end = c.len-e-end.ensures in
      let off = c.loop-e-test.false in
      omega arith) has.there has.heard),
)
