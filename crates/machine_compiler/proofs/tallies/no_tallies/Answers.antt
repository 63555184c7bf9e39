use Rattle.std.proofs.Common.{◌≡◌, ◌∙◌, length, refl, arith}
use Rattle.machine_compiler.specs.declared.tallies.Tally.{Tally}
use Rattle.machine_compiler.proofs.RightParts.{IsNoTally, more_paired, length_push, no_reactions}
use Rattle.machine_compiler.proofs.tallies.no_tallies.Goals as goal

pub loop-k-preserved : goal.loop-k-preserved
loop-k-preserved c =
    let old = c.loop-k.tallies.items in
    let new = c.push.new.self.items in
    let t : Tally = record { outcome = c.in_ok-outcome.outcome; tries = 0; steps = 0 } in
    record {
      none = more_paired IsNoTally c.args.net.now.machines old new c.loop-k.k c.get.result.now t
          c.loop-k.invariant.none c.loop-k.invariant.long c.in_ok-push.ensures.items c.get.ensures
          (record { widths = c.in_ok-outcome.ensures.widths; tries = refl; steps = refl });
      long = length_push old new t c.loop-k.k c.loop-k.invariant.long c.in_ok-push.ensures.items;
    }

pub returns : goal.returns
returns c = λ parts.
    let end = c.loop-k-test.false in
    let within = c.loop-k.auto.k-end in
    let long = c.len-k-end.ensures in
    let all : c.loop-k.k ≡ length c.args.net.now.machines = omega arith in
    no_reactions c.args.net.now parts c.loop-k.tallies.items c.loop-k.invariant.none
    (c.loop-k.invariant.long ∙ all)
