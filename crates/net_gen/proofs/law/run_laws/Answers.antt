use Rattle.std.specs.Prelude.{◌*◌, ◌<◌}
use Rattle.std.proofs.Common.{arith}
use Rattle.polis_base.specs.Draws.{after}
use Rattle.net_gen.specs.Dwindling.{arrivals}
use Rattle.net_gen.specs.Ended.{demo_load, demo_held, SeedsDwindle}
use Rattle.net_gen.specs.Items.{trace_items}
use Rattle.net_gen.specs.Networks.{count}
use Rattle.net_gen.proofs.Arrivals.{seed_fits, seed_arrives}
use Rattle.net_gen.proofs.RingDwindles.{ring_dwindles}
use Rattle.net_gen.proofs.HasDemoEvents.{seeds_have_events}
use Rattle.net_gen.proofs.IsDemoMachine.{seeds_have_machines}
use Rattle.net_gen.proofs.law.run_laws.Goals as goal

dwindle : SeedsDwindle
dwindle seed net is =
    ring_dwindles (count seed) (after seed 1) net (seeds_have_events seed net is)
    (λ i machine. seeds_have_machines seed net i machine is)

pub returns-clause-dwindle : goal.returns-clause-dwindle
returns-clause-dwindle c = dwindle

pub returns-clause-end : goal.returns-clause-end
returns-clause-end c seed net journal is legal =
    let arrive = seed_arrives seed net (seeds_have_events seed net is) in
    let few = c.dwindling_laws.ensures.ends net (trace_items seed) demo_load demo_held journal
    (dwindle seed net is) legal in
    omega arith

pub returns-clause-complete : goal.returns-clause-complete
returns-clause-complete c seed net journal is schedule =
    let events = seeds_have_events seed net is in
    let arrive = seed_arrives seed net events in
    let few : 18 * arrivals net (trace_items seed) < 60000 = omega arith in
    c.dwindling_laws.ensures.completes net (trace_items seed) demo_load demo_held 60000 journal
    (dwindle seed net is) (seed_fits seed net events) few schedule
