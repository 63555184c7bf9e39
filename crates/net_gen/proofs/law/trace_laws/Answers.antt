use Rattle.net_gen.proofs.Arrivals.{seed_fits, seed_arrives}
use Rattle.net_gen.proofs.HasDemoEvents.{seeds_have_events}
use Rattle.net_gen.proofs.TraceReadsBack.{seed_read}
use Rattle.net_gen.proofs.law.trace_laws.Goals as goal

pub returns-clause-events : goal.returns-clause-events
returns-clause-events c = seeds_have_events

pub returns-clause-items : goal.returns-clause-items
returns-clause-items c = λ seed net is. seed_read seed net (seeds_have_events seed net is)

pub returns-clause-trace : goal.returns-clause-trace
returns-clause-trace c = λ seed net is. seed_fits seed net (seeds_have_events seed net is)

pub returns-clause-arrive : goal.returns-clause-arrive
returns-clause-arrive c = λ seed net is. seed_arrives seed net (seeds_have_events seed net is)
