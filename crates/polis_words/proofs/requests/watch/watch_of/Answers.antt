use Rattle.std.proofs.Common.{codes}
use Rattle.polis_words.specs.Watch.{named_by}
use Rattle.polis_words.proofs.requests.watch.watch_of.Goals as goal

pub returns-in-Some-clause-asks : goal.returns-in-Some-clause-asks
returns-in-Some-clause-asks c = c.in-Some.ensures.asks (codes "watch") c.requires

pub returns-in-Some-clause-one : goal.returns-in-Some-clause-one
returns-in-Some-clause-one c = λ other asks.
    let same = c.in-Some.ensures.one (codes "watch") (named_by other) asks in
    λ i. record { replay = (same i).replay; monitor = (same i).stem }

pub returns-in-None-clause-nothing : goal.returns-in-None-clause-nothing
returns-in-None-clause-nothing c = λ watch asks.
    c.in-None.ensures.nothing (codes "watch") (named_by watch) asks
