-- None of the machines before this one sends the event.
use Rattle.std.proofs.Common.{◌≡◌, drop}
use Rattle.polis_base.specs.Lists.{places_from, places_where}
use Rattle.net_names.specs.Numbers.{is_name_of}
use Rattle.net_rules.proofs.events.sender_of.Given as goal

abbrev pub invariant-loop-number : goal.invariant-loop-number
invariant-loop-number l =
    places_from l.number (λ m. is_name_of m.outputs l.name) (drop l.number l.machines)
    ≡ places_where (λ m. is_name_of m.outputs l.name) l.machines
