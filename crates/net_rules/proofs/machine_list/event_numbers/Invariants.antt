-- The numbers of the events that were gone over.
use Rattle.std.proofs.Common.{◌≡◌, map, take}
use Rattle.net_reader.specs.declared.raw.Word.{Word}
use Rattle.net_names.specs.Scopes.{event_words}
use Rattle.net_names.specs.Numbers.{number}
use Rattle.net_rules.proofs.machine_list.event_numbers.Given as goal

abbrev pub invariant-loop-word : goal.invariant-loop-word
invariant-loop-word l =
    l.numbers ≡ map (λ (w : Word). number (event_words l.scope.raw.now) w.name)
    (take l.word-index l.words)
