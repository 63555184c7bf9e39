-- Journals of the seat belt controller, whose trace is a key and eleven ticks, with
-- `settle` after each.
use Rattle.std.specs.Prelude.{List, [], ◌∷◌}
use Rattle.transition_table.specs.declared.decl.Party.TheVariants.{Env, Machine as Sender}
use Rattle.journals.specs.declared.entry.Entry.{Entry}
use Rattle.journals.specs.declared.entry.TraceItem.{TraceItem}
use Rattle.journals.specs.declared.entry.TraceItem.TheVariants.{Event, Settle}
use Rattle.journals.specs.Samples.{delivers, fires}

abbrev pub belt_trace : List TraceItem
belt_trace =
    Event 0 1 ∷ Settle ∷ Event 3 1 ∷ Settle ∷ Event 3 1 ∷ Settle ∷ Event 3 1 ∷ Settle ∷ Event 3 1
    ∷ Settle ∷ Event 3 1 ∷ Settle ∷ Event 3 1 ∷ Settle ∷ Event 3 1 ∷ Settle ∷ Event 3 1 ∷ Settle
    ∷ Event 3 1 ∷ Settle ∷ Event 3 1 ∷ Settle ∷ Event 3 1 ∷ Settle ∷ []

-- most ticks come before the key, and the alarm never sounds
abbrev pub belt_drowned : List Entry
belt_drowned =
    delivers Env 1 3 ∷ fires 1 (0 ∷ 1 ∷ 10 ∷ []) (0 ∷ []) (0 ∷ 0 ∷ []) ∷ delivers Env 1 3
    ∷ fires 1 (0 ∷ 1 ∷ 10 ∷ []) (0 ∷ []) (0 ∷ 0 ∷ []) ∷ delivers Env 1 3
    ∷ fires 1 (0 ∷ 1 ∷ 10 ∷ []) (0 ∷ []) (0 ∷ 0 ∷ []) ∷ delivers Env 1 3
    ∷ fires 1 (0 ∷ 1 ∷ 10 ∷ []) (0 ∷ []) (0 ∷ 0 ∷ []) ∷ delivers Env 1 3 ∷ delivers Env 1 3
    ∷ delivers Env 1 3 ∷ delivers Env 0 0
    ∷ fires 0 (1 ∷ 0 ∷ 0 ∷ 0 ∷ 0 ∷ 0 ∷ []) (2 ∷ []) (1 ∷ 0 ∷ 0 ∷ [])
    ∷ fires 1 (0 ∷ 1 ∷ 10 ∷ []) (0 ∷ []) (0 ∷ 0 ∷ []) ∷ delivers Env 1 3 ∷ delivers Env 1 3
    ∷ fires 1 (0 ∷ 1 ∷ 10 ∷ []) (0 ∷ []) (0 ∷ 0 ∷ []) ∷ delivers (Sender 0) 1 4
    ∷ fires 1 (1 ∷ 0 ∷ 10 ∷ []) (1 ∷ []) (0 ∷ 0 ∷ []) ∷ delivers Env 1 3 ∷ delivers Env 1 3
    ∷ fires 1 (0 ∷ 1 ∷ 0 ∷ []) (2 ∷ []) (0 ∷ 0 ∷ []) ∷ []

-- no tick is overwritten, and the alarm sounds and stops
abbrev pub belt_alarmed : List Entry
belt_alarmed =
    delivers Env 1 3 ∷ fires 1 (0 ∷ 1 ∷ 10 ∷ []) (0 ∷ []) (0 ∷ 0 ∷ []) ∷ delivers Env 0 0
    ∷ fires 0 (1 ∷ 0 ∷ 0 ∷ 0 ∷ 0 ∷ 0 ∷ []) (2 ∷ []) (1 ∷ 0 ∷ 0 ∷ []) ∷ delivers (Sender 0) 1 4
    ∷ fires 1 (1 ∷ 0 ∷ 10 ∷ []) (1 ∷ []) (0 ∷ 0 ∷ []) ∷ delivers Env 1 3
    ∷ fires 1 (0 ∷ 1 ∷ 0 ∷ []) (2 ∷ []) (0 ∷ 0 ∷ []) ∷ delivers Env 1 3
    ∷ fires 1 (0 ∷ 1 ∷ 1 ∷ []) (3 ∷ []) (0 ∷ 0 ∷ []) ∷ delivers Env 1 3
    ∷ fires 1 (0 ∷ 1 ∷ 2 ∷ []) (4 ∷ []) (0 ∷ 0 ∷ []) ∷ delivers Env 1 3
    ∷ fires 1 (0 ∷ 1 ∷ 3 ∷ []) (5 ∷ []) (0 ∷ 0 ∷ []) ∷ delivers Env 1 3
    ∷ fires 1 (0 ∷ 1 ∷ 4 ∷ []) (6 ∷ []) (1 ∷ 0 ∷ []) ∷ delivers (Sender 1) 0 5
    ∷ fires 0 (0 ∷ 0 ∷ 0 ∷ 1 ∷ 0 ∷ 1 ∷ []) (3 ∷ []) (0 ∷ 1 ∷ 0 ∷ []) ∷ delivers Env 1 3
    ∷ fires 1 (0 ∷ 1 ∷ 5 ∷ []) (7 ∷ []) (0 ∷ 0 ∷ []) ∷ delivers Env 1 3
    ∷ fires 1 (0 ∷ 1 ∷ 6 ∷ []) (8 ∷ []) (0 ∷ 0 ∷ []) ∷ delivers Env 1 3
    ∷ fires 1 (0 ∷ 1 ∷ 7 ∷ []) (9 ∷ []) (0 ∷ 0 ∷ []) ∷ delivers Env 1 3
    ∷ fires 1 (0 ∷ 1 ∷ 8 ∷ []) (10 ∷ []) (0 ∷ 0 ∷ []) ∷ delivers Env 1 3
    ∷ fires 1 (0 ∷ 1 ∷ 9 ∷ []) (11 ∷ []) (0 ∷ 1 ∷ []) ∷ delivers (Sender 1) 0 6
    ∷ fires 0 (0 ∷ 0 ∷ 0 ∷ 0 ∷ 1 ∷ 2 ∷ []) (1 ∷ []) (0 ∷ 0 ∷ 1 ∷ []) ∷ []

-- four ticks are overwritten, and the alarm doesn't stop
abbrev pub belt_cut_short : List Entry
belt_cut_short =
    delivers Env 0 0 ∷ delivers Env 1 3 ∷ fires 1 (0 ∷ 1 ∷ 10 ∷ []) (0 ∷ []) (0 ∷ 0 ∷ [])
    ∷ fires 0 (1 ∷ 0 ∷ 0 ∷ 0 ∷ 0 ∷ 0 ∷ []) (2 ∷ []) (1 ∷ 0 ∷ 0 ∷ []) ∷ delivers (Sender 0) 1 4
    ∷ fires 1 (1 ∷ 0 ∷ 10 ∷ []) (1 ∷ []) (0 ∷ 0 ∷ []) ∷ delivers Env 1 3
    ∷ fires 1 (0 ∷ 1 ∷ 0 ∷ []) (2 ∷ []) (0 ∷ 0 ∷ []) ∷ delivers Env 1 3 ∷ delivers Env 1 3
    ∷ fires 1 (0 ∷ 1 ∷ 1 ∷ []) (3 ∷ []) (0 ∷ 0 ∷ []) ∷ delivers Env 1 3
    ∷ fires 1 (0 ∷ 1 ∷ 2 ∷ []) (4 ∷ []) (0 ∷ 0 ∷ []) ∷ delivers Env 1 3 ∷ delivers Env 1 3
    ∷ delivers Env 1 3 ∷ fires 1 (0 ∷ 1 ∷ 3 ∷ []) (5 ∷ []) (0 ∷ 0 ∷ []) ∷ delivers Env 1 3
    ∷ delivers Env 1 3 ∷ fires 1 (0 ∷ 1 ∷ 4 ∷ []) (6 ∷ []) (1 ∷ 0 ∷ []) ∷ delivers Env 1 3
    ∷ fires 1 (0 ∷ 1 ∷ 5 ∷ []) (7 ∷ []) (0 ∷ 0 ∷ []) ∷ delivers (Sender 1) 0 5
    ∷ fires 0 (0 ∷ 0 ∷ 0 ∷ 1 ∷ 0 ∷ 1 ∷ []) (3 ∷ []) (0 ∷ 1 ∷ 0 ∷ []) ∷ []

-- each event is settled before the next one
abbrev pub belt_settled : List Entry
belt_settled =
    delivers Env 0 0 ∷ fires 0 (1 ∷ 0 ∷ 0 ∷ 0 ∷ 0 ∷ 0 ∷ []) (2 ∷ []) (1 ∷ 0 ∷ 0 ∷ [])
    ∷ delivers (Sender 0) 1 4 ∷ fires 1 (1 ∷ 0 ∷ 10 ∷ []) (1 ∷ []) (0 ∷ 0 ∷ []) ∷ delivers Env 1 3
    ∷ fires 1 (0 ∷ 1 ∷ 0 ∷ []) (2 ∷ []) (0 ∷ 0 ∷ []) ∷ delivers Env 1 3
    ∷ fires 1 (0 ∷ 1 ∷ 1 ∷ []) (3 ∷ []) (0 ∷ 0 ∷ []) ∷ delivers Env 1 3
    ∷ fires 1 (0 ∷ 1 ∷ 2 ∷ []) (4 ∷ []) (0 ∷ 0 ∷ []) ∷ delivers Env 1 3
    ∷ fires 1 (0 ∷ 1 ∷ 3 ∷ []) (5 ∷ []) (0 ∷ 0 ∷ []) ∷ delivers Env 1 3
    ∷ fires 1 (0 ∷ 1 ∷ 4 ∷ []) (6 ∷ []) (1 ∷ 0 ∷ []) ∷ delivers (Sender 1) 0 5
    ∷ fires 0 (0 ∷ 0 ∷ 0 ∷ 1 ∷ 0 ∷ 1 ∷ []) (3 ∷ []) (0 ∷ 1 ∷ 0 ∷ []) ∷ delivers Env 1 3
    ∷ fires 1 (0 ∷ 1 ∷ 5 ∷ []) (7 ∷ []) (0 ∷ 0 ∷ []) ∷ delivers Env 1 3
    ∷ fires 1 (0 ∷ 1 ∷ 6 ∷ []) (8 ∷ []) (0 ∷ 0 ∷ []) ∷ delivers Env 1 3
    ∷ fires 1 (0 ∷ 1 ∷ 7 ∷ []) (9 ∷ []) (0 ∷ 0 ∷ []) ∷ delivers Env 1 3
    ∷ fires 1 (0 ∷ 1 ∷ 8 ∷ []) (10 ∷ []) (0 ∷ 0 ∷ []) ∷ delivers Env 1 3
    ∷ fires 1 (0 ∷ 1 ∷ 9 ∷ []) (11 ∷ []) (0 ∷ 1 ∷ []) ∷ delivers (Sender 1) 0 6
    ∷ fires 0 (0 ∷ 0 ∷ 0 ∷ 0 ∷ 1 ∷ 2 ∷ []) (1 ∷ []) (0 ∷ 0 ∷ 1 ∷ []) ∷ delivers Env 1 3
    ∷ fires 1 (0 ∷ 1 ∷ 10 ∷ []) (0 ∷ []) (0 ∷ 0 ∷ []) ∷ []
