-- Traces of the small networks, and the journals of their runs.
use Rattle.std.specs.Prelude.{ℕ, false, List, [], ◌∷◌}
use Rattle.transition_table.specs.declared.decl.Party.TheVariants.{Env, Machine as Sender}
use Rattle.transition_table.specs.declared.snapshot.Outcome.{Outcome}
use Rattle.journals.specs.declared.entry.Entry.{Entry}
use Rattle.journals.specs.declared.entry.Entry.TheVariants.{Dep}
use Rattle.journals.specs.declared.entry.TraceItem.{TraceItem}
use Rattle.journals.specs.declared.entry.TraceItem.TheVariants.{Event, Settle}
use Rattle.journals.specs.Samples.{delivers, fires, idles}

-- an outcome that doesn't fire
abbrev pub idling : List ℕ → List ℕ → Outcome
idling next outs = record { fires = false; next = next; outs = outs }

abbrev pub join_overwritten_trace : List TraceItem
join_overwritten_trace = Event 0 1 ∷ Event 0 1 ∷ Event 1 1 ∷ []

abbrev pub join_overwritten_run : List Entry
join_overwritten_run =
    delivers Env 0 0 ∷ delivers Env 0 0 ∷ delivers Env 0 1 ∷ fires 0 (1 ∷ 1 ∷ []) [] (1 ∷ []) ∷ []

abbrev pub join_settled_trace : List TraceItem
join_settled_trace = Event 0 1 ∷ Settle ∷ Event 1 1 ∷ []

abbrev pub join_settled_run : List Entry
join_settled_run =
    delivers Env 0 0 ∷ idles 0 (1 ∷ 0 ∷ []) [] (0 ∷ []) ∷ delivers Env 0 1
    ∷ fires 0 (1 ∷ 1 ∷ []) [] (1 ∷ []) ∷ []

abbrev pub value_overwritten_trace : List TraceItem
value_overwritten_trace = Event 0 4 ∷ Event 0 6 ∷ []

abbrev pub value_overwritten_run : List Entry
value_overwritten_run = Dep Env 0 0 4 ∷ Dep Env 0 0 6 ∷ fires 0 (6 ∷ []) [] (1 ∷ []) ∷ []

abbrev pub two_by_priority_trace : List TraceItem
two_by_priority_trace = Event 0 1 ∷ []

abbrev pub two_by_priority_run : List Entry
two_by_priority_run =
    delivers Env 0 0 ∷ delivers Env 1 0 ∷ fires 1 (1 ∷ []) [] (1 ∷ [])
    ∷ fires 0 (1 ∷ []) [] (1 ∷ []) ∷ []

abbrev pub two_by_number_trace : List TraceItem
two_by_number_trace = Event 0 1 ∷ []

abbrev pub two_by_number_run : List Entry
two_by_number_run =
    delivers Env 0 0 ∷ delivers Env 1 0 ∷ fires 0 (1 ∷ []) [] (1 ∷ [])
    ∷ fires 1 (1 ∷ []) [] (1 ∷ []) ∷ []

abbrev pub loop_three_trace : List TraceItem
loop_three_trace = Event 0 1 ∷ []

abbrev pub loop_three_run : List Entry
loop_three_run =
    delivers Env 0 0 ∷ fires 0 (1 ∷ 0 ∷ 0 ∷ []) (2 ∷ []) (1 ∷ []) ∷ delivers (Sender 0) 0 1
    ∷ fires 0 (0 ∷ 1 ∷ 1 ∷ []) (3 ∷ []) (1 ∷ []) ∷ delivers (Sender 0) 0 1
    ∷ fires 0 (0 ∷ 1 ∷ 2 ∷ []) (4 ∷ []) (0 ∷ []) ∷ []

abbrev pub lamp_idle_trace : List TraceItem
lamp_idle_trace = Event 0 1 ∷ Settle ∷ Event 0 1 ∷ []

abbrev pub lamp_idle_run : List Entry
lamp_idle_run =
    delivers Env 0 0 ∷ fires 0 (1 ∷ 0 ∷ []) (2 ∷ []) (1 ∷ []) ∷ delivers Env 0 0
    ∷ idles 0 (1 ∷ 1 ∷ []) (0 ∷ []) (0 ∷ []) ∷ []

abbrev pub two_settled_trace : List TraceItem
two_settled_trace = Settle ∷ Event 0 1 ∷ []

-- each receiver of the event is reached only where no machine can react
abbrev pub two_settled_run : List Entry
two_settled_run =
    delivers Env 0 0 ∷ fires 0 (1 ∷ []) [] (1 ∷ [])
    ∷ delivers Env 1 0 ∷ fires 1 (1 ∷ []) [] (1 ∷ []) ∷ []

abbrev pub pong_trace : List TraceItem
pong_trace = Event 0 1 ∷ []

-- the first ten entries of a run that doesn't end
abbrev pub pong_run : List Entry
pong_run =
    delivers Env 0 0 ∷ fires 0 (1 ∷ 0 ∷ []) [] (1 ∷ [])
    ∷ delivers (Sender 0) 1 1 ∷ fires 1 (1 ∷ []) [] (1 ∷ [])
    ∷ delivers (Sender 1) 0 2 ∷ fires 0 (0 ∷ 1 ∷ []) [] (1 ∷ [])
    ∷ delivers (Sender 0) 1 1 ∷ fires 1 (1 ∷ []) [] (1 ∷ [])
    ∷ delivers (Sender 1) 0 2 ∷ fires 0 (0 ∷ 1 ∷ []) [] (1 ∷ []) ∷ []

abbrev pub late_trace : List TraceItem
late_trace = Event 0 1 ∷ Event 0 1 ∷ []

-- a second start reaches a before what a has sent lands at b, so that the landing's stamp is above
-- the firing's and not above a's clock
abbrev pub late_run : List Entry
late_run =
    delivers Env 0 0 ∷ fires 0 (1 ∷ 0 ∷ []) [] (1 ∷ [])
    ∷ delivers Env 0 0 ∷ fires 0 (1 ∷ 0 ∷ []) [] (1 ∷ [])
    ∷ delivers (Sender 0) 1 1 ∷ delivers (Sender 0) 1 1 ∷ fires 1 (1 ∷ []) [] (1 ∷ []) ∷ []

-- the lamp has its press and hasn't reacted
abbrev pub lamp_pressed : List Entry
lamp_pressed = delivers Env 0 0 ∷ []

-- a has fired, and its event hasn't come to b
abbrev pub pong_started : List Entry
pong_started = delivers Env 0 0 ∷ fires 0 (1 ∷ 0 ∷ []) [] (1 ∷ []) ∷ []
