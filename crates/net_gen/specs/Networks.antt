-- The network of a seed.
use Rattle.std.specs.Prelude.{ℕ, ◌+◌, ◌-◌, ◌*◌, ◌%◌, List, [], ◌∷◌, ◌++◌, map, flat_map, Option, Some, None, codes, decimal}
use Rattle.polis_base.specs.Lists.{upto}
use Rattle.net_reader.specs.declared.raw.Word.{Word}
use Rattle.net_reader.specs.declared.raw.Num.{Num}
use Rattle.net_reader.specs.declared.raw.RawValue.{RawValue}
use Rattle.net_reader.specs.declared.raw.RawValue.TheVariants as values
use Rattle.net_reader.specs.declared.raw.RawShape.TheVariants as shapes
use Rattle.net_reader.specs.declared.raw.RawDomain.{RawDomain}
use Rattle.net_reader.specs.declared.raw.RawEnv.{RawEnv}
use Rattle.net_reader.specs.declared.raw.RawEnv.TheVariants.{Between, FromEnv, ToEnv}
use Rattle.net_reader.specs.declared.raw.RawEvent.{RawEvent}
use Rattle.net_reader.specs.declared.raw.RawCond.{RawCond}
use Rattle.net_reader.specs.declared.raw.RawCond.TheVariants.{Present, Absent, Is}
use Rattle.net_reader.specs.declared.raw.RawSource.TheVariants as sources
use Rattle.net_reader.specs.declared.raw.RawAct.{RawAct}
use Rattle.net_reader.specs.declared.raw.RawAct.TheVariants.{Emit, Set}
use Rattle.net_reader.specs.declared.raw.RawRow.{RawRow}
use Rattle.net_reader.specs.declared.raw.RawMachine.{RawMachine}
use Rattle.net_reader.specs.declared.raw.RawNet.{RawNet}
use Rattle.polis_base.specs.Draws.{after, draw}

abbrev pub word : List ℕ → Word
word name = record { name = name; at = 0 }

abbrev pub num : ℕ → Num
num n = record { number = n; at = 0 }

abbrev pub value : ℕ → RawValue
value v = values.Number (num v)

-- the letter with the number after it
abbrev pub named : List ℕ → ℕ → Word
named letter i = word (letter ++ decimal i)

-- the tick of machine i, its event with a value, and its output
abbrev pub tick : ℕ → Word
tick i = named (codes "t") i

abbrev pub valued : ℕ → Word
valued i = named (codes "e") i

abbrev pub output : ℕ → Word
output i = named (codes "o") i

abbrev pub event : Word → Option Word → RawEnv → RawEvent
event name domain env = record { name = name; domain = domain; env = env }

-- the three events of machine i
abbrev pub events_of : ℕ → List RawEvent
events_of i =
    event (tick i) None FromEnv
    ∷ event (valued i) (Some (word (codes "d"))) Between
    ∷ event (output i) None ToEnv ∷ []

abbrev pub row : List RawCond → List RawAct → RawRow
row conds acts = record { conds = conds; acts = acts }

-- the state variable has this value, and is set to this one
abbrev pub is_state : ℕ → RawCond
is_state v = Is (word (codes "s")) (value v)

abbrev pub set_state : ℕ → RawAct
set_state a = Set (word (codes "s")) (sources.Value (value a))

abbrev pub emit_value : Word → ℕ → RawAct
emit_value w b = Emit w (Some (sources.Value (value b)))

-- the row for a tick alone where the state is v
abbrev pub tick_row : ℕ → ℕ → ℕ → ℕ → ℕ → RawRow
tick_row i j v a b =
    row (Present (tick i) ∷ Absent (valued i) ∷ is_state v ∷ [])
    (set_state a ∷ emit_value (valued j) b ∷ [])

-- the row for the value w above 0, which is passed on one lower
abbrev pub value_row : ℕ → ℕ → ℕ → ℕ → RawRow
value_row i j w a =
    row (Is (valued i) (value w) ∷ []) (set_state a ∷ emit_value (valued j) (w - 1) ∷ [])

-- the row for the value 0
abbrev pub last_row : ℕ → ℕ → RawRow
last_row i a = row (Is (valued i) (value 0) ∷ []) (set_state a ∷ Emit (output i) None ∷ [])

-- the new state is drawn first, and then what is emitted
abbrev pub tick_row_at : ℕ → ℕ → ℕ → ℕ → RawRow
tick_row_at i j x v = tick_row i j v (draw (after x (2 * v)) 8) (draw (after x (2 * v + 1)) 8)

abbrev pub value_row_at : ℕ → ℕ → ℕ → ℕ → RawRow
value_row_at i j x k = value_row i j (k + 1) (draw (after x k) 8)

-- The rows, drawn from x: one for each state, one for each value from 1 to 7, and one for 0.
unfoldable pub tick_rows : ℕ → ℕ → ℕ → List RawRow
tick_rows i j x = map (tick_row_at i j x) (upto 8)

unfoldable pub value_rows : ℕ → ℕ → ℕ → List RawRow
value_rows i j x = map (value_row_at i j x) (upto 7)

unfoldable pub rows : ℕ → ℕ → ℕ → List RawRow
rows i j x =
    tick_rows i j x ++ value_rows i j (after x 16) ++ last_row i (draw (after x 23) 8) ∷ []

-- machine i, whose values go to machine j; its 25 draws are made from x, the first for the priority
abbrev pub machine : ℕ → ℕ → ℕ → RawMachine
machine i j x = record {
  name = named (codes "m") i;
  priority = num (draw x 4);
  inputs = tick i ∷ valued i ∷ [];
  outputs = valued j ∷ output i ∷ [];
  states = record { name = word (codes "s"); domain = word (codes "d"); init = value 0 } ∷ [];
  rows = rows i j (after x 1);
}

-- n machines in a ring, drawn one after the other
abbrev pub machine_at : ℕ → ℕ → ℕ → RawMachine
machine_at n x i = machine i ((i + 1) % n) (after x (25 * i))

unfoldable pub machines : ℕ → ℕ → List RawMachine
machines n x = map (machine_at n x) (upto n)

abbrev pub domain : RawDomain
domain = record { name = word (codes "d"); shape = shapes.Range (num 0) (num 7) }

abbrev pub ring : ℕ → ℕ → RawNet
ring n x = record {
  name = word (codes "demo");
  version = num 1;
  domains = domain ∷ [];
  events = flat_map events_of (upto n);
  machines = machines n x;
}

-- how many machines there are: the first draw
abbrev pub count : ℕ → ℕ
count seed = 24 + draw seed 25

unfoldable pub network : ℕ → RawNet
network seed = ring (count seed) (after seed 1)
