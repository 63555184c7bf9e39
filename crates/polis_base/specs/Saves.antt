-- Saves in order.
use Rattle.std.specs.Prelude.{List, fold}
use Rattle.std.specs.FinMap.{empty, insert}
use Rattle.polis_base.specs.Host.{Files}
use Rattle.polis_base.specs.Memory.{InMemory}
use Rattle.polis_base.specs.declared.memory.Held.{Held}
use Rattle.polis_base.specs.declared.memory.MemoryHost.TheInside.{Inside}

-- the files after these saves, in order
abbrev pub files_of : List Held → Files
files_of held = fold (λ files saved. insert files saved.name saved.bytes) empty held

-- what the host's fields stand for
abbrev pub host_of : Inside → InMemory
host_of h =
    record {
      files = files_of h.held.items;
      shown = h.shown;
      failing = h.failing.items;
      calls = h.calls;
      load_faults = h.load_faults;
      write_faults = h.write_faults;
    }
