-- The trace of a seed.
use Rattle.std.specs.Prelude.{ℕ, ◌+◌, ◌*◌, ◌%◌, ◌==◌, List, [], ◌++◌, flat_map, codes, decimal, if◌then◌else◌}
use Rattle.polis_base.specs.Lists.{upto}
use Rattle.polis_base.specs.Draws.{after, draw}
use Rattle.net_gen.specs.Networks.{count}

-- a tick of machine k
abbrev pub tick_line : ℕ → List ℕ
tick_line k = codes "t" ++ decimal k ++ codes "\n"

-- after every tenth tick
abbrev pub settle_line : ℕ → List ℕ
settle_line k = if (k + 1) % 10 == 0 then codes "settle\n" else []

-- 2,000 ticks of n machines, drawn from x
abbrev pub lines_at : ℕ → ℕ → ℕ → List ℕ
lines_at n x k = tick_line (draw (after x k) n) ++ settle_line k

unfoldable pub ticks : ℕ → ℕ → List ℕ
ticks n x = flat_map (lines_at n x) (upto 2000)

-- the draws of the trace come after the first draw and the 25 of each machine
unfoldable pub trace_text : ℕ → List ℕ
trace_text seed = ticks (count seed) (after seed (1 + 25 * count seed))
