use Rattle.std.proofs.Common.{◌≡◌, ◌++◌, drop}
use Rattle.task_code.specs.Listings.{vertex_words, numbered_lines}
use Rattle.task_code.proofs.listing.push_vertices.Given as goal

-- what is written, with what is left, is the whole
abbrev pub invariant-loop-k : goal.invariant-loop-k
invariant-loop-k l = l.out ++ numbered_lines (vertex_words l.net l.machine) l.k (drop l.k l.g)
    ≡ l.fn.out ++ numbered_lines (vertex_words l.net l.machine) 0 l.g
