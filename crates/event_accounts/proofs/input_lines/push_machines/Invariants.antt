use Rattle.std.proofs.Common.{◌≡◌, ◌++◌, length}
use Rattle.std.specs.List.{flat_map, zip}
use Rattle.polis_base.specs.Lists.{upto}
use Rattle.event_accounts.specs.Accounts.{buffers_of}
use Rattle.event_accounts.specs.InputLines.{input_line}
use Rattle.event_accounts.proofs.input_lines.push_machines.Given as goal

-- the lines of the machines before this one, and the place of its first item
abbrev pub invariant-loop-m : goal.invariant-loop-m
invariant-loop-m g l = record {
  place : l.first ≡ length (flat_map (buffers_of l.net) (upto l.m));
  lines : l.into
      ≡ l.fn.into
      ++ flat_map (input_line (g.L.InputLine.line l.line) l.net)
      (zip (flat_map (buffers_of l.net) (upto l.m)) l.items);
}
