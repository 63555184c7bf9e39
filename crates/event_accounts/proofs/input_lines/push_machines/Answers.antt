use Rattle.std.proofs.Common.{length, ap, arith}
use Rattle.journals.specs.Journals.{inputs_of}
use Rattle.event_accounts.specs.InputLines.{input_line}
use Rattle.event_accounts.proofs.InputLines.{buffers_next, buffers_within, machines_more}
use Rattle.event_accounts.proofs.InputsOf.{inputs_of_machine}
use Rattle.event_accounts.proofs.RowsOf.{buffers_many}
use Rattle.event_accounts.proofs.input_lines.push_machines.Goals as goal

pub push_machine-requires-clause-many : goal.push_machine-requires-clause-many
push_machine-requires-clause-many g c =
    let within = buffers_within c.args.net.now c.loop-m.m
    (let end = c.len-m-end.ensures in omega arith) in
    let place = c.loop-m.invariant.place in
    let all = c.requires in
    omega arith

pub overflow_add-first : goal.overflow_add-first
overflow_add-first g c =
    let net = c.args.net.now in
    let m = c.loop-m.m in
    let within = buffers_within net m (let end = c.len-m-end.ensures in omega arith) in
    let many = buffers_many m 0 (inputs_of net m) in
    let inputs = ap length (inputs_of_machine net m c.get.result.now c.get.ensures) in
    let place = c.loop-m.invariant.place in
    let count = c.len-count.ensures in
    let len = c.len-first.ensures in
    let all = c.requires in
    omega arith

pub loop-m-preserved : goal.loop-m-preserved
loop-m-preserved g c =
    let net = c.args.net.now in
    let m = c.loop-m.m in
    let within = buffers_within net m (let end = c.len-m-end.ensures in omega arith) in
    let place = c.loop-m.invariant.place in
    let all = c.requires in
    record {
      place =
          (let next = buffers_next net m in
          let many = buffers_many m 0 (inputs_of net m) in
          let inputs = ap length (inputs_of_machine net m c.get.result.now c.get.ensures) in
          let len = c.len-first.ensures in
          omega arith);
      lines =
          machines_more (input_line (g.L.InputLine.line c.args.line.now) net) net m c.loop-m.first
          c.args.into.now c.loop-m.into c.push_machine.new.into c.args.items.now place (omega arith)
          c.loop-m.invariant.lines c.in_ok-push_machine.ensures;
    }
