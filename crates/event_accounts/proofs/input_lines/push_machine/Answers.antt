use Rattle.std.proofs.Common.{◌≡◌, ℕ, ◌+◌, List, ◌++◌, length, drop, slice_get, Option, Some, option_map, unwrap_or, [], subst, sym, ap, ◌∙◌, arith}
use Rattle.transition_table.specs.declared.decl.EventDecl.{EventDecl}
use Rattle.transition_table.specs.declared.machine.Machine.{Machine}
use Rattle.journals.specs.Journals.{inputs_of}
use Rattle.event_accounts.specs.Accounts.{buffer_at}
use Rattle.event_accounts.specs.InputLines.{input_line}
use Rattle.transition_table.specs.NetworkNames.{event_name, machine_name}
use Rattle.event_accounts.proofs.InputsOf.{input_within, inputs_of_machine}
use Rattle.event_accounts.proofs.InputLines.{lines_from, lines_more}
use Rattle.event_accounts.proofs.RowsOf.{buffers_many}
use Rattle.event_accounts.proofs.OneItemMore.{one_more}
use Rattle.event_accounts.proofs.input_lines.push_machine.Goals as goal

pub get-event-requires : goal.get-event-requires
get-event-requires g c =
    let net = c.args.net.now in
    let machine = c.get-machine.result.now in
    input_within net c.args.m c.loop-k.k c.get.result.now machine c.get-machine.ensures
    (subst (λ (l : List ℕ). slice_get l c.loop-k.k ≡ Some c.get.result.now)
    (sym (inputs_of_machine net c.args.m machine c.get-machine.ensures)) c.get.ensures)

pub overflow_add-first : goal.overflow_add-first
overflow_add-first g c =
    let net = c.args.net.now in
    let many = buffers_many c.args.m 0 (inputs_of net c.args.m) in
    let inputs = ap length
    (inputs_of_machine net c.args.m c.get-machine.result.now c.get-machine.ensures) in
    let end = c.len-k-end.ensures in
    let test = c.loop-k-test.true in
    let all = c.requires.many in
    let room = c.requires.room in
    omega arith

pub get-requires-in-loop-k : goal.get-requires-in-loop-k
get-requires-in-loop-k g c =
    let net = c.args.net.now in
    let many = buffers_many c.args.m 0 (inputs_of net c.args.m) in
    let inputs = ap length
    (inputs_of_machine net c.args.m c.get-machine.result.now c.get-machine.ensures) in
    let end = c.len-k-end.ensures in
    let test = c.loop-k-test.true in
    let all = c.requires.many in
    omega arith

pub loop-k-preserved : goal.loop-k-preserved
loop-k-preserved g c =
    let net = c.args.net.now in
    let line = g.L.InputLine.line c.args.line.now in
    let f = input_line line net in
    let m = c.args.m in
    let k = c.loop-k.k in
    let i = c.args.first in
    let items = c.args.items.now in
    let inputs = inputs_of net m in
    let machine = c.get-machine.result.now in
    let e = c.get.result.now in
    let x = c.get-in-loop-k.result.now in
    let at = subst (λ (l : List ℕ). slice_get l k ≡ Some e)
    (sym (inputs_of_machine net m machine c.get-machine.ensures)) c.get.ensures in
    let mine : c.bytes.result.now ≡ machine_name net m =
    c.bytes.ensures.bytes
    ∙ ap (λ (o : Option Machine). unwrap_or (option_map (λ machine. machine.name) o) [])
    (sym c.get-machine.ensures) in
    let named : c.bytes-in-loop-k.result.now ≡ event_name net e =
    c.bytes-in-loop-k.ensures.bytes
    ∙ ap (λ (o : Option EventDecl). unwrap_or (option_map (λ event. event.name) o) [])
    (sym c.get-event.ensures) in
    one_more c.loop-k.into c.push_line.new.into (f (buffer_at m (k, e), x))
    (lines_from f m k (drop k inputs) (drop (i + k) items))
    (lines_from f m (k + 1) (drop (k + 1) inputs) (drop (i + (k + 1)) items))
    (c.args.into.now ++ lines_from f m 0 inputs (drop i items))
    (c.in_ok-push_line.ensures
    ∙ ap (λ (l : List ℕ). c.loop-k.into ++ line l c.bytes-in-loop-k.result.now x) mine
    ∙ ap (λ (l : List ℕ). c.loop-k.into ++ line (machine_name net m) l x) named)
    (lines_more f m k i inputs items e x at c.get-in-loop-k.ensures) c.loop-k.invariant
