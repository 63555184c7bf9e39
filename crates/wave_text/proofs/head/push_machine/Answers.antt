use Rattle.wave_text.proofs.TextChains.{six_parts}
use Rattle.wave_text.specs.Signals.{first_number, loss_signals, snapshot_signals}
use Rattle.wave_text.specs.Waves.{scope_end, scope_line, var_lines}
use Rattle.std.specs.Prelude.{codes, Option, option_map, unwrap_or, []}
use Rattle.transition_table.specs.NetworkNames.{machine_name}
use Rattle.transition_table.specs.declared.machine.Machine.{Machine}
use Rattle.std.proofs.Common.{◌≡◌, ◌+◌, List, length, true, subst, sym, ap, ◌∙◌, arith}
use Rattle.std.specs.List.{list_all}
use Rattle.wave_text.specs.inner.Writable.{is_signal}
use Rattle.wave_text.specs.declared.signal.Signal.{Signal}
use Rattle.wave_text.proofs.HasCode.{snapshot_signals_good, losses_good}
use Rattle.wave_text.proofs.MomentSteps.{signals_within}
use Rattle.wave_text.proofs.head.push_machine.Goals as goal

pub push_vars-requires-clause-signals : goal.push_vars-requires-clause-signals
push_vars-requires-clause-signals c =
    subst (λ (l : List Signal). list_all (is_signal c.args.net.now) l ≡ true) (sym c.requires.kept)
    (snapshot_signals_good c.args.net.now c.args.m c.get.result.now c.get.ensures)

pub push_vars-requires-clause-room : goal.push_vars-requires-clause-room
push_vars-requires-clause-room c =
    let within = signals_within c.args.net.now c.args.m c.requires.machine in
    let kept = ap length c.requires.kept in
    let losses = ap length c.requires.losses in
    let first = c.requires.first in
    let room = c.requires.room in
    omega arith

pub overflow_add-n : goal.overflow_add-n
overflow_add-n c =
    let within = signals_within c.args.net.now c.args.m c.requires.machine in
    let kept = ap length c.requires.kept in
    let losses = ap length c.requires.losses in
    let first = c.requires.first in
    let room = c.requires.room in
    let len = c.len.ensures in
    omega arith

pub push_vars-requires-2-clause-signals : goal.push_vars-requires-2-clause-signals
push_vars-requires-2-clause-signals c =
    subst (λ (l : List Signal). list_all (is_signal c.args.net.now) l ≡ true)
    (sym c.requires.losses)
    (losses_good c.args.net.now c.args.m c.get.result.now c.get.ensures)

pub push_vars-requires-2-clause-room : goal.push_vars-requires-2-clause-room
push_vars-requires-2-clause-room c =
    let within = signals_within c.args.net.now c.args.m c.requires.machine in
    let kept = ap length c.requires.kept in
    let losses = ap length c.requires.losses in
    let first = c.requires.first in
    let room = c.requires.room in
    let len = c.len.ensures in
    omega arith

pub returns : goal.returns
returns c =
    let net = c.args.net.now in
    let m = c.args.m in
    let n = first_number net m in
    let kept = snapshot_signals net m in
    let name : c.bytes.result.now ≡ machine_name net m =
    c.bytes.ensures.bytes
    ∙ ap (λ (o : Option Machine). unwrap_or (option_map (λ machine. machine.name) o) [])
    (sym c.get.ensures) in
    six_parts c.args.into.now c.push_scope.new.into c.push_vars.new.into c.push_scope-2.new.into
    c.push_vars-2.new.into c.push_end.new.into c.push_end-2.new.into
    (scope_line (machine_name net m)) (var_lines net n kept) (scope_line (codes "lost-events"))
    (var_lines net (n + length kept) (loss_signals net m)) scope_end scope_end
    (rw name at c.in_ok-push_scope.ensures)
    (rw (c.requires.first, c.requires.kept) at c.in_ok-push_vars.ensures)
    c.in_ok-push_scope-2.ensures
    (rw (c.requires.first, c.len.ensures, c.requires.kept, c.requires.losses) at
    c.in_ok-push_vars-2.ensures)
    c.in_ok-push_end.ensures c.in_ok-push_end-2.ensures
