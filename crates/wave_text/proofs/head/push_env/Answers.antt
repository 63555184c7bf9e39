use Rattle.wave_text.proofs.TextChains.{four_parts}
use Rattle.wave_text.specs.Signals.{emission_signals, first_number, value_signals}
use Rattle.wave_text.specs.Waves.{scope_end, scope_line, value_scope, var_lines}
use Rattle.std.specs.Prelude.{codes}
use Rattle.std.proofs.Common.{◌≡◌, ◌+◌, List, length, true, subst, sym, ap, arith}
use Rattle.std.specs.List.{list_all}
use Rattle.wave_text.specs.inner.Writable.{is_signal}
use Rattle.wave_text.specs.declared.signal.Signal.{Signal}
use Rattle.wave_text.proofs.HasCode.{emissions_good, values_good}
use Rattle.wave_text.proofs.MomentSteps.{all_within}
use Rattle.wave_text.proofs.head.push_env.Goals as goal

pub push_vars-requires-clause-signals : goal.push_vars-requires-clause-signals
push_vars-requires-clause-signals c =
    subst (λ (l : List Signal). list_all (is_signal c.args.net.now) l ≡ true)
    (sym c.requires.emissions)
    (emissions_good c.args.net.now)

pub push_vars-requires-clause-room : goal.push_vars-requires-clause-room
push_vars-requires-clause-room c =
    let within = all_within c.args.net.now in
    let emissions = ap length c.requires.emissions in
    let values = ap length c.requires.values in
    let first = c.requires.first in
    let room = c.requires.room in
    omega arith

pub overflow_add-n : goal.overflow_add-n
overflow_add-n c =
    let within = all_within c.args.net.now in
    let emissions = ap length c.requires.emissions in
    let values = ap length c.requires.values in
    let first = c.requires.first in
    let room = c.requires.room in
    let len = c.len.ensures in
    omega arith

pub push_values-requires-clause-signals : goal.push_values-requires-clause-signals
push_values-requires-clause-signals c =
    subst (λ (l : List Signal). list_all (is_signal c.args.net.now) l ≡ true)
    (sym c.requires.values)
    (values_good c.args.net.now)

pub push_values-requires-clause-room : goal.push_values-requires-clause-room
push_values-requires-clause-room c =
    let within = all_within c.args.net.now in
    let emissions = ap length c.requires.emissions in
    let values = ap length c.requires.values in
    let first = c.requires.first in
    let room = c.requires.room in
    let len = c.len.ensures in
    omega arith

pub returns : goal.returns
returns c =
    let net = c.args.net.now in
    let n = first_number net (length net.machines) in
    let emissions = emission_signals net in
    four_parts c.args.into.now c.push_scope.new.into c.push_vars.new.into c.push_values.new.into
    c.push_end.new.into (scope_line (codes "env")) (var_lines net n emissions)
    (value_scope net (n + length emissions) (value_signals net)) scope_end
    c.in_ok-push_scope.ensures
    (rw (c.requires.first, c.requires.emissions) at c.in_ok-push_vars.ensures)
    (rw (c.requires.first, c.len.ensures, c.requires.emissions, c.requires.values) at
    c.in_ok-push_values.ensures)
    c.in_ok-push_end.ensures
