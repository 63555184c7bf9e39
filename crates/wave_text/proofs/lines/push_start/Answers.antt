use Rattle.wave_text.proofs.TextChains.{four_parts}
use Rattle.polis_base.specs.Lines.{line}
use Rattle.std.specs.Prelude.{codes}
use Rattle.std.specs.List.{enumerate_from, flat_map, list_all}
use Rattle.wave_text.specs.Signals.{signals, signal_code}
use Rattle.wave_text.specs.Waves.{start_line}
use Rattle.std.proofs.Common.{◌≡◌, List, [], true, subst, sym}
use Rattle.wave_text.specs.inner.Writable.{has_code, is_signal}
use Rattle.wave_text.specs.declared.signal.Signal.{Signal}
use Rattle.wave_text.proofs.HasCode.{all_signals_hold, codes_good, signals_good}
use Rattle.wave_text.proofs.lines.push_start.Goals as goal

pub push_start_lines-requires-clause-signals : goal.push_start_lines-requires-clause-signals
push_start_lines-requires-clause-signals c =
    let net = c.args.net.now in
    subst (λ (l : List Signal). list_all (is_signal net) l ≡ true) (sym c.requires)
    (all_signals_hold net (is_signal net) (signals_good net))

pub push_start_lines-requires-clause-codes : goal.push_start_lines-requires-clause-codes
push_start_lines-requires-clause-codes c =
    let net = c.args.net.now in
    subst (λ (l : List Signal). list_all (λ s. has_code net s (signal_code net [] s)) l ≡ true)
    (sym c.requires)
    (all_signals_hold net (λ s. has_code net s (signal_code net [] s))
    (codes_good net [] tt))

pub returns : goal.returns
returns c =
    let net = c.args.net.now in
    four_parts c.args.into.now c.push.new.self c.push-2.new.self c.push_start_lines.new.into
    c.push-3.new.self (line (codes "#0")) (line (codes "$dumpvars"))
    (flat_map (start_line net) (enumerate_from 0 (signals net))) (line (codes "$end"))
    c.in_ok-push.ensures.ok c.in_ok-push-2.ensures.ok
    (rw c.requires at c.in_ok-push_start_lines.ensures) c.in_ok-push-3.ensures.ok
