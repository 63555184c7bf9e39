use Rattle.std.proofs.Common.{◌≡◌, ◌+◌, ◌++◌, List, [], drop, true, subst, arith}
use Rattle.std.specs.List.{enumerate_from, flat_map}
use Rattle.std.proofs.lemmas.Option.{get_or_from_slice_get}
use Rattle.wave_text.specs.Signals.{signal_code}
use Rattle.wave_text.specs.Waves.{start_line}
use Rattle.wave_text.specs.inner.Writable.{has_code, is_signal}
use Rattle.wave_text.specs.declared.signal.Signal.{Signal}
use Rattle.wave_text.proofs.HeadText.{start_lines_more}
use Rattle.event_accounts.proofs.OneItemMore.{one_more}
use Rattle.wave_text.proofs.lines.push_start_lines.Goals as goal
use Rattle.polis_base.proofs.ListTests.{all_get_or}

pub push_start_line-requires-clause-signal : goal.push_start_line-requires-clause-signal
push_start_line-requires-clause-signal c =
    let list : List Signal = c.args.list.now in
    let s : Signal = c.get.result.now in
    subst (λ (x : Signal). is_signal c.args.net.now x ≡ true)
    (get_or_from_slice_get list c.loop-k.k s s c.get.ensures)
    (all_get_or (is_signal c.args.net.now) list c.loop-k.k s c.requires.signals
    (let end = c.len-k-end.ensures in omega arith))

pub push_start_line-requires-clause-code : goal.push_start_line-requires-clause-code
push_start_line-requires-clause-code c =
    let list : List Signal = c.args.list.now in
    let s : Signal = c.get.result.now in
    let net = c.args.net.now in
    subst (λ (x : Signal). has_code net x (signal_code net [] x) ≡ true)
    (get_or_from_slice_get list c.loop-k.k s s c.get.ensures)
    (all_get_or (λ x. has_code net x (signal_code net [] x)) list c.loop-k.k s c.requires.codes
    (let end = c.len-k-end.ensures in omega arith))

pub loop-k-preserved : goal.loop-k-preserved
loop-k-preserved c =
    let net = c.args.net.now in
    let k = c.loop-k.k in
    let list : List Signal = c.args.list.now in
    let s : Signal = c.get.result.now in
    one_more c.loop-k.into c.push_start_line.new.into (start_line net (k, s))
    (flat_map (start_line net) (enumerate_from k (drop k list)))
    (flat_map (start_line net) (enumerate_from (k + 1) (drop (k + 1) list)))
    (c.args.into.now ++ flat_map (start_line net) (enumerate_from 0 list))
    c.in_ok-push_start_line.ensures
    (start_lines_more net k list s c.get.ensures) c.loop-k.invariant
