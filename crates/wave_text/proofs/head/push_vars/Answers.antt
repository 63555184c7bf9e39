use Rattle.std.proofs.Common.{◌≡◌, ◌+◌, ◌++◌, List, drop, true, subst, arith}
use Rattle.std.proofs.lemmas.Option.{get_or_from_slice_get}
use Rattle.wave_text.specs.Waves.{var_line, var_lines}
use Rattle.wave_text.specs.inner.Writable.{is_signal}
use Rattle.wave_text.specs.declared.signal.Signal.{Signal}
use Rattle.wave_text.proofs.HeadText.{vars_more}
use Rattle.event_accounts.proofs.OneItemMore.{one_more}
use Rattle.wave_text.proofs.head.push_vars.Goals as goal
use Rattle.polis_base.proofs.ListTests.{all_get_or}

pub push_var-requires : goal.push_var-requires
push_var-requires c =
    let list : List Signal = c.args.list.now in
    let s : Signal = c.get.result.now in
    subst (λ (x : Signal). is_signal c.args.net.now x ≡ true)
    (get_or_from_slice_get list c.loop-i.i s s c.get.ensures)
    (all_get_or (is_signal c.args.net.now) list c.loop-i.i s c.requires.signals
    (let end = c.len-i-end.ensures in omega arith))

pub loop-i-preserved : goal.loop-i-preserved
loop-i-preserved c =
    let net = c.args.net.now in
    let n = c.args.n in
    let i = c.loop-i.i in
    let list : List Signal = c.args.list.now in
    let s : Signal = c.get.result.now in
    one_more c.loop-i.into c.push_var.new.into (var_line net (n + i, s))
    (var_lines net (n + i) (drop i list)) (var_lines net (n + (i + 1)) (drop (i + 1) list))
    (c.args.into.now ++ var_lines net n list) c.in_ok-push_var.ensures
    (vars_more net n i list s c.get.ensures) c.loop-i.invariant
