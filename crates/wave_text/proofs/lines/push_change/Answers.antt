use Rattle.std.proofs.Common.{◌≡◌, ◌<◌, ◌++◌, List, length, Option, Some, slice_get, subst, sym, ap, ◌∙◌, []}
use Rattle.std.specs.Option.{option_map_or}
use Rattle.wave_text.specs.Waves.{signal_line}
use Rattle.wave_text.specs.declared.signal.Signal.{Signal}
use Rattle.wave_text.proofs.IsWritable.{writable_signal, writable_within}
use Rattle.wave_text.proofs.lines.push_change.Goals as goal

pub get-requires : goal.get-requires
get-requires c =
    subst (λ (l : List Signal). c.args.change.signal < length l) (sym c.requires.signals)
    (writable_within c.args.net.now c.args.change c.requires.change)

pub push_line-requires-clause-signal : goal.push_line-requires-clause-signal
push_line-requires-clause-signal c =
    (writable_signal c.args.net.now c.args.change c.get.result.now c.requires.change
    (subst (λ (l : List Signal). slice_get l c.args.change.signal ≡ Some c.get.result.now)
    c.requires.signals c.get.ensures)).0

pub push_line-requires-clause-code : goal.push_line-requires-clause-code
push_line-requires-clause-code c =
    (writable_signal c.args.net.now c.args.change c.get.result.now c.requires.change
    (subst (λ (l : List Signal). slice_get l c.args.change.signal ≡ Some c.get.result.now)
    c.requires.signals c.get.ensures)).1

pub returns : goal.returns
returns c =
    let net = c.args.net.now in
    let change = c.args.change in
    let at = subst (λ (l : List Signal). slice_get l change.signal ≡ Some c.get.result.now)
    c.requires.signals c.get.ensures in
    c.in_ok-push_line.ensures
    ∙ ap (λ (o : Option Signal). c.args.into.now
    ++ option_map_or (λ signal. signal_line net change.signal signal change.code) o []) (sym at)
