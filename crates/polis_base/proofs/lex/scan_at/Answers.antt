use Rattle.std.proofs.Common.{◌≡◌, ◌<◌, ◌≤◌, ◌-◌, length, drop, ◌∙◌, ap, arith}
use Rattle.std.proofs.lemmas.List.{take_rest, length-drop}
use Rattle.polis_base.specs.Tokens.{scan, bytes_in}
use Rattle.polis_base.proofs.Scans.{scan_some, scan_within}
use Rattle.polis_base.proofs.lex.scan_at.Goals as goal

pub returns : goal.returns
returns c =
    let text = c.args.text.now in
    let at = c.args.at in
    let here : c.scan_of.result ≡ scan at (drop at text) = c.scan_of.ensures
    ∙ ap (scan at) (take_rest text at) in
    let left : length (drop at text) ≡ length text - at = length-drop at text in
    let some : 0 < bytes_in (scan at (drop at text)) = scan_some at (drop at text) (omega arith) in
    let within : bytes_in (scan at (drop at text)) ≤ length (drop at text) =
    scan_within at (drop at text) (omega arith) in
    record { scan = here; some = rw here some; within = rw here (omega arith) }
