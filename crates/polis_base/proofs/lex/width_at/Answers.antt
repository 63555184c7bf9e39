use Rattle.std.proofs.Common.{◌≡◌, ◌<◌, ◌≤◌, ◌-◌, length, drop, ◌∙◌, ap, arith}
use Rattle.std.proofs.lemmas.List.{take_rest, length-drop}
use Rattle.polis_base.specs.Tokens.{scan, bytes_in}
use Rattle.polis_base.specs.Tokens.{width}
use Rattle.polis_base.proofs.Scans.{scan_some, scan_within, width_some, width_within}
use Rattle.polis_base.proofs.lex.width_at.Goals as goal

pub returns : goal.returns
returns c =
    let text = c.args.text.now in
    let at = c.args.at in
    let here : c.width_of.result ≡ width (scan at (drop at text)) = c.width_of.ensures
    ∙ ap (λ bytes. width (scan at bytes)) (take_rest text at) in
    let left : length (drop at text) ≡ length text - at = length-drop at text in
    let some : 0 < bytes_in (scan at (drop at text)) = scan_some at (drop at text) (omega arith) in
    let fits : bytes_in (scan at (drop at text)) ≤ length (drop at text) =
    scan_within at (drop at text) (omega arith) in
    record {
      scan = here;
      some = rw here (width_some (scan at (drop at text)) some);
      within = rw here (width_within (scan at (drop at text)) at (length text) (omega arith));
    }
