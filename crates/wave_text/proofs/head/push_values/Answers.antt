use Rattle.std.proofs.Common.{◌≡◌, ℕ, List, ◌++◌, [], length, sym, ap, ◌∙◌, arith}
use Rattle.std.specs.Prelude.{◌==◌, Bool, cond, false, codes}
use Rattle.std.proofs.lemmas.Bool.{ne_eqb}
use Rattle.wave_text.specs.Waves.{scope_end, scope_line, var_lines}
use Rattle.wave_text.specs.declared.signal.Signal.{Signal}
use Rattle.wave_text.proofs.TextChains.{three_parts}
use Rattle.wave_text.proofs.head.push_values.Goals as goal

pub returns : goal.returns
returns c =
    let net = c.args.net.now in
    let list : List Signal = c.args.list.now in
    let into : List ℕ = c.args.into.now in
    let a = scope_line (codes "last-values") in
    let b = var_lines net c.args.n list in
    let some : (length list == 0) ≡ false =
    ne_eqb (length list) 0 (λ h. let g : length list ≡ 0 = h in let len = c.len.ensures in
    let test = c.if-len-eq0.false in absurd (omega arith)) in
    three_parts into c.push_scope.new.into c.push_vars.new.into c.push_end.new.into a b scope_end
    c.in_ok-push_scope.ensures c.in_ok-push_vars.ensures c.in_ok-push_end.ensures
    ∙ ap (λ (t : Bool). into ++ cond t [] (a ++ b ++ scope_end)) (sym some)
