use Rattle.std.proofs.Common.{◌≡◌, ℕ, List, ◌++◌, flat_map, refl, ap, ◌∙◌, subst}
use Rattle.std.specs.Prelude.{OnOk}
use Rattle.std.specs.List.{enumerate_from, zip}
use Rattle.std.proofs.lemmas.List.{append_assoc}
use Rattle.table_use.specs.CoverageLines.{line_of_input, machine_line, never_line, taken_line}
use Rattle.table_use.proofs.coverage_lines.push_machine.Goals as goal

-- four texts are appended one after another
joined : (o a b c d o1 o2 o3 : List ℕ) → o1 ≡ o ++ a → o2 ≡ o1 ++ b → o3 ≡ o2 ++ c
    → o3 ++ d ≡ o ++ (a ++ b ++ c ++ d)
joined o a b c d o1 o2 o3 first second third =
    ap (λ (l : List ℕ). l ++ d)
    (third ∙ ap (λ (l : List ℕ). l ++ c) (second ∙ ap (λ (l : List ℕ). l ++ b) first))
    ∙ grouped o a b c d
  where
    grouped : (o a b c d : List ℕ) → o ++ a ++ b ++ c ++ d ≡ o ++ (a ++ b ++ c ++ d)
    grouped o a b c d = simp append_assoc refl

pub returns : goal.returns
returns c =
    let net = c.args.net.now in
    let machine = c.args.machine.now in
    let used = c.args.used.now in
    let inputs = flat_map (line_of_input net machine) (zip machine.inputs used.inputs) in
    subst (λ (l : List ℕ). OnOk c.push_inputs.result (c.push_inputs.new.into ≡ l))
    (joined c.args.into.now (machine_line machine used)
    (flat_map (taken_line machine) (enumerate_from 0 used.rows)) (never_line machine used.rows)
    inputs c.push_machine_line.new.into c.push_taken_rows.new.into c.push_never_line.new.into
    c.in_ok-push_machine_line.ensures c.in_ok-push_taken_rows.ensures
    c.in_ok-push_never_line.ensures)
    c.push_inputs.ensures
