use Rattle.std.proofs.Common.{◌≡◌, ◌==◌, false, ℕ, List, [], ◌∷◌, ◌++◌, count_by, refl, ap, sym, ◌∙◌, subst, arith}
use Rattle.std.specs.Prelude.{OnOk}
use Rattle.std.proofs.lemmas.Bool.{ne_eqb}
use Rattle.std.proofs.lemmas.List.{append_assoc}
use Rattle.table_use.specs.CoverageLines.{is_untaken, never_line}
use Rattle.table_use.proofs.coverage_lines.push_never_line.Goals as goal

pub returns : goal.returns
returns c =
    let rows = c.args.rows.now in
    let some : count_by is_untaken rows == 0 ≡ false =
    ap (λ (n : ℕ). n == 0) (sym c.untaken_count-count.ensures)
    ∙ ne_eqb c.untaken_count-count.result 0 (λ e. omega (arith, e, c.if-count-eq0.false)) in
    let is :
    c.push_untaken_rows.new.into ++ 10 ∷ []
    ≡ c.args.into.now ++ never_line c.args.machine.now rows =
    rw (
      some,
      c.in_ok-push_untaken_rows.ensures,
      c.in_ok-push-4.ensures.ok,
      c.in_ok-push_decimal.ensures.ok,
      c.in_ok-push-3.ensures.ok,
      c.in_ok-push-2.ensures.ok,
      c.in_ok-push.ensures.ok,
      c.bytes.ensures.bytes,
      c.untaken_count-count.ensures,
    ) (simp append_assoc refl) in
    subst (λ (l : List ℕ). OnOk c.push-5.result (c.push-5.new.self ≡ l)) is c.push-5.ensures.ok
