use Rattle.std.proofs.Common.{◌≡◌, ◌==◌, false, ℕ, List, [], ◌∷◌, ◌++◌, refl, subst, arith}
use Rattle.std.specs.Prelude.{OnOk}
use Rattle.std.proofs.lemmas.Bool.{ne_eqb}
use Rattle.std.proofs.lemmas.List.{append_assoc}
use Rattle.table_use.specs.CoverageLines.{taken_line}
use Rattle.table_use.proofs.coverage_lines.push_taken.Goals as goal

pub returns : goal.returns
returns c =
    let taken : c.args.taken.now.count == 0 ≡ false =
    ne_eqb c.args.taken.now.count 0 (λ e. omega (arith, e, c.if-taken-eq0.false)) in
    let is :
    c.push_decimal-2.new.self ++ 10 ∷ []
    ≡ c.args.into.now ++ taken_line c.args.machine.now (c.args.r, c.args.taken.now) =
    rw (
      taken,
      c.in_ok-push_decimal-2.ensures.ok,
      c.in_ok-push-4.ensures.ok,
      c.in_ok-push_decimal.ensures.ok,
      c.in_ok-push-3.ensures.ok,
      c.in_ok-push-2.ensures.ok,
      c.in_ok-push.ensures.ok,
      c.bytes.ensures.bytes,
    ) (simp append_assoc refl) in
    subst (λ (l : List ℕ). OnOk c.push-5.result (c.push-5.new.self ≡ l)) is c.push-5.ensures.ok
