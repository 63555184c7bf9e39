use Rattle.std.proofs.Common.{◌≡◌, true, ℕ, List, Option, ◌++◌, codes, decimal, refl, subst}
use Rattle.std.specs.Prelude.{OnOk}
use Rattle.std.proofs.lemmas.List.{append_assoc}
use Rattle.polis_base.specs.Lines.{line}
use Rattle.table_use.specs.LintLines.{is_snapshot, least_text, unused_line}
use Rattle.table_use.proofs.lint_lines.push_unused.Goals as goal

pub push_least-requires-clause-fits : goal.push_least-requires-clause-fits
push_least-requires-clause-fits c =
    subst (λ (o : Option (List ℕ)). is_snapshot c.args.machine.now o ≡ true) c.in-Some.is
    c.requires.snapshot

-- the least snapshot ends the line
joined : (into name event count least : List ℕ)
    → into ++ codes "unused " ++ name ++ codes " " ++ event ++ codes " " ++ count ++ line least
    ≡ into ++ line (codes "unused " ++ name ++ codes " " ++ event ++ codes " " ++ count ++ least)
joined into name event count least = simp append_assoc refl

pub returns-in_ok-push_decimal-in-Some : goal.returns-in_ok-push_decimal-in-Some
returns-in_ok-push_decimal-in-Some c =
    let net = c.args.net.now in
    let machine = c.args.machine.now in
    let event = c.args.event.now in
    let unused = c.args.unused.now in
    let least = least_text net machine c.in-Some.codes in
    let is :
    c.push_decimal.new.self ++ line least
    ≡ c.args.into.now ++ unused_line net machine event unused.count unused.least =
    rw (
      c.in-Some.is,
      c.in_ok-push_decimal-in-Some.ensures.ok,
      c.in_ok-push-in-Some-5.ensures.ok,
      c.in_ok-push-in-Some-4.ensures.ok,
      c.in_ok-push-in-Some-3.ensures.ok,
      c.in_ok-push-in-Some-2.ensures.ok,
      c.in_ok-push-in-Some.ensures.ok,
      c.bytes.ensures.bytes,
    ) (joined c.args.into.now machine.name event (decimal unused.count) least) in
    subst (λ (l : List ℕ). OnOk c.push_least.result (c.push_least.new.into ≡ l)) is
    c.push_least.ensures
