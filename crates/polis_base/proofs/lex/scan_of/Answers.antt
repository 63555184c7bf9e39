use Rattle.std.proofs.Common.{take, ◌∙◌, ap, sym, arith}
use Rattle.polis_base.specs.declared.lex.Scan.TheVariants.{Skipped}
use Rattle.polis_base.specs.Tokens.{scan_word, scan_number}
use Rattle.polis_base.proofs.ScanClasses.{class_scan, other_scan}
use Rattle.polis_base.proofs.lex.scan_of.Goals as goal

pub returns-in-48 : goal.returns-in-48
returns-in-48 c =
    sym ((class_scan c.args.at c.in-Some.first.now c.in-Some.rest.now c.args.bytes.now
    c.in-Some.ensures.cases.0).blank (sym c.class_of.ensures ∙ c.in-48.is))

pub returns-in-50 : goal.returns-in-50
returns-in-50 c =
    ap Skipped c.line_len.ensures
    ∙ sym ((class_scan c.args.at c.in-Some.first.now c.in-Some.rest.now c.args.bytes.now
    c.in-Some.ensures.cases.0).hash (sym c.class_of.ensures ∙ c.in-50.is))

pub returns-in-54 : goal.returns-in-54
returns-in-54 c =
    c.scan_word.ensures
    ∙ ap (λ n. scan_word c.args.at (take n c.args.bytes.now)) c.word_len.ensures
    ∙ sym ((class_scan c.args.at c.in-Some.first.now c.in-Some.rest.now c.args.bytes.now
    c.in-Some.ensures.cases.0).letter (sym c.class_of.ensures ∙ c.in-54.is))

pub returns-in-52 : goal.returns-in-52
returns-in-52 c =
    sym ((class_scan c.args.at c.in-Some.first.now c.in-Some.rest.now c.args.bytes.now
    c.in-Some.ensures.cases.0).zero (sym c.class_of.ensures ∙ c.in-52.is))

pub returns-in-53 : goal.returns-in-53
returns-in-53 c =
    c.scan_number.ensures
    ∙ ap (λ n. scan_number c.args.at (take n c.args.bytes.now)) c.digits_len.ensures
    ∙ sym ((class_scan c.args.at c.in-Some.first.now c.in-Some.rest.now c.args.bytes.now
    c.in-Some.ensures.cases.0).digit (sym c.class_of.ensures ∙ c.in-53.is))

pub returns-in_default-class_of : goal.returns-in_default-class_of
returns-in_default-class_of c =
    let class = c.class_of.ensures in
    c.scan_sign.ensures
    ∙ sym (other_scan c.args.at c.in-Some.first.now c.in-Some.rest.now c.args.bytes.now
    c.in-Some.ensures.cases.0 (λ is. omega (arith, class, is)) (λ is. omega (arith, class, is))
    (λ is. omega (arith, class, is)) (λ is. omega (arith, class, is))
    (λ is. omega (arith, class, is)))
