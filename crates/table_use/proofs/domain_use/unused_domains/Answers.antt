use Rattle.std.proofs.Common.{◌≡◌, ℕ, suc, ◌+◌, Bool, not, cond, List, [], ◌∷◌, ◌++◌, filter, length, ap, sym, ◌∙◌, arith}
use Rattle.polis_base.specs.Lists.{upto}
use Rattle.polis_base.proofs.Lists.{one_more}
use Rattle.table_use.specs.DomainUse.{is_domain_used}
use Rattle.table_use.proofs.domain_use.unused_domains.Goals as goal

pub loop-d-preserved : goal.loop-d-preserved
loop-d-preserved c =
    let net = c.args.net.now in
    let d = c.loop-d.d in
    let test : ℕ → Bool = λ k. not (is_domain_used net k) in
    c.in_ok-add_unused.ensures
    ∙ ap (λ (l : List ℕ). l ++ cond (test d) (d ∷ []) []) c.loop-d.invariant
    ∙ sym (one_more test d)
    ∙ (let e : suc d ≡ d + 1 = omega arith in ap (λ (n : ℕ). filter test (upto n)) e)

pub returns : goal.returns
returns c =
    let net = c.args.net.now in
    let test : ℕ → Bool = λ k. not (is_domain_used net k) in
    let end = c.len-d-end.ensures in
    let off = c.loop-d-test.false in
    let all : c.loop-d.d ≡ length net.domains = omega arith in
    c.loop-d.invariant ∙ ap (λ (n : ℕ). filter test (upto n)) all
