use Rattle.std.proofs.Common.{◌≡◌, ◌<◌, ◌==◌, ◌∙◌, sym, arith, length, false, get_or}
use Rattle.polis_base.proofs.AllPass.{differ_false}
use Rattle.std.proofs.lemmas.Bool.{eqb-true}
use Rattle.journal_text.proofs.WordBytes.{plain_len, plain_whole, plain_end, plain_prefix, plain_at, bad_word}
use Rattle.journal_text.proofs.cut.next_plain.Goals as goal

pub returns-then-end-text-clause-some : goal.returns-then-end-text-clause-some
returns-then-end-text-clause-some c =
    plain_end c.args.text.now (sym c.plain_len-end.ensures.plain ∙ c.if-end-text.true)

pub returns-then-end-text-clause-plain : goal.returns-then-end-text-clause-plain
returns-then-end-text-clause-plain c =
    plain_whole c.args.text.now (sym c.plain_len-end.ensures.plain ∙ c.if-end-text.true)

pub returns-then-text-end-eq32-clause-some : goal.returns-then-text-end-eq32-clause-some
returns-then-text-end-eq32-clause-some c =
    let below : plain_len c.args.text.now < length c.args.text.now =
    omega (arith, c.plain_len-end.ensures.plain, c.plain_len-end.ensures.within, c.if-end-text.false)
    in
    rw c.plain_len-end.ensures.plain
    (plain_at c.args.text.now below (rw c.plain_len-end.ensures.plain at c.if-text-end-eq32.true))

pub returns-then-text-end-eq32-clause-plain : goal.returns-then-text-end-eq32-clause-plain
returns-then-text-end-eq32-clause-plain c =
    rw c.plain_len-end.ensures.plain (plain_prefix c.args.text.now)

pub returns-else-text-end-eq32-clause-none : goal.returns-else-text-end-eq32-clause-none
returns-else-text-end-eq32-clause-none c =
    let below : plain_len c.args.text.now < length c.args.text.now =
    omega (arith, c.plain_len-end.ensures.plain, c.plain_len-end.ensures.within, c.if-end-text.false)
    in
    let other : (get_or c.args.text.now (plain_len c.args.text.now) 0 == 32) ≡ false =
    differ_false _ (λ e. c.if-text-end-eq32.false
    (rw c.plain_len-end.ensures.plain
    (eqb-true (get_or c.args.text.now (plain_len c.args.text.now) 0) 32 e))) in
    bad_word c.args.text.now below other
