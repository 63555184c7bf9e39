use Rattle.std.proofs.Common.{◌≡◌, true, Ok, Err, sym, ◌∙◌}
use Rattle.std.specs.Prelude.{Result, OnOk}
use Rattle.std.specs.Result.{is_ok}
use Rattle.std.proofs.lemmas.Bool.{false≢true}
use Rattle.polis_base.proofs.TokensFrom.{all_read, skipped_more, read_more}
use Rattle.polis_base.proofs.Spans.{tokens_lie, tokens_in_order}
use Rattle.polis_base.proofs.lex.tokens.Goals as goal

pub loop-at-preserved-in-Skipped : goal.loop-at-preserved-in-Skipped
loop-at-preserved-in-Skipped c =
    let h =
    skipped_more c.loop-at.made c.loop-at.at c.in-Skipped.len c.args.text.now
    (sym c.in-Skipped.ensures.scan) c.loop-at-test.true c.in-Skipped.ensures.some in
    record { within = c.in-Skipped.ensures.within; same = sym h ∙ c.loop-at.invariant.same }

taken : {T E : Type 0} (r : Result T E) (P : Type 0) → is_ok r ≡ true → OnOk r P → P
taken (Ok x) P ok h = h
taken (Err e) P ok h = absurd (false≢true ok)

pub loop-at-preserved : goal.loop-at-preserved
loop-at-preserved c =
    let h =
    read_more c.loop-at.made c.loop-at.at c.in-Read.len c.in-Read.kind c.args.text.now
    (sym c.in-Read.ensures.scan) c.loop-at-test.true c.in-Read.ensures.some in
    let pushed = taken c.push.result _ c.if-is_err.ensures.negation c.push.ensures.ok in
    record {
      within = c.in-Read.ensures.within;
      same = rw pushed (sym h ∙ c.loop-at.invariant.same);
    }

pub returns-clause-spans : goal.returns-clause-spans
returns-clause-spans c =
    let text = c.args.text.now in
    let read = sym c.loop-at.invariant.same
    ∙ all_read c.loop-at.made c.loop-at.at text c.loop-at-test.false in
    rw c.of.ensures (tokens_lie text c.loop-at.made read)

pub returns-clause-order : goal.returns-clause-order
returns-clause-order c =
    let text = c.args.text.now in
    let read = sym c.loop-at.invariant.same
    ∙ all_read c.loop-at.made c.loop-at.at text c.loop-at-test.false in
    rw c.of.ensures (tokens_in_order text c.loop-at.made read)
