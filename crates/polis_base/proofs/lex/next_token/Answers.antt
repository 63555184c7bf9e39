use Rattle.std.proofs.Common.{◌+◌, ◌-◌, ◌≤◌, length, sym, ◌∙◌, ap, arith}
use Rattle.std.specs.Result.{is_ok}
use Rattle.std.proofs.lemmas.Bool.{false≢true}
use Rattle.polis_base.proofs.Scans.{blank_here}
use Rattle.polis_base.proofs.TokensFrom.{skipped_on, read_on, faulty_on, none_on, same_ok}
use Rattle.polis_base.proofs.Marks.{skipped_marked, read_marked, faulty_marked, none_marked}
use Rattle.polis_base.proofs.Spans.{token_here}
use Rattle.polis_base.proofs.lex.next_token.Goals as goal

pub loop-at-preserved-then-is_blank : goal.loop-at-preserved-then-is_blank
loop-at-preserved-then-is_blank c =
    let text = c.args.text.now in
    let at = c.loop-at.at in
    let below = c.loop-at-test.true in
    let is = blank_here text at 0 below (sym c.is_blank.ensures ∙ c.if-is_blank.true) in
    record {
      after = omega (arith, c.loop-at.invariant.after);
      same = sym (skipped_on at 1 text is below (omega arith)) ∙ c.loop-at.invariant.same;
      marked = sym (skipped_marked at 1 text is below (omega arith))
          ∙ c.loop-at.invariant.marked;
    }

pub loop-at-preserved : goal.loop-at-preserved
loop-at-preserved c =
    let text = c.args.text.now in
    let at = c.loop-at.at in
    let n = c.in-Skipped.len in
    let is = sym c.in-Skipped.ensures.scan in
    let below = c.loop-at-test.true in
    let some = c.in-Skipped.ensures.some in
    record {
      after = omega (arith, c.loop-at.invariant.after);
      same = sym (skipped_on at n text is below some) ∙ c.loop-at.invariant.same;
      marked = sym (skipped_marked at n text is below some) ∙ c.loop-at.invariant.marked;
    }

pub returns-in-Read : goal.returns-in-Read
returns-in-Read c =
    let text = c.args.text.now in
    let at = c.loop-at.at in
    let n = c.in-Read.len in
    let is = sym c.in-Read.ensures.scan in
    let below = c.loop-at-test.true in
    let some = c.in-Read.ensures.some in
    let first = sym c.loop-at.invariant.same ∙ read_on at n c.in-Read.kind text is below some in
    let here = token_here text at n c.in-Read.kind is some c.in-Read.ensures.within in
    record {
      some = record {
        begins = c.loop-at.invariant.after;
        within = c.in-Read.ensures.within;
        name = here.name;
        first = sym c.loop-at.invariant.marked ∙ read_marked at n c.in-Read.kind text is below some;
        read = λ ok. record {
          is = here;
          first = first;
          rest = sym (same_ok _ _) ∙ ap is_ok (sym first) ∙ ok;
        };
      };
      none = tt;
      none_marked = tt;
    }

pub returns-in-Faulty : goal.returns-in-Faulty
returns-in-Faulty c =
    let text = c.args.text.now in
    let at = c.loop-at.at in
    let is = sym c.in-Faulty.ensures.scan in
    let below = c.loop-at-test.true in
    let fault = faulty_on at _ text is below in
    let all : at + (length text - at) ≤ length text = omega (arith, below) in
    rw c.mark.ensures (record {
      some = record {
        begins = c.loop-at.invariant.after;
        within = all;
        name = λ e. absurd cc;
        first = sym c.loop-at.invariant.marked ∙ faulty_marked at _ text is below;
        read = λ ok. absurd
            (false≢true (ap is_ok (sym fault ∙ c.loop-at.invariant.same) ∙ ok));
      };
      none = tt;
      none_marked = tt;
    })

pub returns : goal.returns
returns c =
    record {
      some = tt;
      none = sym c.loop-at.invariant.same
          ∙ none_on c.loop-at.at c.args.text.now c.loop-at-test.false;
      none_marked = sym c.loop-at.invariant.marked
          ∙ none_marked c.loop-at.at c.args.text.now c.loop-at-test.false;
    }
