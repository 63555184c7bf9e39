use Rattle.std.proofs.Common.{ℕ, List, ◌∷◌, Option, option_copied, Bor, sym, ap, ◌∙◌}
use Rattle.polis_base.specs.Pieces.{left}
use Rattle.run_survey.proofs.FirstItems.{left_more, no_last, written_more}
use Rattle.run_survey.proofs.lines.push_items.Goals as goal

pub unreachable-requires : goal.unreachable-requires
unreachable-requires c =
    no_last c.args.text.now c.loop.counter c.args.count c.next_line.result.0.now c.requires
    c.loop-test.true
    (sym c.loop.invariant.left ∙ c.next_line.ensures.prefix
    ∙ ap (λ (o : Option (Bor (List ℕ))). c.next_line.result.0.now ∷ left 10 (option_copied o))
    c.in-None.is)

pub loop-preserved : goal.loop-preserved
loop-preserved c =
    let item = c.next_line.result.0.now in
    let rest = sym c.loop.invariant.left ∙ c.next_line.ensures.prefix
    ∙ ap (λ (o : Option (Bor (List ℕ))). item ∷ left 10 (option_copied o)) c.in-Some.is in
    record {
      left = left_more c.args.text.now c.loop.counter item c.in-Some.after.now rest;
      written = written_more c.args.text.now c.loop.counter item _ c.args.into.now c.loop.into
          c.push.new.self c.push-in-loop.new.self rest c.loop.invariant.written
          c.in_ok-push.ensures.ok c.in_ok-push-2.ensures.ok;
    }
