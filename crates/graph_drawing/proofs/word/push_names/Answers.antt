use Rattle.std.proofs.Common.{ℕ, List, ◌++◌, ap, ◌∙◌}
use Rattle.graph_drawing.specs.Words.{after_gap, words_text}
use Rattle.polis_base.proofs.Numbered.{more_numbered}
use Rattle.graph_drawing.proofs.word.push_names.Goals as goal

pub loop-k-preserved : goal.loop-k-preserved
loop-k-preserved c =
    more_numbered after_gap c.args.names.now c.loop-k.k c.get.result.now c.loop-k.into
    c.push_name.new.into (c.args.into.now ++ words_text c.args.names.now) c.loop-k.invariant
    c.get.ensures
    (c.in_ok-push_name.ensures
    ∙ ap (λ (name : List ℕ). c.loop-k.into ++ after_gap c.loop-k.k name) c.bytes.ensures.bytes)
