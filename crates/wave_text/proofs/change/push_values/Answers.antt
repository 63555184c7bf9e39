use Rattle.wave_text.proofs.change.push_values.Goals as goal

pub bounds-out_values-out-index : goal.bounds-out_values-out-index
bounds-out_values-out-index c = c.loop-out-test.true

pub bounds-outs-out : goal.bounds-outs-out
bounds-outs-out c = c.requires.outputs c.loop-out.out-index _ c.loop-out-test.true

pub bounds-values-out : goal.bounds-values-out
bounds-values-out c = c.requires.events c.loop-out.out-index _ c.loop-out-test.true
