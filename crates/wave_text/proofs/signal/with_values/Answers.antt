use Rattle.wave_text.proofs.signal.with_values.Goals as goal

pub bounds-events-e-index : goal.bounds-events-e-index
bounds-events-e-index c = c.loop-e-test.true

pub get-requires : goal.get-requires
get-requires c = c.requires c.loop-e.e-index _ c.loop-e-test.true
