use Rattle.net_rules.proofs.sizes.state_sizes.Goals as goal

pub bounds-states-state-index : goal.bounds-states-state-index
bounds-states-state-index c = c.loop-state-test.true

pub state_size-requires-clause-sound : goal.state_size-requires-clause-sound
state_size-requires-clause-sound c = c.requires.sound
