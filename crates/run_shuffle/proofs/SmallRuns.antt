-- Shuffled journals of small networks.
use Rattle.std.proofs.Common.{refl, inl, inr, lit<}
use Rattle.transition_table.specs.samples.Pong.{pong}
use Rattle.journals.specs.Runs.{pong_run, pong_trace, two_by_priority_trace}
use Rattle.journals.specs.Samples.{lamp, lamp_run, press, two}
use Rattle.run_shuffle.specs.declared.order.Order.TheVariants.{Mixed, Free, Settled, Scheduled}
use Rattle.run_shuffle.specs.Shuffles.{IsShuffled}
use Rattle.run_shuffle.specs.Worked.{a_before_b, b_before_a, both_before}
use Rattle.run_shuffle.proofs.DrawnEntries.{shuffled}

pub lamp_once : IsShuffled lamp press 0 Mixed 60000 lamp_run
lamp_once = shuffled refl (inr (lit< tt, refl))

pub two_free : IsShuffled (two 2 1) two_by_priority_trace 0 Free 60000 b_before_a
two_free = shuffled refl (inr (lit< tt, refl))

pub two_flooded : IsShuffled (two 2 1) two_by_priority_trace 2 Free 60000 both_before
two_flooded = shuffled refl (inr (lit< tt, refl))

pub two_mixed : IsShuffled (two 2 1) two_by_priority_trace 0 Mixed 60000 a_before_b
two_mixed = shuffled refl (inr (lit< tt, refl))

pub pong_free : IsShuffled pong pong_trace 0 Free 10 pong_run
pong_free = shuffled refl (inl refl)

pub pong_settled : IsShuffled pong pong_trace 0 Settled 10 pong_run
pong_settled = shuffled refl (inl refl)

pub pong_scheduled : IsShuffled pong pong_trace 0 Scheduled 10 pong_run
pong_scheduled = shuffled refl (inl refl)

pub pong_mixed : IsShuffled pong pong_trace 0 Mixed 10 pong_run
pong_mixed = shuffled refl (inl refl)
