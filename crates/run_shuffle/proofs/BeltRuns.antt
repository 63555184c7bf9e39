-- Shuffled journals of the seat belt controller.
use Rattle.std.proofs.Common.{refl, inr, lit<}
use Rattle.transition_table.specs.samples.Belt.{belt}
use Rattle.run_shuffle.specs.Belt.{belt_alarmed, belt_cut_short, belt_drowned, belt_settled, belt_trace}
use Rattle.run_shuffle.specs.Shuffles.{IsShuffled}
use Rattle.run_shuffle.specs.declared.order.Order.TheVariants.{Free, Mixed, Settled}
use Rattle.run_shuffle.proofs.DrawnEntries.{shuffled}

pub belt_drowned_is : IsShuffled belt belt_trace 0 Free 60000 belt_drowned
belt_drowned_is = shuffled refl (inr (lit< tt, refl))

pub belt_alarmed_is : IsShuffled belt belt_trace 5 Free 60000 belt_alarmed
belt_alarmed_is = shuffled refl (inr (lit< tt, refl))

pub belt_cut_short_is : IsShuffled belt belt_trace 2 Mixed 60000 belt_cut_short
belt_cut_short_is = shuffled refl (inr (lit< tt, refl))

pub belt_settled_is : IsShuffled belt belt_trace 0 Settled 60000 belt_settled
belt_settled_is = shuffled refl (inr (lit< tt, refl))
