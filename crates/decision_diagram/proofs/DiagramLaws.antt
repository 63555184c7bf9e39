-- The laws of diagrams, put together.
use Rattle.decision_diagram.specs.Laws.{CountIsSize, SomewhereTrue, ReachedLed, OneChild}
use Rattle.decision_diagram.proofs.CountIsSize.{count_is_size as counted, lead_codes}
use Rattle.decision_diagram.proofs.Prefixes.{true_somewhere, some_kid, one_kid}

pub count_is_size : CountIsSize
count_is_size s root f count ok means reached = counted s ok root means.node f means count reached

pub somewhere_true : SomewhereTrue
somewhere_true s n ok in_n some = true_somewhere s ok n in_n some

pub reached_led : ReachedLed
reached_led s root n ok there = lead_codes s ok root there.0 n there.1

pub one_child : OneChild
one_child s root n node codes ok is fit led decided =
    let some = some_kid s ok n node is in (
      some.0,
      some.1,
      some.2,
      λ c low other.
          one_kid s ok root n node is codes fit led decided some.0 c some.1 low some.2 other,
    )
