use Rattle.std.proofs.Common.{[], ◌∷◌, refl, sym, ◌∙◌, arith}
use Rattle.std.proofs.lemmas.Bool.{false≢true}
use Rattle.transition_table.specs.samples.Join.{join_machine}
use Rattle.table_use.specs.Odd.{odd_machine}
use Rattle.table_use.proofs.Tests.{fires_of, jammed_by_test, unused_of_test}
use Rattle.table_use.proofs.worked.worked_use.Goals as goal

pub returns-clause-unused : goal.returns-clause-unused
returns-clause-unused c = unused_of_test odd_machine 2 (0 ∷ 1 ∷ 1 ∷ 0 ∷ []) refl

-- without b no row is enabled
pub returns-clause-needed : goal.returns-clause-needed
returns-clause-needed c h =
    false≢true
    (sym (fires_of odd_machine (0 ∷ 0 ∷ 1 ∷ 0 ∷ []) h.outcome h.without_it)
    ∙ fires_of odd_machine (0 ∷ 1 ∷ 1 ∷ 0 ∷ []) h.outcome h.with_it)

pub returns-clause-no_input : goal.returns-clause-no_input
returns-clause-no_input c h = let inside = h.inside in omega (arith, inside)

pub returns-clause-jammed : goal.returns-clause-jammed
returns-clause-jammed c = (jammed_by_test odd_machine (1 ∷ 1 ∷ 0 ∷ 1 ∷ [])).0 refl

pub returns-clause-waits : goal.returns-clause-waits
returns-clause-waits c h = false≢true ((jammed_by_test join_machine (1 ∷ 0 ∷ [])).1 h)
