use Rattle.std.proofs.Common.{subst, arith}
use Rattle.std.proofs.lemmas.Option.{slice_get_within}
use Rattle.machine_equiv.specs.inner.FirstOthers.{IsDifference}
use Rattle.machine_equiv.specs.Comparing.{SameTable}
use Rattle.polis_base.proofs.AgreeBelow.{one_more}
use Rattle.machine_equiv.proofs.HaveSameRuns.{same_runs}
use Rattle.machine_equiv.proofs.SameForm.{form_same}
use Rattle.machine_equiv.proofs.nets.compare_nets.Goals as goal

pub difference-requires-clause-form : goal.difference-requires-clause-form
difference-requires-clause-form c =
    form_same c.args.a.now c.args.b.now c.requires.shape c.loop-k.k c.get.result.now
    c.get-in-loop-k.result.now c.get.ensures c.get-in-loop-k.ensures

pub difference-requires-clause-deterministic : goal.difference-requires-clause-deterministic
difference-requires-clause-deterministic c =
    c.requires.deterministic c.loop-k.k c.get.result.now c.get.ensures

pub difference-requires-clause-other : goal.difference-requires-clause-other
difference-requires-clause-other c =
    c.requires.other c.loop-k.k c.get-in-loop-k.result.now c.get-in-loop-k.ensures

pub returns-in-Some-clause-answer : goal.returns-in-Some-clause-answer
returns-in-Some-clause-answer c = record {
  before = c.loop-k.invariant;
  one = c.get.result.now;
  other = c.get-in-loop-k.result.now;
  one_is = c.get.ensures;
  other_is = c.get-in-loop-k.ensures;
  least = subst (IsDifference c.get.result.now c.get-in-loop-k.result.now) c.in-Some.is
      c.in_ok-found.ensures;
}

pub loop-k-preserved : goal.loop-k-preserved
loop-k-preserved c j low x y x_is y_is =
    one_more SameTable c.args.a.now.machines c.args.b.now.machines c.loop-k.k c.get.result.now
    c.get-in-loop-k.result.now c.get.ensures c.get-in-loop-k.ensures
    (subst (IsDifference c.get.result.now c.get-in-loop-k.result.now) c.in_default.is
    c.in_ok-found.ensures)
    (λ k p q less p_is q_is. c.loop-k.invariant k less p q p_is q_is) j x y low x_is y_is

pub returns-clause-answer : goal.returns-clause-answer
returns-clause-answer c k x y x_is y_is =
    let low = slice_get_within c.args.a.now.machines k x x_is in
    c.loop-k.invariant k (let e = c.len-k-end.ensures in let t = c.loop-k-test.false in omega arith)
    x y x_is y_is

pub returns-clause-runs : goal.returns-clause-runs
returns-clause-runs c =
    same_runs c.args.a.now c.args.b.now c.requires.shape
    (λ k x y x_is y_is. let low = slice_get_within c.args.a.now.machines k x x_is in
    c.loop-k.invariant k (let e = c.len-k-end.ensures in let t = c.loop-k-test.false in omega arith)
    x y x_is y_is)
