use Rattle.determinism.specs.inner.Marks.{IsMarked}
use Rattle.determinism.proofs.marks.marks_of.Given as goal

-- the marks by the variables before this one
abbrev pub invariant-loop-var : goal.invariant-loop-var
invariant-loop-var l = IsMarked l.machine l.row l.marks
