use Rattle.std.proofs.Common.{◌≡◌, ◌∙◌, ◌+◌, ◌<◌, ℕ, [], List, length, get_or, arith, sym, ap, subst, length-append, slice_get, Some}
use Rattle.std.proofs.lemmas.Option.{get_or_from_slice_get}
use Rattle.transition_table.specs.declared.machine.Machine.{Machine}
use Rattle.transition_table.specs.Orders.{sizes_of}
use Rattle.order_sift.specs.declared.points.Points.{Points}
use Rattle.order_sift.specs.inner.Classes.{AreClasses, AreMarks}
use Rattle.order_sift.specs.inner.Pairs.{AreBelow}
use Rattle.order_sift.specs.inner.Points.{IsPrepared}
use Rattle.order_sift.proofs.LevelByMarks.{level_by_marks, marks_few, marks_low}
use Rattle.order_sift.proofs.points.level_of.Goals as goal

-- the marks that were read
read : (m : Machine) (points : Points) (item from : ℕ) (got shown : List ℕ) → IsPrepared m points
    → item < length m.vars + length m.results → from ≡ item
    → slice_get points.marks from ≡ Some got → shown ≡ got → AreMarks m item shown
read m points item from got shown prepared low at there is =
    subst (AreMarks m item) (ap (λ k. get_or points.marks k []) (sym at)
    ∙ get_or_from_slice_get points.marks from got [] there ∙ sym is) (prepared.marks item low)

pub level-requires-clause-few : goal.level-requires-clause-few
level-requires-clause-few c =
    let long = ap (λ (xs : List ℕ). length xs) c.as_slice.ensures ∙ c.requires.numbers.long in
    let few = c.requires.few in
    omega arith

pub level-requires-clause-marks : goal.level-requires-clause-marks
level-requires-clause-marks c =
    let m = c.args.m.now in
    let long = ap (λ (xs : List ℕ). length xs) c.as_slice.ensures ∙ c.requires.numbers.long in
    subst (λ (n : ℕ). AreBelow n c.as_slice-2.result.now) (sym long)
    (marks_low m c.args.item c.as_slice-2.result.now (read m c.args.points.now c.args.item
    c.from-place.result c.get-marks.result.now c.as_slice-2.result.now c.requires.prepared
    c.requires.item c.from-place.ensures c.get-marks.ensures c.as_slice-2.ensures))

pub returns-clause-level : goal.returns-clause-level
returns-clause-level c fixed free are =
    let m = c.args.m.now in
    let item = c.args.item in
    let n = length-append m.vars m.results in
    let low = c.requires.item in
    let lx : item < length (sizes_of m) = omega arith in
    let signs = read m c.args.points.now item c.from-place.result c.get-marks.result.now
    c.as_slice-2.result.now c.requires.prepared low c.from-place.ensures c.get-marks.ensures
    c.as_slice-2.ensures in
    c.level.ensures.differing
    ∙ sym (level_by_marks m c.laws_below.ensures fixed item lx free c.as_slice.result.now
    c.as_slice-2.result.now (subst (AreClasses m fixed) (sym c.as_slice.ensures) are) signs)

pub returns-clause-few : goal.returns-clause-few
returns-clause-few c =
    let m = c.args.m.now in
    let most = marks_few m c.args.item c.as_slice-2.result.now (read m c.args.points.now c.args.item
    c.from-place.result c.get-marks.result.now c.as_slice-2.result.now c.requires.prepared
    c.requires.item c.from-place.ensures c.get-marks.ensures c.as_slice-2.ensures) in
    let few = c.requires.few in
    let count = c.level.ensures.few in
    omega arith
