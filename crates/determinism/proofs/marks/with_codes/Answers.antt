use Rattle.std.proofs.Common.{ℕ, List, ◌∙◌, sym, inl, inr}
use Rattle.std.proofs.lemmas.Bool.{eqb-true}
use Rattle.determinism.specs.inner.Marks.{Enables}
use Rattle.determinism.proofs.Says.{says_first, says_other, denies_first, denies_other, only_first, never_first, with_cases}
use Rattle.determinism.proofs.marks.with_codes.Goals as goal

-- the first code alone
pub returns-then-is_empty : goal.returns-then-is_empty
returns-then-is_empty c =
    let m = c.args.machine.now in
    let var = c.args.var in
    let none = eqb-true c.without.result 0 (sym c.is_empty.ensures ∙ c.if-is_empty.true) in
    let first = λ (codes : List ℕ) (e : Enables m c.args.row.now codes). only_first m c.args.row.now
    var c.args.codes c.without.result codes c.requires.codes e c.requires.var c.without.ensures none
    in
    record {
      said = λ place codes e set.
          elim (with_cases c.with.result c.args.marks.said var c.with.ensures place set) [
            | inl here ↦ says_first place var codes here c.requires.few (first codes e)
            | inr before ↦ c.requires.marks.said place codes e before
          ];
      denied = λ place codes e set.
          elim (with_cases c.with-then-is_empty.result c.args.marks.denied _
          c.with-then-is_empty.ensures place set) [
            | inl here ↦ denies_other place var codes here (first codes e)
            | inr before ↦ c.requires.marks.denied place codes e before
          ];
    }

-- another code
pub returns-then-not-has : goal.returns-then-not-has
returns-then-not-has c =
    let m = c.args.machine.now in
    let var = c.args.var in
    let other = λ (codes : List ℕ) (e : Enables m c.args.row.now codes). never_first m
    c.args.row.now var c.args.codes codes c.requires.codes e c.requires.var
    (sym c.has.ensures ∙ c.if-not-has.true) in
    record {
      said = λ place codes e set.
          elim (with_cases c.with-then-not-has.result c.args.marks.said _
          c.with-then-not-has.ensures place set) [
            | inl here ↦ says_other place var codes here (other codes e)
            | inr before ↦ c.requires.marks.said place codes e before
          ];
      denied = λ place codes e set.
          elim (with_cases c.with-then-not-has-2.result c.args.marks.denied var
          c.with-then-not-has-2.ensures place set) [
            | inl here ↦ denies_first place var codes here c.requires.few (other codes e)
            | inr before ↦ c.requires.marks.denied place codes e before
          ];
    }
