use Rattle.std.proofs.Common.{◌≡◌, ℕ, List, [], length, replicate, get_or, slice_index, sym, ap, ◌∙◌, subst, arith}
use Rattle.std.proofs.lemmas.Bool.{true≢false}
use Rattle.std.proofs.lemmas.List.{ext_get_or, length-replicate, length-set}
use Rattle.std.proofs.lemmas.Option.{get_or_from_slice_get}
use Rattle.outcome_table.specs.Outcomes.{named}
use Rattle.machine_equiv.specs.inner.FirstOthers.{AreEqualOnes}
use Rattle.machine_equiv.proofs.AreEqualOnes.{long_named, named_at, named_under, no_ones, number_low, one_place_more, one_set}
use Rattle.machine_equiv.proofs.tables.first_other.Goals as goal

pub loop-i-init : goal.loop-i-init
loop-i-init c =
    let a = c.args.a.now in
    let b = c.args.b.now in
    let filled = c.in_ok-equal.ensures in
    let filled_is = filled
    ∙ ap (λ n. replicate n c.len-2.result) c.len.ensures
    ∙ ap (λ n. replicate (length a.outcomes) n) c.len-2.ensures in
    record {
      before = λ k low. absurd (omega arith);
      long = ap (λ (xs : List ℕ). length xs) filled_is
          ∙ length-replicate (length a.outcomes) (length b.outcomes);
      equal = subst (AreEqualOnes a.outcomes b.outcomes) (sym filled_is)
          (no_ones a.outcomes b.outcomes);
    }

pub get-requires : goal.get-requires
get-requires c =
    let low = number_low c.args.a.now.outcomes c.args.a.now.numbers c.loop-i.i
    c.get-outcome.result.now c.requires.within c.get-outcome.ensures in
    let long = c.loop-i.invariant.long in
    omega arith

pub loop-i-preserved-then-get-other : goal.loop-i-preserved-then-get-other
loop-i-preserved-then-get-other c =
    let a = c.args.a.now in
    let b = c.args.b.now in
    let low = number_low a.outcomes a.numbers c.loop-i.i c.get-outcome.result.now c.requires.within
    c.get-outcome.ensures in
    let other_low = number_low b.outcomes b.numbers c.loop-i.i c.get-other.result.now
    c.requires.others c.get-other.ensures in
    let found : slice_index c.loop-i.equal c.get-outcome.result.now ≡ c.get-other.result.now =
    get_or_from_slice_get c.loop-i.equal c.get-outcome.result.now c.get.result.now 0
    c.get.ensures ∙ c.if-get-other.true in
    record {
      before = one_place_more (named a.outcomes a.numbers) (named b.outcomes b.numbers) c.loop-i.i
          c.loop-i.invariant.before
          (named_under a.outcomes a.numbers c.loop-i.i c.get-outcome.result.now
          c.get-outcome.ensures
          ∙ c.loop-i.invariant.equal c.get-outcome.result.now low (omega arith)
          ∙ ap (λ k. get_or b.outcomes k []) found
          ∙ sym (named_under b.outcomes b.numbers c.loop-i.i c.get-other.result.now
          c.get-other.ensures));
      long = c.loop-i.invariant.long;
      equal = c.loop-i.invariant.equal;
    }

pub get-requires-in-loop-i : goal.get-requires-in-loop-i
get-requires-in-loop-i c =
    number_low c.args.a.now.outcomes c.args.a.now.numbers c.loop-i.i c.get-outcome.result.now
    c.requires.within c.get-outcome.ensures

pub get-requires-in-loop-i-2 : goal.get-requires-in-loop-i-2
get-requires-in-loop-i-2 c =
    number_low c.args.b.now.outcomes c.args.b.now.numbers c.loop-i.i c.get-other.result.now
    c.requires.others c.get-other.ensures

pub returns-then-not-same_codes : goal.returns-then-not-same_codes
returns-then-not-same_codes c =
    let a = c.args.a.now in
    let b = c.args.b.now in
    let here = named_at a.outcomes a.numbers c.loop-i.i c.get-outcome.result.now
    c.get-in-loop-i.result.now c.get-outcome.ensures c.get-in-loop-i.ensures in
    let there = named_at b.outcomes b.numbers c.loop-i.i c.get-other.result.now
    c.get-in-loop-i-2.result.now c.get-other.ensures c.get-in-loop-i-2.ensures in
    record {
      low = let n = long_named a.outcomes a.numbers in let e = c.len-i-end.ensures in
          let test = c.loop-i-test.true in omega arith;
      differ = λ same. true≢false (sym (c.same_codes.ensures.1 (sym here ∙ same ∙ there))
          ∙ c.if-not-same_codes.true);
      before = c.loop-i.invariant.before;
    }

pub set-requires : goal.set-requires
set-requires c =
    let low = number_low c.args.a.now.outcomes c.args.a.now.numbers c.loop-i.i
    c.get-outcome.result.now c.requires.within c.get-outcome.ensures in
    let long = c.loop-i.invariant.long in
    omega arith

pub loop-i-preserved : goal.loop-i-preserved
loop-i-preserved c =
    let a = c.args.a.now in
    let b = c.args.b.now in
    let here = named_at a.outcomes a.numbers c.loop-i.i c.get-outcome.result.now
    c.get-in-loop-i.result.now c.get-outcome.ensures c.get-in-loop-i.ensures in
    let there = named_at b.outcomes b.numbers c.loop-i.i c.get-other.result.now
    c.get-in-loop-i-2.result.now c.get-other.ensures c.get-in-loop-i-2.ensures in
    let same = c.same_codes.ensures.0 c.if-not-same_codes.false in
    record {
      before = one_place_more (named a.outcomes a.numbers) (named b.outcomes b.numbers) c.loop-i.i
          c.loop-i.invariant.before (here ∙ same ∙ sym there);
      long = ap (λ (xs : List ℕ). length xs) c.set.ensures
          ∙ length-set c.loop-i.equal c.get-outcome.result.now c.get-other.result.now
          ∙ c.loop-i.invariant.long;
      equal = subst (AreEqualOnes a.outcomes b.outcomes) (sym c.set.ensures)
          (one_set a.outcomes b.outcomes c.loop-i.equal c.get-outcome.result.now
          c.get-other.result.now c.loop-i.invariant.long
          (get_or_from_slice_get a.outcomes c.get-outcome.result.now c.get-in-loop-i.result.now []
          c.get-in-loop-i.ensures
          ∙ same
          ∙ sym (get_or_from_slice_get b.outcomes c.get-other.result.now
          c.get-in-loop-i-2.result.now [] c.get-in-loop-i-2.ensures))
          c.loop-i.invariant.equal);
    }

pub returns : goal.returns
returns c =
    let a = c.args.a.now in
    let b = c.args.b.now in
    let n = long_named a.outcomes a.numbers in
    let m = long_named b.outcomes b.numbers in
    ext_get_or [] (named a.outcomes a.numbers) (named b.outcomes b.numbers)
    (n ∙ c.requires.long ∙ sym m)
    (λ k low. c.loop-i.invariant.before k (let e = c.len-i-end.ensures in
    let test = c.loop-i-test.false in omega arith))
