use Rattle.std.proofs.Common.{◌∙◌, ◌+◌, [], ℕ, List, length, take, get_or, arith, ap, sym, subst}
use Rattle.std.proofs.lemmas.List.{length_push}
use Rattle.std.proofs.lemmas.Option.{get_or_from_slice_get}
use Rattle.polis_base.specs.Sets.{IsBoth}
use Rattle.outcome_table.proofs.Tails.{both_pushed, take_first}
use Rattle.outcome_table.proofs.tail.push_both.Goals as goal

pub loop-j-preserved : goal.loop-j-preserved
loop-j-preserved c =
    let old : List (List ℕ) = c.args.tails.now in
    let made : List (List ℕ) = c.loop-j.tails in
    let set : List ℕ = c.args.set.now in
    let later : List (List ℕ) = c.args.later.now in
    let added : List ℕ = c.both.result in
    let j : ℕ = c.loop-j.j in
    let ok = c.in_ok-push.ensures.ok in
    let long = c.loop-j.invariant.long in
    let own : IsBoth set (get_or later j []) added =
    subst (λ (ys : List ℕ). IsBoth set ys added)
    (sym (get_or_from_slice_get later j c.get.result.now [] c.get.ensures)) c.both.ensures.each in
    let longer = ap (λ (xs : List (List ℕ)). length xs) ok ∙ length_push made added in
    record {
      kept = ap (take (length old)) ok ∙ take_first (length old) made _ (omega arith)
          ∙ c.loop-j.invariant.kept;
      long = omega arith;
      each = λ k low.
          subst (λ (xs : List (List ℕ)). IsBoth set (get_or later k []) (get_or xs (length old + k)
          []))
          (sym ok)
          (both_pushed set later made added (length old) j long c.loop-j.invariant.each own k low);
    }
