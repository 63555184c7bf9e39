use Rattle.std.proofs.Common.{◌≡◌, ◌∙◌, ◌+◌, ◌<◌, ◌≤◌, ◌++◌, ◌∷◌, [], ℕ, suc, true, List, length, take, drop, flat_map, slice_get, slice_index, slice_set, Some, arith, ap, sym, subst}
use Rattle.std.specs.Prelude.{filter}
use Rattle.std.proofs.Math.Seq.{drop-cons}
use Rattle.std.proofs.lemmas.List.{length-take-le, take_more_set, take-set}
use Rattle.std.proofs.lemmas.Option.{get_or_from_slice_get, slice_get_within}
use Rattle.polis_base.specs.Lists.{upto}
use Rattle.domains.specs.Tables.{fits}
use Rattle.transition_table.specs.declared.machine.Machine.{Machine}
use Rattle.outcome_table.specs.inner.Numbering.{Adds, lists_after, rows_left}
use Rattle.polis_base.specs.Sets.{has_member, members_of}
use Rattle.outcome_table.specs.inner.RowSets.{AreAllowed, AreSets, IsSetOf}
use Rattle.outcome_table.specs.declared.number.Numbered.{Numbered}
use Rattle.outcome_table.proofs.NumberedOutcomes.{adds_on, begins_kept, lists_split, take_less}
use Rattle.outcome_table.proofs.RowsLeft.{first_below, narrowed}
use Rattle.transition_table.proofs.CodeSets.{machine_sizes, size_at}
use Rattle.outcome_table.proofs.number.+number_rest.Goals as goal
use Rattle.domains.proofs.FittingCodes.{fits_set}
use Rattle.domains.proofs.Ranks.{length_fits}
use Rattle.polis_base.proofs.UptoPlaces.{flat_map_upto}

-- what stands at one turn of the loop
record Turn (m : Machine) (s cur : List ℕ) (at code size : ℕ) : Type 0 where
  low : at < length m.vars
  long : length s ≡ length m.vars
  long_cur : length cur ≡ length m.vars
  below : code < slice_index m.vars at
  few : code < 64
  fixed : take (at + 1) (slice_set cur at code) ≡ take at s ++ code ∷ []
  fit : fits m.vars (slice_set cur at code) ≡ true

turn : (m : Machine) (s cur : List ℕ) (at code size : ℕ) → at < length m.vars
    → fits m.vars s ≡ true → fits m.vars cur ≡ true → take at cur ≡ take at s
    → slice_get m.vars at ≡ Some size → code < size → Turn m s cur at code size
turn m s cur at code size low fit_s fit_cur kept get less =
    let long = length_fits m.vars s fit_s in
    let long_cur = length_fits m.vars cur fit_cur in
    let is : slice_index m.vars at ≡ size = get_or_from_slice_get m.vars at size 0 get in
    let few = (size_at m.vars at (machine_sizes m) low).1 in
    record {
      low = low;
      long = long;
      long_cur = long_cur;
      below = omega arith;
      few = omega arith;
      fixed = take_more_set cur at code (omega arith) ∙ ap (λ (xs : List ℕ). xs ++ code ∷ []) kept;
      fit = fits_set m.vars cur at code fit_cur (omega arith);
    }

-- the rows that are left for one more code
left_next : (m : Machine) (table : List (List (List ℕ))) (sets : List (List ℕ))
    (set s cur new rows : List ℕ) (at code size : ℕ) → Turn m s cur at code size
    → AreAllowed m table → slice_get table at ≡ Some sets → slice_get sets code ≡ Some set
    → rows ≡ rows_left m (take at s) → new ≡ slice_set cur at code
    → filter (has_member set) rows ≡ rows_left m (take (at + 1) new)
left_next m table sets set s cur new rows at code size u all get own left is =
    let low = u.low in
    let long = u.long in
    let of_var : AreSets m at sets =
    subst (AreSets m at) (get_or_from_slice_get table at sets [] get) (all.each at low) in
    let of_code : IsSetOf m at code set =
    subst (IsSetOf m at code) (get_or_from_slice_get sets code set [] own)
    (of_var.each code (slice_get_within sets code set own)) in
    let prefix : at ≡ length (take at s) = sym (length-take-le at s (omega arith)) in
    narrowed m set (take at s) rows at code of_code prefix u.below left
    ∙ ap (rows_left m) (sym u.fixed)
    ∙ ap (λ (xs : List ℕ). rows_left m (take (at + 1) xs)) (sym is)

-- and the lists of codes that are numbered with it
adds_next : (m : Machine) (old a b : Numbered) (s new : List ℕ) (at code : ℕ)
    → take (at + 1) new ≡ take at s ++ code ∷ []
    → Adds m old a (flat_map (λ c. lists_after (take at s ++ c ∷ []) (drop (at + 1) m.vars))
    (upto code))
    → Adds m a b (lists_after (take (at + 1) new) (drop (at + 1) m.vars))
    → Adds m old b (flat_map (λ c. lists_after (take at s ++ c ∷ []) (drop (at + 1) m.vars))
    (upto (code + 1)))
adds_next m old a b s new at code fixed before next =
    let f : ℕ → List (List ℕ) = λ k. lists_after (take at s ++ k ∷ []) (drop (at + 1) m.vars) in
    let one : Adds m a b (f code) =
    subst (λ (xs : List ℕ). Adds m a b (lists_after xs (drop (at + 1) m.vars))) fixed next in
    let e : code + 1 ≡ suc code = omega arith in
    let more : flat_map f (upto code) ++ f code ≡ flat_map f (upto (code + 1)) =
    sym (ap (λ k. flat_map f (upto k)) e ∙ flat_map_upto f code) in
    subst (λ (lists : List (List ℕ)). Adds m old b lists) more
    (adds_on m old a b (flat_map f (upto code)) (f code) before one)

pub set-requires : goal.set-requires
set-requires t c =
    let u = turn c.args.narrowing.now.machine.now c.args.s.now.codes c.loop-code.s.codes c.args.at
    c.loop-code.code c.get-code-end.result.now c.requires.at c.requires.snapshot
    c.loop-code.invariant.snapshot
    c.loop-code.invariant.kept c.get-code-end.ensures c.loop-code-test.true in
    let a = u.low in
    let b = u.long_cur in
    omega arith

pub get-allowed-requires : goal.get-allowed-requires
get-allowed-requires t c =
    let m = c.args.narrowing.now.machine.now in
    let at = c.args.at in
    let sets = c.get-sets.result.now in
    let u = turn c.args.narrowing.now.machine.now c.args.s.now.codes c.loop-code.s.codes c.args.at
    c.loop-code.code c.get-code-end.result.now c.requires.at c.requires.snapshot
    c.loop-code.invariant.snapshot
    c.loop-code.invariant.kept c.get-code-end.ensures c.loop-code-test.true in
    let of_var : AreSets m at sets =
    subst (AreSets m at)
    (get_or_from_slice_get c.args.narrowing.now.allowed.now at sets [] c.get-sets.ensures)
    (c.args.narrowing.now.are_allowed.each at c.requires.at) in
    let long = of_var.long in
    let below = u.below in
    rw c.from.ensures (omega arith)

pub end_left-requires : goal.end_left-requires
end_left-requires t c =
    let m = c.args.narrowing.now.machine.now in
    let s = c.args.s.now.codes in
    let at = c.args.at in
    let code = c.loop-code.code in
    let u = turn c.args.narrowing.now.machine.now c.args.s.now.codes c.loop-code.s.codes c.args.at
    c.loop-code.code c.get-code-end.result.now c.requires.at c.requires.snapshot
    c.loop-code.invariant.snapshot
    c.loop-code.invariant.kept c.get-code-end.ensures c.loop-code-test.true in
    let next = left_next m c.args.narrowing.now.allowed.now c.get-sets.result.now
    c.get-allowed.result.now s c.loop-code.s.codes c.set.new.self (members_of c.args.rows.now) at
    code
    c.get-code-end.result.now u c.args.narrowing.now.are_allowed c.get-sets.ensures
    (rw c.from.ensures at c.get-allowed.ensures) c.requires.rows c.set.ensures in
    let first : c.first_of_both-first.result
    ≡ slice_get (rows_left m (take (at + 1) c.set.new.self)) 0 =
    c.first_of_both-first.ensures ∙ ap (λ (xs : List ℕ). slice_get xs 0) next in
    first_below m (take (at + 1) c.set.new.self) c.first_of_both-first.result
    (length c.args.narrowing.now.ends.now) first c.args.narrowing.now.are_ends.long

pub number_all-requires-clause-snapshot : goal.number_all-requires-clause-snapshot
number_all-requires-clause-snapshot t c =
    rw c.set.ensures
    (turn c.args.narrowing.now.machine.now c.args.s.now.codes c.loop-code.s.codes c.args.at
    c.loop-code.code c.get-code-end.result.now c.requires.at c.requires.snapshot
    c.loop-code.invariant.snapshot
    c.loop-code.invariant.kept c.get-code-end.ensures c.loop-code-test.true).fit

pub number_all-requires-clause-first : goal.number_all-requires-clause-first
number_all-requires-clause-first t c =
    let m = c.args.narrowing.now.machine.now in
    let s = c.args.s.now.codes in
    let at = c.args.at in
    let code = c.loop-code.code in
    let u = turn c.args.narrowing.now.machine.now c.args.s.now.codes c.loop-code.s.codes c.args.at
    c.loop-code.code c.get-code-end.result.now c.requires.at c.requires.snapshot
    c.loop-code.invariant.snapshot
    c.loop-code.invariant.kept c.get-code-end.ensures c.loop-code-test.true in
    let next = left_next m c.args.narrowing.now.allowed.now c.get-sets.result.now
    c.get-allowed.result.now s c.loop-code.s.codes c.set.new.self (members_of c.args.rows.now) at
    code
    c.get-code-end.result.now u c.args.narrowing.now.are_allowed c.get-sets.ensures
    (rw c.from.ensures at c.get-allowed.ensures) c.requires.rows c.set.ensures in
    let first : c.first_of_both-first.result
    ≡ slice_get (rows_left m (take (at + 1) c.set.new.self)) 0 =
    c.first_of_both-first.ensures ∙ ap (λ (xs : List ℕ). slice_get xs 0) next in
    first

pub number_all-requires-clause-begins : goal.number_all-requires-clause-begins
number_all-requires-clause-begins t c =
    begins_kept c.args.narrowing.now.machine.now c.args.narrowing.now.fixed.now
    c.args.made.now.outcomes
    c.loop-code.made.outcomes c.requires.begins c.loop-code.invariant.adds.kept

pub loop-code-preserved-then-end_left-at : goal.loop-code-preserved-then-end_left-at
loop-code-preserved-then-end_left-at t c =
    let m = c.args.narrowing.now.machine.now in
    let s = c.args.s.now.codes in
    let at = c.args.at in
    let code = c.loop-code.code in
    let u = turn c.args.narrowing.now.machine.now c.args.s.now.codes c.loop-code.s.codes c.args.at
    c.loop-code.code c.get-code-end.result.now c.requires.at c.requires.snapshot
    c.loop-code.invariant.snapshot
    c.loop-code.invariant.kept c.get-code-end.ensures c.loop-code-test.true in
    let cur = c.loop-code.s.codes in
    let fixed : take (at + 1) c.set.new.self ≡ take at s ++ code ∷ [] =
    ap (take (at + 1)) c.set.ensures ∙ u.fixed in
    record {
      adds = adds_next m c.args.made.now c.loop-code.made c.number_all.new.made s c.set.new.self at
          code fixed c.loop-code.invariant.adds c.in_ok-number_all.ensures;
      snapshot = rw c.set.ensures u.fit;
      kept = ap (take at) c.set.ensures ∙ take-set cur at code ∙ c.loop-code.invariant.kept;
    }

pub number_rest-requires : goal.number_rest-requires
number_rest-requires t c =
    let m = c.args.narrowing.now.machine.now in
    let s = c.args.s.now.codes in
    let at = c.args.at in
    let code = c.loop-code.code in
    let u = turn c.args.narrowing.now.machine.now c.args.s.now.codes c.loop-code.s.codes c.args.at
    c.loop-code.code c.get-code-end.result.now c.requires.at c.requires.snapshot
    c.loop-code.invariant.snapshot
    c.loop-code.invariant.kept c.get-code-end.ensures c.loop-code-test.true in
    let next = left_next m c.args.narrowing.now.allowed.now c.get-sets.result.now
    c.get-allowed.result.now s c.loop-code.s.codes c.set.new.self (members_of c.args.rows.now) at
    code
    c.get-code-end.result.now u c.args.narrowing.now.are_allowed c.get-sets.ensures
    (rw c.from.ensures at c.get-allowed.ensures) c.requires.rows c.set.ensures in
    let left : members_of c.both.result ≡ rows_left m (take (at + 1) c.set.new.self) =
    c.both.ensures.members ∙ next in
    let within = c.end_left.ensures.within in
    let more = c.if-end_left-at.false in
    let d = c.decreases in (
      omega arith,
      (
        omega arith,
        (
          rw c.set.ensures u.fit,
          (
            left,
            (
              begins_kept m c.args.narrowing.now.fixed.now c.args.made.now.outcomes
                  c.loop-code.made.outcomes c.requires.begins c.loop-code.invariant.adds.kept,
              c.loop-code.invariant.adds.within,
            ),
          ),
        ),
      ),
    )

pub loop-code-preserved : goal.loop-code-preserved
loop-code-preserved t c =
    let m = c.args.narrowing.now.machine.now in
    let s = c.args.s.now.codes in
    let at = c.args.at in
    let code = c.loop-code.code in
    let u = turn c.args.narrowing.now.machine.now c.args.s.now.codes c.loop-code.s.codes c.args.at
    c.loop-code.code c.get-code-end.result.now c.requires.at c.requires.snapshot
    c.loop-code.invariant.snapshot
    c.loop-code.invariant.kept c.get-code-end.ensures c.loop-code-test.true in
    let cur = c.loop-code.s.codes in
    let fixed : take (at + 1) c.set.new.self ≡ take at s ++ code ∷ [] =
    ap (take (at + 1)) c.set.ensures ∙ u.fixed in
    let less : at ≤ at + 1 = omega arith in
    record {
      adds = adds_next m c.args.made.now c.loop-code.made c.number_rest.new.made s c.set.new.self
          at code fixed c.loop-code.invariant.adds c.in_ok-number_rest.ensures.adds;
      snapshot = c.in_ok-number_rest.ensures.snapshot;
      kept = sym (take_less at (at + 1) c.number_rest.new.s.codes less)
          ∙ ap (take at) c.in_ok-number_rest.ensures.kept
          ∙ take_less at (at + 1) c.set.new.self less
          ∙ ap (take at) c.set.ensures
          ∙ take-set cur at code
          ∙ c.loop-code.invariant.kept;
    }

pub returns-clause-adds : goal.returns-clause-adds
returns-clause-adds t c =
    let m = c.args.narrowing.now.machine.now in
    let s = c.args.s.now.codes in
    let at = c.args.at in
    let size : c.get-code-end.result.now ≡ slice_index m.vars at =
    sym (get_or_from_slice_get m.vars at c.get-code-end.result.now 0 c.get-code-end.ensures) in
    let done : c.loop-code.code ≡ slice_index m.vars at = let a = c.loop-code-test.false in
    let b = c.loop-code.auto.code-end in omega arith in
    let e : suc at ≡ at + 1 = omega arith in
    let here : drop at m.vars ≡ slice_index m.vars at ∷ drop (at + 1) m.vars =
    drop-cons m.vars at 0 c.requires.at ∙ ap (λ k. slice_index m.vars at ∷ drop k m.vars) e in
    let f : ℕ → List (List ℕ) = λ k. lists_after (take at s ++ k ∷ []) (drop (at + 1) m.vars) in
    let whole : flat_map f (upto c.loop-code.code) ≡ lists_after (take at s) (drop at m.vars) =
    ap (λ k. flat_map f (upto k)) done
    ∙ sym (lists_split (take at s) (drop at m.vars) (drop (at + 1) m.vars)
    (slice_index m.vars at) here) in
    subst (λ (lists : List (List ℕ)). Adds m c.args.made.now c.loop-code.made lists) whole
    c.loop-code.invariant.adds
