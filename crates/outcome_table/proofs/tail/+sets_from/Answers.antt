use Rattle.std.proofs.Common.{◌≡◌, ◌∙◌, ◌+◌, ◌<◌, ◌++◌, ◌∷◌, [], ℕ, suc, List, flat_map, map, length, drop, nat_lt, slice_get, slice_index, Some, arith, ap, sym, subst}
use Rattle.std.proofs.lemmas.Option.{get_or_from_slice_get, slice_get_within}
use Rattle.polis_base.specs.Lists.{upto}
use Rattle.domains.specs.AllCodes.{all_codes, each_after}
use Rattle.transition_table.specs.declared.machine.Machine.{Machine}
use Rattle.outcome_table.specs.inner.RowSets.{AreAllowed, AreSets, IsSetOf}
use Rattle.outcome_table.specs.inner.Tails.{EachNarrows}
use Rattle.outcome_table.proofs.Tails.{each_more, each_none, lists_here}
use Rattle.outcome_table.proofs.tail.+sets_from.Goals as goal
use Rattle.polis_base.proofs.UptoPlaces.{flat_map_upto}

pub returns-then-from-len : goal.returns-then-from-len
returns-then-from-len t c =
    let m = c.args.machine.now in
    let end : c.args.from ≡ length m.vars = c.if-from-len.true ∙ c.len.ensures.len in
    each_none m c.args.from c.first.result c.push.new.self end
    (λ r. c.first.ensures.each r ∙ ap (nat_lt r) c.row_count.ensures.count)
    (c.in_ok-push.ensures.ok
    ∙ ap (λ (xs : List (List ℕ)). xs ++ c.first.result ∷ []) c.new-made.ensures)

-- the sets of a variable
sets_at : (m : Machine) (table : List (List (List ℕ))) (sets : List (List ℕ)) (from : ℕ)
    → from < length m.vars → AreAllowed m table → slice_get table from ≡ Some sets
    → AreSets m from sets
sets_at m table sets from low all get =
    subst (AreSets m from) (get_or_from_slice_get table from sets [] get) (all.each from low)

pub get-requires : goal.get-requires
get-requires t c =
    let m = c.args.machine.now in
    let from = c.args.from in
    let a = c.requires.from in
    let b = c.if-from-len.false in
    let l = c.len.ensures.len in
    let low : from < length m.vars = omega arith in
    let sets = sets_at m c.args.allowed.now c.get-sets.result.now from low c.requires.allowed
    c.get-sets.ensures in
    let long = sets.long in
    let size = get_or_from_slice_get m.vars from c.get-code-end.result.now 0
    c.get-code-end.ensures in
    let below = c.loop-code-test.true in
    rw c.from.ensures (omega arith)

pub loop-code-preserved : goal.loop-code-preserved
loop-code-preserved t c =
    let m = c.args.machine.now in
    let from : ℕ = c.args.from in
    let code : ℕ = c.loop-code.code in
    let a = c.requires.from in
    let b = c.if-from-len.false in
    let l = c.len.ensures.len in
    let low : from < length m.vars = omega arith in
    let sets = sets_at m c.args.allowed.now c.get-sets.result.now from low c.requires.allowed
    c.get-sets.ensures in
    let size = get_or_from_slice_get m.vars from c.get-code-end.result.now 0
    c.get-code-end.ensures in
    let below = c.loop-code-test.true in
    let own : slice_get c.get-sets.result.now code ≡ Some c.get.result.now =
    rw c.from.ensures at c.get.ensures in
    let of_code : IsSetOf m from code c.get.result.now =
    subst (IsSetOf m from code)
    (get_or_from_slice_get c.get-sets.result.now code c.get.result.now [] own)
    (sets.each code (slice_get_within c.get-sets.result.now code c.get.result.now own)) in
    let more : List (List ℕ) = all_codes (drop (from + 1) m.vars) in
    let e : code + 1 ≡ suc code = omega arith in
    let lists : flat_map (each_after more) (upto code) ++ map (λ codes. code ∷ codes) more
    ≡ flat_map (each_after more) (upto (code + 1)) =
    sym (ap (λ k. flat_map (each_after more) (upto k)) e ∙ flat_map_upto (each_after more) code) in
    subst (λ (ls : List (List ℕ)). EachNarrows m from ls c.push_both.new.tails) lists
    (each_more m c.get.result.now (flat_map (each_after more) (upto code)) more c.in_ok-later.later
    c.loop-code.made c.push_both.new.tails from code of_code (omega arith)
    c.in_ok-later.ensures c.loop-code.invariant c.in_ok-push_both.ensures)

pub returns : goal.returns
returns t c =
    let m = c.args.machine.now in
    let from : ℕ = c.args.from in
    let a = c.requires.from in
    let b = c.if-from-len.false in
    let l = c.len.ensures.len in
    let low : from < length m.vars = omega arith in
    let size = get_or_from_slice_get m.vars from c.get-code-end.result.now 0
    c.get-code-end.ensures in
    let over = c.loop-code-test.false in
    let end = c.loop-code.auto.code-end in
    let done : c.loop-code.code ≡ slice_index m.vars from = omega arith in
    let more : List (List ℕ) = all_codes (drop (from + 1) m.vars) in
    subst (λ (ls : List (List ℕ)). EachNarrows m from ls c.loop-code.made)
    (ap (λ k. flat_map (each_after more) (upto k)) done ∙ lists_here m.vars from low)
    c.loop-code.invariant
