use Rattle.std.proofs.Common.{◌≡◌, ◌∙◌, ◌++◌, ℕ, [], List, length, map, take, drop, get_or, refl, arith, ap, sym, subst, slice_get}
use Rattle.std.proofs.lemmas.List.{take_all}
use Rattle.domains.specs.AllCodes.{all_codes}
use Rattle.outcome_table.specs.inner.Numbering.{Adds, rows_left}
use Rattle.polis_base.specs.Sets.{members_of}
use Rattle.outcome_table.proofs.NumberedOutcomes.{begins_kept}
use Rattle.outcome_table.proofs.RowsLeft.{first_below}
use Rattle.outcome_table.proofs.Rows.{few_rows}
use Rattle.outcome_table.proofs.Tails.{IsNumber, adds_one, below_most, left_for, number_is}
use Rattle.outcome_table.proofs.number.number_tails.Goals as goal
use Rattle.domains.proofs.Ranks.{length_fits}

pub number_under-requires : goal.number_under-requires
number_under-requires c =
    let m = c.args.narrowing.now.machine.now in
    let tails = c.args.narrowing.now.tails.now in
    let s = c.args.s.now.codes in
    let lists : List (List ℕ) = all_codes (drop tails.from m.vars) in
    let j : ℕ = c.loop-j.j in
    let one = left_for m s (members_of c.args.rows.now) c.get.result.now lists tails.sets
    tails.from j
    c.requires.from (length_fits m.vars s c.requires.snapshot)
    (c.args.narrowing.now.are_tails.sets c.requires.from)
    c.requires.rows c.get.ensures in
    let full : List ℕ = take tails.from s ++ get_or lists j [] in
    let first : c.first_of_both-first.result ≡ slice_get (rows_left m full) 0 =
    c.first_of_both-first.ensures ∙ ap (λ (xs : List ℕ). slice_get xs 0) one.left in
    let few = few_rows m in
    below_most c.first_of_both-first.result (length m.rows) 512 (omega arith)
    (first_below m full c.first_of_both-first.result (length m.rows) first refl)

pub loop-j-preserved : goal.loop-j-preserved
loop-j-preserved c =
    let m = c.args.narrowing.now.machine.now in
    let tails = c.args.narrowing.now.tails.now in
    let plain = c.args.narrowing.now.fixed.now in
    let ends = c.args.narrowing.now.ends.now in
    let s = c.args.s.now.codes in
    let lists : List (List ℕ) = all_codes (drop tails.from m.vars) in
    let j : ℕ = c.loop-j.j in
    let outcomes : List (List ℕ) = c.loop-j.made.outcomes in
    let each = c.args.narrowing.now.are_tails.sets c.requires.from in
    let one = left_for m s (members_of c.args.rows.now) c.get.result.now lists tails.sets
    tails.from j
    c.requires.from (length_fits m.vars s c.requires.snapshot) each c.requires.rows c.get.ensures in
    let full : List ℕ = take tails.from s ++ get_or lists j [] in
    let first : c.first_of_both-first.result ≡ slice_get (rows_left m full) 0 =
    c.first_of_both-first.ensures ∙ ap (λ (xs : List ℕ). slice_get xs 0) one.left in
    let begins = begins_kept m plain c.args.made.now.outcomes outcomes c.requires.begins
    c.loop-j.invariant.kept in
    let own : IsNumber m outcomes full c.number_under.result =
    subst (IsNumber m outcomes full) (sym c.number_under.ensures)
    (number_is m plain ends outcomes full c.first_of_both-first.result begins
    c.args.narrowing.now.are_ends (c.args.narrowing.now.are_tails.plain c.requires.from) one.long
    first) in
    let long = each.long in
    let count = c.len-j-end.ensures in
    let more = c.loop-j-test.true in
    adds_one m c.args.made.now c.loop-j.made _ (take tails.from s) lists j c.number_under.result
    (omega arith) c.loop-j.invariant refl c.in_ok-push.ensures.items own

pub returns : goal.returns
returns c =
    let m = c.args.narrowing.now.machine.now in
    let tails = c.args.narrowing.now.tails.now in
    let s = c.args.s.now.codes in
    let lists : List (List ℕ) = all_codes (drop tails.from m.vars) in
    let each = c.args.narrowing.now.are_tails.sets c.requires.from in
    let long = each.long in
    let count = c.len-j-end.ensures in
    let over = c.loop-j-test.false in
    subst (λ (ls : List (List ℕ)). Adds m c.args.made.now c.loop-j.made
    (map (λ codes. take tails.from s ++ codes) ls)) (take_all c.loop-j.j lists (omega arith))
    c.loop-j.invariant
