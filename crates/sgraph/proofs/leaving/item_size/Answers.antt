use Rattle.std.proofs.Common.{◌≡◌, ◌∙◌, ◌-◌, ◌<◌, ◌≤◌, ℕ, List, ◌++◌, length, slice_get, slice_index, Some, sym, ap, subst, arith, length-append}
use Rattle.std.proofs.lemmas.List.{get_or_append_left, get_or-append_right}
use Rattle.std.proofs.lemmas.Option.{get_or_from_slice_get}
use Rattle.sgraph.proofs.leaving.item_size.Goals as goal

of_variable : (vars results : List ℕ) (item from long size : ℕ) → from ≡ item
    → long ≡ length vars → from < long → slice_get vars from ≡ Some size
    → size ≡ slice_index (vars ++ results) item
of_variable vars results item from long size is long_is low got =
    sym (get_or_from_slice_get vars from size 0 got)
    ∙ ap (slice_index vars) is
    ∙ sym (get_or_append_left vars results 0 item (omega arith))

of_result : (vars results : List ℕ) (item from long size : ℕ) → from ≡ item
    → long ≡ length vars → long ≤ from → slice_get results (from - long) ≡ Some size
    → size ≡ slice_index (vars ++ results) item
of_result vars results item from long size is long_is high got =
    sym (get_or_from_slice_get results (from - long) size 0 got)
    ∙ ap (slice_index results) (let e : from - long ≡ item - length vars = omega arith in e)
    ∙ sym (get_or-append_right vars results (length vars) item 0 (omega arith) (omega arith))

result_below : (vars results : List ℕ) (item from long : ℕ) → from ≡ item → long ≡ length vars
    → long ≤ from → item < length (vars ++ results) → from - long < length results
result_below vars results item from long is long_is high low =
    let both = length-append vars results in omega arith

pub get-requires : goal.get-requires
get-requires c = subst (λ (n : ℕ). c.from-k.result < n) c.len-vars.ensures.len c.if-k-vars.true

pub get-requires-2 : goal.get-requires-2
get-requires-2 c =
    result_below c.args.m.now.vars c.args.m.now.results c.args.item c.from-k.result
    c.len-vars.result c.from-k.ensures c.len-vars.ensures.len c.if-k-vars.false c.requires

pub returns-then-k-vars : goal.returns-then-k-vars
returns-then-k-vars c =
    of_variable c.args.m.now.vars c.args.m.now.results c.args.item c.from-k.result
    c.len-vars.result c.get.result.now c.from-k.ensures c.len-vars.ensures.len c.if-k-vars.true
    c.get.ensures

pub returns : goal.returns
returns c =
    of_result c.args.m.now.vars c.args.m.now.results c.args.item c.from-k.result
    c.len-vars.result c.get-2.result.now c.from-k.ensures c.len-vars.ensures.len
    c.if-k-vars.false c.get-2.ensures
