use Rattle.std.proofs.Common.{◌≡◌, ◌∙◌, ◌+◌, ◌-◌, ◌<◌, ◌≤◌, ℕ, true, [], List, length, get_or, arith, sym, subst}
use Rattle.std.proofs.lemmas.Option.{get_or_from_slice_get}
use Rattle.domains.specs.Orders.{place}
use Rattle.decision_diagram.specs.Sets.{stands}
use Rattle.order_sift.specs.inner.Turns.{AreAllowedPlaces}
use Rattle.order_sift.proofs.AreSizes.{all_below}
use Rattle.order_sift.proofs.AllowedPlaces.{var_within, var_places, result_places, result_first}
use Rattle.order_sift.proofs.places.allowed_places.Goals as goal
use Rattle.transition_table.proofs.MachineCounts.{order_length}

pub overflow_sub-result : goal.overflow_sub-result
overflow_sub-result c =
    let m = c.args.machine.now in
    let low : c.args.item < length m.vars = let a = c.if-from-vars.true in let b = c.from.ensures in
    let d = c.from-vars.ensures in let e = c.var_count.ensures.count in omega arith in
    let count = c.from-vars.ensures ∙ c.var_count.ensures.count in
    let greatest = subst (λ n. (k : ℕ) → k ≤ length c.args.order.now
    → ((y : ℕ) → y < length c.args.supports.now
    → stands (get_or c.args.supports.now y []) c.args.item ≡ true
    → k ≤ place c.args.order.now (n + y)) → k ≤ c.place_before.result) count
    c.place_before.ensures.greatest in
    let h = var_within m c.args.supports.now c.args.order.now c.laws_of_orders.ensures.have_places
    c.laws_of_orders.ensures.one_place c.requires.supports c.requires.allowed c.args.item
    c.requires.item c.place_before.result low greatest in
    omega arith

pub place_after-requires-clause-support : goal.place_after-requires-clause-support
place_after-requires-clause-support c =
    let m = c.args.machine.now in
    let supports = c.args.supports.now in
    let order = c.args.order.now in
    let n = order_length m order c.requires.allowed in
    let are = c.requires.supports in
    let y = c.from-else-from-vars.result - c.from-vars.result in
    let is : get_or supports y [] ≡ c.get-support.result.now =
    get_or_from_slice_get supports y c.get-support.result.now [] c.get-support.ensures in
    let ly : y < length m.results = let a = c.if-from-vars.false in let b = c.from.ensures in
    let d = c.from-vars.ensures in let e = c.var_count.ensures.count in
    let f = c.from-else-from-vars.ensures in let g = c.requires.item in omega arith in
    all_below c.as_slice.result.now (length order) (λ v on.
    let at = subst (λ (xs : List ℕ). stands xs v ≡ true) (c.as_slice.ensures ∙ sym is) on in
    let s = ((are.exact y v ly).0 at).0 in
    omega arith)

pub returns-then-from-vars-clause-places : goal.returns-then-from-vars-clause-places
returns-then-from-vars-clause-places c =
    let m = c.args.machine.now in
    let low : c.args.item < length m.vars = let a = c.if-from-vars.true in let b = c.from.ensures in
    let d = c.from-vars.ensures in let e = c.var_count.ensures.count in omega arith in
    let count = c.from-vars.ensures ∙ c.var_count.ensures.count in
    let greatest = subst (λ n. (k : ℕ) → k ≤ length c.args.order.now
    → ((y : ℕ) → y < length c.args.supports.now
    → stands (get_or c.args.supports.now y []) c.args.item ≡ true
    → k ≤ place c.args.order.now (n + y)) → k ≤ c.place_before.result) count
    c.place_before.ensures.greatest in
    let before = subst (λ n. (y : ℕ) → y < length c.args.supports.now
    → stands (get_or c.args.supports.now y []) c.args.item ≡ true
    → c.place_before.result ≤ place c.args.order.now (n + y)) count
    c.place_before.ensures.before in
    var_places m c.args.supports.now c.args.order.now c.laws_of_orders.ensures.have_places
    c.laws_of_orders.ensures.one_place c.requires.supports c.requires.allowed c.args.item
    c.requires.item c.place_before.result low c.place_before.ensures.within before greatest

pub returns-then-from-vars-clause-last : goal.returns-then-from-vars-clause-last
returns-then-from-vars-clause-last c =
    let m = c.args.machine.now in
    let low : c.args.item < length m.vars = let a = c.if-from-vars.true in let b = c.from.ensures in
    let d = c.from-vars.ensures in let e = c.var_count.ensures.count in omega arith in
    let count = c.from-vars.ensures ∙ c.var_count.ensures.count in
    let greatest = subst (λ n. (k : ℕ) → k ≤ length c.args.order.now
    → ((y : ℕ) → y < length c.args.supports.now
    → stands (get_or c.args.supports.now y []) c.args.item ≡ true
    → k ≤ place c.args.order.now (n + y)) → k ≤ c.place_before.result) count
    c.place_before.ensures.greatest in
    let h = var_within m c.args.supports.now c.args.order.now c.laws_of_orders.ensures.have_places
    c.laws_of_orders.ensures.one_place c.requires.supports c.requires.allowed c.args.item
    c.requires.item c.place_before.result low greatest in
    omega arith

pub returns-else-from-vars-clause-places : goal.returns-else-from-vars-clause-places
returns-else-from-vars-clause-places c =
    let m = c.args.machine.now in
    let supports = c.args.supports.now in
    let order = c.args.order.now in
    let n = order_length m order c.requires.allowed in
    let y = c.from-else-from-vars.result - c.from-vars.result in
    let is : get_or supports y [] ≡ c.get-support.result.now =
    get_or_from_slice_get supports y c.get-support.result.now [] c.get-support.ensures in
    let at : c.as_slice.result.now ≡ get_or supports y [] = c.as_slice.ensures ∙ sym is in
    let ly : y < length m.results = let a = c.if-from-vars.false in let b = c.from.ensures in
    let d = c.from-vars.ensures in let e = c.var_count.ensures.count in
    let f = c.from-else-from-vars.ensures in let g = c.requires.item in omega arith in
    let item : c.args.item ≡ length m.vars + y = let a = c.if-from-vars.false in
    let b = c.from.ensures in let d = c.from-vars.ensures in
    let e = c.var_count.ensures.count in let f = c.from-else-from-vars.ensures in omega arith in
    let each = subst (λ (xs : List ℕ). (v : ℕ) → stands xs v ≡ true
    → place order v < c.place_after.result) at c.place_after.ensures.after in
    let least = subst (λ (xs : List ℕ). (k : ℕ) → ((v : ℕ) → stands xs v ≡ true → place order v < k)
    → c.place_after.result ≤ k) at c.place_after.ensures.least in
    let h = result_places m supports order c.laws_of_orders.ensures.have_places
    c.laws_of_orders.ensures.one_place c.requires.supports c.requires.allowed c.args.item
    c.requires.item y c.place_after.result ly item each least in
    subst (λ len. AreAllowedPlaces m order (place order c.args.item) c.place_after.result (len - 1))
    (sym c.len.ensures.len) h

pub returns-else-from-vars-clause-first : goal.returns-else-from-vars-clause-first
returns-else-from-vars-clause-first c =
    let m = c.args.machine.now in
    let supports = c.args.supports.now in
    let order = c.args.order.now in
    let n = order_length m order c.requires.allowed in
    let y = c.from-else-from-vars.result - c.from-vars.result in
    let is : get_or supports y [] ≡ c.get-support.result.now =
    get_or_from_slice_get supports y c.get-support.result.now [] c.get-support.ensures in
    let at : c.as_slice.result.now ≡ get_or supports y [] = c.as_slice.ensures ∙ sym is in
    let ly : y < length m.results = let a = c.if-from-vars.false in let b = c.from.ensures in
    let d = c.from-vars.ensures in let e = c.var_count.ensures.count in
    let f = c.from-else-from-vars.ensures in let g = c.requires.item in omega arith in
    let item : c.args.item ≡ length m.vars + y = let a = c.if-from-vars.false in
    let b = c.from.ensures in let d = c.from-vars.ensures in
    let e = c.var_count.ensures.count in let f = c.from-else-from-vars.ensures in omega arith in
    let least = subst (λ (xs : List ℕ). (k : ℕ) → ((v : ℕ) → stands xs v ≡ true → place order v < k)
    → c.place_after.result ≤ k) at c.place_after.ensures.least in
    result_first m supports order c.laws_of_orders.ensures.have_places
    c.laws_of_orders.ensures.one_place c.requires.supports c.requires.allowed c.args.item
    c.requires.item y c.place_after.result ly item least
