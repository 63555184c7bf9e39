use Rattle.std.proofs.Common.{◌≡◌, ◌∙◌, ◌+◌, ◌<◌, ◌≤◌, ◌++◌, ◌∷◌, [], ℕ, List, length, take, get_or, slice_index, arith, sym, ap, subst}
use Rattle.std.specs.List.{insert, remove}
use Rattle.std.proofs.lemmas.List.{take_more, take_all, get_or_default}
use Rattle.std.proofs.lemmas.Option.{get_or_from_slice_get}
use Rattle.domains.specs.Orders.{IsPermutation}
use Rattle.order_sift.specs.Moves.{moved}
use Rattle.order_sift.proofs.MovedPlaces.{moved_permutation}
use Rattle.order_sift.proofs.turns.moved.Goals.{After-deref, After-loop-k}
use Rattle.order_sift.proofs.turns.moved.Goals as goal

pub loop-k-preserved : goal.loop-k-preserved
loop-k-preserved c =
    let order = c.args.order.now in
    let k = c.loop-k.k in
    let low : k < length order = let a = c.loop-k-test.true in let b = c.len-k-end.ensures.len in
    omega arith in
    let is : get_or order k 0 ≡ c.get.result.now =
    get_or_from_slice_get order k c.get.result.now 0 c.get.ensures in
    c.in_ok-push.ensures.items
    ∙ ap (λ (xs : List ℕ). xs ++ c.get.result.now ∷ []) c.loop-k.invariant
    ∙ ap (λ n. take k order ++ n ∷ []) (sym is)
    ∙ sym (take_more order k 0 low)

pub loop-k-init : goal.loop-k-init
loop-k-init c = c.new-list.ensures.items

pub get-requires : goal.get-requires
get-requires c = subst (λ (n : ℕ). c.loop-k.k < n) c.len-k-end.ensures.len c.loop-k-test.true

-- all items are listed
all_here : (c : After-loop-k) → c.loop-k.list.items ≡ c.args.order.now
all_here c =
    let order = c.args.order.now in
    let whole : length order ≤ c.loop-k.k =
    subst (λ (n : ℕ). n ≤ c.loop-k.k) c.len-k-end.ensures.len c.loop-k-test.false in
    c.loop-k.invariant ∙ take_all c.loop-k.k order whole

long_here : (c : After-loop-k) → c.loop-k.list.len ≡ length c.args.order.now
long_here c = c.loop-k.list.ok.0 ∙ ap (λ (xs : List ℕ). length xs) (all_here c)

pub remove-item-requires : goal.remove-item-requires
remove-item-requires c =
    subst (λ (n : ℕ). c.args.i < n)
    (sym (long_here (goal.at.remove-item-requires c).After-loop-k)) c.requires.i

place_low : (j less long items : ℕ) → j < items → less + 1 ≡ long → long ≡ items → j ≤ less
place_low j less long items low one_less all = omega arith

pub insert-requires : goal.insert-requires
insert-requires c =
    place_low c.args.j c.remove-item.new.self.len c.loop-k.list.len
    (length c.args.order.now) c.requires.j c.remove-item.ensures.len
    (long_here (goal.at.insert-requires c).After-loop-k)

-- the item is moved
made_here : (c : After-deref) → c.loop-k.list.items ≡ c.args.order.now
    → c.deref.result.now ≡ moved c.args.order.now c.args.i c.args.j
made_here c all =
    let order = c.args.order.now in
    let i = c.args.i in
    let rest : c.remove-item.new.self.items ≡ remove order i =
    c.remove-item.ensures.items ∙ ap (λ (xs : List ℕ). remove xs i) all in
    let item : c.remove-item.result ≡ slice_index order i =
    c.remove-item.ensures.value ∙ ap (λ (xs : List ℕ). get_or xs i c.remove-item.result) all
    ∙ get_or_default order i c.remove-item.result 0 c.requires.i in
    c.deref.ensures.value ∙ c.in_ok-insert.ensures.items
    ∙ ap (λ (xs : List ℕ). insert xs c.args.j c.remove-item.result) rest
    ∙ ap (λ (x : ℕ). insert (remove order i) c.args.j x) item

pub returns : goal.returns
returns c =
    let some = rw c.in-Some.is at c.in_ok-other.ensures.some in
    some
    ∙ made_here (goal.at.returns c).After-deref (all_here (goal.at.returns c).After-loop-k)

pub unreachable-requires : goal.unreachable-requires
unreachable-requires c =
    let order = c.args.order.now in
    let none = rw c.in-None.is at c.in_ok-other.ensures.none in
    none (subst IsPermutation (sym (made_here (goal.at.unreachable-requires c).After-deref
    (all_here (goal.at.unreachable-requires c).After-loop-k)))
    (moved_permutation order c.args.i c.args.j c.requires.i c.requires.j
    c.len-k-end.ensures.permutation))
