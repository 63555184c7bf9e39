use Rattle.std.proofs.Common.{◌≡◌, ◌∙◌, ◌<◌, ◌≤◌, ℕ, length, slice_index, refl, sym, ap, subst, arith}
use Rattle.std.proofs.lemmas.Option.{get_or_from_slice_get}
use Rattle.sgraph.proofs.MapItems.{is_map, sent_more}
use Rattle.sgraph.proofs.places.sent.Goals.{In-loop-j}
use Rattle.sgraph.proofs.places.sent.Goals as goal
use Rattle.polis_base.proofs.Numbers.{not_above_itself}

low_here : (c : In-loop-j) → c.loop-j.j < length c.args.places
low_here c = subst (λ (n : ℕ). c.loop-j.j < n) c.len-j-end.ensures c.loop-j-test.true

listed_here : (c : In-loop-j) → c.loop-j.j < length c.loop-j.list
listed_here c = subst (λ (n : ℕ). c.loop-j.j < n) (sym c.loop-j.invariant.long) (low_here c)

pub loop-j-init : goal.loop-j-init
loop-j-init c = record {
  long = refl;
  sent = λ i low. absurd (omega arith);
  rest = λ i high. refl;
}

pub get-requires : goal.get-requires
get-requires c = listed_here (goal.at.get-requires c).In-loop-j

pub set-requires : goal.set-requires
set-requires c = listed_here (goal.at.set-requires c).In-loop-j

pub get-place-requires : goal.get-place-requires
get-place-requires c =
    let j = c.loop-j.j in
    subst (λ (k : ℕ). k < length c.args.table.now)
    (sym (c.loop-j.invariant.rest j (not_above_itself j))
    ∙ get_or_from_slice_get c.loop-j.list j c.get.result.now 0 c.get.ensures)
    (c.requires j (low_here (goal.at.get-place-requires c).In-loop-j))

pub loop-j-preserved : goal.loop-j-preserved
loop-j-preserved c =
    let j = c.loop-j.j in
    let table = c.args.table.now in
    sent_more table c.args.places c.loop-j.list c.set.new.self j c.get-place.result.now
    c.loop-j.invariant (listed_here (goal.at.loop-j-preserved c).In-loop-j) c.set.ensures
    (sym (get_or_from_slice_get table c.get.result.now c.get-place.result.now 0
    c.get-place.ensures)
    ∙ ap (slice_index table)
    (sym (get_or_from_slice_get c.loop-j.list j c.get.result.now 0 c.get.ensures)))

all_done : (j end long : ℕ) → end ≡ long → end ≤ j → (i : ℕ) → i < long → i < j
all_done j end long is whole i low = omega arith

pub returns : goal.returns
returns c =
    is_map (slice_index c.args.table.now) c.args.places c.loop-j.list c.loop-j.invariant.long
    (λ i low. c.loop-j.invariant.sent i
    (all_done c.loop-j.j c.len-j-end.result (length c.args.places) c.len-j-end.ensures
    c.loop-j-test.false i low))
