use Rattle.std.proofs.Common.{◌≡◌, ℕ, suc, ◌-◌, List, length, slice_get, Some, ap, sym, ◌∙◌, subst, refl, arith}
use Rattle.std.proofs.lemmas.List.{length_push}
use Rattle.table_use.specs.Memos.{StandsMet}
use Rattle.table_use.specs.declared.memo.Met.{Met}
use Rattle.table_use.proofs.Remembered.{number_there, one_met, stands_last}
use Rattle.table_use.proofs.memo.meet.Goals as goal

pub get-place-requires : goal.get-place-requires
get-place-requires c =
    number_there c.args.machine.now c.args.results.now c.args.memo.now c.args.s.now.codes
    c.number_of-number.result c.requires.memo c.requires.snapshot c.number_of-number.ensures

pub returns-then-place-gt0-clause-place : goal.returns-then-place-gt0-clause-place
returns-then-place-gt0-clause-place c =
    let some = c.if-place-gt0.true in
    let place : c.get-place.result.now ≡ suc (c.get-place.result.now - 1) = omega arith in
    c.requires.memo.each c.args.s.now.codes (c.get-place.result.now - 1) c.requires.snapshot
    (ap (slice_get c.args.memo.now.places) (sym c.number_of-number.ensures) ∙ c.get-place.ensures
    ∙ ap (λ (n : ℕ). Some n) place)

pub set-requires : goal.set-requires
set-requires c =
    number_there c.args.machine.now c.args.results.now c.args.memo.now c.args.s.now.codes
    c.number_of-number.result c.requires.memo c.requires.snapshot c.number_of-number.ensures

pub returns-clause-memo : goal.returns-clause-memo
returns-clause-memo c =
    one_met c.args.machine.now c.args.results.now c.args.memo.now
    (record { keys = c.args.memo.now.keys; places = c.set.new.self; known = c.push.new.self })
    c.args.s.now.codes c.number_of-number.result c.len-count.result c.in_ok-met.met c.requires.memo
    c.requires.snapshot c.number_of-number.ensures c.in_ok-met.ensures c.in_ok-push.ensures.ok
    c.len-count.ensures c.set.ensures refl

pub returns-clause-place : goal.returns-clause-place
returns-clause-place c =
    let m = c.args.machine.now in
    let s = c.args.s.now.codes in
    let known = c.args.memo.now.known in
    let long = length_push known c.in_ok-met.met in
    let more = ap (λ (l : List Met). length l) c.in_ok-push.ensures.ok in
    let count = c.len-count.ensures in
    subst (λ (l : List Met). StandsMet m s l (c.len-count.result - 1))
    (sym c.in_ok-push.ensures.ok)
    (stands_last m s known c.in_ok-met.met (c.len-count.result - 1) c.in_ok-met.ensures
    (omega arith))
