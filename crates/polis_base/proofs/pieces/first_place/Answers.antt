use Rattle.std.proofs.Common.{◌≡◌, ◌-◌, ◌∙◌, ap, arith, length, drop, subst, sym, Some, None, length-drop}
use Rattle.std.proofs.lemmas.List.{get_or-drop}
use Rattle.memchr.specs.Find.{IsFirstByte, Nowhere, Passes, is_byte}
use Rattle.polis_base.proofs.FirstMark.{from_place, nowhere_on}
use Rattle.polis_base.proofs.pieces.first_place.Goals as goal

pub returns-in-Some : goal.returns-in-Some
returns-in-Some c =
    let text = c.args.text.now in
    let mark = c.args.mark in
    let near = c.min-near.result in
    let stop = c.loop-k-test.false in
    let rest = from_place text near (omega arith) in
    let near_free : Nowhere (Passes (is_byte mark) text) 0 near =
    λ j low high. c.loop-k.invariant j low (omega arith)
    in
    let found = subst (λ xs. IsFirstByte (is_byte mark) xs (Some c.in-Some.k)) rest
    c.in-Some.ensures in
    let long : length (drop near text) ≡ length text - near = length-drop near text in
    let before = nowhere_on (is_byte mark) text near c.in-Some.k near_free found.0.before in (
      record { low = omega arith; high = omega (arith, found.0.high); before = before },
      ap (is_byte mark) (sym (get_or-drop near text c.in-Some.k 0)) ∙ found.1,
    )

pub returns-in-None : goal.returns-in-None
returns-in-None c =
    let text = c.args.text.now in
    let mark = c.args.mark in
    let near = c.min-near.result in
    let stop = c.loop-k-test.false in
    let rest = from_place text near (omega arith) in
    let near_free : Nowhere (Passes (is_byte mark) text) 0 near =
    λ j low high. c.loop-k.invariant j low (omega arith)
    in
    let none = subst (λ xs. IsFirstByte (is_byte mark) xs None) rest c.in-None.ensures in
    let long : length (drop near text) ≡ length text - near = length-drop near text in
    let all = nowhere_on (is_byte mark) text near (length (drop near text)) near_free none in
    λ j low high. all j low (omega arith)
