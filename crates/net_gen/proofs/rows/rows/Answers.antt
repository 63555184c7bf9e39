use Rattle.std.proofs.Common.{◌≡◌, ℕ, List, [], ◌∷◌, ◌++◌, ap, ◌∙◌}
use Rattle.net_reader.specs.declared.raw.RawRow.{RawRow}
use Rattle.polis_base.specs.Draws.{next, after, draw}
use Rattle.net_gen.specs.Networks.{last_row, tick_rows, value_rows, rows}
use Rattle.polis_base.proofs.DrawsAfter.{after_more, after_one}
use Rattle.net_gen.proofs.rows.rows.Goals as goal

pub returns-clause-rows : goal.returns-clause-rows
unfolding rows
returns-clause-rows c =
    let i = c.args.i in
    let j = c.args.j in
    let x = c.args.draws.now.x in
    let ticks : List RawRow = tick_rows i j x in
    let ticks_are : c.push_tick_rows.new.rows ≡ ticks =
    c.in_ok-push_tick_rows.ensures.rows
    ∙ ap (λ (l : List RawRow). l ++ ticks) c.new-rows.ensures in
    let moved = c.in_ok-push_tick_rows.ensures.moves in
    let both_are : c.push_value_rows.new.rows ≡ ticks ++ value_rows i j (after x 16) =
    c.in_ok-push_value_rows.ensures.rows
    ∙ ap (λ (l : List RawRow). l ++ value_rows i j c.push_tick_rows.new.draws.x) ticks_are
    ∙ ap (λ (s : ℕ). ticks ++ value_rows i j s) moved in
    let then : c.push_value_rows.new.draws.x ≡ after x 23 =
    c.in_ok-push_value_rows.ensures.moves ∙ ap (λ (s : ℕ). after s 7) moved
    ∙ after_more x 16 7 in
    let last : c.in_ok-last_row.field-0 ≡ last_row i (draw (after x 23) 8) =
    c.in_ok-last_row.ensures
    ∙ ap (last_row i) (c.draw_value-a.ensures.answer ∙ ap (λ (s : ℕ). draw s 8) then) in
    c.in_ok-push.ensures.ok
    ∙ ap (λ (l : List RawRow). l ++ c.in_ok-last_row.field-0 ∷ []) both_are
    ∙ ap (λ (r : RawRow). (ticks ++ value_rows i j (after x 16)) ++ r ∷ []) last

pub returns-clause-moves : goal.returns-clause-moves
returns-clause-moves c =
    let x = c.args.draws.now.x in
    let moved = c.in_ok-push_tick_rows.ensures.moves in
    let then : c.push_value_rows.new.draws.x ≡ after x 23 =
    c.in_ok-push_value_rows.ensures.moves ∙ ap (λ (s : ℕ). after s 7) moved
    ∙ after_more x 16 7 in
    c.draw_value-a.ensures.moves ∙ ap next then ∙ after_one x 23
