use Rattle.std.proofs.Common.{◌≡◌, ℕ, ◌+◌, ◌*◌, List, [], ◌∷◌, ◌++◌, map, sym, ap, ◌∙◌, append_assoc, arith}
use Rattle.std.proofs.lemmas.List.{append-nil}
use Rattle.polis_base.specs.Lists.{upto}
use Rattle.net_reader.specs.declared.raw.RawRow.{RawRow}
use Rattle.polis_base.specs.Draws.{next, after, draw}
use Rattle.net_gen.specs.Networks.{tick_row, tick_row_at, tick_rows}
use Rattle.polis_base.proofs.DrawsAfter.{after_none, after_one}
use Rattle.net_gen.proofs.rows.push_tick_rows.Goals as goal
use Rattle.polis_base.proofs.UptoPlaces.{map_upto}

pub loop-v-preserved : goal.loop-v-preserved
loop-v-preserved c =
    let i = c.args.i in
    let j = c.args.j in
    let v = c.loop-v.v in
    let x = c.args.draws.now.x in
    let f : ℕ → RawRow = tick_row_at i j x in
    let before : List RawRow = c.args.rows.now in
    let first : c.draw_value-a.new.draws.x ≡ after x (2 * v + 1) =
    c.draw_value-a.ensures.moves ∙ ap next c.loop-v.invariant.moved ∙ after_one x (2 * v) in
    let second : c.draw_value-b.new.draws.x ≡ after x (2 * v + 1 + 1) =
    c.draw_value-b.ensures.moves ∙ ap next first ∙ after_one x (2 * v + 1) in
    let a : c.draw_value-a.result ≡ draw (after x (2 * v)) 8 =
    c.draw_value-a.ensures.answer ∙ ap (λ (s : ℕ). draw s 8) c.loop-v.invariant.moved in
    let b : c.draw_value-b.result ≡ draw (after x (2 * v + 1)) 8 =
    c.draw_value-b.ensures.answer ∙ ap (λ (s : ℕ). draw s 8) first in
    let row : c.in_ok-tick_row.field-0 ≡ f v =
    c.in_ok-tick_row.ensures
    ∙ ap (λ (k : ℕ). tick_row i j v k c.draw_value-b.result) a
    ∙ ap (λ (k : ℕ). tick_row i j v (draw (after x (2 * v)) 8) k) b in
    record {
      made =
          c.in_ok-push.ensures.ok
          ∙ ap (λ (l : List RawRow). l ++ c.in_ok-tick_row.field-0 ∷ []) c.loop-v.invariant.made
          ∙ append_assoc before (map f (upto v)) (c.in_ok-tick_row.field-0 ∷ [])
          ∙ ap (λ (r : RawRow). before ++ (map f (upto v) ++ r ∷ [])) row
          ∙ ap (λ (l : List RawRow). before ++ l) (sym (map_upto f v));
      moved = second ∙ ap (after x) (let e : 2 * v + 1 + 1 ≡ 2 * (v + 1) = omega arith in e);
    }

pub loop-v-init : goal.loop-v-init
loop-v-init c = record {
  made = sym (append-nil c.args.rows.now);
  moved = sym (after_none c.args.draws.now.x);
}

pub returns-clause-rows : goal.returns-clause-rows
unfolding tick_rows
returns-clause-rows c =
    let f : ℕ → RawRow = tick_row_at c.args.i c.args.j c.args.draws.now.x in
    let all : c.loop-v.v ≡ 8 =
    omega (arith, c.loop-v.auto.v-end, c.loop-v-test.false) in
    c.loop-v.invariant.made ∙ ap (λ (n : ℕ). c.args.rows.now ++ map f (upto n)) all

pub returns-clause-moves : goal.returns-clause-moves
returns-clause-moves c =
    let all : 2 * c.loop-v.v ≡ 16 = omega (arith, c.loop-v.auto.v-end, c.loop-v-test.false) in
    c.loop-v.invariant.moved ∙ ap (after c.args.draws.now.x) all
