use Rattle.std.proofs.Common.{◌≡◌, ℕ, ◌+◌, List, [], ◌∷◌, ◌++◌, map, sym, ap, ◌∙◌, append_assoc, arith}
use Rattle.std.proofs.lemmas.List.{append-nil}
use Rattle.polis_base.specs.Lists.{upto}
use Rattle.net_reader.specs.declared.raw.RawRow.{RawRow}
use Rattle.polis_base.specs.Draws.{next, after, draw}
use Rattle.net_gen.specs.Networks.{value_row, value_row_at, value_rows}
use Rattle.polis_base.proofs.DrawsAfter.{after_none, after_one}
use Rattle.net_gen.proofs.rows.push_value_rows.Goals as goal
use Rattle.polis_base.proofs.UptoPlaces.{map_upto}

pub loop-k-init : goal.loop-k-init
loop-k-init c = record {
  made = sym (append-nil c.args.rows.now);
  moved = sym (after_none c.args.draws.now.x);
}

pub loop-k-preserved : goal.loop-k-preserved
loop-k-preserved c =
    let i = c.args.i in
    let j = c.args.j in
    let k = c.loop-k.k in
    let x = c.args.draws.now.x in
    let f : ℕ → RawRow = value_row_at i j x in
    let before : List RawRow = c.args.rows.now in
    let a : c.draw_value-a.result ≡ draw (after x k) 8 =
    c.draw_value-a.ensures.answer ∙ ap (λ (s : ℕ). draw s 8) c.loop-k.invariant.moved in
    let row : c.in_ok-value_row.field-0 ≡ f k =
    c.in_ok-value_row.ensures ∙ ap (λ (b : ℕ). value_row i j (k + 1) b) a in
    record {
      made =
          c.in_ok-push.ensures.ok
          ∙ ap (λ (l : List RawRow). l ++ c.in_ok-value_row.field-0 ∷ []) c.loop-k.invariant.made
          ∙ append_assoc before (map f (upto k)) (c.in_ok-value_row.field-0 ∷ [])
          ∙ ap (λ (r : RawRow). before ++ (map f (upto k) ++ r ∷ [])) row
          ∙ ap (λ (l : List RawRow). before ++ l) (sym (map_upto f k));
      moved = c.draw_value-a.ensures.moves ∙ ap next c.loop-k.invariant.moved ∙ after_one x k;
    }

pub returns-clause-rows : goal.returns-clause-rows
unfolding value_rows
returns-clause-rows c =
    let f : ℕ → RawRow = value_row_at c.args.i c.args.j c.args.draws.now.x in
    let all : c.loop-k.k ≡ 7 =
    omega (arith, c.loop-k.auto.k-end, c.loop-k-test.false) in
    c.loop-k.invariant.made ∙ ap (λ (n : ℕ). c.args.rows.now ++ map f (upto n)) all

pub returns-clause-moves : goal.returns-clause-moves
returns-clause-moves c =
    let all : c.loop-k.k ≡ 7 = omega (arith, c.loop-k.auto.k-end, c.loop-k-test.false) in
    c.loop-k.invariant.moved ∙ ap (after c.args.draws.now.x) all
