use Rattle.std.proofs.Common.{List, Vec, Global, All, Result, length, ap, sym, subst, ◌∙◌, rules, arith}
use Rattle.std.proofs.lemmas.List.{length_push}
use Rattle.std.proofs.lemmas.List.Elements.{All-push}
use Rattle.std.specs.Vec.Iter.{into_iter_items}
use Rattle.polis_base.specs.declared.NoMemory.{NoMemory}
use Rattle.table_use.specs.declared.memo.Memo.{Memo}
use Rattle.run_survey.specs.declared.workers.Piece.{Piece}
use Rattle.run_survey.specs.inner.Workers.{ComesTo, Knows}
use Rattle.run_survey.proofs.WorkersJoined.{all_told, comes_on, next_follows, next_is, runs_next}
use Rattle.run_survey.proofs.workers.add_pieces.Goals as goal

pub add_piece-requires : goal.add_piece-requires
add_piece-requires c =
    let task = c.requires.0 in
    let runs = c.requires.1 in
    let items = c.into_iter-piece-iterator.ensures.into_iter_gives.0 in
    let start = subst (ComesTo task runs c.args.so_far.now) (sym items) c.requires.2 in
    next_follows task runs c.loop-piece.so_far _ _ c.in-Some.piece c.in_ok-piece.piece
    c.in-Some.ensures.steps.0 c.in_ok-piece.was
    (c.loop-piece.invariant.comes task runs start)

pub loop-piece-preserved : goal.loop-piece-preserved
loop-piece-preserved c =
    let before = c.loop-piece.invariant in
    let steps = c.in-Some.ensures.steps.0 in
    let piece = c.in_ok-piece.piece in
    let ok = c.in_ok-piece.was in
    let made = c.in_ok-add_piece.ensures.memos in
    record {
      comes = λ task runs start.
          comes_on task runs c.loop-piece.so_far _ _ c.in-Some.piece piece
          c.add_piece.new.so_far steps ok (before.comes task runs start)
          c.in_ok-add_piece.ensures.followed;
      knows = λ task runs start known.
          let knows : Vec Memo Global → Type 0 = Knows task.net task.tables in
          subst (All knows) (sym made)
          (All-push knows c.loop-piece.memos.items piece.memos
          (before.knows task runs start known)
          (next_is task runs c.loop-piece.so_far _ _ c.in-Some.piece piece steps ok
          (before.comes task runs start)).knows);
      count = search rules;
      many =
          (let many = before.many in
          let more = (runs_next 0 _ c.in-Some.piece _ steps).1 in
          let longer = ap (λ (l : List (Vec Memo Global)). length l) made
          ∙ length_push c.loop-piece.memos.items piece.memos in
          omega arith);
    }

pub returns-clause-told : goal.returns-clause-told
returns-clause-told c = λ task runs comes.
    let items = c.into_iter-piece-iterator.ensures.into_iter_gives.0 in
    all_told task runs c.loop-piece.so_far (into_iter_items c.loop-piece.piece-iterator)
    (sym c.loop-piece.invariant.count ∙ c.in-None.ensures.steps.0)
    (c.loop-piece.invariant.comes task runs
    (subst (ComesTo task runs c.args.so_far.now) (sym items) comes))

pub returns-clause-knows : goal.returns-clause-knows
returns-clause-knows c = λ task runs comes.
    let items = c.into_iter-piece-iterator.ensures.into_iter_gives.0 in
    c.loop-piece.invariant.knows task runs
    (subst (ComesTo task runs c.args.so_far.now) (sym items) comes)

pub returns-clause-many : goal.returns-clause-many
returns-clause-many c =
    let items = c.into_iter-piece-iterator.ensures.into_iter_gives.0 in
    let all = ap (λ (l : List (Result Piece NoMemory)). length l) items in
    let none = sym c.loop-piece.invariant.count ∙ c.in-None.ensures.steps.0 in
    let many = c.loop-piece.invariant.many in
    omega arith
