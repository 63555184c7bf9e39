use Rattle.std.proofs.Common.{ℕ, ◌+◌, List, Vec, Global, All, length, ap, sym, subst, ◌∙◌}
use Rattle.std.proofs.lemmas.List.{length_push}
use Rattle.std.proofs.lemmas.List.Elements.{All-push}
use Rattle.table_use.specs.declared.memo.Memo.{Memo}
use Rattle.run_survey.specs.inner.Workers.{Knows}
use Rattle.run_survey.proofs.workers.all_memos.Goals as goal

pub loop-preserved : goal.loop-preserved
loop-preserved c =
    let knows : Vec Memo Global → Type 0 = Knows c.args.net.now c.args.tables.now in
    let made = c.in_ok-push.ensures.items in
    let known = c.in_ok-memos_of.field-0 in
    record {
      all = subst (All knows) (sym {A = List (Vec Memo Global)} made)
          (All-push knows c.loop.all.items known c.loop.invariant.all c.in_ok-memos_of.ensures);
      many = ap length made ∙ length_push c.loop.all.items known
          ∙ ap (λ (n : ℕ). n + 1) c.loop.invariant.many;
    }
