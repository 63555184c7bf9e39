use Rattle.std.proofs.Common.{◌≡◌, ℕ, ◌+◌, List, length, slice_get, Some, ap, ◌∙◌, subst, sym, arith}
use Rattle.std.proofs.lemmas.List.{length_push}
use Rattle.outcome_table.specs.declared.table.Results.{Results}
use Rattle.transition_table.specs.declared.machine.Machine.{Machine}
use Rattle.table_use.specs.Memos.{IsMemo}
use Rattle.table_use.specs.declared.memo.Memo.{Memo}
use Rattle.table_use.proofs.Pushed.{each_pushed}
use Rattle.table_use.proofs.cover.memos_of.Goals as goal

pub get-requires-in-loop-m : goal.get-requires-in-loop-m
get-requires-in-loop-m c =
    let end = c.len-m-end.ensures in
    let long = c.requires.long in
    omega arith

pub nothing_met-requires : goal.nothing_met-requires
nothing_met-requires c =
    c.requires.each c.loop-m.m c.get.result.now c.get-in-loop-m.result.now c.get.ensures
    c.get-in-loop-m.ensures

same_results : (a b : Results) → Some a ≡ Some b → a ≡ b
same_results a b h = cc

pub loop-m-preserved : goal.loop-m-preserved
loop-m-preserved c =
    let pushed = c.in_ok-push.ensures.items in
    let memos = c.loop-m.memos.items in
    let tables = c.args.tables.now in
    let new : Memo = c.in_ok-nothing_met.field-0 in
    let own : Results = c.get-in-loop-m.result.now in
    record {
      long = ap (λ (l : List Memo). length l) pushed ∙ length_push memos new
          ∙ ap (λ (n : ℕ). n + 1) c.loop-m.invariant.long;
      each = λ k m memo at there.
          each_pushed (λ (j : ℕ) (x : Machine) (y : Memo). (r : Results)
          → slice_get tables j ≡ Some r → IsMemo x r y) c.args.net.now.machines memos c.loop-m.m
          c.get.result.now new c.loop-m.invariant.long c.get.ensures
          (λ r is. subst (λ (q : Results). IsMemo c.get.result.now q new)
          (same_results own r (sym c.get-in-loop-m.ensures ∙ is)) c.in_ok-nothing_met.ensures)
          c.loop-m.invariant.each k m memo at
          (subst (λ (l : List Memo). slice_get l k ≡ Some memo) pushed there);
    }
