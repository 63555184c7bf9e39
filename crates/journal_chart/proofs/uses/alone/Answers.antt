use Rattle.std.proofs.Common.{◌≡◌, ℕ, suc, ◌+◌, List, ◌++◌, drop, length, replicate, slice_set, ap, sym, ◌∙◌, arith}
use Rattle.std.proofs.lemmas.Option.{get_or_from_slice_get}
use Rattle.journal_chart.proofs.InputsAlone.{zero_next}
use Rattle.journal_chart.proofs.uses.alone.Goals as goal

pub loop-k-preserved : goal.loop-k-preserved
loop-k-preserved c =
    let s = c.args.s.now.codes in
    let k = c.loop-k.k in
    let low = c.requires.many in
    let end = c.len-k-end.ensures in
    let test = c.loop-k-test.true in
    let next : suc k ≡ k + 1 = omega arith in
    c.set.ensures
    ∙ ap (λ (l : List ℕ). slice_set l k 0) c.loop-k.invariant
    ∙ zero_next k s (omega arith)
    ∙ ap (λ (n : ℕ). replicate n 0 ++ drop n s) next

pub returns : goal.returns
returns c =
    let s = c.args.s.now.codes in
    let i = c.args.i in
    let end = c.len-k-end.ensures in
    let test = c.loop-k-test.false in
    let most = c.loop-k.auto.k-end in
    let all : c.loop-k.k ≡ length c.args.machine.now.inputs = omega arith in
    c.set-2.ensures
    ∙ ap (λ (l : List ℕ). slice_set l i c.get.result.now) (c.loop-k.invariant
    ∙ ap (λ (n : ℕ). replicate n 0 ++ drop n s) all)
    ∙ ap (λ (code : ℕ). slice_set (replicate (length c.args.machine.now.inputs) 0
    ++ drop (length c.args.machine.now.inputs) s) i code)
    (sym (get_or_from_slice_get s i c.get.result.now 0 c.get.ensures))
