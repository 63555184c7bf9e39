use Rattle.std.proofs.Common.{◌≡◌, ℕ, ◌+◌, ◌<◌, List, take, sym, ap, ◌∙◌, subst, arith}
use Rattle.std.proofs.lemmas.List.{length-take-le, take_all}
use Rattle.domains.specs.AllCodes.{all_codes}
use Rattle.domains.specs.Tables.{product, rank}
use Rattle.domains.proofs.AllCodes.{counts_all}
use Rattle.table_use.specs.inner.Walking.{IsWalked}
use Rattle.table_use.proofs.Walked.{few_walked, next_prefix, walked_on, walked_stays}
use Rattle.table_use.proofs.walk.walk.Goals.{then-sees_at+in_ok-visit, else-sees_at}
use Rattle.table_use.proofs.walk.walk.Goals as goal

pub visit-requires-clause-few : goal.visit-requires-clause-few
visit-requires-clause-few c =
    let m = c.args.lookup.now.machine.now in
    let n = c.loop-n.n in
    let all = counts_all m.vars in
    let end = c.lists_from-n-end.ensures in
    let t = c.loop-n-test.true in
    few_walked m n (take n (all_codes m.vars)) c.loop-n.walked
    (length-take-le n (all_codes m.vars) (omega arith)) c.loop-n.invariant.walked

pub loop-n-preserved : goal.loop-n-preserved
loop-n-preserved c =
    let m = c.args.lookup.now.machine.now in
    let s = c.loop-n.codes in
    let n = c.loop-n.n in
    let low : n < product m.vars = let end = c.lists_from-n-end.ensures in
    let t = c.loop-n-test.true in omega arith in
    let here = c.loop-n.invariant.rank low in
    let fit = c.loop-n.invariant.fits in
    let more = next_prefix m.vars s n fit here in
    let sees = c.sees_at.ensures s fit here in
    let next : n + 1 < product m.vars → rank m.vars c.next_codes.new.codes ≡ n + 1 =
    λ later. c.next_codes.ensures.next (c.next_codes.ensures.last.1 (omega arith))
    ∙ ap (λ (k : ℕ). k + 1) here in
    elim c.if-sees_at.branch [
      | then-sees_at+in_ok-visit w ↦ record {
        walked = subst (IsWalked m (take (n + 1) (all_codes m.vars))) (sym w.walked-is)
            (subst (λ (l : List (List ℕ)). IsWalked m l w.visit.new.walked) (sym more)
            (walked_on m (take n (all_codes m.vars)) s c.loop-n.walked w.visit.new.walked
            c.loop-n.invariant.walked (sym sees ∙ w.if-sees_at.true) w.in_ok-visit.ensures));
        fits = c.next_codes.ensures.fits;
        rank = next;
      }
      | else-sees_at w ↦ record {
        walked = subst (IsWalked m (take (n + 1) (all_codes m.vars))) (sym w.walked-is)
            (subst (λ (l : List (List ℕ)). IsWalked m l c.loop-n.walked) (sym more)
            (walked_stays m (take n (all_codes m.vars)) s c.loop-n.walked
            c.loop-n.invariant.walked (sym sees ∙ w.if-sees_at.false)));
        fits = c.next_codes.ensures.fits;
        rank = next;
      }
    ]

pub returns : goal.returns
returns c =
    let m = c.args.lookup.now.machine.now in
    let all = counts_all m.vars in
    let end = c.lists_from-n-end.ensures in
    let off = c.loop-n-test.false in
    subst (λ (l : List (List ℕ)). IsWalked m l c.loop-n.walked)
    (take_all c.loop-n.n (all_codes m.vars) (omega arith)) c.loop-n.invariant.walked
