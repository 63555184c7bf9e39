-- Outcomes with the same codes are the same.
use Rattle.std.proofs.Common.{◌≡◌, ℕ, Bool, true, false, cond, List, ◌++◌, length, take, drop, slice_index, refl, sym, ap, ◌∙◌, arith}
use Rattle.std.proofs.Math.Seq.{take-append_seam, drop-append_seam}
use Rattle.transition_table.specs.Orders.{codes_of}
use Rattle.transition_table.specs.declared.snapshot.Outcome.{Outcome}

same_fires : (x y : Bool) (go other : ℕ) → go ≡ cond x 1 0 → other ≡ cond y 1 0 → go ≡ other
    → x ≡ y
same_fires true true go other a b same = refl
same_fires true false go other a b same = absurd (omega arith)
same_fires false true go other a b same = absurd (omega arith)
same_fires false false go other a b same = refl

pub by_codes : (x y : Outcome) → length x.next ≡ length y.next → codes_of x ≡ codes_of y → x ≡ y
by_codes x y long same =
    let fires = same_fires x.fires y.fires (cond x.fires 1 0) (cond y.fires 1 0) refl refl
    (ap (λ (xs : List ℕ). slice_index xs 0) same) in
    let rest : x.next ++ x.outs ≡ y.next ++ y.outs = ap (λ (xs : List ℕ). drop 1 xs) same in
    let next : x.next ≡ y.next =
    sym (take-append_seam x.next x.outs)
    ∙ ap (λ (xs : List ℕ). take (length x.next) xs) rest
    ∙ ap (λ n. take n (y.next ++ y.outs)) long
    ∙ take-append_seam y.next y.outs in
    let outs : x.outs ≡ y.outs =
    sym (drop-append_seam x.next x.outs)
    ∙ ap (λ (xs : List ℕ). drop (length x.next) xs) rest
    ∙ ap (λ n. drop n (y.next ++ y.outs)) long
    ∙ drop-append_seam y.next y.outs in
    λ i. record { fires = fires i; next = next i; outs = outs i }
