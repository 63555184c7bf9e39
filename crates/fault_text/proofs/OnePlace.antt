-- Two places of one line and one column are the same.
use Rattle.std.proofs.Common.{◌≡◌, ⊎_elim, ℕ, zero, suc, ◌+◌, ◌-◌, ◌<◌, ◌≤◌, Bool, true, false, List, length, get_or, refl, subst, arith}
use Rattle.std.proofs.lemmas.Bool.{cases_lt}
use Rattle.fault_text.specs.Laws.{OnePlace}
use Rattle.fault_text.specs.Positions.{is_inner, ends_before, passed}
use Rattle.fault_text.proofs.Positions.{ends_inner, ends_end, passed_inner}

-- from p to q the line grows, or the column does
record Grows (text : List ℕ) (p q : ℕ) : Type 0 where
  line : ends_before text p ≤ ends_before text q
  column : ends_before text p ≡ ends_before text q → passed text q + p ≡ passed text p + q

grows_case : (text : List ℕ) (p q : ℕ) (t : Bool) → is_inner (get_or text q 0) ≡ t
    → q < length text → Grows text p q → Grows text p (suc q)
grows_case text p q true e small g =
    let a = ends_inner text q small e in
    let b = passed_inner text q small e in
    let l = g.line in
    record {
      line = omega arith;
      column = λ same. let c = g.column (omega arith) in omega arith;
    }
grows_case text p q false e small g =
    let a = ends_end text q small e in
    let l = g.line in
    record {
      line = omega arith;
      column = λ same. absurd (omega arith);
    }

grows_from : (text : List ℕ) (p q d : ℕ) → q ≡ p + d → q ≤ length text → Grows text p q
grows_from text p q zero is small =
    let f : p ≡ q = omega arith in
    subst (λ (k : ℕ). Grows text p k) f (record { line = omega arith; column = λ same. refl })
grows_from text p q (suc d) is small =
    let f : suc (p + d) ≡ q = omega arith in
    subst (λ (k : ℕ). Grows text p k) f
    (grows_case text p (p + d) (is_inner (get_or text (p + d) 0)) refl (omega arith)
    (grows_from text p (p + d) d refl (omega arith)))

pub one_place : OnePlace
one_place text p q small_p small_q line column =
    ⊎_elim
    (λ (h : p < q).
    let g = grows_from text p q (q - p) (omega arith) small_q in
    let c = g.column (omega arith) in omega arith)
    (λ (h : q ≤ p).
    let g = grows_from text q p (p - q) (omega arith) small_p in
    let c = g.column (omega arith) in omega arith)
    (cases_lt p q)
