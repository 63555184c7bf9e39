-- Lines and columns, one byte on.
use Rattle.std.proofs.Common.{◌≡◌, ℕ, suc, ◌+◌, ◌-◌, ◌<◌, true, false, ◌==◌, List, length, get_or, ap, ◌∙◌, arith}
use Rattle.std.proofs.lemmas.Bool.{not-true, not-false}
use Rattle.std.proofs.lemmas.List.Sums.{count_by_more_yes, count_by_more_no, suffix_len-take_yes, suffix_len-take_no}
use Rattle.fault_text.specs.Positions.{is_inner, ends_before, passed}

pub ends_inner : (text : List ℕ) (n : ℕ) → n < length text → is_inner (get_or text n 0) ≡ true
    → ends_before text (suc n) ≡ ends_before text n
ends_inner text n small e =
    let f : suc n ≡ n + 1 = omega arith in
    ap (λ (k : ℕ). ends_before text k) f
    ∙ count_by_more_no (λ b. b == 10) text n 0 small (not-true (get_or text n 0 == 10) e)

pub ends_end : (text : List ℕ) (n : ℕ) → n < length text → is_inner (get_or text n 0) ≡ false
    → ends_before text (suc n) ≡ ends_before text n + 1
ends_end text n small e =
    let f : suc n ≡ n + 1 = omega arith in
    ap (λ (k : ℕ). ends_before text k) f
    ∙ count_by_more_yes (λ b. b == 10) text n 0 small (not-false (get_or text n 0 == 10) e)

pub passed_inner : (text : List ℕ) (n : ℕ) → n < length text → is_inner (get_or text n 0) ≡ true
    → passed text (suc n) ≡ 1 + passed text n
passed_inner text n small e =
    let g : suc n - 1 ≡ n = omega arith in
    suffix_len-take_yes is_inner text (suc n) 0 (omega arith) (omega arith)
    (ap (λ (k : ℕ). is_inner (get_or text k 0)) g ∙ e)
    ∙ ap (λ (k : ℕ). 1 + passed text k) g

pub passed_end : (text : List ℕ) (n : ℕ) → n < length text → is_inner (get_or text n 0) ≡ false
    → passed text (suc n) ≡ 0
passed_end text n small e =
    let g : suc n - 1 ≡ n = omega arith in
    suffix_len-take_no is_inner text (suc n) 0 (omega arith) (omega arith)
    (ap (λ (k : ℕ). is_inner (get_or text k 0)) g ∙ e)
