-- What the results of a machine that passes a value on and counts depend on.
use Rattle.std.proofs.Common.{◌≡◌, ◌≢◌, ◌<◌, ℕ, zero, suc, true, false, nat_lt, List, [], ◌∷◌, slice_index, arith, refl, sym, ap, ◌∙◌, inl, inr}
use Rattle.std.proofs.lemmas.Bool.{ltb-true}
use Rattle.domains.specs.Tables.{fits}
use Rattle.transition_table.specs.declared.snapshot.Outcome.{Outcome}
use Rattle.transition_table.specs.Orders.{codes_of, Char, Support}
use Rattle.transition_table.specs.samples.Echo.{echo_machine}
use Rattle.transition_table.specs.Transitions.{reading, is_enabled, Transition}
use Rattle.transition_table.specs.Worked.{firing}
use Rattle.polis_base.proofs.Bools.{and_first}

pub echo_char : Char echo_machine (6 ∷ 6 ∷ 1 ∷ 2 ∷ 6 ∷ [])
echo_char = (6 ∷ 6 ∷ [], firing (2 ∷ []) (6 ∷ []), refl, inl (0, refl, refl), refl)

-- the code of s depends on s, since it goes further from there
pub echo_counts : Support echo_machine 1 1
echo_counts = record {
  one = 6 ∷ 6 ∷ [];
  other = 6 ∷ 7 ∷ [];
  first = firing (2 ∷ []) (6 ∷ []);
  second = firing (3 ∷ []) (6 ∷ []);
  fits_one = refl;
  fits_other = refl;
  alone = alone;
  gives_first = inl (0, refl, refl);
  gives_second = inl (0, refl, refl);
  differ = λ e. omega arith;
}
  where
    alone : (w : ℕ) → w ≢ 1 → slice_index (6 ∷ 6 ∷ []) w ≡ slice_index (6 ∷ 7 ∷ []) w
    alone zero apart = refl
    alone (suc zero) apart = absurd (apart refl)
    alone (suc (suc w)) apart = refl

-- the code of w is that of v, whatever s is
passes_on : (codes : List ℕ) (o : Outcome) → fits (9 ∷ 8 ∷ []) codes ≡ true
    → Transition echo_machine (reading codes) o → slice_index (codes_of o) 2 ≡ slice_index codes 0
passes_on codes o fit (inl (zero, enabled, is)) =
    ap (λ (x : Outcome). slice_index (codes_of x) 2) is
passes_on codes o fit (inl (suc r, enabled, is)) = cc
passes_on [] o fit (inr (none, is)) = cc
passes_on (x ∷ codes) o fit (inr (none, is)) =
    ap (λ (b : Outcome). slice_index (codes_of b) 2) is
    ∙ absent x (ltb-true x 9 (and_first (nat_lt x 9) _ fit)) (none 0)
  where
    absent : (x : ℕ) → x < 9 → is_enabled echo_machine 0 (reading (x ∷ codes)) ≡ false → 0 ≡ x
    absent zero below idle = refl
    absent (suc zero) below idle = cc
    absent (suc (suc zero)) below idle = cc
    absent (suc (suc (suc zero))) below idle = cc
    absent (suc (suc (suc (suc zero)))) below idle = cc
    absent (suc (suc (suc (suc (suc zero))))) below idle = cc
    absent (suc (suc (suc (suc (suc (suc zero)))))) below idle = cc
    absent (suc (suc (suc (suc (suc (suc (suc zero))))))) below idle = cc
    absent (suc (suc (suc (suc (suc (suc (suc (suc zero)))))))) below idle = cc
    absent (suc (suc (suc (suc (suc (suc (suc (suc (suc x))))))))) below idle = absurd (omega arith)

pub echo_passes_on : Support echo_machine 2 1 → ⊥
echo_passes_on s =
    let same = s.alone 0 (λ (e : 0 ≡ 1). omega (arith, e)) in
    s.differ (passes_on s.one s.first s.fits_one s.gives_first ∙ same
    ∙ sym (passes_on s.other s.second s.fits_other s.gives_second))
