-- Look-ups by lists of numbers.
use Rattle.std.proofs.Common.{◌≡◌, ℕ, List, Some, Bool, true, false, cond, Vec, sym, subst, ◌∙◌, ⊎_elim}
use Rattle.std.specs.HashMap.{Updates}
use Rattle.std.specs.Cmp.Lexicographic.{bytes_decides, nat_list_eq_equiv}
use Rattle.std.specs.Map.{KeepsOthers, IsKeyTest, AreApart, lookup}
use Rattle.std.specs.Str.{bytes_eq}
use Rattle.std.specs.declared.alloc.Global.{Global}
use Rattle.std.proofs.lemmas.Bool.{cases_Bool, cond-true, cond-false, false_from_ne_true, false≢true}
use Rattle.polis_base.specs.Index.{Keyed, found}

-- two lists of numbers that pass the test are the same
pub bytes_same : (xs ys : List ℕ) → bytes_eq xs ys ≡ true → xs ≡ ys
bytes_same xs ys h = (bytes_decides xs ys).0 h

module _ {K X : Type 0} (eq : K → K → Bool) (test : K → Bool) where
  other_entries : (old new : List (K × X)) → KeepsOthers eq test old new → (other : K → Bool)
      → IsKeyTest eq other → AreApart test other → lookup other new ≡ lookup other old
  unfolding KeepsOthers
  other_entries old new h = h

-- a list that passes the test against one of two different lists doesn't pass it against the other
apart_keys : (bs cs ks : List ℕ) → bytes_eq bs cs ≡ false → bytes_eq bs ks ≡ true
    → bytes_eq cs ks ≡ false
apart_keys bs cs ks n y =
    false_from_ne_true (bytes_eq cs ks) (λ e.
    let same : bytes_eq bs cs ≡ true =
    subst (λ (l : List ℕ). bytes_eq bs l ≡ true) (sym (bytes_same cs ks e)) y in
    false≢true (sym n ∙ same))

pub found_after : (m n : Keyed) (key : Vec ℕ Global) (w : ℕ)
    → Updates (λ x y. bytes_eq x.items y.items) m n key (Some w) → (q : List ℕ)
    → found n q ≡ cond (bytes_eq key.items q) (Some w) (found m q)
found_after m n key w h q =
    ⊎_elim
    (λ y. subst (λ (l : List ℕ). found n l ≡ Some w) (bytes_same key.items q y) h.1
    ∙ sym (cond-true (bytes_eq key.items q) (Some w) (found m q) y))
    (λ e. other_entries _ _ _ _ h.3 _ (λ x y. nat_list_eq_equiv.congr q x.items y.items)
    (λ k. apart_keys key.items q k.items e)
    ∙ sym (cond-false (bytes_eq key.items q) (Some w) (found m q) e))
    (cases_Bool (bytes_eq key.items q))
