-- Lists whose places have pairs.
use Rattle.std.proofs.Common.{◌≡◌, ◌∙◌, ◌≤◌, ℕ, List, length, sym, subst, arith}
use Rattle.polis_base.specs.declared.limits.TheConstants.{SIFTED_SNAPSHOTS_MAX}
use Rattle.order_sift.specs.inner.Pairs.{AreBelow, ArePairs, HasRoom}

own_pairs : (n : ℕ) (one other seen : List ℕ) → length one ≡ n → AreBelow n one
    → length other ≡ n → AreBelow 33 other → HasRoom n seen → n ≤ SIFTED_SNAPSHOTS_MAX
    → ArePairs one other seen
own_pairs n one other seen long below other_long other_below room few = record {
  room = subst (λ (k : ℕ). HasRoom k seen) (sym long) room;
  few = subst (λ (k : ℕ). k ≤ SIFTED_SNAPSHOTS_MAX) (sym long) few;
  long = other_long ∙ sym long;
  one_below = subst (λ (k : ℕ). AreBelow k one) (sym long) below;
  other_below = λ i low. let h = other_below i low in omega arith;
}

-- the same for lists that are read
pub are_pairs : (n : ℕ) (one own other kept seen : List ℕ) → one ≡ own → other ≡ kept
    → length own ≡ n → AreBelow n own → length kept ≡ n → AreBelow 33 kept → HasRoom n seen
    → n ≤ SIFTED_SNAPSHOTS_MAX → ArePairs one other seen
are_pairs n one own other kept seen one_is other_is long below kept_long kept_below room few =
    subst (λ (xs : List ℕ). ArePairs xs other seen) (sym one_is)
    (subst (λ (xs : List ℕ). ArePairs own xs seen) (sym other_is)
    (own_pairs n own kept seen long below kept_long kept_below room few))
