use Rattle.std.proofs.Common.{◌≡◌, ◌<◌, ◌≤◌, ℕ, zero, suc, List, length, replicate, slice_get, Some, sym, ap, ◌∙◌, arith}
use Rattle.std.proofs.lemmas.List.{length-replicate}
use Rattle.std.proofs.lemmas.Option.{none-some, same_Some}
use Rattle.domains.specs.Tables.{rank}
use Rattle.table_use.proofs.memo.nothing_met.Goals as goal

-- no place says that a snapshot was met
none_met : (n i k : ℕ) → slice_get (replicate n 0) i ≡ Some (suc k) → ⊥
none_met zero i k at = none-some (suc k) at
none_met (suc n) zero k at = let same = same_Some 0 (suc k) at in omega arith
none_met (suc n) (suc i) k at = none_met n i k at

pub returns : goal.returns
returns c =
    let count = c.lists_from.result in
    let is = c.in_ok-places.ensures in
    record {
      keys = c.in_ok-keys.ensures;
      long =
          ap (λ (l : List ℕ). length l) is ∙ length-replicate count 0 ∙ c.lists_from.ensures;
      each = λ s k fits at.
          let number = rank c.args.machine.now.vars s in
          absurd
          (none_met count number k (ap (λ (l : List ℕ). slice_get l number) (sym is) ∙ at));
    }

few : (n : ℕ) → n ≤ 65536 → n < 9223372036854775808
few n small = omega arith

pub lists_from-requires-clause-few : goal.lists_from-requires-clause-few
lists_from-requires-clause-few c = few _ c.var_count.ensures.snapshots
