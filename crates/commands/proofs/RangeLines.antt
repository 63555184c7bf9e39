-- Lines of the ranges of machines, one after another.
use Rattle.std.proofs.Common.{◌≡◌, ℕ, ◌+◌, List, [], ◌∷◌, ◌++◌, length, slice_get, Some, refl, sym, ap, ◌∙◌}
use Rattle.std.proofs.lemmas.List.{append_assoc, append-nil}
use Rattle.transition_table.specs.declared.machine.Machine.{Machine}
use Rattle.transition_table.specs.declared.network.Network.{Network}
use Rattle.cost_bound.specs.declared.bound.Range.{Range}
use Rattle.cost_bound.specs.declared.costs.Costs.{Costs}
use Rattle.machine_compiler.proofs.RightParts.{Paired, none_paired, more_paired, length_push}
use Rattle.commands.specs.Bound.{IsRange}
use Rattle.commands.specs.Ranges.{range_line, range_lines}
use Rattle.commands.specs.inner.Bound.{ShowsRanges}

no_ranges : (net : Network) (ms : List Machine) → range_lines net ms [] ≡ []
no_ranges net [] = refl
no_ranges net (m ∷ ms) = refl

one_more : (net : Network) (ms : List Machine) (rs : List Range) (m : Machine) (r : Range)
    → slice_get ms (length rs) ≡ Some m
    → range_lines net ms (rs ++ r ∷ []) ≡ range_lines net ms rs ++ range_line net m r
one_more net [] rs m r is = cc
one_more net (n ∷ ms) [] m r is =
    let same : n ≡ m = cc in
    ap (λ (machine : Machine). range_line net machine r ++ range_lines net ms []) same
    ∙ ap (λ (text : List ℕ). range_line net m r ++ text) (no_ranges net ms)
    ∙ append-nil (range_line net m r)
one_more net (n ∷ ms) (s ∷ rs) m r is =
    ap (λ (text : List ℕ). range_line net n s ++ text) (one_more net ms rs m r is)
    ∙ sym (append_assoc (range_line net n s) (range_lines net ms rs) (range_line net m r))

-- the first so many machines have their ranges, and these are written
pub record Shown (costs : Costs) (net : Network) (k : ℕ) (text : List ℕ) : Type 0 where
  pub ranges : List Range
  pub long : length ranges ≡ k
  pub each : Paired (IsRange costs) net.machines ranges
  pub text_is : text ≡ range_lines net net.machines ranges

pub shown_none : (costs : Costs) (net : Network) (text : List ℕ) → text ≡ []
    → Shown costs net 0 text
shown_none costs net text none = record {
  ranges = [];
  long = refl;
  each = none_paired (IsRange costs) net.machines [] refl;
  text_is = none ∙ sym (no_ranges net net.machines);
}

pub shown_more : (costs : Costs) (net : Network) (k : ℕ) (a b : List ℕ) (m : Machine) (r : Range)
    → Shown costs net k a → slice_get net.machines k ≡ Some m → IsRange costs m r
    → b ≡ a ++ range_line net m r → Shown costs net (k + 1) b
shown_more costs net k a b m r shown is range b_is =
    let here : slice_get net.machines (length shown.ranges) ≡ Some m =
    ap (slice_get net.machines) shown.long ∙ is in
    record {
      ranges = shown.ranges ++ r ∷ [];
      long = length_push shown.ranges (shown.ranges ++ r ∷ []) r k shown.long refl;
      each = more_paired (IsRange costs) net.machines shown.ranges (shown.ranges ++ r ∷ []) k m r
          shown.each shown.long refl is range;
      text_is = b_is ∙ ap (λ (text : List ℕ). text ++ range_line net m r) shown.text_is
          ∙ sym (one_more net net.machines shown.ranges m r here);
    }

pub shown_all : (costs : Costs) (net : Network) (k : ℕ) (text : List ℕ) → Shown costs net k text
    → k ≡ length net.machines → ShowsRanges costs net text
shown_all costs net k text shown all = record {
  ranges = shown.ranges;
  are = record { long = shown.long ∙ all; each = shown.each };
  shown = shown.text_is;
}
