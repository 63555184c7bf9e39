-- What one snapshot more makes of an input, by what was looked up.
use Rattle.std.proofs.Common.{◌≡◌, ℕ, ◌<◌, Bool, true, false, not, ◌&&◌, List, length, refl, sym, ap, ◌∙◌}
use Rattle.std.proofs.lemmas.Bool.{and_right}
use Rattle.transition_table.specs.declared.machine.Machine.{Machine}
use Rattle.journals.specs.Seen.{is_present}
use Rattle.table_use.specs.Lint.{counts}
use Rattle.table_use.specs.Use.{can_fire, is_unused}
use Rattle.table_use.specs.inner.Walking.{found_after, input_met}
use Rattle.table_use.specs.declared.finding.InputLint.{InputLint}
use Rattle.table_use.proofs.Bools.{and_last}
use Rattle.table_use.proofs.Judged.{counts_is, unused_is}

-- the snapshot counts for the input, or doesn't; and the input is unused on it, or isn't
met : (m : Machine) (s : List ℕ) (i : ℕ) (c u : Bool) (old new : InputLint)
    → counts m i s ≡ c → is_unused m i s ≡ u → new.ignored ≡ (old.ignored && not c)
    → new.unused ≡ found_after u s old.unused → new ≡ input_met m s i old
met m s i c u old new counts unused ignored found =
    λ j. record {
      ignored = (ignored ∙ ap (λ (b : Bool). old.ignored && not b) (sym counts)) j;
      unused = (found ∙ ap (λ (b : Bool). found_after b s old.unused) (sym unused)) j;
    }

-- it is absent
pub met_absent : (m : Machine) (s : List ℕ) (i : ℕ) (old : InputLint) → i < length m.inputs
    → is_present i s ≡ false → old ≡ input_met m s i old
met_absent m s i old low off =
    met m s i false false old old (counts_is m i s false _ _ _ _ off refl refl refl refl)
    (unused_is m i s false _ _ _ low off refl refl refl) (sym (and_last old.ignored)) refl

-- a row is enabled, and the input changes nothing
pub met_unused : (m : Machine) (s : List ℕ) (i : ℕ) (old new : InputLint)
    → is_present i s ≡ true → is_unused m i s ≡ true → new.ignored ≡ old.ignored
    → new.unused ≡ found_after true s old.unused → new ≡ input_met m s i old
met_unused m s i old new on unused ignored found =
    met m s i false true old new (counts_is m i s true true _ _ _ on unused refl refl refl) unused
    (ignored ∙ sym (and_last old.ignored)) found

-- a row is enabled, and the input changes something
pub met_counting : (m : Machine) (s : List ℕ) (i : ℕ) (old new : InputLint)
    → is_present i s ≡ true → can_fire m s ≡ true → is_unused m i s ≡ false
    → new.ignored ≡ false → new.unused ≡ old.unused → new ≡ input_met m s i old
met_counting m s i old new on fires used ignored found =
    met m s i true false old new (counts_is m i s true false true _ _ on used fires refl refl) used
    (ignored ∙ sym (and_right old.ignored false refl)) found

-- no row is enabled
pub met_idle : (m : Machine) (s : List ℕ) (i : ℕ) (c : Bool) (old new : InputLint)
    → i < length m.inputs → can_fire m s ≡ false → counts m i s ≡ c
    → new.ignored ≡ (old.ignored && not c) → new.unused ≡ old.unused
    → new ≡ input_met m s i old
met_idle m s i c old new low idle counts ignored found =
    met m s i c false old new counts
    (used (is_present i s) refl) ignored found
  where
    used : (p : Bool) → is_present i s ≡ p → is_unused m i s ≡ false
    used true on = unused_is m i s true false _ _ low on idle refl refl
    used false off = unused_is m i s false _ _ _ low off refl refl refl
