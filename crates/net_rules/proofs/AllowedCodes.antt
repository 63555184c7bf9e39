-- Codes that conditions allow.
use Rattle.std.proofs.Common.{◌≡◌, ◌∙◌, ◌<◌, ◌≤◌, ℕ, zero, suc, Bool, true, false, not, ◌&&◌, ◌||◌, ◌==◌, nat_lt, nat_le, List, [], ◌∷◌, ◌++◌, map, length, slice_get, Option, Some, None, is_some, unwrap_or, refl, ap, sym, true≢false, subst, arith}
use Rattle.std.specs.Int.{bit_at}
use Rattle.std.proofs.lemmas.List.{length-map, length-append}
use Rattle.domains.specs.Tables.{are_sizes}
use Rattle.net_reader.specs.declared.raw.Word.{Word}
use Rattle.net_reader.specs.declared.raw.RawState.{RawState}
use Rattle.net_reader.specs.declared.raw.RawMachine.{RawMachine}
use Rattle.net_reader.specs.declared.raw.RawNet.{RawNet}
use Rattle.net_names.specs.Numbers.{is_name_of, missing, names_of, number_in, number}
use Rattle.net_names.proofs.NumberIn.{number_below}
use Rattle.net_names.specs.Scopes.{domain_words, state_words, event_codes, state_codes, var_sizes}
use Rattle.net_rules.specs.inner.Sound.{Each}
use Rattle.net_rules.proofs.AreActions.{first_known, rest_known}
use Rattle.std.proofs.lemmas.Bool.{leb-true, lt-ltb}
use Rattle.polis_base.proofs.Bools.{and_first, and_second, or_none}
use Rattle.polis_base.proofs.SmallSets.{no_bits}
use Rattle.polis_base.proofs.Places.{some_is}

-- a set and one code alone, and all but one
pub only_zero : (none k : ℕ) → none ≡ 0 → (k == 0 || bit_at none k == 1) ≡ (k == 0)
only_zero none k is = ap (λ b. k == 0 || b) (no_bits none k is) ∙ or_none (k == 0)

pub all_but_zero : (first k : ℕ) → k < 64 → ((j : ℕ) → (bit_at first j == 1) ≡ nat_lt j 64)
    → (not (k == 0) && bit_at first k == 1) ≡ not (k == 0)
all_but_zero first k low all =
    ap (λ b. not (k == 0) && b) (all k ∙ lt-ltb k 64 low) ∙ same (not (k == 0))
  where
    same : (b : Bool) → (b && true) ≡ b
    same true = refl
    same false = refl

pub size_few : (sizes : List ℕ) (i size : ℕ) → are_sizes sizes ≡ true
    → slice_get sizes i ≡ Some size → size ≤ 33
size_few [] i size all at = absurd (true≢false (sym (ap is_some at)))
size_few (s ∷ sizes) zero size all at =
    subst (λ n. n ≤ 33) (some_is s size at)
    (leb-true s 33 (and_second (nat_le 1 s) (nat_le s 33)
    (and_first (nat_le 1 s && nat_le s 33) (are_sizes sizes) all)))
size_few (s ∷ sizes) (suc i) size all at =
    size_few sizes i size (and_second (nat_le 1 s && nat_le s 33) (are_sizes sizes) all) at

pub vars_count : (net : RawNet) (m : RawMachine)
    → length (var_sizes net m) ≡ length (m.inputs ++ state_words m)
vars_count net m =
    omega (
      arith,
      length-append (map (event_codes net) m.inputs) (map (state_codes net) m.states),
      length-map m.inputs (event_codes net),
      length-map m.states (state_codes net),
      length-append m.inputs (state_words m),
      length-map m.states (λ (s : RawState). s.name),
    )

pub declared_each : (net : RawNet) (ss : List RawState)
    → missing (is_name_of (domain_words net)) (map (λ (s : RawState). s.domain) ss) ≡ []
    → Each (λ (s : RawState). is_name_of (domain_words net) s.domain.name ≡ true) ss
declared_each net [] h i x at = absurd (true≢false (sym (ap is_some at)))
declared_each net (s ∷ ss) h zero x at =
    subst (λ (z : RawState). is_name_of (domain_words net) z.domain.name ≡ true) (some_is s x at)
    (first_known (domain_words net) s.domain (map (λ (s : RawState). s.domain) ss) h)
declared_each net (s ∷ ss) h (suc i) x at =
    declared_each net ss
    (rest_known (domain_words net) s.domain (map (λ (s : RawState). s.domain) ss) h) i x at

-- a number of a list isn't above the length
pub number_most : (words : List Word) (name : List ℕ) → number words name ≤ length words
number_most words name = by (number_in (names_of words) name) refl
  where
    by : (o : Option ℕ) → number_in (names_of words) name ≡ o → unwrap_or o 0 ≤ length words
    by None e = omega arith
    by (Some k) e =
        omega (
          arith,
          number_below (names_of words) name k e,
          length-map words (λ (w : Word). w.name),
        )

pub states_most : (m : RawMachine) (name : List ℕ) → number (state_words m) name ≤ length m.states
states_most m name =
    omega (arith, number_most (state_words m) name, length-map m.states (λ (s : RawState). s.name))
