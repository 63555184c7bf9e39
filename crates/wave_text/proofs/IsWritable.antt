-- Changes that can be written.
use Rattle.std.specs.Prelude.{◌≡◌, ℕ, suc, ◌+◌, ◌<◌, Bool, true, false, cond, ◌&&◌, List, [], ◌∷◌, filter_map, length, take, slice_get, Option, Some, None}
use Rattle.std.specs.List.{cons_option, enumerate_from, list_all}
use Rattle.std.specs.Option.{option_map_or}
use Rattle.std.proofs.Common.{refl, sym, ap, ◌∙◌, subst, arith}
use Rattle.std.proofs.lemmas.Bool.{and_parts, and_from, false≢true}
use Rattle.std.proofs.lemmas.Option.{slice_get_within}
use Rattle.transition_table.specs.declared.network.Network.{Network}
use Rattle.journals.specs.declared.entry.Entry.{Entry}
use Rattle.wave_text.specs.Signals.{change_at, changes_at, signal_code, happens_at, same_code, signals}
use Rattle.wave_text.specs.inner.Writable.{has_code, is_signal, is_writable}
use Rattle.wave_text.specs.declared.signal.Change.{Change}
use Rattle.wave_text.specs.declared.signal.Signal.{Signal}

writable_by : (net : Network) (change : Change) (found : Option Signal)
    → option_map_or (λ signal. is_signal net signal && has_code net signal change.code) found false
    ≡ true
    → (s : Signal) × (found ≡ Some s) × (is_signal net s ≡ true)
    × (has_code net s change.code ≡ true)
writable_by net change None h = absurd (false≢true h)
writable_by net change (Some s) h =
    let parts = and_parts (is_signal net s) (has_code net s change.code) h in
    (s, refl, parts.0, parts.1)

pub writable_within : (net : Network) (change : Change) → is_writable net change ≡ true
    → change.signal < length (signals net)
writable_within net change h =
    let found = writable_by net change (slice_get (signals net) change.signal) h in
    slice_get_within (signals net) change.signal found.0 found.1

pub writable_signal : (net : Network) (change : Change) (s : Signal) → is_writable net change ≡ true
    → slice_get (signals net) change.signal ≡ Some s
    → (is_signal net s ≡ true) × (has_code net s change.code ≡ true)
writable_signal net change s h at =
    and_parts (is_signal net s) (has_code net s change.code)
    (ap (λ (o : Option Signal). option_map_or
    (λ signal. is_signal net signal && has_code net signal change.code) o false) (sym at)
    ∙ h)

-- ---- what an entry changes

-- each change is one of a signal in the list, which has the code
writable_change : (net : Network) (journal : List Entry) (p k : ℕ) (s : Signal)
    (before after : Option ℕ)
    (happens : Bool) (rest : List Change) → slice_get (signals net) k ≡ Some s
    → is_signal net s ≡ true → has_code net s after ≡ true
    → list_all (is_writable net) rest ≡ true
    → list_all (is_writable net)
    (cons_option (cond happens (Some (record { signal = k; code = None }))
    (cond (same_code before after) None (Some (record { signal = k; code = after })))) rest) ≡ true
writable_change net journal p k s before after happens rest at good fits others =
    cases happens (same_code before after)
  where
    this : (code : Option ℕ) → has_code net s code ≡ true
        → is_writable net (record { signal = k; code = code }) ≡ true
    this code h =
        ap (λ (o : Option Signal). option_map_or
        (λ signal. is_signal net signal && has_code net signal code) o false) at
        ∙ and_from (is_signal net s) (has_code net s code) good h

    both : (c : Change) → is_writable net c ≡ true
        → (is_writable net c && list_all (is_writable net) rest) ≡ true
    both c h = and_from (is_writable net c) (list_all (is_writable net) rest) h others

    cases : (h t : Bool)
        → list_all (is_writable net)
        (cons_option (cond h (Some (record { signal = k; code = None }))
        (cond t None (Some (record { signal = k; code = after })))) rest) ≡ true
    cases true t = both (record { signal = k; code = None }) (this None refl)
    cases false true = others
    cases false false = both (record { signal = k; code = after }) (this after fits)

changes_writable : (net : Network) (journal : List Entry) (p n : ℕ) (list : List Signal)
    → ((k : ℕ) (s : Signal) → slice_get list k ≡ Some s → slice_get (signals net) (n + k) ≡ Some s)
    → ((k : ℕ) (s : Signal) → slice_get list k ≡ Some s
    → (is_signal net s ≡ true) × (has_code net s (signal_code net (take (p + 1) journal) s) ≡ true))
    → list_all (is_writable net) (filter_map (change_at net journal p) (enumerate_from n list))
    ≡ true
changes_writable net journal p n [] at fits = refl
changes_writable net journal p n (s ∷ list) at fits =
    writable_change net journal p n s (signal_code net (take p journal) s)
    (signal_code net (take (p + 1) journal) s) (happens_at net journal p s)
    (filter_map (change_at net journal p) (enumerate_from (n + 1) list))
    (subst (λ (k : ℕ). slice_get (signals net) k ≡ Some s) (let h : n + 0 ≡ n = omega arith in h)
    (at 0 s refl))
    (fits 0 s refl).0 (fits 0 s refl).1
    (changes_writable net journal p (n + 1) list
    (λ k x is. subst (λ (i : ℕ). slice_get (signals net) i ≡ Some x)
    (let h : n + suc k ≡ n + 1 + k = omega arith in h) (at (suc k) x is))
    (λ k x is. fits (suc k) x is))

-- where each signal has the code that it has after the entries up to p, all changes can be written
pub all_writable : (net : Network) (journal : List Entry) (p : ℕ)
    → ((k : ℕ) (s : Signal) → slice_get (signals net) k ≡ Some s
    → (is_signal net s ≡ true) × (has_code net s (signal_code net (take (p + 1) journal) s) ≡ true))
    → list_all (is_writable net) (changes_at net journal p) ≡ true
all_writable net journal p fits =
    changes_writable net journal p 0 (signals net)
    (λ k s is. subst (λ (i : ℕ). slice_get (signals net) i ≡ Some s)
    (let h : k ≡ 0 + k = omega arith in h) is)
    fits
