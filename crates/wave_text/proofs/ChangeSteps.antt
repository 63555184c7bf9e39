-- The steps of loops over changes.
use Rattle.std.specs.Prelude.{◌≡◌, ℕ, ◌+◌, ◌<◌, ◌≤◌, Bool, true, false, cond, not, ◌&&◌, ◌==◌, List, [], ◌∷◌, ◌++◌, length, drop, position, slice_index}
use Rattle.std.proofs.Common.{refl, ap, ◌∙◌, arith}
use Rattle.std.proofs.lemmas.List.{drop_more}
use Rattle.wave_text.specs.inner.Changing.{happens, loss_changes, out_signals, out_signal_at}

front_if : {X : Type 0} (b : Bool) (x : X) (rest : List X)
    → cond b (x ∷ rest) rest ≡ cond b (x ∷ []) [] ++ rest
front_if true x rest = refl
front_if false x rest = refl

pub loss_changes_more : (n e : ℕ) (inputs before : List ℕ) (i : ℕ) → i < length inputs
    → length inputs ≤ length before
    → loss_changes (n + i) (drop i inputs) e (drop i before)
    ≡ cond (e == slice_index inputs i && not (slice_index before i == 0)) (happens (n + i) ∷ []) []
    ++ loss_changes (n + (i + 1)) (drop (i + 1) inputs) e (drop (i + 1) before)
loss_changes_more n e inputs before i below many =
    let rest = loss_changes (n + i + 1) (drop (i + 1) inputs) e (drop (i + 1) before) in
    ap (λ (l : List ℕ). loss_changes (n + i) l e (drop i before)) (drop_more inputs i 0 below)
    ∙ ap (loss_changes (n + i) (slice_index inputs i ∷ drop (i + 1) inputs) e)
    (drop_more before i 0 (let h : i < length before = omega arith in h))
    ∙ front_if (e == slice_index inputs i && not (slice_index before i == 0)) (happens (n + i)) rest
    ∙ ap (λ (k : ℕ). cond (e == slice_index inputs i && not (slice_index before i == 0))
    (happens (n + i) ∷ []) []
    ++ loss_changes k (drop (i + 1) inputs) e (drop (i + 1) before))
    (let h : n + i + 1 ≡ n + (i + 1) = omega arith in h)

pub out_signals_more : (outputs : List ℕ) (n : ℕ) (events : List ℕ) (i : ℕ) → i < length events
    → out_signals outputs (n + i) (drop i events)
    ≡ out_signal_at (n + i) (slice_index events i)
    (position (λ output. output == slice_index events i) outputs)
    ++ out_signals outputs (n + (i + 1)) (drop (i + 1) events)
out_signals_more outputs n events i below =
    ap (out_signals outputs (n + i)) (drop_more events i 0 below)
    ∙ ap (λ (k : ℕ). out_signal_at (n + i) (slice_index events i)
    (position (λ output. output == slice_index events i) outputs)
    ++ out_signals outputs k (drop (i + 1) events))
    (let h : n + i + 1 ≡ n + (i + 1) = omega arith in h)
