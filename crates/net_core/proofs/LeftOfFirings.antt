-- What is left of what a machine has sent, firing by firing.
use Rattle.std.specs.Prelude.{◌≡◌, ℕ, zero, suc, ◌+◌, ◌-◌, ◌<◌, ◌≤◌, Bool, true, false, List, ◌∷◌, ◌++◌, filter, flat_map, length, take, drop, replicate, slice_get, Some, []}
use Rattle.std.proofs.Common.{refl, sym, ap, ◌∙◌, arith, length-append}
use Rattle.std.proofs.lemmas.List.{length-replicate}
use Rattle.std.proofs.Math.Nat.{max-zero}
use Rattle.std.proofs.Math.Seq.{drop-append-add}
use Rattle.transition_table.specs.declared.network.Network.{Network}
use Rattle.journals.specs.Journals.{reads, emitted, emissions}
use Rattle.net_core.specs.inner.Clocks.{left}
use Rattle.journals.specs.Stamps.{greatest, once_each}
use Rattle.journals.specs.declared.stamped.Stamped.{Stamped}
use Rattle.journals.proofs.Emitted.{drop_at_item, emitted_none, emitted_one}

-- ---- one output more

pub counted_one : (p : ℕ → Bool) (events codes : List ℕ) (k e c : ℕ) → slice_get events k ≡ Some e
    → slice_get codes k ≡ Some c → 0 < c → p e ≡ true
    → length (filter (λ (q : ℕ × ℕ). p q.0) (emitted (drop k events) (drop k codes)))
    ≡ 1 + length (filter (λ (q : ℕ × ℕ). p q.0)
    (emitted (drop (k + 1) events) (drop (k + 1) codes)))
counted_one p events codes k e c event code some passes =
    ap (λ (l : List (ℕ × ℕ)). length (filter (λ (q : ℕ × ℕ). p q.0) l))
    (emitted_one events codes k e c event code some) ∙ rw passes (omega arith)

pub counted_none : (p : ℕ → Bool) (events codes : List ℕ) (k e c : ℕ) → slice_get events k ≡ Some e
    → slice_get codes k ≡ Some c → c ≡ 0
    → length (filter (λ (q : ℕ × ℕ). p q.0) (emitted (drop k events) (drop k codes)))
    ≡ length (filter (λ (q : ℕ × ℕ). p q.0)
    (emitted (drop (k + 1) events) (drop (k + 1) codes)))
counted_none p events codes k e c event code none =
    ap (λ (l : List (ℕ × ℕ)). length (filter (λ (q : ℕ × ℕ). p q.0) l))
    (emitted_none events codes k e c event code none)

pub counted_past : (p : ℕ → Bool) (events codes : List ℕ) (k e c : ℕ) → slice_get events k ≡ Some e
    → slice_get codes k ≡ Some c → 0 < c → p e ≡ false
    → length (filter (λ (q : ℕ × ℕ). p q.0) (emitted (drop k events) (drop k codes)))
    ≡ length (filter (λ (q : ℕ × ℕ). p q.0)
    (emitted (drop (k + 1) events) (drop (k + 1) codes)))
counted_past p events codes k e c event code some fails =
    ap (λ (l : List (ℕ × ℕ)). length (filter (λ (q : ℕ × ℕ). p q.0) l))
    (emitted_one events codes k e c event code some) ∙ rw fails refl

-- ---- one firing more

-- a firing of which all is taken is passed
pub left_further : (net : Network) (m : ℕ) (firings : List Stamped) (f taken count : ℕ)
    (x : Stamped) → slice_get firings f ≡ Some x
    → count ≡ length (filter (λ e. reads net m e.0) (emissions net x.entry)) → count ≤ taken
    → left net m firings (record { firing = f; taken = taken })
    ≡ left net m firings (record { firing = f + 1; taken = taken - count })
left_further net m firings f taken count x at is all =
    let rest : List ℕ = flat_map (once_each net m) (drop (f + 1) firings) in
    let n : length (once_each net m x) ≡ count =
    length-replicate (length (filter (λ e. reads net m e.0) (emissions net x.entry))) x.stamp
    ∙ sym is in
    let sum : taken ≡ length (once_each net m x) + (taken - count) = omega arith in
    ap (λ l. drop taken (flat_map (once_each net m) l)) (drop_at_item firings f x at)
    ∙ ap (λ k. drop k (once_each net m x ++ rest)) sum
    ∙ drop-append-add (once_each net m x) rest (taken - count)

pub given_further : (net : Network) (m : ℕ) (firings : List Stamped) (f taken count : ℕ)
    (x : Stamped) → slice_get firings f ≡ Some x
    → count ≡ length (filter (λ e. reads net m e.0) (emissions net x.entry))
    → taken ≤ length (flat_map (once_each net m) (drop f firings))
    → taken - count ≤ length (flat_map (once_each net m) (drop (f + 1) firings))
given_further net m firings f taken count x at is h =
    let rest : List ℕ = flat_map (once_each net m) (drop (f + 1) firings) in
    let n : length (once_each net m x) ≡ count =
    length-replicate (length (filter (λ e. reads net m e.0) (emissions net x.entry))) x.stamp
    ∙ sym is in
    let whole : length (flat_map (once_each net m) (drop f firings))
    ≡ length (once_each net m x) + length rest =
    ap (λ l. length (flat_map (once_each net m) l)) (drop_at_item firings f x at)
    ∙ length-append (once_each net m x) rest in
    omega arith

first_of_same : (taken count t : ℕ) (rest : List ℕ) → taken < count
    → take 1 (drop taken (replicate count t ++ rest)) ≡ t ∷ []
first_of_same taken zero t rest h = absurd (omega arith)
first_of_same zero (suc count) t rest h = refl
first_of_same (suc taken) (suc count) t rest h = first_of_same taken count t rest (omega arith)

-- the stamp of a firing of which something is left
pub left_here : (net : Network) (m : ℕ) (firings : List Stamped) (f taken count : ℕ) (x : Stamped)
    → slice_get firings f ≡ Some x → count
    ≡ length (filter (λ e. reads net m e.0) (emissions net x.entry)) → taken < count
    → x.stamp ≡ greatest (take 1 (left net m firings (record { firing = f; taken = taken })))
left_here net m firings f taken count x at is some =
    let rest : List ℕ = flat_map (once_each net m) (drop (f + 1) firings) in
    sym (
    ap (λ l. greatest (take 1 (drop taken (flat_map (once_each net m) l))))
    (drop_at_item firings f x at)
    ∙ ap greatest (first_of_same taken
    (length (filter (λ e. reads net m e.0) (emissions net x.entry))) x.stamp rest (omega arith))
    ∙ max-zero x.stamp
    )
