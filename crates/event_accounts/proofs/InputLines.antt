-- The lines of the inputs of machines, by machine and then by input.
use Rattle.std.specs.Prelude.{◌≡◌, ℕ, ◌+◌, ◌<◌, ◌≤◌, List, [], ◌∷◌, ◌++◌, map, flat_map, length, drop, slice_get, Some}
use Rattle.std.specs.List.{enumerate_from, zip}
use Rattle.std.proofs.Common.{refl, sym, ap, ◌∙◌, arith, add-one}
use Rattle.std.proofs.lemmas.List.{append_assoc, length-append}
use Rattle.std.proofs.lemmas.List.Concat.{flat_map-append}
use Rattle.polis_base.specs.Lists.{upto}
use Rattle.transition_table.specs.declared.network.Network.{Network}
use Rattle.journals.proofs.Emitted.{drop_at_item}
use Rattle.event_accounts.specs.Accounts.{Buffer, buffer_at, buffers, buffers_of}
use Rattle.event_accounts.proofs.OneItemMore.{split_at}
use Rattle.polis_base.proofs.Places.{flat_map_push}

-- the lines of a machine's inputs from input k on, with these items
abbrev pub lines_from : {X : Type 0} → (Buffer × X → List ℕ) → ℕ → ℕ → List ℕ → List X → List ℕ
lines_from f m k events xs = flat_map f (zip (map (buffer_at m) (enumerate_from k events)) xs)

pub lines_more : {X : Type 0} (f : Buffer × X → List ℕ) (m k i : ℕ) (inputs : List ℕ)
    (xs : List X) (e : ℕ) (x : X) → slice_get inputs k ≡ Some e → slice_get xs (i + k) ≡ Some x
    → lines_from f m k (drop k inputs) (drop (i + k) xs)
    ≡ f (buffer_at m (k, e), x)
    ++ lines_from f m (k + 1) (drop (k + 1) inputs) (drop (i + (k + 1)) xs)
lines_more {X} f m k i inputs xs e x at there =
    ap (λ (l : List ℕ). lines_from f m k l (drop (i + k) xs)) (drop_at_item inputs k e at)
    ∙ ap (lines_from f m k (e ∷ drop (k + 1) inputs)) (drop_at_item xs (i + k) x there)
    ∙ ap (λ (n : ℕ). f (buffer_at m (k, e), x)
    ++ lines_from f m (k + 1) (drop (k + 1) inputs) (drop n xs))
    (let h : i + k + 1 ≡ i + (k + 1) = omega arith in h)

zip_both : {X : Type 0} (bs cs : List Buffer) (xs : List X) → length bs ≤ length xs
    → zip (bs ++ cs) xs ≡ zip bs xs ++ zip cs (drop (length bs) xs)
zip_both [] cs xs few = refl
zip_both (b ∷ bs) cs [] few = absurd (omega arith)
zip_both {X} (b ∷ bs) cs (x ∷ xs) few =
    ap (λ (l : List (Buffer × X)). (b, x) ∷ l) (zip_both bs cs xs (omega arith))

-- the lines of one machine more
pub machines_more : {X : Type 0} (f : Buffer × X → List ℕ) (net : Network) (m i : ℕ)
    (into old new : List ℕ) (xs : List X) → i ≡ length (flat_map (buffers_of net) (upto m))
    → i ≤ length xs
    → old ≡ into ++ flat_map f (zip (flat_map (buffers_of net) (upto m)) xs)
    → new ≡ old ++ flat_map f (zip (buffers_of net m) (drop i xs))
    → new ≡ into ++ flat_map f (zip (flat_map (buffers_of net) (upto (m + 1))) xs)
machines_more {X} f net m i into old new xs is few were made =
    let front = flat_map (buffers_of net) (upto m) in
    let one = flat_map f (zip front xs) in
    made
    ∙ ap (λ (l : List ℕ). l ++ flat_map f (zip (buffers_of net m) (drop i xs))) were
    ∙ append_assoc into one (flat_map f (zip (buffers_of net m) (drop i xs)))
    ∙ ap (λ (n : ℕ). into ++ (one ++ flat_map f (zip (buffers_of net m) (drop n xs)))) is
    ∙ ap (λ (l : List ℕ). into ++ l)
    (sym
    (flat_map-append f (zip front xs) (zip (buffers_of net m) (drop (length front) xs))))
    ∙ ap (λ (l : List (Buffer × X)). into ++ flat_map f l)
    (sym (zip_both front (buffers_of net m) xs (omega arith)))
    ∙ ap (λ (l : List Buffer). into ++ flat_map f (zip l xs))
    (sym (flat_map_push (buffers_of net) (upto m) m))
    ∙ ap (λ (n : ℕ). into ++ flat_map f (zip (flat_map (buffers_of net) (upto n)) xs))
    (sym (add-one m))

pub buffers_next : (net : Network) (m : ℕ)
    → length (flat_map (buffers_of net) (upto (m + 1)))
    ≡ length (flat_map (buffers_of net) (upto m)) + length (buffers_of net m)
buffers_next net m =
    ap (λ (n : ℕ). length (flat_map (buffers_of net) (upto n))) (add-one m)
    ∙ ap length (flat_map_push (buffers_of net) (upto m) m)
    ∙ length-append (flat_map (buffers_of net) (upto m)) (buffers_of net m)

pub buffers_within : (net : Network) (m : ℕ) → m < length net.machines
    → length (flat_map (buffers_of net) (upto m)) + length (buffers_of net m) ≤ length (buffers net)
buffers_within net m below =
    let split = split_at (buffers_of net) (length net.machines) m below in
    let all = ap length split.1 in
    let a = length-append (flat_map (buffers_of net) (upto m)) (buffers_of net m ++ split.0) in
    let b = length-append (buffers_of net m) split.0 in
    omega arith
