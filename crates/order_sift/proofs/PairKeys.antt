-- Pairs as one number.
use Rattle.std.proofs.Common.{◌≡◌, ◌∙◌, ⊎_elim, ◌+◌, ◌*◌, ◌<◌, ◌≤◌, ℕ, List, length, slice_index, slice_set, get_or-set_other, get_or-set_same, arith, sym, ap, subst}
use Rattle.std.specs.Prelude.{◌↔◌}
use Rattle.std.proofs.Math.Nat.{mul-le-mul_right}
use Rattle.std.proofs.lemmas.Bool.{cases_eq, cases_lt}
use Rattle.std.proofs.lemmas.List.{length-set}
use Rattle.order_sift.specs.inner.Pairs.{AreBelow, HasRoom, HaveFirsts, key_of}

below_next : (n a b c d : ℕ) → b < n → a < c → a * n + b ≡ c * n + d → ⊥
below_next n a b c d low less same =
    let h = mul-le-mul_right {m = a + 1} {n = c} n (omega arith) in
    omega (arith, h)

-- pairs with one number are the same
pub key_parts : (n a b c d : ℕ) → b < n → d < n → a * n + b ≡ c * n + d → (a ≡ c) × (b ≡ d)
key_parts n a b c d low other same =
    let e : a ≡ c =
    ⊎_elim (λ h. h)
    (λ apart. ⊎_elim (λ less. absurd (below_next n a b c d low less same))
    (λ more.
    let less : c < a = omega arith in
    absurd (below_next n c d a b other less (sym same)))
    (cases_lt a c))
    (cases_eq a c) in
    let f : a * n ≡ c * n = ap (λ (k : ℕ). k * n) e in
    (e, omega (arith, f))

pub key_low : (n a b room : ℕ) → b < n → a < n + 33 → n * (n + 33) ≤ room → a * n + b < room
key_low n a b room low other wide =
    let h = mul-le-mul_right {m = a + 1} {n = n + 33} n (omega arith) in
    omega (arith, h)

-- one more place has the first place with its pair
pub first_more : (pair new_pair : ℕ → ℕ) (seen new_seen made : List ℕ) (stride i x : ℕ)
    (paired : ℕ → Type 0) → i < length made → x ≤ i → stride ≤ x → pair x ≡ pair i
    → slice_index new_seen (pair i) ≡ x
    → ((k : ℕ) → (k ≡ pair i → ⊥) → slice_index new_seen k ≡ slice_index seen k)
    → ((p : ℕ) → slice_index seen (pair i) ≡ p → p < i → stride ≤ p → pair p ≡ pair i → x ≡ p)
    → ((p : ℕ) → p ≤ i → new_pair p ≡ pair p) → HaveFirsts pair seen made stride i paired
    → HaveFirsts new_pair new_seen (slice_set made i x) stride (i + 1) paired
first_more pair new_pair seen new_seen made stride i x paired inside within early is there kept again
    same firsts p lp h =
    ⊎_elim
    (λ less.
    let own : slice_index (slice_set made i x) p ≡ slice_index made p =
    get_or-set_other made i p x 0 (λ e. omega arith) in
    let old = firsts p less h in
    let low = old.0 in
    let high = old.1 in
    let new : new_pair p ≡ pair p = same p (omega arith) in
    let first_is : new_pair (slice_index made p) ≡ new_pair p =
    same (slice_index made p) (omega arith) ∙ old.2 ∙ sym new in
    let stands : slice_index new_seen (pair p) ≡ slice_index made p =
    ⊎_elim
    (λ e.
    let was : slice_index seen (pair i) ≡ slice_index made p =
    ap (slice_index seen) (sym e) ∙ old.3 in
    ap (slice_index new_seen) e ∙ there ∙ again (slice_index made p) was high low (old.2 ∙ e))
    (λ apart. kept (pair p) apart ∙ old.3)
    (cases_eq (pair p) (pair i)) in
    subst (λ (q : ℕ). (stride ≤ q) × (q < i + 1) × (new_pair q ≡ new_pair p)
    × (slice_index new_seen (new_pair p) ≡ q)) (sym own)
    (low, omega arith, first_is, ap (slice_index new_seen) new ∙ stands))
    (λ more.
    let e : i ≡ p = omega arith in
    let new : new_pair i ≡ pair i = same i (omega arith) in
    subst (λ (q : ℕ). (stride ≤ slice_index (slice_set made i x) q)
    × (slice_index (slice_set made i x) q < i + 1)
    × (new_pair (slice_index (slice_set made i x) q) ≡ new_pair q)
    × (slice_index new_seen (new_pair q) ≡ slice_index (slice_set made i x) q)) e
    (subst (λ (q : ℕ). (stride ≤ q) × (q < i + 1) × (new_pair q ≡ new_pair i)
    × (slice_index new_seen (new_pair i) ≡ q)) (sym (get_or-set_same made i x 0 inside))
    (early, omega arith, same x within ∙ is ∙ sym new, ap (slice_index new_seen) new ∙ there)))
    (cases_lt p i)

-- two places have one number exactly where their pairs are the same
pub same_first : (pair : ℕ → ℕ) (seen made : List ℕ) (stride n : ℕ) (paired : ℕ → Type 0)
    → HaveFirsts pair seen made stride n paired → (i j : ℕ) → i < n → j < n → paired i → paired j
    → (slice_index made i ≡ slice_index made j) ↔ (pair i ≡ pair j)
same_first pair seen made stride n paired firsts i j li lj one other =
    let a = firsts i li one in
    let b = firsts j lj other in (
      λ h. sym a.2 ∙ ap pair h ∙ b.2,
      λ h. sym a.3 ∙ ap (slice_index seen) h ∙ b.3,
    )

-- and where both parts are
pub same_parts : (n a b c d : ℕ) → b < n → d < n
    → (key_of n b a ≡ key_of n d c) ↔ ((b ≡ d) × (a ≡ c))
same_parts n a b c d low other = (
  λ h. let parts = key_parts n a b c d low other h in (parts.1, parts.0),
  λ h. ap (λ (k : ℕ). key_of n k a) h.0 ∙ ap (key_of n d) h.1,
)

pub below_set : (n i x : ℕ) (made : List ℕ) → x < n → AreBelow n made
    → AreBelow n (slice_set made i x)
below_set n i x made low below p lp =
    let l : length (slice_set made i x) ≡ length made = length-set made i x in
    ⊎_elim
    (λ e.
    let li : i < length made = omega arith in
    let is : slice_index (slice_set made i x) i ≡ x = get_or-set_same made i x 0 li in
    subst (λ (q : ℕ). slice_index (slice_set made i x) q < n) (sym e) (omega arith))
    (λ apart.
    let is : slice_index (slice_set made i x) p ≡ slice_index made p =
    get_or-set_other made i p x 0 apart in
    let b = below p (omega arith) in
    omega arith)
    (cases_eq p i)

-- the room stays as large
pub room_kept : (places : ℕ) (old new : List ℕ) → length new ≡ length old → HasRoom places old
    → HasRoom places new
room_kept places old new same room = subst (λ (n : ℕ). places * (places + 33) ≤ n) (sym same) room
