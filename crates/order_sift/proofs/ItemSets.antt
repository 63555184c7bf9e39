-- Sets of items, and what is known of them.
use Rattle.std.proofs.Common.{◌≡◌, ◌⊎◌, ⊎_elim, ◌+◌, ◌<◌, ◌≤◌, ◌==◌, ◌||◌, ℕ, zero, suc, Bool, true, false, List, [], ◌∷◌, ◌++◌, length, slice_get, slice_index, Some, take, refl, arith, sym, ◌∙◌, ap, subst, inl, inr}
use Rattle.std.specs.List.{remove}
use Rattle.std.specs.Int.{bit_at}
use Rattle.std.proofs.lemmas.Bool.{cases_eq, eq-eqb, ne_eqb}
use Rattle.std.proofs.lemmas.Option.{slice_get_within, get_or_from_slice_get}
use Rattle.polis_base.proofs.SmallSets.{no_bits}
use Rattle.transition_table.specs.declared.machine.Machine.{Machine}
use Rattle.transition_table.specs.Computed.{char}
use Rattle.transition_table.specs.Orders.{Allowed, sizes_of}
use Rattle.decision_diagram.specs.Sets.{stands, set_level}
use Rattle.order_sift.specs.inner.Classes.{AreClasses, fixed_too}
use Rattle.order_sift.specs.inner.Known.{in_set, IsLevel, AreLevels, AreNumbers}
use Rattle.order_sift.specs.declared.sets.KnownLevel.{KnownLevel}
use Rattle.order_sift.specs.declared.sets.KnownNumbers.{KnownNumbers}
use Rattle.order_sift.proofs.MovedLevels.{same_classes, stands_more, take_low}
use Rattle.transition_table.proofs.MachineCounts.{order_length}

-- ---- members
or_turned : (a b : Bool) → (a || b) ≡ (b || a)
or_turned true true = refl
or_turned true false = refl
or_turned false true = refl
or_turned false false = refl

same_turned : (a b : ℕ) → (a == b) ≡ (b == a)
same_turned a b =
    ⊎_elim (λ e. eq-eqb a b e ∙ sym (eq-eqb b a (sym e)))
    (λ apart. ne_eqb a b apart ∙ sym (ne_eqb b a (λ e. apart (sym e))))
    (cases_eq a b)

-- one more item
pub one_more : (set new item : ℕ)
    → ((w : ℕ) → (bit_at new w == 1) ≡ (w == item || bit_at set w == 1)) → (w : ℕ)
    → in_set new w ≡ fixed_too (in_set set) item w
one_more set new item is w =
    is w ∙ or_turned (w == item) (in_set set w) ∙ ap (λ b. in_set set w || b) (same_turned w item)

pub in_none : (w : ℕ) → in_set 0 w ≡ false
in_none w = no_bits 0 w refl

-- each item is below 64
pub small_items : (m : Machine) (o : List ℕ) → Allowed m o
    → length m.vars + length m.results ≤ 49 → (k : ℕ) → k < length o → slice_index o k < 64
small_items m o allowed few k low =
    let n = order_length m o allowed in
    let b = allowed.permutation.below k low in
    omega arith

-- ---- sets with the same items
pub same_too : (m : Machine) (one other : ℕ → Bool) (x : ℕ) (classes : List ℕ)
    → ((w : ℕ) → one w ≡ other w) → AreClasses m (fixed_too one x) classes
    → AreClasses m (fixed_too other x) classes
same_too m one other x classes same are =
    same_classes m (fixed_too one x) (fixed_too other x) classes
    (λ w. ap (λ b. b || x == w) (same w)) are

pub same_level : (m : Machine) (one other : ℕ → Bool) (x level : ℕ)
    → ((w : ℕ) → one w ≡ other w) → level ≡ set_level (char m) (sizes_of m) one x
    → level ≡ set_level (char m) (sizes_of m) other x
same_level m one other x level same is =
    is ∙ ap (λ (set : ℕ → Bool). set_level (char m) (sizes_of m) set x) (λ i w. same w i)

-- the first items, without the item at place i and with it
pub set_before : (o : List ℕ) (set i j : ℕ) → ((w : ℕ) → in_set set w ≡ stands (take j o) w)
    → j ≤ i → (w : ℕ) → in_set set w ≡ stands (take j (remove o i)) w
set_before o set i j is low w =
    is w ∙ ap (λ (xs : List ℕ). stands xs w) (sym (take_low o i j low))

pub set_with : (o : List ℕ) (before set item i j : ℕ) → slice_index o i ≡ item
    → ((w : ℕ) → in_set before w ≡ stands (take j (remove o i)) w)
    → ((w : ℕ) → in_set set w ≡ fixed_too (in_set before) item w)
    → (w : ℕ) → in_set set w ≡ stands (take j (remove o i) ++ slice_index o i ∷ []) w
set_with o before set item i j item_is same is w =
    is w ∙ ap (λ b. b || item == w) (same w)
    ∙ ap (λ (x : ℕ). stands (take j (remove o i)) w || x == w) (sym item_is)
    ∙ sym (stands_more (take j (remove o i)) (slice_index o i) w)

-- ---- one more entry at the end
get_more : {X : Type 0} (xs : List X) (x y : X) (k : ℕ) → slice_get (xs ++ x ∷ []) k ≡ Some y
    → (slice_get xs k ≡ Some y) ⊎ (x ≡ y)
get_more [] x y zero h = inr (get_or_from_slice_get (x ∷ []) 0 y x h)
get_more [] x y (suc k) h = absurd (let l = slice_get_within (x ∷ []) (suc k) y h in omega arith)
get_more (z ∷ zs) x y zero h = inl h
get_more (z ∷ zs) x y (suc k) h = get_more zs x y k h

pub levels_more : (m : Machine) (levels new : List KnownLevel) (x : KnownLevel)
    → AreLevels m levels → new ≡ levels ++ x ∷ [] → IsLevel m x → AreLevels m new
levels_more m levels new x are is own k one h =
    ⊎_elim
    (λ old. are k one old)
    (λ e. subst (IsLevel m) e own)
    (get_more levels x one k (sym (ap (λ (xs : List KnownLevel). slice_get xs k) is) ∙ h))

pub numbers_more : (m : Machine) (numbers new : List KnownNumbers) (x : KnownNumbers)
    → AreNumbers m numbers → new ≡ numbers ++ x ∷ []
    → AreClasses m (in_set x.set) x.numbers → AreNumbers m new
numbers_more m numbers new x are is own k one h =
    ⊎_elim
    (λ old. are k one old)
    (λ e. subst (λ (y : KnownNumbers). AreClasses m (in_set y.set) y.numbers) e own)
    (get_more numbers x one k (sym (ap (λ (xs : List KnownNumbers). slice_get xs k) is) ∙ h))
