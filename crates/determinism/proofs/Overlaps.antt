-- Snapshots that enable two rows, by the codes that both rows allow.
use Rattle.std.proofs.Common.{◌≡◌, ◌<◌, ℕ, zero, suc, true, false, ◌&&◌, ◌==◌, nat_lt, List, [], ◌∷◌, length, slice_get, slice_index, arith, refl, sym, ◌∙◌, inl, inr}
use Rattle.std.specs.List.{list_all}
use Rattle.std.specs.Int.{bit_at}
use Rattle.std.proofs.lemmas.Bool.{ltb-true, eqb-true, and_parts, and_from}
use Rattle.std.proofs.lemmas.Bool.Decides.{eqb_tells}
use Rattle.domains.specs.Tables.{fits}
use Rattle.transition_table.specs.declared.row.Cond.{Cond}
use Rattle.transition_table.specs.declared.row.Row.{Row}
use Rattle.transition_table.specs.declared.machine.Machine.{Machine}
use Rattle.transition_table.specs.MachineFacts.{names_codes, names_result, has_present, is_row}
use Rattle.transition_table.specs.Transitions.{allows, holds}
use Rattle.determinism.specs.inner.Boxes.{IsBox, EnableBoth}
use Rattle.transition_table.specs.RowCodes.{AreSetsOf, allows_code, row_allows}
use Rattle.transition_table.proofs.Bits.{alike}
use Rattle.transition_table.proofs.CodeSets.{size_at, machine_sizes}
use Rattle.domains.proofs.Ranks.{length_fits}

-- codes that fit are below their sizes
pub below_size : (sizes codes : List ℕ) (k : ℕ) → fits sizes codes ≡ true → k < length sizes
    → nat_lt (slice_index codes k) (slice_index sizes k) ≡ true
below_size [] codes k h below = absurd (omega arith)
below_size (size ∷ sizes) [] k h below = cc
below_size (size ∷ sizes) (code ∷ codes) zero h below =
    (and_parts (nat_lt code size) (fits sizes codes) h).0
below_size (size ∷ sizes) (code ∷ codes) (suc k) h below =
    below_size sizes codes k (and_parts (nat_lt code size) (fits sizes codes) h).1 (omega arith)

-- and codes below their sizes fit
fits_from : (sizes codes : List ℕ) → length codes ≡ length sizes
    → ((k : ℕ) → k < length sizes → nat_lt (slice_index codes k) (slice_index sizes k) ≡ true)
    → fits sizes codes ≡ true
fits_from [] [] same each = refl
fits_from [] (code ∷ codes) same each = absurd (omega arith)
fits_from (size ∷ sizes) [] same each = absurd (omega arith)
fits_from (size ∷ sizes) (code ∷ codes) same each =
    and_from (nat_lt code size) (fits sizes codes) (each 0 (omega arith))
    (fits_from sizes codes (omega arith) (λ k below. each (suc k) (omega arith)))

-- conditions that hold of codes allow the code of each variable
allows_here : (codes : List ℕ) (var : ℕ) (condition : Cond) → allows codes condition ≡ true
    → allows_code var (slice_index codes var) condition ≡ true
allows_here codes var condition h =
    elim (eqb_tells condition.var var) [
      | inl here ↦ rw here.0 (rw here.1 at h)
      | inr apart ↦ rw apart.0 refl
    ]

pub all_allow : (codes : List ℕ) (var : ℕ) (conds : List Cond)
    → list_all (allows codes) conds ≡ true
    → list_all (allows_code var (slice_index codes var)) conds ≡ true
all_allow codes var [] h = refl
all_allow codes var (c ∷ conds) h =
    let parts = and_parts (allows codes c) (list_all (allows codes) conds) h in
    and_from (allows_code var (slice_index codes var) c)
    (list_all (allows_code var (slice_index codes var)) conds) (allows_here codes var c parts.0)
    (all_allow codes var conds parts.1)

-- and conditions that allow the code of each variable hold
holds_here : (codes : List ℕ) (condition : Cond)
    → allows_code condition.var (slice_index codes condition.var) condition ≡ true
    → allows codes condition ≡ true
holds_here codes condition h = rw (alike condition.var condition.var refl) at h

all_hold : (vars codes : List ℕ) (conds : List Cond) → list_all (names_codes vars) conds ≡ true
    → ((k : ℕ) → k < length vars → list_all (allows_code k (slice_index codes k)) conds ≡ true)
    → list_all (allows codes) conds ≡ true
all_hold vars codes [] named each = refl
all_hold vars codes (c ∷ conds) named each =
    let parts = and_parts (names_codes vars c) (list_all (names_codes vars) conds) named in
    let var : c.var < length vars =
    ltb-true c.var (length vars) (and_parts (nat_lt c.var (length vars)) _ parts.0).0 in
    let own = and_parts (allows_code c.var (slice_index codes c.var) c)
    (list_all (allows_code c.var (slice_index codes c.var)) conds) (each c.var var) in
    and_from (allows codes c) (list_all (allows codes) conds) (holds_here codes c own.0)
    (all_hold vars codes conds parts.1
    (λ k below. (and_parts (allows_code k (slice_index codes k) c)
    (list_all (allows_code k (slice_index codes k)) conds) (each k below)).1))

pub row_parts : (m : Machine) (row : Row) → is_row m.inputs m.vars m.results row ≡ true
    → (list_all (names_codes m.vars) row.conds ≡ true)
    × (list_all (names_result m.inputs m.vars m.results) row.acts ≡ true)
row_parts m row h =
    and_parts (list_all (names_codes m.vars) row.conds)
    (list_all (names_result m.inputs m.vars m.results) row.acts)
    (and_parts (list_all (names_codes m.vars) row.conds
    && list_all (names_result m.inputs m.vars m.results) row.acts)
    (list_all (λ act. has_present row.conds act.source) row.acts) h).0

-- a row that is enabled allows the code of each variable
pub allowed_here : (m : Machine) (row : Row) (codes : List ℕ) (k : ℕ) → fits m.vars codes ≡ true
    → list_all (allows codes) row.conds ≡ true → k < length m.vars
    → row_allows m.vars row k (slice_index codes k) ≡ true
allowed_here m row codes k fit held below =
    and_from (nat_lt (slice_index codes k) (slice_index m.vars k))
    (list_all (allows_code k (slice_index codes k)) row.conds)
    (below_size m.vars codes k fit below) (all_allow codes k row.conds held)

-- no snapshot enables both rows where a variable has no code that both allow
pub none_enables : (m : Machine) (first second : Row) (of_first of_second : List ℕ) (k : ℕ)
    → AreSetsOf m.vars first of_first → AreSetsOf m.vars second of_second → k < length of_first
    → ((code : ℕ) → (bit_at (slice_index of_first k) code == 1
    && bit_at (slice_index of_second k) code == 1) ≡ false)
    → (codes : List ℕ) → EnableBoth m first second codes → ⊥
none_enables m first second of_first of_second k mf ms below none codes e =
    let long = mf.long in
    let inside : k < length m.vars = omega arith in
    let on_first = mf.each k inside (slice_index codes k)
    ∙ allowed_here m first codes k e.snapshot e.of_first inside in
    let on_second = ms.each k inside (slice_index codes k)
    ∙ allowed_here m second codes k e.snapshot e.of_second inside in
    let all = and_from (bit_at (slice_index of_first k) (slice_index codes k) == 1)
    (bit_at (slice_index of_second k) (slice_index codes k) == 1) on_first on_second in
    let never = none (slice_index codes k) in
    cc

-- what both rows allow is the box of their overlap
pub box_is : (m : Machine) (first second : Row) (of_first of_second sets : List ℕ)
    → is_row m.inputs m.vars m.results first ≡ true → is_row m.inputs m.vars m.results second ≡ true
    → AreSetsOf m.vars first of_first → AreSetsOf m.vars second of_second
    → length sets ≡ length m.vars
    → ((k code : ℕ) → k < length of_first
    → (bit_at (slice_index sets k) code == 1)
    ≡ (bit_at (slice_index of_first k) code == 1 && bit_at (slice_index of_second k) code == 1))
    → IsBox m first second sets
box_is m first second of_first of_second sets rf rs mf ms long are = record {
  long = long;
  few = λ k code below set.
      let inside : k < length m.vars = omega arith in
      let parts = allowed k code inside set in
      let small = ltb-true code (slice_index m.vars k)
      (and_parts (nat_lt code (slice_index m.vars k))
      (list_all (allows_code k code) first.conds) parts.0).0 in
      let size = (size_at m.vars k (machine_sizes m) inside).1 in
      omega arith;
  inside = λ codes h.
      let one = λ (k : ℕ) (below : k < length m.vars). allowed k (slice_index codes k) below
      (h.each k (rw long below)) in
      record {
        snapshot = fits_from m.vars codes (h.long ∙ long)
            (λ k below. (and_parts (nat_lt (slice_index codes k) (slice_index m.vars k))
            (list_all (allows_code k (slice_index codes k)) first.conds) (one k below).0).0);
        of_first = all_hold m.vars codes first.conds (row_parts m first rf).0
            (λ k below. (and_parts (nat_lt (slice_index codes k) (slice_index m.vars k))
            (list_all (allows_code k (slice_index codes k)) first.conds) (one k below).0).1);
        of_second = all_hold m.vars codes second.conds (row_parts m second rs).0
            (λ k below. (and_parts (nat_lt (slice_index codes k) (slice_index m.vars k))
            (list_all (allows_code k (slice_index codes k)) second.conds) (one k below).1).1);
      };
  whole = λ codes e. record {
    long = length_fits m.vars codes e.snapshot ∙ sym long;
    each = λ k below.
        let inside : k < length m.vars = omega arith in
        let within : k < length of_first = let same = mf.long in omega arith in
        let on_first = mf.each k inside (slice_index codes k)
        ∙ allowed_here m first codes k e.snapshot e.of_first inside in
        let on_second = ms.each k inside (slice_index codes k)
        ∙ allowed_here m second codes k e.snapshot e.of_second inside in
        eqb-true (bit_at (slice_index sets k) (slice_index codes k)) 1
        (are k (slice_index codes k) within
        ∙ and_from (bit_at (slice_index of_first k) (slice_index codes k) == 1)
        (bit_at (slice_index of_second k) (slice_index codes k) == 1) on_first on_second);
  };
}
  where
    allowed : (k code : ℕ) → k < length m.vars → bit_at (slice_index sets k) code ≡ 1
        → (row_allows m.vars first k code ≡ true) × (row_allows m.vars second k code ≡ true)
    allowed k code inside set =
        let within : k < length of_first = let same = mf.long in omega arith in
        let bits = and_parts (bit_at (slice_index of_first k) code == 1)
        (bit_at (slice_index of_second k) code == 1)
        (sym (are k code within) ∙ alike (bit_at (slice_index sets k) code) 1 set) in
        (sym (mf.each k inside code) ∙ bits.0, sym (ms.each k inside code) ∙ bits.1)

-- a row that is enabled is there
pub enabled_there : (codes : List ℕ) (rows : List Row) (k : ℕ)
    → holds codes (slice_get rows k) ≡ true → k < length rows
enabled_there codes [] k h = cc
enabled_there codes (row ∷ rows) zero h = omega arith
enabled_there codes (row ∷ rows) (suc k) h = let below = enabled_there codes rows k h in omega arith
