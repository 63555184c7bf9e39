-- The walk over a machine's snapshots.
use Rattle.std.proofs.Common.{◌≡◌, ℕ, zero, suc, ◌+◌, ◌<◌, ◌≤◌, Bool, true, false, cond, eqb, List, [], ◌∷◌, ◌++◌, length, map, get_or, take, drop, Some, refl, sym, ap, subst, ◌∙◌, arith, inl, inr}
use Rattle.std.specs.Prelude.{◌&&◌, nat_lt, slice_get, IsTrue, option_map, ◌↔◌}
use Rattle.std.specs.List.{list_all}
use Rattle.std.proofs.lemmas.Bool.{cases_lt, eq-eqb, false≢true, ltb-true}
use Rattle.std.proofs.lemmas.Option.{slice_get-map, get_or_from_slice_get}
use Rattle.domains.specs.AllCodes.{all_codes}
use Rattle.domains.specs.Names.{is_same}
use Rattle.domains.specs.Tables.{fits, rank, product}
use Rattle.outcome_table.specs.declared.table.Results.{Results}
use Rattle.outcome_table.specs.Outcomes.{AreResultsOf, named}
use Rattle.task_code.specs.declared.instr.Instr.{Instr}
use Rattle.task_code.specs.Codes.{Exec, Computes}
use Rattle.transition_table.specs.declared.machine.Machine.{Machine}
use Rattle.transition_table.specs.declared.snapshot.Snapshot.{Snapshot}
use Rattle.transition_table.specs.declared.snapshot.Outcome.{Outcome}
use Rattle.transition_table.specs.Computed.{outcome_by, result_codes}
use Rattle.transition_table.specs.Orders.{codes_of}
use Rattle.transition_table.specs.Transitions.{Transition, reading, HasWidths, IsDeterministic}
use Rattle.task_image.specs.Verifying.{IsFirstWrong}
use Rattle.task_image.specs.inner.Walks.{AreLaws, IsWalk}
use Rattle.task_image.proofs.Prefixes.{none_some}
use Rattle.domains.proofs.Names.{same_self, same_texts}
use Rattle.polis_base.proofs.Bools.{and_first, and_second}
use Rattle.polis_base.proofs.Places.{length_map, some_is}
use Rattle.transition_table.proofs.SameCodes.{by_codes}

-- ---- equal lists
pub same_next : (a b : List ℕ) (v x : ℕ) → slice_get a v ≡ Some x → slice_get b v ≡ Some x
    → is_same (drop v a) (drop v b) ≡ is_same (drop (suc v) a) (drop (suc v) b)
same_next [] b v x p q = absurd (none_some x p)
same_next (y ∷ a) [] v x p q = absurd (none_some x q)
same_next (y ∷ a) (z ∷ b) zero x p q =
    let equal : y ≡ z = some_is y x p ∙ sym (some_is z x q) in
    ap (λ (t : Bool). t && is_same a b) (eq-eqb y z equal)
same_next (y ∷ a) (z ∷ b) (suc v) x p q = same_next a b v x p q

pub joined_same : (a b w : List ℕ) → length a ≤ length w
    → is_same (a ++ b) w ≡ (is_same a (take (length a) w) && is_same b (drop (length a) w))
joined_same [] b w le = refl
joined_same (x ∷ a) b [] le = absurd (omega (arith, le))
joined_same (x ∷ a) b (y ∷ w) le =
    by (eqb x y) _ _ _ (joined_same a b w (omega (arith, le)))
  where
    by : (t p q r : Bool) → p ≡ (q && r) → (t && p) ≡ ((t && q) && r)
    by true p q r e = e
    by false p q r e = refl

-- ---- outcomes by their codes
fires_same : (a b : Bool) → ◌≡◌ {A = ℕ} (cond a 1 0) (cond b 1 0) → a ≡ b
fires_same true true e = refl
fires_same true false e = absurd (omega (arith, e))
fires_same false true e = absurd (omega (arith, e))
fires_same false false e = refl

head_same : (x y : ℕ) (xs ys : List ℕ) → x ∷ xs ≡ y ∷ ys → x ≡ y
head_same x y xs ys e = cc

tail_same : (x y : ℕ) (xs ys : List ℕ) → x ∷ xs ≡ y ∷ ys → xs ≡ ys
tail_same x y xs ys e = cc

-- ---- the table
listed : (p : ℕ → Bool) (xs : List ℕ) (i x : ℕ) → list_all p xs ≡ true → slice_get xs i ≡ Some x
    → p x ≡ true
listed p [] i x all e = absurd (none_some x e)
listed p (y ∷ ys) zero x all e =
    subst (λ (z : ℕ). p z ≡ true) (some_is y x e) (and_first (p y) (list_all p ys) all)
listed p (y ∷ ys) (suc i) x all e = listed p ys i x (and_second (p y) (list_all p ys) all) e

pub number_low : (m : Machine) (t : Results) (i n : ℕ) → AreResultsOf m t
    → slice_get t.numbers i ≡ Some n → n < length t.outcomes
number_low m t i n is e =
    let l = listed (λ k. nat_lt k (length t.outcomes)) t.numbers i n is.within e in
    ltb-true n (length t.outcomes) l

pub table_long : AreLaws → (m : Machine) (t : Results) → AreResultsOf m t
    → length t.numbers ≡ product m.vars
table_long laws m t is =
    let a : length (named t.outcomes t.numbers) ≡ length t.numbers =
    length_map (λ k. get_or t.outcomes k []) t.numbers in
    let b : length (map (result_codes m) (all_codes m.vars)) ≡ length (all_codes m.vars) =
    length_map (result_codes m) (all_codes m.vars) in
    sym a ∙ ap length is.results ∙ b ∙ laws.counts_all m.vars

pub table_gives : AreLaws → (m : Machine) (t : Results) (s : List ℕ) (i n : ℕ) (codes : List ℕ)
    → AreResultsOf m t → IsTrue (fits m.vars s) → rank m.vars s ≡ i
    → slice_get t.numbers i ≡ Some n → slice_get t.outcomes n ≡ Some codes
    → codes ≡ result_codes m s
table_gives laws m t s i n codes is fit at number there =
    let a = slice_get-map (λ k. get_or t.outcomes k []) t.numbers i in
    let b = slice_get-map (result_codes m) (all_codes m.vars) i in
    let stands : slice_get (all_codes m.vars) i ≡ Some s =
    subst (λ (j : ℕ). slice_get (all_codes m.vars) j ≡ Some s) at (laws.stands_at_rank m.vars s fit)
    in
    let whole : Some (get_or t.outcomes n []) ≡ Some (result_codes m s) =
    sym (ap (option_map (λ k. get_or t.outcomes k [])) number) ∙ sym a
    ∙ ap (λ (xs : List (List ℕ)). slice_get xs i) is.results ∙ b
    ∙ ap (option_map (result_codes m)) stands in
    sym (get_or_from_slice_get t.outcomes n codes [] there)
    ∙ some_is (get_or t.outcomes n []) (result_codes m s) whole

-- ---- one snapshot
module _ (laws : AreLaws) (m : Machine) (c : List Instr) (s : List ℕ) (o : Outcome)
    (is : o ≡ Exec m c s) (widths : HasWidths m o) (codes : List ℕ)
    (gives : codes ≡ result_codes m s) where
  pub right_here : is_same (codes_of o) codes ≡ true → Transition m (reading s) (Exec m c s)
  right_here e =
      let by = laws.have_widths m (reading s) (outcome_by m m.rows s) (laws.outcome_by_rows m s) in
      let same = by_codes o (outcome_by m m.rows s) (widths.next ∙ sym by.next)
      (same_texts (codes_of o) codes e ∙ gives) in
      subst (λ (p : Outcome). Transition m (reading s) p) (sym same ∙ is) (laws.outcome_by_rows m s)

  pub wrong_here : IsDeterministic m → IsTrue (fits m.vars s)
      → is_same (codes_of o) codes ≡ false → ¬ Transition m (reading s) (Exec m c s)
  wrong_here det fit e moves =
      let same = laws.only_by_rows m s (Exec m c s) det fit moves in
      let equal : codes_of o ≡ codes = ap codes_of (is ∙ same) ∙ sym gives in
      false≢true (sym e ∙ subst (λ (xs : List ℕ). is_same (codes_of o) xs ≡ true) equal
      (same_self (codes_of o)))

-- ---- the walk
pub walk_next : AreLaws → (m : Machine) (c : List Instr) (s : Snapshot) (o : Outcome) (i : ℕ)
    (t : Snapshot) (p : Outcome) (moved : Bool)
    → IsWalk m c s o i
    → i < product m.vars
    → Transition m (reading s.codes) (Exec m c s.codes)
    → HasWidths m p
    → IsTrue (fits m.vars t.codes)
    → (IsTrue moved → rank m.vars t.codes ≡ rank m.vars s.codes + 1)
    → (IsTrue moved ↔ (rank m.vars s.codes + 1 < product m.vars))
    → IsWalk m c t p (i + 1)
walk_next laws m c s o i t p moved walk low right widths fit next last =
    let at = walk.next low in
    record {
      snapshot = fit;
      widths = widths;
      next = λ lt.
          let further : rank m.vars s.codes + 1 < product m.vars = omega (arith, at, lt) in
          next (last.1 further) ∙ ap (λ (n : ℕ). n + 1) at;
      right = λ u fits_u lt.
          elim (cases_lt (rank m.vars u) i) [
            | inl before ↦ walk.right u fits_u before
            | inr from ↦
                let same : rank m.vars s.codes ≡ rank m.vars u = omega (arith, at, lt, from) in
                subst (λ (v : List ℕ). Transition m (reading v) (Exec m c v))
                (laws.ranks_differ m.vars s.codes u walk.snapshot fits_u same) right
          ];
    }

pub walk_done : AreLaws → (m : Machine) (c : List Instr) (s : Snapshot) (o : Outcome) (i : ℕ)
    → IsWalk m c s o i → product m.vars ≤ i → Computes c m
walk_done laws m c s o i walk le t fit =
    let low = laws.ranks_below m.vars t fit in
    walk.right t fit (omega (arith, low, le))

pub walk_stops : (m : Machine) (c : List Instr) (s : Snapshot) (o : Outcome) (i : ℕ)
    → IsWalk m c s o i → i < product m.vars → ¬ Transition m (reading s.codes) (Exec m c s.codes)
    → IsFirstWrong m c s
walk_stops m c s o i walk low wrong =
    let at = walk.next low in
    record {
      fit = walk.snapshot;
      holds = wrong;
      least = λ t fit not.
          elim (cases_lt (rank m.vars t) i) [
            | inl before ↦ absurd (not (walk.right t fit before))
            | inr from ↦ omega (arith, at, from)
          ];
    }
