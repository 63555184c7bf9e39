use Rattle.std.proofs.Common.{◌≡◌, ◌∙◌, ⊎_elim, ℕ, zero, suc, ◌+◌, ◌-◌, ◌*◌, ◌<◌, [], List, length, drop, get_or, slice_index, slice_get, Some, get_or-set_same, arith, sym, ap, subst}
use Rattle.std.specs.Prelude.{◌↔◌}
use Rattle.std.proofs.lemmas.Bool.{cases_lt}
use Rattle.std.proofs.lemmas.Option.{get_or_from_slice_get}
use Rattle.domains.specs.Tables.{product}
use Rattle.transition_table.specs.declared.machine.Machine.{Machine}
use Rattle.order_sift.specs.inner.Below.{Below}
use Rattle.order_sift.specs.declared.points.Points.{Points}
use Rattle.order_sift.specs.inner.Classes.{snapshot_at}
use Rattle.order_sift.specs.inner.Pairs.{AreBelow, HasRoom}
use Rattle.order_sift.specs.inner.Points.{IsPrepared}
use Rattle.order_sift.proofs.AreSizes.{product_some}
use Rattle.order_sift.proofs.TruePoints.{snapshot_fits}
use Rattle.order_sift.proofs.AreClasses.{variable_freed, neighbours, within_of}
use Rattle.order_sift.proofs.points.free_variable.Goals as goal
use Rattle.transition_table.proofs.Ranges.{below_size}
use Rattle.domains.proofs.Ranks.{length_fits}
use Rattle.domains.proofs.FittingCodes.{product_after, size_some, sizes_drop}

pub lists_from-stride-requires-clause-few : goal.lists_from-stride-requires-clause-few
lists_from-stride-requires-clause-few c =
    let d = product_after c.args.m.now.vars (c.from-3.result + 1) c.var_count.ensures.sizes in
    let few = c.requires.few in
    omega arith

-- the codes of a variable that were read
column_of : (codes : List (List ℕ)) (v from : ℕ) (got shown : List ℕ) → from ≡ v
    → slice_get codes from ≡ Some got → shown ≡ got → get_or codes v [] ≡ shown
column_of codes v from got shown at there is =
    ap (λ k. get_or codes k []) (sym at) ∙ get_or_from_slice_get codes from got [] there ∙ sym is

stride_is : (vars : List ℕ) (v from stride : ℕ) → from ≡ v
    → stride ≡ product (drop (from + 1) vars) → stride ≡ product (drop (v + 1) vars)
stride_is vars v from stride at is = is ∙ ap (λ k. product (drop (k + 1) vars)) at

size_of : (vars : List ℕ) (v from size : ℕ) → from ≡ v → slice_get vars from ≡ Some size
    → slice_index vars v ≡ size
size_of vars v from size at there =
    ap (slice_index vars) (sym at) ∙ get_or_from_slice_get vars from size 0 there

-- the snapshot with another code is one, and has that code
at_code : (m : Machine) (below : Below) (v stride : ℕ) (codes : List ℕ) → v < length m.vars
    → ((i : ℕ) → i < product m.vars → slice_index codes i ≡ slice_index (snapshot_at m i) v)
    → stride ≡ product (drop (v + 1) m.vars) → (i c : ℕ) → i < product m.vars
    → c < slice_index m.vars v
    → (i + c * stride - slice_index codes i * stride < product m.vars)
    × (slice_index codes (i + c * stride - slice_index codes i * stride) ≡ c)
at_code m below v stride codes lv code is i c li lc =
    let n = neighbours m below i v c li lv lc in
    let l = length_fits m.vars (snapshot_at m i) (snapshot_fits m below i li) in
    let e : i + c * stride - slice_index codes i * stride
    ≡ i + c * product (drop (v + 1) m.vars) - slice_index (snapshot_at m i) v * product
    (drop (v + 1) m.vars) =
    ap (λ (k : ℕ). i + c * k - slice_index codes i * k) is
    ∙ ap (λ (k : ℕ). i + c * product (drop (v + 1) m.vars) - k * product (drop (v + 1) m.vars))
    (code i li) in (
      subst (λ (k : ℕ). k < product m.vars) (sym e) n.within,
      ap (slice_index codes) e
          ∙ code
          (i + c * product (drop (v + 1) m.vars) - slice_index (snapshot_at m i) v * product
          (drop (v + 1) m.vars))
          n.within ∙ ap (λ (xs : List ℕ). slice_index xs v) n.is
          ∙ get_or-set_same (snapshot_at m i) v c 0 (omega arith),
    )

-- what a chain of pairs tells of the snapshots with the codes up to one
module _ (n size stride : ℕ) (classes codes chain : List ℕ)
    (at : (i c : ℕ) → i < n → c < size
    → (i + c * stride - slice_index codes i * stride < n)
    × (slice_index codes (i + c * stride - slice_index codes i * stride) ≡ c))
    (first : (i : ℕ) → i < n → slice_index codes i ≡ 0
    → slice_index chain i ≡ slice_index classes i)
    (pairs : (i j : ℕ) → i < n → j < n → 0 < slice_index codes i → 0 < slice_index codes j
    → (slice_index chain i ≡ slice_index chain j)
    ↔ ((slice_index chain (i - stride) ≡ slice_index chain (j - stride))
    × (slice_index classes i ≡ slice_index classes j))) where
  told : (c : ℕ) → c < size → (i j : ℕ) → i < n → j < n
      → (slice_index chain (i + c * stride - slice_index codes i * stride)
      ≡ slice_index chain (j + c * stride - slice_index codes j * stride))
      ↔ ((d : ℕ) → d < c + 1
      → slice_index classes (i + d * stride - slice_index codes i * stride)
      ≡ slice_index classes (j + d * stride - slice_index codes j * stride))
  told zero lc i j li lj =
      let one = at i 0 li lc in
      let other = at j 0 lj lc in
      let e = first (i + 0 * stride - slice_index codes i * stride) one.0 one.1 in
      let f = first (j + 0 * stride - slice_index codes j * stride) other.0 other.1 in (
        λ h d ld.
            let z : 0 ≡ d = omega arith in
            subst (λ (k : ℕ). slice_index classes (i + k * stride - slice_index codes i * stride)
            ≡ slice_index classes (j + k * stride - slice_index codes j * stride)) z
            (sym e ∙ h ∙ f),
        λ each. e ∙ each 0 (omega arith) ∙ sym f,
      )
  told (suc c) lc i j li lj =
      let one = at i (suc c) li lc in
      let other = at j (suc c) lj lc in
      let both = pairs (i + suc c * stride - slice_index codes i * stride)
      (j + suc c * stride - slice_index codes j * stride) one.0 other.0
      (positive c one.1) (positive c other.1) in
      let so_far = told c (omega arith) i j li lj in
      let bi = ap (slice_index chain) (back i c (slice_index codes i * stride)) in
      let bj = ap (slice_index chain) (back j c (slice_index codes j * stride)) in (
        λ h d ld.
            let parts = both.0 h in
            ⊎_elim
            (λ less. so_far.0 (sym bi ∙ parts.0 ∙ bj) d less)
            (λ more.
            let z : suc c ≡ d = omega arith in
            subst (λ (k : ℕ). slice_index classes (i + k * stride - slice_index codes i * stride)
            ≡ slice_index classes (j + k * stride - slice_index codes j * stride)) z parts.1)
            (cases_lt d (c + 1)),
        λ each. both.1 (
          bi ∙ so_far.1 (λ d ld. each d (omega arith)) ∙ sym bj,
          each (suc c) (omega arith),
        ),
      )
    where
      positive : (c : ℕ) {x : ℕ} → x ≡ suc c → 0 < x
      positive c e = omega arith

      back : (i c a : ℕ) → i + suc c * stride - a - stride ≡ i + c * stride - a
      back i c a = omega arith

  -- and of all its codes
  told_all : (last : ℕ) (made : List ℕ) → last + 1 ≡ size
      → ((i : ℕ) → i < n → slice_index made i
      ≡ slice_index chain (i + last * stride - slice_index codes i * stride)) → (i j : ℕ) → i < n
      → j < n → (slice_index made i ≡ slice_index made j)
      ↔ ((d : ℕ) → d < size
      → slice_index classes (i + d * stride - slice_index codes i * stride)
      ≡ slice_index classes (j + d * stride - slice_index codes j * stride))
  told_all last made all is i j li lj =
      let whole = told last (omega arith) i j li lj in (
        λ h d ld. whole.0 (sym (is i li) ∙ h ∙ is j lj) d (omega arith),
        λ each. is i li ∙ whole.1 (λ d ld. each d (omega arith)) ∙ sym (is j lj),
      )

pub chained-requires-clause-room : goal.chained-requires-clause-room
chained-requires-clause-room c =
    let long = ap (λ (xs : List ℕ). length xs) c.as_slice-fixed.ensures ∙ c.requires.numbers.long in
    subst (λ (k : ℕ). HasRoom k c.args.seen.now) (sym long) c.requires.room

pub chained-requires-clause-few : goal.chained-requires-clause-few
chained-requires-clause-few c =
    let long = ap (λ (xs : List ℕ). length xs) c.as_slice-fixed.ensures ∙ c.requires.numbers.long in
    let few = c.requires.few in
    omega arith

pub chained-requires-clause-codes : goal.chained-requires-clause-codes
chained-requires-clause-codes c =
    let m = c.args.m.now in
    let prepared = c.requires.prepared in
    let some = size_some m.vars c.args.v c.var_count.ensures.sizes c.requires.var in
    let column = column_of c.args.points.now.codes c.args.v c.from-2.result c.get.result.now
    c.as_slice-codes.result.now c.from-2.ensures c.get.ensures c.as_slice-codes.ensures in
    record {
      long = ap (λ (xs : List ℕ). length xs) (sym column)
          ∙ prepared.variables.long c.args.v c.requires.var ∙ sym c.requires.numbers.long
          ∙ ap (λ (xs : List ℕ). length xs) (sym c.as_slice-fixed.ensures);
      within = within_of m c.laws_below.ensures c.args.points.now.codes prepared.variables c.args.v
          0 c.lists_from-stride.result c.as_slice-codes.result.now c.requires.var (omega arith)
          (stride_is m.vars c.args.v c.from-3.result c.lists_from-stride.result c.from-3.ensures
          c.lists_from-stride.ensures) column;
    }

pub chained-requires-clause-stride : goal.chained-requires-clause-stride
chained-requires-clause-stride c =
    let vars = c.args.m.now.vars in
    let some = product_some (drop (c.args.v + 1) vars)
    (sizes_drop vars (c.args.v + 1) c.var_count.ensures.sizes) in
    let is = stride_is vars c.args.v c.from-3.result c.lists_from-stride.result c.from-3.ensures
    c.lists_from-stride.ensures in
    omega arith

pub chained-requires-clause-below : goal.chained-requires-clause-below
chained-requires-clause-below c =
    let long = ap (λ (xs : List ℕ). length xs) c.as_slice-fixed.ensures ∙ c.requires.numbers.long in
    subst (λ (k : ℕ). AreBelow k c.as_slice-fixed.result.now) (sym long)
    (subst (λ (xs : List ℕ). AreBelow (product c.args.m.now.vars) xs)
    (sym c.as_slice-fixed.ensures) c.requires.numbers.below)

pub overflow_sub-size : goal.overflow_sub-size
overflow_sub-size c =
    let vars = c.args.m.now.vars in
    let some = size_some vars c.args.v c.var_count.ensures.sizes c.requires.var in
    let size = size_of vars c.args.v c.from.result c.get-size.result.now c.from.ensures
    c.get-size.ensures in
    omega arith

-- the length of the column that was read
column_long : (m : Machine) (points : Points) (v : ℕ) (shown : List ℕ) → IsPrepared m points
    → v < length m.vars → get_or points.codes v [] ≡ shown → length shown ≡ product m.vars
column_long m points v shown prepared lv column =
    ap (λ (xs : List ℕ). length xs) (sym column) ∙ prepared.variables.long v lv

column_code : (m : Machine) (points : Points) (v : ℕ) (shown : List ℕ) → IsPrepared m points
    → v < length m.vars → get_or points.codes v [] ≡ shown → (i : ℕ) → i < product m.vars
    → slice_index shown i ≡ slice_index (snapshot_at m i) v
column_code m points v shown prepared lv column i li =
    ap (λ (xs : List ℕ). slice_index xs i) (sym column) ∙ prepared.variables.code v i lv li

pub take_last-requires-clause-few : goal.take_last-requires-clause-few
take_last-requires-clause-few c =
    let column = column_of c.args.points.now.codes c.args.v c.from-2.result c.get.result.now
    c.as_slice-codes.result.now c.from-2.ensures c.get.ensures c.as_slice-codes.ensures in
    let long = column_long c.args.m.now c.args.points.now c.args.v c.as_slice-codes.result.now
    c.requires.prepared c.requires.var column in
    let few = c.requires.few in
    omega arith

pub take_last-requires-clause-numbers : goal.take_last-requires-clause-numbers
take_last-requires-clause-numbers c =
    let column = column_of c.args.points.now.codes c.args.v c.from-2.result c.get.result.now
    c.as_slice-codes.result.now c.from-2.ensures c.get.ensures c.as_slice-codes.ensures in
    let long = ap (λ (xs : List ℕ). length xs) c.as_slice-fixed.ensures ∙ c.requires.numbers.long in
    let codes_long = column_long c.args.m.now c.args.points.now c.args.v
    c.as_slice-codes.result.now c.requires.prepared c.requires.var column in
    record {
      long = c.in_ok-numbers.ensures.numbers.long ∙ long ∙ sym codes_long;
      below = subst (λ (k : ℕ). AreBelow k c.in_ok-numbers.numbers) (long ∙ sym codes_long)
          c.in_ok-numbers.ensures.numbers.below;
    }

pub take_last-requires-clause-some : goal.take_last-requires-clause-some
take_last-requires-clause-some c =
    let vars = c.args.m.now.vars in
    let some = product_some (drop (c.args.v + 1) vars)
    (sizes_drop vars (c.args.v + 1) c.var_count.ensures.sizes) in
    let is = stride_is vars c.args.v c.from-3.result c.lists_from-stride.result c.from-3.ensures
    c.lists_from-stride.ensures in
    omega arith

pub take_last-requires-clause-stride : goal.take_last-requires-clause-stride
take_last-requires-clause-stride c =
    let vars = c.args.m.now.vars in
    let low = product_after vars (c.args.v + 1) c.var_count.ensures.sizes in
    let is = stride_is vars c.args.v c.from-3.result c.lists_from-stride.result c.from-3.ensures
    c.lists_from-stride.ensures in
    let few = c.requires.few in
    omega arith

pub take_last-requires-clause-most : goal.take_last-requires-clause-most
take_last-requires-clause-most c i li =
    let m = c.args.m.now in
    let v = c.args.v in
    let lv = c.requires.var in
    let column = column_of c.args.points.now.codes v c.from-2.result c.get.result.now
    c.as_slice-codes.result.now c.from-2.ensures c.get.ensures c.as_slice-codes.ensures in
    let long = column_long m c.args.points.now v c.as_slice-codes.result.now c.requires.prepared lv
    column in
    let inside : i < product m.vars = omega arith in
    let code = column_code m c.args.points.now v c.as_slice-codes.result.now c.requires.prepared lv
    column i inside in
    let low = below_size m.vars (snapshot_at m i) v (snapshot_fits m c.laws_below.ensures i inside)
    lv in
    let size = size_of m.vars v c.from.result c.get-size.result.now c.from.ensures
    c.get-size.ensures in
    omega arith

pub take_last-requires-clause-steps : goal.take_last-requires-clause-steps
take_last-requires-clause-steps c i li more =
    let m = c.args.m.now in
    let v = c.args.v in
    let lv = c.requires.var in
    let stride = c.lists_from-stride.result in
    let codes = c.as_slice-codes.result.now in
    let column = column_of c.args.points.now.codes v c.from-2.result c.get.result.now codes
    c.from-2.ensures c.get.ensures c.as_slice-codes.ensures in
    let long = column_long m c.args.points.now v codes c.requires.prepared lv column in
    let size = size_of m.vars v c.from.result c.get-size.result.now c.from.ensures
    c.get-size.ensures in
    let is = stride_is m.vars v c.from-3.result stride c.from-3.ensures
    c.lists_from-stride.ensures in
    let next = at_code m c.laws_below.ensures v stride codes lv
    (column_code m c.args.points.now v codes c.requires.prepared lv column) is i
    (slice_index codes i + 1) (omega arith) (omega arith) in
    let e = onward i (slice_index codes i) stride in
    subst (λ (k : ℕ). (k < length codes) × (slice_index codes k ≡ slice_index codes i + 1)) e (
      subst (λ (n : ℕ). i + (slice_index codes i + 1) * stride - slice_index codes i * stride < n)
          (sym long) next.0,
      next.1,
    )
  where
    onward : (i code stride : ℕ) → i + (code + 1) * stride - code * stride ≡ i + stride
    onward i code stride = omega arith

pub returns-clause-classes : goal.returns-clause-classes
returns-clause-classes c =
    let m = c.args.m.now in
    let n = product m.vars in
    let v = c.args.v in
    let lv = c.requires.var in
    let stride = c.lists_from-stride.result in
    let codes = c.as_slice-codes.result.now in
    let fixed = c.as_slice-fixed.result.now in
    let chain = c.in_ok-numbers.numbers in
    let made = c.take_last.new.numbers in
    let some = size_some m.vars v c.var_count.ensures.sizes lv in
    let size = size_of m.vars v c.from.result c.get-size.result.now c.from.ensures
    c.get-size.ensures in
    let last = c.get-size.result.now - 1 in
    let column = column_of c.args.points.now.codes v c.from-2.result c.get.result.now codes
    c.from-2.ensures c.get.ensures c.as_slice-codes.ensures in
    let code : (i : ℕ) → i < n → slice_index codes i ≡ slice_index (snapshot_at m i) v =
    λ i li. ap (λ (xs : List ℕ). slice_index xs i) (sym column)
    ∙ c.requires.prepared.variables.code v i lv li in
    let is = stride_is m.vars v c.from-3.result stride c.from-3.ensures
    c.lists_from-stride.ensures in
    let long : length fixed ≡ n = ap (λ (xs : List ℕ). length xs) c.as_slice-fixed.ensures
    ∙ c.requires.numbers.long in
    let chain_long : length chain ≡ n = c.in_ok-numbers.ensures.numbers.long ∙ long in
    let first = subst (λ (k : ℕ). (i : ℕ) → i < k → slice_index codes i ≡ 0
    → slice_index chain i ≡ slice_index fixed i) long c.in_ok-numbers.ensures.first in
    let pairs = subst (λ (k : ℕ). (i j : ℕ) → i < k → j < k → 0 < slice_index codes i
    → 0 < slice_index codes j → (slice_index chain i ≡ slice_index chain j)
    ↔ ((slice_index chain (i - stride) ≡ slice_index chain (j - stride))
    × (slice_index fixed i ≡ slice_index fixed j))) long c.in_ok-numbers.ensures.more in
    let codes_long = column_long m c.args.points.now v codes c.requires.prepared lv column in
    let each = subst (λ (k : ℕ). (i : ℕ) → i < k → slice_index made i
    ≡ slice_index chain (i + last * stride - slice_index codes i * stride)) codes_long
    c.take_last.ensures.each in
    let end : last + 1 ≡ slice_index m.vars v = omega arith in
    let told = told_all n (slice_index m.vars v) stride fixed codes chain
    (at_code m c.laws_below.ensures v stride codes lv code is) first pairs last made end each in
    let same = subst (λ (xs : List ℕ). (i j : ℕ) → i < n → j < n
    → (slice_index made i ≡ slice_index made j)
    ↔ ((k : ℕ) → k < slice_index m.vars v
    → slice_index xs (i + k * stride - slice_index codes i * stride)
    ≡ slice_index xs (j + k * stride - slice_index codes j * stride))) c.as_slice-fixed.ensures
    told in
    variable_freed m c.laws_below.ensures v c.args.classes.now codes made stride lv code is
    (c.take_last.ensures.numbers.long ∙ codes_long)
    (subst (λ (k : ℕ). AreBelow k made) codes_long c.take_last.ensures.numbers.below) same

pub returns-clause-numbers : goal.returns-clause-numbers
returns-clause-numbers c =
    let column = column_of c.args.points.now.codes c.args.v c.from-2.result c.get.result.now
    c.as_slice-codes.result.now c.from-2.ensures c.get.ensures c.as_slice-codes.ensures in
    let long = column_long c.args.m.now c.args.points.now c.args.v c.as_slice-codes.result.now
    c.requires.prepared c.requires.var column in
    record {
      long = c.take_last.ensures.numbers.long ∙ long;
      below = subst (λ (k : ℕ). AreBelow k c.take_last.new.numbers) long
          c.take_last.ensures.numbers.below;
    }
