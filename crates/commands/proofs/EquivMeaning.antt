-- What `equiv` means.
use Rattle.std.proofs.Common.{◌≡◌, ◌⊎◌, inl, inr, ℕ, true, false, List, [], Option, Some, None, Result, Ok, Err, IfOk, IfErr, refl, ap, sym, subst, ◌∙◌, IsTrue}
use Rattle.polis_base.specs.Host.{Files, WhereTold}
use Rattle.transition_table.specs.declared.network.Network.{Network}
use Rattle.machine_equiv.specs.Comparing.{SameTables}
use Rattle.machine_equiv.specs.Shapes.{SameShape}
use Rattle.machine_equiv.proofs.OneComparison.{one_net_comparison}
use Rattle.polis_words.specs.declared.cause.Cause.{Cause}
use Rattle.polis_words.specs.declared.cause.Cause.TheVariants.{OtherShape, Differ as TablesDiffer}
use Rattle.polis_words.specs.declared.cause.Failure.{Failure}
use Rattle.polis_words.specs.declared.cause.Failure.TheVariants as failures
use Rattle.polis_words.specs.declared.status.Status.{Status}
use Rattle.polis_words.specs.declared.status.Status.TheVariants.{Refused, Differ}
use Rattle.polis_words.specs.Equiv.{EquivWords}
use Rattle.polis_words.specs.Lines.{cause_status}
use Rattle.output_files.specs.declared.product.Product.{Product}
use Rattle.commands.specs.Equiv.{HoldsEquiv, AcceptsEquiv, AreDiffering, IsEquivFault, OtherFails, FailsEquiv, IsDifferText, equiv_product, equiv_meaning}
use Rattle.input_files.specs.Inputs.{HoldsNet, NetFails}
use Rattle.commands.specs.Meanings.{MayEnd, finds_differing, ends_compared}
use Rattle.input_files.specs.Failures.{is_finding, is_failure, FileFails}
use Rattle.input_files.specs.Loads.{fails_unread, is_read_fault}
use Rattle.commands.specs.inner.Equiv.{IsEquivFailure, IsSameProduct}
use Rattle.commands.specs.inner.Lawful.{IsLawful}
use Rattle.commands.specs.Made.{IsMade, IsMadeProduct, IsMadeFailure}
use Rattle.polis_base.proofs.WhereTold.{told_from, told_both}
use Rattle.input_files.proofs.InputsFail.{net_refused, net_unfound}
use Rattle.commands.proofs.IsMade.{product_made, none_told}

-- ---- where a file fails
-- networks that are found not to be of one shape aren't
fault_refused : (net other : Network) (cause : Cause) → cause_status cause ≡ Refused
    → IsEquivFault net other cause → ¬ SameShape net other
fault_refused net other OtherShape s h = h
fault_refused net other (TablesDiffer printed) s h = cc
fault_refused net other cause s h = absurd h

other_refused : (files : Files) (equiv : EquivWords) (net other : Network) (cause : Cause)
    → cause_status cause ≡ Refused → OtherFails equiv files net cause
    → ¬ HoldsEquiv equiv files net other
other_refused files equiv net other cause s (inl h) k =
    net_refused files equiv.other cause other s h k.holds_other
other_refused files equiv net other cause s (inr h) k =
    fault_refused net other cause s (h.2 other k.holds_other) k.shape

equiv_refused : (files : Files) (equiv : EquivWords) (name : List ℕ) (cause : Cause)
    → cause_status cause ≡ Refused → FailsEquiv equiv files name cause → ¬ AcceptsEquiv equiv files
equiv_refused files equiv name cause s (inl h) (net, other, holds) =
    net_refused files equiv.net cause net s h.1 holds.holds_net
equiv_refused files equiv name cause s (inr h) (net, other, holds) =
    other_refused files equiv net other cause s (h.3 net holds.holds_net) holds

-- ---- where tables differ
-- networks of which a difference is printed haven't the same tables
text_differs : (files : Files) (equiv : EquivWords) (net other : Network) (printed : List ℕ)
    → HoldsEquiv equiv files net other → IsDifferText net other printed → ¬ SameTables net other
text_differs files equiv net other printed holds text same =
    none text.found (one_net_comparison net other None (Some text.found) holds.shape
    holds.holds_net.accepted.1 holds.holds_other.accepted.1 same text.first)
  where
    none : {X : Type 0} (x : X) → ◌≡◌ {A = Option X} None (Some x) → ⊥
    none x e = cc

-- what is found of accepted networks
found_at : (files : Files) (equiv : EquivWords) (net : Network) (printed : List ℕ)
    → OtherFails equiv files net (TablesDiffer printed)
    → (other : Network) × HoldsNet files equiv.other other
    × ((another : Network) → HoldsNet files equiv.other another
    → SameShape net another × IsDifferText net another printed)
found_at files equiv net printed (inl h) =
    absurd (net_unfound files equiv.other (TablesDiffer printed) refl h)
found_at files equiv net printed (inr h) = h

differing : (files : Files) (equiv : EquivWords) (name printed : List ℕ)
    → FailsEquiv equiv files name (TablesDiffer printed) → AreDiffering equiv files
differing files equiv name printed (inl h) =
    absurd (net_unfound files equiv.net (TablesDiffer printed) refl h.1)
differing files equiv name printed (inr (same, net, holds, fails)) =
    let found = found_at files equiv net printed (fails net holds) in
    let here = found.2 found.0 found.1 in
    record {
      accepted =
          (net, found.0, record { holds_net = holds; holds_other = found.1; shape = here.0 });
      differ = λ one other all.
          let there = found_at files equiv one printed (fails one all.holds_net) in
          text_differs files equiv one other printed all (there.2 other all.holds_other).1;
    }

shape_or_net : (files : Files) (equiv : EquivWords) (name : List ℕ) (cause : Cause)
    → FailsEquiv equiv files name cause → IsTrue (is_finding (cause_status cause))
    → (printed : List ℕ) × (cause ≡ TablesDiffer printed)
shape_or_net files equiv name cause (inl h) f =
    absurd (net_unfound files equiv.net cause f h.1)
shape_or_net files equiv name cause (inr (same, net, holds, fails)) f = by_fails (fails net holds)
  where
    of_fault : (other : Network) (cause : Cause) → IsTrue (is_finding (cause_status cause))
        → IsEquivFault net other cause → (printed : List ℕ) × (cause ≡ TablesDiffer printed)
    of_fault other OtherShape f h = cc
    of_fault other (TablesDiffer printed) f h = (printed, refl)
    of_fault other cause f h = absurd h

    by_fails : OtherFails equiv files net cause
        → (printed : List ℕ) × (cause ≡ TablesDiffer printed)
    by_fails (inl h) = absurd (net_unfound files equiv.other cause f h)
    by_fails (inr (other, held, faulty)) = of_fault other cause f (faulty other held)

found_differing : (files : Files) (equiv : EquivWords) (name : List ℕ) (cause : Cause)
    → FailsEquiv equiv files name cause → IsTrue (is_finding (cause_status cause))
    → finds_differing (AreDiffering equiv) (cause_status cause) files
found_differing files equiv name cause h f =
    let is = shape_or_net files equiv name cause h f in
    subst (λ (c : Cause). finds_differing (AreDiffering equiv) (cause_status c) files) (sym is.1)
    (differing files equiv name is.0
    (subst (λ (c : Cause). FailsEquiv equiv files name c) is.1 h))

differing_is : (P : Files → Type 0) (files : Files) (status : Status)
    → finds_differing P status files → (status ≡ Differ) × P files
differing_is P files Differ h = (refl, h)
differing_is P files other h = absurd h

pub equiv_lawful : (equiv : EquivWords) → IsLawful (equiv_meaning equiv)
equiv_lawful equiv = record {
  made_accepts = λ files product m. (m.net, m.other, m.holds);
  made_finds = λ files product status m found.
      (differing_is (AreDiffering equiv) files status found).1.differ m.net m.other m.holds m.same;
  refused = λ files name cause h s. equiv_refused files equiv name cause s h;
  found = λ files name cause h f. found_differing files equiv name cause h f;
  found_accepts = λ files status found.
      (differing_is (AreDiffering equiv) files status found).1.accepted;
  found_ends = λ files status found.
      ap ends_compared (differing_is (AreDiffering equiv) files status found).0;
  found_once = λ files s t h k.
      (differing_is (AreDiffering equiv) files s h).0
      ∙ sym (differing_is (AreDiffering equiv) files t k).0;
}

-- ---- what is made
-- the product of a comparison
equiv_made : (o : Option Files) (equiv : EquivWords) (net other : Network) (product : Product)
    → WhereTold o (λ files. HoldsNet files equiv.net net)
    → WhereTold o (λ files. HoldsNet files equiv.other other) → IsSameProduct net other product
    → IsMadeProduct (equiv_meaning equiv) o product
equiv_made o equiv net other product held others p =
    product_made (equiv_meaning equiv) o product (equiv_product net) p.made tt refl
    (told_both o (λ files. HoldsNet files equiv.net net)
    (λ files. HoldsNet files equiv.other other) _
    (λ files h k. record {
      net = net;
      other = other;
      holds = record { holds_net = h; holds_other = k; shape = p.shape };
      same = p.same;
      runs = p.runs;
      made = p.made;
    }) held others)

-- the first network isn't loaded, or isn't accepted
pub first_fails : (o : Option Files) (equiv : EquivWords) (failure : Failure)
    → FileFails equiv.net o (λ files. NetFails files equiv.net) failure
    → IsMadeFailure (equiv_meaning equiv) o failure
first_fails o equiv failures.NoMemory h = tt
first_fails o equiv (failures.File name cause more) (h, none) = (
  told_from o (λ files. NetFails files equiv.net cause) _ (λ files k. inl (h.0, k)) h.1,
  inr h.2,
  none_told (equiv_meaning equiv) o name.now cause more (λ told name cause. refl) none,
)

-- the first network is the one that its file holds
abbrev pub IsHeldAlone : EquivWords → Network → Files → Type 0
IsHeldAlone equiv net files = HoldsNet files equiv.net net
    × ((other : Network) → HoldsNet files equiv.net other → other ≡ net)

other_told : (o : Option Files) (equiv : EquivWords) (net : Network) (name : List ℕ)
    (cause : Cause) → name ≡ equiv.other → WhereTold o (IsHeldAlone equiv net)
    → WhereTold o (λ files. OtherFails equiv files net cause)
    → WhereTold o (λ files. FailsEquiv equiv files name cause)
other_told o equiv net name cause same held fails =
    told_both o (IsHeldAlone equiv net) (λ files. OtherFails equiv files net cause) _
    (λ files h f. inr (
      same,
      net,
      h.0,
      λ another k.
          subst (λ (n : Network). OtherFails equiv files n cause) (sym (h.1 another k)) f,
    )) held fails

-- the second one isn't loaded, or isn't accepted
pub second_fails : (o : Option Files) (equiv : EquivWords) (net : Network) (failure : Failure)
    → WhereTold o (λ files. HoldsNet files equiv.net net)
    → WhereTold o (λ files. (other : Network) → HoldsNet files equiv.net other → other ≡ net)
    → FileFails equiv.other o (λ files. NetFails files equiv.other) failure
    → IsMadeFailure (equiv_meaning equiv) o failure
second_fails o equiv net failures.NoMemory held one h = tt
second_fails o equiv net (failures.File name cause more) held one (h, none) = (
  other_told o equiv net name.now cause h.0
      (told_both o (λ files. HoldsNet files equiv.net net) (λ files. (other : Network)
      → HoldsNet files equiv.net other → other ≡ net) _ (λ files a b. (a, b)) held one)
      (told_from o (λ files. NetFails files equiv.other cause) _ (λ files k. inl k) h.1),
  inr h.2,
  none_told (equiv_meaning equiv) o name.now cause more (λ told name cause. refl) none,
)

-- the statuses of what two networks are found to be
fault_ends : (net other : Network) (cause : Cause) → IsEquivFault net other cause
    → IsTrue (ends_compared (cause_status cause)) ⊎ IsTrue (is_failure true (cause_status cause))
fault_ends net other OtherShape h = inr refl
fault_ends net other (TablesDiffer printed) h = inl refl
fault_ends net other cause h = absurd h

-- the second one isn't the same as the first
pair_fails : (o : Option Files) (equiv : EquivWords) (net other : Network) (name : List ℕ)
    (cause : Cause) (more : List ℕ) → name ≡ equiv.other
    → WhereTold o (λ files. HoldsNet files equiv.net net)
    → WhereTold o (λ files. (another : Network) → HoldsNet files equiv.net another → another ≡ net)
    → WhereTold o (λ files. HoldsNet files equiv.other other)
    → WhereTold o (λ files. (another : Network) → HoldsNet files equiv.other another
    → another ≡ other)
    → IsEquivFault net other cause → more ≡ []
    → WhereTold o (λ files. FailsEquiv equiv files name cause)
    × MayEnd (equiv_meaning equiv) (cause_status cause)
    × (equiv_meaning equiv).explains o name cause more
pair_fails o equiv net other name cause more same held one held_other one_other fault none = (
  other_told o equiv net name cause same
      (told_both o (λ files. HoldsNet files equiv.net net) (λ files. (another : Network)
      → HoldsNet files equiv.net another → another ≡ net) _ (λ files a b. (a, b)) held one)
      (told_both o (λ files. HoldsNet files equiv.other other) (λ files. (another : Network)
      → HoldsNet files equiv.other another → another ≡ other) _
      (λ files h k. inr (
        other,
        h,
        λ another there.
            subst (λ (n : Network). IsEquivFault net n cause) (sym (k another there)) fault,
      )) held_other one_other),
  fault_ends net other cause fault,
  none_told (equiv_meaning equiv) o name cause more (λ told name cause. refl) none,
)

-- why networks that were loaded aren't the same is no failed load
fault_loaded : (net other : Network) (cause : Cause) → IsEquivFault net other cause
    → is_read_fault cause ≡ false
fault_loaded net other OtherShape h = refl
fault_loaded net other (TablesDiffer printed) h = refl
fault_loaded net other cause h = absurd h

pub compared_loaded : {X : Type 0} (name : List ℕ) (net other : Network)
    (result : Result X Failure) → IfErr result (IsEquivFailure name net other)
    → fails_unread result ≡ false
compared_loaded name net other (Ok x) h = refl
compared_loaded name net other (Err failures.NoMemory) h = refl
compared_loaded name net other (Err (failures.File file cause more)) h =
    fault_loaded net other cause h.1

pub compared_made : (o : Option Files) (equiv : EquivWords) (net other : Network)
    (result : Result Product Failure) → WhereTold o (λ files. HoldsNet files equiv.net net)
    → WhereTold o (λ files. (another : Network) → HoldsNet files equiv.net another → another ≡ net)
    → WhereTold o (λ files. HoldsNet files equiv.other other)
    → WhereTold o (λ files. (another : Network) → HoldsNet files equiv.other another
    → another ≡ other)
    → IfOk result (IsSameProduct net other)
    → IfErr result (IsEquivFailure equiv.other net other) → IsMade (equiv_meaning equiv) o result
compared_made o equiv net other (Ok product) held one held_other one_other made failed =
    equiv_made o equiv net other product held held_other made
compared_made o equiv net other (Err failures.NoMemory) held one held_other one_other made failed =
    tt
compared_made o equiv net other (Err (failures.File name cause more)) held one held_other one_other
    made (same, fault, none) =
    pair_fails o equiv net other name.now cause more same held one held_other one_other fault none
