-- The place of a delivery's origin.
use Rattle.std.specs.Prelude.{◌≡◌, ℕ, zero, suc, ◌+◌, ◌-◌, ◌<◌, ◌≤◌, Bool, true, false, cond, List, [], ◌∷◌, ◌++◌, filter, flat_map, length, take, replicate, get_or, slice_get, Option, Some, IsTrue, IsSomeAnd}
use Rattle.std.proofs.Common.{refl, sym, ap, ◌∙◌, subst, inl, inr, arith, length-append}
use Rattle.std.proofs.lemmas.Bool.{cases_lt}
use Rattle.std.proofs.lemmas.List.{get_or_append_left, get_or-append_right, length-replicate, take-take}
use Rattle.std.proofs.lemmas.Option.{slice_get_within}
use Rattle.transition_table.specs.declared.decl.Party.TheVariants.{Machine as Sender}
use Rattle.transition_table.specs.declared.network.Network.{Network}
use Rattle.journals.specs.declared.entry.Entry.{Entry}
use Rattle.journals.specs.declared.entry.TraceItem.{TraceItem}
use Rattle.journals.specs.declared.stamped.Stamped.{Stamped}
use Rattle.journals.specs.Journals.{reads, is_firing_of, emissions, delivered, sent}
use Rattle.journals.specs.Laws.{PrefixesAreLegal, GoesOnBySteps}
use Rattle.journals.specs.Logs.{stamped, with_stamps}
use Rattle.journals.specs.StampLaws.{OriginIsFiring}
use Rattle.journals.specs.Stamps.{once_each, stamps_sent}
use Rattle.journals.proofs.Origins.{OwnStamps, own_stamps}
use Rattle.journals.proofs.StampSteps.{length_prefix, entries_with_stamps, take_with_stamps, as_many_sent}

-- ---- the firing of the n-th of what s has sent to m

sent_by_firing : (net : Network) (s m : ℕ) (x : Stamped) (xs : List Stamped)
    → is_firing_of s x.entry ≡ true
    → stamps_sent net s m (x ∷ xs) ≡ once_each net m x ++ stamps_sent net s m xs
sent_by_firing net s m x xs is =
    let later : List Stamped = filter (λ p. is_firing_of s p.entry) xs in
    ap (λ b. flat_map (once_each net m) (cond b (x ∷ later) later)) is

sent_by_other : (net : Network) (s m : ℕ) (x : Stamped) (xs : List Stamped)
    → is_firing_of s x.entry ≡ false → stamps_sent net s m (x ∷ xs) ≡ stamps_sent net s m xs
sent_by_other net s m x xs is =
    let later : List Stamped = filter (λ p. is_firing_of s p.entry) xs in
    ap (λ b. flat_map (once_each net m) (cond b (x ∷ later) later)) is

same_at : (n k t : ℕ) → n < k → get_or (replicate k t) n 0 ≡ t
same_at n zero t h = absurd (omega arith)
same_at zero (suc k) t h = refl
same_at (suc n) (suc k) t h = same_at n k t (omega arith)

-- the place q of the firing x whose emissions to m have the n-th among them
record Found (net : Network) (s m n : ℕ) (xs : List Stamped) : Type 0 where
  q : ℕ
  x : Stamped
  there : slice_get xs q ≡ Some x
  fires : is_firing_of s x.entry ≡ true
  from : length (stamps_sent net s m (take q xs)) ≤ n
  below : n < length (stamps_sent net s m (take (suc q) xs))
  stamp_is : get_or (stamps_sent net s m xs) n 0 ≡ x.stamp

find : (net : Network) (s m n : ℕ) (xs : List Stamped) → n < length (stamps_sent net s m xs)
    → Found net s m n xs
find net s m n [] h = absurd (omega arith)
find net s m n (x ∷ xs) h =
    cases (is_firing_of s x.entry) refl (λ k inside. find net s m k xs inside)
  where
    own : List ℕ
    own = once_each net m x

    later : List ℕ
    later = stamps_sent net s m xs

    here : is_firing_of s x.entry ≡ true → n < length own → Found net s m n (x ∷ xs)
    here is inside =
        let whole = sent_by_firing net s m x xs is in
        let one = ap length (sent_by_firing net s m x [] is) ∙ length-append own [] in
        let count : ℕ = length (filter (λ e. reads net m e.0) (emissions net x.entry)) in
        let size = length-replicate count x.stamp in
        record {
          q = zero;
          x = x;
          there = refl;
          fires = is;
          from = omega arith;
          below = omega arith;
          stamp_is =
              ap (λ l. get_or l n 0) whole ∙ get_or_append_left own later 0 n inside
              ∙ same_at n count x.stamp (omega arith);
        }

    further : is_firing_of s x.entry ≡ true → length own ≤ n → Found net s m (n - length own) xs
        → Found net s m n (x ∷ xs)
    further is past found =
        let whole = sent_by_firing net s m x xs is in
        let before =
        ap length (sent_by_firing net s m x (take found.q xs) is)
        ∙ length-append own (stamps_sent net s m (take found.q xs)) in
        let after =
        ap length (sent_by_firing net s m x (take (suc found.q) xs) is)
        ∙ length-append own (stamps_sent net s m (take (suc found.q) xs)) in
        let low = found.from in
        let high = found.below in
        record {
          q = suc found.q;
          x = found.x;
          there = found.there;
          fires = found.fires;
          from = omega arith;
          below = omega arith;
          stamp_is =
              ap (λ l. get_or l n 0) whole
              ∙ get_or-append_right own later (length own) n 0 refl past
              ∙ found.stamp_is;
        }

    passed : is_firing_of s x.entry ≡ false → Found net s m n xs → Found net s m n (x ∷ xs)
    passed is found =
        let before = ap length (sent_by_other net s m x (take found.q xs) is) in
        let after = ap length (sent_by_other net s m x (take (suc found.q) xs) is) in
        let low = found.from in
        let high = found.below in
        record {
          q = suc found.q;
          x = found.x;
          there = found.there;
          fires = found.fires;
          from = omega arith;
          below = omega arith;
          stamp_is = ap (λ l. get_or l n 0) (sent_by_other net s m x xs is) ∙ found.stamp_is;
        }

    cases : (b : Bool) → is_firing_of s x.entry ≡ b
        → ((k : ℕ) → k < length later → Found net s m k xs) → Found net s m n (x ∷ xs)
    cases false is rest =
        let size = ap length (sent_by_other net s m x xs is) in
        passed is (rest n (omega arith))
    cases true is rest =
        let size = ap length (sent_by_firing net s m x xs is) ∙ length-append own later in
        elim (cases_lt n (length own)) [
          | inl inside ↦ here is inside
          | inr past ↦ further is past (rest (n - length own) (omega arith))
        ]

-- ---- entries with their stamps

entry_there : (journal : List Entry) (ts : List ℕ) (q : ℕ) (x : Stamped)
    → slice_get (with_stamps journal ts) q ≡ Some x
    → (slice_get journal q ≡ Some x.entry) × (get_or ts q 0 ≡ x.stamp)
entry_there [] ts q x h = absurd (cc)
entry_there (e ∷ journal) [] q x h = absurd (cc)
entry_there (e ∷ journal) (t ∷ ts) zero x h =
    let same : stamped t e ≡ x = cc in
    (ap (λ (y : Stamped). Some y.entry) same, ap (λ (y : Stamped). y.stamp) same)
entry_there (e ∷ journal) (t ∷ ts) (suc q) x h = entry_there journal ts q x h

there_before : {X : Type 0} (xs : List X) (p q : ℕ) (x : X) → slice_get (take p xs) q ≡ Some x
    → (q < p) × (slice_get xs q ≡ Some x)
there_before xs zero q x h = absurd (cc)
there_before [] (suc p) q x h = absurd (cc)
there_before (y ∷ xs) (suc p) zero x h = (omega arith, h)
there_before (y ∷ xs) (suc p) (suc q) x h =
    let rest = there_before xs p q x h in (omega arith, rest.1)

-- ---- the origin

sent_prefix : (net : Network) (trace : List TraceItem) (s m : ℕ) (journal : List Entry)
    (ts : List ℕ) (p q : ℕ) → length ts ≡ length journal → q ≤ p → q ≤ length journal
    → length (stamps_sent net s m (take q (take p (with_stamps journal ts))))
    ≡ length (sent net trace (Sender s) m (take q journal))
sent_prefix net trace s m journal ts p q many within inside =
    let a = length_prefix journal q inside in
    let b = length_prefix ts q (omega arith) in
    ap (λ (l : List Stamped). length (stamps_sent net s m l))
    (take-take q p (with_stamps journal ts) within ∙ take_with_stamps journal ts q)
    ∙ as_many_sent net trace s m (with_stamps (take q journal) (take q ts))
    ∙ ap (λ (j : List Entry). length (sent net trace (Sender s) m j))
    (entries_with_stamps (take q journal) (take q ts) (omega arith))

pub origin_is_firing : PrefixesAreLegal → GoesOnBySteps → OriginIsFiring
origin_is_firing prefixes steps net trace journal ts p s m event code legal many at =
    let n : ℕ = length (delivered (Sender s) m (take p journal)) in
    let all : List Stamped = with_stamps journal ts in
    let own : OwnStamps net journal ts p s m event code =
    own_stamps prefixes steps net trace journal ts p s m event code legal many at in
    let found = find net s m n (take p all) own.within in
    let before = there_before all p found.q found.x found.there in
    let there = entry_there journal ts found.q found.x before.1 in
    let inside = slice_get_within journal found.q found.x.entry there.0 in
    let low = found.from in
    let high = found.below in
    let next : found.q + 1 ≡ suc found.q = omega arith in
    let start = sent_prefix net trace s m journal ts p found.q many (omega arith) (omega arith) in
    let end =
    sent_prefix net trace s m journal ts p (suc found.q) many (omega arith) (omega arith) in
    let end_is = ap (λ k. length (sent net trace (Sender s) m (take k journal))) next in (
      found.q,
      record {
        before = before.0;
        firing =
            subst (λ (o : Option Entry). IsSomeAnd o (λ entry. IsTrue (is_firing_of s entry)))
            (sym there.0) found.fires;
        from = omega arith;
        below = omega arith;
      },
      own.origin_is ∙ ap (λ t. t ∷ []) (found.stamp_is ∙ sym there.1),
    )
