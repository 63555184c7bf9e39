-- What a list of stamped entries owes to be least: for logs that were merged.
use Rattle.std.specs.Prelude.{◌≡◌, ℕ, zero, suc, Bool, true, false, cond, nat_le, List, [], ◌∷◌, ◌++◌, filter, flat_map, length, take, drop, replicate}
use Rattle.std.specs.List.{list_all, cons_option}
use Rattle.std.proofs.Common.{refl, sym, ap, ◌∙◌, subst, arith, append_assoc}
use Rattle.std.proofs.lemmas.List.{append-nil}
use Rattle.std.proofs.lemmas.List.Concat.{flat_map-append}
use Rattle.std.proofs.lemmas.List.Elements.{filter-append}
use Rattle.std.proofs.lemmas.List.Folds.{list_all-append}
use Rattle.std.proofs.lemmas.Bool.{leb-true, le-leb, eq-eqb, and_parts, and_from}
use Rattle.std.proofs.Math.Nat.{max-zero}
use Rattle.transition_table.specs.declared.decl.Party.{Party}
use Rattle.transition_table.specs.declared.decl.Party.TheVariants.{Env, Machine as Sender}
use Rattle.transition_table.specs.declared.network.Network.{Network}
use Rattle.journals.specs.declared.entry.Entry.{Entry}
use Rattle.journals.specs.declared.entry.Entry.TheVariants.{Dep, Rea}
use Rattle.journals.specs.declared.stamped.Stamped.{Stamped}
use Rattle.journals.specs.Journals.{reads, is_firing_of, emissions, delivery, delivered}
use Rattle.journals.specs.Logs.{entries, of_machine, stamped, stamps as stamps_of}
use Rattle.journals.specs.Moved.{machine_of}
use Rattle.journals.specs.Stamps.{greatest, stamps_at, once_each, stamps_sent, least_stamp, least_after}
use Rattle.journals.specs.StampLaws.{AllLeast, LeastByPlaces, StampsByOwn, origin_in, AllLeastIn, not_falling, MergedAreLeast}
use Rattle.journals.proofs.OwnEntries.{filter_of_filter, firing_is_own, landing_is_own}
use Rattle.journals.proofs.LeastStamps.{greatest_right}

least_by : (net : Network) (before xs : List Stamped) → AllLeast net before xs
    → least_after net before (entries xs) ≡ stamps_of xs
least_by net before [] h = refl
least_by net before (x ∷ xs) h =
    ap (λ u. u ∷ least_after net (before ++ stamped u x.entry ∷ []) (entries xs)) (sym h.0)
    ∙ ap (λ (l : List ℕ). x.stamp ∷ l) (least_by net (before ++ x ∷ []) xs h.1)

pub least_by_places : LeastByPlaces
least_by_places net xs h = least_by net [] xs h

stamped_firing_is_own : (s : ℕ) (x : Stamped) → of_machine s x.entry ≡ false
    → is_firing_of s x.entry ≡ false
stamped_firing_is_own s x h = firing_is_own s x.entry h

pub stamps_by_own : StampsByOwn
stamps_by_own net m xs =
    let own : Stamped → Bool = λ x. of_machine m x.entry in (
      ap stamps_of (filter_of_filter own own xs (λ x h. h)),
      λ k.
          ap (flat_map (once_each net k))
          (filter_of_filter (λ (x : Stamped). is_firing_of m x.entry) own xs
          (stamped_firing_is_own m)),
    )

-- ---- logs merged by their stamps

least_in_at : (net : Network) (logs : ℕ → List Stamped) (before prefix : List Stamped) (x : Stamped)
    (rest : List Stamped) → AllLeastIn net logs before (prefix ++ x ∷ rest)
    → x.stamp
    ≡ suc (greatest (stamps_of (before ++ prefix) ++ origin_in net logs (before ++ prefix) x.entry))
least_in_at net logs before [] x rest h =
    subst
    (λ (l : List Stamped). x.stamp ≡ suc (greatest (stamps_of l ++ origin_in net logs l x.entry)))
    (sym (append-nil before)) h.0
least_in_at net logs before (y ∷ prefix) x rest h =
    subst
    (λ (l : List Stamped). x.stamp ≡ suc (greatest (stamps_of l ++ origin_in net logs l x.entry)))
    (append_assoc before (y ∷ []) prefix)
    (least_in_at net logs (before ++ y ∷ []) prefix x rest h.1)

own_delivered : (s : Party) (m : ℕ) (before : List Stamped)
    → delivered s m (entries (filter (λ p. of_machine m p.entry) before))
    ≡ delivered s m (entries before)
own_delivered s m [] = refl
own_delivered s m (x ∷ before) = cases (own_delivered s m before) (of_machine m x.entry) refl
  where
    cases : delivered s m (entries (filter (λ p. of_machine m p.entry) before))
        ≡ delivered s m (entries before)
        → (b : Bool) → of_machine m x.entry ≡ b
        → delivered s m
        (entries
        (cond b (x ∷ filter (λ p. of_machine m p.entry) before)
        (filter (λ p. of_machine m p.entry) before)))
        ≡ cons_option (delivery s m x.entry) (delivered s m (entries before))
    cases rest true is = ap (cons_option (delivery s m x.entry)) rest
    cases rest false is = rw (landing_is_own s m x.entry is) rest

all_same : (t u n : ℕ) → nat_le t u ≡ true → list_all (nat_le t) (replicate n u) ≡ true
all_same t u zero h = refl
all_same t u (suc n) h =
    and_from (nat_le t u) (list_all (nat_le t) (replicate n u)) h (all_same t u n h)

sent_not_below : (net : Network) (s m t : ℕ) (xs : List Stamped)
    → list_all (λ (p : Stamped). nat_le t p.stamp) xs ≡ true
    → list_all (nat_le t) (stamps_sent net s m xs) ≡ true
sent_not_below net s m t [] h = refl
sent_not_below net s m t (x ∷ xs) h =
    let parts = and_parts (nat_le t x.stamp) (list_all (λ (p : Stamped). nat_le t p.stamp) xs) h in
    cases (is_firing_of s x.entry) parts.0 (sent_not_below net s m t xs parts.1)
  where
    cases : (b : Bool) → nat_le t x.stamp ≡ true
        → list_all (nat_le t) (stamps_sent net s m xs) ≡ true
        → list_all (nat_le t)
        (flat_map (once_each net m)
        (cond b (x ∷ filter (λ p. is_firing_of s p.entry) xs)
        (filter (λ p. is_firing_of s p.entry) xs))) ≡ true
    cases true f g =
        list_all-append (nat_le t) (once_each net m x) (stamps_sent net s m xs)
        ∙ and_from (list_all (nat_le t) (once_each net m x))
        (list_all (nat_le t) (stamps_sent net s m xs))
        (all_same t x.stamp (length (filter (λ e. reads net m e.0) (emissions net x.entry))) f) g
    cases false f g = g

-- none of these can be an origin
none_first : (late before : List ℕ) (n t : ℕ) → list_all (nat_le t) late ≡ true
    → t ≡ suc (greatest (before ++ take 1 (drop n late))) → take 1 (drop n late) ≡ []
none_first [] before zero t h e = refl
none_first [] before (suc n) t h e = refl
none_first (r ∷ late) before zero t h e =
    let low = leb-true t r (and_parts (nat_le t r) (list_all (nat_le t) late) h).0 in
    let high = greatest_right before (r ∷ []) in
    let one = max-zero r in
    absurd (omega arith)
none_first (r ∷ late) before (suc n) t h e =
    none_first late before n t (and_parts (nat_le t r) (list_all (nat_le t) late) h).1 e

first_same : (early late before : List ℕ) (n t : ℕ) → list_all (nat_le t) late ≡ true
    → t ≡ suc (greatest (before ++ take 1 (drop n (early ++ late))))
    → take 1 (drop n (early ++ late)) ≡ take 1 (drop n early)
first_same [] late before zero t h e = none_first late before zero t h e
first_same [] late before (suc n) t h e = none_first late before (suc n) t h e
first_same (a ∷ early) late before zero t h e = refl
first_same (a ∷ early) late before (suc n) t h e = first_same early late before n t h e

rest_not_below : (before : List Stamped) (x : Stamped) (rest : List Stamped)
    → not_falling (before ++ x ∷ rest) ≡ true
    → list_all (λ (p : Stamped). nat_le x.stamp p.stamp) (x ∷ rest) ≡ true
rest_not_below [] x rest h =
    and_from (nat_le x.stamp x.stamp) (list_all (λ (p : Stamped). nat_le x.stamp p.stamp) rest)
    (le-leb x.stamp x.stamp (omega arith))
    (and_parts (list_all (λ (p : Stamped). nat_le x.stamp p.stamp) rest) (not_falling rest) h).0
rest_not_below (y ∷ before) x rest h =
    rest_not_below before x rest
    (and_parts (list_all (λ (p : Stamped). nat_le y.stamp p.stamp) (before ++ x ∷ rest))
    (not_falling (before ++ x ∷ rest)) h).1

here_is_least : (net : Network) (logs : ℕ → List Stamped) (all before : List Stamped) (x : Stamped)
    (rest : List Stamped) → all ≡ before ++ x ∷ rest → not_falling all ≡ true
    → ((m : ℕ) → filter (λ p. of_machine m p.entry) all ≡ logs m)
    → ((m : ℕ) → AllLeastIn net logs [] (logs m)) → (m : ℕ) → machine_of x.entry ≡ m
    → x.stamp
    ≡ suc
    (greatest
    (stamps_at m before ++ origin_in net logs (filter (λ p. of_machine m p.entry) before) x.entry))
here_is_least net logs all before x rest e h kept alone m at =
    let test : Stamped → Bool = λ p. of_machine m p.entry in
    let parts : logs m ≡ filter test before ++ x ∷ filter test rest =
    sym (kept m) ∙ ap (filter test) e ∙ filter-append test before (x ∷ rest)
    ∙ ap (λ b. filter test before ++ cond b (x ∷ filter test rest) (filter test rest))
    (eq-eqb (machine_of x.entry) m at) in
    least_in_at net logs [] (filter test before) x (filter test rest)
    (subst (AllLeastIn net logs []) parts (alone m))

least_here : (net : Network) (logs : ℕ → List Stamped) (all before : List Stamped) (x : Stamped)
    (rest : List Stamped) → all ≡ before ++ x ∷ rest → not_falling all ≡ true
    → ((m : ℕ) → filter (λ p. of_machine m p.entry) all ≡ logs m)
    → ((m : ℕ) → AllLeastIn net logs [] (logs m)) → (entry : Entry) → x.entry ≡ entry
    → x.stamp ≡ least_stamp net before entry
least_here net logs all before x rest e h kept alone (Rea m s o) is =
    subst
    (λ (y : Entry). x.stamp
    ≡ suc
    (greatest
    (stamps_at m before ++ origin_in net logs (filter (λ p. of_machine m p.entry) before) y))) is
    (here_is_least net logs all before x rest e h kept alone m (ap machine_of is))
least_here net logs all before x rest e h kept alone (Dep Env m ev c) is =
    subst
    (λ (y : Entry). x.stamp
    ≡ suc
    (greatest
    (stamps_at m before ++ origin_in net logs (filter (λ p. of_machine m p.entry) before) y))) is
    (here_is_least net logs all before x rest e h kept alone m (ap machine_of is))
least_here net logs all before x rest e h kept alone (Dep (Sender s) m ev c) is =
    let here =
    subst
    (λ (y : Entry). x.stamp
    ≡ suc
    (greatest
    (stamps_at m before ++ origin_in net logs (filter (λ p. of_machine m p.entry) before) y))) is
    (here_is_least net logs all before x rest e h kept alone m (ap machine_of is)) in
    let early : List ℕ = stamps_sent net s m before in
    let late : List ℕ = stamps_sent net s m (x ∷ rest) in
    let n : ℕ = length (delivered (Sender s) m (entries before)) in
    let whole : stamps_sent net s m (logs s) ≡ early ++ late =
    ap (stamps_sent net s m) (sym (kept s)) ∙ (stamps_by_own net s all).1 m
    ∙ ap (stamps_sent net s m) e
    ∙ ap (flat_map (once_each net m))
    (filter-append (λ (p : Stamped). is_firing_of s p.entry) before (x ∷ rest))
    ∙ flat_map-append (once_each net m) (filter (λ (p : Stamped). is_firing_of s p.entry) before)
    (filter (λ (p : Stamped). is_firing_of s p.entry) (x ∷ rest)) in
    let same : origin_in net logs (filter (λ p. of_machine m p.entry) before)
    (Dep (Sender s) m ev c) ≡ take 1 (drop n (early ++ late)) =
    ap (λ (l : List (ℕ × ℕ)). take 1 (drop (length l) (stamps_sent net s m (logs s))))
    (own_delivered (Sender s) m before) ∙ ap (λ l. take 1 (drop n l)) whole in
    let is_least : x.stamp
    ≡ suc (greatest (stamps_at m before ++ take 1 (drop n (early ++ late)))) = here
    ∙ ap (λ l. suc (greatest (stamps_at m before ++ l))) same in
    let after =
    sent_not_below net s m x.stamp (x ∷ rest)
    (rest_not_below before x rest (subst (λ (l : List Stamped). not_falling l ≡ true) e h)) in
    is_least
    ∙ ap (λ l. suc (greatest (stamps_at m before ++ l)))
    (first_same early late (stamps_at m before) n x.stamp after is_least)

all_least : (net : Network) (logs : ℕ → List Stamped) (all before rest : List Stamped)
    → all ≡ before ++ rest → not_falling all ≡ true
    → ((m : ℕ) → filter (λ p. of_machine m p.entry) all ≡ logs m)
    → ((m : ℕ) → AllLeastIn net logs [] (logs m)) → AllLeast net before rest
all_least net logs all before [] e h kept alone = tt
all_least net logs all before (x ∷ rest) e h kept alone = (
  least_here net logs all before x rest e h kept alone x.entry refl,
  all_least net logs all
      (before ++ x ∷ []) rest (e ∙ sym (append_assoc before (x ∷ []) rest)) h kept alone,
)

pub merged_are_least : MergedAreLeast
merged_are_least net logs all h kept alone =
    least_by_places net all (all_least net logs all [] all refl h kept alone)
