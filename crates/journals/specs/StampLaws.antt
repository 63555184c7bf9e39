-- Laws of stamps.
use Rattle.std.specs.Prelude.{◌≡◌, ◌↔◌, ℕ, suc, ◌+◌, ◌<◌, ◌≤◌, Bool, true, ◌&&◌, nat_le, List, [], ◌∷◌, ◌++◌, filter, length, take, drop, get_or, slice_get, Some, IsTrue, ⊤}
use Rattle.std.specs.List.{list_all}
use Rattle.polis_base.specs.Lists.{Begins}
use Rattle.transition_table.specs.declared.decl.Party.TheVariants.{Env, Machine as Sender}
use Rattle.transition_table.specs.declared.network.Network.{Network}
use Rattle.journals.specs.declared.entry.Entry.{Entry}
use Rattle.journals.specs.declared.entry.Entry.TheVariants.{Dep, Rea}
use Rattle.journals.specs.declared.entry.TraceItem.{TraceItem}
use Rattle.journals.specs.declared.stamped.Stamped.{Stamped}
use Rattle.journals.specs.Journals.{delivered, sent}
use Rattle.journals.specs.Legality.{Legal}
use Rattle.journals.specs.Logs.{entries, max_stamp, of_machine, stamps as stamps_of, with_stamps}
use Rattle.journals.specs.Stamps.{IsOrigin, greatest, stamps_at, stamps_sent, stamps_below, origin, is_above, Rising, least_stamp, least}

-- the least stamps of a journal that isn't too long are Rising
abbrev pub LeastIsRising : Type 0
LeastIsRising =
    (net : Network) (journal : List Entry)
    → length journal ≤ max_stamp
    → Rising net journal (least net journal)

-- no Rising list is smaller than the least stamps at any place
abbrev pub NoneIsSmaller : Type 0
NoneIsSmaller =
    (net : Network) (journal : List Entry) (ts : List ℕ) (i : ℕ)
    → Rising net journal ts
    → get_or (least net journal) i 0 ≤ get_or ts i 0

-- there is one least stamp for each entry, and none is above the number of entries up to it
abbrev pub LeastAreAsMany : Type 0
LeastAreAsMany =
    (net : Network) (journal : List Entry)
    → length (least net journal) ≡ length journal

abbrev pub LeastAreWithin : Type 0
LeastAreWithin =
    (net : Network) (journal : List Entry) (i : ℕ)
    → get_or (least net journal) i 0 ≤ i + 1

-- Rising stamps are as many as the entries
abbrev pub RisingAreAsMany : Type 0
RisingAreAsMany =
    (net : Network) (journal : List Entry) (ts : List ℕ)
    → Rising net journal ts
    → length ts ≡ length journal

-- the first stamps of a Rising list are Rising of the first entries
abbrev pub PrefixesRise : Type 0
PrefixesRise =
    (net : Network) (journal : List Entry) (ts : List ℕ) (k : ℕ)
    → Rising net journal ts
    → Rising net (take k journal) (take k ts)

-- the least stamps of a longer journal begin with those of the journal
abbrev pub LeastGoesOn : Type 0
LeastGoesOn =
    (net : Network) (journal more : List Entry)
    → Begins (least net journal) (least net (journal ++ more))

-- one entry more has its least stamp after those of the others
abbrev pub LeastBySteps : Type 0
LeastBySteps =
    (net : Network) (journal : List Entry) (entry : Entry)
    → least net (journal ++ entry ∷ [])
    ≡ least net journal ++ least_stamp net (with_stamps journal (least net journal)) entry ∷ []

-- stamps of a journal that is one entry longer are Rising exactly where the others are, and the
-- last is above those below it
abbrev pub RisingBySteps : Type 0
RisingBySteps =
    (net : Network) (journal : List Entry) (ts : List ℕ) (entry : Entry) (t : ℕ)
    → length ts ≡ length journal
    → Rising net (journal ++ entry ∷ []) (ts ++ t ∷ [])
    ↔ (Rising net journal ts
    × IsTrue (is_above (stamps_below net (with_stamps journal ts) entry) t))

-- a stamp is above others exactly where it is above the greatest of them and not above the greatest
-- stamp
abbrev pub StandsAbove : Type 0
StandsAbove =
    (below : List ℕ) (t : ℕ)
    → IsTrue (is_above below t) ↔ ((greatest below < t) × (t ≤ max_stamp))

-- what s has sent to m has as many stamps as emissions
abbrev pub AsManyStampsSent : Type 0
AsManyStampsSent =
    (net : Network) (trace : List TraceItem) (s m : ℕ) (xs : List Stamped)
    → length (stamps_sent net s m xs) ≡ length (sent net trace (Sender s) m (entries xs))

-- In a legal journal each delivery from a machine has one origin, and it is a firing before the
-- delivery: of all that the whole journal sends from s to m, it is that of the i-th, where i
-- deliveries from s to m stand before this one.
abbrev pub OriginIsBefore : Type 0
OriginIsBefore =
    (net : Network) (trace : List TraceItem) (journal : List Entry) (ts : List ℕ)
    (p s m event code : ℕ)
    → Legal net trace journal
    → length ts ≡ length journal
    → slice_get journal p ≡ Some (Dep (Sender s) m event code)
    → (t : ℕ)
    × (origin net (take p (with_stamps journal ts)) (Dep (Sender s) m event code) ≡ t ∷ [])
    × (slice_get (stamps_sent net s m (with_stamps journal ts))
    (length (delivered (Sender s) m (take p journal))) ≡ Some t)

-- Its place is that of the firing whose emission it is, and the stamp above which the delivery's
-- stands is the firing's.
abbrev pub OriginIsFiring : Type 0
OriginIsFiring =
    (net : Network) (trace : List TraceItem) (journal : List Entry) (ts : List ℕ)
    (p s m event code : ℕ)
    → Legal net trace journal
    → length ts ≡ length journal
    → slice_get journal p ≡ Some (Dep (Sender s) m event code)
    → (q : ℕ)
    × IsOrigin net trace journal p s m q
    × (origin net (take p (with_stamps journal ts)) (Dep (Sender s) m event code)
    ≡ get_or ts q 0 ∷ [])

-- each of these entries has the least stamp after those before it
abbrev pub AllLeast : Network → List Stamped → List Stamped → Type 0
AllLeast net before [] = ⊤
AllLeast net before (x ∷ xs) = (x.stamp ≡ least_stamp net before x.entry)
    × AllLeast net (before ++ x ∷ []) xs

-- entries of which each has the least stamp after those before it have the least stamps
abbrev pub LeastByPlaces : Type 0
LeastByPlaces =
    (net : Network) (xs : List Stamped)
    → AllLeast net [] xs
    → least net (entries xs) ≡ stamps_of xs

-- the stamps of what stands at m, and of what m has sent, are told by m's own entries
abbrev pub StampsByOwn : Type 0
StampsByOwn =
    (net : Network) (m : ℕ) (xs : List Stamped)
    → (stamps_at m (filter (λ x. of_machine m x.entry) xs) ≡ stamps_at m xs)
    × ((k : ℕ)
    → stamps_sent net m k (filter (λ x. of_machine m x.entry) xs) ≡ stamps_sent net m k xs)

-- the stamp of the firing from which the entry comes, looked up in the whole log of its sender
abbrev pub origin_in : Network → (ℕ → List Stamped) → List Stamped → Entry → List ℕ
origin_in net logs before (Dep (Sender s) m event code) =
    take 1 (drop (length (delivered (Sender s) m (entries before))) (stamps_sent net s m (logs s)))
origin_in net logs before (Dep Env m event code) = []
origin_in net logs before (Rea m s o) = []

-- each entry of a log has the least stamp after those before it in its log
abbrev pub AllLeastIn : Network → (ℕ → List Stamped) → List Stamped → List Stamped → Type 0
AllLeastIn net logs before [] = ⊤
AllLeastIn net logs before (x ∷ xs) =
    (x.stamp ≡ suc (greatest (stamps_of before ++ origin_in net logs before x.entry)))
    × AllLeastIn net logs (before ++ x ∷ []) xs

-- no stamp is below an earlier one
abbrev pub not_falling : List Stamped → Bool
not_falling [] = true
not_falling (x ∷ xs) = list_all (λ y. nat_le x.stamp y.stamp) xs && not_falling xs

-- logs of which each entry has the least stamp are merged by their stamps into a journal with its
-- least stamps
abbrev pub MergedAreLeast : Type 0
MergedAreLeast =
    (net : Network) (logs : ℕ → List Stamped) (all : List Stamped)
    → IsTrue (not_falling all)
    → ((m : ℕ) → filter (λ x. of_machine m x.entry) all ≡ logs m)
    → ((m : ℕ) → AllLeastIn net logs [] (logs m))
    → least net (entries all) ≡ stamps_of all
