-- What a landing and a freeing keep.
use Rattle.std.specs.Prelude.{◌≡◌, ℕ, ◌+◌, ◌<◌, ◌≤◌, Bool, true, false, cond, not, ◌&&◌, ◌||◌, ◌==◌, nat_lt, nat_le, List, [], ◌∷◌, ◌++◌, map, filter, flat_map, length, drop, take, replicate, max, suc, Option, Some, None}
use Rattle.std.specs.Bool.{then_some}
use Rattle.std.specs.List.{list_all, cons_option}
use Rattle.std.proofs.Common.{refl, sym, ap, ◌∙◌, subst, inl, inr, arith, append_assoc, length-append}
use Rattle.std.proofs.lemmas.List.{append-nil, drop-drop}
use Rattle.std.proofs.lemmas.Option.{same_Some, none-some}
use Rattle.std.proofs.lemmas.Bool.{leb-true, le-leb, lt-ltb, ltb-true, ltb-false, cases_eq, ne_eqb, eq-eqb, and_parts, and_from, and_left, and_right, or_cases, not-true}
use Rattle.transition_table.specs.declared.decl.Party.{Party}
use Rattle.transition_table.specs.declared.decl.Party.TheVariants.{Env, Machine as Sender}
use Rattle.transition_table.specs.declared.network.Network.{Network}
use Rattle.journals.specs.declared.entry.Entry.TheVariants.{Dep}
use Rattle.journals.specs.declared.entry.Owed.{Owed}
use Rattle.journals.specs.declared.entry.TraceItem.{TraceItem}
use Rattle.journals.specs.Journals.{FitsNetwork, same_party, is_party, is_event_code, reads, is_firing_of, emissions, delivered, sent}
use Rattle.journals.specs.declared.stamped.Stamped.{Stamped}
use Rattle.worker_core.specs.declared.state.Hand.{Hand}
use Rattle.journals.specs.Logs.{max_stamp, entries, clock}
use Rattle.worker_core.specs.Cores.{delivering}
use Rattle.journals.specs.Logs.{rises}
use Rattle.journals.specs.Alone.{is_own, LegalAlone}
use Rattle.journals.specs.Laws.{may_arrive}
use Rattle.worker_core.specs.Facts.{stamped_below, log_of_party, InTime, deliveries_in, held_by, on_way, is_last_firing, is_hand_within, is_due, stamps_out, stamps_held, CoreFacts}
use Rattle.worker_core.specs.inner.Known.{Known}
use Rattle.journals.specs.StampLaws.{origin_in}
use Rattle.journals.specs.Stamps.{greatest, stamps_sent}
use Rattle.journals.specs.Schedules.{is_way, event_code}
use Rattle.worker_core.proofs.ByStamp.{all_more, rises_from, rises_unbounded}
use Rattle.journals.proofs.DeliveredBeginsSent.{same_party_self, party_from_same, delivered_more, sent_more, delivered_own, sent_by_delivery}
use Rattle.worker_core.proofs.AllLeastIn.{stamps_push, drop_replicate, stamp_in, held_same, nothing_held, all_least_more}
use Rattle.worker_core.proofs.OneEntryMore.{HasMore, more_or_same, within_more, hand_within_more, all_push, alone_more, all_in_time_more, last_firing_more}
use Rattle.journals.proofs.StampSteps.{entries_more}

-- ---- where the last firing is below a stamp, all was sent by firings below it

all_two : {X : Type 0} (p q r : X → Bool) (xs : List X)
    → ((x : X) → p x ≡ true → q x ≡ true → r x ≡ true) → list_all p xs ≡ true → list_all q xs ≡ true
    → list_all r xs ≡ true
all_two p q r [] h a b = refl
all_two p q r (x ∷ xs) h a b =
    let left = and_parts (p x) (list_all p xs) a in
    let right = and_parts (q x) (list_all q xs) b in
    and_from (r x) (list_all r xs) (h x left.0 right.0) (all_two p q r xs h left.1 right.1)

no_firings : (j : ℕ) (xs : List Stamped) → list_all (λ y. not (is_firing_of j y.entry)) xs ≡ true
    → filter (is_firing_of j) (entries xs) ≡ []
no_firings j [] h = refl
no_firings j (x ∷ xs) h =
    let parts =
    and_parts (not (is_firing_of j x.entry)) (list_all (λ y. not (is_firing_of j y.entry)) xs) h in
    ap (λ b. cond b (x.entry ∷ filter (is_firing_of j) (entries xs))
    (filter (is_firing_of j) (entries xs))) (not-true (is_firing_of j x.entry) parts.0)
    ∙ no_firings j xs parts.1

nothing_sent : (net : Network) (trace : List TraceItem) (j k : ℕ) (xs : List Stamped)
    → list_all (λ y. not (is_firing_of j y.entry)) xs ≡ true
    → sent net trace (Sender j) k (entries xs) ≡ []
nothing_sent net trace j k xs h =
    ap (λ es. filter (λ p. reads net k p.0) (flat_map (emissions net) es)) (no_firings j xs h)

above_is_no_firing : (a : Bool) (t f : ℕ) → (not a || nat_le t f) ≡ true → nat_lt f t ≡ true
    → not a ≡ true
above_is_no_firing a t f h above =
    elim (or_cases (not a) (nat_le t f) h) [
      | inl idle ↦ idle
      | inr low ↦ absurd
          (let small = leb-true t f low in let large = ltb-true f t above in omega arith)
    ]

all_sent_below : (net : Network) (trace : List TraceItem) (j k t f low : ℕ) (xs : List Stamped)
    → rises low xs ≡ true
    → list_all (λ y. not (is_firing_of j y.entry) || nat_le y.stamp f) xs ≡ true → f < t
    → sent net trace (Sender j) k (entries (stamped_below t xs))
    ≡ sent net trace (Sender j) k (entries xs)
all_sent_below net trace j k t f low [] rising last below = refl
all_sent_below net trace j k t f low (x ∷ xs) rising last below =
    cases (nat_lt x.stamp t) refl
    (all_sent_below net trace j k t f x.stamp xs steps.1 lasts.1 below)
  where
    quiet : Stamped → Bool
    quiet y = not (is_firing_of j y.entry) || nat_le y.stamp f

    steps : ((nat_lt low x.stamp && nat_le x.stamp max_stamp) ≡ true) × (rises x.stamp xs ≡ true)
    steps = and_parts (nat_lt low x.stamp && nat_le x.stamp max_stamp) (rises x.stamp xs) rising

    lasts : ((not (is_firing_of j x.entry) || nat_le x.stamp f) ≡ true) ×
        (list_all (λ y. not (is_firing_of j y.entry) || nat_le y.stamp f) xs ≡ true)
    lasts =
        and_parts (not (is_firing_of j x.entry) || nat_le x.stamp f)
        (list_all (λ y. not (is_firing_of j y.entry) || nat_le y.stamp f) xs) last

    cases : (b : Bool) → nat_lt x.stamp t ≡ b
        → sent net trace (Sender j) k (entries (stamped_below t xs))
        ≡ sent net trace (Sender j) k (entries xs)
        → sent net trace (Sender j) k (entries (cond b (x ∷ stamped_below t xs) []))
        ≡ sent net trace (Sender j) k (entries (x ∷ xs))
    cases true is rest =
        sent_more net trace j k (x.entry ∷ []) (entries (stamped_below t xs))
        ∙ ap (λ l. sent net trace (Sender j) k (x.entry ∷ []) ++ l) rest
        ∙ sym (sent_more net trace j k (x.entry ∷ []) (entries xs))
    cases false is rest =
        let first : f < x.stamp = let far = ltb-false x.stamp t is in omega arith in
        sym (nothing_sent net trace j k (x ∷ xs)
        (all_two (λ y. not (is_firing_of j y.entry) || nat_le y.stamp f) (λ y. nat_lt f y.stamp)
        (λ y. not (is_firing_of j y.entry)) (x ∷ xs)
        (λ y a b. above_is_no_firing (is_firing_of j y.entry) y.stamp f a b) last
        (and_from (nat_lt f x.stamp) (list_all (λ y. nat_lt f y.stamp) xs) (lt-ltb f x.stamp first)
        (all_more (λ y. nat_lt x.stamp y.stamp) (λ y. nat_lt f y.stamp) xs
        (λ y more. lt-ltb f y.stamp (let less = ltb-true x.stamp y.stamp more in omega arith))
        (rises_from x.stamp xs (rises_unbounded x.stamp xs steps.1))))))

-- what the sender of a hand has sent is all sent by firings below a stamp above the hand's
pub sent_by_then : (net : Network) (trace : List TraceItem) (j k t : ℕ) (log : List Stamped)
    (hand : Hand) → rises 0 log ≡ true → is_last_firing j log (Some hand) ≡ true → hand.stamp < t
    → sent net trace (Sender j) k (entries (stamped_below t log))
    ≡ sent net trace (Sender j) k (entries log)
sent_by_then net trace j k t log hand rising last below =
    all_sent_below net trace j k t hand.stamp 0 log rising last below

-- ---- hands of one stamp

last_by_stamp : (m : ℕ) (log : List Stamped) (g h : Option Hand) → stamp_in g ≡ stamp_in h
    → is_last_firing m log h ≡ true → is_last_firing m log g ≡ true
last_by_stamp m log None h e is = refl
last_by_stamp m log (Some a) None e is = absurd (none-some a.stamp (sym e))
last_by_stamp m log (Some a) (Some b) e is =
    ap (λ t. list_all (λ y. not (is_firing_of m y.entry) || nat_le y.stamp t) log)
    (same_Some a.stamp b.stamp e)
    ∙ is

within_by_stamp : (n : ℕ) (g h : Option Hand) → stamp_in g ≡ stamp_in h → is_hand_within n h ≡ true
    → is_hand_within n g ≡ true
within_by_stamp n None h e is = refl
within_by_stamp n (Some a) None e is = absurd (none-some a.stamp (sym e))
within_by_stamp n (Some a) (Some b) e is = ap (λ t. nat_le t n) (same_Some a.stamp b.stamp e) ∙ is

-- ---- a landing

way_split : (p : Party) (k : ℕ) (d : Owed) (ds : List Owed)
    → on_way p k (d ∷ ds) ≡ on_way p k (d ∷ []) ++ on_way p k ds
way_split p k d ds = cases (is_way p k d)
  where
    cases : (b : Bool)
        → map event_code (cond b (d ∷ filter (is_way p k) ds) (filter (is_way p k) ds))
        ≡ map event_code (cond b (d ∷ []) []) ++ map event_code (filter (is_way p k) ds)
    cases true = refl
    cases false = refl

one_landing : (p : Party) (k : ℕ) (d : Owed)
    → delivered p k (delivering d ∷ []) ≡ on_way p k (d ∷ [])
one_landing p k d = cases (same_party d.from p && d.to == k)
  where
    cases : (b : Bool)
        → cons_option (then_some b (d.event, d.code)) [] ≡ map event_code (cond b (d ∷ []) [])
    cases true = refl
    cases false = refl

other_way : (p : Party) (k : ℕ) (d : Owed) → (same_party d.from p && d.to == k) ≡ false
    → on_way p k (d ∷ []) ≡ []
other_way p k d h = ap (λ b. map event_code (cond b (d ∷ []) [])) h

-- the parts of what is due
due_parts : (net : Network) (p : Party) (d : Owed) → is_due net p d ≡ true
    → (same_party d.from p ≡ true) × (is_party net d.from ≡ true)
    × (nat_lt d.to (length net.machines) ≡ true) × (is_event_code net d.event d.code ≡ true)
    × (reads net d.to d.event ≡ true)
due_parts net p d h =
    let known : Bool = is_party net d.from in
    let inside : Bool = nat_lt d.to (length net.machines) in
    let fitting : Bool = is_event_code net d.event d.code in
    let own = and_parts (same_party d.from p) (may_arrive net d) h in
    let a = and_parts (known && inside && fitting) (reads net d.to d.event) own.1 in
    let b = and_parts (known && inside) fitting a.0 in
    let c = and_parts known inside b.0 in
    (own.0, c.0, c.1, b.1, a.1)

pub due_fits : (net : Network) (p : Party) (d : Owed) → is_due net p d ≡ true
    → FitsNetwork net (delivering d) × (is_own net d.to (delivering d) ≡ true)
    × (same_party d.from p ≡ true)
due_fits net p d h =
    let parts = due_parts net p d h in
    let known : Bool = is_party net d.from in
    let inside : Bool = nat_lt d.to (length net.machines) in (
      and_from (known && inside) (is_event_code net d.event d.code)
          (and_from known inside parts.1 parts.2) parts.3,
      and_from (d.to == d.to) (reads net d.to d.event) (eq-eqb d.to d.to refl) parts.4,
      parts.0,
    )

pub due_within : (net : Network) (p : Party) (d : Owed) → is_due net p d ≡ true
    → d.to < length net.machines
due_within net p d h = ltb-true d.to (length net.machines) (due_parts net p d h).2

-- the stamp of the firing that the party has in hand
abbrev pub stamps_in : Option Hand → List ℕ
stamps_in None = []
stamps_in (Some hand) = hand.stamp ∷ []

abbrev pub stamp_held_by : (ℕ → Option Hand) → Party → List ℕ
stamp_held_by hands Env = []
stamp_held_by hands (Sender j) = stamps_in (hands j)

one_less : (j k : ℕ) (d : Owed) (ds : List Owed) (h g : Option Hand) → deliveries_in h ≡ d ∷ ds
    → deliveries_in g ≡ ds → stamp_in g ≡ stamp_in h
    → drop (length (on_way (Sender j) k (d ∷ []))) (stamps_held h j k) ≡ stamps_held g j k
one_less j k d ds None g had has stamps = absurd (let long = ap length had in omega arith)
one_less j k d ds (Some a) None had has stamps = absurd (none-some a.stamp stamps)
one_less j k d ds (Some a) (Some b) had has stamps =
    let all =
    ap (λ l. length (on_way (Sender j) k l)) had ∙ ap length (way_split (Sender j) k d ds)
    ∙ length-append (on_way (Sender j) k (d ∷ [])) (on_way (Sender j) k ds) in
    let left = ap (λ l. length (on_way (Sender j) k l)) has in
    drop_replicate a.stamp (length (on_way (Sender j) k (d ∷ [])))
    (length (on_way (Sender j) k b.deliveries)) (length (on_way (Sender j) k a.deliveries))
    (omega arith)
    ∙ ap (replicate (length (on_way (Sender j) k b.deliveries)))
    (sym (same_Some b.stamp a.stamp stamps))

first_held_stamp : (j : ℕ) (d : Owed) (ds : List Owed) (h : Option Hand) → deliveries_in h ≡ d ∷ ds
    → same_party d.from (Sender j) ≡ true → take 1 (stamps_held h j d.to) ≡ stamps_in h
first_held_stamp j d ds None had own = absurd (let long = ap length had in omega arith)
first_held_stamp j d ds (Some a) had own =
    let is : is_way (Sender j) d.to d ≡ true =
    and_from (same_party d.from (Sender j)) (d.to == d.to) own (eq-eqb d.to d.to refl) in
    let one : on_way (Sender j) d.to (d ∷ ds) ≡ event_code d ∷ on_way (Sender j) d.to ds =
    ap (λ b. map event_code
    (cond b (d ∷ filter (is_way (Sender j) d.to) ds)
    (filter (is_way (Sender j) d.to) ds))) is in
    ap (λ (l : List (ℕ × ℕ)). take 1 (replicate (length l) a.stamp))
    (ap (on_way (Sender j) d.to) had ∙ one)

module _ (net : Network) (trace : List TraceItem) (logs new : ℕ → List Stamped)
    (hands left : ℕ → Option Hand) (rest fewer : List Owed) (n t : ℕ) (d : Owed)
    (ds : List Owed) where
  abbrev landed : Stamped
  landed = record { stamp = t; entry = delivering d }

  landing_delivers : HasMore logs new d.to landed → (p : Party) (k : ℕ)
      → delivered p k (entries (new k)) ≡ delivered p k (entries (logs k)) ++ on_way p k (d ∷ [])
  landing_delivers more p k =
      elim (more_or_same logs new d.to landed k more) [
        | inl (same, longer) ↦
            ap (λ l. delivered p k (entries l)) longer
            ∙ ap (delivered p k) (entries_more (logs k) landed)
            ∙ delivered_more p k (entries (logs k)) (delivering d)
            ∙ ap (λ l. delivered p k (entries (logs k)) ++ l) (one_landing p k d)
        | inr (other, same) ↦
            let none : on_way p k (d ∷ []) ≡ [] =
            other_way p k d
            (and_right (same_party d.from p) (d.to == k)
            (ne_eqb d.to k (λ e. other (sym e)))) in
            ap (λ l. delivered p k (entries l)) same
            ∙ sym (append-nil (delivered p k (entries (logs k))))
            ∙ sym (ap (λ l. delivered p k (entries (logs k)) ++ l) none)
      ]

  landing_sends_nothing : HasMore logs new d.to landed → (p : Party) (k : ℕ)
      → sent net trace p k (entries (log_of_party new p))
      ≡ sent net trace p k (entries (log_of_party logs p))
  landing_sends_nothing more Env k = refl
  landing_sends_nothing more (Sender j) k =
      elim (more_or_same logs new d.to landed j more) [
        | inl (same, longer) ↦
            ap (λ l. sent net trace (Sender j) k (entries l)) longer
            ∙ ap (sent net trace (Sender j) k) (entries_more (logs j) landed)
            ∙ sent_by_delivery net trace (Sender j) k (entries (logs j)) d.from d.to d.event d.code
        | inr (other, same) ↦ ap (λ l. sent net trace (Sender j) k (entries l)) same
      ]

  landing_way : CoreFacts net trace logs hands rest n → HasMore logs new d.to landed
      → held_by hands rest d.from ≡ d ∷ ds → held_by left fewer d.from ≡ ds
      → ((p : Party) → same_party d.from p ≡ false → held_by left fewer p ≡ held_by hands rest p)
      → (p : Party) (k : ℕ) → (b : Bool) → same_party d.from p ≡ b
      → delivered p k (entries (new k)) ++ on_way p k (held_by left fewer p)
      ≡ sent net trace p k (entries (log_of_party new p))
  landing_way f more had has others p k true own =
      let from : d.from ≡ p = party_from_same d.from p own in
      let held : held_by hands rest p ≡ d ∷ ds =
      subst (λ q. held_by hands rest q ≡ d ∷ ds) from had in
      let now : held_by left fewer p ≡ ds = subst (λ q. held_by left fewer q ≡ ds) from has in
      ap (λ l. l ++ on_way p k (held_by left fewer p)) (landing_delivers more p k)
      ∙ ap (λ l. (delivered p k (entries (logs k)) ++ on_way p k (d ∷ [])) ++ on_way p k l) now
      ∙ append_assoc (delivered p k (entries (logs k))) (on_way p k (d ∷ [])) (on_way p k ds)
      ∙ ap (λ l. delivered p k (entries (logs k)) ++ l)
      (sym (ap (on_way p k) held ∙ way_split p k d ds))
      ∙ f.on_the_way p k ∙ sym (landing_sends_nothing more p k)
  landing_way f more had has others p k false other =
      let none : on_way p k (d ∷ []) ≡ [] =
      other_way p k d (and_left (same_party d.from p) (d.to == k) other) in
      ap (λ l. l ++ on_way p k (held_by left fewer p))
      (landing_delivers more p k ∙ ap (λ l. delivered p k (entries (logs k)) ++ l) none
      ∙ append-nil (delivered p k (entries (logs k))))
      ∙ ap (λ l. delivered p k (entries (logs k)) ++ on_way p k l) (others p other)
      ∙ f.on_the_way p k ∙ sym (landing_sends_nothing more p k)

  -- the landing is the next of what its sender had sent by firings of smaller stamps
  landing_in_time : CoreFacts net trace logs hands rest n → held_by hands rest d.from ≡ d ∷ ds
      → sent net trace d.from d.to (entries (stamped_below t (log_of_party logs d.from)))
      ≡ sent net trace d.from d.to (entries (log_of_party logs d.from))
      → InTime net trace logs (entries (logs d.to)) t (delivering d)
  landing_in_time f had early =
      let old : List (ℕ × ℕ) = delivered d.from d.to (entries (logs d.to)) in
      let one : on_way d.from d.to (d ∷ []) ≡ (d.event, d.code) ∷ [] =
      ap (λ b. map event_code (cond b (d ∷ []) []))
      (and_from (same_party d.from d.from) (d.to == d.to) (same_party_self d.from)
      (eq-eqb d.to d.to refl)) in
      let more : delivered d.from d.to (entries (logs d.to) ++ delivering d ∷ []) ≡ old
      ++ on_way d.from d.to (d ∷ []) =
      delivered_own d.from d.to d.event d.code (entries (logs d.to))
      ∙ ap (λ l. old ++ l) (sym one) in (
        on_way d.from d.to ds,
        early ∙ sym (f.on_the_way d.from d.to)
            ∙ ap (λ l. old ++ l) (ap (on_way d.from d.to) had ∙ way_split d.from d.to d ds)
            ∙ sym (append_assoc old (on_way d.from d.to (d ∷ [])) (on_way d.from d.to ds))
            ∙ ap (λ l. l ++ on_way d.from d.to ds) (sym more),
      )

  landing_sends_no_stamps : HasMore logs new d.to landed → (j k : ℕ)
      → stamps_sent net j k (new j) ≡ stamps_sent net j k (logs j)
  landing_sends_no_stamps more j k =
      elim (more_or_same logs new d.to landed j more) [
        | inl (same, longer) ↦ ap (stamps_sent net j k) longer ∙ stamps_push net j k (logs j) landed
            ∙ append-nil (stamps_sent net j k (logs j))
        | inr (other, same) ↦ ap (stamps_sent net j k) same
      ]

  -- one delivery less of the sender's is on the way, and as many as before of the others'
  left_stamps : HasMore logs new d.to landed → held_by hands rest d.from ≡ d ∷ ds
      → held_by left fewer d.from ≡ ds
      → ((p : Party) → same_party d.from p ≡ false → held_by left fewer p ≡ held_by hands rest p)
      → ((k : ℕ) → stamp_in (left k) ≡ stamp_in (hands k))
      → (j k : ℕ) (b : Bool) → same_party d.from (Sender j) ≡ b
      → drop (length (on_way (Sender j) k (d ∷ []))) (stamps_held (hands j) j k)
      ≡ stamps_held (left j) j k
  left_stamps more had has others stamps j k true own =
      let from : d.from ≡ Sender j = party_from_same d.from (Sender j) own in
      let held : deliveries_in (hands j) ≡ d ∷ ds =
      subst (λ q. held_by hands rest q ≡ d ∷ ds) from had in
      let now : deliveries_in (left j) ≡ ds = subst (λ q. held_by left fewer q ≡ ds) from has in
      one_less j k d ds (hands j) (left j) held now (stamps j)
  left_stamps more had has others stamps j k false other =
      let none : on_way (Sender j) k (d ∷ []) ≡ [] =
      other_way (Sender j) k d (and_left (same_party d.from (Sender j)) (d.to == k) other) in
      ap (λ (l : List (ℕ × ℕ)). drop (length l) (stamps_held (hands j) j k)) none
      ∙ held_same j k (hands j) (left j) (sym (stamps j)) (sym (others (Sender j) other))

  landing_stamps : CoreFacts net trace logs hands rest n → HasMore logs new d.to landed
      → held_by hands rest d.from ≡ d ∷ ds → held_by left fewer d.from ≡ ds
      → ((p : Party) → same_party d.from p ≡ false → held_by left fewer p ≡ held_by hands rest p)
      → ((k : ℕ) → stamp_in (left k) ≡ stamp_in (hands k))
      → (j k : ℕ) → stamps_out net new j k ≡ stamps_held (left j) j k
  landing_stamps f more had has others stamps j k =
      let old : List (ℕ × ℕ) = delivered (Sender j) k (entries (logs k)) in
      let one : List (ℕ × ℕ) = on_way (Sender j) k (d ∷ []) in
      let size : length (delivered (Sender j) k (entries (new k))) ≡ length old + length one =
      ap length (landing_delivers more (Sender j) k) ∙ length-append old one in
      ap (λ i. drop i (stamps_sent net j k (new j))) size
      ∙ ap (drop (length old + length one)) (landing_sends_no_stamps more j k)
      ∙ sym (drop-drop (length one) (length old) (stamps_sent net j k (logs j)))
      ∙ ap (drop (length one)) (f.held_stamps j k)
      ∙ left_stamps more had has others stamps j k (same_party d.from (Sender j)) refl

  -- the origin of the landing is the firing in its sender's hand
  landing_origin : CoreFacts net trace logs hands rest n → HasMore logs new d.to landed
      → held_by hands rest d.from ≡ d ∷ ds
      → (p : Party) → d.from ≡ p
      → origin_in net new (logs d.to) (Dep p d.to d.event d.code) ≡ stamp_held_by hands p
  landing_origin f more had Env is = refl
  landing_origin f more had (Sender j) is =
      let held : deliveries_in (hands j) ≡ d ∷ ds =
      subst (λ q. held_by hands rest q ≡ d ∷ ds) is had in
      ap (λ l. take 1 (drop (length (delivered (Sender j) d.to (entries (logs d.to)))) l))
      (landing_sends_no_stamps more j d.to)
      ∙ ap (take 1) (f.held_stamps j d.to)
      ∙ first_held_stamp j d ds (hands j) held
      (ap (λ q. same_party q (Sender j)) is ∙ same_party_self (Sender j))

  landing_due : CoreFacts net trace logs hands rest n → held_by hands rest d.from ≡ d ∷ ds
      → held_by left fewer d.from ≡ ds
      → ((p : Party) → same_party d.from p ≡ false → held_by left fewer p ≡ held_by hands rest p)
      → (p : Party) (b : Bool) → same_party d.from p ≡ b
      → list_all (is_due net p) (held_by left fewer p) ≡ true
  landing_due f had has others p true own =
      subst (λ q. list_all (is_due net q) (held_by left fewer q) ≡ true)
      (party_from_same d.from p own)
      (ap (list_all (is_due net d.from)) has
      ∙ (and_parts (is_due net d.from d) (list_all (is_due net d.from) ds)
      (sym (ap (list_all (is_due net d.from)) had) ∙ f.due d.from)).1)
  landing_due f had has others p false other =
      ap (list_all (is_due net p)) (others p other) ∙ f.due p

  pub keeps_landing : Known → CoreFacts net trace logs hands rest n → HasMore logs new d.to landed
      → held_by hands rest d.from ≡ d ∷ ds → held_by left fewer d.from ≡ ds
      → ((p : Party) → same_party d.from p ≡ false → held_by left fewer p ≡ held_by hands rest p)
      → ((k : ℕ) → stamp_in (left k) ≡ stamp_in (hands k))
      → sent net trace d.from d.to (entries (stamped_below t (log_of_party logs d.from)))
      ≡ sent net trace d.from d.to (entries (log_of_party logs d.from))
      → t ≡ suc (max (clock (logs d.to)) (greatest (stamp_held_by hands d.from))) → t ≤ max_stamp
      → t ≤ n + 1
      → CoreFacts net trace new left fewer (n + 1)
  keeps_landing known f more had has others stamps early stamp most small =
      let above : clock (logs d.to) < t = omega arith in
      let first =
      due_fits net d.from d
      (and_parts (is_due net d.from d) (list_all (is_due net d.from) ds)
      (sym (ap (list_all (is_due net d.from)) had) ∙ f.due d.from)).0 in
      record {
        alone = λ k. elim (more_or_same logs new d.to landed k more) [
          | inl (same, longer) ↦ subst (LegalAlone net k) (sym longer)
              (subst (λ j. LegalAlone net j (logs j ++ landed ∷ [])) (sym same)
              (alone_more net d.to (logs d.to) landed (f.alone d.to) above most first.0 first.1 tt))
          | inr (other, same) ↦ subst (LegalAlone net k) (sym same) (f.alone k)
        ];
        in_time = all_in_time_more net trace logs new d.to landed more f.in_time
            (landing_in_time f had early);
        on_the_way = λ p k. landing_way f more had has others p k (same_party d.from p) refl;
        last_firing =
            λ k. last_by_stamp k (new k) (left k) (hands k) (stamps k)
            (elim (more_or_same logs new d.to landed k more) [
              | inl (same, longer) ↦ ap (λ l. is_last_firing k l (hands k)) longer
                  ∙ last_firing_more k (logs k) (hands k) landed (f.last_firing k) refl
              | inr (other, same) ↦ ap (λ l. is_last_firing k l (hands k)) same ∙ f.last_firing k
            ]);
        due = λ p. landing_due f had has others p (same_party d.from p) refl;
        within = λ k. elim (more_or_same logs new d.to landed k more) [
          | inl (same, longer) ↦ ap (list_all (λ y. nat_le y.stamp (n + 1))) longer
              ∙ all_push (λ y. nat_le y.stamp (n + 1)) (logs k) landed
              (within_more n (logs k) (f.within k)) (le-leb t (n + 1) small)
          | inr (other, same) ↦ ap (list_all (λ y. nat_le y.stamp (n + 1))) same
              ∙ within_more n (logs k) (f.within k)
        ];
        hands_within =
            λ k. within_by_stamp (n + 1) (left k) (hands k) (stamps k)
            (hand_within_more n (hands k) (f.hands_within k));
        least =
            all_least_more net trace logs new d.to landed known more f.in_time f.least
            (f.alone d.to).rising
            (stamp ∙ ap (λ l. suc (max (clock (logs d.to)) (greatest l)))
            (sym (landing_origin f more had d.from refl)));
        held_stamps = landing_stamps f more had has others stamps;
      }

-- ---- a freeing

pub keeps_freeing : (net : Network) (trace : List TraceItem) (logs : ℕ → List Stamped)
    (hands left : ℕ → Option Hand) (rest : List Owed) (n m : ℕ)
    → CoreFacts net trace logs hands rest n
    → deliveries_in (hands m) ≡ []
    → left m ≡ None
    → ((k : ℕ) → (k ≡ m → ⊥) → left k ≡ hands k)
    → CoreFacts net trace logs left rest n
keeps_freeing net trace logs hands left rest n m f empty free others =
    let held : (k : ℕ) → deliveries_in (left k) ≡ deliveries_in (hands k) =
    λ k. elim (cases_eq k m) [
      | inl same ↦ subst (λ j. deliveries_in (left j) ≡ deliveries_in (hands j)) (sym same)
          (ap deliveries_in free ∙ sym empty)
      | inr other ↦ ap deliveries_in (others k other)
    ] in
    let by : (p : Party) → held_by left rest p ≡ held_by hands rest p = by_party held in
    record {
      alone = f.alone;
      in_time = f.in_time;
      on_the_way =
          λ p k. ap (λ l. delivered p k (entries (logs k)) ++ on_way p k l) (by p)
          ∙ f.on_the_way p k;
      last_firing = λ k. elim (cases_eq k m) [
        | inl same ↦ subst (λ j. is_last_firing j (logs j) (left j) ≡ true) (sym same)
            (ap (is_last_firing m (logs m)) free)
        | inr other ↦ ap (is_last_firing k (logs k)) (others k other) ∙ f.last_firing k
      ];
      due = λ p. ap (list_all (is_due net p)) (by p) ∙ f.due p;
      within = f.within;
      hands_within = λ k. elim (cases_eq k m) [
        | inl same ↦ subst (λ j. is_hand_within n (left j) ≡ true) (sym same)
            (ap (is_hand_within n) free)
        | inr other ↦ ap (is_hand_within n) (others k other) ∙ f.hands_within k
      ];
      least = f.least;
      held_stamps = λ j k. f.held_stamps j k ∙ elim (cases_eq j m) [
        | inl same ↦ subst (λ i. stamps_held (hands i) i k ≡ stamps_held (left i) i k) (sym same)
            (nothing_held m k (hands m) empty ∙ sym (ap (λ h. stamps_held h m k) free))
        | inr other ↦ sym (ap (λ h. stamps_held h j k) (others j other))
      ];
    }
  where
    by_party : ((k : ℕ) → deliveries_in (left k) ≡ deliveries_in (hands k)) → (p : Party)
        → held_by left rest p ≡ held_by hands rest p
    by_party held Env = refl
    by_party held (Sender k) = held k
