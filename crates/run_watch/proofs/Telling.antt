-- Of which entry the monitor was told last.
use Rattle.std.proofs.Common.{◌≡◌, ◌⊎◌, ℕ, zero, suc, ◌+◌, ◌<◌, ◌≤◌, Bool, true, false, cond, ◌==◌, List, [], ◌∷◌, ◌++◌, map, filter, filter_map, flat_map, length, take, drop, slice_get, get_or, Option, Some, None, refl, sym, ap, ◌∙◌, subst, inl, inr, arith}
use Rattle.std.specs.Bool.{then_some}
use Rattle.std.specs.List.{cons_option, enumerate_from}
use Rattle.std.specs.Option.{option_or}
use Rattle.std.proofs.lemmas.Bool.{eq-eqb, false≢true}
use Rattle.std.proofs.lemmas.List.{append-nil, length-append, map-append, take-append-drop}
use Rattle.std.proofs.lemmas.List.Elements.{filter_map-append}
use Rattle.std.proofs.lemmas.Option.{none-some, slice_get-get_or}
use Rattle.polis_base.specs.Lists.{head_of, last_of}
use Rattle.transition_table.specs.declared.decl.Party.TheVariants.{Env, Machine as Sender}
use Rattle.transition_table.specs.declared.network.Network.{Network}
use Rattle.journals.specs.declared.entry.Entry.{Entry}
use Rattle.journals.specs.declared.entry.Entry.TheVariants.{Dep, Rea}
use Rattle.journals.specs.declared.entry.TraceItem.{TraceItem}
use Rattle.journals.specs.Journals.{delivered, reads}
use Rattle.journals.specs.Legality.{Legal}
use Rattle.journals.proofs.DeliveredBeginsSent.{delivered_begins_sent, delivered_more, may_follow_next}
use Rattle.journals.proofs.Emitted.{drop_at_item}
use Rattle.journals.proofs.EntriesAt.{prefix_more}
use Rattle.journals.proofs.Legal.{prefixes_are_legal}
use Rattle.run_watch.specs.Emissions.{placed_in, placed_outputs}
use Rattle.run_watch.specs.Monitors.{settled}
use Rattle.run_watch.specs.Watches.{StandsAt, ToldAt, last_receiver, receiver, sources}
use Rattle.run_watch.specs.declared.emission.Emission.{Emission}
use Rattle.run_watch.proofs.Hears.{sources_many}
use Rattle.run_watch.proofs.Placed.{placed_within}
use Rattle.polis_base.proofs.Places.{last_more, some_is}

-- ---- one entry more

pub last_receiver_more : (entries : List Entry) (entry : Entry)
    → last_receiver (entries ++ entry ∷ []) ≡ option_or (receiver entry) (last_receiver entries)
last_receiver_more entries entry =
    ap (λ (l : List ℕ). last_of None (map Some l)) (filter_map-append receiver entries (entry ∷ []))
    ∙ go (receiver entry)
  where
    go : (o : Option ℕ)
        → last_of None (map Some (filter_map receiver entries ++ cons_option o []))
        ≡ option_or o (last_of None (map Some (filter_map receiver entries)))
    go None =
        ap (λ (l : List ℕ). last_of None (map Some l)) (append-nil (filter_map receiver entries))
    go (Some m) =
        ap (last_of None) (map-append Some (filter_map receiver entries) (m ∷ []))
        ∙ last_more None (Some m) (map Some (filter_map receiver entries))

-- ---- the first entry

-- a legal journal begins with a delivery of the environment
first_is_env : (net : Network) (trace : List TraceItem) (entry : Entry) (entries : List Entry)
    → Legal net trace (entry ∷ entries)
    → (m : ℕ) × (e : ℕ) × (c : ℕ) × (entry ≡ Dep Env m e c)
first_is_env net trace (Dep Env m e c) entries legal = (m, e, c, refl)
first_is_env net trace (Dep (Sender s) m e c) entries legal =
    absurd
    (none-some (e, c)
    ((may_follow_next net trace [] (Sender s) m e c ([], refl)).0 (legal.1).0))
first_is_env net trace (Rea m s o) entries legal = absurd (false≢true ((legal.1).0).0)

last_some : (m : ℕ) (ms : List ℕ) → (k : ℕ) × (last_of (Some m) (map Some ms) ≡ Some k)
last_some m [] = (m, refl)
last_some m (k ∷ ms) = last_some k ms

-- ---- how many deliveries came to the last receiver

own : (k e c : ℕ) (rest : List (ℕ × ℕ))
    → (n : ℕ) × (length (cons_option (then_some (k == k) (e, c)) rest) ≡ suc n)
own k e c rest = (
  length rest,
  ap (λ b. length (cons_option (then_some b (e, c)) rest)) (eq-eqb k k refl),
)

no_fewer : (b : Bool) (p : ℕ × ℕ) (rest : List (ℕ × ℕ)) (n : ℕ) → length rest ≡ suc n
    → (k : ℕ) × (length (cons_option (then_some b p) rest) ≡ suc k)
no_fewer true p rest n is = (suc n, ap suc is)
no_fewer false p rest n is = (n, is)

some_came : (entries : List Entry) (acc : Option ℕ) (k : ℕ)
    → last_of acc (map Some (filter_map receiver entries)) ≡ Some k
    → (acc ≡ Some k) ⊎ ((n : ℕ) × (length (delivered Env k entries) ≡ suc n))
some_came [] acc k is = inl is
some_came (Dep Env m e c ∷ entries) acc k is = elim (some_came entries (Some m) k is) [
  | inl last ↦
      let same : k ≡ m = cc in
      inr
      (subst
      (λ (j : ℕ). (n : ℕ)
      × (length (cons_option (then_some (m == j) (e, c)) (delivered Env j entries)) ≡ suc n))
      (sym same) (own m e c (delivered Env m entries)))
  | inr (n, before) ↦ inr (no_fewer (m == k) (e, c) (delivered Env k entries) n before)
]
some_came (Dep (Sender s) m e c ∷ entries) acc k is = some_came entries acc k is
some_came (Rea m s o ∷ entries) acc k is = some_came entries acc k is

pub came_to_last : (entries : List Entry) (k : ℕ) → last_receiver entries ≡ Some k
    → (n : ℕ) × (length (delivered Env k entries) ≡ suc n)
came_to_last entries k is = elim (some_came entries None k is) [
  | inl none ↦ absurd (none-some k none)
  | inr some ↦ some
]

-- ---- there is such an entry

-- those before a place of a legal journal brought no more than was sent
came_within : (monitor : Network) (heard : List Emission) (watch : List Entry) (place m n : ℕ)
    → Legal monitor (settled heard) watch → length (delivered Env m (take place watch)) ≡ suc n
    → n < length (sources monitor heard m)
came_within monitor heard watch place m n legal counted =
    let front : List Entry = take place watch in
    let prefix =
    prefixes_are_legal monitor (settled heard) front (drop place watch)
    (subst (Legal monitor (settled heard)) (sym (take-append-drop place watch)) legal) in
    let begins = delivered_begins_sent monitor (settled heard) Env m front prefix in
    let long =
    ap length begins.1 ∙ length-append (delivered Env m front) begins.0 in
    let many = sources_many monitor heard m front in
    omega arith

told_before : (monitor : Network) (heard : List Emission) (watch : List Entry) (place : ℕ)
    (m : ℕ) → Legal monitor (settled heard) watch
    → last_receiver (take place watch) ≡ Some m
    → (at : ℕ) × ToldAt monitor heard (take place watch) at
told_before monitor heard watch place m legal last =
    let (n, counted) = came_to_last (take place watch) m last in
    let within = came_within monitor heard watch place m n legal counted in (
      get_or (sources monitor heard m) n 0,
      record {
        machine = m;
        number = n;
        last = last;
        counted = counted;
        source = slice_get-get_or (sources monitor heard m) n 0 within;
      },
    )

-- before the first output the environment delivered something
some_last : (monitor : Network) (trace : List TraceItem) (watch : List Entry) (first : Emission)
    → Legal monitor trace watch → head_of (placed_outputs monitor watch) ≡ Some first
    → (m : ℕ) × (last_receiver (take first.place watch) ≡ Some m)
some_last monitor trace [] first legal is = absurd (none-some first is)
some_last monitor trace (entry ∷ watch) first legal is =
    let (m, e, c, env) = first_is_env monitor trace entry watch legal in
    go entry m e c env is
  where
    place_above : (place : ℕ) → 1 ≤ place → (q : ℕ) × (place ≡ suc q)
    place_above zero h = absurd (omega arith)
    place_above (suc q) h = (q, refl)

    go : (entry : Entry) (m e c : ℕ) → entry ≡ Dep Env m e c
        → head_of (placed_outputs monitor (entry ∷ watch)) ≡ Some first
        → (k : ℕ) × (last_receiver (take first.place (entry ∷ watch)) ≡ Some k)
    go entry m e c env is =
        let at : head_of (flat_map (placed_in monitor) (enumerate_from 1 watch)) ≡ Some first =
        subst (λ (x : Entry). head_of (placed_outputs monitor (x ∷ watch)) ≡ Some first) env is in
        let (q, above) = place_above first.place (placed_within monitor 1 watch first at).0 in
        let (k, last) = last_some m (filter_map receiver (take q watch)) in (
          k,
          ap (λ (p : ℕ). last_receiver (take p (entry ∷ watch))) above
              ∙ ap (λ (x : Entry). last_receiver (x ∷ take q watch)) env ∙ last,
        )

pub some_place : (monitor : Network) (heard : List Emission) (watch : List Entry)
    (first : Emission) → Legal monitor (settled heard) watch
    → head_of (placed_outputs monitor watch) ≡ Some first
    → (place : ℕ) × ToldAt monitor heard (take first.place watch) place
some_place monitor heard watch first legal is =
    let (m, last) = some_last monitor (settled heard) watch first legal is in
    told_before monitor heard watch first.place m legal last

-- ---- there is one alone

pub one_told : (monitor : Network) (heard : List Emission) (entries : List Entry) (p q : ℕ)
    → ToldAt monitor heard entries p → ToldAt monitor heard entries q → p ≡ q
one_told monitor heard entries p q a b =
    let machine : a.machine ≡ b.machine =
    some_is a.machine b.machine (sym a.last ∙ b.last) in
    let number : a.number ≡ b.number =
    let count = sym a.counted
    ∙ ap (λ (m : ℕ). length (delivered Env m entries)) machine ∙ b.counted in
    omega arith in
    some_is p q
    (sym a.source
    ∙ ap (λ (m : ℕ). slice_get (sources monitor heard m) a.number) machine
    ∙ ap (slice_get (sources monitor heard b.machine)) number ∙ b.source)

pub one_place : (monitor : Network) (heard : List Emission) (watch : List Entry) (p q : ℕ)
    → StandsAt monitor heard watch p → StandsAt monitor heard watch q → p ≡ q
one_place monitor heard watch p q a b =
    let first : a.first ≡ b.first = some_is a.first b.first (sym a.is ∙ b.is) in
    one_told monitor heard (take b.first.place watch) p q
    (subst (λ (x : Emission). ToldAt monitor heard (take x.place watch) p) first a.told) b.told

-- ---- one entry or item more

pub last_after : (watch : List Entry) (p : ℕ) (entry : Entry) → slice_get watch p ≡ Some entry
    → last_receiver (take (p + 1) watch)
    ≡ option_or (receiver entry) (last_receiver (take p watch))
last_after watch p entry at =
    ap last_receiver (prefix_more watch p entry at)
    ∙ last_receiver_more (take p watch) entry

pub count_after : (watch : List Entry) (p m : ℕ) (entry : Entry)
    → slice_get watch p ≡ Some entry
    → length (delivered Env m (take (p + 1) watch))
    ≡ length (delivered Env m (take p watch)) + length (delivered Env m (entry ∷ []))
count_after watch p m entry at =
    ap (λ (l : List Entry). length (delivered Env m l)) (prefix_more watch p entry at)
    ∙ ap length (delivered_more Env m (take p watch) entry)
    ∙ length-append (delivered Env m (take p watch)) (delivered Env m (entry ∷ []))

module _ (monitor : Network) (heard : List Emission) (m k : ℕ) (x : Emission)
    (at : slice_get heard k ≡ Some x) where
  pub sources_here : reads monitor m x.event ≡ true
      → sources monitor (drop k heard) m ≡ x.place ∷ sources monitor (drop (k + 1) heard) m
  sources_here read =
      ap (λ (l : List Emission). sources monitor l m) (drop_at_item heard k x at)
      ∙ ap
      (λ b. map (λ (y : Emission). y.place)
      (cond b (x ∷ filter (λ y. reads monitor m y.event) (drop (k + 1) heard))
      (filter (λ y. reads monitor m y.event) (drop (k + 1) heard)))) read

  pub sources_past : reads monitor m x.event ≡ false
      → sources monitor (drop k heard) m ≡ sources monitor (drop (k + 1) heard) m
  sources_past unread =
      ap (λ (l : List Emission). sources monitor l m) (drop_at_item heard k x at)
      ∙ ap
      (λ b. map (λ (y : Emission). y.place)
      (cond b (x ∷ filter (λ y. reads monitor m y.event) (drop (k + 1) heard))
      (filter (λ y. reads monitor m y.event) (drop (k + 1) heard)))) unread

pub get_later : {X : Type 0} (x : X) (xs ys : List X) (n left : ℕ) → ys ≡ x ∷ xs → n ≡ left + 1
    → slice_get ys n ≡ slice_get xs left
get_later {X} x xs ys n left is more =
    ap (λ (l : List X). slice_get l n) is
    ∙ (let e : n ≡ suc left = omega arith in ap (slice_get (x ∷ xs)) e)
