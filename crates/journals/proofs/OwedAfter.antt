-- What is owed, one entry more.
use Rattle.std.specs.Prelude.{◌≡◌, ℕ, zero, suc, ◌+◌, ◌-◌, ◌<◌, ◌≤◌, Bool, true, false, cond, ◌&&◌, ◌==◌, nat_lt, List, [], ◌∷◌, ◌++◌, map, filter, flat_map, count_by, length, drop}
use Rattle.std.specs.List.{list_all}
use Rattle.std.proofs.Common.{refl, sym, ap, ◌∙◌, subst, inl, inr, arith, append_assoc, length-append}
use Rattle.std.proofs.lemmas.List.{append-nil, length-map}
use Rattle.std.proofs.lemmas.List.Concat.{flat_map-append}
use Rattle.std.proofs.lemmas.List.Elements.{filter-append}
use Rattle.std.proofs.lemmas.List.Sums.{length-filter}
use Rattle.std.proofs.lemmas.Bool.{eqb-true, eq-eqb, and_parts, and_from, both_ways, false_from_ne_true, cases_lt, lt-ltb, le-ltb}
use Rattle.polis_base.specs.Lists.{Begins}
use Rattle.transition_table.specs.declared.decl.Party.{Party}
use Rattle.transition_table.specs.declared.decl.Party.TheVariants.{Env, Machine as Sender}
use Rattle.transition_table.specs.declared.network.Network.{Network}
use Rattle.transition_table.specs.declared.snapshot.Snapshot.{Snapshot}
use Rattle.transition_table.specs.declared.snapshot.Outcome.{Outcome}
use Rattle.journals.specs.declared.entry.Entry.{Entry}
use Rattle.journals.specs.declared.entry.Entry.TheVariants.{Dep, Rea}
use Rattle.journals.specs.declared.entry.Owed.{Owed}
use Rattle.journals.specs.declared.entry.TraceItem.{TraceItem}
use Rattle.journals.specs.declared.entry.TraceItem.TheVariants.{Event, Settle}
use Rattle.journals.specs.Journals.{same_party, emissions, delivered, sent}
use Rattle.journals.specs.Legality.{Legal}
use Rattle.journals.specs.Schedules.{is_way, event_code, without_first, receivers_of, deliveries_of, firing_deliveries, machine_deliveries, trace_deliveries, keep_unless, unmade, owed_by_machines, owed_by_env}
use Rattle.journals.proofs.DeliveredBeginsSent.{same_party_self, party_from_same, delivered_own, delivered_other, delivered_by_reaction, delivered_begins_sent}
use Rattle.journals.proofs.DeliveriesOfWay.{ways_of_emissions, machine_ways}
use Rattle.journals.proofs.MayArrive.{all_from_sender}

-- ---- lists

pub drop_of_nothing : (X : Type 0) (n : ℕ) → ◌≡◌ {A = List X} (drop n []) []
drop_of_nothing X zero = refl
drop_of_nothing X (suc n) = refl

count_more : {X : Type 0} (p : X → Bool) (xs : List X) (x : X) (b : Bool) → p x ≡ b
    → count_by p (xs ++ x ∷ []) ≡ count_by p xs + cond b 1 0
count_more p xs x b h =
    sym (length-filter p (xs ++ x ∷ []))
    ∙ ap length (filter-append p xs (x ∷ []))
    ∙ length-append (filter p xs) (filter p (x ∷ []))
    ∙ (let one : length (filter p (x ∷ [])) ≡ cond b 1 0 = rw h (last b) in let same =
    length-filter p xs in omega arith)
  where
    last : (b : Bool) → length (cond b (x ∷ []) []) ≡ cond b 1 0
    last true = refl
    last false = refl

-- ---- the test of one delivery

pub way_parts : (s : Party) (m : ℕ) (d : Owed) → is_way s m d ≡ true → (d.from ≡ s) × (d.to ≡ m)
way_parts s m d h = let parts =
    and_parts (same_party d.from s) (d.to == m) h in
    (party_from_same d.from s parts.0, eqb-true d.to m parts.1)

pub own_way : (d : Owed) → is_way d.from d.to d ≡ true
own_way d =
    and_from (same_party d.from d.from) (d.to == d.to) (same_party_self d.from)
    (eq-eqb d.to d.to refl)

other_way : (s : Party) (m : ℕ) (d : Owed) → is_way s m d ≡ false
    → (same_party s d.from && m == d.to) ≡ false
other_way s m d h =
    false_from_ne_true (same_party s d.from && m == d.to) (λ w.
    let parts = and_parts (same_party s d.from) (m == d.to) w in
    let from : s ≡ d.from = party_from_same s d.from parts.0 in
    let to : m ≡ d.to = eqb-true m d.to parts.1 in
    both_ways (is_way s m d) h
    (and_from (same_party d.from s) (d.to == m)
    (subst (λ t. same_party d.from t ≡ true) (sym from) (same_party_self d.from))
    (eq-eqb d.to m (sym to))))

-- the item is among the first of its way, as many as the journal has
abbrev pub is_made : {X : Type 0} → (X → Owed) → List Entry → List X → Party → ℕ → Bool
is_made way journal passed s m =
    nat_lt (count_by (λ y. is_way s m (way y)) passed) (length (delivered s m journal))

pub made_of_way : {X : Type 0} (way : X → Owed) (s : Party) (m : ℕ) (journal : List Entry)
    (passed : List X) (x : X) → is_way s m (way x) ≡ true
    → is_made way journal passed (way x).from (way x).to ≡ is_made way journal passed s m
made_of_way way s m journal passed x h =
    let parts = way_parts s m (way x) h in
    ap (λ t. is_made way journal passed t (way x).to) parts.0
    ∙ ap (λ k. is_made way journal passed s k) parts.1

-- ---- the owed deliveries of one sender to one receiver are all but the first ones

-- one item before a list of which it holds
of_way_step : {X : Type 0} (way : X → Owed) (s : Party) (m : ℕ) (journal : List Entry)
    (passed xs rest : List X) (x : X)
    → ((k : ℕ)
    → k ≡ length (delivered s m journal) - count_by (λ y. is_way s m (way y)) (passed ++ x ∷ [])
    → filter (λ y. is_way s m (way y)) rest ≡ drop k (filter (λ y. is_way s m (way y)) xs))
    → (n : ℕ) → n ≡ length (delivered s m journal) - count_by (λ y. is_way s m (way y)) passed
    → (b : Bool) → is_way s m (way x) ≡ b
    → filter (λ y. is_way s m (way y))
    (keep_unless (is_made way journal passed (way x).from (way x).to) x rest)
    ≡ drop n
    (cond b (x ∷ filter (λ y. is_way s m (way y)) xs) (filter (λ y. is_way s m (way y)) xs))
of_way_step way s m journal passed xs rest x below zero h true here =
    let count = count_more (λ y. is_way s m (way y)) passed x true here in
    let no : is_made way journal passed (way x).from (way x).to ≡ false =
    made_of_way way s m journal passed x here
    ∙ le-ltb (count_by (λ y. is_way s m (way y)) passed) (length (delivered s m journal))
    (omega arith) in
    rw (no, here) (ap (λ l. x ∷ l) (below 0 (omega arith)))
of_way_step way s m journal passed xs rest x below (suc n) h true here =
    let count = count_more (λ y. is_way s m (way y)) passed x true here in
    let is : is_made way journal passed (way x).from (way x).to ≡ true =
    made_of_way way s m journal passed x here
    ∙ lt-ltb (count_by (λ y. is_way s m (way y)) passed) (length (delivered s m journal))
    (omega arith) in
    rw is (below n (omega arith))
of_way_step way s m journal passed xs rest x below n h false other =
    let count = count_more (λ y. is_way s m (way y)) passed x false other in
    let here : filter (λ y. is_way s m (way y)) rest
    ≡ drop n (filter (λ y. is_way s m (way y)) xs) = below n (omega arith) in
    elim
    (is_made way journal passed (way x).from (way x).to) as (λ b.
    filter (λ y. is_way s m (way y)) (keep_unless b x rest)
    ≡ drop n (filter (λ y. is_way s m (way y)) xs)) [
      | true ↦ here
      | false ↦ rw other here
    ]

pub unmade_of_way : {X : Type 0} (way : X → Owed) (s : Party) (m : ℕ) (journal : List Entry)
    (passed xs : List X) (n : ℕ)
    → n ≡ length (delivered s m journal) - count_by (λ x. is_way s m (way x)) passed
    → filter (λ x. is_way s m (way x)) (unmade way journal passed xs)
    ≡ drop n (filter (λ x. is_way s m (way x)) xs)
unmade_of_way {X} way s m journal passed [] n h = sym (drop_of_nothing X n)
unmade_of_way way s m journal passed (x ∷ xs) n h =
    of_way_step way s m journal passed xs (unmade way journal (passed ++ x ∷ []) xs) x
    (unmade_of_way way s m journal (passed ++ x ∷ []) xs) n h (is_way s m (way x)) refl

pub owed_of_way : {X : Type 0} (way : X → Owed) (s : Party) (m : ℕ) (journal : List Entry)
    (xs : List X)
    → filter (λ x. is_way s m (way x)) (unmade way journal [] xs)
    ≡ drop (length (delivered s m journal)) (filter (λ x. is_way s m (way x)) xs)
owed_of_way way s m journal xs =
    unmade_of_way way s m journal [] xs (length (delivered s m journal)) (omega arith)

-- ---- after one delivery more

-- what was passed has all of this way that are made
unmade_past : {X : Type 0} (way : X → Owed) (s : Party) (m e c : ℕ) (journal : List Entry)
    (passed xs : List X)
    → length (delivered s m journal) < count_by (λ x. is_way s m (way x)) passed
    → unmade way (journal ++ Dep s m e c ∷ []) passed xs ≡ unmade way journal passed xs
unmade_past way s m e c journal passed [] h = refl
unmade_past way s m e c journal passed (x ∷ xs) h =
    ap (λ b. keep_unless b x (unmade way (journal ++ Dep s m e c ∷ []) (passed ++ x ∷ []) xs))
    (same (is_way s m (way x)) refl)
    ∙ ap (keep_unless (is_made way journal passed (way x).from (way x).to) x)
    (unmade_past way s m e c journal (passed ++ x ∷ []) xs (further (is_way s m (way x)) refl))
  where
    further : (b : Bool) → is_way s m (way x) ≡ b
        → length (delivered s m journal) < count_by (λ x. is_way s m (way x)) (passed ++ x ∷ [])
    further b here = let count = count_more (λ x. is_way s m (way x)) passed x b here in omega arith

    same : (b : Bool) → is_way s m (way x) ≡ b
        → is_made way (journal ++ Dep s m e c ∷ []) passed (way x).from (way x).to
        ≡ is_made way journal passed (way x).from (way x).to
    same true here =
        let longer : length (delivered s m (journal ++ Dep s m e c ∷ []))
        ≡ length (delivered s m journal) + 1 = ap length (delivered_own s m e c journal)
        ∙ length-append (delivered s m journal) ((e, c) ∷ []) in
        made_of_way way s m (journal ++ Dep s m e c ∷ []) passed x here
        ∙ le-ltb (count_by (λ x. is_way s m (way x)) passed)
        (length (delivered s m (journal ++ Dep s m e c ∷ []))) (omega arith)
        ∙ sym
        (le-ltb (count_by (λ x. is_way s m (way x)) passed) (length (delivered s m journal))
        (omega arith))
        ∙ sym (made_of_way way s m journal passed x here)
    same false other =
        ap (λ ds.
        nat_lt (count_by (λ y. is_way (way x).from (way x).to (way y)) passed) (length ds))
        (delivered_other (way x).from s (way x).to m e c journal (other_way s m (way x) other))

one_more_step : {X : Type 0} (way : X → Owed) (s : Party) (m e c : ℕ) (journal : List Entry)
    (passed xs : List X) (x : X)
    → count_by (λ y. is_way s m (way y)) passed ≤ length (delivered s m journal)
    → (count_by (λ y. is_way s m (way y)) (passed ++ x ∷ []) ≤ length (delivered s m journal)
    → unmade way (journal ++ Dep s m e c ∷ []) (passed ++ x ∷ []) xs
    ≡ without_first (λ y. is_way s m (way y)) (unmade way journal (passed ++ x ∷ []) xs))
    → (b : Bool) → is_way s m (way x) ≡ b
    → unmade way (journal ++ Dep s m e c ∷ []) passed (x ∷ xs)
    ≡ without_first (λ y. is_way s m (way y)) (unmade way journal passed (x ∷ xs))
one_more_step way s m e c journal passed xs x h below true here =
    let count = count_more (λ y. is_way s m (way y)) passed x true here in
    let longer : length (delivered s m (journal ++ Dep s m e c ∷ []))
    ≡ length (delivered s m journal) + 1 = ap length (delivered_own s m e c journal)
    ∙ length-append (delivered s m journal) ((e, c) ∷ []) in
    let now : is_made way (journal ++ Dep s m e c ∷ []) passed (way x).from (way x).to ≡ true =
    made_of_way way s m (journal ++ Dep s m e c ∷ []) passed x here
    ∙ lt-ltb (count_by (λ y. is_way s m (way y)) passed)
    (length (delivered s m (journal ++ Dep s m e c ∷ []))) (omega arith) in
    elim (cases_lt (count_by (λ y. is_way s m (way y)) passed) (length (delivered s m journal))) [
      | inl under ↦
          let before : is_made way journal passed (way x).from (way x).to ≡ true =
          made_of_way way s m journal passed x here
          ∙ lt-ltb (count_by (λ y. is_way s m (way y)) passed)
          (length (delivered s m journal)) under in
          rw (now, before) (below (omega arith))
      | inr over ↦
          let before : is_made way journal passed (way x).from (way x).to ≡ false =
          made_of_way way s m journal passed x here
          ∙ le-ltb (count_by (λ y. is_way s m (way y)) passed)
          (length (delivered s m journal)) over in
          rw (now, before, here)
          (unmade_past way s m e c journal (passed ++ x ∷ []) xs (omega arith))
    ]
one_more_step way s m e c journal passed xs x h below false other =
    let count = count_more (λ y. is_way s m (way y)) passed x false other in
    let rest = below (omega arith) in
    let same : is_made way (journal ++ Dep s m e c ∷ []) passed (way x).from (way x).to
    ≡ is_made way journal passed (way x).from (way x).to =
    ap (λ ds. nat_lt (count_by (λ y. is_way (way x).from (way x).to (way y)) passed) (length ds))
    (delivered_other (way x).from s (way x).to m e c journal (other_way s m (way x) other)) in
    ap (λ b. keep_unless b x (unmade way (journal ++ Dep s m e c ∷ []) (passed ++ x ∷ []) xs)) same
    ∙ ap (keep_unless (is_made way journal passed (way x).from (way x).to) x) rest
    ∙ elim
    (is_made way journal passed (way x).from (way x).to) as (λ b.
    keep_unless b x
    (without_first (λ y. is_way s m (way y)) (unmade way journal (passed ++ x ∷ []) xs))
    ≡ without_first (λ y. is_way s m (way y))
    (keep_unless b x (unmade way journal (passed ++ x ∷ []) xs))) [
      | true ↦ refl
      | false ↦ rw other refl
    ]

unmade_one_more : {X : Type 0} (way : X → Owed) (s : Party) (m e c : ℕ) (journal : List Entry)
    (passed xs : List X)
    → count_by (λ x. is_way s m (way x)) passed ≤ length (delivered s m journal)
    → unmade way (journal ++ Dep s m e c ∷ []) passed xs
    ≡ without_first (λ x. is_way s m (way x)) (unmade way journal passed xs)
unmade_one_more way s m e c journal passed [] h = refl
unmade_one_more way s m e c journal passed (x ∷ xs) h =
    one_more_step way s m e c journal passed xs x h
    (unmade_one_more way s m e c journal (passed ++ x ∷ []) xs) (is_way s m (way x)) refl

-- a delivery takes the first of its way away
pub owed_by_delivery : {X : Type 0} (way : X → Owed) (s : Party) (m e c : ℕ) (journal : List Entry)
    (xs : List X)
    → unmade way (journal ++ Dep s m e c ∷ []) [] xs
    ≡ without_first (λ x. is_way s m (way x)) (unmade way journal [] xs)
owed_by_delivery way s m e c journal xs = unmade_one_more way s m e c journal [] xs (omega arith)

-- ---- after more deliveries that are given

pub unmade_append : {X : Type 0} (way : X → Owed) (journal : List Entry) (passed xs ys : List X)
    → unmade way journal passed (xs ++ ys)
    ≡ unmade way journal passed xs ++ unmade way journal (passed ++ xs) ys
unmade_append way journal passed [] ys = ap (λ l. unmade way journal l ys) (sym (append-nil passed))
unmade_append {X} way journal passed (x ∷ xs) ys =
    ap (keep_unless (is_made way journal passed (way x).from (way x).to) x)
    (unmade_append way journal (passed ++ x ∷ []) xs ys
    ∙ ap (λ l. unmade way journal (passed ++ x ∷ []) xs ++ unmade way journal l ys)
    (append_assoc passed (x ∷ []) xs))
    ∙ kept (is_made way journal passed (way x).from (way x).to)
    (unmade way journal (passed ++ x ∷ []) xs) (unmade way journal (passed ++ x ∷ xs) ys)
  where
    kept : (b : Bool) (us vs : List X) → keep_unless b x (us ++ vs) ≡ keep_unless b x us ++ vs
    kept true us vs = refl
    kept false us vs = refl

unmade_same : {X : Type 0} (way : X → Owed) (j k : List Entry) (passed xs : List X)
    → ((s : Party) (m : ℕ) → delivered s m j ≡ delivered s m k)
    → unmade way j passed xs ≡ unmade way k passed xs
unmade_same way j k passed [] h = refl
unmade_same way j k passed (x ∷ xs) h =
    ap (λ ds.
    keep_unless
    (nat_lt (count_by (λ y. is_way (way x).from (way x).to (way y)) passed) (length ds)) x
    (unmade way j (passed ++ x ∷ []) xs)) (h (way x).from (way x).to)
    ∙ ap (keep_unless (is_made way k passed (way x).from (way x).to) x)
    (unmade_same way j k (passed ++ x ∷ []) xs h)

-- what was passed has all of this sender that are made
none_made : {X : Type 0} (way : X → Owed) (s : Party) (journal : List Entry) (passed xs : List X)
    → list_all (λ x. same_party (way x).from s) xs ≡ true
    → ((m : ℕ) → length (delivered s m journal) ≤ count_by (λ x. is_way s m (way x)) passed)
    → unmade way journal passed xs ≡ xs
none_made way s journal passed [] h above = refl
none_made way s journal passed (x ∷ xs) h above =
    let parts =
    and_parts (same_party (way x).from s) (list_all (λ x. same_party (way x).from s) xs) h in
    let not_made : is_made way journal passed (way x).from (way x).to ≡ false =
    ap (λ t. is_made way journal passed t (way x).to) (party_from_same (way x).from s parts.0)
    ∙ le-ltb (count_by (λ y. is_way s (way x).to (way y)) passed)
    (length (delivered s (way x).to journal)) (above (way x).to) in
    ap (λ b. keep_unless b x (unmade way journal (passed ++ x ∷ []) xs)) not_made
    ∙ ap (λ l. x ∷ l)
    (none_made way s journal (passed ++ x ∷ []) xs parts.1
    (λ m. further m (is_way s m (way x)) refl))
  where
    further : (m : ℕ) (b : Bool) → is_way s m (way x) ≡ b
        → length (delivered s m journal) ≤ count_by (λ x. is_way s m (way x)) (passed ++ x ∷ [])
    further m b here = let count =
        count_more (λ x. is_way s m (way x)) passed x b here in let before = above m in omega arith

pub begins_shorter : {X : Type 0} (xs ys : List X) → Begins xs ys → length xs ≤ length ys
begins_shorter xs ys (rest, h) = let long : length ys ≡ length xs + length rest = ap length h
    ∙ length-append xs rest in omega arith

-- a legal journal has no more deliveries of a machine than its firings give
delivered_below : (net : Network) (trace : List TraceItem) (s m : ℕ) (journal : List Entry)
    → Legal net trace journal
    → length (delivered (Sender s) m journal)
    ≤ count_by (is_way (Sender s) m) (machine_deliveries net journal)
delivered_below net trace s m journal h =
    let short =
    begins_shorter (delivered (Sender s) m journal) (sent net trace (Sender s) m journal)
    (delivered_begins_sent net trace (Sender s) m journal h) in
    let long : length (sent net trace (Sender s) m journal)
    ≡ count_by (is_way (Sender s) m) (machine_deliveries net journal) =
    ap length (sym (machine_ways net trace s m journal))
    ∙ length-map (filter (is_way (Sender s) m) (machine_deliveries net journal)) event_code
    ∙ length-filter (is_way (Sender s) m) (machine_deliveries net journal) in
    omega arith

machine_deliveries_more : (net : Network) (journal : List Entry) (entry : Entry)
    → machine_deliveries net (journal ++ entry ∷ [])
    ≡ machine_deliveries net journal ++ firing_deliveries net entry
machine_deliveries_more net journal entry =
    flat_map-append (firing_deliveries net) journal (entry ∷ [])
    ∙ ap (λ l. machine_deliveries net journal ++ l) (append-nil (firing_deliveries net entry))

-- ---- the steps of what machines owe

-- a reaction owes what its firing gives
pub reaction_owes : (net : Network) (trace : List TraceItem) (journal : List Entry) (m : ℕ)
    (x : Snapshot) (o : Outcome) → Legal net trace journal
    → owed_by_machines net (journal ++ Rea m x o ∷ [])
    ≡ owed_by_machines net journal ++ firing_deliveries net (Rea m x o)
reaction_owes net trace journal m x o h =
    unmade_same (λ d. d) (journal ++ Rea m x o ∷ []) journal []
    (machine_deliveries net (journal ++ Rea m x o ∷ []))
    (λ s k. delivered_by_reaction s k m x o journal)
    ∙ ap (unmade (λ d. d) journal []) (machine_deliveries_more net journal (Rea m x o))
    ∙ unmade_append (λ d. d) journal [] (machine_deliveries net journal)
    (firing_deliveries net (Rea m x o))
    ∙ ap (λ l. owed_by_machines net journal ++ l)
    (none_made (λ d. d) (Sender m) journal (machine_deliveries net journal)
    (firing_deliveries net (Rea m x o)) (all_from_sender net (Sender m) (emissions net (Rea m x o)))
    (λ k. delivered_below net trace m k journal h))

-- a delivery takes the first of its way away, whoever made it
pub delivery_owes : (net : Network) (journal : List Entry) (s : Party) (m e c : ℕ)
    → owed_by_machines net (journal ++ Dep s m e c ∷ [])
    ≡ without_first (is_way s m) (owed_by_machines net journal)
delivery_owes net journal s m e c =
    ap (unmade (λ d. d) (journal ++ Dep s m e c ∷ []) [])
    (machine_deliveries_more net journal (Dep s m e c)
    ∙ append-nil (machine_deliveries net journal))
    ∙ owed_by_delivery (λ d. d) s m e c journal (machine_deliveries net journal)

-- no machine gives a delivery of the environment
pub no_env_way : (net : Network) (m : ℕ) (journal : List Entry)
    → filter (is_way Env m) (machine_deliveries net journal) ≡ []
no_env_way net m [] = refl
no_env_way net m (Dep from to e c ∷ journal) = no_env_way net m journal
no_env_way net m (Rea k x o ∷ journal) =
    filter-append (is_way Env m)
    (flat_map (deliveries_of net (Sender k)) (emissions net (Rea k x o)))
    (machine_deliveries net journal)
    ∙ ap (λ l. l ++ filter (is_way Env m) (machine_deliveries net journal))
    (nothing
    (filter (is_way Env m) (flat_map (deliveries_of net (Sender k)) (emissions net (Rea k x o))))
    (ways_of_emissions net (Sender k) Env m (emissions net (Rea k x o))))
    ∙ no_env_way net m journal
  where
    nothing : (ds : List Owed) → map event_code ds ≡ [] → ds ≡ []
    nothing [] h = refl
    nothing (d ∷ ds) h = cc

-- nor the environment one of a machine
pub no_machine_way : (net : Network) (s m : ℕ) (settled : Bool) (trace : List TraceItem)
    → filter (λ (p : Owed × Bool). is_way (Sender s) m p.0) (trace_deliveries net settled trace)
    ≡ []
no_machine_way net s m settled [] = refl
no_machine_way net s m settled (Settle ∷ items) = no_machine_way net s m true items
no_machine_way net s m settled (Event e c ∷ items) =
    filter-append (λ (p : Owed × Bool). is_way (Sender s) m p.0)
    (map (λ d. (d, settled)) (deliveries_of net Env (e, c))) (trace_deliveries net false items)
    ∙ ap
    (λ l.
    l ++ filter (λ (p : Owed × Bool). is_way (Sender s) m p.0) (trace_deliveries net false items))
    (none (receivers_of net e))
    ∙ no_machine_way net s m false items
  where
    none : (receivers : List ℕ)
        → filter (λ (p : Owed × Bool). is_way (Sender s) m p.0)
        (map (λ d. (d, settled))
        (map (λ k. record { from = Env; to = k; event = e; code = c }) receivers)) ≡ []
    none [] = refl
    none (k ∷ receivers) = none receivers

pub owed_by_machines_env : (net : Network) (journal : List Entry) (m : ℕ)
    → filter (is_way Env m) (owed_by_machines net journal) ≡ []
owed_by_machines_env net journal m =
    owed_of_way (λ d. d) Env m journal (machine_deliveries net journal)
    ∙ ap (drop (length (delivered Env m journal))) (no_env_way net m journal)
    ∙ drop_of_nothing Owed (length (delivered Env m journal))

pub owed_by_env_machine : (net : Network) (trace : List TraceItem) (journal : List Entry) (s m : ℕ)
    → filter (λ (p : Owed × Bool). is_way (Sender s) m p.0) (owed_by_env net trace journal) ≡ []
owed_by_env_machine net trace journal s m =
    owed_of_way (λ (p : Owed × Bool). p.0) (Sender s) m journal (trace_deliveries net false trace)
    ∙ ap (drop (length (delivered (Sender s) m journal))) (no_machine_way net s m false trace)
    ∙ drop_of_nothing (Owed × Bool) (length (delivered (Sender s) m journal))
