-- Each reaction of a legal journal sees an input.
use Rattle.std.specs.Prelude.{◌≡◌, ℕ, suc, ◌<◌, ◌≤◌, Bool, true, false, cond, not, ◌&&◌, ◌||◌, ◌==◌, nat_lt, nat_le, List, [], ◌∷◌, ◌++◌, map, filter, filter_map, flat_map, length, slice_get, slice_index, Option, Some, None, IsTrue, IsSomeAnd, ⊤, option_map, unwrap_or}
use Rattle.std.specs.List.{list_all}
use Rattle.std.proofs.Common.{refl, sym, ap, ◌∙◌, subst, arith, get_or}
use Rattle.std.proofs.lemmas.Bool.{and_parts, and_from, false≢true, eqb-true, eq-eqb, leb-true, ne_eqb}
use Rattle.std.proofs.lemmas.List.{append-nil, append_assoc, get_or_append_left, get_or-map, length-map}
use Rattle.std.proofs.lemmas.List.Folds.{list_all-append}
use Rattle.polis_base.specs.Lists.{upto}
use Rattle.transition_table.specs.NetworkFacts.{has}
use Rattle.transition_table.specs.Transitions.{OfMachine, IsSnapshot, IsOutcome}
use Rattle.transition_table.specs.declared.decl.Party.{Party}
use Rattle.transition_table.specs.declared.decl.Party.TheVariants.{Env, Machine as Sender}
use Rattle.transition_table.specs.declared.machine.Machine.{Machine}
use Rattle.transition_table.specs.declared.network.Network.{Network}
use Rattle.transition_table.specs.declared.snapshot.Snapshot.{Snapshot}
use Rattle.journals.specs.declared.entry.Entry.{Entry}
use Rattle.journals.specs.declared.entry.Entry.TheVariants.{Dep, Rea}
use Rattle.journals.specs.declared.entry.TraceItem.{TraceItem}
use Rattle.journals.specs.Journals.{FitsNetwork, inputs_of, states_of, is_event_code, is_party, is_firing_of, event_of, emissions, reads, sent, delivered, buffered, state, snap, is_woken}
use Rattle.journals.specs.Legality.{Legal, MayFollow}
use Rattle.journals.proofs.DeliveredBeginsSent.{delivered_own}
use Rattle.journals.proofs.Legal.{goes_on_by_steps, prefixes_are_legal}
use Rattle.journals.proofs.MomentsAfter.{is_woken_after, place_dep, place_rea}
use Rattle.journals.specs.Seen.{ReactionsSee, is_present, is_seen}
use Rattle.journals.proofs.Upto.{any_found}

-- ---- what is delivered is read by its receiver

all_filter : {X : Type 0} (p : X → Bool) (xs : List X) → list_all p (filter p xs) ≡ true
all_filter p [] = refl
all_filter {X} p (x ∷ xs) = cases (p x) refl (all_filter p xs)
  where
    cases : (b : Bool) → p x ≡ b → list_all p (filter p xs) ≡ true
        → list_all p (cond b (x ∷ filter p xs) (filter p xs)) ≡ true
    cases true is rest = and_from (p x) (list_all p (filter p xs)) is rest
    cases false is rest = rest

filter_has : {X : Type 0} (p : X → Bool) (xs before rest : List X) (y : X)
    → filter p xs ≡ (before ++ y ∷ []) ++ rest → p y ≡ true
filter_has p xs before rest y h =
    let all : list_all p ((before ++ y ∷ []) ++ rest) ≡ true =
    sym (ap (list_all p) h) ∙ all_filter p xs in
    let front = (and_parts (list_all p (before ++ y ∷ [])) (list_all p rest)
    (sym (list_all-append p (before ++ y ∷ []) rest) ∙ all)).0 in
    let last = (and_parts (list_all p before) (list_all p (y ∷ []))
    (sym (list_all-append p before (y ∷ [])) ∙ front)).1 in
    (and_parts (p y) true last).0

sent_is_read : (net : Network) (trace : List TraceItem) (s : Party) (m e c : ℕ)
    (journal : List Entry) (before rest : List (ℕ × ℕ))
    → sent net trace s m journal ≡ (before ++ (e, c) ∷ []) ++ rest → reads net m e ≡ true
sent_is_read net trace Env m e c journal before rest h =
    filter_has (λ (p : ℕ × ℕ). reads net m p.0) (filter_map event_of trace) before rest (e, c) h
sent_is_read net trace (Sender s) m e c journal before rest h =
    filter_has (λ (p : ℕ × ℕ). reads net m p.0)
    (flat_map (emissions net) (filter (is_firing_of s) journal)) before rest (e, c) h

-- a delivery brings an event that its receiver reads, with a code
abbrev Arrives : Network → Entry → Type 0
Arrives net (Dep s m e c) = (reads net m e ≡ true) × (1 ≤ c)
Arrives net (Rea m s o) = ⊤

arrives : (net : Network) (trace : List TraceItem) (journal : List Entry) (entry : Entry)
    → FitsNetwork net entry → MayFollow net trace journal entry → Arrives net entry
arrives net trace journal (Dep s m e c) fits may =
    let code = (and_parts (is_party net s && nat_lt m (length net.machines))
    (is_event_code net e c) fits).1 in (
      sent_is_read net trace s m e c journal (delivered s m journal) may.0
          (may.1 ∙ ap (λ (l : List (ℕ × ℕ)). l ++ may.0) (delivered_own s m e c journal)),
      leb-true 1 c
          (and_parts (nat_lt e (length net.events)) (nat_le 1 c)
          (and_parts (nat_lt e (length net.events) && nat_le 1 c) (nat_le c _) code).0).1,
    )
arrives net trace journal (Rea m s o) fits may = tt

-- ---- a machine that is woken has an input

abbrev HasInput : Network → ℕ → List Entry → Type 0
HasInput net m journal = (e : ℕ) × (reads net m e ≡ true) × (1 ≤ buffered journal m e)

abbrev Wakes : Network → ℕ → List Entry → Type 0
Wakes net m journal = is_woken journal m ≡ true → HasInput net m journal

wakes_more : (net : Network) (m : ℕ) (journal : List Entry) (entry : Entry) → Arrives net entry
    → Wakes net m journal → Wakes net m (journal ++ entry ∷ [])
wakes_more net m journal (Dep s to e c) here before woken = cases (to == m) refl
  where
    cases : (b : Bool) → (to == m) ≡ b → HasInput net m (journal ++ Dep s to e c ∷ [])
    cases true is =
        let same = eqb-true to m is in
        let hit : (to == m && e == e) ≡ true = and_from (to == m) (e == e) is (eq-eqb e e refl) in
        let stands : buffered (journal ++ Dep s to e c ∷ []) m e ≡ c =
        place_dep journal s to e c m e
        ∙ ap (λ (b : Bool). cond b c (buffered journal m e)) hit in
        let some = here.1 in
        (e, subst (λ (k : ℕ). reads net k e ≡ true) same here.0, omega arith)
    cases false is =
        let was : is_woken journal m ≡ true =
        sym (is_woken_after journal (Dep s to e c) m
        ∙ ap (λ (b : Bool). cond b true (is_woken journal m)) is) ∙ woken in
        let old = before was in
        let miss : (to == m && e == old.0) ≡ false =
        ap (λ (b : Bool). b && e == old.0) is in
        let stands : buffered (journal ++ Dep s to e c ∷ []) m old.0 ≡ buffered journal m old.0 =
        place_dep journal s to e c m old.0
        ∙ ap (λ (b : Bool). cond b c (buffered journal m old.0)) miss in
        let some = old.2 in
        (old.0, old.1, omega arith)
wakes_more net m journal (Rea k s o) here before woken = cases (k == m) refl
  where
    cases : (b : Bool) → (k == m) ≡ b → HasInput net m (journal ++ Rea k s o ∷ [])
    cases true is =
        absurd (false≢true (sym (is_woken_after journal (Rea k s o) m
        ∙ ap (λ (b : Bool). cond b false (is_woken journal m)) is) ∙ woken))
    cases false is =
        let was : is_woken journal m ≡ true =
        sym (is_woken_after journal (Rea k s o) m
        ∙ ap (λ (b : Bool). cond b false (is_woken journal m)) is) ∙ woken in
        let old = before was in
        let miss : (k == m && o.fires) ≡ false = ap (λ (b : Bool). b && o.fires) is in
        let stands : buffered (journal ++ Rea k s o ∷ []) m old.0 ≡ buffered journal m old.0 =
        place_rea journal k s o m old.0
        ∙ ap (λ (b : Bool). cond b 0 (buffered journal m old.0)) miss in
        let some = old.2 in
        (old.0, old.1, omega arith)

wakes_all : (net : Network) (trace : List TraceItem) (m : ℕ) (done rest : List Entry)
    → Legal net trace (done ++ rest) → Wakes net m done → Wakes net m (done ++ rest)
wakes_all net trace m done [] legal h = rw append-nil h
wakes_all net trace m done (entry ∷ rest) legal h =
    let joined = append_assoc done (entry ∷ []) rest in
    let whole = subst (Legal net trace) (sym joined) legal in
    let step = (goes_on_by_steps net trace done entry).0
    (prefixes_are_legal net trace (done ++ entry ∷ []) rest whole) in
    subst (Wakes net m) joined
    (wakes_all net trace m (done ++ entry ∷ []) rest whole
    (wakes_more net m done entry (arrives net trace done entry step.1 step.2) h))

wakes : (net : Network) (trace : List TraceItem) (m : ℕ) (journal : List Entry)
    → Legal net trace journal → Wakes net m journal
wakes net trace m journal legal =
    wakes_all net trace m [] journal legal (λ h. absurd (false≢true h))

-- ---- and its snapshot shows it

place_of : (inputs : List ℕ) (e : ℕ) → has inputs e ≡ true
    → (i : ℕ) × (i < length inputs) × (get_or inputs i 0 ≡ e)
place_of [] e h = absurd (false≢true h)
place_of (x ∷ inputs) e h = cases (x == e) refl h (place_of inputs e)
  where
    cases : (b : Bool) → (x == e) ≡ b → (b || has inputs e) ≡ true
        → (has inputs e ≡ true → (i : ℕ) × (i < length inputs) × (get_or inputs i 0 ≡ e))
        → (i : ℕ) × (i < length (x ∷ inputs)) × (get_or (x ∷ inputs) i 0 ≡ e)
    cases true is g rest = (0, omega arith, eqb-true x e is)
    cases false is g rest =
        let there = rest g in
        let below = there.1 in
        (suc there.0, omega arith, there.2)

shows : (net : Network) (m : ℕ) (machine : Machine) (journal : List Entry)
    → slice_get net.machines m ≡ Some machine → HasInput net m journal
    → is_seen machine (snap net journal m).codes ≡ true
shows net m machine journal at (e, read, some) =
    let inputs : inputs_of net m ≡ machine.inputs =
    ap (λ (o : Option Machine). unwrap_or (option_map (λ machine. machine.inputs) o) []) at in
    let there = place_of (inputs_of net m) e read in
    let rest = map (state net journal m) (upto (length (states_of net m))) in
    let size = length-map (inputs_of net m) (buffered journal m) in
    let within = there.1 in
    let code : slice_index (snap net journal m).codes there.0 ≡ buffered journal m e =
    get_or_append_left (map (buffered journal m) (inputs_of net m)) rest 0 there.0 (omega arith)
    ∙ get_or-map (buffered journal m) (inputs_of net m) there.0 0 0 within
    ∙ ap (buffered journal m) there.2 in
    let many = ap length inputs in
    any_found (λ i. is_present i (snap net journal m).codes) (length machine.inputs) there.0
    (omega arith)
    (ap not (ne_eqb (slice_index (snap net journal m).codes there.0) 0
    (λ none. let none : slice_index (snap net journal m).codes there.0 ≡ 0 = none in
    absurd (omega arith))))

of_machine : (net : Network) (m : ℕ) (s : Snapshot) (P : Machine → Type 0)
    → OfMachine net m P
    → ((machine : Machine) → slice_get net.machines m ≡ Some machine
    → is_seen machine s.codes ≡ true)
    → OfMachine net m (λ machine. IsTrue (is_seen machine s.codes))
of_machine net m s P there each = cases (slice_get net.machines m) refl there
  where
    cases : (o : Option Machine) → slice_get net.machines m ≡ o → IsSomeAnd o P
        → IsSomeAnd o (λ machine. IsTrue (is_seen machine s.codes))
    cases None is h = h
    cases (Some machine) is h = each machine is

pub reactions_see : ReactionsSee
reactions_see net trace before after m s o legal =
    let whole = subst (Legal net trace) (sym (append_assoc before (Rea m s o ∷ []) after)) legal in
    let front = prefixes_are_legal net trace (before ++ Rea m s o ∷ []) after whole in
    let step = (goes_on_by_steps net trace before (Rea m s o)).0 front in
    let may = step.2 in
    let input = wakes net trace m before step.0 may.0 in
    of_machine net m s (λ machine. IsSnapshot machine s × IsOutcome machine o) step.1
    (λ machine at.
    subst (λ (x : Snapshot). is_seen machine x.codes ≡ true) (sym may.1)
    (shows net m machine before at input))
