-- What was sent and delivered, one entry more.
use Rattle.std.specs.Prelude.{◌≡◌, ◌↔◌, ℕ, true, false, ◌&&◌, ◌==◌, List, [], ◌∷◌, ◌++◌, filter, flat_map, length, slice_get, Some, None}
use Rattle.std.proofs.Common.{refl, sym, ap, ◌∙◌, subst, append_assoc}
use Rattle.std.proofs.lemmas.List.{append-nil}
use Rattle.std.proofs.lemmas.List.Concat.{flat_map-append}
use Rattle.std.proofs.lemmas.List.Elements.{filter_map-append, filter-append}
use Rattle.std.proofs.lemmas.Bool.{false≢true, eqb-true, eq-eqb, and_parts}
use Rattle.polis_base.specs.Lists.{Begins, head_of}
use Rattle.transition_table.specs.declared.decl.Party.{Party}
use Rattle.transition_table.specs.declared.decl.Party.TheVariants.{Env, Machine as Sender}
use Rattle.transition_table.specs.declared.network.Network.{Network}
use Rattle.transition_table.specs.declared.snapshot.Snapshot.{Snapshot}
use Rattle.transition_table.specs.declared.snapshot.Outcome.{Outcome}
use Rattle.journals.specs.declared.entry.Entry.{Entry}
use Rattle.journals.specs.declared.entry.Entry.TheVariants.{Dep, Rea}
use Rattle.journals.specs.declared.entry.TraceItem.{TraceItem}
use Rattle.journals.specs.Journals.{same_party, reads, is_firing_of, emissions, delivery, delivered, sent}
use Rattle.journals.specs.Legality.{Legal, MayFollow, MayGoOn}

pub same_party_self : (s : Party) → same_party s s ≡ true
same_party_self Env = refl
same_party_self (Sender k) = eq-eqb k k refl

pub party_from_same : (s t : Party) → same_party s t ≡ true → s ≡ t
party_from_same Env Env h = refl
party_from_same (Sender j) (Sender k) h = ap Sender (eqb-true j k h)
party_from_same Env (Sender k) h = absurd (false≢true h)
party_from_same (Sender j) Env h = absurd (false≢true h)

pub begins_further : {X : Type 0} (xs ys zs : List X) → Begins xs ys → Begins ys zs → Begins xs zs
begins_further xs ys zs (r, h) (q, k) = (r ++ q, k ∙ ap (λ l. l ++ q) h ∙ append_assoc xs r q)

-- ---- what was delivered

pub delivered_more : (s : Party) (m : ℕ) (journal : List Entry) (entry : Entry)
    → delivered s m (journal ++ entry ∷ []) ≡ delivered s m journal ++ delivered s m (entry ∷ [])
delivered_more s m journal entry = filter_map-append (delivery s m) journal (entry ∷ [])

own_delivery : (s : Party) (m e c : ℕ) → delivered s m (Dep s m e c ∷ []) ≡ (e, c) ∷ []
own_delivery s m e c = rw (same_party_self s, eq-eqb m m refl) refl

pub delivered_own : (s : Party) (m e c : ℕ) (journal : List Entry)
    → delivered s m (journal ++ Dep s m e c ∷ []) ≡ delivered s m journal ++ (e, c) ∷ []
delivered_own s m e c journal = delivered_more s m journal (Dep s m e c)
    ∙ ap (λ l. delivered s m journal ++ l) (own_delivery s m e c)

pub delivered_other : (s from : Party) (m to e c : ℕ) (journal : List Entry)
    → (same_party from s && to == m) ≡ false
    → delivered s m (journal ++ Dep from to e c ∷ []) ≡ delivered s m journal
delivered_other s from m to e c journal h =
    let none : delivered s m (Dep from to e c ∷ []) ≡ [] = rw h refl in
    delivered_more s m journal (Dep from to e c) ∙ ap (λ l. delivered s m journal ++ l) none
    ∙ append-nil (delivered s m journal)

pub delivered_by_reaction : (s : Party) (m k : ℕ) (x : Snapshot) (o : Outcome)
    (journal : List Entry) → delivered s m (journal ++ Rea k x o ∷ []) ≡ delivered s m journal
delivered_by_reaction s m k x o journal = delivered_more s m journal (Rea k x o)
    ∙ append-nil (delivered s m journal)

-- ---- what was sent

pub sent_more : (net : Network) (trace : List TraceItem) (s m : ℕ) (journal rest : List Entry)
    → sent net trace (Sender s) m (journal ++ rest)
    ≡ sent net trace (Sender s) m journal ++ sent net trace (Sender s) m rest
sent_more net trace s m journal rest =
    ap (λ es. filter (λ p. reads net m p.0) (flat_map (emissions net) es))
    (filter-append (is_firing_of s) journal rest)
    ∙ ap (filter (λ p. reads net m p.0))
    (flat_map-append (emissions net) (filter (is_firing_of s) journal)
    (filter (is_firing_of s) rest))
    ∙ filter-append (λ p. reads net m p.0)
    (flat_map (emissions net) (filter (is_firing_of s) journal))
    (flat_map (emissions net) (filter (is_firing_of s) rest))

pub sent_by_delivery : (net : Network) (trace : List TraceItem) (s : Party) (m : ℕ)
    (journal : List Entry) (from : Party) (to e c : ℕ)
    → sent net trace s m (journal ++ Dep from to e c ∷ []) ≡ sent net trace s m journal
sent_by_delivery net trace Env m journal from to e c = refl
sent_by_delivery net trace (Sender s) m journal from to e c =
    sent_more net trace s m journal (Dep from to e c ∷ [])
    ∙ append-nil (sent net trace (Sender s) m journal)

pub sent_grows : (net : Network) (trace : List TraceItem) (s : Party) (m : ℕ) (journal : List Entry)
    (entry : Entry)
    → Begins (sent net trace s m journal) (sent net trace s m (journal ++ entry ∷ []))
sent_grows net trace Env m journal entry = ([], sym (append-nil (sent net trace Env m journal)))
sent_grows net trace (Sender s) m journal entry =
    (sent net trace (Sender s) m (entry ∷ []), sent_more net trace s m journal (entry ∷ []))

-- ---- a legal journal's deliveries are a prefix of what was sent

begins_step : (net : Network) (trace : List TraceItem) (s : Party) (m : ℕ) (journal : List Entry)
    (entry : Entry) → Begins (delivered s m journal) (sent net trace s m journal)
    → MayFollow net trace journal entry
    → Begins (delivered s m (journal ++ entry ∷ [])) (sent net trace s m (journal ++ entry ∷ []))
begins_step net trace s m journal (Rea k x o) h g =
    subst (λ ds. Begins ds (sent net trace s m (journal ++ Rea k x o ∷ [])))
    (sym (delivered_by_reaction s m k x o journal))
    (begins_further (delivered s m journal) (sent net trace s m journal)
    (sent net trace s m (journal ++ Rea k x o ∷ [])) h
    (sent_grows net trace s m journal (Rea k x o)))
begins_step net trace s m journal (Dep from to e c) h g =
    let entries : List Entry = journal ++ Dep from to e c ∷ [] in
    subst (λ l. Begins (delivered s m entries) l)
    (sym (sent_by_delivery net trace s m journal from to e c))
    (elim
    (same_party from s && to == m) as (λ b. (same_party from s && to == m) ≡ b
    → Begins (delivered s m entries) (sent net trace s m journal)) [
      | true ↦ λ same.
          let parts = and_parts (same_party from s) (to == m) same in
          subst (λ k. Begins (delivered s k entries) (sent net trace s k journal))
          (eqb-true to m parts.1)
          (subst (λ t. Begins (delivered t to entries) (sent net trace t to journal))
          (party_from_same from s parts.0) g)
      | false ↦ λ other.
          subst (λ ds. Begins ds (sent net trace s m journal))
          (sym (delivered_other s from m to e c journal other)) h
    ] refl)

begins_after : (net : Network) (trace : List TraceItem) (s : Party) (m : ℕ)
    (before rest : List Entry) → Begins (delivered s m before) (sent net trace s m before)
    → MayGoOn net trace before rest
    → Begins (delivered s m (before ++ rest)) (sent net trace s m (before ++ rest))
begins_after net trace s m before [] h g =
    subst (λ j. Begins (delivered s m j) (sent net trace s m j)) (sym (append-nil before)) h
begins_after net trace s m before (entry ∷ rest) h g =
    subst (λ j. Begins (delivered s m j) (sent net trace s m j))
    (append_assoc before (entry ∷ []) rest)
    (begins_after net trace s m (before ++ entry ∷ []) rest
    (begins_step net trace s m before entry h g.0) g.1)

pub delivered_begins_sent : (net : Network) (trace : List TraceItem) (s : Party) (m : ℕ)
    (journal : List Entry) → Legal net trace journal
    → Begins (delivered s m journal) (sent net trace s m journal)
delivered_begins_sent net trace s m journal h =
    begins_after net trace s m [] journal (sent net trace s m [], refl) h.1

-- ---- what may be delivered next

get_after : {X : Type 0} (xs rest : List X) → slice_get (xs ++ rest) (length xs) ≡ head_of rest
get_after [] [] = refl
get_after [] (y ∷ rest) = refl
get_after (x ∷ xs) rest = get_after xs rest

begins_one_more : {X : Type 0} (xs ys : List X) (y : X) → Begins (xs ++ y ∷ []) ys
    → slice_get ys (length xs) ≡ Some y
begins_one_more xs ys y (rest, h) =
    ap (λ l. slice_get l (length xs)) (h ∙ append_assoc xs (y ∷ []) rest) ∙ get_after xs (y ∷ rest)

one_more_begins : {X : Type 0} (xs ys : List X) (y : X) → Begins xs ys
    → slice_get ys (length xs) ≡ Some y → Begins (xs ++ y ∷ []) ys
one_more_begins xs ys y ([], h) g =
    absurd
    (let none : slice_get ys (length xs) ≡ None = ap (λ l. slice_get l (length xs)) h
    ∙ get_after xs [] in cc)
one_more_begins xs ys y ((z ∷ rest), h) g =
    let next : slice_get ys (length xs) ≡ Some z = ap (λ l. slice_get l (length xs)) h
    ∙ get_after xs (z ∷ rest) in
    let same : z ≡ y = cc in
    (rest, h ∙ ap (λ w. xs ++ w ∷ rest) same ∙ sym (append_assoc xs (y ∷ []) rest))

pub may_follow_next : (net : Network) (trace : List TraceItem) (journal : List Entry) (s : Party)
    (m e c : ℕ) → Begins (delivered s m journal) (sent net trace s m journal)
    → MayFollow net trace journal (Dep s m e c)
    ↔ (slice_get (sent net trace s m journal) (length (delivered s m journal)) ≡ Some (e, c))
may_follow_next net trace journal s m e c h = (
  (λ g.
      begins_one_more (delivered s m journal) (sent net trace s m journal) (e, c)
      (subst (λ ds. Begins ds (sent net trace s m journal)) (delivered_own s m e c journal) g)),
  (λ g.
      subst (λ ds. Begins ds (sent net trace s m journal)) (sym (delivered_own s m e c journal))
      (one_more_begins (delivered s m journal) (sent net trace s m journal) (e, c) h g)),
)
