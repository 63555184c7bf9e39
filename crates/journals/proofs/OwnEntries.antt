-- What a machine's own entries tell.
use Rattle.std.specs.Prelude.{◌≡◌, ℕ, Bool, true, false, cond, ◌&&◌, ◌||◌, ◌==◌, List, [], ◌∷◌, ◌++◌, map, filter, filter_map, flat_map, length, Option, None}
use Rattle.std.specs.Bool.{then_some}
use Rattle.std.specs.List.{list_any, after_last, cons_option}
use Rattle.std.proofs.Common.{refl, sym, ap, ◌∙◌, subst, append_assoc}
use Rattle.std.proofs.lemmas.List.{append-nil}
use Rattle.std.proofs.lemmas.List.Elements.{filter-append}
use Rattle.std.proofs.lemmas.Bool.{and_right, both_ways}
use Rattle.polis_base.specs.Lists.{upto, last_of}
use Rattle.transition_table.specs.declared.decl.Party.{Party}
use Rattle.transition_table.specs.declared.decl.Party.TheVariants.{Machine as Sender}
use Rattle.transition_table.specs.declared.network.Network.{Network}
use Rattle.journals.specs.declared.entry.Entry.{Entry}
use Rattle.journals.specs.declared.entry.Entry.TheVariants.{Dep, Rea}
use Rattle.journals.specs.declared.entry.TraceItem.{TraceItem}
use Rattle.journals.specs.Journals.{reads, same_party, inputs_of, states_of, is_firing_of, is_reaction_of, is_delivery_to, code_brought, buffered, value_given, initial, state, snap, is_woken, emissions, delivery, delivered, sent}
use Rattle.journals.specs.Logs.{of_machine}
use Rattle.journals.proofs.MomentsAfter.{after_last_push}

-- ---- lists from which some items are left out

any_of_filter : {X : Type 0} (p q : X → Bool) (xs : List X) → ((x : X) → q x ≡ false → p x ≡ false)
    → list_any p (filter q xs) ≡ list_any p xs
any_of_filter p q [] h = refl
any_of_filter p q (x ∷ xs) h = cases (any_of_filter p q xs h) (q x) refl
  where
    cases : list_any p (filter q xs) ≡ list_any p xs → (b : Bool) → q x ≡ b
        → list_any p (cond b (x ∷ filter q xs) (filter q xs)) ≡ (p x || list_any p xs)
    cases rest true is = ap (λ b. p x || b) rest
    cases rest false is = rw (h x is) rest

map_of_filter : {X Y : Type 0} (f : X → Option Y) (q : X → Bool) (xs : List X)
    → ((x : X) → q x ≡ false → f x ≡ None) → filter_map f (filter q xs) ≡ filter_map f xs
map_of_filter f q [] h = refl
map_of_filter f q (x ∷ xs) h = cases (map_of_filter f q xs h) (q x) refl
  where
    cases : filter_map f (filter q xs) ≡ filter_map f xs → (b : Bool) → q x ≡ b
        → filter_map f (cond b (x ∷ filter q xs) (filter q xs))
        ≡ cons_option (f x) (filter_map f xs)
    cases rest true is = ap (λ l. cons_option (f x) l) rest
    cases rest false is = rw (h x is) rest

pub filter_of_filter : {X : Type 0} (p q : X → Bool) (xs : List X)
    → ((x : X) → q x ≡ false → p x ≡ false) → filter p (filter q xs) ≡ filter p xs
filter_of_filter p q [] h = refl
filter_of_filter p q (x ∷ xs) h = cases (filter_of_filter p q xs h) (q x) refl
  where
    cases : filter p (filter q xs) ≡ filter p xs → (b : Bool) → q x ≡ b
        → filter p (cond b (x ∷ filter q xs) (filter q xs))
        ≡ cond (p x) (x ∷ filter p xs) (filter p xs)
    cases rest true is = ap (λ l. cond (p x) (x ∷ l) l) rest
    cases rest false is = rw (h x is) rest

after_step : {X : Type 0} (p q : X → Bool) (prefix : List X) (x : X)
    → ((x : X) → q x ≡ false → p x ≡ false)
    → after_last p (filter q prefix) ≡ filter q (after_last p prefix)
    → after_last p (filter q (prefix ++ x ∷ [])) ≡ filter q (after_last p (prefix ++ x ∷ []))
after_step p q prefix x h g =
    ap (after_last p) (filter-append q prefix (x ∷ []))
    ∙ cases (q x) refl (p x) refl
    ∙ sym (ap (filter q) (after_last_push p prefix x))
  where
    cases : (b : Bool) → q x ≡ b → (a : Bool) → p x ≡ a
        → after_last p (filter q prefix ++ cond b (x ∷ []) [])
        ≡ filter q (cond a [] (after_last p prefix ++ x ∷ []))
    cases true is true last = after_last_push p (filter q prefix) x ∙ rw last refl
    cases true is false other =
        after_last_push p (filter q prefix) x ∙ rw other
        (ap (λ l. l ++ x ∷ []) g
        ∙ sym
        (filter-append q (after_last p prefix) (x ∷ [])
        ∙ ap (λ b. filter q (after_last p prefix) ++ cond b (x ∷ []) []) is))
    cases false is true last = absurd (both_ways (p x) (h x is) last)
    cases false is false other =
        ap (after_last p) (append-nil (filter q prefix)) ∙ g
        ∙ sym
        (filter-append q (after_last p prefix) (x ∷ [])
        ∙ ap (λ b. filter q (after_last p prefix) ++ cond b (x ∷ []) []) is
        ∙ append-nil (filter q (after_last p prefix)))

after_after : {X : Type 0} (p q : X → Bool) (prefix rest : List X)
    → ((x : X) → q x ≡ false → p x ≡ false)
    → after_last p (filter q prefix) ≡ filter q (after_last p prefix)
    → after_last p (filter q (prefix ++ rest)) ≡ filter q (after_last p (prefix ++ rest))
after_after p q prefix [] h g =
    subst (λ l. after_last p (filter q l) ≡ filter q (after_last p l)) (sym (append-nil prefix)) g
after_after p q prefix (x ∷ rest) h g =
    subst (λ l. after_last p (filter q l) ≡ filter q (after_last p l))
    (append_assoc prefix (x ∷ []) rest)
    (after_after p q (prefix ++ x ∷ []) rest h (after_step p q prefix x h g))

after_of_filter : {X : Type 0} (p q : X → Bool) (xs : List X)
    → ((x : X) → q x ≡ false → p x ≡ false)
    → after_last p (filter q xs) ≡ filter q (after_last p xs)
after_of_filter p q xs h = after_after p q [] xs h refl

-- ---- what a machine's own entries tell

pub firing_is_own : (m : ℕ) (entry : Entry) → of_machine m entry ≡ false
    → is_firing_of m entry ≡ false
firing_is_own m (Dep s to e c) h = refl
firing_is_own m (Rea k s o) h = ap (λ b. b && o.fires) h

reaction_is_own : (m : ℕ) (entry : Entry) → of_machine m entry ≡ false
    → is_reaction_of m entry ≡ false
reaction_is_own m (Dep s to e c) h = refl
reaction_is_own m (Rea k s o) h = h

delivery_is_own : (m : ℕ) (entry : Entry) → of_machine m entry ≡ false
    → is_delivery_to m entry ≡ false
delivery_is_own m (Dep s to e c) h = h
delivery_is_own m (Rea k s o) h = refl

code_is_own : (m x : ℕ) (entry : Entry) → of_machine m entry ≡ false → code_brought m x entry ≡ None
code_is_own m x (Dep s to e c) h = rw h refl
code_is_own m x (Rea k s o) h = refl

value_is_own : (m x : ℕ) (entry : Entry) → of_machine m entry ≡ false → value_given m x entry ≡ None
value_is_own m x (Dep s to e c) h = refl
value_is_own m x (Rea k s o) h = rw h refl

pub landing_is_own : (s : Party) (m : ℕ) (entry : Entry) → of_machine m entry ≡ false
    → delivery s m entry ≡ None
landing_is_own s m (Dep from to e c) h =
    ap (λ b. then_some b (e, c)) (and_right (same_party from s) (to == m) h)
landing_is_own s m (Rea k x o) h = refl

pub woken_by_own : (m : ℕ) (journal : List Entry)
    → is_woken (filter (of_machine m) journal) m ≡ is_woken journal m
woken_by_own m journal =
    ap (list_any (is_delivery_to m))
    (after_of_filter (is_reaction_of m) (of_machine m) journal (reaction_is_own m))
    ∙ any_of_filter (is_delivery_to m) (of_machine m) (after_last (is_reaction_of m) journal)
    (delivery_is_own m)

place_by_own : (m x : ℕ) (journal : List Entry)
    → buffered (filter (of_machine m) journal) m x ≡ buffered journal m x
place_by_own m x journal =
    ap (λ l. last_of 0 (filter_map (code_brought m x) l))
    (after_of_filter (is_firing_of m) (of_machine m) journal (firing_is_own m))
    ∙ ap (last_of 0)
    (map_of_filter (code_brought m x) (of_machine m) (after_last (is_firing_of m) journal)
    (code_is_own m x))

state_by_own : (net : Network) (m x : ℕ) (journal : List Entry)
    → state net (filter (of_machine m) journal) m x ≡ state net journal m x
state_by_own net m x journal =
    ap (last_of (initial net m x))
    (map_of_filter (value_given m x) (of_machine m) journal (value_is_own m x))

pub snap_by_own : (net : Network) (m : ℕ) (journal : List Entry)
    → snap net (filter (of_machine m) journal) m ≡ snap net journal m
snap_by_own net m journal =
    λ i.
    record {
      codes =
          map (λ x. place_by_own m x journal i) (inputs_of net m)
          ++ map (λ x. state_by_own net m x journal i) (upto (length (states_of net m)));
    }

pub delivered_by_own : (s : Party) (m : ℕ) (journal : List Entry)
    → delivered s m (filter (of_machine m) journal) ≡ delivered s m journal
delivered_by_own s m journal =
    map_of_filter (delivery s m) (of_machine m) journal (landing_is_own s m)

pub sent_by_own : (net : Network) (trace : List TraceItem) (s m : ℕ) (journal : List Entry)
    → sent net trace (Sender s) m (filter (of_machine s) journal)
    ≡ sent net trace (Sender s) m journal
sent_by_own net trace s m journal =
    ap (λ es. filter (λ p. reads net m p.0) (flat_map (emissions net) es))
    (filter_of_filter (is_firing_of s) (of_machine s) journal (firing_is_own s))
