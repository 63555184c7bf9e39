-- Which deliveries are owed after one entry more.
use Rattle.std.proofs.Common.{◌≡◌, ℕ, Bool, true, false, cond, ◌&&◌, ◌||◌, ◌==◌, List, [], ◌∷◌, ◌++◌, flat_map, length, Some, refl, sym, ap, ◌∙◌}
use Rattle.std.specs.Prelude.{find, is_some}
use Rattle.std.specs.List.{list_any}
use Rattle.std.proofs.lemmas.List.{append-nil}
use Rattle.std.proofs.lemmas.List.Folds.{list_any-append}
use Rattle.transition_table.specs.NetworkFacts.{has}
use Rattle.transition_table.specs.declared.decl.Party.{Party}
use Rattle.transition_table.specs.declared.decl.Party.TheVariants.{Env, Machine as Sender}
use Rattle.transition_table.specs.declared.network.Network.{Network}
use Rattle.transition_table.specs.declared.snapshot.Outcome.{Outcome}
use Rattle.transition_table.specs.declared.snapshot.Snapshot.{Snapshot}
use Rattle.journals.specs.declared.entry.Entry.{Entry}
use Rattle.journals.specs.declared.entry.Entry.TheVariants.{Dep, Rea}
use Rattle.journals.specs.declared.entry.Owed.{Owed}
use Rattle.journals.specs.declared.entry.TraceItem.{TraceItem}
use Rattle.journals.specs.Cursors.{cursor, is_read, nth_place}
use Rattle.journals.specs.Journals.{emissions, same_party}
use Rattle.journals.specs.Laws.{MovesOwed}
use Rattle.journals.specs.Legality.{Legal}
use Rattle.journals.specs.Schedules.{deliveries_of, is_way, owed_by_machines, receivers_of, without_first}
use Rattle.journals.proofs.DeliveredBeginsSent.{delivered_by_reaction, delivered_other}
use Rattle.journals.proofs.OwedAfter.{way_parts}
use Rattle.run_shuffle.specs.inner.Ways.{owes}
use Rattle.polis_base.proofs.ListTests.{any_of_flat_map, any_of_map, any_same}

-- ---- lists

none_pass : {X : Type 0} (xs : List X) → list_any (λ x. false) xs ≡ false
none_pass [] = refl
none_pass (x ∷ xs) = none_pass xs

-- something is found exactly where something passes
pub some_found : {X : Type 0} (p : X → Bool) (xs : List X) → is_some (find p xs) ≡ list_any p xs
some_found p [] = refl
some_found {X} p (x ∷ xs) = cases (p x) (some_found p xs)
  where
    cases : (b : Bool) → is_some (find p xs) ≡ list_any p xs
        → is_some (cond b (Some x) (find p xs)) ≡ (b || list_any p xs)
    cases true rest = refl
    cases false rest = rest

-- to take away the first that passes another test changes nothing
any_without : {X : Type 0} (p q : X → Bool) (xs : List X)
    → ((x : X) → q x ≡ true → p x ≡ false) → list_any p (without_first q xs) ≡ list_any p xs
any_without p q [] apart = refl
any_without {X} p q (x ∷ xs) apart = cases (q x) refl (any_without p q xs apart)
  where
    cases : (b : Bool) → q x ≡ b → list_any p (without_first q xs) ≡ list_any p xs
        → list_any p (cond b xs (x ∷ without_first q xs)) ≡ (p x || list_any p xs)
    cases true is rest = ap (λ t. t || list_any p xs) (sym (apart x is))
    cases false is rest = ap (λ t. p x || t) rest

-- ---- of machines

-- what an event gives to a machine
given_to : (net : Network) (k s m : ℕ) (p : ℕ × ℕ)
    → list_any (is_way (Sender s) m) (deliveries_of net (Sender k) p)
    ≡ (k == s && has (receivers_of net p.0) m)
given_to net k s m (e, c) =
    any_of_map (is_way (Sender s) m)
    (λ r. let d : Owed = record { from = Sender k; to = r; event = e; code = c } in d)
    (receivers_of net e)
    ∙ cases (k == s)
  where
    cases : (b : Bool)
        → list_any (λ r. b && r == m) (receivers_of net e) ≡ (b && has (receivers_of net e) m)
    cases true = refl
    cases false = none_pass (receivers_of net e)

and_through : {X : Type 0} (b : Bool) (p : X → Bool) (xs : List X)
    → list_any (λ x. b && p x) xs ≡ (b && list_any p xs)
and_through true p xs = refl
and_through false p xs = none_pass xs

-- a firing adds the receivers of what it emits to those of its machine
pub owes_after_reaction : MovesOwed
    → (net : Network) (trace : List TraceItem) (journal : List Entry) (k : ℕ) (x : Snapshot)
    (o : Outcome) (s m : ℕ) → Legal net trace journal
    → owes net (journal ++ Rea k x o ∷ []) s m
    ≡ (owes net journal s m
    || k == s && list_any (λ p. has (receivers_of net p.0) m) (emissions net (Rea k x o)))
owes_after_reaction moves net trace journal k x o s m legal =
    ap (list_any (is_way (Sender s) m)) (moves net trace journal (Rea k x o) legal)
    ∙ list_any-append (is_way (Sender s) m) (owed_by_machines net journal)
    (flat_map (deliveries_of net (Sender k)) (emissions net (Rea k x o)))
    ∙ ap (λ t. owes net journal s m || t)
    (any_of_flat_map (is_way (Sender s) m) (deliveries_of net (Sender k))
    (emissions net (Rea k x o))
    ∙ any_same (λ p. list_any (is_way (Sender s) m) (deliveries_of net (Sender k) p))
    (λ p. k == s && has (receivers_of net p.0) m) (emissions net (Rea k x o))
    (given_to net k s m)
    ∙ and_through (k == s) (λ p. has (receivers_of net p.0) m) (emissions net (Rea k x o)))

-- a delivery changes nothing of other ways
pub owes_after_delivery : MovesOwed
    → (net : Network) (trace : List TraceItem) (journal : List Entry) (t : Party) (r e c s m : ℕ)
    → Legal net trace journal → (same_party t (Sender s) && r == m) ≡ false
    → owes net (journal ++ Dep t r e c ∷ []) s m ≡ owes net journal s m
owes_after_delivery moves net trace journal t r e c s m legal other =
    ap (list_any (is_way (Sender s) m))
    (moves net trace journal (Dep t r e c) legal
    ∙ ap (without_first (is_way t r)) (append-nil (owed_by_machines net journal)))
    ∙ any_without (is_way (Sender s) m) (is_way t r) (owed_by_machines net journal) apart
  where
    apart : (d : Owed) → is_way t r d ≡ true → is_way (Sender s) m d ≡ false
    apart d h =
        let parts = way_parts t r d h in
        ap (λ p. same_party p (Sender s) && d.to == m) parts.0
        ∙ ap (λ k. same_party t (Sender s) && k == m) parts.1 ∙ other

-- ---- of the environment

-- the environment's place changes by its own deliveries alone
pub cursor_after_reaction : (net : Network) (trace : List TraceItem) (journal : List Entry)
    (k : ℕ) (x : Snapshot) (o : Outcome) (m : ℕ)
    → cursor net trace (journal ++ Rea k x o ∷ []) m ≡ cursor net trace journal m
cursor_after_reaction net trace journal k x o m =
    ap (λ (l : List (ℕ × ℕ)). nth_place (is_read net m) trace (length l))
    (delivered_by_reaction Env m k x o journal)

pub cursor_after_other : (net : Network) (trace : List TraceItem) (journal : List Entry)
    (t : Party) (r e c m : ℕ) → (same_party t Env && r == m) ≡ false
    → cursor net trace (journal ++ Dep t r e c ∷ []) m ≡ cursor net trace journal m
cursor_after_other net trace journal t r e c m other =
    ap (λ (l : List (ℕ × ℕ)). nth_place (is_read net m) trace (length l))
    (delivered_other Env t m r e c journal other)
