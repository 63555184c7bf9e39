-- What is kept beside a journal, one entry more.
use Rattle.std.specs.Prelude.{◌≡◌, ◌↔◌, ℕ, ◌<◌, Bool, true, false, cond, nat_lt, List, [], ◌∷◌, ◌++◌, map, filter, count_by, length, slice_get, Some}
use Rattle.std.proofs.Common.{refl, sym, ap, ◌∙◌, get_or}
use Rattle.std.proofs.lemmas.List.{append-nil}
use Rattle.std.proofs.lemmas.Bool.{both_ways}
use Rattle.std.proofs.lemmas.Option.{get_or_from_slice_get}
use Rattle.polis_base.specs.Lists.{upto}
use Rattle.transition_table.specs.declared.decl.Party.TheVariants.{Env, Machine as Sender}
use Rattle.transition_table.specs.declared.network.Network.{Network}
use Rattle.transition_table.specs.declared.snapshot.Snapshot.{Snapshot}
use Rattle.journals.specs.declared.entry.Entry.{Entry}
use Rattle.journals.specs.declared.entry.Entry.TheVariants.{Dep, Rea}
use Rattle.journals.specs.declared.entry.Owed.{Owed}
use Rattle.journals.specs.declared.entry.TraceItem.{TraceItem}
use Rattle.journals.specs.Journals.{delivered}
use Rattle.net_core.specs.inner.Landed.{landed}
use Rattle.journals.specs.Legality.{Legal, MayFollow}
use Rattle.net_core.specs.Tables.{AreTables}
use Rattle.net_core.specs.inner.Tables.{AreBefore}
use Rattle.journals.specs.Schedules.{is_way, left_by, firing_deliveries, owed_by_machines, machine_deliveries, unmade, keep_unless, same_way}
use Rattle.journals.specs.Laws.{MovesOwed}
use Rattle.net_core.proofs.OwedByEmissions.{without_none}
use Rattle.journals.proofs.MomentsAfter.{get_or_table}
use Rattle.journals.proofs.OwedAfter.{no_env_way}
use Rattle.polis_base.proofs.Places.{get_end}

-- ---- the owed deliveries of machines

none_unmade : (p : Owed → Bool) (journal : List Entry) (passed xs : List Owed) → filter p xs ≡ []
    → filter p (unmade (λ d. d) journal passed xs) ≡ []
none_unmade p journal passed [] h = refl
none_unmade p journal passed (x ∷ xs) h =
    cases (p x) refl h (none_unmade p journal (passed ++ x ∷ []) xs)
  where
    kept : (b : Bool) (rest : List Owed) → p x ≡ false → filter p rest ≡ []
        → filter p (keep_unless b x rest) ≡ []
    kept true rest not none = none
    kept false rest not none = rw not none

    cases : (b : Bool) → p x ≡ b → cond b (x ∷ filter p xs) (filter p xs) ≡ []
        → (filter p xs ≡ [] → filter p (unmade (λ d. d) journal (passed ++ x ∷ []) xs) ≡ [])
        → filter p (unmade (λ d. d) journal passed (x ∷ xs)) ≡ []
    cases true is none rest = cc
    cases false is none rest =
        kept (nat_lt (count_by (λ y. same_way y x) passed) (length (delivered x.from x.to journal)))
        (unmade (λ d. d) journal (passed ++ x ∷ []) xs) is (rest none)

pub owed_after : (net : Network) (trace : List TraceItem) (journal : List Entry) (entry : Entry)
    (old new : List Owed) → MovesOwed → Legal net trace journal
    → old ≡ owed_by_machines net journal ++ firing_deliveries net entry → new ≡ landed entry old
    → new ≡ owed_by_machines net (journal ++ entry ∷ [])
owed_after net trace journal entry old new moves legal is takes =
    takes ∙ ap (landed entry) is ∙ same entry ∙ sym (moves net trace journal entry legal)
  where
    same : (entry : Entry)
        → landed entry (owed_by_machines net journal ++ firing_deliveries net entry)
        ≡ left_by entry (owed_by_machines net journal ++ firing_deliveries net entry)
    same (Dep Env m e c) =
        sym (without_none (is_way Env m) (owed_by_machines net journal ++ [])
        (ap (filter (is_way Env m)) (append-nil (owed_by_machines net journal))
        ∙ none_unmade (is_way Env m) journal [] (machine_deliveries net journal)
        (no_env_way net m journal)))
    same (Dep (Sender s) m e c) = refl
    same (Rea m s o) = refl

-- ---- tables

pub table_item : {X : Type 0} (f : ℕ → X) (n : ℕ) (items : List X) (m : ℕ) (x : X)
    → items ≡ map f (upto n) → m < n → slice_get items m ≡ Some x → x ≡ f m
table_item {X} f n items m x are below at =
    sym (get_or_from_slice_get items m x x at) ∙ ap (λ (l : List X). get_or l m x) are
    ∙ get_or_table f n m x below

-- ---- the entry that was put at the end

pub last_item : {X : Type 0} (xs l : List X) (place : ℕ) (x y : X) → l ≡ xs ++ x ∷ []
    → place ≡ length xs → slice_get l place ≡ Some y → y ≡ x
last_item {X} xs l place x y is end at =
    let own : slice_get l place ≡ Some x = rw (is, end) (get_end xs x) in
    cc

-- what an answer says of an equivalence
pub not_following : {b : Bool} {P : Type 0} → (b ≡ true) ↔ P → b ≡ false → ¬ P
not_following h e p = both_ways _ e (h.1 p)

-- the tables after the deliveries that the entry gives are added
pub before_entry : (net : Network) (trace : List TraceItem) (journal : List Entry) (entry : Entry)
    (readers : List ℕ) (moments : List Snapshot) (woken : ℕ) (cursors : List ℕ)
    (old new : List Owed)
    → MayFollow net trace journal entry
    → AreTables net trace journal readers moments woken cursors old
    → new ≡ old ++ firing_deliveries net entry
    → AreBefore net trace journal entry readers moments woken cursors new
before_entry net trace journal entry readers moments woken cursors old new follows tables is =
    record {
      follows = follows;
      tables = record {
        fits = tables.fits;
        legal = tables.legal;
        readers_are = tables.readers_are;
        moments_are = tables.moments_are;
        woken_are = tables.woken_are;
        no_others = tables.no_others;
        cursors_are = tables.cursors_are;
        owed_are = refl;
      };
      owed_are = is ∙ ap (λ (l : List Owed). l ++ firing_deliveries net entry) tables.owed_are;
    }
