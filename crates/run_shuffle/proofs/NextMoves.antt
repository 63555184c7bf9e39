-- What the calls on a configuration say of the next delivery.
use Rattle.std.proofs.Common.{◌≡◌, ℕ, ◌≤◌, suc, Bool, List, [], ◌∷◌, ◌++◌, filter, filter_map, length, slice_get, Option, Some, None, option_map, refl, sym, ap, ◌∙◌, append_assoc}
use Rattle.std.specs.Prelude.{find}
use Rattle.std.proofs.lemmas.List.Elements.{filter-append, filter_map-append}
use Rattle.std.proofs.lemmas.Option.{slice_get_past}
use Rattle.polis_base.specs.Lists.{upto}
use Rattle.transition_table.specs.declared.decl.Party.{Party}
use Rattle.transition_table.specs.declared.decl.Party.TheVariants.{Env, Machine as Sender}
use Rattle.transition_table.specs.declared.network.Network.{Network}
use Rattle.journals.specs.declared.entry.Entry.{Entry}
use Rattle.journals.specs.declared.entry.Owed.{Owed}
use Rattle.journals.specs.declared.entry.Pick.{Pick}
use Rattle.journals.specs.declared.entry.Pick.TheVariants.{Deliver}
use Rattle.journals.specs.declared.entry.TraceItem.{TraceItem}
use Rattle.journals.specs.declared.entry.TraceItem.TheVariants.{Event}
use Rattle.journals.specs.AllLaws.{SendingLaws}
use Rattle.journals.specs.Cursors.{cursor}
use Rattle.journals.specs.Legality.{Legal}
use Rattle.journals.specs.Schedules.{deliver, is_way, owed_by_machines}
use Rattle.journals.specs.Journals.{next_of}
use Rattle.journals.proofs.FirstOfWay.{find_passes}
use Rattle.journals.proofs.OwedAfter.{way_parts}
use Rattle.run_shuffle.specs.Moves.{all_moves, env_moves, next_delivery, next_sends, reactions}

-- ---- of the environment

pub env_has : SendingLaws
    → (net : Network) (trace : List TraceItem) (journal : List Entry) (m e c : ℕ)
    → Legal net trace journal → slice_get trace (cursor net trace journal m) ≡ Some (Event e c)
    → Some (Deliver Env m e c) ≡ next_delivery net trace journal Env m
env_has sending net trace journal m e c legal at =
    let may = (sending.at_cursor net trace journal m e c legal).1 at in
    let next = (sending.next net trace journal Env m e c legal).0 may in
    sym (ap (option_map (λ (p : ℕ × ℕ). Deliver Env m p.0 p.1)) next)

pub env_has_none : SendingLaws
    → (net : Network) (trace : List TraceItem) (journal : List Entry) (m : ℕ)
    → Legal net trace journal → length trace ≤ cursor net trace journal m
    → None ≡ next_delivery net trace journal Env m
env_has_none sending net trace journal m legal past =
    elim
    (next_of net trace journal Env m) as (λ (o : Option (ℕ × ℕ)). next_of net trace journal Env m ≡ o
    → ◌≡◌ {A = Option Pick} None (option_map (λ (p : ℕ × ℕ). Deliver Env m p.0 p.1) o)) [
      | None ↦ λ is. refl
      | Some (e, c) ↦ λ is.
          let may = (sending.next net trace journal Env m e c legal).1 is in
          let at = (sending.at_cursor net trace journal m e c legal).0 may in
          let none = slice_get_past trace (cursor net trace journal m) past in
          cc
    ] refl

-- ---- of machines

pub machine_has : SendingLaws
    → (net : Network) (trace : List TraceItem) (journal : List Entry) (s m : ℕ) (d : Owed)
    → Legal net trace journal
    → find (is_way (Sender s) m) (owed_by_machines net journal) ≡ Some d
    → Some (deliver d) ≡ next_delivery net trace journal (Sender s) m
machine_has sending net trace journal s m d legal found =
    let ways =
    way_parts (Sender s) m d
    (find_passes (is_way (Sender s) m) (owed_by_machines net journal) d found) in
    let may =
    (sending.first_of_way net trace journal s m d.event d.code legal).1
    (found ∙ ap Some (by_parts ways.0 ways.1)) in
    let next = (sending.next net trace journal (Sender s) m d.event d.code legal).0 may in
    ap (λ (t : Party). Some (Deliver t d.to d.event d.code)) ways.0
    ∙ ap (λ (k : ℕ). Some (Deliver (Sender s) k d.event d.code)) ways.1
    ∙ sym (ap (option_map (λ (p : ℕ × ℕ). Deliver (Sender s) m p.0 p.1)) next)
  where
    by_parts : d.from ≡ Sender s → d.to ≡ m
        → ◌≡◌ {A = Owed} d (record { from = Sender s; to = m; event = d.event; code = d.code })
    by_parts from to =
        ap (λ t. let made : Owed =
        record { from = t; to = d.to; event = d.event; code = d.code } in made) from
        ∙ ap
        (λ t. let made : Owed =
        record { from = Sender s; to = t; event = d.event; code = d.code } in made) to

pub machine_has_none : SendingLaws
    → (net : Network) (trace : List TraceItem) (journal : List Entry) (s m : ℕ)
    → Legal net trace journal
    → find (is_way (Sender s) m) (owed_by_machines net journal) ≡ None
    → None ≡ next_delivery net trace journal (Sender s) m
machine_has_none sending net trace journal s m legal none =
    elim
    (next_of net trace journal (Sender s) m) as (λ (o : Option (ℕ × ℕ)).
    next_of net trace journal (Sender s) m ≡ o
    → ◌≡◌ {A = Option Pick} None (option_map (λ (p : ℕ × ℕ). Deliver (Sender s) m p.0 p.1) o)) [
      | None ↦ λ is. refl
      | Some (e, c) ↦ λ is.
          let may = (sending.next net trace journal (Sender s) m e c legal).1 is in
          let found = (sending.first_of_way net trace journal s m e c legal).0 may in
          cc
    ] refl

-- ---- one more of a list

pub gives_more : {Y : Type 0} (f : ℕ → Option Y) (old now new : List Y) (m : ℕ)
    → now ≡ old ++ filter_map f (upto m) → new ≡ now ++ filter_map f (m ∷ [])
    → new ≡ old ++ filter_map f (upto (suc m))
gives_more f old now new m before step =
    step ∙ ap (λ l. l ++ filter_map f (m ∷ [])) before
    ∙ append_assoc old (filter_map f (upto m)) (filter_map f (m ∷ []))
    ∙ ap (λ l. old ++ l) (sym (filter_map-append f (upto m) (m ∷ [])))

pub chosen_more : {Y : Type 0} (f : ℕ → Option Y) (p : ℕ → Bool) (now new : List Y) (m : ℕ)
    → now ≡ filter_map f (filter p (upto m)) → new ≡ now ++ filter_map f (filter p (m ∷ []))
    → new ≡ filter_map f (filter p (upto (suc m)))
chosen_more f p now new m before step =
    step ∙ ap (λ l. l ++ filter_map f (filter p (m ∷ []))) before
    ∙ sym (filter_map-append f (filter p (upto m)) (filter p (m ∷ [])))
    ∙ ap (filter_map f) (sym (filter-append p (upto m) (m ∷ [])))

-- ---- all moves

pub all_gathered : (net : Network) (trace : List TraceItem) (journal : List Entry)
    (env sends all : List Pick) → env ≡ env_moves net trace journal
    → sends ≡ env ++ next_sends net trace journal → all ≡ sends ++ reactions net journal
    → all ≡ all_moves net trace journal
all_gathered net trace journal env sends all first then_sends then_reacts =
    then_reacts
    ∙ ap (λ l. l ++ reactions net journal)
    (then_sends ∙ ap (λ l. l ++ next_sends net trace journal) first)
    ∙ append_assoc (env_moves net trace journal) (next_sends net trace journal)
    (reactions net journal)
