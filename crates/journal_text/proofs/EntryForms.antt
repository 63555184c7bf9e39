-- The form that an entry is printed in, and what is read of it.
use Rattle.std.proofs.Common.{◌≡◌, ℕ, Bool, true, false, ◌&&◌, cond, List, [], ◌∷◌, ◌++◌, length, take, drop, Option, Some, None, refl, sym, ◌∙◌, ap, slice_get}
use Rattle.std.specs.Prelude.{codes, IsSomeAnd}
use Rattle.std.specs.List.{list_all}
use Rattle.std.proofs.lemmas.Bool.{and_parts}
use Rattle.std.proofs.lemmas.List.{append_assoc}
use Rattle.polis_base.specs.Names.{is_name}
use Rattle.transition_table.specs.Transitions.{IsSnapshot, IsOutcome}
use Rattle.transition_table.specs.declared.decl.EventDecl.{EventDecl}
use Rattle.transition_table.specs.declared.machine.Machine.{Machine}
use Rattle.transition_table.specs.declared.network.Network.{Network}
use Rattle.transition_table.specs.declared.snapshot.Snapshot.{Snapshot}
use Rattle.transition_table.specs.declared.snapshot.Outcome.{Outcome}
use Rattle.journals.specs.declared.entry.Entry.{Entry}
use Rattle.journals.specs.declared.entry.Entry.TheVariants.{Dep, Rea}
use Rattle.journals.specs.Journals.{FitsNetwork, inputs_of, outputs_of, states_of}
use Rattle.transition_table.specs.NetworkNames.{machine_name}
use Rattle.journal_text.specs.Texts.{spaced, event_item, event_items, state_items, set_items, party_name, snapshot_text, result_text, entry_text}
use Rattle.journal_text.specs.Forms.{Text, Texts, EntryForm, DepForm, FireForm, IdleForm, colon, semicolon, arrow}
use Rattle.journal_text.specs.Holding.{values_hold, machine_holds, names_hold}
use Rattle.journal_text.proofs.Pieces.{words_in, spaced_joined}
use Rattle.polis_base.proofs.TextPieces.{joined_by, joined_both}
use Rattle.journal_text.proofs.FormWords.{lists_words, form_words}
use Rattle.journal_text.proofs.ItemCodes.{DomainsHold}
use Rattle.polis_base.proofs.ListTests.{all_get}

-- what the types of the network keep
pub record Holds (net : Network) : Type 0 where
  pub events : list_all (λ (event : EventDecl). is_name event.name) net.events ≡ true
  pub machines : list_all machine_holds net.machines ≡ true
  pub domains : DomainsHold net

pub holds_of : (net : Network) → names_hold net ≡ true → Holds net
holds_of net h =
    let a = and_parts (list_all (λ (event : EventDecl). is_name event.name) net.events
    && list_all machine_holds net.machines) _ h in
    let b = and_parts (list_all (λ (event : EventDecl). is_name event.name) net.events) _ a.0 in
    record {
      events = b.0;
      machines = b.1;
      domains = λ d domain at. all_get values_hold net.domains d domain a.1 at;
    }

-- the form that an entry is printed in
abbrev pub seen_of : Network → ℕ → List ℕ → Texts × Texts
seen_of net m codes = (
  event_items net (inputs_of net m) (take (length (inputs_of net m)) codes),
  state_items net (states_of net m) (drop (length (inputs_of net m)) codes),
)

abbrev pub given_of : Network → ℕ → Outcome → Texts × Texts
given_of net m o =
    (set_items net (states_of net m) o.next, event_items net (outputs_of net m) o.outs)

abbrev pub form_of : Network → Entry → EntryForm
form_of net (Dep from to event code) =
    DepForm (party_name net from) (machine_name net to) (event_item net (event, code))
form_of net (Rea m s o) =
    cond o.fires (FireForm (machine_name net m) (seen_of net m s.codes) (given_of net m o))
    (IdleForm (machine_name net m) (seen_of net m s.codes))

-- 1. The text of an entry is its form's words, with one space between each two.
abbrev has_some : Texts → Bool
has_some [] = false
has_some (w ∷ ws) = true

joined_two : (xs ys : Texts) → has_some xs ≡ true → has_some ys ≡ true
    → joined_by 32 (xs ++ ys) ≡ joined_by 32 xs ++ 32 ∷ joined_by 32 ys
joined_two [] ys h k = cc
joined_two (x ∷ xs) [] h k = cc
joined_two (x ∷ xs) (y ∷ ys) h k = joined_both 32 x xs y ys

some_words : (a : Texts) → has_some (words_in a) ≡ true
some_words [] = refl
some_words (x ∷ a) = refl

some_lists : (a b : Texts) → has_some (lists_words (a, b)) ≡ true
some_lists [] b = refl
some_lists (x ∷ a) b = refl

lists_text : (a b : Texts) → joined_by 32 (lists_words (a, b)) ≡ spaced a ++ codes " ; " ++ spaced b
lists_text a b =
    joined_two (words_in a) (semicolon ∷ words_in b) (some_words a) refl
    ∙ ap (λ t. joined_by 32 (words_in a) ++ 32 ∷ t)
    (joined_two (semicolon ∷ []) (words_in b) refl (some_words b))
    ∙ rw (spaced_joined a, spaced_joined b)
    (sym (append_assoc (joined_by 32 (words_in a)) (codes " ; ") (joined_by 32 (words_in b))))

fire_text : (m s r : Text) → codes "fire " ++ m ++ codes " : " ++ s ++ codes " -> " ++ r
    ≡ (codes "fire" ++ 32 ∷ (m ++ 32 ∷ colon)) ++ 32 ∷ (s ++ 32 ∷ (arrow ++ 32 ∷ r))
fire_text m s r =
    rw (
      append_assoc (codes "fire " ++ m ++ codes " : " ++ s) (codes " -> ") r,
      append_assoc (codes "fire " ++ m ++ codes " : ") s (codes " -> " ++ r),
      append_assoc (codes "fire " ++ m) (codes " : ") (s ++ (codes " -> " ++ r)),
      append_assoc m (32 ∷ colon) (32 ∷ (s ++ 32 ∷ (arrow ++ 32 ∷ r))),
    ) refl

idle_text : (m s : Text) → codes "idle " ++ m ++ codes " : " ++ s
    ≡ (codes "idle" ++ 32 ∷ (m ++ 32 ∷ colon)) ++ 32 ∷ s
idle_text m s =
    rw (
      append_assoc (codes "idle " ++ m) (codes " : ") s,
      append_assoc m (32 ∷ colon) (32 ∷ s),
    ) refl

dep_text : (p m e : Text) → codes "dep " ++ p ++ codes " " ++ m ++ codes " " ++ e
    ≡ joined_by 32 (codes "dep" ∷ p ∷ m ∷ e ∷ [])
dep_text p m e =
    rw (
      append_assoc (codes "dep " ++ p ++ codes " " ++ m) (codes " ") e,
      append_assoc (codes "dep " ++ p ++ codes " ") m (codes " " ++ e),
      append_assoc (codes "dep " ++ p) (codes " ") (m ++ (codes " " ++ e)),
    ) refl

fire_joined : (m : Text) (seen given : Texts × Texts)
    → joined_by 32 (form_words (FireForm m seen given))
    ≡ codes "fire " ++ m ++ codes " : " ++ joined_by 32 (lists_words seen) ++ codes " -> "
    ++ joined_by 32 (lists_words given)
fire_joined m (a, b) (d, e) =
    let seen = lists_words (a, b) in
    let given = lists_words (d, e) in
    let whole = joined_two (codes "fire" ∷ m ∷ colon ∷ []) (seen ++ arrow ∷ given) refl
    (some_both a b (arrow ∷ given)) in
    let lists = joined_two seen (arrow ∷ given) (some_lists a b) refl in
    let last = joined_two (arrow ∷ []) given refl (some_lists d e) in
    whole ∙ rw (lists, last) (sym (fire_text m (joined_by 32 seen) (joined_by 32 given)))
  where
    some_both : (a b more : Texts) → has_some (lists_words (a, b) ++ more) ≡ true
    some_both [] b more = refl
    some_both (x ∷ a) b more = refl

idle_joined : (m : Text) (seen : Texts × Texts)
    → joined_by 32 (form_words (IdleForm m seen))
    ≡ codes "idle " ++ m ++ codes " : " ++ joined_by 32 (lists_words seen)
idle_joined m (a, b) =
    joined_two (codes "idle" ∷ m ∷ colon ∷ []) (lists_words (a, b)) refl (some_lists a b)
    ∙ sym (idle_text m (joined_by 32 (lists_words (a, b))))

reaction_joined : (net : Network) (m : ℕ) (machine : Machine) (s : Snapshot) (o : Outcome)
    → slice_get net.machines m ≡ Some machine
    → entry_text net (Rea m s o) ≡ joined_by 32 (form_words (form_of net (Rea m s o)))
reaction_joined net m machine s o at = rw at (go o.fires)
  where
    seen : Texts × Texts
    seen = (
      event_items net machine.inputs (take (length machine.inputs) s.codes),
      state_items net machine.states (drop (length machine.inputs) s.codes),
    )

    given : Texts × Texts
    given = (set_items net machine.states o.next, event_items net machine.outputs o.outs)

    go : (b : Bool)
        → cond b (codes "fire " ++ machine.name ++ codes " : " ++ snapshot_text net machine s.codes
        ++ codes " -> " ++ result_text net machine o)
        (codes "idle " ++ machine.name ++ codes " : " ++ snapshot_text net machine s.codes)
        ≡ joined_by 32 (form_words
        (cond b (FireForm machine.name seen given) (IdleForm machine.name seen)))
    go true = rw (sym (lists_text seen.0 seen.1), sym (lists_text given.0 given.1))
        (sym (fire_joined machine.name seen given))
    go false = rw (sym (lists_text seen.0 seen.1)) (sym (idle_joined machine.name seen))

-- the machine of a reaction that fits
pub machine_there : (net : Network) (m : ℕ) (s : Snapshot) (o : Outcome)
    → FitsNetwork net (Rea m s o) → (machine : Machine) × (slice_get net.machines m ≡ Some machine)
    × IsSnapshot machine s × IsOutcome machine o
machine_there net m s o fit = go (slice_get net.machines m) refl fit
  where
    go : (x : Option Machine) → slice_get net.machines m ≡ x
        → IsSomeAnd x (λ machine. IsSnapshot machine s × IsOutcome machine o)
        → (machine : Machine) × (slice_get net.machines m ≡ Some machine) × IsSnapshot machine s
        × IsOutcome machine o
    go None p h = absurd h
    go (Some machine) p h = (machine, p, h.0, h.1)

pub entry_joined : (net : Network) (entry : Entry) → FitsNetwork net entry
    → entry_text net entry ≡ joined_by 32 (form_words (form_of net entry))
entry_joined net (Dep from to event code) fit =
    dep_text (party_name net from) (machine_name net to) (event_item net (event, code))
entry_joined net (Rea m s o) fit =
    let there = machine_there net m s o fit in
    reaction_joined net m there.0 s o there.1
