-- What is read of a form is an entry that is printed in it.
use Rattle.std.proofs.Common.{◌≡◌, ◌<◌, ℕ, zero, suc, Bool, true, false, ◌&&◌, nat_lt, nat_le, cond, List, [], ◌∷◌, ◌++◌, map, length, take, drop, Option, Some, None, Result, Ok, Err, refl, sym, ◌∙◌, ap, arith, slice_get, subst, replicate}
use Rattle.std.specs.Prelude.{codes, option_map}
use Rattle.std.specs.List.{list_all}
use Rattle.std.proofs.lemmas.Bool.{and_parts, lt-ltb, le-leb, false≢true, and_from}
use Rattle.std.proofs.lemmas.List.{length-map, take_at, drop_at}
use Rattle.domains.specs.Names.{is_same}
use Rattle.domains.specs.Tables.{fits}
use Rattle.transition_table.specs.NetworkFacts.{event_values, has_vars, has_outputs, is_numbered}
use Rattle.transition_table.specs.Transitions.{blank, IsOutcome}
use Rattle.transition_table.specs.declared.decl.Party.{Party}
use Rattle.transition_table.specs.declared.decl.Party.TheVariants.{Env, Machine as Sender}
use Rattle.transition_table.specs.declared.decl.EventDecl.{EventDecl}
use Rattle.transition_table.specs.declared.decl.StateDecl.{StateDecl}
use Rattle.transition_table.specs.declared.machine.Machine.{Machine}
use Rattle.transition_table.specs.declared.network.Network.{Network}
use Rattle.journals.specs.declared.entry.Entry.{Entry}
use Rattle.journals.specs.declared.entry.Entry.TheVariants.{Dep}
use Rattle.journals.specs.Journals.{FitsNetwork, is_party}
use Rattle.journal_text.specs.declared.fault.JournalKind.{JournalKind}
use Rattle.journal_text.specs.Texts.{event_item, event_items, state_items, set_items, party_name}
use Rattle.journal_text.specs.inner.Texts.{event_size, state_size, set_size}
use Rattle.journal_text.specs.Forms.{Text, Texts, EntryForm, DepForm, FireForm, IdleForm}
use Rattle.journal_text.specs.Items.{as_event, as_state, machine_named, event_named, party_named, name_part, item_code, event_code, some_codes, all_values, snapshot_read, result_read, both_read, map_read, fired, idled, delivery_read, firing_read, idle_read, entry_read}
use Rattle.domains.proofs.Names.{same_texts, same_self}
use Rattle.journal_text.proofs.FormWords.{some_same}
use Rattle.journal_text.proofs.FoundByName.{has_found_name}
use Rattle.journal_text.proofs.ItemCodes.{items_are, values_are, item_of_code}
use Rattle.journal_text.proofs.EntryForms.{seen_of, given_of, form_of}
use Rattle.journal_text.proofs.MachineCodes.{vars_are, results_are}
use Rattle.journal_text.proofs.EntryReadsBack.{event_item_is, event_items_are, set_items_are, state_items_are, are_events, event_sizes, event_sized, set_sizes, state_sizes}
use Rattle.domains.proofs.Ranks.{length_fits}
use Rattle.domains.proofs.FittingCodes.{fits_both}
use Rattle.polis_base.proofs.ListTests.{all_get}
use Rattle.polis_base.proofs.Places.{some_at}

-- what stands under answers
pub ok_same : {A E : Type 0} {a b : A} → ◌≡◌ {A = Result A E} (Ok a) (Ok b) → a ≡ b
ok_same {A = A} {E = E} {a = a} e = ap (λ (r : Result A E). or_else a r) e
  where
    or_else : A → Result A E → A
    or_else d (Err x) = d
    or_else d (Ok x) = x

read_both : {A B : Type 0} (x : Result A JournalKind) (y : Result B JournalKind) (a : A) (b : B)
    → both_read x y ≡ Ok (a, b) → (x ≡ Ok a) × (y ≡ Ok b)
read_both (Err kind) y a b h = cc
read_both (Ok p) (Err kind) a b h = cc
read_both {A = A} {B = B} (Ok p) (Ok q) a b h =
    let pair : (p, q) ≡ (a, b) = ok_same h in
    (ap (λ (x : A × B). Ok x.0) pair, ap (λ (x : A × B). Ok x.1) pair)

-- 1. Parties and events.
party_is : (net : Network) (word : Text) (from : Party) → party_named net word ≡ Some from
    → (party_name net from ≡ word) × (is_party net from ≡ true)
party_is net word from h = go (is_same word (codes "env")) (machine_named net word) refl refl h
  where
    go : (b : Bool) (o : Option ℕ) → is_same word (codes "env") ≡ b → machine_named net word ≡ o
        → cond b (Some Env) (option_map (λ m. Sender m) o) ≡ Some from
        → (party_name net from ≡ word) × (is_party net from ≡ true)
    go true o p q e =
        let is : Env ≡ from = some_same e in
        subst (λ party. (party_name net party ≡ word) × (is_party net party ≡ true)) is
        (sym (same_texts word (codes "env") p), refl)
    go false None p q e = cc
    go false (Some m) p q e =
        let is : Sender m ≡ from = some_same e in
        let found = has_found_name (λ (machine : Machine). machine.name) net.machines word m q in
        subst (λ party. (party_name net party ≡ word) × (is_party net party ≡ true)) is
        (found.1, lt-ltb _ _ found.0)

delivery_only : (net : Network) (from to event : Text) (entry : Entry)
    → entry_read net (DepForm from to event) ≡ Ok entry
    → (DepForm from to event ≡ form_of net entry) × FitsNetwork net entry
delivery_only net from to event entry h =
    go (party_named net from) (machine_named net to) (event_named net (name_part event)) refl
    refl refl h
  where
    last : (p : Party) (m e : ℕ) (o : Option ℕ) → party_named net from ≡ Some p
        → machine_named net to ≡ Some m → event_named net (name_part event) ≡ Some e
        → item_code net (as_event net e) event ≡ o
        → delivery_read (Some p) (Some m) (Some e) o ≡ Ok entry
        → (DepForm from to event ≡ form_of net entry) × FitsNetwork net entry
    last p m e None a b d i h = cc
    last p m e (Some code) a b d i h =
        let is : Dep p m e code ≡ entry = ok_same h in
        let sender = party_is net from p a in
        let machine = has_found_name (λ (machine : Machine). machine.name) net.machines to m b in
        let found = has_found_name (λ (event : EventDecl). event.name) net.events
        (name_part event) e d in
        let item = item_of_code net (as_event net e) event code
        (rw found.1 (same_self (name_part event))) i in
        let sized = event_sized net e (lt-ltb _ _ found.0) in
        let few : suc item.0 < event_size net e = rw (← sized) item.3 in
        let text : event_item net (e, code) ≡ event =
        ap (λ c. event_item net (e, c)) item.1 ∙ event_item_is net e item.0 ∙ sym item.2 in
        let code_is = item.1 in
        let some : nat_le 1 code ≡ true = le-leb _ _ (omega arith) in
        let most : nat_le code (event_values net.domains net.events e) ≡ true =
        le-leb _ _ (omega arith) in
        subst (λ x. (DepForm from to event ≡ form_of net x) × FitsNetwork net x) is (
          rw (sender.0, machine.1, text) refl,
          and_from _ _ (and_from _ _ sender.1 (lt-ltb _ _ machine.0))
              (and_from _ _ (and_from _ _ (lt-ltb _ _ found.0) some) most),
        )

    go : (p : Option Party) (m e : Option ℕ) → party_named net from ≡ p → machine_named net to ≡ m
        → event_named net (name_part event) ≡ e
        → delivery_read p m e (event_code net e event) ≡ Ok entry
        → (DepForm from to event ≡ form_of net entry) × FitsNetwork net entry
    go None m e a b d h = cc
    go (Some p) None e a b d h = cc
    go (Some p) (Some m) None a b d h = cc
    go (Some p) (Some m) (Some e) a b d h =
        last p m e (item_code net (as_event net e) event) a b d refl h

-- 2. Snapshots and results.
pub record MachineNumbers (net : Network) (machine : Machine) : Type 0 where
  pub inputs : are_events net machine.inputs ≡ true
  pub outputs : are_events net machine.outputs ≡ true
  pub vars : has_vars net.domains net.events machine ≡ true
  pub outs : has_outputs net.domains net.events machine ≡ true

machine_numbers : (net : Network) (m : ℕ) (machine : Machine)
    → slice_get net.machines m ≡ Some machine → MachineNumbers net machine
machine_numbers net m machine at =
    let numbered = all_get (is_numbered net.domains net.events) net.machines m machine
    net.numbered at in
    let n = and_parts (list_all (λ e. nat_lt e (length net.events)) machine.inputs
    && list_all (λ e. nat_lt e (length net.events)) machine.outputs) _ numbered in
    let n2 = and_parts (list_all (λ e. nat_lt e (length net.events)) machine.inputs) _ n.0 in
    record {
      inputs = n2.0;
      outputs = n2.1;
      vars = all_get (has_vars net.domains net.events) net.machines m machine net.sized_vars at;
      outs = all_get (has_outputs net.domains net.events) net.machines m machine
          net.sized_outputs at;
    }

events_are : (net : Network) (events : List ℕ) (items : Texts) (codes : List ℕ)
    → are_events net events ≡ true → some_codes net (map (as_event net) events) items ≡ Ok codes
    → (event_items net events codes ≡ items) × (fits (map (event_size net) events) codes ≡ true)
events_are net events items codes all h =
    let r = items_are net (map (as_event net) events) items codes h in
    (event_items_are net events codes ∙ sym r.0, rw (← event_sizes net events all) r.1)

sets_are : (net : Network) (variables : List StateDecl) (items : Texts) (codes : List ℕ)
    → some_codes net (map as_state variables) items ≡ Ok codes
    → (set_items net variables codes ≡ items) × (fits (map (set_size net) variables) codes ≡ true)
sets_are net variables items codes h =
    let r = items_are net (map as_state variables) items codes h in
    (set_items_are net variables codes ∙ sym r.0, rw (← set_sizes net variables) r.1)

states_are : (net : Network) (variables : List StateDecl) (items : Texts) (values : List ℕ)
    → all_values net (map as_state variables) items ≡ Ok values
    → (state_items net variables values ≡ items)
    × (fits (map (state_size net) variables) values ≡ true)
states_are net variables items values h =
    let r = values_are net (map as_state variables) items values h in
    (state_items_are net variables values ∙ sym r.0, rw (← state_sizes net variables) r.1)

snapshot_is : (net : Network) (m : ℕ) (machine : Machine) (a b : Texts) (present values : List ℕ)
    → slice_get net.machines m ≡ Some machine → snapshot_read net m (a, b) ≡ Ok (present, values)
    → (seen_of net m (present ++ values) ≡ (a, b)) × (fits machine.vars (present ++ values) ≡ true)
snapshot_is net m machine a b present values at h =
    let facts = machine_numbers net m machine at in
    let k : both_read (some_codes net (map (as_event net) machine.inputs) a)
    (all_values net (map as_state machine.states) b) ≡ Ok (present, values) = rw at at h in
    let parts = read_both _ _ present values k in
    let p = events_are net machine.inputs a present facts.inputs parts.0 in
    let v = states_are net machine.states b values parts.1 in
    let len : length present ≡ length machine.inputs =
    length_fits _ present p.1 ∙ length-map machine.inputs (event_size net) in
    let prefix : take (length machine.inputs) (present ++ values) ≡ present =
    take_at present values _ len in
    let back : drop (length machine.inputs) (present ++ values) ≡ values =
    drop_at present values _ len in (
      rw at (rw (prefix, back, p.0, v.0) refl),
      rw (vars_are net machine facts.vars) (fits_both _ _ present values p.1 v.1),
    )

result_is : (net : Network) (m : ℕ) (machine : Machine) (a b : Texts) (next outs : List ℕ)
    → slice_get net.machines m ≡ Some machine → result_read net m (a, b) ≡ Ok (next, outs)
    → (given_of net m (record { fires = true; next = next; outs = outs }) ≡ (a, b))
    × IsOutcome machine (record { fires = true; next = next; outs = outs })
result_is net m machine a b next outs at h =
    let facts = machine_numbers net m machine at in
    let k : both_read (some_codes net (map as_state machine.states) a)
    (some_codes net (map (as_event net) machine.outputs) b) ≡ Ok (next, outs) = rw at at h in
    let parts = read_both _ _ next outs k in
    let s = sets_are net machine.states a next parts.0 in
    let o = events_are net machine.outputs b outs facts.outputs parts.1 in (
      rw at (rw (s.0, o.0) refl),
      record {
        widths = record {
          next = length_fits _ next s.1 ∙ length-map machine.states (set_size net);
          outs = length_fits _ outs o.1 ∙ length-map machine.outputs (event_size net);
        };
        codes = rw (results_are net machine facts.vars facts.outs)
            (fits_both _ _ next outs s.1 o.1);
        idle = λ e. absurd (false≢true (sym e));
      },
    )

zeros_fit : {X : Type 0} (size : X → ℕ) (xs : List X) → ((x : X) → nat_lt 0 (size x) ≡ true)
    → fits (map size xs) (replicate (length xs) 0) ≡ true
zeros_fit size [] h = refl
zeros_fit size (x ∷ xs) h = and_from _ _ (h x) (zeros_fit size xs h)

zeros_length : (n : ℕ) → length {A = ℕ} (replicate n 0) ≡ n
zeros_length zero = refl
zeros_length (suc n) = ap suc (zeros_length n)

blank_is : (net : Network) (m : ℕ) (machine : Machine) → slice_get net.machines m ≡ Some machine
    → IsOutcome machine (blank machine)
blank_is net m machine at =
    let facts = machine_numbers net m machine at in
    record {
      widths = record {
        next = zeros_length (length machine.states);
        outs = zeros_length (length machine.outputs);
      };
      codes = rw (results_are net machine facts.vars facts.outs)
          (fits_both _ _ (replicate (length machine.states) 0)
          (replicate (length machine.outputs) 0)
          (zeros_fit (set_size net) machine.states (λ x. lt-ltb _ _ (omega arith)))
          (zeros_fit (event_size net) machine.outputs (λ x. lt-ltb _ _ (omega arith))));
      idle = λ e. refl;
    }

-- 3. Reactions.
under_read : {A B : Type 0} (f : A → B) (r : Result A JournalKind) (b : B) → map_read f r ≡ Ok b
    → (a : A) × (r ≡ Ok a) × (f a ≡ b)
under_read f (Err kind) b h = cc
under_read f (Ok a) b h = (a, refl, ok_same h)

firing_only : (net : Network) (machine : Text) (seen given : Texts × Texts) (entry : Entry)
    → entry_read net (FireForm machine seen given) ≡ Ok entry
    → (FireForm machine seen given ≡ form_of net entry) × FitsNetwork net entry
firing_only net word (a, b) (d, e) entry h = go (machine_named net word) refl h
  where
    found : (m : ℕ) (present values next outs : List ℕ) → machine_named net word ≡ Some m
        → snapshot_read net m (a, b) ≡ Ok (present, values)
        → result_read net m (d, e) ≡ Ok (next, outs)
        → (FireForm word (a, b) (d, e) ≡ form_of net (fired m ((present, values), (next, outs))))
        × FitsNetwork net (fired m ((present, values), (next, outs)))
    found m present values next outs p x y =
        let named = has_found_name (λ (machine : Machine). machine.name) net.machines word m p in
        let t = some_at net.machines m named.0 in
        let s = snapshot_is net m t.0 a b present values t.1 x in
        let r = result_is net m t.0 d e next outs t.1 y in
        (rw (named.1, s.0, r.0) refl, rw t.1 (s.1, r.1))

    go : (o : Option ℕ) → machine_named net word ≡ o → firing_read net o (a, b) (d, e) ≡ Ok entry
        → (FireForm word (a, b) (d, e) ≡ form_of net entry) × FitsNetwork net entry
    go None p h = cc
    go (Some m) p h =
        let u = under_read (fired m)
        (both_read (snapshot_read net m (a, b)) (result_read net m (d, e))) entry h in
        let parts = read_both (snapshot_read net m (a, b)) (result_read net m (d, e)) u.0.0
        u.0.1 u.1 in
        subst (λ x. (FireForm word (a, b) (d, e) ≡ form_of net x) × FitsNetwork net x) u.2
        (found m u.0.0.0 u.0.0.1 u.0.1.0 u.0.1.1 p parts.0 parts.1)

idle_only : (net : Network) (machine : Text) (seen : Texts × Texts) (entry : Entry)
    → entry_read net (IdleForm machine seen) ≡ Ok entry
    → (IdleForm machine seen ≡ form_of net entry) × FitsNetwork net entry
idle_only net word (a, b) entry h = go (machine_named net word) refl h
  where
    found : (m : ℕ) (present values : List ℕ) → machine_named net word ≡ Some m
        → snapshot_read net m (a, b) ≡ Ok (present, values)
        → (IdleForm word (a, b) ≡ form_of net (idled net m (present, values)))
        × FitsNetwork net (idled net m (present, values))
    found m present values p x =
        let named = has_found_name (λ (machine : Machine). machine.name) net.machines word m p in
        let t = some_at net.machines m named.0 in
        let s = snapshot_is net m t.0 a b present values t.1 x in
        (rw (named.1, s.0) refl, rw t.1 (s.1, blank_is net m t.0 t.1))

    go : (o : Option ℕ) → machine_named net word ≡ o → idle_read net o (a, b) ≡ Ok entry
        → (IdleForm word (a, b) ≡ form_of net entry) × FitsNetwork net entry
    go None p h = cc
    go (Some m) p h =
        let u = under_read (idled net m) (snapshot_read net m (a, b)) entry h in
        subst (λ x. (IdleForm word (a, b) ≡ form_of net x) × FitsNetwork net x) u.2
        (found m u.0.0 u.0.1 p u.1)

-- what is read of a form is an entry that fits, and the form is its own
pub entry_only : (net : Network) (form : EntryForm) (entry : Entry) → entry_read net form ≡ Ok entry
    → (form ≡ form_of net entry) × FitsNetwork net entry
entry_only net (DepForm from to event) entry h = delivery_only net from to event entry h
entry_only net (FireForm machine seen given) entry h = firing_only net machine seen given entry h
entry_only net (IdleForm machine seen) entry h = idle_only net machine seen entry h
