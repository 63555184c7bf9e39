-- What a firing changes of what goes to the environment, and all that an entry changes.
use Rattle.std.specs.Prelude.{◌≡◌, ℕ, zero, suc, ◌+◌, ◌<◌, Bool, true, false, cond, not, ◌&&◌, ◌==◌, nat_lt, List, [], ◌∷◌, ◌++◌, map, filter, flat_map, length, take, position, slice_get, slice_index, Option, Some, None, option_map, unwrap_or}
use Rattle.std.specs.Bool.{then_some}
use Rattle.std.specs.List.{cons_option, list_all, list_any}
use Rattle.std.specs.Option.{option_map_or}
use Rattle.std.proofs.Common.{refl, sym, ap, ◌∙◌, arith}
use Rattle.std.proofs.lemmas.List.{append-nil, append_assoc, length-append, length-map}
use Rattle.std.proofs.lemmas.List.Elements.{filter_map-append}
use Rattle.std.proofs.lemmas.Bool.{and_parts, and_from, eq-eqb, lt-ltb, ltb-true}
use Rattle.polis_base.specs.Lists.{upto, last_of}
use Rattle.transition_table.specs.NetworkFacts.{are_different, lists_once}
use Rattle.transition_table.specs.declared.machine.Machine.{Machine}
use Rattle.transition_table.specs.declared.network.Network.{Network}
use Rattle.transition_table.specs.declared.snapshot.Outcome.{Outcome}
use Rattle.transition_table.specs.declared.snapshot.Snapshot.{Snapshot}
use Rattle.journals.specs.declared.entry.Entry.{Entry}
use Rattle.journals.specs.declared.entry.Entry.TheVariants.{Dep, Rea}
use Rattle.journals.specs.Journals.{emissions, emitted, inputs_of, outputs_of, buffered, snap, state, states_of}
use Rattle.journals.specs.Moved.{codes_after, machine_of}
use Rattle.wave_text.specs.inner.Changing.{codes_emitted, AreValues, IsNumbering, becomes, code_changes, entry_changes, emission_change, happens, loss_changes, out_signals, out_signal_at, value_change}
use Rattle.wave_text.specs.Signals.{changes_at, emission_signals, emits, happens_at, has_values, snapshot_signals, last_emitted, loss_signals, out_events, machine_signals, value_signals, first_number}
use Rattle.wave_text.specs.declared.change.OutSignal.{OutSignal}
use Rattle.wave_text.specs.declared.change.Numbering.{Numbering}
use Rattle.wave_text.specs.declared.signal.Change.{Change}
use Rattle.wave_text.specs.declared.signal.Signal.TheVariants.{Emission, Value}
use Rattle.polis_base.proofs.Lists.{all_below}
use Rattle.std.proofs.lemmas.Option.{slice_get_within}
use Rattle.wave_text.proofs.MachineSignals.{snapshot_signals_many}
use Rattle.event_accounts.proofs.InputsOf.{inputs_of_machine}
use Rattle.journals.proofs.MomentsAfter.{length_table, last_of_push}
use Rattle.journals.proofs.EntriesAt.{prefix_more}
use Rattle.wave_text.proofs.CodesEmitted.{code_by, code_by_place, code_sent, emits_is, sent_once}
use Rattle.wave_text.proofs.Changed.{changed, changed_both, snapshot_changed, loss_changes_are, machines_changed, no_losses, none_changed}
use Rattle.polis_base.proofs.Places.{flat_map_push}

-- ---- the last emitted codes

pub last_more : (net : Network) (journal : List Entry) (x : Entry) (e : ℕ)
    → last_emitted net (journal ++ x ∷ []) e
    ≡ last_of 0 (codes_emitted e (flat_map (emissions net) journal)
    ++ codes_emitted e (emissions net x))
last_more net journal x e =
    ap (λ (l : List (ℕ × ℕ)). last_of 0 (codes_emitted e l))
    (flat_map_push (emissions net) journal x)
    ∙ ap (last_of 0)
    (filter_map-append (λ (y, code). then_some (y == e) code) (flat_map (emissions net) journal)
    (emissions net x))

last_stays : (net : Network) (journal : List Entry) (x : Entry) (e : ℕ) → emissions net x ≡ []
    → last_emitted net (journal ++ x ∷ []) e ≡ last_emitted net journal e
last_stays net journal x e none =
    last_more net journal x e
    ∙ ap (λ (l : List (ℕ × ℕ)). last_of 0
    (codes_emitted e (flat_map (emissions net) journal) ++ codes_emitted e l)) none
    ∙ ap (last_of 0) (append-nil (codes_emitted e (flat_map (emissions net) journal)))

last_if : (b : Bool) (d c : ℕ) (xs : List ℕ)
    → last_of d (xs ++ cond b [] (c ∷ [])) ≡ cond b (last_of d xs) c
last_if true d c xs = ap (last_of d) (append-nil xs)
last_if false d c xs = last_of_push d xs c

outputs_differ : (net : Network) (m : ℕ) → are_different (outputs_of net m) ≡ true
outputs_differ net m = found net.machines m net.once
  where
    found : (machines : List Machine) (k : ℕ) → list_all lists_once machines ≡ true
        → are_different
        (unwrap_or (option_map (λ machine. machine.outputs) (slice_get machines k)) []) ≡ true
    found [] k h = refl
    found (machine ∷ machines) zero h =
        let here = (and_parts (lists_once machine) (list_all lists_once machines) h).0 in
        (and_parts (are_different machine.inputs) (are_different machine.outputs)
        (and_parts (are_different machine.inputs && are_different machine.outputs) _ here).0).1
    found (machine ∷ machines) (suc k) h =
        found machines k (and_parts (lists_once machine) (list_all lists_once machines) h).1

fired : (net : Network) (m : ℕ) (s : Snapshot) (o : Outcome) → o.fires ≡ true
    → emissions net (Rea m s o) ≡ emitted (outputs_of net m) o.outs
fired net m s o is = rw is refl

pub last_fired : (net : Network) (journal : List Entry) (m : ℕ) (s : Snapshot) (o : Outcome) (e : ℕ)
    → o.fires ≡ true
    → last_emitted net (journal ++ Rea m s o ∷ []) e
    ≡ cond (code_sent (outputs_of net m) o.outs e == 0) (last_emitted net journal e)
    (code_sent (outputs_of net m) o.outs e)
last_fired net journal m s o e is =
    let outputs = outputs_of net m in
    let c = code_sent outputs o.outs e in
    let before = codes_emitted e (flat_map (emissions net) journal) in
    last_more net journal (Rea m s o) e
    ∙ ap (λ (l : List (ℕ × ℕ)). last_of 0 (before ++ codes_emitted e l)) (fired net m s o is)
    ∙ ap (λ (l : List ℕ). last_of 0 (before ++ l))
    (sent_once outputs o.outs e (outputs_differ net m))
    ∙ last_if (c == 0) 0 c before

-- ---- an entry that emits nothing

silent_emissions : (net : Network) (journal : List Entry) (p n : ℕ) (x : Entry) (es : List ℕ)
    → slice_get journal p ≡ Some x → emissions net x ≡ []
    → changed net journal p n (map Emission es) ≡ []
silent_emissions net journal p n x es at none =
    none_changed net journal p n Emission es (λ e. record {
      same = refl;
      still = ap (λ (o : Option Entry). option_map_or (emits net e) o false) at
          ∙ ap (λ (l : List (ℕ × ℕ)). list_any (λ (y, code). y == e) l) none;
    })

silent_values : (net : Network) (journal : List Entry) (p n : ℕ) (x : Entry) (es : List ℕ)
    → slice_get journal p ≡ Some x → emissions net x ≡ []
    → changed net journal p n (map Value es) ≡ []
silent_values net journal p n x es at none =
    none_changed net journal p n Value es (λ e. record {
      same = ap Some
          (ap (λ (l : List Entry). last_emitted net l e) (prefix_more journal p x at)
          ∙ last_stays net (take p journal) x e none);
      still = refl;
    })

-- ---- a firing

emissions_of_one : (outs : List ℕ) (n e : ℕ) (o : Option ℕ) (rest : List OutSignal)
    → flat_map (emission_change outs) (out_signal_at n e o ++ rest)
    ≡ cons_option (cond (not (code_by outs o == 0)) (Some (happens n)) None)
    (flat_map (emission_change outs) rest)
emissions_of_one outs n e None rest = refl
emissions_of_one outs n e (Some y) rest = cases (not (slice_index outs y == 0))
  where
    more : List Change
    more = flat_map (emission_change outs) rest

    cases : (t : Bool)
        → cond t (happens n ∷ []) [] ++ more ≡ cons_option (cond t (Some (happens n)) None) more
    cases true = refl
    cases false = refl

values_of_one : (outs values : List ℕ) (n e : ℕ) (o : Option ℕ) (rest : List OutSignal)
    → flat_map (value_change outs values) (out_signal_at n e o ++ rest)
    ≡ cons_option (cond (not (code_by outs o == 0) && not (slice_index values e == code_by outs o))
    (Some (becomes n (code_by outs o))) None) (flat_map (value_change outs values) rest)
values_of_one outs values n e None rest = refl
values_of_one outs values n e (Some y) rest =
    cases (not (slice_index outs y == 0) && not (slice_index values e == slice_index outs y))
  where
    more : List Change
    more = flat_map (value_change outs values) rest

    cases : (t : Bool) → cond t (becomes n (slice_index outs y) ∷ []) [] ++ more
        ≡ cons_option (cond t (Some (becomes n (slice_index outs y))) None) more
    cases true = refl
    cases false = refl

emissions_changed : (net : Network) (journal : List Entry) (p m n : ℕ) (s : Snapshot) (o : Outcome)
    (es : List ℕ) → slice_get journal p ≡ Some (Rea m s o) → o.fires ≡ true
    → flat_map (emission_change o.outs) (out_signals (outputs_of net m) n es)
    ≡ changed net journal p n (map Emission es)
emissions_changed net journal p m n s o [] at is = refl
emissions_changed net journal p m n s o (e ∷ es) at is =
    let outputs = outputs_of net m in
    let place = position (λ output. output == e) outputs in
    let test : happens_at net journal p (Emission e) ≡ not (code_by o.outs place == 0) =
    ap (λ (x : Option Entry). option_map_or (emits net e) x false) at
    ∙ ap (λ (l : List (ℕ × ℕ)). list_any (λ (y, code). y == e) l) (fired net m s o is)
    ∙ emits_is outputs o.outs e (outputs_differ net m)
    ∙ ap (λ (c : ℕ). not (c == 0)) (sym (code_by_place outputs o.outs e)) in
    emissions_of_one o.outs n e place (out_signals outputs (n + 1) es)
    ∙ ap (λ (l : List Change). cons_option
    (cond (not (code_by o.outs place == 0)) (Some (happens n)) None) l)
    (emissions_changed net journal p m (n + 1) s o es at is)
    ∙ ap (λ (b : Bool). cons_option (cond b (Some (happens n)) None)
    (changed net journal p (n + 1) (map Emission es))) (sym test)

abbrev Below : ℕ → List ℕ → Type 0
Below n es = list_all (λ e. nat_lt e n) es ≡ true

values_changed : (net : Network) (journal : List Entry) (p m n : ℕ) (s : Snapshot) (o : Outcome)
    (values es : List ℕ) → slice_get journal p ≡ Some (Rea m s o) → o.fires ≡ true
    → AreValues net (take p journal) values → Below (length net.events) es
    → flat_map (value_change o.outs values) (out_signals (outputs_of net m) n es)
    ≡ changed net journal p n (map Value es)
values_changed net journal p m n s o values [] at is are below = refl
values_changed net journal p m n s o values (e ∷ es) at is are below =
    let outputs = outputs_of net m in
    let spot = position (λ output. output == e) outputs in
    let c = code_sent outputs o.outs e in
    let parts = and_parts (nat_lt e (length net.events))
    (list_all (λ e. nat_lt e (length net.events)) es) below in
    let was : slice_index values e ≡ last_emitted net (take p journal) e =
    are.each e (ltb-true e (length net.events) parts.0) in
    let then : last_emitted net (take (p + 1) journal) e
    ≡ cond (c == 0) (last_emitted net (take p journal) e) c =
    ap (λ (l : List Entry). last_emitted net l e) (prefix_more journal p (Rea m s o) at)
    ∙ last_fired net (take p journal) m s o e is in
    values_of_one o.outs values n e spot (out_signals outputs (n + 1) es)
    ∙ ap (λ (k : ℕ). cons_option
    (cond (not (k == 0) && not (slice_index values e == k)) (Some (becomes n k)) None)
    (flat_map (value_change o.outs values) (out_signals outputs (n + 1) es)))
    (code_by_place outputs o.outs e)
    ∙ ap (λ (k : ℕ). cons_option (cond (not (c == 0) && not (k == c)) (Some (becomes n c)) None)
    (flat_map (value_change o.outs values) (out_signals outputs (n + 1) es))) was
    ∙ ap (λ (l : List Change). cons_option
    (cond (not (c == 0) && not (last_emitted net (take p journal) e == c))
    (Some (becomes n c)) None) l)
    (values_changed net journal p m (n + 1) s o values es at is are parts.1)
    ∙ ap (λ (x : Option Change). cons_option x (changed net journal p (n + 1) (map Value es)))
    (one (c == 0) (last_emitted net (take p journal) e) c
    ∙ ap (λ (k : ℕ). cond (last_emitted net (take p journal) e == k) None (Some (becomes n k)))
    (sym then))
  where
    one : (b : Bool) (before code : ℕ)
        → cond (not b && not (before == code)) (Some (becomes n code)) None
        ≡ cond (before == cond b before code) None (Some (becomes n (cond b before code)))
    one true before code = sym
        (ap (λ (t : Bool). cond t None (Some (becomes n before))) (eq-eqb before before refl))
    one false before code = cases (before == code)
      where
        cases : (t : Bool) → cond (not t) (Some (becomes n code)) None
            ≡ cond t None (Some (becomes n code))
        cases true = refl
        cases false = refl

-- ---- the events are of the network

pub filter_below : (t : ℕ → Bool) (n : ℕ) (es : List ℕ) → Below n es → Below n (filter t es)
filter_below t n [] h = refl
filter_below t n (e ∷ es) h =
    let parts = and_parts (nat_lt e n) (list_all (λ e. nat_lt e n) es) h in
    cases (t e) (filter t es) parts.0 (filter_below t n es parts.1)
  where
    cases : (b : Bool) (rest : List ℕ) → nat_lt e n ≡ true → Below n rest
        → Below n (cond b (e ∷ rest) rest)
    cases true rest here more = and_from (nat_lt e n) (list_all (λ e. nat_lt e n) rest) here more
    cases false rest here more = more

pub out_below : (net : Network) → Below (length net.events) (out_events net)
out_below net = filter_below _ (length net.events) (upto (length net.events))
    (all_below (length net.events) (length net.events) (omega arith))

-- ---- all that an entry changes

-- what stands for the parts of the network's signals
all_changed : (net : Network) (journal : List Entry) (p m : ℕ) (x : Entry) → m < length net.machines
    → slice_get journal p ≡ Some x → machine_of x ≡ m
    → let n = first_number net (length net.machines) in
    changes_at net journal p
    ≡ (changed net journal p (first_number net m) (machine_signals net m)
    ++ changed net journal p n (emission_signals net))
    ++ changed net journal p (n + length (out_events net)) (value_signals net)
all_changed net journal p m x below at own =
    let machines = flat_map (machine_signals net) (upto (length net.machines)) in
    let n = length machines in
    let emissions = emission_signals net in
    let many : 0 + length (machines ++ emissions) ≡ n + length (out_events net) =
    (let a = length-append machines emissions in let b = length-map (out_events net) Emission in
    omega arith) in
    changed_both net journal p 0 (machines ++ emissions) (value_signals net)
    ∙ ap (λ (l : List Change). l ++ changed net journal p (0 + length (machines ++ emissions))
    (value_signals net))
    (changed_both net journal p 0 machines emissions
    ∙ ap (λ (k : ℕ). changed net journal p 0 machines ++ changed net journal p k emissions)
    (let h : 0 + n ≡ n = omega arith in h)
    ∙ ap (λ (l : List Change). l ++ changed net journal p n emissions)
    (machines_changed net journal p m x at own (length net.machines)
    ∙ ap (λ (b : Bool). cond b (changed net journal p (first_number net m) (machine_signals net m))
    [])
    (lt-ltb m (length net.machines) below)))
    ∙ ap (λ (k : ℕ). (changed net journal p (first_number net m) (machine_signals net m)
    ++ changed net journal p n emissions) ++ changed net journal p k (value_signals net)) many

-- what an entry changes of its machine's snapshot
snapshot_part : (net : Network) (journal : List Entry) (p m : ℕ) (numbering : Numbering)
    (before after : List ℕ)
    → IsNumbering net m numbering → before ≡ (snap net (take p journal) m).codes
    → after ≡ (snap net (take (p + 1) journal) m).codes
    → code_changes numbering.first before after
    ≡ changed net journal p (first_number net m) (snapshot_signals net m)
snapshot_part net journal p m numbering before after stands was is =
    ap (λ (n : ℕ). code_changes n before after) stands.first
    ∙ ap (λ (l : List ℕ). code_changes (first_number net m) l after) was
    ∙ ap (code_changes (first_number net m) (snap net (take p journal) m).codes) is
    ∙ snapshot_changed net journal p m (first_number net m)

before_many : (net : Network) (journal : List Entry) (m : ℕ) (before : List ℕ)
    → before ≡ (snap net journal m).codes → length before ≡ length (snapshot_signals net m)
before_many net journal m before was =
    ap length was
    ∙ length-append (map (buffered journal m) (inputs_of net m))
    (map (state net journal m) (upto (length (states_of net m))))
    ∙ (let a = length-map (inputs_of net m) (buffered journal m) in
    let b = length_table (state net journal m) (length (states_of net m)) in
    let c = snapshot_signals_many net m in omega arith)

-- the parts of an entry that emits nothing
silent_parts : (net : Network) (journal : List Entry) (p m : ℕ) (x : Entry)
    → m < length net.machines
    → slice_get journal p ≡ Some x → machine_of x ≡ m → emissions net x ≡ []
    → changes_at net journal p
    ≡ changed net journal p (first_number net m) (snapshot_signals net m)
    ++ changed net journal p (first_number net m + length (snapshot_signals net m))
    (loss_signals net m)
silent_parts net journal p m x below at own none =
    let n = first_number net (length net.machines) in
    let mine = changed net journal p (first_number net m) (machine_signals net m) in
    all_changed net journal p m x below at own
    ∙ ap (λ (l : List Change). (mine ++ l)
    ++ changed net journal p (n + length (out_events net)) (value_signals net))
    (silent_emissions net journal p n x (out_events net) at none)
    ∙ ap (λ (l : List Change). (mine ++ []) ++ l)
    (silent_values net journal p (n + length (out_events net)) x
    (filter (has_values net) (out_events net)) at none)
    ∙ append-nil (mine ++ []) ∙ append-nil mine
    ∙ changed_both net journal p (first_number net m) (snapshot_signals net m) (loss_signals net m)

pub changes_are : (net : Network) (journal : List Entry) (p : ℕ) (x : Entry) (machine : Machine)
    (numbering : Numbering) (before values : List ℕ) → slice_get journal p ≡ Some x
    → slice_get net.machines (machine_of x) ≡ Some machine
    → IsNumbering net (machine_of x) numbering
    → before ≡ (snap net (take p journal) (machine_of x)).codes
    → codes_after machine x before ≡ (snap net (take (p + 1) journal) (machine_of x)).codes
    → AreValues net (take p journal) values
    → entry_changes machine numbering before values x ≡ changes_at net journal p
changes_are net journal p (Dep s m e c) machine numbering before values at there stands was is are =
    let below = slice_get_within net.machines m machine there in
    let kept = snapshot_signals net m in
    let inputs = inputs_of_machine net m machine there in
    let rest = map (state net (take p journal) m) (upto (length (states_of net m))) in
    let front : code_changes numbering.first before (codes_after machine (Dep s m e c) before)
    ≡ changed net journal p (first_number net m) kept =
    snapshot_part net journal p m numbering before
    (codes_after machine (Dep s m e c) before) stands was is in
    let back : loss_changes (numbering.first + length before) machine.inputs e before
    ≡ changed net journal p (first_number net m + length kept) (loss_signals net m) =
    ap (λ (n : ℕ). loss_changes (n + length before) machine.inputs e before) stands.first
    ∙ ap (λ (n : ℕ). loss_changes (first_number net m + n) machine.inputs e before)
    (before_many net (take p journal) m before was)
    ∙ ap (λ (l : List ℕ). loss_changes (first_number net m + length kept) l e before) (sym inputs)
    ∙ ap (loss_changes (first_number net m + length kept) (inputs_of net m) e) was
    ∙ loss_changes_are net journal p s m e c (first_number net m + length kept)
    (inputs_of net m) rest at in
    ap (λ (l : List Change). l ++ loss_changes
    (numbering.first + length before) machine.inputs e before) front
    ∙ ap (λ (l : List Change). changed net journal p (first_number net m) kept ++ l) back
    ∙ sym (silent_parts net journal p m (Dep s m e c) below at refl refl)
changes_are net journal p (Rea m s o) machine numbering before values at there stands was is are =
    cases o.fires refl
  where
    below : m < length net.machines
    below = slice_get_within net.machines m machine there

    front : code_changes numbering.first before (codes_after machine (Rea m s o) before)
        ≡ changed net journal p (first_number net m) (snapshot_signals net m)
    front = snapshot_part net journal p m numbering before
        (codes_after machine (Rea m s o) before) stands was is

    lossless : changed net journal p (first_number net m + length (snapshot_signals net m))
        (loss_signals net m) ≡ []
    lossless = no_losses net journal p m s o m
        (first_number net m + length (snapshot_signals net m)) at

    cases : (b : Bool) → o.fires ≡ b
        → code_changes numbering.first before (codes_after machine (Rea m s o) before)
        ++ cond b (flat_map (emission_change o.outs) numbering.emissions
        ++ flat_map (value_change o.outs values) numbering.values) []
        ≡ changes_at net journal p
    cases false idle =
        let none : emissions net (Rea m s o) ≡ [] = rw idle refl in
        ap (λ (l : List Change). l ++ []) front
        ∙ ap (λ (l : List Change). changed net journal p (first_number net m)
        (snapshot_signals net m) ++ l) (sym lossless)
        ∙ sym (silent_parts net journal p m (Rea m s o) below at refl none)
    cases true fires =
        let n = first_number net (length net.machines) in
        let kept = changed net journal p (first_number net m) (snapshot_signals net m) in
        let out = out_events net in
        let valued = filter (has_values net) out in
        let mine : changed net journal p (first_number net m) (machine_signals net m) ≡ kept =
        changed_both net journal p (first_number net m) (snapshot_signals net m)
        (loss_signals net m)
        ∙ ap (λ (l : List Change). kept ++ l) lossless ∙ append-nil kept in
        let one : flat_map (emission_change o.outs) numbering.emissions
        ≡ changed net journal p n (emission_signals net) =
        ap (flat_map (emission_change o.outs)) stands.emissions
        ∙ emissions_changed net journal p m n s o out at fires in
        let two : flat_map (value_change o.outs values) numbering.values
        ≡ changed net journal p (n + length out) (value_signals net) =
        ap (flat_map (value_change o.outs values)) stands.values
        ∙ values_changed net journal p m (n + length out) s o values valued at fires are
        (filter_below (has_values net) (length net.events) out (out_below net)) in
        ap (λ (l : List Change). l
        ++ (flat_map (emission_change o.outs) numbering.emissions
        ++ flat_map (value_change o.outs values) numbering.values)) front
        ∙ ap (λ (l : List Change). kept
        ++ (l ++ flat_map (value_change o.outs values) numbering.values)) one
        ∙ ap (λ (l : List Change). kept ++ (changed net journal p n (emission_signals net) ++ l))
        two
        ∙ sym (append_assoc kept (changed net journal p n (emission_signals net))
        (changed net journal p (n + length out) (value_signals net)))
        ∙ ap (λ (l : List Change). (l ++ changed net journal p n (emission_signals net))
        ++ changed net journal p (n + length out) (value_signals net)) (sym mine)
        ∙ sym (all_changed net journal p m (Rea m s o) below at refl)
