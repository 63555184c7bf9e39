-- The steps of a walk over a journal.
use Rattle.std.specs.Prelude.{◌≡◌, ℕ, zero, suc, ◌+◌, ◌^◌, ◌<◌, ◌≤◌, Bool, true, false, cond, filter, not, ◌&&◌, ◌==◌, nat_lt, List, [], ◌∷◌, ◌++◌, flat_map, length, take, position, slice_get, slice_index, Option, Some, None}
use Rattle.std.specs.List.{All, list_all, position_or_len}
use Rattle.std.proofs.Common.{refl, sym, ap, ◌∙◌, subst, arith, get_or, set, add-one}
use Rattle.std.proofs.lemmas.List.{append-nil, append_assoc, length-append}
use Rattle.std.proofs.lemmas.Bool.{and_parts, ltb-true}
use Rattle.std.proofs.lemmas.Option.{slice_get_within, cond_some, slice_get-get_or}
use Rattle.polis_base.specs.Lists.{upto, last_of}
use Rattle.transition_table.specs.declared.machine.Machine.{Machine}
use Rattle.transition_table.specs.declared.network.Network.{Network}
use Rattle.transition_table.specs.declared.snapshot.Snapshot.{Snapshot}
use Rattle.journals.specs.declared.entry.Entry.{Entry}
use Rattle.journals.specs.declared.entry.Entry.TheVariants.{Dep, Rea}
use Rattle.journals.specs.Journals.{emissions, emitted, outputs_of, snap}
use Rattle.journals.proofs.MomentsAfter.{snap_after, moments_after}
use Rattle.journals.proofs.Emitted.{output_is_event, outputs_of_machine}
use Rattle.journals.specs.Moved.{codes_after, machine_of, moments_of}
use Rattle.wave_text.specs.inner.Changing.{AreValues, IsNumbering, Shows, codes_emitted, entry_changes, value_after, out_signals, out_signal_at}
use Rattle.wave_text.specs.Signals.{changes_at, has_values, out_events, emission_signals, snapshot_signals, last_emitted, loss_signals, signals, machine_signals, value_signals, first_number}
use Rattle.wave_text.specs.Waves.{moment_lines, moment_text}
use Rattle.wave_text.specs.declared.change.OutSignal.{OutSignal}
use Rattle.wave_text.specs.declared.change.Numbering.{Numbering}
use Rattle.wave_text.specs.declared.signal.Change.{Change}
use Rattle.wave_text.proofs.EntryChanges.{changes_are, filter_below, last_more, out_below}
use Rattle.wave_text.proofs.MachineSignals.{loss_signals_many, snapshot_signals_many, states_of_machine}
use Rattle.event_accounts.proofs.InputsOf.{inputs_of_machine}
use Rattle.journals.proofs.EntriesAt.{prefix_more}
use Rattle.wave_text.proofs.Played.{signals_split}
use Rattle.wave_text.proofs.CodesEmitted.{last_both}
use Rattle.polis_base.proofs.Places.{flat_map_push}

-- ---- the tables

value_after_is : (net : Network) (journal : List Entry) (x : Entry) (machine : Machine) (e : ℕ)
    → slice_get net.machines (machine_of x) ≡ Some machine
    → value_after machine.outputs x (last_emitted net journal e) e
    ≡ last_emitted net (journal ++ x ∷ []) e
value_after_is net journal (Dep s m event c) machine e there =
    sym (last_more net journal (Dep s m event c) e
    ∙ ap (last_of 0) (append-nil (codes_emitted e (flat_map (emissions net) journal))))
value_after_is net journal (Rea m s o) machine e there = cases o.fires refl
  where
    before : List ℕ
    before = codes_emitted e (flat_map (emissions net) journal)

    cases : (b : Bool) → o.fires ≡ b
        → cond b (last_of (last_emitted net journal e)
        (codes_emitted e (emitted machine.outputs o.outs)))
        (last_emitted net journal e)
        ≡ last_emitted net (journal ++ Rea m s o ∷ []) e
    cases true fires =
        let given : emissions net (Rea m s o) ≡ emitted machine.outputs o.outs =
        rw fires (ap (λ (l : List ℕ). emitted l o.outs) (outputs_of_machine net m machine there)) in
        sym (last_more net journal (Rea m s o) e
        ∙ ap (λ (l : List (ℕ × ℕ)). last_of 0
        (codes_emitted e (flat_map (emissions net) journal) ++ codes_emitted e l)) given
        ∙ last_both 0 (codes_emitted e (flat_map (emissions net) journal))
        (codes_emitted e (emitted machine.outputs o.outs)))
    cases false idle =
        let none : emissions net (Rea m s o) ≡ [] = rw idle refl in
        sym (last_more net journal (Rea m s o) e
        ∙ ap (λ (l : List (ℕ × ℕ)). last_of 0
        (codes_emitted e (flat_map (emissions net) journal) ++ codes_emitted e l)) none
        ∙ ap (last_of 0) (append-nil (codes_emitted e (flat_map (emissions net) journal))))

pub values_next : (net : Network) (journal : List Entry) (x : Entry) (machine : Machine)
    (old new : List ℕ) → slice_get net.machines (machine_of x) ≡ Some machine
    → AreValues net journal old → length new ≡ length old
    → ((e : ℕ) → e < length old → slice_index new e
    ≡ value_after machine.outputs x (slice_index old e) e)
    → AreValues net (journal ++ x ∷ []) new
values_next net journal x machine old new there are many each = record {
  many = many ∙ are.many;
  each = λ e below.
      each e (let h = are.many in omega arith)
      ∙ ap (λ (n : ℕ). value_after machine.outputs x n e) (are.each e below)
      ∙ value_after_is net journal x machine e there;
}

-- ---- what machines send

place_within : (e y : ℕ) (outputs : List ℕ) → position (λ output. output == e) outputs ≡ Some y
    → y < length outputs
place_within e y outputs at =
    let n = position_or_len (λ output. output == e) outputs in
    let parts = cond_some (nat_lt n (length outputs)) n y at in
    subst (λ (k : ℕ). k < length outputs) parts.1 (ltb-true n (length outputs) parts.0)

pub out_signals_outputs : (outputs : List ℕ) (n : ℕ) (es : List ℕ) (k : ℕ) (d : OutSignal)
    → k < length (out_signals outputs n es)
    → (get_or (out_signals outputs n es) k d).output < length outputs
out_signals_outputs outputs n [] k d below = absurd (omega arith)
out_signals_outputs outputs n (e ∷ es) k d below =
    cases (position (λ output. output == e) outputs) refl k below
    (out_signals_outputs outputs (n + 1) es)
  where
    cases : (o : Option ℕ) → position (λ output. output == e) outputs ≡ o → (k : ℕ)
        → k < length (out_signal_at n e o ++ out_signals outputs (n + 1) es)
        → ((k : ℕ) (d : OutSignal) → k < length (out_signals outputs (n + 1) es)
        → (get_or (out_signals outputs (n + 1) es) k d).output < length outputs)
        → (get_or (out_signal_at n e o ++ out_signals outputs (n + 1) es) k d).output
        < length outputs
    cases None at k inside rest = rest k d inside
    cases (Some y) at zero inside rest = place_within e y outputs at
    cases (Some y) at (suc k) inside rest = rest k d (omega arith)

pub out_signals_events : (outputs : List ℕ) (n bound : ℕ) (es : List ℕ) (k : ℕ) (d : OutSignal)
    → list_all (λ e. nat_lt e bound) es ≡ true
    → k < length (out_signals outputs n es) → (get_or (out_signals outputs n es) k d).event < bound
out_signals_events outputs n bound [] k d all below = absurd (omega arith)
out_signals_events outputs n bound (e ∷ es) k d all below =
    let parts = and_parts (nat_lt e bound) (list_all (λ e. nat_lt e bound) es) all in
    cases (position (λ output. output == e) outputs) k below (ltb-true e bound parts.0)
    (λ k d h. out_signals_events outputs (n + 1) bound es k d parts.1 h)
  where
    cases : (o : Option ℕ) → (k : ℕ)
        → k < length (out_signal_at n e o ++ out_signals outputs (n + 1) es) → e < bound
        → ((k : ℕ) (d : OutSignal) → k < length (out_signals outputs (n + 1) es)
        → (get_or (out_signals outputs (n + 1) es) k d).event < bound)
        → (get_or (out_signal_at n e o ++ out_signals outputs (n + 1) es) k d).event < bound
    cases None k inside here rest = rest k d inside
    cases (Some y) zero inside here rest = here
    cases (Some y) (suc k) inside here rest = rest k d (omega arith)

pub outputs_within : (net : Network) (m : ℕ) (machine : Machine) (k d : ℕ)
    → slice_get net.machines m ≡ Some machine → k < length machine.outputs
    → get_or machine.outputs k d < length net.events
outputs_within net m machine k d at below =
    output_is_event net m machine k (get_or machine.outputs k d) at
    (slice_get-get_or machine.outputs k d below)

-- ---- where a machine's signals end

pub signals_within : (net : Network) (m : ℕ) → m < length net.machines
    → first_number net m + length (snapshot_signals net m) + length (loss_signals net m)
    ≤ length (signals net)
signals_within net m below =
    let split = signals_split net m below in
    let front = flat_map (machine_signals net) (upto m) in
    let a = ap length split.1 in
    let b = length-append front (machine_signals net m ++ split.0) in
    let c = length-append (machine_signals net m) split.0 in
    let d = length-append (snapshot_signals net m) (loss_signals net m) in
    omega arith

-- what take_entry wants of a machine's numbering
pub shows : (net : Network) (m : ℕ) (machine : Machine) (numbering : Numbering) (count : ℕ)
    → slice_get net.machines m ≡ Some machine → IsNumbering net m numbering
    → length (signals net) < 2 ^ 64 → count ≡ length net.events → Shows machine numbering count
shows net m machine numbering count at stands few many =
    let outputs = outputs_of_machine net m machine at in
    let n = first_number net (length net.machines) in
    let es = filter (has_values net) (out_events net) in
    record {
      room =
          (let end = signals_within net m (slice_get_within net.machines m machine at) in
          let kept = snapshot_signals_many net m in
          let losses = loss_signals_many net m in
          let inputs = ap length (inputs_of_machine net m machine at) in
          let states = ap length (states_of_machine net m machine at) in
          let first = stands.first in
          omega arith);
      emissions = subst (All (λ out. out.output < length machine.outputs)) (sym stands.emissions)
          (λ k d inside.
          subst (λ (l : List ℕ).
          (get_or (out_signals (outputs_of net m) n (out_events net)) k d).output < length l)
          outputs (out_signals_outputs (outputs_of net m) n (out_events net) k d inside));
      values = subst (All (λ out. out.output < length machine.outputs)) (sym stands.values)
          (λ k d inside.
          subst (λ (l : List ℕ).
          (get_or (out_signals (outputs_of net m) (n + length (out_events net)) es) k d).output
          < length l)
          outputs
          (out_signals_outputs (outputs_of net m) (n + length (out_events net)) es k d inside));
      value_events = subst (All (λ out. out.event < count)) (sym stands.values)
          (λ k d inside.
          subst (λ (b : ℕ).
          (get_or (out_signals (outputs_of net m) (n + length (out_events net)) es) k d).event < b)
          (sym many)
          (out_signals_events (outputs_of net m) (n + length (out_events net)) (length net.events)
          es k d (filter_below (has_values net) (length net.events) (out_events net)
          (out_below net)) inside));
      outputs = λ k d inside.
          subst (λ (b : ℕ). get_or machine.outputs k d < b) (sym many)
          (outputs_within net m machine k d at inside);
    }

-- ---- one entry

pub moment_next : (net : Network) (j : List Entry) (p : ℕ) (x : Entry)
    (machine : Machine) (old new : Snapshot) → slice_get j p ≡ Some x
    → slice_get net.machines (machine_of x) ≡ Some machine
    → old ≡ snap net (take p j) (machine_of x)
    → new.codes ≡ codes_after machine x old.codes
    → new ≡ snap net (take (p + 1) j) (machine_of x)
moment_next net j p x machine old new at there was made =
    snap_after net machine (take p j) x new old there was made
    ∙ ap (λ (l : List Entry). snap net l (machine_of x)) (sym (prefix_more j p x at))

pub changes_next : (net : Network) (j : List Entry) (p : ℕ) (x : Entry)
    (machine : Machine) (numbering : Numbering) (old new : Snapshot) (values : List ℕ)
    (changes : List Change) → slice_get j p ≡ Some x
    → slice_get net.machines (machine_of x) ≡ Some machine
    → IsNumbering net (machine_of x) numbering
    → old ≡ snap net (take p j) (machine_of x)
    → new.codes ≡ codes_after machine x old.codes → AreValues net (take p j) values
    → changes ≡ entry_changes machine numbering old.codes values x → changes ≡ changes_at net j p
changes_next net j p x machine numbering old new values changes at there stands was made are is =
    is
    ∙ changes_are net j p x machine numbering old.codes values at there stands
    (ap (λ (s : Snapshot). s.codes) was)
    (sym made ∙ ap (λ (s : Snapshot). s.codes)
    (moment_next net j p x machine old new at there was made))
    are

pub moments_next : (net : Network) (j : List Entry) (p m : ℕ)
    (x : Entry) (machine : Machine) (old new : Snapshot) (moments : List Snapshot)
    → slice_get j p ≡ Some x → slice_get net.machines (machine_of x) ≡ Some machine
    → m ≡ machine_of x → old ≡ snap net (take p j) (machine_of x)
    → new.codes ≡ codes_after machine x old.codes → moments ≡ moments_of net (take p j)
    → set moments m new ≡ moments_of net (take (p + 1) j)
moments_next net j p m x machine old new moments at there own was made are =
    ap (λ (l : List Snapshot). set l m new) are
    ∙ ap (λ (k : ℕ). set (moments_of net (take p j)) k new) own
    ∙ moments_after net (take p j) x new
    (slice_get_within net.machines (machine_of x) machine there)
    (snap_after net machine (take p j) x new old there was made)
    ∙ ap (moments_of net) (sym (prefix_more j p x at))

pub written_next : (net : Network) (j : List Entry) (p len : ℕ) (changes : List Change)
    (start old new : List ℕ) → changes ≡ changes_at net j p → len ≡ length j
    → old ≡ start ++ flat_map (moment_text net j) (upto p)
    → new ≡ old ++ cond (length changes == 0 && not (p + 1 == len)) []
    (moment_lines net (p + 1) changes)
    → new ≡ start ++ flat_map (moment_text net j) (upto (p + 1))
written_next net j p len changes start old new is size were made =
    made
    ∙ ap (λ (l : List Change). old ++ cond (length l == 0 && not (p + 1 == len)) []
    (moment_lines net (p + 1) l)) is
    ∙ ap (λ (n : ℕ). old ++ cond (length (changes_at net j p) == 0 && not (p + 1 == n)) []
    (moment_lines net (p + 1) (changes_at net j p))) size
    ∙ ap (λ (l : List ℕ). l ++ moment_text net j p) were
    ∙ append_assoc start (flat_map (moment_text net j) (upto p)) (moment_text net j p)
    ∙ ap (λ (l : List ℕ). start ++ l) (sym (flat_map_push (moment_text net j) (upto p) p))
    ∙ ap (λ (n : ℕ). start ++ flat_map (moment_text net j) (upto n)) (sym (add-one p))

pub all_within : (net : Network)
    → first_number net (length net.machines) + length (emission_signals net)
    + length (value_signals net)
    ≡ length (signals net)
all_within net =
    let machines = flat_map (machine_signals net) (upto (length net.machines)) in
    let a = length-append (machines ++ emission_signals net) (value_signals net) in
    let b = length-append machines (emission_signals net) in
    omega arith
