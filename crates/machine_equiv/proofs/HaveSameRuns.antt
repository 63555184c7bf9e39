-- Networks of one shape, no tables of which differ, have the same runs.
use Rattle.std.proofs.Common.{◌≡◌, ℕ, ◌<◌, Bool, true, false, ◌&&◌, cond, List, [], ◌∷◌, ◌++◌, map, filter, filter_map, flat_map, length, drop, slice_get, Option, Some, None, option_map, IsSomeAnd, replicate, nat_lt, refl, sym, ap, ◌∙◌, subst}
use Rattle.polis_base.specs.Lists.{upto, Begins, last_of}
use Rattle.domains.specs.Tables.{fits}
use Rattle.transition_table.specs.NetworkFacts.{has}
use Rattle.transition_table.specs.Transitions.{OfMachine, IsSnapshot, IsOutcome, Transition, blank}
use Rattle.transition_table.specs.declared.decl.Party.{Party}
use Rattle.transition_table.specs.declared.decl.Party.TheVariants.{Env, Machine as Sender}
use Rattle.transition_table.specs.declared.machine.Machine.{Machine}
use Rattle.transition_table.specs.declared.network.Network.{Network}
use Rattle.transition_table.specs.declared.snapshot.Outcome.{Outcome}
use Rattle.transition_table.specs.declared.snapshot.Snapshot.{Snapshot}
use Rattle.journals.specs.declared.entry.Entry.{Entry}
use Rattle.journals.specs.declared.entry.Entry.TheVariants.{Dep, Rea}
use Rattle.journals.specs.declared.entry.TraceItem.{TraceItem}
use Rattle.journals.specs.Journals.{FitsNetwork, IsJournal, inputs_of, states_of, initial, is_party, is_event_code, is_firing_of, event_of, emitted, emissions, buffered, value_given, snap, sent, delivered}
use Rattle.journals.specs.Legality.{MayFollow, MayGoOn, Legal, Complete}
use Rattle.journals.specs.Outputs.{outputs, goes_out}
use Rattle.machine_equiv.specs.Comparing.{SameTables}
use Rattle.machine_equiv.specs.Laws.{SameTablesSameRuns}
use Rattle.machine_equiv.specs.Shapes.{SameShape, SameForm}
use Rattle.polis_base.proofs.AgreeBelow.{at_place}
use Rattle.machine_equiv.proofs.SameForm.{same_event_code, same_goes_out, machines_long, same_inputs, same_outputs, same_states_long, same_initial, states_long, form_same}

pub turned_shape : (a b : Network) → SameShape a b → SameShape b a
turned_shape a b shape = record {
  events = record {
    names = sym shape.events.names;
    words = sym shape.events.words;
    senders = sym shape.events.senders;
    to_env = sym shape.events.to_env;
    receivers = sym shape.events.receivers;
  };
  machines = record {
    names = sym shape.machines.names;
    inputs = sym shape.machines.inputs;
    outputs = sym shape.machines.outputs;
    state_names = sym shape.machines.state_names;
    state_words = sym shape.machines.state_words;
    initial_values = sym shape.machines.initial_values;
  };
}

with_both : {X : Type 0} (P Q : X → Type 0) (o : Option X) → IsSomeAnd o P → IsSomeAnd o Q
    → IsSomeAnd o (λ x. P x × Q x)
with_both P Q None p q = p
with_both P Q (Some x) p q = (p, q)

module _ (a b : Network) (shape : SameShape a b) where
  -- ---- what was sent and emitted, and the snapshots

  same_emissions : (entry : Entry) → emissions a entry ≡ emissions b entry
  same_emissions (Dep from to event code) = refl
  same_emissions (Rea m s o) =
      ap (λ (events : List ℕ). cond o.fires (emitted events o.outs) []) (same_outputs a b shape m)

  all_emissions : emissions a ≡ emissions b
  all_emissions = λ i entry. same_emissions entry i

  pub same_sent : (trace : List TraceItem) (s : Party) (m : ℕ) (journal : List Entry)
      → sent a trace s m journal ≡ sent b trace s m journal
  same_sent trace Env m journal =
      ap (λ (inputs : List ℕ). filter (λ p. has inputs p.0) (filter_map event_of trace))
      (same_inputs a b shape m)
  same_sent trace (Sender s) m journal =
      ap (λ (inputs : List ℕ). filter (λ p. has inputs p.0)
      (flat_map (emissions a) (filter (is_firing_of s) journal))) (same_inputs a b shape m)
      ∙ ap (λ (emits : Entry → List (ℕ × ℕ)). filter (λ p. has (inputs_of b m) p.0)
      (flat_map emits (filter (is_firing_of s) journal))) all_emissions

  pub same_outs : (journal : List Entry) → outputs a journal ≡ outputs b journal
  same_outs journal =
      ap (λ (goes : ℕ → Bool). filter (λ (p : ℕ × ℕ). goes p.0) (flat_map (emissions a) journal))
      (λ i e. same_goes_out a b shape e i)
      ∙ ap (λ (emits : Entry → List (ℕ × ℕ)). filter (λ p. goes_out b p.0) (flat_map emits journal))
      all_emissions

  same_snap : (journal : List Entry) (m : ℕ) → snap a journal m ≡ snap b journal m
  same_snap journal m =
      ap (λ (inputs : List ℕ). codes inputs (initial a m) (length (states_of a m)))
      (same_inputs a b shape m)
      ∙ ap (λ (first : ℕ → ℕ). codes (inputs_of b m) first (length (states_of a m)))
      (λ i x. same_initial a b shape m x i)
      ∙ ap (codes (inputs_of b m) (initial b m)) (same_states_long a b shape m)
    where
      codes : List ℕ → (ℕ → ℕ) → ℕ → Snapshot
      codes inputs first n = record {
        codes = map (buffered journal m) inputs
            ++ map (λ x. last_of (first x) (filter_map (value_given m x) journal)) (upto n);
      }

  -- ---- facts of a machine by its number

  -- what holds of the one machine holds of the other
  of_machine : (m : ℕ) (P Q : Machine → Type 0)
      → ((x y : Machine) → slice_get a.machines m ≡ Some x → slice_get b.machines m ≡ Some y → P x
      → Q y)
      → OfMachine a m P → OfMachine b m Q
  of_machine m P Q carry =
      elim
      (slice_get a.machines m) as (λ (here : Option Machine). slice_get a.machines m ≡ here
      → IsSomeAnd here P → IsSomeAnd (slice_get b.machines m) Q) [
        | None ↦ λ is none. absurd none
        | Some x ↦ λ is holds. elim
            (slice_get b.machines m) as (λ (there : Option Machine). slice_get b.machines m ≡ there
            → IsSomeAnd there Q) [
              | None ↦ λ is_not. let names =
                  sym (ap (option_map (λ (machine : Machine). machine.name)) is)
                  ∙ at_place (λ (machine : Machine). machine.name) (λ machine. machine.name)
                  a.machines b.machines m shape.machines.names
                  ∙ ap (option_map (λ (machine : Machine). machine.name)) is_not in cc
              | Some y ↦ λ is_too. carry x y is is_too holds
            ] refl
      ] refl

  same_blank : (x y : Machine) → SameForm x y → length x.states ≡ length y.states
      → blank x ≡ blank y
  same_blank x y form states = λ i. record {
    fires = false;
    next = replicate (states i) 0;
    outs = replicate (length (form.outputs i)) 0;
  }

  fits_too : (x y : Machine) (s : Snapshot) (o : Outcome) → SameForm x y
      → length x.states ≡ length y.states → IsSnapshot x s × IsOutcome x o
      → IsSnapshot y s × IsOutcome y o
  fits_too x y s o form states (snapshot, outcome) = (
    subst (λ (vars : List ℕ). fits vars s.codes ≡ true) form.vars snapshot,
    record {
      widths = record {
        next = outcome.widths.next ∙ states;
        outs = outcome.widths.outs ∙ ap (λ (events : List ℕ). length events) form.outputs;
      };
      codes = subst (λ (sizes : List ℕ). fits (drop 1 sizes) (o.next ++ o.outs) ≡ true)
          form.results outcome.codes;
      idle = λ idle. outcome.idle idle ∙ same_blank x y form states;
    },
  )

  same_party_too : (s : Party) → is_party a s ≡ is_party b s
  same_party_too Env = refl
  same_party_too (Sender m) = ap (nat_lt m) (machines_long a b shape)

  fitting : (entry : Entry) → FitsNetwork a entry → FitsNetwork b entry
  fitting (Dep from to event code) h =
      sym (ap (λ x. x && nat_lt to (length a.machines) && is_event_code a event code)
      (same_party_too from)
      ∙ ap (λ n. is_party b from && nat_lt to n && is_event_code a event code)
      (machines_long a b shape)
      ∙ ap (λ x. is_party b from && nat_lt to (length b.machines) && x)
      (same_event_code a b shape event code)) ∙ h
  fitting (Rea m s o) h =
      of_machine m (λ x. IsSnapshot x s × IsOutcome x o) (λ y. IsSnapshot y s × IsOutcome y o)
      (λ x y here there. fits_too x y s o (form_same a b shape m x y here there)
      (states_long a b shape m x y here there)) h

  are_fitting : (journal : List Entry) → IsJournal a journal → IsJournal b journal
  are_fitting [] h = h
  are_fitting (entry ∷ entries) h = (fitting entry h.0, are_fitting entries h.1)

  -- ---- legal journals

  module _ (tables : SameTables a b) where
    following : (trace : List TraceItem) (journal : List Entry) (entry : Entry)
        → FitsNetwork a entry → MayFollow a trace journal entry → MayFollow b trace journal entry
    following trace journal (Dep s m event code) fit h =
        subst (Begins (delivered s m (journal ++ Dep s m event code ∷ [])))
        (same_sent trace s m journal) h
    following trace journal (Rea m s o) fit h = (
      h.0,
      h.1 ∙ same_snap journal m,
      of_machine m
          (λ x. (IsSnapshot x s × IsOutcome x o) × Transition x s o)
          (λ y. Transition y s o)
          (λ x y here there both. (tables m x y here there s o both.0.0).0 both.1)
          (with_both (λ x. IsSnapshot x s × IsOutcome x o) (λ x. Transition x s o)
          (slice_get a.machines m) fit h.2),
    )

    going_on : (trace : List TraceItem) (before entries : List Entry) → IsJournal a entries
        → MayGoOn a trace before entries → MayGoOn b trace before entries
    going_on trace before [] fit h = h
    going_on trace before (entry ∷ entries) fit h = (
      following trace before entry fit.0 h.0,
      going_on trace (before ++ entry ∷ []) entries fit.1 h.1,
    )

    pub legal_too : (trace : List TraceItem) (journal : List Entry) → Legal a trace journal
        → Legal b trace journal
    legal_too trace journal h = (are_fitting journal h.0, going_on trace [] journal h.0 h.1)

  pub complete_too : (trace : List TraceItem) (journal : List Entry) → Complete a trace journal
      → Complete b trace journal
  complete_too trace journal h = record {
    all_delivered = λ s m party low.
        h.all_delivered s m (same_party_too s ∙ party)
        (subst (λ n. m < n) (sym (machines_long a b shape)) low)
        ∙ same_sent trace s m journal;
    none_woken = λ m low. h.none_woken m (subst (λ n. m < n) (sym (machines_long a b shape)) low);
  }

-- the tables of two machines are the same either way round
turned_tables : (a b : Network) → SameShape a b → SameTables a b → SameTables b a
turned_tables a b shape tables k y x y_is x_is s o snapshot =
    let form = form_same a b shape k x y x_is y_is in
    let both =
    tables k x y x_is y_is s o
    (subst (λ (vars : List ℕ). fits vars s.codes ≡ true) (sym form.vars) snapshot) in
    (both.1, both.0)

pub same_runs : SameTablesSameRuns
same_runs a b shape tables = record {
  legal = λ trace journal. (
    legal_too a b shape tables trace journal,
    legal_too b a (turned_shape a b shape) (turned_tables a b shape tables) trace journal,
  );
  complete = λ trace journal. (
    complete_too a b shape trace journal,
    complete_too b a (turned_shape a b shape) trace journal,
  );
  outputs = same_outs a b shape;
}
