-- What an entry changes, said of what is kept beside a journal: the snapshot of the entry's machine
-- before it, and the values that were last emitted.
use Rattle.std.specs.Prelude.{◌≡◌, ℕ, ◌+◌, ◌<◌, ◌^◌, cond, not, ◌&&◌, ◌==◌, List, [], ◌∷◌, ◌++◌, filter, filter_map, flat_map, length, position, slice_get, slice_index, Option, Some, None}
use Rattle.std.specs.Bool.{then_some}
use Rattle.std.specs.List.{All, enumerate_from}
use Rattle.polis_base.specs.Lists.{last_of}
use Rattle.transition_table.specs.declared.machine.Machine.{Machine}
use Rattle.transition_table.specs.declared.network.Network.{Network}
use Rattle.journals.specs.declared.entry.Entry.{Entry}
use Rattle.journals.specs.declared.entry.Entry.TheVariants.{Dep, Rea}
use Rattle.journals.specs.Journals.{emitted, outputs_of}
use Rattle.journals.specs.Moved.{codes_after}
use Rattle.wave_text.specs.Signals.{has_values, last_emitted, out_events, first_number}
use Rattle.wave_text.specs.declared.signal.Change.{Change}
use Rattle.wave_text.specs.declared.change.OutSignal.{OutSignal}
use Rattle.wave_text.specs.declared.change.Numbering.{Numbering}

-- a change of a code, and one that happens
abbrev pub becomes : ℕ → ℕ → Change
becomes k code = record { signal = k; code = Some code }

abbrev pub happens : ℕ → Change
happens k = record { signal = k; code = None }

-- a change for each code that differs, the signals being numbered from n on
abbrev pub code_changes : ℕ → List ℕ → List ℕ → List Change
code_changes n [] after = []
code_changes n (a ∷ before) [] = []
code_changes n (a ∷ before) (b ∷ after) =
    cond (a == b) (code_changes (n + 1) before after)
    (becomes n b ∷ code_changes (n + 1) before after)

-- the loss in the buffer of e, where its input is present
abbrev pub loss_changes : ℕ → List ℕ → ℕ → List ℕ → List Change
loss_changes n [] e before = []
loss_changes n (x ∷ inputs) e [] = []
loss_changes n (x ∷ inputs) e (code ∷ before) =
    cond (e == x && not (code == 0)) (happens n ∷ loss_changes (n + 1) inputs e before)
    (loss_changes (n + 1) inputs e before)

-- the emission that these codes of the outputs make
abbrev pub emission_change : List ℕ → OutSignal → List Change
emission_change outs out =
    cond (not (slice_index outs out.output == 0)) (happens out.signal ∷ []) []

-- the value that they change
abbrev pub value_change : List ℕ → List ℕ → OutSignal → List Change
value_change outs values out =
    let code = slice_index outs out.output in
    cond (not (code == 0) && not (slice_index values out.event == code))
    (becomes out.signal code ∷ []) []

-- the signal of an event with this place among the outputs, if it has one
abbrev pub out_signal_at : ℕ → ℕ → Option ℕ → List OutSignal
out_signal_at k e None = []
out_signal_at k e (Some y) = record { signal = k; output = y; event = e } ∷ []

-- the signals of events, numbered from n on, that a machine with these outputs emits
abbrev pub out_signals : List ℕ → ℕ → List ℕ → List OutSignal
out_signals outputs n events =
    flat_map (λ (k, e). out_signal_at k e (position (λ output. output == e) outputs))
    (enumerate_from n events)

-- all that the entry changes, in order of the signals
abbrev pub entry_changes : Machine → Numbering → List ℕ → List ℕ → Entry → List Change
entry_changes machine numbering before values (Dep s m e c) =
    code_changes numbering.first before (codes_after machine (Dep s m e c) before)
    ++ loss_changes (numbering.first + length before) machine.inputs e before
entry_changes machine numbering before values (Rea m s o) =
    code_changes numbering.first before (codes_after machine (Rea m s o) before)
    ++ cond o.fires
    (flat_map (emission_change o.outs) numbering.emissions
    ++ flat_map (value_change o.outs values) numbering.values) []

-- where the signals of machine m, and those that show its outputs, stand among those of the network
pub record IsNumbering (net : Network) (m : ℕ) (numbering : Numbering) : Type 0 where
  pub first : numbering.first ≡ first_number net m
  pub emissions :
      numbering.emissions
      ≡ out_signals (outputs_of net m) (first_number net (length net.machines)) (out_events net)
  pub values :
      numbering.values
      ≡ out_signals (outputs_of net m)
      (first_number net (length net.machines) + length (out_events net))
      (filter (has_values net) (out_events net))

-- so it is of each machine
pub record AreNumberings (net : Network) (numberings : List Numbering) : Type 0 where
  pub many : length numberings ≡ length net.machines
  pub each : (m : ℕ) (s : Numbering) → slice_get numberings m ≡ Some s → IsNumbering net m s

-- what is numbered has room, and speaks of outputs of the machine and of so many events
pub record Shows (machine : Machine) (numbering : Numbering) (events : ℕ) : Type 0 where
  pub room :
      numbering.first + length machine.inputs + length machine.states + length machine.inputs
      < 2 ^ 64
  pub emissions : All (λ out. out.output < length machine.outputs) numbering.emissions
  pub values : All (λ out. out.output < length machine.outputs) numbering.values
  pub value_events : All (λ out. out.event < events) numbering.values
  pub outputs : All (λ e. e < events) machine.outputs

-- for each event the code with which it was last emitted
pub record AreValues (net : Network) (journal : List Entry) (values : List ℕ) : Type 0 where
  pub many : length values ≡ length net.events
  pub each :
      (e : ℕ) → e < length net.events → slice_index values e ≡ last_emitted net journal e

-- the codes of an event among emissions
abbrev pub codes_emitted : ℕ → List (ℕ × ℕ) → List ℕ
codes_emitted e list = filter_map (λ (x, code). then_some (x == e) code) list

-- the code with which an event was last emitted after an entry of a machine with these outputs
abbrev pub value_after : List ℕ → Entry → ℕ → ℕ → ℕ
value_after outputs (Dep s m event c) before e = before
value_after outputs (Rea m s o) before e =
    cond o.fires
    (last_of before (codes_emitted e (emitted outputs o.outs)))
    before
