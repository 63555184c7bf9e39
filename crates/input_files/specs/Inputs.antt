-- What files hold, and why one isn't read or isn't accepted.
use Rattle.std.specs.Prelude.{◌≡◌, ◌⊎◌, ℕ, ◌<◌, ◌≤◌, List, length, Some, None, Ok, Err, ⊤}
use Rattle.polis_base.specs.declared.limits.TheConstants.{TEXT_MAX}
use Rattle.polis_base.specs.Host.{Files, bytes_at}
use Rattle.polis_base.specs.Tokens.{tokens_of}
use Rattle.net_reader.specs.declared.raw.RawNet.{RawNet}
use Rattle.net_reader.specs.Sentences.{HasNet, BreaksAt}
use Rattle.rule_judge.specs.Judged.{Breaks}
use Rattle.net_rules.specs.NetOf.{NetOf}
use Rattle.transition_table.specs.declared.network.Network.{Network}
use Rattle.journals.specs.declared.entry.TraceItem.{TraceItem}
use Rattle.trace_text.specs.declared.fault.TraceFault.TheVariants.{Line as FaultyLine}
use Rattle.trace_text.specs.Traces.{trace_of}
use Rattle.polis_words.specs.declared.cause.Cause.{Cause}
use Rattle.polis_words.specs.declared.cause.Cause.TheVariants.{ReadFault as Unread, Absent, TooLong, Lex, Syntax, Rule, Conflict, TraceLine}
use Rattle.polis_words.specs.Lines.{lex_error}
use Rattle.input_files.specs.Accepted.{Accepted, Declares, IsFirstConflict}
use Rattle.input_files.specs.Places.{StandThere}

-- a text of at most so many bytes is held under the name
pub record HoldsText (files : Files) (max : ℕ) (name text : List ℕ) : Type 0 where
  pub held : bytes_at files name ≡ Some text
  pub within : length text ≤ max

-- a network text is held under the name, within its limit, and accepted
pub record HoldsNet (files : Files) (name : List ℕ) (net : Network) : Type 0 where
  pub text : List ℕ
  pub holds : HoldsText files TEXT_MAX name text
  pub accepted : Accepted text net

-- the same, and these are its declarations
pub record HoldsDeclared (files : Files) (name : List ℕ) (raw : RawNet) (net : Network) :
    Type 0 where
  pub text : List ℕ
  pub holds : HoldsText files TEXT_MAX name text
  pub declares : Declares text raw net

-- a trace text of the network is held under the name, within its limit, and read
pub record HoldsTrace (files : Files) (name : List ℕ) (net : Network) (trace : List TraceItem) :
    Type 0 where
  pub text : List ℕ
  pub holds : HoldsText files TEXT_MAX name text
  pub read : trace_of net text ≡ Ok trace

-- Why a file isn't loaded: the load failed, nothing is held under the name, or more than so many
-- bytes are.
abbrev pub LoadFails : Files → ℕ → List ℕ → Cause → Type 0
LoadFails files max name Unread = ⊤
LoadFails files max name Absent = bytes_at files name ≡ None
LoadFails files max name TooLong =
    (text : List ℕ) × (bytes_at files name ≡ Some text) × (max < length text)
LoadFails files max name other = ⊥

-- What a network text says where this is why it isn't accepted: its tokens don't read, they are no
-- sentence, a rule is broken, or rows of a machine conflict.
abbrev pub IsNetFault : List ℕ → Cause → Type 0
IsNetFault text (Lex kind place) = tokens_of text ≡ Err (lex_error kind place)
IsNetFault text (Syntax place) = BreaksAt text place
IsNetFault text (Rule rule place) =
    (raw : RawNet) × HasNet text raw
    × ((other : RawNet) → HasNet text other → Breaks other rule place)
IsNetFault text (Conflict rows) =
    (raw : RawNet) × HasNet text raw × StandThere raw rows × (net : Network) × NetOf text net
    × ((other : Network) → NetOf text other → IsFirstConflict other rows)
IsNetFault text other = ⊥

-- what a trace text of the network says where this is why it isn't read: a line is at fault
abbrev pub IsTraceFault : Network → List ℕ → Cause → Type 0
IsTraceFault net text (TraceLine line kind) = trace_of net text ≡ Err (FaultyLine line kind)
IsTraceFault net text other = ⊥

-- why the network text of this name isn't loaded or isn't accepted
abbrev pub NetFails : Files → List ℕ → Cause → Type 0
NetFails files name cause = LoadFails files TEXT_MAX name cause
    ⊎ ((text : List ℕ) × HoldsText files TEXT_MAX name text × IsNetFault text cause)

-- why the trace text of this name isn't loaded or isn't read as one of the network
abbrev pub TraceFails : Files → Network → List ℕ → Cause → Type 0
TraceFails files net name cause = LoadFails files TEXT_MAX name cause
    ⊎ ((text : List ℕ) × HoldsText files TEXT_MAX name text × IsTraceFault net text cause)

-- Why one of a network text and a trace text of it fails. The network text comes first: the trace
-- is loaded only where it is accepted.
abbrev pub InputsFail : Files → List ℕ → List ℕ → List ℕ → Cause → Type 0
InputsFail files net_name trace_name name cause =
    ((name ≡ net_name) × NetFails files net_name cause)
    ⊎ ((name ≡ trace_name) × (net : Network) × HoldsNet files net_name net
    × ((other : Network) → HoldsNet files net_name other
    → TraceFails files other trace_name cause))

-- the network text of this name is held, within its limit, and accepted
abbrev pub AcceptsNet : List ℕ → Files → Type 0
AcceptsNet net_name files = (net : Network) × HoldsNet files net_name net

-- the network text and the trace text of these names are held, within their limit, and accepted
abbrev pub AcceptsInputs : List ℕ → List ℕ → Files → Type 0
AcceptsInputs net_name trace_name files = (net : Network) × (trace : List TraceItem)
    × HoldsNet files net_name net × HoldsTrace files trace_name net trace

-- why the file fails where a request has one, a network text of this name
abbrev pub OnlyNetFails : List ℕ → Files → List ℕ → Cause → Type 0
OnlyNetFails net_name files name cause = (name ≡ net_name) × NetFails files net_name cause
