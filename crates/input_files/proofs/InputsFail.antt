-- Where the network or the trace fails they aren't both accepted, and nothing is found of them.
use Rattle.std.proofs.Common.{◌≡◌, inl, inr, ◌≤◌, ◌<◌, ℕ, List, length, Option, Some, None, Ok, Err, IsTrue, sym, subst, arith}
use Rattle.polis_base.specs.declared.limits.TheConstants.{TEXT_MAX}
use Rattle.polis_base.specs.Host.{Files, bytes_at, WhereTold}
use Rattle.polis_base.specs.Tokens.{tokens_of}
use Rattle.polis_base.specs.declared.token.Token.{Token}
use Rattle.polis_base.specs.declared.token.LexError.{LexError}
use Rattle.transition_table.specs.declared.network.Network.{Network}
use Rattle.journals.specs.declared.entry.TraceItem.{TraceItem}
use Rattle.trace_text.specs.Traces.{trace_of}
use Rattle.polis_words.specs.declared.cause.Cause.{Cause}
use Rattle.polis_words.specs.declared.cause.Cause.TheVariants.{ReadFault as Unread, Absent, TooLong, Lex, Syntax, Rule, Conflict, TraceLine}
use Rattle.polis_words.specs.declared.cause.Failure.{Failure}
use Rattle.polis_words.specs.declared.cause.Failure.TheVariants as failures
use Rattle.polis_words.specs.declared.status.Status.TheVariants.{Refused}
use Rattle.polis_words.specs.Lines.{cause_status, lex_error}
use Rattle.input_files.specs.Accepted.{Accepted}
use Rattle.input_files.specs.Inputs.{HoldsText, HoldsNet, HoldsTrace, LoadFails, IsNetFault, IsTraceFault, NetFails, TraceFails, InputsFail}
use Rattle.input_files.specs.Failures.{is_finding, FileExplained, FilesExplained, NamesOneOf}
use Rattle.input_files.proofs.Holds.{no_break, one_text}
use Rattle.polis_base.proofs.WhereTold.{told_from, told_both}

absent : (held : Option (List ℕ)) (text : List ℕ) → held ≡ None → held ≡ Some text → ⊥
absent held text h k = cc

too_long : (held : Option (List ℕ)) (max : ℕ) (a b : List ℕ) → held ≡ Some a → held ≡ Some b
    → max < length a → length b ≤ max → ⊥
too_long held max a b h k above within =
    let same : b ≡ a = cc in
    let less : length a ≤ max = subst (λ (t : List ℕ). length t ≤ max) same within in
    omega arith

-- a file that isn't loaded isn't held within its limit
pub load_refused : (files : Files) (max : ℕ) (name text : List ℕ) (cause : Cause)
    → cause_status cause ≡ Refused → LoadFails files max name cause
    → HoldsText files max name text → ⊥
load_refused files max name text Absent s h k = absent (bytes_at files name) text h k.held
load_refused files max name text TooLong s h k =
    too_long (bytes_at files name) max h.0 text h.1 k.held h.2 k.within
load_refused files max name text Unread s h k = cc
load_refused files max name text other s h k = absurd h

other_tokens : (text : List ℕ) (tokens : List Token) (error : LexError) → tokens_of text ≡ Ok tokens
    → tokens_of text ≡ Err error → ⊥
other_tokens text tokens error read fault = cc

-- a text with a fault is no text of a network that is accepted
pub text_refused : (text : List ℕ) (net : Network) (cause : Cause) → cause_status cause ≡ Refused
    → IsNetFault text cause → Accepted text net → ⊥
text_refused text net (Lex kind place) s h a =
    other_tokens text a.0.1.tokens (lex_error kind place) a.0.1.read h
text_refused text net (Syntax place) s h a = no_break text a.0.0 place a.0.1 h
text_refused text net (Rule rule place) s h a = let none = a.0.2.0 in
    let some = h.2 a.0.0 a.0.1 in cc
text_refused text net (Conflict rows) s h a =
    let first = h.5 net a.0 in
    let found = first.conflict.conflict.conflict in
    found.differ (a.1 rows.machine first.machine first.there rows.row_a rows.row_b
    first.conflict.read found.order found.snapshot found.first found.second)
text_refused text net other s h a = absurd h

-- a network text that fails isn't accepted
pub net_refused : (files : Files) (name : List ℕ) (cause : Cause) (net : Network)
    → cause_status cause ≡ Refused → NetFails files name cause → HoldsNet files name net → ⊥
net_refused files name cause net s (inl h) k =
    load_refused files TEXT_MAX name k.text cause s h k.holds
net_refused files name cause net s (inr (text, holds, fault)) k =
    text_refused text net cause s fault
    (subst (λ (t : List ℕ). Accepted t net)
    (one_text (bytes_at files name) text k.text holds.held k.holds.held) k.accepted)

abbrev HoldsRead : Network → List ℕ → List TraceItem → Type 0
HoldsRead net text trace = trace_of net text ≡ Ok trace

line_refused : (net : Network) (text : List ℕ) (trace : List TraceItem) (cause : Cause)
    → cause_status cause ≡ Refused → IsTraceFault net text cause → HoldsRead net text trace → ⊥
line_refused net text trace (TraceLine line kind) s h k = cc
line_refused net text trace other s h k = absurd h

-- a trace text that fails isn't read
trace_refused : (files : Files) (net : Network) (name : List ℕ) (cause : Cause)
    (trace : List TraceItem) → cause_status cause ≡ Refused → TraceFails files net name cause
    → HoldsTrace files name net trace → ⊥
trace_refused files net name cause trace s (inl h) k =
    load_refused files TEXT_MAX name k.text cause s h k.holds
trace_refused files net name cause trace s (inr (text, holds, fault)) k =
    line_refused net text trace cause s fault
    (subst (λ (t : List ℕ). HoldsRead net t trace)
    (one_text (bytes_at files name) text k.text holds.held k.holds.held) k.read)

-- where the network or the trace fails they aren't both accepted
pub inputs_refused : (files : Files) (net_name trace_name name : List ℕ) (cause : Cause)
    (net : Network) (trace : List TraceItem) → cause_status cause ≡ Refused
    → InputsFail files net_name trace_name name cause → HoldsNet files net_name net
    → HoldsTrace files trace_name net trace → ⊥
inputs_refused files net_name trace_name name cause net trace s (inl h) holds_net holds_trace =
    net_refused files net_name cause net s h.1 holds_net
inputs_refused files net_name trace_name name cause net trace s (inr h) holds_net holds_trace =
    trace_refused files net trace_name cause trace s (h.3 net holds_net) holds_trace

-- nothing is found of a network or a trace that fails
pub load_unfound : (files : Files) (max : ℕ) (name : List ℕ) (cause : Cause)
    → IsTrue (is_finding (cause_status cause)) → LoadFails files max name cause → ⊥
load_unfound files max name Unread s h = cc
load_unfound files max name Absent s h = cc
load_unfound files max name TooLong s h = cc
load_unfound files max name other s h = absurd h

text_unfound : (text : List ℕ) (cause : Cause) → IsTrue (is_finding (cause_status cause))
    → IsNetFault text cause → ⊥
text_unfound text (Lex kind place) s h = cc
text_unfound text (Syntax place) s h = cc
text_unfound text (Rule rule place) s h = cc
text_unfound text (Conflict rows) s h = cc
text_unfound text other s h = absurd h

pub net_unfound : (files : Files) (name : List ℕ) (cause : Cause)
    → IsTrue (is_finding (cause_status cause)) → NetFails files name cause → ⊥
net_unfound files name cause s (inl h) = load_unfound files TEXT_MAX name cause s h
net_unfound files name cause s (inr (text, holds, fault)) = text_unfound text cause s fault

line_unfound : (net : Network) (text : List ℕ) (cause : Cause)
    → IsTrue (is_finding (cause_status cause)) → IsTraceFault net text cause → ⊥
line_unfound net text (TraceLine line kind) s h = cc
line_unfound net text other s h = absurd h

trace_unfound : (files : Files) (net : Network) (name : List ℕ) (cause : Cause)
    → IsTrue (is_finding (cause_status cause)) → TraceFails files net name cause → ⊥
trace_unfound files net name cause s (inl h) = load_unfound files TEXT_MAX name cause s h
trace_unfound files net name cause s (inr (text, holds, fault)) =
    line_unfound net text cause s fault

pub inputs_unfound : (files : Files) (net_name trace_name name : List ℕ) (cause : Cause)
    → IsTrue (is_finding (cause_status cause)) → InputsFail files net_name trace_name name cause → ⊥
inputs_unfound files net_name trace_name name cause s (inl h) =
    net_unfound files net_name cause s h.1
inputs_unfound files net_name trace_name name cause s (inr h) =
    trace_unfound files h.1 trace_name cause s (h.3 h.1 h.2)

-- ---- loads that fail
-- the network fails
pub net_failed : (o : Option Files) (net_name trace_name : List ℕ)
    (E : Option Files → List ℕ → Cause → List ℕ → Type 0) (failure : Failure)
    → FileExplained net_name o (λ files. NetFails files net_name) E failure
    → FilesExplained o (λ files. InputsFail files net_name trace_name) E failure
net_failed o net_name trace_name E failures.NoMemory h = tt
net_failed o net_name trace_name E (failures.File name cause more) (h, explains) = (
  (told_from o (λ files. NetFails files net_name cause) _ (λ files k. inl (h.0, k)) h.1, h.2),
  explains,
)

-- the trace fails, the network being accepted
pub trace_fails : (o : Option Files) (net_name trace_name name : List ℕ) (net : Network)
    (cause : Cause) → name ≡ trace_name
    → WhereTold o (λ files. HoldsNet files net_name net)
    → WhereTold o (λ files. (other : Network) → HoldsNet files net_name other → other ≡ net)
    → WhereTold o (λ files. TraceFails files net trace_name cause)
    → WhereTold o (λ files. InputsFail files net_name trace_name name cause)
trace_fails o net_name trace_name name net cause same held one fails =
    told_both o (λ files. HoldsNet files net_name net
    × ((other : Network) → HoldsNet files net_name other → other ≡ net))
    (λ files. TraceFails files net trace_name cause) _
    (λ files h f. inr (
      same,
      net,
      h.0,
      λ other k.
          subst (λ (n : Network). TraceFails files n trace_name cause) (sym (h.1 other k)) f,
    ))
    (told_both o (λ files. HoldsNet files net_name net) (λ files. (other : Network)
    → HoldsNet files net_name other → other ≡ net) _ (λ files a b. (a, b)) held one) fails

pub trace_failed : (o : Option Files) (net_name trace_name : List ℕ) (net : Network)
    (E : Option Files → List ℕ → Cause → List ℕ → Type 0) (failure : Failure)
    → WhereTold o (λ files. HoldsNet files net_name net)
    → WhereTold o (λ files. (other : Network) → HoldsNet files net_name other → other ≡ net)
    → FileExplained trace_name o (λ files. TraceFails files net trace_name) E failure
    → FilesExplained o (λ files. InputsFail files net_name trace_name) E failure
trace_failed o net_name trace_name net E failures.NoMemory held one h = tt
trace_failed o net_name trace_name net E (failures.File name cause more) held one (h, explains) =
    ((trace_fails o net_name trace_name name.now net cause h.0 held one h.1, h.2), explains)

-- which of them it is
pub first_named : (first second : List ℕ) (o : Option Files) (P : Files → Cause → Type 0)
    (E : Option Files → List ℕ → Cause → List ℕ → Type 0) (failure : Failure)
    → FileExplained first o P E failure → NamesOneOf first second failure
first_named first second o P E failures.NoMemory h = tt
first_named first second o P E (failures.File name cause more) (h, explains) = inl h.0

pub second_named : (first second : List ℕ) (o : Option Files) (P : Files → Cause → Type 0)
    (E : Option Files → List ℕ → Cause → List ℕ → Type 0) (failure : Failure)
    → FileExplained second o P E failure → NamesOneOf first second failure
second_named first second o P E failures.NoMemory h = tt
second_named first second o P E (failures.File name cause more) (h, explains) = inr h.0
