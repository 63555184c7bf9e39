-- Why a file isn't loaded or its text is refused, and what explains it.
use Rattle.std.proofs.Common.{◌≡◌, inr, ℕ, Bool, true, false, List, [], Option, Result, Ok, Err, IfOk, IsTrue, refl, sym, subst}
use Rattle.polis_base.specs.declared.limits.TheConstants.{LONG_FILE_MAX, TEXT_MAX}
use Rattle.polis_base.specs.Host.{Files, WhereTold, CountsFault, LeftByLoad, load_failed}
use Rattle.polis_base.specs.declared.NoMemory.{NoMemory}
use Rattle.polis_base.specs.declared.host.Host.{Ghosts}
use Rattle.polis_base.specs.declared.host.Load.{Load}
use Rattle.transition_table.specs.declared.network.Network.{Network}
use Rattle.journals.specs.declared.entry.TraceItem.{TraceItem}
use Rattle.journal_text.specs.declared.fault.JournalFault.TheVariants.{Line as FaultyLine}
use Rattle.journal_text.specs.declared.fault.JournalKind.{JournalKind}
use Rattle.journal_text.specs.Reading.{read_of}
use Rattle.trace_text.specs.declared.fault.TraceKind.{TraceKind}
use Rattle.polis_words.specs.declared.cause.Cause.{Cause}
use Rattle.polis_words.specs.declared.cause.Cause.TheVariants.{ReadFault as Unread, Absent, TooLong, TraceLine, JournalLine}
use Rattle.polis_words.specs.declared.cause.Failure.{Failure}
use Rattle.polis_words.specs.declared.cause.Failure.TheVariants as failures
use Rattle.polis_words.specs.declared.status.Status.TheVariants.{Refused}
use Rattle.polis_words.specs.Lines.{cause_status}
use Rattle.input_files.specs.declared.load.Detail.{Detail}
use Rattle.input_files.specs.declared.load.Detail.TheVariants as details
use Rattle.input_files.specs.Explanations.{IsExplained, ExplainsFile}
use Rattle.input_files.specs.Inputs.{HoldsText, IsTraceFault, TraceFails}
use Rattle.input_files.specs.JournalFiles.{JournalFails}
use Rattle.input_files.specs.Failures.{is_failure, FileExplained}
use Rattle.input_files.specs.Details.{IsFailureOf, explains_in}
use Rattle.input_files.specs.Loads.{LeftByLoads, is_read_fault, is_unread}
use Rattle.polis_base.proofs.WhereTold.{told_from}

-- the file fails, by the failure of it
pub refused_so : (name : List ℕ) (o : Option Files) (P : Files → Cause → Type 0)
    (E : Option Files → List ℕ → Cause → List ℕ → Type 0) (cause : Cause)
    (explanation : Result (List ℕ) NoMemory) (failure : Failure)
    → IsFailureOf name cause explanation failure
    → (name ≡ name) × WhereTold o (λ files. P files cause)
    × IsTrue (is_failure true (cause_status cause))
    → IfOk explanation (E o name cause) → FileExplained name o P E failure
refused_so name o P E cause (Ok more) failures.NoMemory is fails explains = absurd is
refused_so name o P E cause (Ok more) (failures.File file why shown) (f, w, s) fails explains =
    rw (f, w, s) (fails, explains)
refused_so name o P E cause (Err ran_out) failures.NoMemory is fails explains = tt
refused_so name o P E cause (Err ran_out) (failures.File file why shown) is fails explains =
    absurd is

-- a line of a trace text is at fault
pub trace_faulty : (o : Option Files) (net : Network) (name text : List ℕ) (line : ℕ)
    (kind : TraceKind) → WhereTold o (λ files. HoldsText files TEXT_MAX name text)
    → IsTraceFault net text (TraceLine line kind)
    → (name ≡ name) × WhereTold o (λ files. TraceFails files net name (TraceLine line kind))
    × IsTrue (is_failure true (cause_status (TraceLine line kind)))
trace_faulty o net name text line kind held fault = (
  refl,
  told_from o (λ files. HoldsText files TEXT_MAX name text) _
      (λ files h. inr (text, h, fault)) held,
  refl,
)

-- a line of a journal text is
pub journal_faulty : (o : Option Files) (net : Network) (name text : List ℕ) (line : ℕ)
    (kind : JournalKind) → WhereTold o (λ files. HoldsText files LONG_FILE_MAX name text)
    → read_of net text ≡ Err (FaultyLine line kind)
    → (name ≡ name) × WhereTold o (λ files. (trace : List TraceItem)
    → JournalFails files net trace name (JournalLine line kind))
    × IsTrue (is_failure true (cause_status (JournalLine line kind)))
journal_faulty o net name text line kind held fault = (
  refl,
  told_from o (λ files. HoldsText files LONG_FILE_MAX name text) _
      (λ files h trace. inr (text, h, fault)) held,
  refl,
)

-- ---- what loading leaves
-- only loads were made
pub left_loaded : {S : Type 0} {host : Ghosts S} {old new : S} (answer : Load) (failed : Bool)
    → LeftByLoad host.files host.shown host.load_faults host.write_faults answer old new
    → load_failed answer ≡ failed → LeftByLoads host failed old new
left_loaded {host = host} {old = old} {new = new} answer failed left same = record {
  files = left.same_files;
  shown = left.same_shown;
  load_faults =
      subst (λ (b : Bool). CountsFault b (host.load_faults old) (host.load_faults new)) same
      left.counted;
  write_faults = left.same_faults;
}

-- the failure isn't that of a load, where the cause isn't
pub unread_is : (name : List ℕ) (cause : Cause) (explanation : Result (List ℕ) NoMemory)
    (failure : Failure) → IsFailureOf name cause explanation failure
    → is_read_fault cause ≡ false → is_unread failure ≡ false
unread_is name cause (Ok more) failures.NoMemory is read = refl
unread_is name cause (Ok more) (failures.File file why shown) (f, w, s) read = rw w read
unread_is name cause (Err ran_out) failures.NoMemory is read = refl
unread_is name cause (Err ran_out) (failures.File file why shown) is read = absurd is

pub left_read : {S : Type 0} {host : Ghosts S} {old new : S} (failure : Failure)
    → is_unread failure ≡ false → LeftByLoads host false old new
    → LeftByLoads host (is_unread failure) old new
left_read {host = host} {old = old} {new = new} failure read left =
    subst (λ (b : Bool). LeftByLoads host b old new) (sym read) left

pub left_refused : {S : Type 0} {host : Ghosts S} {old new : S} (name : List ℕ) (cause : Cause)
    (explanation : Result (List ℕ) NoMemory) (failure : Failure)
    → IsFailureOf name cause explanation failure → is_read_fault cause ≡ false
    → LeftByLoads host false old new → LeftByLoads host (is_unread failure) old new
left_refused name cause explanation failure is read left =
    left_read failure (unread_is name cause explanation failure is read) left

-- and where a load failed it is
unread_so : (name more : List ℕ) (failure : Failure) → IsFailureOf name Unread (Ok more) failure
    → is_unread failure ≡ true
unread_so name more failures.NoMemory is = absurd is
unread_so name more (failures.File file why shown) (f, w, s) = rw w refl

pub left_unread : {S : Type 0} {host : Ghosts S} {old new : S} (name more : List ℕ)
    (failure : Failure) → IsFailureOf name Unread (Ok more) failure
    → LeftByLoads host true old new → LeftByLoads host (is_unread failure) old new
left_unread {host = host} {old = old} {new = new} name more failure is left =
    subst (λ (b : Bool). LeftByLoads host b old new) (sym (unread_so name more failure is)) left

-- a refusal isn't a load that failed
pub read_refused : (cause : Cause) → cause_status cause ≡ Refused → is_read_fault cause ≡ false
read_refused Unread s = cc
read_refused other s = refl

-- ---- what explains it
-- nothing, where the cause alone is asked for
pub cause_alone : (detail : Detail) (max : ℕ) (o : Option Files) (name : List ℕ) (cause : Cause)
    (explanation : Result (List ℕ) NoMemory) (none : List ℕ) → detail ≡ details.Cause
    → explanation ≡ Ok none → none ≡ []
    → IfOk explanation (explains_in detail max o name cause)
cause_alone detail max o name cause explanation none d e n = rw (d, e, n) refl

-- what the files explain, where that is asked for
pub cause_explained : (detail : Detail) (max : ℕ) (o : Option Files) (name : List ℕ)
    (cause : Cause) (explanation made : Result (List ℕ) NoMemory) → detail ≡ details.Explained
    → explanation ≡ made → IfOk made (ExplainsFile max o name cause)
    → IfOk explanation (explains_in detail max o name cause)
cause_explained detail max o name cause explanation made d e h = rw (d, e) h

-- a load that failed, in any detail
pub unread_explained : (detail : Detail) (max : ℕ) (o : Option Files) (name more : List ℕ)
    → more ≡ [] → explains_in detail max o name Unread more
unread_explained details.Cause max o name more none = none
unread_explained details.Explained max o name more none = none

-- a text is held, and this explains what is wrong with it
pub text_explained : (o : Option Files) (max : ℕ) (name text : List ℕ) (cause : Cause)
    (made : Result (List ℕ) NoMemory) → WhereTold o (λ files. HoldsText files max name text)
    → IfOk made (λ more. IsExplained name text cause more)
    → IfOk made (ExplainsFile max o name cause)
text_explained o max name text cause (Err ran_out) held explains = tt
text_explained o max name text cause (Ok more) held explains = of_cause cause explains
  where
    of_cause : (cause : Cause) → IsExplained name text cause more
        → ExplainsFile max o name cause more
    of_cause Unread e = absurd e
    of_cause Absent e = absurd e
    of_cause TooLong e = absurd e
    of_cause other e = (text, held, e)
