-- What each call of the program promises.
use Rattle.std.specs.Prelude.{◌≡◌, ◌≢◌, ◌⊎◌, ℕ, false, List, Option, IsTrue}
use Rattle.polis_base.specs.Host.{Files, Changes, Rose, WhereTold}
use Rattle.polis_base.specs.declared.host.Host.{Ghosts}
use Rattle.polis_words.specs.declared.requests.Request.{Request}
use Rattle.polis_words.specs.declared.status.Status.{Status}
use Rattle.polis_words.specs.declared.status.Status.TheVariants.{Usage, ReadFault, Refused, WriteFault, NoMemory}
use Rattle.polis_words.specs.Requests.{Asks, AsksNothing}
use Rattle.commands.specs.Meanings.{Meaning, MayEnd}
use Rattle.input_files.specs.Failures.{is_finding}
use Rattle.polis_cli.specs.Commands.{meaning}
use Rattle.output_files.specs.Ends.{is_end}
use Rattle.polis_cli.specs.Top.{MadeAndWritten, SavesSome, LeavesUnwritten, ShowsText, is_refusal}

-- what a host tells at a moment, and its counts of faults
pub record Outside : Type 0 where
  pub files : Option Files
  pub shown : Option (List ℕ)
  pub load_faults : ℕ
  pub write_faults : ℕ

-- what a host tells at this moment
abbrev pub told : {S : Type 0} → Ghosts S → S → Outside
told host s = record {
  files = host.files s;
  shown = host.shown s;
  load_faults = host.load_faults s;
  write_faults = host.write_faults s;
}

-- the count of write faults rose
abbrev pub WriteFailed : Outside → Outside → Type 0
WriteFailed old new = Rose old.write_faults new.write_faults

-- Done, Limit and Found: a product was made and written, and no fault came.
pub record Ended (status : Status) (words : List (List ℕ)) (old new : Outside) : Type 0 where
  pub made : Changes old.files new.files
      (λ before now. MadeAndWritten status words before now old.shown new.shown)
  pub asked : (request : Request) × Asks words request
  pub load_faults : new.load_faults ≡ old.load_faults
  pub write_faults : new.write_faults ≡ old.write_faults

-- P of what the command line asks for and of the files, where they are told
abbrev pub OfRequest : List (List ℕ) → Outside → (Meaning → Files → Type 0) → Type 0
OfRequest words old P = WhereTold old.files (λ before. (request : Request) → Asks words request
    → P (meaning request) before)

-- a failed load and running out of memory, by which a call may end in place of another status
abbrev pub IsCut : Status → Type 0
IsCut status = (status ≡ ReadFault) ⊎ (status ≡ NoMemory)

-- The status of a call, and when it comes.
pub record Answers (status : Status) (words : List (List ℕ)) (old new : Outside) : Type 0 where
  pub ended : IsTrue (is_end status) → Ended status words old new
  -- Usage exactly where the command line has no request's form, unless memory runs out.
  pub usage_only : status ≡ Usage → AsksNothing words
  pub usage_there : AsksNothing words → (status ≡ Usage) ⊎ (status ≡ NoMemory)
  -- A fault only where its count rose in this call, and a failed load ends the call.
  pub read_fault : status ≡ ReadFault → Rose old.load_faults new.load_faults
  pub no_read_fault : status ≢ ReadFault → status ≢ NoMemory → new.load_faults ≡ old.load_faults
  pub write_fault : status ≡ WriteFault → WriteFailed old new
  -- Refused exactly where a file isn't held, is too long or isn't accepted, or what the command
  -- would save is too long, but for a failed load and running out of memory.
  pub refused_only : status ≡ Refused → OfRequest words old (λ m before. ¬ m.accepts before)
  pub refused_there : OfRequest words old (λ m before. ¬ m.accepts before
      → (status ≡ Refused) ⊎ IsCut status)
  -- Illegal, as each status of a finding, exactly where that is found of the files, but for a
  -- failed load and running out of memory.
  pub found_only : IsTrue (is_finding status)
      → OfRequest words old (λ m before. m.finds status before)
  pub found_there : (finding : Status) → OfRequest words old (λ m before. m.finds finding before
      → (status ≡ finding) ⊎ IsCut status)
  -- Where its files are accepted a request ends with one of its statuses, but for a fault and
  -- running out of memory.
  pub done_there : OfRequest words old (λ m before. m.accepts before
      → IsTrue (m.ends status) ⊎ (status ≡ WriteFault) ⊎ IsCut status)
  -- Whatever the host tells, the status is one of those, or that of a failure: one that reads no
  -- file fails by a fault of writing or by running out of memory alone.
  pub ends : (request : Request) → Asks words request → MayEnd (meaning request) status

-- What a call leaves and shows.
pub record Leaves (status : Status) (words : List (List ℕ)) (old new : Outside) : Type 0 where
  -- A refusal leaves the files as they were. Where memory ran out some saves of a product may be
  -- held, from the first on.
  pub kept : IsTrue (is_refusal status) → new.files ≡ old.files
  pub some : status ≡ NoMemory → Changes old.files new.files (SavesSome words)
  -- Where writing failed, what was saved before is held, and the line of what failed was shown, or
  -- a prefix of it.
  pub unwritten : status ≡ WriteFault → LeavesUnwritten words (WriteFailed old new) old.files
      new.files old.shown new.shown
  -- Any other status shows its text, or a prefix of it.
  pub text : is_end status ≡ false → status ≢ WriteFault
      → Changes old.shown new.shown (ShowsText status words old.files (WriteFailed old new))
