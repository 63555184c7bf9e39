-- What loads leave of a host.
use Rattle.std.specs.Prelude.{◌≡◌, Bool, true, false, Result, Ok, Err}
use Rattle.polis_base.specs.Host.{CountsFault}
use Rattle.polis_base.specs.declared.host.Host.{Ghosts}
use Rattle.polis_words.specs.declared.cause.Cause.{Cause}
use Rattle.polis_words.specs.declared.cause.Cause.TheVariants.{ReadFault}
use Rattle.polis_words.specs.declared.cause.Failure.{Failure}
use Rattle.polis_words.specs.declared.cause.Failure.TheVariants as failures

-- the cause is a failed load
abbrev pub is_read_fault : Cause → Bool
is_read_fault ReadFault = true
is_read_fault other = false

-- the failure is a failed load
abbrev pub is_unread : Failure → Bool
is_unread failures.NoMemory = false
is_unread (failures.File name cause more) = is_read_fault cause

-- the answer is a failed load
abbrev pub fails_unread : {X : Type 0} → Result X Failure → Bool
fails_unread (Ok x) = false
fails_unread (Err failure) = is_unread failure

-- Only loads were made: the files, what is shown and the count of write faults are as they were,
-- and that of load faults rose where a load failed, and nowhere else.
pub record LeftByLoads {S : Type 0} (host : Ghosts S) (failed : Bool) (old new : S) : Type 0 where
  pub files : host.files new ≡ host.files old
  pub shown : host.shown new ≡ host.shown old
  pub load_faults : CountsFault failed (host.load_faults old) (host.load_faults new)
  pub write_faults : host.write_faults new ≡ host.write_faults old
