-- What a call of the program promises.
use Rattle.std.specs.Prelude.{◌≡◌, ◌⊎◌, ℕ, Bool, true, false, List, ◌++◌, Option, codes}
use Rattle.polis_base.specs.Lines.{line}
use Rattle.polis_base.specs.Host.{Files, bytes_at, Changes, WhereTold}
use Rattle.polis_words.specs.declared.requests.Request.{Request}
use Rattle.polis_words.specs.declared.cause.Cause.{Cause}
use Rattle.polis_words.specs.declared.status.Status.{Status}
use Rattle.polis_words.specs.declared.status.Status.TheVariants.{Usage, ReadFault, Refused, NoMemory, Illegal, Differ}
use Rattle.polis_words.specs.Requests.{Asks}
use Rattle.polis_words.specs.Lines.{cause_status, cause_line}
use Rattle.output_files.specs.declared.product.Product.{Product}
use Rattle.polis_cli.specs.Commands.{meaning}
use Rattle.output_files.specs.Ends.{end_status}
use Rattle.output_files.specs.Saves.{IsOther, AreHeld, MadeSome}
use Rattle.output_files.specs.Shown.{ShowsPrefix}
use Rattle.output_files.specs.Writing.{FailsToWrite}

-- A product was made of the files and written: each of its texts is held under its name, every
-- other name holds what it held, and its text was shown.
pub record MadeAndWritten (status : Status) (words : List (List ℕ)) (before now : Files)
    (shown_before shown_now : Option (List ℕ)) : Type 0 where
  pub request : Request
  pub asked : Asks words request
  pub product : Product
  pub made : (meaning request).makes before product
  pub ends : status ≡ end_status product.end
  pub saved : AreHeld now product.saves
  pub other_names : (name : List ℕ) → IsOther name product.saves
      → bytes_at now name ≡ bytes_at before name
  pub shown : Changes shown_before shown_now (λ old new. new ≡ old ++ product.shown)

-- What is held where memory ran out: the files as they were, or some of the saves of one product,
-- from the first on in order.
abbrev pub SavesSome : List (List ℕ) → Files → Files → Type 0
SavesSome words before now =
    (now ≡ before)
    ⊎ ((request : Request) × (product : Product) × Asks words request
    × (meaning request).makes before product × MadeSome product.saves before now)

-- One product was made of what the files held, and writing it failed.
pub record LeavesUnwritten (words : List (List ℕ)) (rose : Type 0) (before now : Option Files)
    (shown_before shown_now : Option (List ℕ)) : Type 0 where
  pub request : Request
  pub asked : Asks words request
  pub product : Product
  pub made : WhereTold before (λ files. (meaning request).makes files product)
  pub fails : FailsToWrite product rose before now shown_before shown_now

-- the status is one of those that leave the files as they were
abbrev pub is_refusal : Status → Bool
is_refusal Usage = true
is_refusal ReadFault = true
is_refusal Refused = true
is_refusal Illegal = true
is_refusal Differ = true
is_refusal other = false

-- The text is the line of a file that isn't read or isn't accepted, or of which something is found,
-- with this status, and the files say so; after it comes what the command explains.
pub record HasCause (status : Status) (words : List (List ℕ)) (before : Option Files)
    (text : List ℕ) : Type 0 where
  pub request : Request
  pub asked : Asks words request
  pub name : List ℕ
  pub cause : Cause
  pub more : List ℕ
  pub status_is : cause_status cause ≡ status
  pub text_is : text ≡ line (cause_line name cause) ++ more
  pub fails : WhereTold before (λ files. (meaning request).fails files name cause)
  pub explains : (meaning request).explains before name cause more

-- the text is that of the status, and says why
abbrev pub IsTextOf : Status → List (List ℕ) → Option Files → List ℕ → Type 0
IsTextOf Usage words before text = text ≡ line (codes "usage")
IsTextOf ReadFault words before text = HasCause ReadFault words before text
IsTextOf Refused words before text = HasCause Refused words before text
IsTextOf Illegal words before text = HasCause Illegal words before text
IsTextOf Differ words before text = HasCause Differ words before text
IsTextOf NoMemory words before text = text ≡ line (codes "no memory")
IsTextOf other words before text = ⊥

-- the text of the status was shown, or a prefix of it
abbrev pub ShowsText : Status → List (List ℕ) → Option Files → Type 0 → List ℕ → List ℕ → Type 0
ShowsText status words before rose old new =
    (text : List ℕ) × IsTextOf status words before text × ShowsPrefix text rose old new
