-- What the command that is asked for made, and why it made nothing.
use Rattle.std.proofs.Common.{◌≡◌, ◌⊎◌, inl, inr, ℕ, true, List, [], Option, Some, refl, sym, ap, subst, ◌∙◌, IsTrue}
use Rattle.polis_base.specs.Host.{Files, WhereTold}
use Rattle.polis_words.specs.declared.cause.Cause.{Cause}
use Rattle.polis_words.specs.declared.cause.Cause.TheVariants.{ReadFault as Unread, Absent, TooLong, Lex, Syntax, Rule, Conflict, TraceLine, JournalLine, Illegal as Unlawful, ImageByte, ImageShape, ImageWrong, ImageLong, OtherShape, Differ as TablesDiffer}
use Rattle.polis_words.specs.declared.cause.Failure.{Failure}
use Rattle.polis_words.specs.declared.cause.Failure.TheVariants as failures
use Rattle.polis_words.specs.declared.status.Status.{Status}
use Rattle.polis_words.specs.declared.status.Status.TheVariants.{ReadFault, Refused, NoMemory, Illegal}
use Rattle.polis_words.specs.Lines.{cause_status, status_of}
use Rattle.output_files.specs.declared.product.End.{End}
use Rattle.output_files.specs.declared.product.Product.{Product}
use Rattle.output_files.specs.Ends.{end_status}
use Rattle.output_files.specs.Products.{shows_and_ends, shows_only}
use Rattle.commands.specs.Meanings.{Meaning, MayEnd}
use Rattle.input_files.specs.Failures.{is_finding, is_failure, FileFails, FilesFail}
use Rattle.output_files.specs.Saves.{AreApart}
use Rattle.commands.specs.inner.Lawful.{IsLawful}
use Rattle.commands.specs.Made.{FailsAs, IsMadeProduct, IsMadeFailure}
use Rattle.polis_base.proofs.WhereTold.{told_from, told_always}

-- ---- products
-- a product that is known is made
pub product_made : (m : Meaning) (o : Option Files) (product known : Product) → product ≡ known
    → AreApart known.saves → IsTrue (m.ends (end_status known.end))
    → WhereTold o (λ files. m.makes files product) → IsMadeProduct m o product
product_made m o product known is apart ends makes = record {
  makes = makes;
  apart = subst (λ (p : Product). AreApart p.saves) (sym is) apart;
  ends = subst (λ (p : Product). IsTrue (m.ends (end_status p.end))) (sym is) ends;
}

-- a product that shows a text alone
pub product_is : (product : Product) (shown known : List ℕ) → product ≡ shows_only shown
    → shown ≡ known → product ≡ shows_only known
product_is product shown known is same = is ∙ ap shows_only same

-- and one that ends so
pub product_ends : (product : Product) (shown known : List ℕ) (end wanted : End)
    → product ≡ shows_and_ends shown end → shown ≡ known → end ≡ wanted
    → product ≡ shows_and_ends known wanted
product_ends product shown known end wanted is same ends =
    is ∙ (λ i. shows_and_ends (same i) (ends i))

-- ---- failures
pub may_fail : (m : Meaning) (status : Status) → m.reads ≡ true → IsTrue (is_failure true status)
    → MayEnd m status
may_fail m status reads h = inr (subst (λ b. IsTrue (is_failure b status)) (sym reads) h)

pub may_judge : (m : Meaning) (status : Status) → m.reads ≡ true → IsTrue (m.ends Illegal)
    → IsTrue (is_failure true status) ⊎ (status ≡ Illegal) → MayEnd m status
may_judge m status reads ends (inl e) = may_fail m status reads e
may_judge m status reads ends (inr e) =
    inl (subst (λ (s : Status). IsTrue (m.ends s)) (sym e) ends)

-- the command explains nothing
abbrev pub ExplainsNothing : Meaning → Type 0
ExplainsNothing m = (told : Option Files) (name : List ℕ) (cause : Cause)
    → m.explains told name cause []

-- what is shown of a cause that nothing explains
pub none_told : (m : Meaning) (o : Option Files) (name : List ℕ) (cause : Cause) (more : List ℕ)
    → ExplainsNothing m → more ≡ [] → m.explains o name cause more
none_told m o name cause more plain none =
    subst (λ (t : List ℕ). m.explains o name cause t) (sym none) (plain o name cause)

-- why a command that reads files makes nothing
pub files_failure : (m : Meaning) (o : Option Files) (P : Files → List ℕ → Cause → Type 0)
    (failure : Failure) → m.reads ≡ true → ExplainsNothing m
    → ((files : Files) (name : List ℕ) (cause : Cause) → P files name cause
    → m.fails files name cause)
    → FilesFail o P failure → IsMadeFailure m o failure
files_failure m o P failures.NoMemory reads plain f h = tt
files_failure m o P (failures.File name cause more) reads plain f (h, none) = (
  told_from o (λ files. P files name.now cause) (λ files. m.fails files name.now cause)
      (λ files. f files name.now cause) h.0,
  may_fail m (cause_status cause) reads h.1,
  none_told m o name.now cause more plain none,
)

-- files fail, and that for another reason
pub files_wider : (o : Option Files) (P Q : Files → List ℕ → Cause → Type 0) (failure : Failure)
    → ((files : Files) (name : List ℕ) (cause : Cause) → P files name cause
    → Q files name cause)
    → FilesFail o P failure → FilesFail o Q failure
files_wider o P Q failures.NoMemory f h = tt
files_wider o P Q (failures.File name cause more) f (h, none) = (
  (
    told_from o (λ files. P files name.now cause) (λ files. Q files name.now cause)
        (λ files. f files name.now cause) h.0,
    h.1,
  ),
  none,
)

-- the file that is named fails
pub named_fails : (o : Option Files) (named : Option (List ℕ))
    (P : Files → List ℕ → Cause → Type 0) (file : List ℕ) (failure : Failure)
    → named ≡ Some file → FileFails file o (λ files. P files file) failure
    → FilesFail o (λ files name cause. (named ≡ Some name) × P files name cause) failure
named_fails o named P file failures.NoMemory is h = tt
named_fails o named P file (failures.File name cause more) is (h, none) = (
  (
    told_from o (λ files. P files file cause) _
        (λ files k. subst (λ (f : List ℕ). (named ≡ Some f) × P files f cause) (sym h.0) (is, k))
        h.1,
    h.2,
  ),
  none,
)

-- what a failure is of the files, and with which statuses it ends the command
pub fails_as : (m : Meaning) (o : Option Files) (failure : Failure) → IsMadeFailure m o failure
    → WhereTold o (λ files. FailsAs m files failure)
fails_as m o failures.NoMemory h = told_always o (λ files. FailsAs m files failures.NoMemory)
    (λ files. tt)
fails_as m o (failures.File name cause more) h = h.0

pub failure_ends : (m : Meaning) (o : Option Files) (failure : Failure)
    → IsMadeFailure m o failure → MayEnd m (status_of failure)
failure_ends m o failures.NoMemory h = inr refl
failure_ends m o (failures.File name cause more) h = h.1

-- ---- what a failure says of the files
-- the statuses of failures
pub cases_of : (failure : Failure) → (status_of failure ≡ Refused) ⊎ (status_of failure ≡ ReadFault)
    ⊎ (status_of failure ≡ NoMemory) ⊎ IsTrue (is_finding (status_of failure))
cases_of failures.NoMemory = inr (inr (inl refl))
cases_of (failures.File name cause more) = of_cause cause
  where
    of_cause : (cause : Cause) → (cause_status cause ≡ Refused) ⊎ (cause_status cause ≡ ReadFault)
        ⊎ (cause_status cause ≡ NoMemory) ⊎ IsTrue (is_finding (cause_status cause))
    of_cause Unread = inr (inl refl)
    of_cause (Unlawful entry) = inr (inr (inr refl))
    of_cause Absent = inl refl
    of_cause TooLong = inl refl
    of_cause (Lex kind place) = inl refl
    of_cause (Syntax place) = inl refl
    of_cause (Rule rule place) = inl refl
    of_cause (Conflict rows) = inl refl
    of_cause (TraceLine line kind) = inl refl
    of_cause (JournalLine line kind) = inl refl
    of_cause (ImageByte place) = inl refl
    of_cause (ImageShape machine) = inl refl
    of_cause (ImageWrong text) = inl refl
    of_cause ImageLong = inl refl
    of_cause OtherShape = inl refl
    of_cause (TablesDiffer text) = inr (inr (inr refl))

-- files that are refused aren't accepted
pub refuses : (m : Meaning) → IsLawful m → (files : Files) (failure : Failure)
    → status_of failure ≡ Refused → FailsAs m files failure
    → ¬ m.accepts files
refuses m law files failures.NoMemory s h = cc
refuses m law files (failures.File name cause more) s h = law.refused files name.now cause h s

-- what was found is found of them
pub finds_it : (m : Meaning) → IsLawful m → (files : Files) (failure : Failure)
    → IsTrue (is_finding (status_of failure)) → FailsAs m files failure
    → m.finds (status_of failure) files
finds_it m law files failures.NoMemory s h = cc
finds_it m law files (failures.File name cause more) s h = law.found files name.now cause h s
