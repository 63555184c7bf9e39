-- What each call of the program promises, from what its parts give.
use Rattle.std.proofs.Common.{◌≡◌, ◌≢◌, ◌⊎◌, inl, inr, IsTrue, ℕ, Bool, false, true, List, ◌++◌, Option, Ok, Err, refl, sym, ap, subst, ◌∙◌, codes}
use Rattle.std.specs.Prelude.{Result}
use Rattle.polis_base.specs.Lines.{line}
use Rattle.polis_base.specs.Host.{Files, bytes_at, CountsFault, Rose, WhereTold, Changes}
use Rattle.polis_base.specs.declared.host.Host.{Ghosts}
use Rattle.polis_words.specs.declared.cause.Cause.{Cause}
use Rattle.polis_words.specs.declared.cause.Cause.TheVariants.{ReadFault as Unread}
use Rattle.polis_words.specs.declared.cause.Failure.{Failure}
use Rattle.polis_words.specs.declared.cause.Failure.TheVariants as failures
use Rattle.polis_words.specs.declared.requests.Request.{Request}
use Rattle.polis_words.specs.declared.status.Status.{Status}
use Rattle.polis_words.specs.declared.status.Status.TheVariants.{Usage, ReadFault, Refused, WriteFault, NoMemory, Illegal, Differ}
use Rattle.polis_words.specs.Requests.{Asks, AsksNothing}
use Rattle.polis_words.specs.Lines.{cause_status, status_of, cause_line, failure_text}
use Rattle.output_files.specs.declared.product.End.{End}
use Rattle.output_files.specs.declared.product.End.TheVariants as ends
use Rattle.output_files.specs.declared.product.Product.{Product}
use Rattle.polis_cli.specs.Commands.{meaning}
use Rattle.output_files.specs.Ends.{end_status, is_end}
use Rattle.commands.specs.Meanings.{Meaning, MayEnd}
use Rattle.input_files.specs.Failures.{is_finding}
use Rattle.output_files.specs.Saves.{AreHeld, MadeSome, files_after}
use Rattle.output_files.specs.Shown.{ShowsPrefix}
use Rattle.polis_cli.specs.Top.{MadeAndWritten, SavesSome, LeavesUnwritten, HasCause, IsTextOf, ShowsText, is_refusal}
use Rattle.polis_cli.specs.Promise.{told, WriteFailed, IsCut, Answers, Leaves}
use Rattle.polis_cli.specs.inner.Left.{LeftByEnding}
use Rattle.output_files.specs.Written.{LeftByText, LeftByWriting, ShowsFailure, Writes, FailsWith, no_memory_line}
use Rattle.input_files.specs.Loads.{LeftByLoads, fails_unread, is_read_fault, is_unread}
use Rattle.commands.specs.Made.{FailsAs, IsMade, IsMadeProduct, IsMadeFailure}
use Rattle.commands.proofs.IsMade.{fails_as, failure_ends, cases_of, refuses, finds_it}
use Rattle.polis_cli.proofs.Meaning.{lawful}
use Rattle.output_files.proofs.Saves.{held_other, all_held}
use Rattle.polis_base.proofs.WhereTold.{told_from, told_always, changes_from, changes_where, changes_same}

-- the request is the one that the command line asks for
abbrev pub IsOne : List (List ℕ) → Request → Type 0
IsOne words request = (other : Request) → Asks words other → other ≡ request

-- what holds of its meaning, and of the files, holds of what is asked for
of_request : (o : Option Files) (words : List (List ℕ)) (request : Request)
    (P : Files → Type 0) (Q : Meaning → Files → Type 0) → IsOne words request
    → ((files : Files) → P files → Q (meaning request) files) → WhereTold o P
    → WhereTold o (λ files. (other : Request) → Asks words other → Q (meaning other) files)
of_request o words request P Q one f h =
    told_from o P (λ files. (other : Request) → Asks words other → Q (meaning other) files)
    (λ files p other asks. subst (λ (r : Request). Q (meaning r) files) (sym (one other asks))
    (f files p)) h

-- what holds of a request holds of each request of the same command line
of_other : (words : List (List ℕ)) (request other : Request) (P : Request → Type 0)
    → IsOne words request → P request → Asks words other → P other
of_other words request other P one holds asks = subst P (sym (one other asks)) holds

-- ---- the statuses
-- a status is one of a product, one of a finding, or one of the others
is_other : Status → Bool
is_other ReadFault = true
is_other Refused = true
is_other NoMemory = true
is_other Illegal = true
is_other Differ = true
is_other other = false

failure_other : (failure : Failure) → is_other (status_of failure) ≡ true
unfolding is_other
failure_other failure = by_case (cases_of failure)
  where
    finding : (status : Status) → IsTrue (is_finding status) → is_other status ≡ true
    finding Illegal h = refl
    finding Differ h = refl
    finding other h = cc

    by_case : (status_of failure ≡ Refused) ⊎ (status_of failure ≡ ReadFault)
        ⊎ (status_of failure ≡ NoMemory) ⊎ IsTrue (is_finding (status_of failure))
        → is_other (status_of failure) ≡ true
    by_case (inl e) = ap is_other e
    by_case (inr (inl e)) = ap is_other e
    by_case (inr (inr (inl e))) = ap is_other e
    by_case (inr (inr (inr e))) = finding (status_of failure) e

status_other : (failure : Failure) (status : Status)
    → (status ≡ status_of failure) ⊎ (status ≡ NoMemory) → is_other status ≡ true
unfolding is_other
status_other failure status (inl e) = ap is_other e ∙ failure_other failure
status_other failure status (inr e) = ap is_other e

-- a status that is none of these isn't that of a failure
no_failure : (status other : Status) → is_other status ≡ true → is_other other ≡ false
    → status ≢ other
no_failure status other fails none same = let h = sym fails ∙ ap is_other same ∙ none in cc

other_ends : (status : Status) → is_other status ≡ true → is_end status ≡ false
unfolding is_other
other_ends ReadFault h = refl
other_ends Refused h = refl
other_ends NoMemory h = refl
other_ends Illegal h = refl
other_ends Differ h = refl
other_ends other h = cc

-- a product's status is one of a product
end_ends : (end : End) → is_end (end_status end) ≡ true
end_ends ends.Done = refl
end_ends ends.Limit = refl
end_ends ends.Found = refl

-- a status of a product is none of a finding
end_finds : (end : End) → is_finding (end_status end) ≡ false
end_finds ends.Done = refl
end_finds ends.Limit = refl
end_finds ends.Found = refl

-- ---- where nothing was made
abbrev pub HasStatus : Failure → Status → Type 0
HasStatus failure status = (status ≡ status_of failure) ⊎ (status ≡ NoMemory)

module _ (o : Option Files) (words : List (List ℕ)) (request : Request) (failure : Failure)
    (status : Status) (made : IsMadeFailure (meaning request) o failure)
    (one : IsOne words request) (s : HasStatus failure status) where
  pub failing : WhereTold o (λ files. FailsAs (meaning request) files failure)
  failing = fails_as (meaning request) o failure made

  -- what failed is why it is refused
  pub refused_only : status ≡ Refused
      → WhereTold o (λ files. (other : Request) → Asks words other
      → ¬ (meaning other).accepts files)
  refused_only is = by_case s
    where
      by_case : HasStatus failure status → WhereTold o (λ files. (other : Request)
          → Asks words other → ¬ (meaning other).accepts files)
      by_case (inl e) =
          of_request o words request (λ files. FailsAs (meaning request) files failure)
          (λ m files. ¬ m.accepts files) one
          (λ files h. refuses (meaning request) (lawful request) files failure (sym e ∙ is) h)
          failing
      by_case (inr e) = let h = sym e ∙ is in cc

  -- files that aren't accepted are refused, but for a failed load and running out of memory
  pub refused_there : WhereTold o (λ files. (other : Request) → Asks words other
      → ¬ (meaning other).accepts files
      → (status ≡ Refused) ⊎ (status ≡ ReadFault) ⊎ (status ≡ NoMemory))
  refused_there =
      of_request o words request (λ files. FailsAs (meaning request) files failure)
      (λ m files. ¬ m.accepts files → (status ≡ Refused) ⊎ (status ≡ ReadFault)
      ⊎ (status ≡ NoMemory)) one (λ files h none. by_case files h none (cases_of failure) s) failing
    where
      by_case : (files : Files) → FailsAs (meaning request) files failure
          → (¬ (meaning request).accepts files)
          → (status_of failure ≡ Refused) ⊎ (status_of failure ≡ ReadFault)
          ⊎ (status_of failure ≡ NoMemory) ⊎ IsTrue (is_finding (status_of failure))
          → HasStatus failure status
          → (status ≡ Refused) ⊎ (status ≡ ReadFault) ⊎ (status ≡ NoMemory)
      by_case files h none which (inr wanting) = inr (inr wanting)
      by_case files h none (inl e) (inl is) = inl (is ∙ e)
      by_case files h none (inr (inl e)) (inl is) = inr (inl (is ∙ e))
      by_case files h none (inr (inr (inl e))) (inl is) = inr (inr (is ∙ e))
      by_case files h none (inr (inr (inr e))) (inl is) =
          absurd (none ((lawful request).found_accepts files (status_of failure)
          (finds_it (meaning request) (lawful request) files failure e h)))

  -- what was found is found of the files
  pub found_only : IsTrue (is_finding status)
      → WhereTold o (λ files. (other : Request) → Asks words other
      → (meaning other).finds status files)
  found_only is = by_case s
    where
      by_case : HasStatus failure status → WhereTold o (λ files. (other : Request)
          → Asks words other → (meaning other).finds status files)
      by_case (inl e) =
          of_request o words request (λ files. FailsAs (meaning request) files failure)
          (λ m files. m.finds status files) one
          (λ files h. subst (λ (t : Status). (meaning request).finds t files) (sym e)
          (finds_it (meaning request) (lawful request) files failure
          (subst (λ (t : Status). IsTrue (is_finding t)) e is) h)) failing
      by_case (inr e) = let h = sym is ∙ ap is_finding e in cc

  -- files of which something is found are accepted, and aren't refused
  unfound : (files : Files) (finding : Status) → (meaning request).finds finding files
      → ¬ ¬ (meaning request).accepts files
  unfound files finding found none = none ((lawful request).found_accepts files finding found)

  -- where something is found of files no other file fails
  pub found_there : (finding : Status) → WhereTold o (λ files. (other : Request) → Asks words other
      → (meaning other).finds finding files
      → (status ≡ finding) ⊎ (status ≡ ReadFault) ⊎ (status ≡ NoMemory))
  found_there finding =
      of_request o words request (λ files. FailsAs (meaning request) files failure)
      (λ m files. m.finds finding files → (status ≡ finding) ⊎ (status ≡ ReadFault)
      ⊎ (status ≡ NoMemory)) one
      (λ files h found. by_case files h found (cases_of failure) s) failing
    where
      by_case : (files : Files) → FailsAs (meaning request) files failure
          → (meaning request).finds finding files
          → (status_of failure ≡ Refused) ⊎ (status_of failure ≡ ReadFault)
          ⊎ (status_of failure ≡ NoMemory) ⊎ IsTrue (is_finding (status_of failure))
          → HasStatus failure status
          → (status ≡ finding) ⊎ (status ≡ ReadFault) ⊎ (status ≡ NoMemory)
      by_case files h found which (inr wanting) = inr (inr wanting)
      by_case files h found (inl e) (inl is) =
          absurd (unfound files finding found
          (refuses (meaning request) (lawful request) files failure e h))
      by_case files h found (inr (inl e)) (inl is) = inr (inl (is ∙ e))
      by_case files h found (inr (inr (inl e))) (inl is) = inr (inr (is ∙ e))
      by_case files h found (inr (inr (inr e))) (inl is) =
          inl (is ∙ (lawful request).found_once files (status_of failure) finding
          (finds_it (meaning request) (lawful request) files failure e h) found)

  -- files that are accepted aren't what failed
  pub failed_there : WhereTold o (λ files. (other : Request) → Asks words other
      → (meaning other).accepts files
      → IsTrue ((meaning other).ends status) ⊎ (status ≡ WriteFault) ⊎ (status ≡ ReadFault)
      ⊎ (status ≡ NoMemory))
  failed_there =
      of_request o words request (λ files. FailsAs (meaning request) files failure)
      (λ m files. m.accepts files → IsTrue (m.ends status) ⊎ (status ≡ WriteFault)
      ⊎ (status ≡ ReadFault) ⊎ (status ≡ NoMemory)) one
      (λ files h all. by_case files h all (cases_of failure) s) failing
    where
      by_case : (files : Files) → FailsAs (meaning request) files failure
          → (meaning request).accepts files
          → (status_of failure ≡ Refused) ⊎ (status_of failure ≡ ReadFault)
          ⊎ (status_of failure ≡ NoMemory) ⊎ IsTrue (is_finding (status_of failure))
          → HasStatus failure status
          → IsTrue ((meaning request).ends status) ⊎ (status ≡ WriteFault) ⊎ (status ≡ ReadFault)
          ⊎ (status ≡ NoMemory)
      by_case files h all which (inr wanting) = inr (inr (inr wanting))
      by_case files h all (inl e) (inl is) =
          absurd (refuses (meaning request) (lawful request) files failure e h all)
      by_case files h all (inr (inl e)) (inl is) = inr (inr (inl (is ∙ e)))
      by_case files h all (inr (inr (inl e))) (inl is) = inr (inr (inr (is ∙ e)))
      by_case files h all (inr (inr (inr e))) (inl is) =
          inl (subst (λ (t : Status). IsTrue ((meaning request).ends t)) (sym is)
          ((lawful request).found_ends files (status_of failure)
          (finds_it (meaning request) (lawful request) files failure e h)))

  -- the status is one with which what is asked for may end
  pub failed_ends : MayEnd (meaning request) status
  failed_ends = by_case s
    where
      by_case : HasStatus failure status → MayEnd (meaning request) status
      by_case (inl e) = subst (λ (t : Status). MayEnd (meaning request) t) (sym e)
          (failure_ends (meaning request) o failure made)
      by_case (inr e) = subst (λ (t : Status). MayEnd (meaning request) t) (sym e) (inr refl)

-- only a failed load is a read fault
unread_is : (failure : Failure) → status_of failure ≡ ReadFault → is_unread failure ≡ true
unread_is failures.NoMemory e = cc
unread_is (failures.File name cause more) e = of_cause cause e
  where
    of_cause : (cause : Cause) → cause_status cause ≡ ReadFault → is_read_fault cause ≡ true
    of_cause Unread e = refl
    of_cause other e = cc

unread_status : (failure : Failure) → is_unread failure ≡ true → status_of failure ≡ ReadFault
unread_status failures.NoMemory e = cc
unread_status (failures.File name cause more) e = of_cause cause e
  where
    of_cause : (cause : Cause) → is_read_fault cause ≡ true → cause_status cause ≡ ReadFault
    of_cause Unread e = refl
    of_cause other e = cc

-- a failed load raised the count, and nothing else did
counted_true : (b : Bool) (before now : ℕ) → b ≡ true → CountsFault b before now → Rose before now
counted_true true before now e counted = counted.1
counted_true false before now e counted = cc

counted_false : (b : Bool) (before now : ℕ) → b ≢ true → CountsFault b before now → now ≡ before
counted_false true before now e counted = absurd (e refl)
counted_false false before now e counted = counted

-- what the line is of is the status
status_with : (failure : Failure) (status : Status) (text : List ℕ)
    → FailsWith failure status text → HasStatus failure status
status_with failure status text (inl (is, same)) = inl is
status_with failure status text (inr (is, same)) = inr is

failed_answers : {S : Type 0} (host : Ghosts S) (a b c : S) (words : List (List ℕ))
    (request : Request) (failure : Failure) (status : Status)
    → Asks words request → IsOne words request
    → IsMadeFailure (meaning request) (host.files a) failure
    → LeftByLoads host (is_unread failure) a b → ShowsFailure host failure status b c
    → Answers status words (told host a) (told host c)
unfolding is_other
failed_answers host a b c words request failure status asks one made left (text, with, shown) =
    let o = host.files a in
    let s = status_with failure status text with in
    let other = status_other failure status s in
    let counted = rw (sym shown.load_faults) at left.load_faults in
    record {
      ended = λ end. let h = sym (other_ends status other) ∙ end in cc;
      usage_only = λ e. absurd (no_failure status Usage other refl e);
      usage_there = λ nothing. absurd (nothing request asks);
      read_fault = λ e. counted_true (is_unread failure) _ _ (unread_is failure (read e s)) counted;
      no_read_fault = λ no_fault no_want.
          counted_false (is_unread failure) _ _ (other_cause no_fault no_want s) counted;
      write_fault = λ e. absurd (no_failure status WriteFault other refl e);
      refused_only = refused_only o words request failure status made one s;
      refused_there = refused_there o words request failure status made one s;
      found_only = found_only o words request failure status made one s;
      found_there = found_there o words request failure status made one s;
      done_there = failed_there o words request failure status made one s;
      ends = λ asked asks_it. of_other words request asked
          (λ (r : Request). MayEnd (meaning r) status) one
          (failed_ends o words request failure status made one s) asks_it;
    }
  where
    read : status ≡ ReadFault → HasStatus failure status → status_of failure ≡ ReadFault
    read e (inl is) = sym is ∙ e
    read e (inr wanting) = let h = sym wanting ∙ e in cc

    other_cause : status ≢ ReadFault → status ≢ NoMemory → HasStatus failure status
        → is_unread failure ≢ true
    other_cause no_fault no_want (inl is) e = no_fault (is ∙ unread_status failure e)
    other_cause no_fault no_want (inr wanting) e = no_want wanting

-- a text with a cause is one of its status
caused : (status : Status) (o : Option Files) (words : List (List ℕ)) (text : List ℕ)
    → is_other status ≡ true → status ≢ NoMemory → HasCause status words o text
    → IsTextOf status words o text
unfolding is_other
caused ReadFault o words text e n h = h
caused Refused o words text e n h = h
caused Illegal o words text e n h = h
caused Differ o words text e n h = h
caused NoMemory o words text e n h = absurd (n refl)
caused other o words text e n h = cc

cause_wants : (cause : Cause) → cause_status cause ≢ NoMemory
cause_wants Unread e = cc
cause_wants other e = cc

text_is : (o : Option Files) (words : List (List ℕ)) (request : Request) (failure : Failure)
    → Asks words request → IsMadeFailure (meaning request) o failure
    → IsTextOf (status_of failure) words o (failure_text failure)
text_is o words request failures.NoMemory asks made = refl
text_is o words request (failures.File name cause more) asks made =
    caused (cause_status cause) o words (line (cause_line name.now cause) ++ more)
    (failure_other (failures.File name cause more)) (cause_wants cause)
    (record {
      request = request;
      asked = asks;
      name = name.now;
      cause = cause;
      more = more;
      status_is = refl;
      text_is = refl;
      fails = made.0;
      explains = made.2;
    })

-- the text of what failed is shown
failing_text : (o : Option Files) (words : List (List ℕ)) (request : Request) (failure : Failure)
    (status : Status) (text : List ℕ) (rose : Type 0) (a b : Option (List ℕ))
    → Asks words request → IsMadeFailure (meaning request) o failure
    → FailsWith failure status text → Changes a b (ShowsPrefix text rose)
    → Changes a b (ShowsText status words o rose)
failing_text o words request failure status text rose a b asks made (inl (s, l)) shown =
    changes_from a b (ShowsPrefix text rose) _
    (λ old new prefix. (
      failure_text failure,
      subst (λ (t : Status). IsTextOf t words o (failure_text failure)) (sym s)
          (text_is o words request failure asks made),
      subst (λ (t : List ℕ). ShowsPrefix t rose old new) l prefix,
    )) shown
failing_text o words request failure status text rose a b asks made (inr (s, l)) shown =
    changes_from a b (ShowsPrefix text rose) _
    (λ old new prefix. (
      no_memory_line,
      subst (λ (t : Status). IsTextOf t words o no_memory_line) (sym s) refl,
      subst (λ (t : List ℕ). ShowsPrefix t rose old new) l prefix,
    )) shown

failed_leaves : {S : Type 0} (host : Ghosts S) (a b c : S)
    (words : List (List ℕ)) (request : Request) (failure : Failure) (status : Status)
    → Asks words request → IsMadeFailure (meaning request) (host.files a) failure
    → LeftByLoads host (is_unread failure) a b → ShowsFailure host failure status b c
    → Leaves status words (told host a) (told host c)
unfolding is_other
failed_leaves host a b c words request failure status asks made left (text, with, shown) =
    let same = shown.files ∙ left.files in
    let other = status_other failure status (status_with failure status text with) in
    record {
      kept = λ refusal. same;
      some = λ wanting. changes_same (host.files a) (host.files c) _ same (λ files. inl refl);
      unwritten = λ e. absurd (no_failure status WriteFault other refl e);
      text = λ none no_fault. failing_text (host.files a) words request failure status text
          (WriteFailed (told host a) (told host c)) (host.shown a) (host.shown c) asks made with
          (rw (left.shown, left.write_faults) at shown.shown);
    }

-- ---- where a product was made
-- what writing leaves after loads is what it leaves of what was before them
after_loads : {S : Type 0} (host : Ghosts S) (a b c : S) (status : Status) (product : Product)
    → LeftByLoads host false a b → LeftByWriting host status product b c
    → LeftByWriting host status product a c
after_loads host a b c status product left w = record {
  written = rw (left.files, left.shown, left.write_faults) at w.written;
  fault = rw left.write_faults at w.fault;
  end_faults = rw left.write_faults at w.end_faults;
  load_faults = w.load_faults ∙ left.load_faults;
}

-- a status of a product that was written is no other
not_end : (status : Status) → is_end status ≡ true → (status ≡ WriteFault) ⊎ (status ≡ NoMemory)
    → ⊥
not_end status end (inl e) = let h = sym end ∙ ap is_end e in cc
not_end status end (inr e) = let h = sym end ∙ ap is_end e in cc

module _ (a b : Option Files) (s t : Option (List ℕ)) (words : List (List ℕ)) (request : Request)
    (product : Product) (status : Status) (rose : Type 0)
    (made : IsMadeProduct (meaning request) a product)
    (writes : Writes status product rose a b s t) where
  -- files of which a product is made aren't refused
  pub accepted_files : (P : Type 0) → IsOne words request
      → WhereTold a (λ files. (other : Request) → Asks words other
      → ¬ (meaning other).accepts files → P)
  accepted_files P one =
      of_request a words request (λ files. (meaning request).makes files product)
      (λ m files. ¬ m.accepts files → P) one
      (λ files m none. absurd (none ((lawful request).made_accepts files product m))) made.makes

  -- and nothing else is found of them
  pub found_nothing : (finding : Status) (P : Type 0) → IsOne words request
      → WhereTold a (λ files. (other : Request) → Asks words other
      → (meaning other).finds finding files → P)
  found_nothing finding P one =
      of_request a words request (λ files. (meaning request).makes files product)
      (λ m files. m.finds finding files → P) one
      (λ files m found. absurd ((lawful request).made_finds files product finding m found))
      made.makes

  -- the product was written, or that failed
  pub written_there : IsOne words request
      → WhereTold a (λ files. (other : Request) → Asks words other
      → (meaning other).accepts files
      → IsTrue ((meaning other).ends status) ⊎ (status ≡ WriteFault) ⊎ (status ≡ ReadFault)
      ⊎ (status ≡ NoMemory))
  written_there one =
      of_request a words request (λ files. (meaning request).makes files product)
      (λ m files. m.accepts files → IsTrue (m.ends status) ⊎ (status ≡ WriteFault)
      ⊎ (status ≡ ReadFault) ⊎ (status ≡ NoMemory)) one
      (λ files m all. by_case writes) made.makes
    where
      by_case : Writes status product rose a b s t
          → IsTrue ((meaning request).ends status) ⊎ (status ≡ WriteFault) ⊎ (status ≡ ReadFault)
          ⊎ (status ≡ NoMemory)
      by_case (inl (e, all)) =
          inl (subst (λ (u : Status). IsTrue ((meaning request).ends u)) (sym e) made.ends)
      by_case (inr (inl (e, fails))) = inr (inl e)
      by_case (inr (inr (e, out))) = inr (inr (inr e))

  pub written_ends : MayEnd (meaning request) status
  written_ends = by_case writes
    where
      by_case : Writes status product rose a b s t → MayEnd (meaning request) status
      by_case (inl (e, all)) =
          inl (subst (λ (u : Status). IsTrue ((meaning request).ends u)) (sym e) made.ends)
      by_case (inr (inl (e, fails))) =
          subst (λ (u : Status). MayEnd (meaning request) u) (sym e) (inr refl)
      by_case (inr (inr (e, out))) =
          subst (λ (u : Status). MayEnd (meaning request) u) (sym e) (inr refl)

  -- Done, Limit or Found: the product was written
  pub made_written : Asks words request → is_end status ≡ true
      → Changes a b (λ before now. MadeAndWritten status words before now s t)
  made_written asks end = by_case writes
    where
      by_case : Writes status product rose a b s t
          → Changes a b (λ before now. MadeAndWritten status words before now s t)
      by_case (inl (e, all)) =
          changes_where a b (λ files. (meaning request).makes files product)
          (λ old new. new ≡ files_after old product.saves)
          (λ before now. MadeAndWritten status words before now s t)
          (λ before now m f. record {
            request = request;
            asked = asks;
            product = product;
            made = m;
            ends = e;
            saved = subst (λ (files : Files). AreHeld files product.saves) (sym f)
                (all_held before product.saves made.apart);
            other_names = λ name other. ap (λ (files : Files). bytes_at files name) f
                ∙ held_other before product.saves name other;
            shown = all.shown;
          }) made.makes all.files
      by_case (inr (inl (e, fails))) = absurd (not_end status end (inl e))
      by_case (inr (inr (e, out))) = absurd (not_end status end (inr e))

  -- what is held where memory ran out
  pub saves_some : Asks words request → status ≡ NoMemory → Changes a b (SavesSome words)
  saves_some asks wanting = by_case writes
    where
      by_case : Writes status product rose a b s t → Changes a b (SavesSome words)
      by_case (inl (e, all)) =
          absurd (not_end status (ap is_end e ∙ end_ends product.end) (inr wanting))
      by_case (inr (inl (e, fails))) = let h = sym e ∙ wanting in cc
      by_case (inr (inr (e, out))) =
          changes_where a b (λ files. (meaning request).makes files product)
          (MadeSome product.saves) (SavesSome words)
          (λ before now m some. inr (request, product, asks, m, some)) made.makes out.files

  -- what is left where the writing failed
  pub unwritten : Asks words request → status ≡ WriteFault → LeavesUnwritten words rose a b s t
  unwritten asks fault = by_case writes
    where
      by_case : Writes status product rose a b s t → LeavesUnwritten words rose a b s t
      by_case (inl (e, all)) =
          absurd (not_end status (ap is_end e ∙ end_ends product.end) (inl fault))
      by_case (inr (inl (e, fails))) = record {
        request = request;
        asked = asks;
        product = product;
        made = made.makes;
        fails = fails;
      }
      by_case (inr (inr (e, out))) = let h = sym e ∙ fault in cc

  -- what is shown where memory ran out
  pub wanting_shown : (o : Option Files) → is_end status ≡ false → status ≢ WriteFault
      → Changes s t (ShowsText status words o rose)
  wanting_shown o none no_fault = by_case writes
    where
      by_case : Writes status product rose a b s t → Changes s t (ShowsText status words o rose)
      by_case (inl (e, all)) = let h = sym none ∙ ap is_end e ∙ end_ends product.end in cc
      by_case (inr (inl (e, fails))) = absurd (no_fault e)
      by_case (inr (inr (e, out))) =
          changes_from s t (ShowsPrefix no_memory_line rose) (ShowsText status words o rose)
          (λ old new prefix. (
            no_memory_line,
            subst (λ (u : Status). IsTextOf u words o no_memory_line) (sym e) refl,
            prefix,
          )) out.shown

  -- no product ends with another status
  pub written_status : (other : Status) → is_end other ≡ false → other ≢ WriteFault
      → other ≢ NoMemory → status ≢ other
  written_status other none no_fault no_want same = by_case writes
    where
      by_case : Writes status product rose a b s t → ⊥
      by_case (inl (e, all)) =
          let h = sym none ∙ ap is_end (sym same ∙ e) ∙ end_ends product.end in cc
      by_case (inr (inl (e, fails))) = no_fault (sym same ∙ e)
      by_case (inr (inr (e, out))) = no_want (sym same ∙ e)

  -- it is neither one of a finding nor a refusal
  pub no_finding : IsTrue (is_finding status) → ⊥
  no_finding found = by_case writes
    where
      by_case : Writes status product rose a b s t → ⊥
      by_case (inl (e, all)) = let h = sym found ∙ ap is_finding e ∙ end_finds product.end in cc
      by_case (inr (inl (e, fails))) = let h = sym found ∙ ap is_finding e in cc
      by_case (inr (inr (e, out))) = let h = sym found ∙ ap is_finding e in cc

  pub not_refusal : is_refusal status ≡ false
  not_refusal = by_case writes
    where
      end_no_refusal : (end : End) → is_refusal (end_status end) ≡ false
      end_no_refusal ends.Done = refl
      end_no_refusal ends.Limit = refl
      end_no_refusal ends.Found = refl

      by_case : Writes status product rose a b s t → is_refusal status ≡ false
      by_case (inl (e, all)) = ap is_refusal e ∙ end_no_refusal product.end
      by_case (inr (inl (e, fails))) = ap is_refusal e
      by_case (inr (inr (e, out))) = ap is_refusal e

written_answers : {S : Type 0} (host : Ghosts S) (a b c : S)
    (words : List (List ℕ)) (request : Request) (product : Product) (status : Status)
    → Asks words request → IsOne words request
    → IsMadeProduct (meaning request) (host.files a) product
    → LeftByLoads host false a b → LeftByWriting host status product b c
    → Answers status words (told host a) (told host c)
written_answers host a b c words request product status asks one made left writing =
    let w = after_loads host a b c status product left writing in
    let old = told host a in
    let new = told host c in
    let rose = WriteFailed old new in
    let never = written_status old.files new.files old.shown new.shown words request product status
    rose made w.written in
    record {
      ended = λ end. record {
        made = made_written old.files new.files old.shown new.shown words request product status
            rose made w.written asks end;
        asked = (request, asks);
        load_faults = w.load_faults;
        write_faults = w.end_faults end;
      };
      usage_only = λ e. absurd (never Usage refl (λ h. cc) (λ h. cc) e);
      usage_there = λ nothing. absurd (nothing request asks);
      read_fault = λ e. absurd (never ReadFault refl (λ h. cc) (λ h. cc) e);
      no_read_fault = λ no_fault no_want. w.load_faults;
      write_fault = w.fault;
      refused_only = λ e. absurd (never Refused refl (λ h. cc) (λ h. cc) e);
      refused_there = accepted_files old.files new.files old.shown new.shown words request product
          status rose made w.written _ one;
      found_only = λ found. absurd (no_finding old.files new.files old.shown new.shown words request
          product status rose made w.written found);
      found_there = λ finding. found_nothing old.files new.files old.shown new.shown words request
          product status rose made w.written finding _ one;
      done_there = written_there old.files new.files old.shown new.shown words request product
          status rose made w.written one;
      ends = λ asked asks_it. of_other words request asked
          (λ (r : Request). MayEnd (meaning r) status) one
          (written_ends old.files new.files old.shown new.shown words request product status rose
          made w.written) asks_it;
    }

written_leaves : {S : Type 0} (host : Ghosts S) (a b c : S)
    (words : List (List ℕ)) (request : Request) (product : Product) (status : Status)
    → Asks words request → IsMadeProduct (meaning request) (host.files a) product
    → LeftByLoads host false a b → LeftByWriting host status product b c
    → Leaves status words (told host a) (told host c)
written_leaves host a b c words request product status asks made left writing =
    let old = told host a in
    let new = told host c in
    let rose = WriteFailed old new in
    let writes = (after_loads host a b c status product left writing).written in
    record {
      kept = λ refusal. let h = sym refusal ∙ not_refusal old.files new.files old.shown new.shown
          words request product status rose made writes in cc;
      some = saves_some old.files new.files old.shown new.shown words request product status rose
          made writes asks;
      unwritten = unwritten old.files new.files old.shown new.shown words request product status
          rose made writes asks;
      text = wanting_shown old.files new.files old.shown new.shown words request product status
          rose made writes old.files;
    }

-- ---- a call that asks for something
pub ended_answers : {S : Type 0} (host : Ghosts S) (a b c : S) (words : List (List ℕ))
    (request : Request) (made : Result Product Failure) (status : Status)
    → Asks words request → IsOne words request → IsMade (meaning request) (host.files a) made
    → LeftByLoads host (fails_unread made) a b → LeftByEnding host made status b c
    → Answers status words (told host a) (told host c)
ended_answers host a b c words request (Ok product) status asks one made left ending =
    written_answers host a b c words request product status asks one made left ending
ended_answers host a b c words request (Err failure) status asks one made left ending =
    failed_answers host a b c words request failure status asks one made left ending

pub ended_leaves : {S : Type 0} (host : Ghosts S) (a b c : S) (words : List (List ℕ))
    (request : Request) (made : Result Product Failure) (status : Status)
    → Asks words request → IsMade (meaning request) (host.files a) made
    → LeftByLoads host (fails_unread made) a b → LeftByEnding host made status b c
    → Leaves status words (told host a) (told host c)
ended_leaves host a b c words request (Ok product) status asks made left ending =
    written_leaves host a b c words request product status asks made left ending
ended_leaves host a b c words request (Err failure) status asks made left ending =
    failed_leaves host a b c words request failure status asks made left ending

-- ---- where nothing is asked for
nothing_asked : (o : Option Files) (words : List (List ℕ)) (P : Meaning → Files → Type 0)
    → AsksNothing words
    → WhereTold o (λ files. (request : Request) → Asks words request → P (meaning request) files)
nothing_asked o words P nothing =
    told_always o (λ files. (request : Request) → Asks words request → P (meaning request) files)
    (λ files request asks. absurd (nothing request asks))

pub usage_answers : {S : Type 0} (host : Ghosts S) (a b : S) (words : List (List ℕ))
    → AsksNothing words → LeftByText host (line (codes "usage")) a b
    → Answers Usage words (told host a) (told host b)
usage_answers host a b words nothing shown = record {
  ended = λ e. cc;
  usage_only = λ e. nothing;
  usage_there = λ none. inl refl;
  read_fault = λ e. cc;
  no_read_fault = λ no_fault no_want. shown.load_faults;
  write_fault = λ e. cc;
  refused_only = λ e. cc;
  refused_there = nothing_asked (host.files a) words
      (λ m files. ¬ m.accepts files → (Usage ≡ Refused) ⊎ IsCut Usage) nothing;
  found_only = λ e. cc;
  found_there = λ finding. nothing_asked (host.files a) words
      (λ m files. m.finds finding files → (Usage ≡ finding) ⊎ IsCut Usage) nothing;
  done_there = nothing_asked (host.files a) words
      (λ m files. m.accepts files → IsTrue (m.ends Usage) ⊎ (Usage ≡ WriteFault) ⊎ IsCut Usage)
      nothing;
  ends = λ request asked. absurd (nothing request asked);
}

pub usage_leaves : {S : Type 0} (host : Ghosts S) (a b : S) (words : List (List ℕ))
    → LeftByText host (line (codes "usage")) a b
    → Leaves Usage words (told host a) (told host b)
usage_leaves host a b words shown = record {
  kept = λ e. shown.files;
  some = λ e. cc;
  unwritten = λ e. cc;
  text = λ none no_fault. changes_from (host.shown a) (host.shown b) _ _
      (λ before now prefix. (line (codes "usage"), refl, prefix)) shown.shown;
}
