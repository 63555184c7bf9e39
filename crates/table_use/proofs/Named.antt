-- The snapshots that are named are the machine's.
use Rattle.std.proofs.Common.{◌≡◌, ℕ, Bool, true, false, cond, List, [], ◌∷◌, length, map, refl}
use Rattle.std.specs.List.{filter, list_all}
use Rattle.std.proofs.lemmas.Bool.{and_from, and_parts}
use Rattle.polis_base.specs.Lists.{head_of, upto}
use Rattle.domains.specs.AllCodes.{all_codes}
use Rattle.domains.specs.Tables.{fits}
use Rattle.domains.proofs.AllCodes.{lists_fit}
use Rattle.transition_table.specs.declared.machine.Machine.{Machine}
use Rattle.table_use.specs.Lint.{found, input_lint, lint_of, seen_ones}
use Rattle.table_use.specs.LintLines.{are_snapshots, is_snapshot}
use Rattle.journals.specs.Seen.{is_seen}
use Rattle.table_use.specs.Use.{is_jammed, is_unused}
use Rattle.table_use.specs.declared.finding.InputLint.{InputLint}

all_left : (p q : List ℕ → Bool) (xs : List (List ℕ)) → list_all p xs ≡ true
    → list_all p (filter q xs) ≡ true
all_left p q [] h = refl
all_left p q (x ∷ xs) h =
    let parts = and_parts (p x) (list_all p xs) h in
    kept (q x) parts.0 (all_left p q xs parts.1)
  where
    kept : (b : Bool) → p x ≡ true → list_all p (filter q xs) ≡ true
        → list_all p (cond b (x ∷ filter q xs) (filter q xs)) ≡ true
    kept true one rest = and_from (p x) (list_all p (filter q xs)) one rest
    kept false one rest = rest

head_fits : (m : Machine) (xs : List (List ℕ)) → list_all (fits m.vars) xs ≡ true
    → is_snapshot m (head_of xs) ≡ true
head_fits m [] h = refl
head_fits m (x ∷ xs) h = (and_parts (fits m.vars x) (list_all (fits m.vars) xs) h).0

least_fits : (m : Machine) (test : List ℕ → Bool) → is_snapshot m (found m test).least ≡ true
least_fits m test =
    head_fits m (filter test (seen_ones m))
    (all_left (fits m.vars) test (seen_ones m)
    (all_left (fits m.vars) (is_seen m) (all_codes m.vars) (lists_fit m.vars)))

all_made : (p : InputLint → Bool) (f : ℕ → InputLint) (ks : List ℕ)
    → ((k : ℕ) → p (f k) ≡ true) → list_all p (map f ks) ≡ true
all_made p f [] each = refl
all_made p f (k ∷ ks) each =
    and_from (p (f k)) (list_all p (map f ks)) (each k) (all_made p f ks each)

pub snapshots_of_lint : (m : Machine) → are_snapshots m (lint_of m) ≡ true
snapshots_of_lint m =
    and_from (is_snapshot m (lint_of m).jam.least)
    (list_all (λ input. is_snapshot m input.unused.least) (lint_of m).inputs)
    (least_fits m (is_jammed m))
    (all_made (λ input. is_snapshot m input.unused.least) (input_lint m) (upto (length m.inputs))
    (λ i. least_fits m (is_unused m i)))
