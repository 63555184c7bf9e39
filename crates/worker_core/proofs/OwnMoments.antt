-- What the core's code keeps, one entry more.
use Rattle.std.specs.Prelude.{◌≡◌, ℕ, zero, suc, ◌+◌, ◌<◌, Bool, true, false, cond, ◌==◌, List, [], ◌∷◌, ◌++◌, map, length, get_or, set, slice_get, Option, Some, None, option_map, unwrap_or, IsSomeAnd}
use Rattle.std.specs.List.{list_all}
use Rattle.std.proofs.Common.{refl, sym, ap, ◌∙◌, arith, append_assoc}
use Rattle.std.proofs.lemmas.List.{append-nil, get_or-set_same, get_or-set_other}
use Rattle.std.proofs.lemmas.Option.{same_Some, get_or_from_slice_get}
use Rattle.std.proofs.lemmas.Bool.{and_parts}
use Rattle.polis_base.specs.Lists.{last_of}
use Rattle.transition_table.specs.Transitions.{AreDeterministic, OfMachine, IsSnapshot, Transition}
use Rattle.transition_table.specs.declared.machine.Machine.{Machine}
use Rattle.transition_table.specs.declared.network.Network.{Network}
use Rattle.transition_table.specs.declared.snapshot.Snapshot.{Snapshot}
use Rattle.transition_table.specs.declared.snapshot.Outcome.{Outcome}
use Rattle.journals.specs.declared.entry.Entry.{Entry}
use Rattle.journals.specs.declared.entry.Entry.TheVariants.{Dep, Rea}
use Rattle.journals.specs.Journals.{snap, is_woken, reads}
use Rattle.transition_table.specs.Laws.{OneOutcome}
use Rattle.journals.specs.Moved.{machine_of, is_dep, codes_after}
use Rattle.journals.specs.declared.stamped.Stamped.{Stamped}
use Rattle.journals.specs.Alone.{is_own}
use Rattle.journals.specs.Logs.{entries}
use Rattle.journals.specs.Reactions.{outcome_on, outcome_in, reaction}
use Rattle.journals.specs.Laws.{MovesMoment, MovesWaking, GivesTransition}
use Rattle.worker_core.specs.Parts.{own_moments}
use Rattle.worker_core.specs.inner.Parts.{ends_in_delivery}
use Rattle.journals.proofs.MomentsAfter.{length_table, set_table, get_or_table}
use Rattle.journals.proofs.StampSteps.{entries_more}

-- ---- the last of a list

pub last_at : {X Y : Type 0} (f : X → Y) (d : Y) (xs : List X) (i : ℕ) (x : X) → i + 1 ≡ length xs
    → slice_get xs i ≡ Some x → f x ≡ last_of d (map f xs)
last_at f d [] i x e at = absurd (omega arith)
last_at f d (y ∷ []) zero x e at = ap f (sym (same_Some y x at))
last_at f d (y ∷ []) (suc i) x e at = absurd (omega arith)
last_at f d (y ∷ z ∷ ys) zero x e at = absurd (omega arith)
last_at f d (y ∷ z ∷ ys) (suc i) x e at = last_at f (f y) (z ∷ ys) i x (omega arith) at

-- ---- snapshots

pub length_own : (net : Network) (logs : List (List Stamped))
    → length (own_moments net logs) ≡ length net.machines
length_own net logs =
    length_table (λ m. snap net (entries (get_or logs m [])) m) (length net.machines)

pub own_moment : (net : Network) (logs : List (List Stamped)) (moments : List Snapshot) (m : ℕ)
    (s : Snapshot) → moments ≡ own_moments net logs → m < length net.machines
    → slice_get moments m ≡ Some s → s ≡ snap net (entries (get_or logs m [])) m
own_moment net logs moments m s are below at =
    sym (get_or_from_slice_get moments m s s at) ∙ ap (λ (l : List Snapshot). get_or l m s) are
    ∙ get_or_table (λ m. snap net (entries (get_or logs m [])) m) (length net.machines) m s below

pub moments_added : (net : Network) (logs : List (List Stamped)) (moments : List Snapshot) (m : ℕ)
    (x : Stamped) (machine : Machine) (before s : Snapshot)
    → MovesMoment
    → m < length net.machines
    → m < length logs
    → moments ≡ own_moments net logs
    → machine_of x.entry ≡ m
    → slice_get net.machines m ≡ Some machine
    → slice_get moments m ≡ Some before
    → s.codes ≡ codes_after machine x.entry before.codes
    → set moments m s ≡ own_moments net (set logs m (get_or logs m [] ++ x ∷ []))
moments_added net logs moments m x machine before s moves below inside are own at was codes =
    let entry : Entry = x.entry in
    let log : List Stamped = get_or logs m [] in
    let new : List (List Stamped) = set logs m (log ++ x ∷ []) in
    let old : before ≡ snap net (entries log) (machine_of entry) =
    own_moment net logs moments m before are below was ∙ ap (snap net (entries log)) (sym own) in
    let is : s ≡ snap net (entries log ++ entry ∷ []) (machine_of entry) =
    moves net machine (entries log) entry s before
    (ap (slice_get net.machines) own ∙ at) old codes in
    let here : get_or new m [] ≡ log ++ x ∷ [] = get_or-set_same logs m (log ++ x ∷ []) [] inside in
    ap (λ (l : List Snapshot). set l m s) are
    ∙ set_table (λ k. snap net (entries (get_or logs k [])) k)
    (λ k. snap net (entries (get_or new k [])) k) (length net.machines) m s below
    (ap (λ l. snap net (entries l) m) here ∙ ap (λ j. snap net j m) (entries_more log x)
    ∙ sym (is ∙ ap (snap net (entries log ++ entry ∷ [])) own))
    (λ k other within. ap (λ l. snap net (entries l) k)
    (get_or-set_other logs m k (log ++ x ∷ []) [] other))

-- ---- a log of m wakes m where it ends in a delivery

own_here : (net : Network) (m : ℕ) (entry : Entry) → is_own net m entry ≡ true
    → (machine_of entry == m) ≡ true
own_here net m (Dep s to e c) h = (and_parts (to == m) (reads net m e) h).0
own_here net m (Rea k s o) h = h

woken_after : (net : Network) (m : ℕ) (prefix : List Entry) (b : Bool) (rest : List Stamped)
    → MovesWaking → is_woken prefix m ≡ b → list_all (λ x. is_own net m x.entry) rest ≡ true
    → is_woken (prefix ++ entries rest) m ≡ last_of b (map (λ x. is_dep x.entry) rest)
woken_after net m prefix b [] moves h own = ap (λ j. is_woken j m) (append-nil prefix) ∙ h
woken_after net m prefix b (x ∷ rest) moves h own =
    let parts = and_parts (is_own net m x.entry) (list_all (λ x. is_own net m x.entry) rest) own in
    sym (ap (λ j. is_woken j m) (append_assoc prefix (x.entry ∷ []) (entries rest)))
    ∙ woken_after net m (prefix ++ x.entry ∷ []) (is_dep x.entry) rest moves
    (moves prefix x.entry m
    ∙ ap (λ c. cond c (is_dep x.entry) (is_woken prefix m))
    (own_here net m x.entry parts.0)) parts.1

pub woken_at_end : (net : Network) (m : ℕ) (log : List Stamped) → MovesWaking
    → list_all (λ x. is_own net m x.entry) log ≡ true
    → is_woken (entries log) m ≡ ends_in_delivery log
woken_at_end net m log moves own = woken_after net m [] false log moves refl own

-- ---- the reaction that a reactor makes

pub reaction_made : (net : Network) (m : ℕ) (journal : List Entry) (s : Snapshot) (o : Outcome)
    → OneOutcome → GivesTransition → AreDeterministic net
    → OfMachine net m (λ machine. IsSnapshot machine s)
    → OfMachine net m (λ machine. Transition machine s o) → s ≡ snap net journal m
    → Rea m s o ≡ reaction net m journal
reaction_made net m journal s o one gives all fits made is =
    ap (λ p. Rea m s p) (at (slice_get net.machines m) refl fits made)
    ∙ ap (λ x. Rea m x (outcome_in net m x)) is
  where
    at : (found : Option Machine) → slice_get net.machines m ≡ found
        → IsSomeAnd found (λ machine. IsSnapshot machine s)
        → IsSomeAnd found (λ machine. Transition machine s o)
        → o ≡ unwrap_or (option_map (λ machine. outcome_on machine s) found)
        (record { fires = false; next = []; outs = [] })
    at None is f a = absurd a
    at (Some machine) is f a =
        one machine s o (outcome_on machine s) (all m machine is) f a (gives machine s)
