-- Reactions, counted one after another.
use Rattle.std.proofs.Common.{◌≡◌, ⊎_elim, ℕ, zero, suc, ◌+◌, ◌*◌, ◌^◌, ◌<◌, ◌≤◌, Bool, true, false, ◌==◌, List, [], ◌∷◌, ◌++◌, length, take, drop, get_or, slice_get, Option, Some, None, refl, ap, sym, subst, ◌∙◌, arith, IsTrue}
use Rattle.std.specs.Prelude.{filter_map, sum_by, slice_set, option_map, IsSomeAnd}
use Rattle.std.specs.Bool.{then_some}
use Rattle.std.proofs.lemmas.Bool.{eq-eqb, ne_eqb, cases_eq}
use Rattle.std.proofs.lemmas.List.{append-nil, take-append-drop}
use Rattle.std.proofs.lemmas.List.Sums.{sum-map, sum_by-append, sum_by-cons}
use Rattle.std.proofs.lemmas.List.Elements.{filter_map-append}
use Rattle.std.proofs.lemmas.Option.{slice_get_within, slice_get-map, slice_get_read}
use Rattle.polis_base.specs.declared.limits.TheConstants.{ENTRIES_MAX}
use Rattle.domains.specs.Tables.{fits}
use Rattle.transition_table.specs.declared.decl.Party.{Party}
use Rattle.transition_table.specs.declared.machine.Machine.{Machine}
use Rattle.transition_table.specs.declared.network.Network.{Network}
use Rattle.transition_table.specs.declared.snapshot.Snapshot.{Snapshot}
use Rattle.transition_table.specs.declared.snapshot.Outcome.{Outcome}
use Rattle.transition_table.specs.Transitions.{HasWidths, IsSnapshot, IsOutcome}
use Rattle.journals.specs.declared.entry.Entry.{Entry}
use Rattle.journals.specs.declared.entry.Entry.TheVariants.{Dep, Rea}
use Rattle.journals.specs.Journals.{FitsNetwork, IsJournal}
use Rattle.task_code.specs.declared.instr.Instr.{Instr}
use Rattle.task_code.specs.Codes.{StepsOf}
use Rattle.task_code.specs.declared.limits.TheConstants.{CODE_MAX}
use Rattle.task_code.specs.Listings.{Part}
use Rattle.machine_compiler.specs.declared.compiled.Compiled.{Compiled}
use Rattle.machine_compiler.specs.declared.tallies.Tally.{Tally}
use Rattle.machine_compiler.specs.Parts.{part_of_compiled, parts_of, codes_in}
use Rattle.machine_compiler.specs.Lines.{CountsFit, read_by, reactions_of, steps_on}
use Rattle.machine_compiler.specs.inner.Tallies.{IsTally, AreTallies, AreFew}
use Rattle.polis_base.proofs.Places.{some_at}

-- ---- the reactions of one more entry
no_reaction : (k : ℕ) (seen : List Entry) (entry : Entry) → read_by k entry ≡ None
    → reactions_of k (seen ++ entry ∷ []) ≡ reactions_of k seen
no_reaction k seen entry e =
    let none : reactions_of k (entry ∷ []) ≡ [] = one_none (read_by k) entry e in
    filter_map-append (read_by k) seen (entry ∷ [])
    ∙ ap (λ (xs : List (List ℕ)). reactions_of k seen ++ xs) none
    ∙ append-nil (reactions_of k seen)
  where
    one_none : (f : Entry → Option (List ℕ)) (x : Entry) → f x ≡ None → filter_map f (x ∷ []) ≡ []
    one_none f x e = rw e refl

one_reaction : (k : ℕ) (seen : List Entry) (entry : Entry) (s : List ℕ) → read_by k entry ≡ Some s
    → reactions_of k (seen ++ entry ∷ []) ≡ reactions_of k seen ++ s ∷ []
one_reaction k seen entry s e =
    let one : reactions_of k (entry ∷ []) ≡ s ∷ [] = one_some (read_by k) entry e in
    filter_map-append (read_by k) seen (entry ∷ [])
    ∙ ap (λ (xs : List (List ℕ)). reactions_of k seen ++ xs) one
  where
    one_some : (f : Entry → Option (List ℕ)) (x : Entry) → f x ≡ Some s
        → filter_map f (x ∷ []) ≡ s ∷ []
    one_some f x e = rw e refl

pub steps_cons : (code : List Instr) (s : List ℕ) (xs : List (List ℕ))
    → steps_on code (s ∷ xs) ≡ StepsOf code s + steps_on code xs
steps_cons code s xs = sum-map (StepsOf code) (s ∷ xs) ∙ sum_by-cons (StepsOf code) s xs
    ∙ ap (λ (n : ℕ). StepsOf code s + n) (sym (sum-map (StepsOf code) xs))

steps_more : (code : List Instr) (xs : List (List ℕ)) (s : List ℕ)
    → steps_on code (xs ++ s ∷ []) ≡ steps_on code xs + StepsOf code s
steps_more code [] s = steps_cons code s [] ∙ add_none (StepsOf code s)
  where
    add_none : (n : ℕ) → n + 0 ≡ 0 + n
    add_none n = omega arith
steps_more code (x ∷ xs) s =
    steps_cons code x (xs ++ s ∷ [])
    ∙ ap (λ (n : ℕ). StepsOf code x + n) (steps_more code xs s)
    ∙ regrouped (StepsOf code x) (steps_on code xs) (StepsOf code s)
    ∙ ap (λ (n : ℕ). n + StepsOf code s) (sym (steps_cons code x xs))
  where
    regrouped : (a b c : ℕ) → a + (b + c) ≡ (a + b) + c
    regrouped a b c = omega arith

length_more : (xs : List (List ℕ)) (s : List ℕ) → length (xs ++ s ∷ []) ≡ length xs + 1
length_more [] s = refl
length_more (x ∷ xs) s = let r = length_more xs s in omega arith

same_reactions : (m : Machine) (code : List Instr) (t : Tally) (old new : List (List ℕ)) → new ≡ old
    → IsTally m code old t → IsTally m code new t
same_reactions m code t old new e i = subst (λ (rs : List (List ℕ)). IsTally m code rs t) (sym e) i

-- ---- an entry that is no reaction of any machine
pub tallied_dep : (net : Network) (all : List (List Instr)) (seen : List Entry)
    (ts : List Tally) (from : Party) (to event code : ℕ)
    → AreTallies net all seen ts
    → AreTallies net all (seen ++ Dep from to event code ∷ []) ts
tallied_dep net all seen ts from to event code a =
    record {
      long = a.long;
      each = λ k m c t at_m at_c at_t. same_reactions m c t (reactions_of k seen)
          (reactions_of k (seen ++ Dep from to event code ∷ []))
          (no_reaction k seen (Dep from to event code) refl) (a.each k m c t at_m at_c at_t);
    }

-- ---- a list with another item at one place
pub record OneWritten {X : Type 0} (old new : List X) (k : ℕ) (x : X) : Type 0 where
  pub long : length new ≡ length old
  pub here : slice_get new k ≡ Some x
  pub others : (j : ℕ) → (j ≡ k → ⊥) → slice_get new j ≡ slice_get old j

pub set_written : {X : Type 0} (old new : List X) (k : ℕ) (x : X) → k < length old
    → new ≡ slice_set old k x → OneWritten old new k x
set_written {X = X} old new k x low e =
    subst (λ (ys : List X). OneWritten old ys k x) (sym e) (written old k low)
  where
    written : (xs : List X) (k : ℕ) → k < length xs → OneWritten xs (slice_set xs k x) k x
    written [] k low = absurd (omega arith)
    written (y ∷ ys) zero low = record { long = refl; here = refl; others = first_others }
      where
        first_others : (j : ℕ) → (j ≡ 0 → ⊥) → slice_get (x ∷ ys) j ≡ slice_get (y ∷ ys) j
        first_others zero differ = absurd (differ refl)
        first_others (suc j) differ = refl
    written (y ∷ ys) (suc k) low =
        let r = written ys k (omega arith) in
        record { long = ap suc r.long; here = r.here; others = later_others r.others }
      where
        later_others : ((j : ℕ) → (j ≡ k → ⊥) → slice_get (slice_set ys k x) j ≡ slice_get ys j)
            → (j : ℕ) → (j ≡ suc k → ⊥) → slice_get (y ∷ slice_set ys k x) j ≡ slice_get (y ∷ ys) j
        later_others before zero differ = refl
        later_others before (suc j) differ = before j (λ e. differ (ap suc e))

-- one reaction more takes no more instructions than code has
fewer : (before after : Tally) → after.tries ≡ before.tries + 1
    → after.steps ≤ before.steps + CODE_MAX → before.steps ≤ CODE_MAX * before.tries
    → after.steps ≤ CODE_MAX * after.tries
fewer before after tries few h = omega (arith, h, tries, few)

-- a reaction
pub tallied_rea : (net : Network) (all : List (List Instr)) (seen : List Entry)
    (old new : List Tally) (k : ℕ) (s : Snapshot) (o : Outcome) (c : List Instr)
    (before after : Tally)
    → slice_get all k ≡ Some c
    → slice_get old k ≡ Some before
    → OneWritten old new k after
    → ((m : Machine) → HasWidths m before.outcome → HasWidths m after.outcome)
    → after.tries ≡ before.tries + 1
    → after.steps ≡ before.steps + StepsOf c s.codes
    → after.steps ≤ before.steps + CODE_MAX
    → AreTallies net all seen old
    → AreTallies net all (seen ++ Rea k s o ∷ []) new
tallied_rea net all seen old new k s o c before after at_c at_before written widths tries steps few
    a =
    record {
      long = written.long ∙ a.long;
      each = λ j m d t at_m at_d at_t. ⊎_elim (same j m d t at_m at_d at_t)
          (other j m d t at_m at_d at_t) (cases_eq j k);
    }
  where
    same : (j : ℕ) (m : Machine) (d : List Instr) (t : Tally) → slice_get net.machines j ≡ Some m
        → slice_get all j ≡ Some d → slice_get new j ≡ Some t → j ≡ k
        → IsTally m d (reactions_of j (seen ++ Rea k s o ∷ [])) t
    same j m d t at_m at_d at_t is =
        let code : c ≡ d = let e : Some c ≡ Some d =
        sym at_c ∙ ap (slice_get all) (sym is) ∙ at_d in cc in
        let tally : after ≡ t = let e : Some after ≡ Some t =
        sym written.here ∙ ap (slice_get new) (sym is) ∙ at_t in cc in
        let was = a.each j m d before at_m at_d (ap (slice_get old) is ∙ at_before) in
        let more : reactions_of j (seen ++ Rea k s o ∷ []) ≡ reactions_of j seen ++ s.codes ∷ [] =
        one_reaction j seen (Rea k s o) s.codes
        (ap (λ (b : Bool). then_some b s.codes) (eq-eqb k j (sym is))) in
        let now : IsTally m d (reactions_of j seen ++ s.codes ∷ []) after =
        record {
          widths = widths m was.widths;
          tries = tries ∙ ap (λ (n : ℕ). n + 1) was.tries
              ∙ sym (length_more (reactions_of j seen) s.codes);
          steps = steps ∙ ap (λ (n : ℕ). n + StepsOf c s.codes) was.steps
              ∙ ap (λ (x : List Instr). steps_on d (reactions_of j seen) + StepsOf x s.codes) code
              ∙ sym (steps_more d (reactions_of j seen) s.codes);
          few = fewer before after tries few was.few;
        }
        in
        subst (λ (x : Tally). IsTally m d (reactions_of j (seen ++ Rea k s o ∷ [])) x) tally
        (same_reactions m d after (reactions_of j seen ++ s.codes ∷ [])
        (reactions_of j (seen ++ Rea k s o ∷ [])) more now)

    other : (j : ℕ) (m : Machine) (d : List Instr) (t : Tally) → slice_get net.machines j ≡ Some m
        → slice_get all j ≡ Some d → slice_get new j ≡ Some t → (j ≡ k → ⊥)
        → IsTally m d (reactions_of j (seen ++ Rea k s o ∷ [])) t
    other j m d t at_m at_d at_t differ =
        let none : read_by j (Rea k s o) ≡ None =
        ap (λ (b : Bool). then_some b s.codes) (ne_eqb k j (λ (e : k ≡ j). differ (sym e))) in
        same_reactions m d t (reactions_of j seen) (reactions_of j (seen ++ Rea k s o ∷ []))
        (no_reaction j seen (Rea k s o) none)
        (a.each j m d t at_m at_d (sym (written.others j differ) ∙ at_t))

-- ---- how large the numbers get
at_most : {a b c : ℕ} → a ≡ b → b ≤ c → a ≤ c
at_most e h = omega arith

-- with a reaction in front
reaction_more : (k j : ℕ) (s : Snapshot) (o : Outcome) (entries : List Entry)
    → length (reactions_of k entries) ≤ length entries
    → length (reactions_of k (Rea j s o ∷ entries)) ≤ length (Rea j s o ∷ entries)
reaction_more k j s o entries few = go (j == k) refl
  where
    go : (b : Bool) → (j == k) ≡ b
        → length (reactions_of k (Rea j s o ∷ entries)) ≤ length (Rea j s o ∷ entries)
    go true e =
        let f : reactions_of k (Rea j s o ∷ entries) ≡ s.codes ∷ reactions_of k entries =
        rw e refl in
        at_most (ap length f) (omega arith)
    go false e =
        let f : reactions_of k (Rea j s o ∷ entries) ≡ reactions_of k entries = rw e refl in
        at_most (ap length f) (omega arith)

-- a machine has as many reactions as there are entries, at most
few_reactions : (k : ℕ) (journal : List Entry) → length (reactions_of k journal) ≤ length journal
few_reactions k [] = omega arith
few_reactions k (Dep from to event code ∷ entries) = let h = few_reactions k entries in omega arith
few_reactions k (Rea j s o ∷ entries) = reaction_more k j s o entries (few_reactions k entries)

-- the snapshot of a reaction that fits is one of its machine
pub snapshot_of : (net : Network) (k : ℕ) (m : Machine) (j : ℕ) (s : Snapshot) (o : Outcome)
    → slice_get net.machines k ≡ Some m → k ≡ j → FitsNetwork net (Rea j s o)
    → IsTrue (fits m.vars s.codes)
snapshot_of net k m j s o at same fit = go (slice_get net.machines j) refl fit
  where
    go : (x : Option Machine) → slice_get net.machines j ≡ x
        → IsSomeAnd x (λ machine. IsSnapshot machine s × IsOutcome machine o)
        → IsTrue (fits m.vars s.codes)
    go None e h = absurd h
    go (Some n) e h =
        let is : n ≡ m = let f : Some n ≡ Some m =
        sym e ∙ ap (slice_get net.machines) (sym same) ∙ at in cc in
        subst (λ (x : Machine). IsTrue (fits x.vars s.codes)) is h.0

-- code executes no more on the first reactions than on all
steps_first : (code : List Instr) (k : ℕ) (journal : List Entry) (i : ℕ)
    → steps_on code (reactions_of k (take i journal)) ≤ steps_on code (reactions_of k journal)
steps_first code k journal i =
    let first = reactions_of k (take i journal) in
    let rest = reactions_of k (drop i journal) in
    let whole : reactions_of k journal ≡ first ++ rest =
    ap (reactions_of k) (sym (take-append-drop i journal))
    ∙ filter_map-append (read_by k) (take i journal) (drop i journal) in
    let both : steps_on code (reactions_of k journal)
    ≡ sum_by (StepsOf code) first + sum_by (StepsOf code) rest =
    ap (steps_on code) whole ∙ sum-map (StepsOf code) (first ++ rest)
    ∙ sum_by-append (StepsOf code) first rest in
    let one : steps_on code first ≡ sum_by (StepsOf code) first = sum-map (StepsOf code) first in
    omega (arith, both, one)

first_few : (i : ℕ) (journal : List Entry) → length (take i journal) ≤ i
first_few zero [] = omega arith
first_few zero (x ∷ xs) = omega arith
first_few (suc i) [] = omega arith
first_few (suc i) (x ∷ xs) = let h = first_few i xs in omega arith

-- so the tallies of the first entries leave room
pub tallies_few : (net : Network) (all : List (List Instr)) (journal : List Entry) (i : ℕ)
    (ts : List Tally)
    → length all ≡ length net.machines
    → CountsFit all journal
    → i < length journal
    → i + 1 < 2 ^ 64
    → AreTallies net all (take i journal) ts
    → AreFew ts
tallies_few net all journal i ts many room within long a k t at_t =
    let low : k < length net.machines = let l = slice_get_within ts k t at_t in let e = a.long in
    omega arith in
    let m = some_at net.machines k low in
    let c = some_at all k (omega (arith, low, many)) in
    let is = a.each k m.0 c.0 t m.1 c.1 at_t in
    let tries = is.tries in
    let one = few_reactions k (take i journal) in
    let first = first_few i journal in
    (omega arith, ⊎_elim (short is.few is.tries) (counted c.0 c.1 is.steps) room)
  where
    short : t.steps ≤ CODE_MAX * t.tries
        → t.tries ≡ length (reactions_of k (take i journal))
        → length journal ≤ ENTRIES_MAX
        → t.steps < 2 ^ 62
    short few tries entries =
        let one = few_reactions k (take i journal) in
        let first = first_few i journal in
        omega (arith, few, tries, entries, one, first, within)

    counted : (code : List Instr) → slice_get all k ≡ Some code
        → t.steps ≡ steps_on code (reactions_of k (take i journal))
        → ((j : ℕ) (d : List Instr) → slice_get all j ≡ Some d
        → steps_on d (reactions_of j journal) < 2 ^ 62)
        → t.steps < 2 ^ 62
    counted code at_code steps each =
        let most = each k code at_code in
        let grow = steps_first code k journal i in
        omega (arith, steps, most, grow)

-- ---- a journal from its first entries
pub journal_first : (net : Network) (journal : List Entry) (k : ℕ) → IsJournal net journal
    → IsJournal net (take k journal)
journal_first net [] zero j = tt
journal_first net [] (suc k) j = tt
journal_first net (entry ∷ entries) zero j = tt
journal_first net (entry ∷ entries) (suc k) j = (j.0, journal_first net entries k j.1)

-- ---- at a reaction
-- what is known of the machine that reacts, and of its tally
pub record Here (net : Network) (ts : List Tally) (k : ℕ) (s : Snapshot) (before : Tally) : Type 0
  where
    pub machine : Machine
    pub there : slice_get net.machines k ≡ Some machine
    pub at_tally : slice_get ts k ≡ Some before
    pub low : k < length ts
    pub snapshot : IsTrue (fits machine.vars s.codes)
    pub widths : HasWidths machine before.outcome

-- a machine of that number
reacting : (net : Network) (k : ℕ) (s : Snapshot) (o : Outcome) → FitsNetwork net (Rea k s o)
    → k < length net.machines
reacting net k s o fit = go (slice_get net.machines k) refl fit
  where
    go : (x : Option Machine) → slice_get net.machines k ≡ x
        → IsSomeAnd x (λ machine. IsSnapshot machine s × IsOutcome machine o)
        → k < length net.machines
    go None e h = absurd h
    go (Some m) e h = slice_get_within net.machines k m e

pub reacts_within : (net : Network) (entry : Entry) (k : ℕ) (s : Snapshot) (o : Outcome)
    → FitsNetwork net entry → entry ≡ Rea k s o → k < length net.machines
reacts_within net entry k s o fit is = reacting net k s o (subst (FitsNetwork net) is fit)

pub here : (net : Network) (all : List (List Instr)) (ts : List Tally) (entry : Entry) (k : ℕ)
    (s : Snapshot) (o : Outcome) (c : List Instr) (before : Tally)
    → FitsNetwork net entry
    → entry ≡ Rea k s o
    → slice_get all k ≡ Some c
    → before ≡ get_or ts k before
    → ((seen : List Entry) × AreTallies net all seen ts)
    → Here net ts k s before
here net all ts entry k s o c before fit is at_c value tallied =
    let fits_here = subst (FitsNetwork net) is fit in
    let low : k < length net.machines = reacting net k s o fits_here in
    let m = some_at net.machines k low in
    let low_tally : k < length ts = let e = tallied.1.long in omega arith in
    let tally : slice_get ts k ≡ Some before =
    slice_get_read ts (length ts) k before refl low_tally value in
    record {
      machine = m.0;
      there = m.1;
      at_tally = tally;
      low = low_tally;
      snapshot = snapshot_of net k m.0 k s o m.1 refl fits_here;
      widths = (tallied.1.each k m.0 c before m.1 at_c tally).widths;
    }

-- the tally at a machine
pub tally_at : (net : Network) (all : List (List Instr)) (journal : List Entry) (ts : List Tally)
    (k : ℕ) (m : Machine) (c : List Instr) (t : Tally)
    → AreTallies net all journal ts
    → slice_get net.machines k ≡ Some m
    → slice_get all k ≡ Some c
    → t ≡ get_or ts k t
    → IsTally m c (reactions_of k journal) t
tally_at net all journal ts k m c t tallied at_m at_c value =
    let low : k < length ts = let l = slice_get_within net.machines k m at_m in
    let e = tallied.long in omega arith in
    tallied.each k m c t at_m at_c (slice_get_read ts (length ts) k t refl low value)

-- the code of a compiled machine is the reactor's
pub code_at : (all : List (List Instr)) (cs : List Compiled) (k : ℕ) (c : Compiled)
    → all ≡ codes_in (parts_of cs) → slice_get cs k ≡ Some c → slice_get all k ≡ Some c.code
code_at all cs k c same at =
    ap (λ (xs : List (List Instr)). slice_get xs k) same
    ∙ slice_get-map (λ (q : Part). q.code) (parts_of cs) k
    ∙ ap (option_map (λ (q : Part). q.code)) (slice_get-map part_of_compiled cs k)
    ∙ ap (λ (o : Option Compiled). option_map (λ (q : Part). q.code) (option_map part_of_compiled o))
    at
