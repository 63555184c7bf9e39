-- A list of items that is read item by item.
use Rattle.std.proofs.Common.{◌≡◌, ◌<◌, ◌≤◌, ◌+◌, ℕ, zero, suc, true, List, [], ◌∷◌, ◌++◌, map, length, drop, Option, Some, None, is_some, Result, Ok, Err, OnOk, get_or, slice_get, refl, sym, ◌∙◌, ap, arith, Bor, option_copied}
use Rattle.std.proofs.lemmas.Bool.{false≢true}
use Rattle.std.proofs.lemmas.List.{append_assoc, append-nil, get_or_default}
use Rattle.transition_table.specs.declared.decl.EventDecl.{EventDecl}
use Rattle.transition_table.specs.declared.network.Network.{Network}
use Rattle.journal_text.specs.Forms.{Text, Texts}
use Rattle.polis_base.specs.Pieces.{pieces, left}
use Rattle.journal_text.specs.Items.{Named, as_event, map_read, with_code, some_codes, all_values}
use Rattle.journal_text.specs.Steps.{Steps, GivesValue}
use Rattle.journal_text.specs.inner.Steps.{ReadsItems, Takes, Halts}
use Rattle.journal_text.specs.declared.fault.JournalKind.{JournalKind}
use Rattle.journal_text.specs.declared.fault.JournalKind.TheVariants.{Name}
use Rattle.polis_base.proofs.TextPieces.{some_piece}

-- ---- one thing

one_more : (old : List ℕ) (code : ℕ) (r : Result (List ℕ) JournalKind)
    → map_read (λ more. old ++ more) (with_code (Some code) r)
    ≡ map_read (λ more. (old ++ code ∷ []) ++ more) r
one_more old code (Ok more) = ap Ok (sym (append_assoc old (code ∷ []) more))
one_more old code (Err kind) = refl

-- a step with its code put at the end
pub takes_code : (net : Network) (named : Named) (items after : Texts) (old new : List ℕ) (code : ℕ)
    → Steps net named items code after → new ≡ old ++ code ∷ []
    → Takes (some_codes net) named items old new after
takes_code net named items after old new code step is things =
    ap (map_read (λ more. old ++ more)) (step things)
    ∙ one_more old code (some_codes net things after)
    ∙ ap (λ (l : List ℕ). map_read (λ more. l ++ more) (some_codes net things after)) (sym is)

pub takes_value : (net : Network) (named : Named) (items after : Texts) (old new : List ℕ)
    (value : ℕ) → GivesValue net named items value after → new ≡ old ++ value ∷ []
    → Takes (all_values net) named items old new after
takes_value net named items after old new value step is things =
    ap (map_read (λ more. old ++ more)) (step things)
    ∙ one_more old value (all_values net things after)
    ∙ ap (λ (l : List ℕ). map_read (λ more. l ++ more) (all_values net things after)) (sym is)

-- ---- one thing after the other

-- these codes stand in place of those before, and what is left is to be read for the things that
-- are left
abbrev pub Taken : ReadsItems → List Named → Texts → List ℕ → List ℕ → List Named → Texts → Type 0
Taken read things items before codes rest after =
    map_read (λ more. before ++ more) (read things items)
    ≡ map_read (λ more. codes ++ more) (read rest after)

pub taken_start : (read : ReadsItems) (things : List Named) (items : Texts) (codes : List ℕ)
    (after : Texts) → after ≡ items → Taken read things items codes codes things after
taken_start read things items codes after all =
    ap (λ ws. map_read (λ more. codes ++ more) (read things ws)) (sym all)

pub taken_more : (read : ReadsItems) (things : List Named) (items : Texts)
    (before codes next : List ℕ) (now rest : List Named) (thing : Named) (at after : Texts)
    → Taken read things items before codes now at → now ≡ thing ∷ rest
    → Takes read thing at codes next after → Taken read things items before next rest after
taken_more read things items before codes next now rest thing at after taken is takes =
    taken ∙ ap (λ ts. map_read (λ more. codes ++ more) (read ts at)) is ∙ takes rest

fault_under : (before : List ℕ) (r : Result (List ℕ) JournalKind) (kind : JournalKind)
    → map_read (λ values. before ++ values) r ≡ Err kind → r ≡ Err kind
fault_under before (Ok values) kind h = cc
fault_under before (Err k) kind h = cc

-- a fault at the next thing
pub halted : (read : ReadsItems) (things : List Named) (items : Texts) (before codes : List ℕ)
    (now rest : List Named) (thing : Named) (at : Texts) (kind : JournalKind)
    → Taken read things items before codes now at → now ≡ thing ∷ rest → Halts read thing at kind
    → read things items ≡ Err kind
halted read things items before codes now rest thing at kind taken is halts =
    fault_under before (read things items) kind
    (taken ∙ ap (λ ts. map_read (λ more. codes ++ more) (read ts at)) is
    ∙ ap (map_read (λ more. codes ++ more)) (halts rest))

-- items that are left when all things are read
pub left_over : (read : ReadsItems) → ((item : Text) (ws : Texts) → read [] (item ∷ ws) ≡ Err Name)
    → (things : List Named) (items : Texts) (before codes : List ℕ) (now : List Named)
    (cursor : Option (Bor Text))
    → Taken read things items before codes now (left 32 (option_copied cursor)) → now ≡ []
    → is_some cursor ≡ true → read things items ≡ Err Name
left_over read over things items before codes now None taken none some = absurd (false≢true some)
left_over read over things items before codes now (Some text) taken none some =
    let s = some_piece 32 text.now in
    fault_under before (read things items) Name
    (taken ∙ ap (λ ts. map_read (λ more. codes ++ more) (read ts (pieces 32 text.now))) none
    ∙ ap (λ ws. map_read (λ more. codes ++ more) (read [] ws)) s.2
    ∙ ap (map_read (λ more. codes ++ more)) (over s.0 s.1))

-- no item is left, and no thing
pub all_read : (read : ReadsItems) → read [] [] ≡ Ok [] → (things : List Named) (items : Texts)
    (before codes : List ℕ) (now : List Named) (cursor : Option (Bor Text))
    → Taken read things items before codes now (left 32 (option_copied cursor)) → now ≡ []
    → cursor ≡ None → map_read (λ more. before ++ more) (read things items) ≡ Ok codes
all_read read end things items before codes now cursor taken none over =
    taken ∙ ap (λ ts. map_read (λ more. codes ++ more) (read ts (left 32 (option_copied cursor)))) none
    ∙ ap (λ (o : Option (Bor Text)). map_read (λ more. codes ++ more)
    (read [] (left 32 (option_copied o)))) over
    ∙ ap (map_read (λ more. codes ++ more)) end ∙ ap Ok (append-nil codes)

pub on_ok_then : {A E P Q : Type 0} (r : Result A E) → OnOk r P → (P → Q) → OnOk r Q
on_ok_then (Ok a) h f = f h
on_ok_then (Err e) h f = tt

-- read from no codes on
pub from_none : (before codes : List ℕ) (r : Result (List ℕ) JournalKind) → before ≡ []
    → map_read (λ more. before ++ more) r ≡ Ok codes → r ≡ Ok codes
from_none before codes (Ok more) none is =
    ap (λ (l : List ℕ). Ok (l ++ more)) (sym none) ∙ is
from_none before codes (Err kind) none is = cc

-- ---- the things of a list

next_suc : {X : Type 0} (f : X → Named) (xs : List X) (i : ℕ) (x : X) → i < length xs
    → x ≡ get_or xs i x → map f (drop i xs) ≡ f x ∷ map f (drop (suc i) xs)
next_suc f [] i x low is = absurd (omega arith)
next_suc f (y ∷ xs) zero x low is = ap (λ z. f z ∷ map f xs) (sym is)
next_suc f (y ∷ xs) (suc i) x low is = next_suc f xs i x (omega arith) is

pub next_thing : {X : Type 0} (f : X → Named) (xs : List X) (i : ℕ) (x : X) → i < length xs
    → x ≡ get_or xs i x → map f (drop i xs) ≡ f x ∷ map f (drop (i + 1) xs)
next_thing f xs i x low is =
    let one : suc i ≡ i + 1 = omega arith in
    next_suc f xs i x low is ∙ ap (λ k. f x ∷ map f (drop k xs)) one

-- the same of numbers, which are read from a list by the place
pub next_number : (f : ℕ → Named) (xs : List ℕ) (i : ℕ) → i < length xs
    → map f (drop i xs) ≡ f (get_or xs i 0) ∷ map f (drop (i + 1) xs)
next_number f xs i low =
    next_thing f xs i (get_or xs i 0) low (get_or_default xs i 0 (get_or xs i 0) low)

pub event_is : (net : Network) (e : ℕ) (event : EventDecl) → slice_get net.events e ≡ Some event
    → (event.name, event.domain) ≡ as_event net e
event_is net e event at = rw at refl

pub no_things : {X : Type 0} (f : X → Named) (xs : List X) (i : ℕ) → length xs ≤ i
    → map f (drop i xs) ≡ []
no_things f [] zero over = refl
no_things f [] (suc i) over = refl
no_things f (x ∷ xs) zero over = absurd (omega arith)
no_things f (x ∷ xs) (suc i) over = no_things f xs i (omega arith)
