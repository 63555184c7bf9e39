-- Lists of items that are written one after another.
use Rattle.std.proofs.Common.{◌≡◌, ◌<◌, ℕ, zero, suc, Bool, true, false, nat_lt, nat_le, List, ◌∷◌, ◌++◌, ◌⊎◌, inl, inr, map, length, refl, sym, ◌∙◌, arith, []}
use Rattle.std.specs.Prelude.{IsTrue, flat_map}
use Rattle.std.proofs.lemmas.Bool.{ltb-true, lt-ltb, le-leb}
use Rattle.domains.specs.Tables.{fits}
use Rattle.transition_table.specs.NetworkFacts.{event_values}
use Rattle.journals.specs.Journals.{is_event_code, IsJournal, FitsNetwork, emitted}
use Rattle.journals.specs.declared.entry.Entry.{Entry}
use Rattle.std.specs.List.{zip}
use Rattle.transition_table.specs.declared.decl.EventDecl.{EventDecl}
use Rattle.transition_table.specs.declared.network.Network.{Network}
use Rattle.journal_text.specs.Texts.{spaced, space, stamped_line}
use Rattle.journal_text.specs.inner.Texts.{end_mark, event_size, are_event_codes, output_lines}
use Rattle.std.proofs.lemmas.List.{append-nil}
use Rattle.polis_base.proofs.Bools.{and_first}

-- what is still to be written of these items, where some were or none was
abbrev pub still : Bool → List (List ℕ) → List ℕ
still true items = flat_map (λ next. space ++ next) items
still false items = spaced items

-- What a loop over things and their codes keeps: the codes left fit the sizes of the things left,
-- and what is written, with the items left, is the whole.
pub record ItemsLeft {X : Type 0} (size : X → ℕ) (items : List X → List ℕ → List (List ℕ))
    (whole into : List ℕ) (some : Bool) (things : List X) (codes : List ℕ) : Type 0 where
  pub fit : IsTrue (fits (map size things) codes)
  pub text : into ++ still some (items things codes) ≡ whole

-- the first code is below the first size
pub head_fits : {X : Type 0} (size : X → ℕ) (things rest : List X) (codes rest_codes : List ℕ)
    (thing : X) (code : ℕ) → things ≡ thing ∷ rest → codes ≡ code ∷ rest_codes
    → IsTrue (fits (map size things) codes) → code < size thing
head_fits size things rest codes rest_codes thing code p q h =
    let f = rw (p, q) at h in
    ltb-true _ _ (and_first _ (fits (map size rest) rest_codes) f)

-- one list at its end is both
ends : {X : Type 0} (size : X → ℕ) (things : List X) (codes : List ℕ)
    → IsTrue (fits (map size things) codes) → (things ≡ []) ⊎ (codes ≡ [])
    → (things ≡ []) × (codes ≡ [])
ends size [] [] h e = (refl, refl)
ends size (thing ∷ things) (code ∷ codes) h e = elim e [ inl p ↦ cc | inr p ↦ cc ]
ends size [] (code ∷ codes) h e = cc
ends size (thing ∷ things) [] h e = cc

-- at the end all items are written
pub all_written : {X : Type 0} (size : X → ℕ) (items : List X → List ℕ → List (List ℕ))
    (whole into : List ℕ) (some : Bool) (things : List X) (codes : List ℕ)
    → items [] [] ≡ [] → ItemsLeft size items whole into some things codes
    → (things ≡ []) ⊎ (codes ≡ []) → into ++ end_mark some ≡ whole
all_written size items whole into some things codes none left e =
    let both = ends size things codes left.fit e in
    let t = left.text in
    let u = rw (both.0, both.1, none) at t in
    at_end some u
  where
    at_end : (some : Bool) → into ++ still some [] ≡ whole → into ++ end_mark some ≡ whole
    at_end true h = h
    at_end false h = h

-- a code above 0 that fits is of the event
pub code_fits : (net : Network) (e code : ℕ) → 0 < code → code < event_size net e
    → is_event_code net e code ≡ true
code_fits net e code some below =
    let there : e < length net.events = declared net.events e (omega arith) in
    let first : nat_lt e (length net.events) ≡ true = lt-ltb _ _ there in
    let second : nat_le 1 code ≡ true = le-leb _ _ (omega arith) in
    let third : nat_le code (event_values net.domains net.events e) ≡ true =
    le-leb _ _ (omega arith) in
    rw (first, second, third) refl
  where
    declared : (events : List EventDecl) (e : ℕ) → 0 < event_values net.domains events e
        → e < length events
    declared [] e h = absurd (omega arith)
    declared (event ∷ events) zero h = omega arith
    declared (event ∷ events) (suc e) h = let n = declared events e h in omega arith

-- What a loop over a journal keeps: the entries left fit the network, and what is written, with the
-- text of the entries left, is the whole.
pub record EntriesLeft (net : Network) (text_of : List Entry → List ℕ) (whole into : List ℕ)
    (entries : List Entry) : Type 0 where
  pub fit : IsJournal net entries
  pub text : into ++ text_of entries ≡ whole

-- The same over entries with their stamps.
pub record StampedLeft (net : Network) (whole into : List ℕ) (stamps : List ℕ)
    (entries : List Entry) : Type 0 where
  pub fit : IsJournal net entries
  pub text : into ++ flat_map (stamped_line net) (zip stamps entries) ≡ whole

-- at the end all lines are written
pub stamped_written : (net : Network) (whole into : List ℕ) (stamps : List ℕ) (entries : List Entry)
    → StampedLeft net whole into stamps entries → (stamps ≡ []) ⊎ (entries ≡ []) → into ≡ whole
stamped_written net whole into stamps entries left e =
    let none = no_pairs stamps entries e in
    let t = left.text in
    let u = rw none at t in
    sym (append-nil into) ∙ u
  where
    no_pairs : (stamps : List ℕ) (entries : List Entry) → (stamps ≡ []) ⊎ (entries ≡ [])
        → zip stamps entries ≡ []
    no_pairs [] entries h = refl
    no_pairs (t ∷ stamps) [] h = refl
    no_pairs (t ∷ stamps) (entry ∷ entries) h = elim h [ inl p ↦ cc | inr p ↦ cc ]

-- the first entry fits, and what is left does
pub head_entry : (net : Network) (entries rest : List Entry) (entry : Entry)
    → entries ≡ entry ∷ rest → IsJournal net entries → FitsNetwork net entry × IsJournal net rest
head_entry net entries rest entry e h = rw e at h

-- The same over events and their codes, of which those that go to the environment are written.
pub record OutputsLeft (net : Network) (whole into : List ℕ) (events codes : List ℕ) : Type 0 where
  pub fit : IsTrue (are_event_codes net events codes)
  pub text : into ++ output_lines net (emitted events codes) ≡ whole

-- at the end all lines are written
pub outputs_written : (net : Network) (whole into : List ℕ) (events codes : List ℕ)
    → OutputsLeft net whole into events codes → (events ≡ []) ⊎ (codes ≡ []) → into ≡ whole
outputs_written net whole into events codes left e =
    let both = ends (event_size net) events codes left.fit e in
    let t = left.text in
    let u = rw (both.0) at t in
    sym (append-nil into) ∙ u
