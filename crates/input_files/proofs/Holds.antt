-- What files hold, from what was loaded and read of them.
use Rattle.std.proofs.Common.{◌≡◌, ◌⊎◌, ◌<◌, ◌+◌, inl, inr, ℕ, Bool, List, length, Option, Some, None, Ok, slice_get, subst, sym, [], ◌∷◌, ◌++◌, append_assoc, arith}
use Rattle.std.proofs.lemmas.List.{append-nil}
use Rattle.std.proofs.lemmas.Option.{slice_get_within}
use Rattle.std.proofs.Math.Nat.{eq-or-lt_of_le}
use Rattle.polis_base.specs.declared.limits.TheConstants.{LONG_FILE_MAX, TEXT_MAX}
use Rattle.polis_base.specs.Host.{Files, bytes_at, WhereTold}
use Rattle.polis_base.specs.declared.token.Token.{Token}
use Rattle.transition_table.specs.declared.machine.Machine.{Machine}
use Rattle.transition_table.specs.declared.network.Network.{Network}
use Rattle.transition_table.specs.Transitions.{IsDeterministic, AreDeterministic}
use Rattle.net_reader.specs.declared.raw.RawNet.{RawNet}
use Rattle.net_reader.specs.Lexemes.{Lexeme, lexemes}
use Rattle.net_reader.specs.Grammar.{IsNet}
use Rattle.net_reader.specs.Sentences.{HasNet, BreaksAt, Stops}
use Rattle.net_rules.specs.NetOf.{NetOf}
use Rattle.journals.specs.declared.entry.Entry.{Entry}
use Rattle.journal_text.specs.Reading.{read_of}
use Rattle.input_files.specs.Accepted.{Accepted, AreBefore, Declares}
use Rattle.input_files.specs.Inputs.{HoldsText, HoldsNet, HoldsDeclared}
use Rattle.input_files.specs.JournalFiles.{HoldsJournal}
use Rattle.polis_base.proofs.WhereTold.{told_from}

-- a sentence has no place at which it breaks
pub no_break : (text : List ℕ) (raw : RawNet) (place : ℕ) → HasNet text raw
    → BreaksAt text place → ⊥
no_break text raw place has breaks =
    let same : breaks.tokens ≡ has.tokens = let a = breaks.read in let b = has.read in cc in
    let sentence = subst (λ (tokens : List Token). IsNet raw (lexemes text tokens)) (sym same)
    has.sentence in
    none breaks.before breaks.rest (subst (IsNet raw) breaks.split sentence) breaks.stops
  where
    none : (before rest : List Lexeme) → IsNet raw (before ++ rest) → Stops before rest → ⊥
    none before [] sentence stops = stops raw (subst (IsNet raw) (append-nil before) sentence)
    none before (l ∷ rest) sentence stops =
        stops (rest, raw, subst (IsNet raw) (sym (append_assoc before (l ∷ []) rest)) sentence)

-- one text is held under a name
pub one_text : (held : Option (List ℕ)) (a b : List ℕ) → held ≡ Some a → held ≡ Some b → b ≡ a
one_text held a b h k = cc

-- the network that is held under the name is the only one
pub one_net : (o : Option Files) (name text : List ℕ) (net : Network)
    → WhereTold o (λ files. HoldsText files TEXT_MAX name text)
    → ((other : Network) → NetOf text other → other ≡ net)
    → WhereTold o (λ files. (other : Network) → HoldsNet files name other → other ≡ net)
one_net None name text net a one = tt
one_net (Some files) name text net a one =
    λ other h. one other
    (subst (λ (t : List ℕ). NetOf t other)
    (one_text (bytes_at files name) text h.text a.held h.holds.held) h.accepted.0)

-- one machine more is deterministic
pub before_next : (net : Network) (place : ℕ) (machine : Machine) → AreBefore net place
    → slice_get net.machines place ≡ Some machine → IsDeterministic machine
    → AreBefore net (place + 1)
before_next net place machine before there is k other below at = one (eq-or-lt_of_le (omega arith))
  where
    one : (k ≡ place) ⊎ (k < place) → IsDeterministic other
    one (inr less) = before k other less at
    one (inl same) =
        let there' : slice_get net.machines place ≡ Some other = rw same at at in
        let eq : machine ≡ other = cc in
        subst IsDeterministic eq is

-- all machines are deterministic
pub all_before : (net : Network) (place : ℕ) → AreBefore net place → place ≡ length net.machines
    → AreDeterministic net
all_before net place before whole = λ k machine at.
    let below : k < place = let w = slice_get_within net.machines k machine at in omega arith in
    before k machine below at

-- a network text is held under the name, and accepted
pub declared_held : (o : Option Files) (name text : List ℕ) (raw : RawNet) (net : Network)
    → WhereTold o (λ files. HoldsText files TEXT_MAX name text) → Declares text raw net
    → WhereTold o (λ files. HoldsDeclared files name raw net)
declared_held o name text raw net held declares =
    told_from o (λ files. HoldsText files TEXT_MAX name text) _
    (λ files h. record { text = text; holds = h; declares = declares }) held

-- what is declared aside
pub declared_net : (files : Files) (name : List ℕ) (raw : RawNet) (net : Network)
    → HoldsDeclared files name raw net → HoldsNet files name net
declared_net files name raw net h = record {
  text = h.text;
  holds = h.holds;
  accepted = ((raw, h.declares.has, h.declares.is_net), h.declares.deterministic);
}

-- the same where nothing else is kept of the text
pub net_held : (o : Option Files) (name text : List ℕ) (net : Network)
    → WhereTold o (λ files. HoldsText files TEXT_MAX name text) → Accepted text net
    → WhereTold o (λ files. HoldsNet files name net)
net_held o name text net held accepted =
    told_from o (λ files. HoldsText files TEXT_MAX name text) _
    (λ files h. record { text = text; holds = h; accepted = accepted }) held

-- a journal text of the network is held under the name, and read
pub journal_held : (o : Option Files) (net : Network) (name text : List ℕ) (journal : List Entry)
    (stamps : Option (List ℕ)) (word : Bool)
    → WhereTold o (λ files. HoldsText files LONG_FILE_MAX name text)
    → read_of net text ≡ Ok (journal, stamps, word)
    → WhereTold o (λ files. HoldsJournal files name net journal stamps)
journal_held o net name text journal stamps word held read =
    told_from o (λ files. HoldsText files LONG_FILE_MAX name text) _
    (λ files h. record { text = text; holds = h; word = word; read = read }) held
