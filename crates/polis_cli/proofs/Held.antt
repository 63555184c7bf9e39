-- What the same texts hold is the same, whatever they are named.
use Rattle.std.proofs.Common.{◌≡◌, ◌↔◌, ℕ, Bool, true, false, List, [], ◌∷◌, Option, Some, None, Ok, Err, IsTrue, refl, ap, sym, subst, ◌∙◌}
use Rattle.std.specs.Prelude.{Result, option_to_list}
use Rattle.polis_base.specs.Host.{Files, bytes_at}
use Rattle.transition_table.specs.declared.network.Network.{Network}
use Rattle.net_reader.specs.Sentences.{HasNet}
use Rattle.net_reader.specs.declared.raw.RawNet.{RawNet}
use Rattle.journals.specs.declared.entry.Entry.{Entry}
use Rattle.journals.specs.declared.entry.TraceItem.{TraceItem}
use Rattle.journal_text.specs.Reading.{read_of}
use Rattle.journal_text.specs.declared.fault.JournalFault.{JournalFault}
use Rattle.trace_text.specs.Traces.{trace_of}
use Rattle.input_files.specs.Inputs.{HoldsDeclared, HoldsText, HoldsTrace}
use Rattle.input_files.specs.JournalFiles.{HoldsJournal}
use Rattle.polis_cli.specs.OneProduct.{held_under}
use Rattle.polis_cli.specs.Survey.{HoldsMonitorOf}
use Rattle.commands.proofs.OneNet.{one_held_net, one_net_of, one_raw}
use Rattle.commands.proofs.RunsWhole.{one_trace as same_ok}

-- ---- lists of texts
pub first_same : {X : Type 0} {a b : X} {xs ys : List X} → a ∷ xs ≡ b ∷ ys → a ≡ b
first_same e = cc

pub others_same : {X : Type 0} {a b : X} {xs ys : List X} → a ∷ xs ≡ b ∷ ys → xs ≡ ys
others_same e = cc

-- ---- one file
-- two names under which the same is held have one text
pub one_text : (before now : Files) (name other : List ℕ) (max most : ℕ) (x y : List ℕ)
    → bytes_at before name ≡ bytes_at now other → HoldsText before max name x
    → HoldsText now most other y → x ≡ y
one_text before now name other max most x y same a b =
    let first = a.held in
    let second = b.held in
    cc

-- two networks with their declarations that one text gives are one
pub record AreDeclared (raw other : RawNet) (a b : Network) : Type 0 where
  pub raw_same : raw ≡ other
  pub net_same : a ≡ b

pub one_declared : (before now : Files) (name other : List ℕ) (x y : RawNet) (a b : Network)
    → bytes_at before name ≡ bytes_at now other → HoldsDeclared before name x a
    → HoldsDeclared now other y b → AreDeclared x y a b
one_declared before now name other x y a b same one two =
    let texts = one_text before now name other _ _ one.text two.text same one.holds two.holds in
    let has = subst (λ (t : List ℕ). HasNet t y) (sym texts) two.declares.has in
    record {
      raw_same = one_raw one.text x y one.declares.has has;
      net_same = one_net_of one.text a b (x, one.declares.has, one.declares.is_net)
          (y, has, two.declares.is_net);
    }

-- ---- files of a network

-- one text is of one trace
pub one_trace : (before now : Files) (name other : List ℕ) (a b : Network) (t u : List TraceItem)
    → a ≡ b → bytes_at before name ≡ bytes_at now other → HoldsTrace before name a t
    → HoldsTrace now other b u → t ≡ u
one_trace before now name other a b t u net same one two =
    let texts = one_text before now name other _ _ one.text two.text same one.holds two.holds in
    let read = ap (λ (n : Network). trace_of n one.text) net
    ∙ ap (λ (text : List ℕ). trace_of b text) texts in
    same_ok (trace_of b two.text) t u (sym read ∙ one.read) two.read

-- the journal that was read
abbrev journal_in : Result (List Entry × Option (List ℕ) × Bool) JournalFault → List Entry
journal_in (Ok (journal, stamps, word)) = journal
journal_in (Err fault) = []

-- one text is of one journal
pub one_journal : (before now : Files) (name other : List ℕ) (a b : Network) (j k : List Entry)
    (s t : Option (List ℕ)) → a ≡ b → bytes_at before name ≡ bytes_at now other
    → HoldsJournal before name a j s → HoldsJournal now other b k t → j ≡ k
one_journal before now name other a b j k s t net same one two =
    let texts = one_text before now name other _ _ one.text two.text same one.holds two.holds in
    let read = ap (λ (n : Network). read_of n one.text) net
    ∙ ap (λ (text : List ℕ). read_of b text) texts in
    ap journal_in (sym one.read ∙ read ∙ two.read)

-- one text is of one monitor, where one is named
pub one_monitor : (before now : Files) (named others : Option (List ℕ)) (a b : Network)
    (m n : Option Network)
    → held_under before (option_to_list named) ≡ held_under now (option_to_list others)
    → HoldsMonitorOf named before a m → HoldsMonitorOf others now b n → m ≡ n
one_monitor before now None None a b None None same one two = refl
one_monitor before now None None a b None (Some n) same one two = absurd two
one_monitor before now None None a b (Some m) n same one two = absurd one
one_monitor before now None (Some other) a b m n same one two = cc
one_monitor before now (Some name) None a b m n same one two = cc
one_monitor before now (Some name) (Some other) a b None n same one two = absurd one
one_monitor before now (Some name) (Some other) a b (Some m) None same one two = absurd two
one_monitor before now (Some name) (Some other) a b (Some m) (Some n) same one two =
    ap Some (one_held_net before now name other m n (first_same same) one.holds two.holds)

-- ---- what is so of both
-- two answers to one question are one
pub same_answer : (x y : Bool) (P : Type 0) → IsTrue x ↔ P → IsTrue y ↔ P → x ≡ y
same_answer true true P a b = refl
same_answer true false P a b = let yes' = b.1 (a.0 refl) in cc
same_answer false true P a b = let yes' = a.1 (b.0 refl) in cc
same_answer false false P a b = refl
