-- A sentence that goes on to another one.
use Rattle.std.proofs.Common.{◌≡◌, ◌⊎◌, inl, inr, ℕ, Bool, true, false, List, [], ◌∷◌, ◌++◌, Ok, refl, sym, ◌∙◌, ap, subst, append_assoc, append-nil}
use Rattle.polis_base.specs.declared.token.Keyword.TheVariants.{KwNetwork, KwVersion, KwDomain, KwEvent, KwMachine}
use Rattle.polis_base.specs.declared.token.Kind.TheVariants as kinds
use Rattle.net_reader.specs.Lexemes.{Lexeme}
use Rattle.net_reader.specs.Grammar.{Part, Each, OneAnd, IsMachine, IsDomain, IsEvent, IsNet}
use Rattle.net_reader.specs.Reading.{Answer, Rule, begins, is, many, domain_at, event_at}
use Rattle.net_reader.specs.Sentences.{HasFirstMachines}
use Rattle.net_reader.specs.declared.raw.RawEvent.{RawEvent}
use Rattle.net_reader.specs.declared.raw.RawMachine.{RawMachine}
use Rattle.net_reader.specs.declared.raw.RawNet.{RawNet}
use Rattle.net_reader.proofs.Laws.{Laws, Apart, none, joined, follows}
use Rattle.net_reader.proofs.Combinators.{many_laws}
use Rattle.net_reader.proofs.Tokens.{apart, within, only_laws, word_laws, num_laws}
use Rattle.net_reader.proofs.DeclarationLaws.{domain_laws, event_laws, event_goes}
use Rattle.net_reader.proofs.MachineLaws.{machine_laws}

same_ok : {A : Type 0} (x y : A × List Lexeme) → ◌≡◌ {A = Answer A} (Ok x) (Ok y) → x ≡ y
same_ok x y h = cc

none_begins : (ls : List Lexeme) → begins none ls ≡ false
none_begins [] = refl
none_begins (l ∷ ls) = refl

-- What a rule reads at the beginning of a list and at that of a longer one is the same, and so is
-- what follows.
next : {A : Type 0} {p : Rule A} {P : A → Part} {s g : ℕ → Bool} {e : Bool} → Laws p P s g e
    → (a b : A) (u v x y z w more : List Lexeme) → u ≡ x ++ y → P a x → v ≡ z ++ w → P b z
    → u ++ more ≡ v → begins g (y ++ more) ≡ false → begins g w ≡ false
    → (a ≡ b) × (y ++ more ≡ w)
next {p = p} laws a b u v x y z w more k f l h same calm quiet =
    let split : x ++ (y ++ more) ≡ z ++ w = sym (append_assoc x y more)
    ∙ ap (λ (m : List Lexeme). m ++ more) (sym k) ∙ same ∙ l in
    let both = same_ok (a, y ++ more) (b, w)
    (sym (laws.complete x (y ++ more) a f calm) ∙ ap p split ∙ laws.complete z w b h quiet) in
    (ap (λ (m : _ × List Lexeme). m.0) both, ap (λ (m : _ × List Lexeme). m.1) both)

-- the machines

abbrev is_machine : ℕ → Bool
is_machine = is (kinds.Keyword KwMachine)

machine_first : (version : ℕ) (m : RawMachine) (ts : List Lexeme) → IsMachine version m ts
    → begins is_machine ts ≡ true
machine_first version m ts f = first ((machine_laws version).first ts m f)
  where
    first : (begins is_machine ts ≡ true) ⊎ ((false ≡ true) × (ts ≡ [])) → begins is_machine ts ≡ true
    first (inl h) = h
    first (inr h) = absurd (cc h.0)

begins_on : (test : ℕ → Bool) (x y : List Lexeme) → begins test x ≡ true
    → begins test (x ++ y) ≡ true
begins_on test [] y h = absurd cc
begins_on test (l ∷ x) y h = h

-- the machines ns are the machines ms, and then others, which the further tokens declare
pub record GoOn (version : ℕ) (ms ns : List RawMachine) (more : List Lexeme) : Type 0 where
  pub others : List RawMachine
  pub all : ns ≡ ms ++ others
  pub declared : Each (IsMachine version) others more

each_go_on : (version : ℕ) (ms ns : List RawMachine) (u v more : List Lexeme)
    → Each (IsMachine version) ms u → Each (IsMachine version) ns v → u ++ more ≡ v
    → GoOn version ms ns more
each_go_on version [] ns u v more f h same =
    let e : v ≡ more = sym same ∙ ap (λ (m : List Lexeme). m ++ more) f in
    record { others = ns; all = refl; declared = subst (Each (IsMachine version) ns) e h }
each_go_on version (m ∷ ms) [] u v more f h same =
    let there : begins is_machine (u ++ more) ≡ true = begins_on is_machine u more
    (ap (begins is_machine) f.2 ∙ begins_on is_machine f.0 f.1 (machine_first version m f.0 f.3)) in
    let none_there : begins is_machine (u ++ more) ≡ false = ap (begins is_machine) (same ∙ h) in
    absurd (cc (there, none_there))
each_go_on version (m ∷ ms) (n ∷ ns) u v more f h same =
    let first = next (machine_laws version) m n u v f.0 f.1 h.0 h.1 more f.2 f.3 h.2 h.3 same
    (none_begins (f.1 ++ more)) (none_begins h.1) in
    let later = each_go_on version ms ns f.1 h.1 more f.4 h.4 first.1 in
    record {
      others = later.others;
      all =
          ap (λ (x : RawMachine). x ∷ ns) (sym first.0)
          ∙ ap (λ (xs : List RawMachine). m ∷ xs) later.all;
      declared = later.declared;
    }

machines_go_on : (version : ℕ) (ms ns : List RawMachine) (u v more : List Lexeme)
    → OneAnd (IsMachine version) (IsMachine version) ms u
    → OneAnd (IsMachine version) (IsMachine version) ns v → u ++ more ≡ v
    → GoOn version ms ns more
machines_go_on version [] ns u v more f h same = absurd f
machines_go_on version (m ∷ ms) [] u v more f h same = absurd h
machines_go_on version (m ∷ ms) (n ∷ ns) u v more f h same =
    each_go_on version (m ∷ ms) (n ∷ ns) u v more f h same

machines_first : (version : ℕ) (ms : List RawMachine) (u : List Lexeme)
    → OneAnd (IsMachine version) (IsMachine version) ms u → begins is_machine u ≡ true
machines_first version [] u f = absurd f
machines_first version (m ∷ ms) u f =
    ap (begins is_machine) f.2 ∙ begins_on is_machine f.0 f.1 (machine_first version m f.0 f.3)

-- after machines' beginning a rule that no machine begins doesn't go on
calm : (g : ℕ → Bool) (u more : List Lexeme) → Apart is_machine g → begins is_machine u ≡ true
    → begins g (u ++ more) ≡ false
calm g [] more off h = absurd cc
calm g (l ∷ u) more off h = off.off l.kind h

calm_self : (g : ℕ → Bool) (u : List Lexeme) → Apart is_machine g → begins is_machine u ≡ true
    → begins g u ≡ false
calm_self g [] off h = absurd cc
calm_self g (l ∷ u) off h = off.off l.kind h

abbrev is_event : ℕ → Bool
is_event = is (kinds.Keyword KwEvent)

abbrev is_domain : ℕ → Bool
is_domain = is (kinds.Keyword KwDomain)

domains_laws : Laws (many is_domain domain_at) (Each IsDomain) is_domain
    (joined true none is_domain) true
domains_laws = many_laws is_domain domain_laws (within _ _ refl) (apart _ _ refl)

events_laws : Laws (many is_event event_at) (Each IsEvent) is_event (joined true event_goes is_event)
    true
events_laws = many_laws is_event event_laws (within _ _ refl) (apart _ _ refl)

-- domains end where events begin, or where there are none the machines do
domains_end : (u x y more : List Lexeme) (events : List RawEvent) → u ≡ x ++ y
    → Each IsEvent events x → begins is_machine y ≡ true
    → begins (joined true none is_domain) (u ++ more) ≡ false
domains_end u x y more events e f h =
    ap (λ (m : List Lexeme). begins (joined true none is_domain) (m ++ more)) e
    ∙ ap (begins (joined true none is_domain)) (append_assoc x y more)
    ∙ follows is_event (joined true none is_domain) none true x (y ++ more) (apart _ _ refl)
    (events_laws.first x events f)
    (calm (joined true none (joined true none is_domain)) y more (apart _ _ refl) h)

-- what a sentence has of one that goes on from it, and what is left of that
pub record Starts (cut whole : RawNet) (more : List Lexeme) : Type 0 where
  pub first : HasFirstMachines cut whole
  pub left : GoOn cut.version.number cut.machines whole.machines more

pub starts : (before more : List Lexeme) (cut whole : RawNet) → IsNet cut before
    → IsNet whole (before ++ more) → Starts cut whole more
starts before more cut whole f h =
    let f1 = f.4 in let f2 = f1.4 in let f3 = f2.4 in let f4 = f3.4 in let f5 = f4.4 in
    let h1 = h.4 in let h2 = h1.4 in let h3 = h2.4 in let h4 = h3.4 in let h5 = h4.4 in
    let s0 = next (only_laws (kinds.Keyword KwNetwork) refl) tt tt before (before ++ more) f.0 f.1
    h.0 h.1 more f.2 f.3 h.2 h.3 refl (none_begins (f.1 ++ more)) (none_begins h.1) in
    let s1 = next word_laws cut.name whole.name f.1 h.1 f1.0 f1.1 h1.0 h1.1 more f1.2 f1.3 h1.2 h1.3
    s0.1 (none_begins (f1.1 ++ more)) (none_begins h1.1) in
    let s2 = next (only_laws (kinds.Keyword KwVersion) refl) tt tt f1.1 h1.1 f2.0 f2.1 h2.0 h2.1
    more f2.2 f2.3 h2.2 h2.3 s1.1 (none_begins (f2.1 ++ more)) (none_begins h2.1) in
    let s3 = next num_laws cut.version whole.version f2.1 h2.1 f3.0 f3.1 h3.0 h3.1 more f3.2 f3.3
    h3.2 h3.3 s2.1 (none_begins (f3.1 ++ more)) (none_begins h3.1) in
    let f_machines = machines_first cut.version.number cut.machines f5.1 f5.4 in
    let h_machines = machines_first whole.version.number whole.machines h5.1 h5.4 in
    let s4 = next domains_laws cut.domains whole.domains f3.1 h3.1 f4.0 f4.1 h4.0 h4.1 more f4.2
    f4.3 h4.2 h4.3 s3.1 (domains_end f4.1 f5.0 f5.1 more cut.events f5.2 f5.3 f_machines)
    (ap (begins (joined true none is_domain)) (sym (append-nil h4.1))
    ∙ domains_end h4.1 h5.0 h5.1 [] whole.events h5.2 h5.3 h_machines) in
    let s5 = next events_laws cut.events whole.events f4.1 h4.1 f5.0 f5.1 h5.0 h5.1 more f5.2 f5.3
    h5.2 h5.3 s4.1 (calm (joined true event_goes is_event) f5.1 more (apart _ _ refl) f_machines)
    (calm_self (joined true event_goes is_event) h5.1 (apart _ _ refl) h_machines) in
    let version : cut.version ≡ whole.version = s3.0 in
    let machines_there : OneAnd (IsMachine cut.version.number) (IsMachine cut.version.number)
    whole.machines h5.1 = subst (λ (n : ℕ). OneAnd (IsMachine n) (IsMachine n) whole.machines h5.1)
    (sym (ap (λ (v : _). v.number) version)) h5.4 in
    let left = machines_go_on cut.version.number cut.machines whole.machines f5.1 h5.1 more f5.4
    machines_there s5.1 in
    record {
      first = record {
        name = s1.0;
        version = version;
        domains = s4.0;
        events = s5.0;
        machines = (left.others, left.all);
      };
      left = left;
    }

pub sentences_have : (before more : List Lexeme) (cut whole : RawNet) → IsNet cut before
    → IsNet whole (before ++ more) → HasFirstMachines cut whole
sentences_have before more cut whole f h = (starts before more cut whole f h).first
