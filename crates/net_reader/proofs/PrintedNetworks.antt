-- The tokens of a printed network.
use Rattle.std.proofs.Common.{◌≡◌, ℕ, ◌+◌, true, ◌&&◌, List, [], ◌∷◌, ◌++◌, length, map, refl, sym, ◌∙◌, ap, subst}
use Rattle.std.specs.Prelude.{codes, flat_map, decimal}
use Rattle.std.specs.List.{list_all}
use Rattle.std.proofs.lemmas.List.{append-nil}
use Rattle.net_reader.specs.Lexemes.{Lexeme}
use Rattle.net_reader.specs.Grammar.{Each, OneAnd, IsDomain, IsEvent, IsMachine, IsNet}
use Rattle.net_reader.specs.Formed.{word_formed, num_formed, domain_formed, event_formed, machine_formed}
use Rattle.net_reader.specs.inner.Formed.{net_formed}
use Rattle.net_reader.specs.Layout.{domain_text, event_text, machine_text, network_text}
use Rattle.net_reader.specs.Places.{Declares, num_alone, domain_alone, event_alone, machine_alone, without_places}
use Rattle.net_reader.specs.declared.raw.Num.{Num}
use Rattle.net_reader.specs.declared.raw.RawMachine.{RawMachine}
use Rattle.net_reader.specs.declared.raw.RawNet.{RawNet}
use Rattle.net_reader.proofs.OtherParts.{with_rest, with_both}
use Rattle.net_reader.proofs.Lexemes.{Made, conv, seq, trail, retext, moved, any, nothing_left}
use Rattle.net_reader.proofs.PrintedWords.{Like, word_made, number_made, each_made}
use Rattle.net_reader.proofs.AppendAssociative.{as3, as7}
use Rattle.net_reader.proofs.PrintedTokens.{network_key, version_key}
use Rattle.net_reader.proofs.PrintedDeclarations.{domain_made, event_made}
use Rattle.net_reader.proofs.PrintedMachines.{machine_made}
use Rattle.std.proofs.lemmas.Bool.{and_from}
use Rattle.polis_base.proofs.Bools.{and_first, and_second}

-- none or more machines with one at least
are_machines : (version : ℕ) (machines : List RawMachine) (ts : List Lexeme)
    → OneAnd (IsMachine version) (IsMachine version) machines ts
    → Each (IsMachine version) machines ts
are_machines version [] ts h = absurd h
are_machines version (m ∷ machines) ts h = h

one_machine : (version : ℕ) (machines some : List RawMachine) (ts ms : List Lexeme)
    → OneAnd (IsMachine version) (IsMachine version) machines ts
    → map machine_alone some ≡ map machine_alone machines → Each (IsMachine version) some ms
    → OneAnd (IsMachine version) (IsMachine version) some ms
one_machine version [] some ts ms h e is = absurd h
one_machine version (m ∷ machines) [] ts ms h e is = cc
one_machine version (m ∷ machines) (n ∷ some) ts ms h e is = is

-- of the version that is printed
of_version : (printed : Num) (version : Num) (machines : List RawMachine) (ms : List Lexeme)
    → num_alone printed ≡ num_alone version
    → OneAnd (IsMachine version.number) (IsMachine version.number) machines ms
    → OneAnd (IsMachine printed.number) (IsMachine printed.number) machines ms
of_version printed version machines ms e h =
    subst (λ (v : ℕ). OneAnd (IsMachine v) (IsMachine v) machines ms)
    (ap (λ (n : Num). n.number) (sym e)) h

net_made : (n : RawNet) (ts : List Lexeme) → net_formed n ≡ true → IsNet n ts
    → Made any (Like IsNet without_places n) (network_text n)
net_made n ts f h =
    let four = list_all machine_formed n.machines in
    let three = list_all event_formed n.events && four in
    let two = list_all domain_formed n.domains && three in
    let one = num_formed n.version && two in
    let name : word_formed n.name ≡ true = and_first (word_formed n.name) one f in
    let f1 : one ≡ true = and_second (word_formed n.name) one f in
    let version : num_formed n.version ≡ true = and_first (num_formed n.version) two f1 in
    let f2 : two ≡ true = and_second (num_formed n.version) two f1 in
    let domains : list_all domain_formed n.domains ≡ true =
    and_first (list_all domain_formed n.domains) three f2 in
    let f3 : three ≡ true = and_second (list_all domain_formed n.domains) three f2 in
    let events : list_all event_formed n.events ≡ true =
    and_first (list_all event_formed n.events) four f3 in
    let machines : four ≡ true = and_second (list_all event_formed n.events) four f3 in
    conv (retext (net_joined n.name.name (decimal n.version.number) (flat_map domain_text n.domains)
    (flat_map event_text n.events) (flat_map machine_text n.machines))
    (seq network_key
    (seq (word_made n.name name)
    (seq version_key
    (seq (trail (codes "\n") (number_made n.version version) refl (λ rest. refl))
    (seq (each_made any IsDomain domain_alone domain_text domain_formed domain_made
    (λ items rest h. refl) n.domains h.4.4.4.4.0 domains h.4.4.4.4.3)
    (seq (each_made any IsEvent event_alone event_text event_formed event_made
    (λ items rest h. refl) n.events h.4.4.4.4.4.0 events h.4.4.4.4.4.3)
    (each_made any (IsMachine n.version.number) machine_alone machine_text machine_formed
    (machine_made n.version.number) (λ items rest h. refl) n.machines h.4.4.4.4.4.1 machines
    (are_machines n.version.number n.machines h.4.4.4.4.4.1 h.4.4.4.4.4.4)) (λ rest h. refl))
    (λ rest h. refl)) (λ rest h. refl)) (λ rest h. refl)) (λ rest h. refl)) (λ rest h. refl)))
    (λ ms x. record {
      same = record {
        name = x.4.3.same;
        version = x.4.4.4.3.same;
        domains = x.4.4.4.4.3.same;
        events = x.4.4.4.4.4.3.same;
        machines = x.4.4.4.4.4.4.same;
      };
      alike = (λ i. record {
        name = x.4.3.alike i;
        version = x.4.4.4.3.alike i;
        domains = x.4.4.4.4.3.alike i;
        events = x.4.4.4.4.4.3.alike i;
        machines =
            x.4.4.4.4.4.4.alike i;
      });
      is =
          with_rest x (with_both x.4 x.4.3.is (with_rest x.4.4 (with_both x.4.4.4
          x.4.4.4.3.is (with_both x.4.4.4.4 x.4.4.4.4.3.is (with_both x.4.4.4.4.4
          x.4.4.4.4.4.3.is (of_version x.4.4.4.3.same n.version x.4.4.4.4.4.4.same
          x.4.4.4.4.4.1 x.4.4.4.3.alike (one_machine n.version.number n.machines
          x.4.4.4.4.4.4.same h.4.4.4.4.4.1 x.4.4.4.4.4.1 h.4.4.4.4.4.4 x.4.4.4.4.4.4.alike
          x.4.4.4.4.4.4.is)))))));
    })
  where
    net_joined : (name number domains events machines : List ℕ)
        → codes "network "
        ++ (name ++ (codes " version "
        ++ ((number ++ codes "\n") ++ (domains ++ (events ++ machines)))))
        ≡ codes "network " ++ name ++ codes " version " ++ number ++ codes "\n" ++ domains ++ events
        ++ machines
    net_joined name number domains events machines =
        as7 (codes "network ") name (codes " version ") (number ++ codes "\n") domains events
        machines
        ∙ ap (λ (t : List ℕ). t ++ domains ++ events ++ machines)
        (as3 (codes "network " ++ name ++ codes " version ") number (codes "\n"))

-- what is formed in each part is formed
pub formed_from : (n : RawNet) → word_formed n.name ≡ true → num_formed n.version ≡ true
    → list_all domain_formed n.domains ≡ true → list_all event_formed n.events ≡ true
    → list_all machine_formed n.machines ≡ true → net_formed n ≡ true
formed_from n name version domains events machines =
    and_from _ _ name
    (and_from _ _ version (and_from _ _ domains (and_from _ _ events machines)))

-- the text of a network declares the same
pub declares : (n : RawNet) (ts : List Lexeme) → net_formed n ≡ true → IsNet n ts
    → Declares (network_text n) n
declares n ts f h =
    let made = net_made n ts f h in
    let x = made.made 0 [] [] refl (nothing_left (0 + length (network_text n))) in
    let read = moved 0 0 (network_text n ++ []) (network_text n) (x.0 ++ []) x.0 refl
    (append-nil (network_text n)) (append-nil x.0) x.2 in
    record {
      same = x.1.same;
      read = record {
        tokens = read.tokens;
        read = read.read;
        sentence = subst (λ (ls : List Lexeme). IsNet x.1.same ls) (sym (read.same [] refl))
            x.1.is;
      };
      is = x.1.alike;
    }
