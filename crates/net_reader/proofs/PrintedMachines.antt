-- The tokens of printed machines.
use Rattle.std.proofs.Common.{◌≡◌, ℕ, true, ◌&&◌, List, [], ◌∷◌, ◌++◌, map, refl, ◌∙◌, ap}
use Rattle.std.specs.Prelude.{codes, flat_map, decimal}
use Rattle.std.specs.List.{list_all}
use Rattle.polis_base.specs.declared.token.Keyword.TheVariants.{KwOutput}
use Rattle.net_reader.specs.Lexemes.{Lexeme}
use Rattle.net_reader.specs.Grammar.{◌⨾◌, Key, IsWord, Listed, IsState, IsRow, AreOutputs, IsMachine}
use Rattle.net_reader.specs.Formed.{word_formed, num_formed, state_formed, row_formed, head_formed, ports_formed, machine_formed}
use Rattle.net_reader.specs.Layout.{word_text, listed_text, state_text, row_text, outputs_text, machine_text}
use Rattle.net_reader.specs.Places.{word_alone, state_alone, row_alone, machine_alone}
use Rattle.net_reader.specs.declared.raw.Word.{Word}
use Rattle.net_reader.specs.declared.raw.RawMachine.{RawMachine}
use Rattle.net_reader.proofs.OtherParts.{with_rest, with_both}
use Rattle.net_reader.proofs.Lexemes.{Made, conv, seq, trail, retext, any}
use Rattle.net_reader.proofs.PrintedWords.{Like, word_made, number_made, each_made}
use Rattle.net_reader.proofs.AppendAssociative.{as3, as4, as5, as6}
use Rattle.net_reader.proofs.PrintedTokens.{machine_key, priority_key, input_key, output_key, body_sign, end_sign, blank_made, words_made}
use Rattle.net_reader.proofs.PrintedDeclarations.{state_made}
use Rattle.net_reader.proofs.PrintedRows.{row_made}
use Rattle.polis_base.proofs.Bools.{and_first, and_second}

are_outputs : (names : List Word) (ms : List Lexeme) → (Key KwOutput ⨾ Listed IsWord names) ms
    → AreOutputs names ms
are_outputs [] ms h = absurd h.4
are_outputs (name ∷ names) ms h = h

outputs_made : (names : List Word) (ts : List Lexeme) → list_all word_formed names ≡ true
    → AreOutputs names ts → Made any (Like AreOutputs (map word_alone) names) (outputs_text names)
outputs_made [] ts f h = conv blank_made (λ ms x. record { same = []; alike = refl; is = x })
outputs_made (name ∷ names) ts f h =
    conv (retext (as3 (codes "  output ") (listed_text word_text (name ∷ names)) (codes "\n"))
    (seq output_key
    (trail (codes "\n") (words_made (name ∷ names) h.1 f h.4) refl (λ rest. refl))
    (λ rest h. refl)))
    (λ ms x. record {
      same = x.4.same;
      alike = x.4.alike;
      is = are_outputs x.4.same ms (x.0, x.1, x.2, x.3, x.4.is);
    })

pub machine_made : (version : ℕ) (m : RawMachine) (ts : List Lexeme) → machine_formed m ≡ true
    → IsMachine version m ts → Made any (Like (IsMachine version) machine_alone m) (machine_text m)
machine_made version m ts f h =
    let later = list_all state_formed m.states && list_all row_formed m.rows in
    let head : head_formed m ≡ true = and_first (head_formed m) (ports_formed m && later) f in
    let after : (ports_formed m && later) ≡ true =
    and_second (head_formed m) (ports_formed m && later) f in
    let ports : ports_formed m ≡ true = and_first (ports_formed m) later after in
    let body : later ≡ true = and_second (ports_formed m) later after in
    conv (retext (machine_joined m.name.name (decimal m.priority.number)
    (listed_text word_text m.inputs) (outputs_text m.outputs) (flat_map state_text m.states)
    (flat_map row_text m.rows))
    (seq machine_key
    (seq (word_made m.name (and_first _ (num_formed m.priority) head))
    (seq priority_key
    (seq (number_made m.priority (and_second (word_formed m.name) _ head))
    (seq body_sign (seq input_key
    (seq (trail (codes "\n")
    (words_made m.inputs h.4.4.4.4.4.4.0 (and_first _ (list_all word_formed m.outputs) ports)
    h.4.4.4.4.4.4.3) refl (λ rest. refl))
    (seq (outputs_made m.outputs h.4.4.4.4.4.4.4.0
    (and_second (list_all word_formed m.inputs) _ ports) h.4.4.4.4.4.4.4.3)
    (seq (each_made any IsState state_alone state_text state_formed state_made
    (λ items rest h. refl) m.states h.4.4.4.4.4.4.4.4.0
    (and_first _ (list_all row_formed m.rows) body) h.4.4.4.4.4.4.4.4.3)
    (seq (each_made any (IsRow version) row_alone row_text row_formed (row_made version)
    (λ items rest h. refl) m.rows h.4.4.4.4.4.4.4.4.4.0
    (and_second (list_all state_formed m.states) _ body) h.4.4.4.4.4.4.4.4.4.3) end_sign
    (λ rest h. refl)) (λ rest h. refl)) (λ rest h. refl)) (λ rest h. refl)) (λ rest h. refl))
    (λ rest h. refl)) (λ rest h. refl)) (λ rest h. refl)) (λ rest h. refl)) (λ rest h. refl)))
    (λ ms x. record {
      same = record {
        name = x.4.3.same;
        priority = x.4.4.4.3.same;
        inputs = x.4.4.4.4.4.4.3.same;
        outputs = x.4.4.4.4.4.4.4.3.same;
        states =
            x.4.4.4.4.4.4.4.4.3.same;
        rows = x.4.4.4.4.4.4.4.4.4.3.same;
      };
      alike = (λ i. record {
        name = x.4.3.alike i;
        priority = x.4.4.4.3.alike i;
        inputs = x.4.4.4.4.4.4.3.alike i;
        outputs = x.4.4.4.4.4.4.4.3.alike i;
        states =
            x.4.4.4.4.4.4.4.4.3.alike i;
        rows = x.4.4.4.4.4.4.4.4.4.3.alike i;
      });
      is =
          with_rest x (with_both x.4 x.4.3.is (with_rest x.4.4 (with_both x.4.4.4
          x.4.4.4.3.is (with_rest x.4.4.4.4 (with_rest x.4.4.4.4.4 (with_both x.4.4.4.4.4.4
          x.4.4.4.4.4.4.3.is (with_both x.4.4.4.4.4.4.4 x.4.4.4.4.4.4.4.3.is (with_both
          x.4.4.4.4.4.4.4.4 x.4.4.4.4.4.4.4.4.3.is (with_both x.4.4.4.4.4.4.4.4.4
          x.4.4.4.4.4.4.4.4.4.3.is x.4.4.4.4.4.4.4.4.4.4)))))))));
    })
  where
    machine_joined : (name number inputs outputs states rows : List ℕ)
        → codes "machine "
        ++ (name ++ (codes " priority "
        ++ (number ++ (codes " {\n"
        ++ (codes "  input "
        ++ ((inputs ++ codes "\n") ++ (outputs ++ (states ++ (rows ++ codes "}\n")))))))))
        ≡ (codes "machine " ++ name ++ codes " priority " ++ number ++ codes " {\n")
        ++ (codes "  input " ++ inputs ++ codes "\n" ++ outputs) ++ states ++ rows
        ++ codes "}\n"
    machine_joined name number inputs outputs states rows =
        let later = states ++ (rows ++ codes "}\n") in
        let head = codes "machine " ++ name ++ codes " priority " ++ number ++ codes " {\n" in
        let ports = codes "  input " ++ inputs ++ codes "\n" ++ outputs in
        as6 (codes "machine ") name (codes " priority ") number (codes " {\n")
        (codes "  input " ++ ((inputs ++ codes "\n") ++ (outputs ++ later)))
        ∙ ap (λ (t : List ℕ). head ++ t)
        (as4 (codes "  input ") (inputs ++ codes "\n") outputs later
        ∙ ap (λ (t : List ℕ). t ++ outputs ++ later)
        (as3 (codes "  input ") inputs (codes "\n")))
        ∙ as5 head ports states rows (codes "}\n")
