-- The laws of the rules of rows and machines.
use Rattle.std.proofs.Common.{◌≡◌, ℕ, Bool, true, false, ◌||◌, List, [], ◌∷◌, refl, sym, subst, inl, inr}
use Rattle.polis_base.specs.declared.token.Keyword.TheVariants.{KwMachine, KwPriority, KwInput, KwOutput, KwState, KwWhen, KwDo}
use Rattle.polis_base.specs.declared.token.Sign.TheVariants.{LeftBrace, RightBrace}
use Rattle.polis_base.specs.declared.token.Kind.TheVariants as kinds
use Rattle.net_reader.specs.Lexemes.{Lexeme}
use Rattle.net_reader.specs.Grammar.{Part, ◌⨾◌, Key, Sign, IsWord, IsNum, Each, Listed, IsState, IsRow, AreOutputs, IsMachine}
use Rattle.net_reader.specs.Reading.{is, row_at, output_at, outputs_at, body_at, machine_at}
use Rattle.net_reader.specs.declared.raw.Word.{Word}
use Rattle.net_reader.specs.declared.raw.Num.{Num}
use Rattle.net_reader.specs.declared.raw.RawRow.{RawRow}
use Rattle.net_reader.specs.declared.raw.RawMachine.{RawMachine}
use Rattle.net_reader.proofs.BoundParts.{closed, last_of, with_value, without_value}
use Rattle.net_reader.proofs.Laws.{Laws, none, bind_laws}
use Rattle.net_reader.proofs.Combinators.{Just, Or, same_laws, pure_laws, either_laws, many_laws}
use Rattle.net_reader.proofs.Tokens.{apart, within, only_laws, word_laws, num_laws, listed_goes, listed_laws}
use Rattle.net_reader.proofs.DeclarationLaws.{state_laws}
use Rattle.net_reader.proofs.ConditionLaws.{cond_laws}
use Rattle.net_reader.proofs.ActionLaws.{acts_goes, acts_laws}

pub row_laws : (version : ℕ)
    → Laws (row_at version) (IsRow version) (is (kinds.Keyword KwWhen)) acts_goes false
unfolding row_at
row_laws version = same_laws
    (λ e ts f. subst (λ (z : RawRow). IsRow version z ts) (sym f.5.5.5.5.0)
    (without_value f (without_value f.5 (without_value f.5.5 (last_of f.5.5.5)))))
    (λ e ts f.
    with_value tt f (with_value e.conds f.4 (with_value tt f.4.4 (closed e.acts f.4.4.4
    refl))))
    (bind_laws (only_laws (kinds.Keyword KwWhen) refl)
    (λ _. bind_laws (listed_laws cond_laws (apart _ _ refl))
    (λ conds. bind_laws (only_laws (kinds.Keyword KwDo) refl)
    (λ _. bind_laws (acts_laws version)
    (λ acts. pure_laws {A = RawRow} (record { conds = conds; acts = acts })) (apart _ _ refl))
    (apart _ _ refl)) (apart _ _ refl)) (apart _ _ refl))

output_laws : Laws output_at (λ names. Key KwOutput ⨾ Listed IsWord names)
    (is (kinds.Keyword KwOutput)) (listed_goes none) false
unfolding output_at
output_laws = same_laws (λ e ts f. without_value f f.5)
    (λ e ts f. with_value tt f f.4)
    (bind_laws (only_laws (kinds.Keyword KwOutput) refl)
    (λ _. listed_laws word_laws (apart _ _ refl)) (apart _ _ refl))

outputs_there : (e : List Word) (ts : List Lexeme)
    → Or (λ names. Key KwOutput ⨾ Listed IsWord names) (Just []) e ts → AreOutputs e ts
outputs_there [] ts (inl f) = absurd f.4
outputs_there (name ∷ names) ts (inl f) = f
outputs_there e ts (inr f) = subst (λ (z : List Word). AreOutputs z ts) (sym f.0) f.1

outputs_back : (e : List Word) (ts : List Lexeme) → AreOutputs e ts
    → Or (λ names. Key KwOutput ⨾ Listed IsWord names) (Just []) e ts
outputs_back [] ts f = inr (refl, f)
outputs_back (name ∷ names) ts f = inl f

abbrev pub outputs_goes : ℕ → Bool
outputs_goes c = (listed_goes none c || false) || is (kinds.Keyword KwOutput) c

pub outputs_laws : Laws outputs_at AreOutputs (λ c. is (kinds.Keyword KwOutput) c || false)
    outputs_goes true
unfolding outputs_at
outputs_laws = same_laws outputs_there outputs_back
    (either_laws (is (kinds.Keyword KwOutput)) output_laws (pure_laws []) (within _ _ refl)
    (apart _ _ refl))

abbrev pub Is_body : ℕ → Word → Num → RawMachine → Part
Is_body version name priority m ts =
    (m.name ≡ name) × (m.priority ≡ priority)
    × (Key KwInput ⨾ Listed IsWord m.inputs ⨾ AreOutputs m.outputs ⨾ Each IsState m.states ⨾ Each
    (IsRow version) m.rows ⨾ Sign RightBrace) ts

pub body_laws : (version : ℕ) (name : Word) (priority : Num)
    → Laws (body_at version name priority) (Is_body version name priority)
    (is (kinds.Keyword KwInput)) none false
unfolding body_at
body_laws version name priority = same_laws
    (λ m ts f. subst (λ (z : RawMachine). Is_body version name priority z ts) (sym f.5.5.5.5.5.5.0) (
      refl,
      refl,
      without_value f (without_value f.5 (without_value f.5.5 (without_value
          f.5.5.5 (without_value f.5.5.5.5 (last_of f.5.5.5.5.5))))),
    ))
    (λ m ts f.
    with_value tt f.2 (with_value m.inputs f.2.4 (with_value m.outputs f.2.4.4 (with_value
    m.states f.2.4.4.4 (with_value m.rows f.2.4.4.4.4 (closed tt f.2.4.4.4.4.4 (λ i.
    record {
      name = f.0 i;
      priority = f.1 i;
      inputs = m.inputs;
      outputs = m.outputs;
      states = m.states;
      rows = m.rows;
    })))))))
    (bind_laws (only_laws (kinds.Keyword KwInput) refl)
    (λ _. bind_laws (listed_laws word_laws (apart _ _ refl))
    (λ inputs. bind_laws outputs_laws (λ outputs.
    bind_laws (many_laws (is (kinds.Keyword KwState)) state_laws (within _ _ refl)
    (apart _ _ refl))
    (λ states. bind_laws
    (many_laws (is (kinds.Keyword KwWhen)) (row_laws version) (within _ _ refl)
    (apart _ _ refl))
    (λ rows. bind_laws (only_laws (kinds.Sign RightBrace) refl)
    (λ _. pure_laws {A = RawMachine}
    (record {
      name = name;
      priority = priority;
      inputs = inputs;
      outputs = outputs;
      states = states;
      rows = rows;
    })) (apart _ _ refl)) (apart _ _ refl)) (apart _ _ refl))
    (apart _ _ refl)) (apart _ _ refl)) (apart _ _ refl))

pub machine_laws : (version : ℕ)
    → Laws (machine_at version) (IsMachine version) (is (kinds.Keyword KwMachine)) none false
unfolding machine_at
machine_laws version = same_laws
    (λ m ts f.
    let b = f.5.5.5.5.5 in
    (without_value f (
      f.5.0,
      f.5.1,
      f.5.3,
      subst (λ (w : Word). IsWord w f.5.0) (sym b.0)
          f.5.4,
      without_value f.5.5 (
        f.5.5.5.0,
        f.5.5.5.1,
        f.5.5.5.3,
        subst (λ (n : Num).
            IsNum n f.5.5.5.0) (sym b.1) f.5.5.5.4,
        without_value f.5.5.5.5 b.2,
      ),
    )))
    (λ m ts f.
    with_value tt f (with_value m.name f.4 (with_value tt f.4.4 (with_value m.priority
    f.4.4.4 (with_value tt f.4.4.4.4 (refl, refl, f.4.4.4.4.4))))))
    (bind_laws (only_laws (kinds.Keyword KwMachine) refl)
    (λ _. bind_laws word_laws (λ name.
    bind_laws (only_laws (kinds.Keyword KwPriority) refl)
    (λ _. bind_laws num_laws (λ priority.
    bind_laws (only_laws (kinds.Sign LeftBrace) refl) (λ _. body_laws version name priority)
    (apart _ _ refl)) (apart _ _ refl)) (apart _ _ refl)) (apart _ _ refl)) (apart _ _ refl))
