-- The laws of the rules of actions.
use Rattle.std.proofs.Common.{◌≡◌, ℕ, Bool, true, false, cond, ◌||◌, ◌==◌, List, [], ◌∷◌, ◌++◌, Option, Some, None, refl, sym, ◌∙◌, ap, subst, append-nil, inl, inr}
use Rattle.std.proofs.lemmas.Bool.{eqb-true, eq-eqb, false≢true}
use Rattle.polis_base.specs.declared.token.Keyword.TheVariants.{KwEmit, KwNothing, KwValue}
use Rattle.polis_base.specs.declared.token.Sign.TheVariants.{Equal, Assign, Plus}
use Rattle.polis_base.specs.declared.token.Kind.TheVariants as kinds
use Rattle.net_reader.specs.Lexemes.{Lexeme}
use Rattle.net_reader.specs.Grammar.{Part, ◌⨾◌, Key, Sign, IsWord, IsNum, IsValue, Optional, Listed, Second, IsGiven, IsSource, IsAct, AreActs}
use Rattle.net_reader.specs.Reading.{is, plain_at, input_at, add_at, add_or_plain_at, after_value_at, sum_at, input_or_plain_at, input_or_sum_at, given_source_at, source_at, given_at, given_part_at, emit_at, set_at, act_at, nothing_at, acts_at}
use Rattle.net_reader.specs.declared.raw.Word.{Word}
use Rattle.net_reader.specs.declared.raw.Num.{Num}
use Rattle.net_reader.specs.declared.raw.RawValue.{RawValue}
use Rattle.net_reader.specs.declared.raw.RawValue.TheVariants as values
use Rattle.net_reader.specs.declared.raw.RawSource.{RawSource}
use Rattle.net_reader.specs.declared.raw.RawSource.TheVariants as sources
use Rattle.net_reader.specs.declared.raw.RawAct.{RawAct}
use Rattle.net_reader.specs.declared.raw.RawAct.TheVariants as acts
use Rattle.net_reader.proofs.BoundParts.{closed, last_of, with_value, without_value}
use Rattle.net_reader.proofs.Laws.{Laws, none, Bind, bind_laws}
use Rattle.net_reader.proofs.Combinators.{Just, Or, same_laws, wider_laws, begins_none, pure_laws, either_laws}
use Rattle.net_reader.proofs.Tokens.{apart, within, only_laws, word_laws, num_laws, value_laws, word_is_value, value_is_word, optional_there, optional_back, listed_goes, listed_laws}

-- what an action takes a value from

abbrev pub value_starts : ℕ → Bool
value_starts c = is kinds.Name c || is (kinds.Number 0) c

abbrev pub source_starts : ℕ → Bool
source_starts c = is (kinds.Keyword KwValue) c || value_starts c

abbrev pub Is_plain : RawSource → Part
Is_plain e ts = (value : RawValue) × (e ≡ sources.Value value) × IsValue value ts

pub plain_laws : Laws plain_at Is_plain value_starts none false
unfolding plain_at
plain_laws = same_laws
    (λ e ts f. (f.2, f.5.0, last_of f))
    (λ e ts f. (ts, [], f.0, sym (append-nil ts), f.2, (f.1, refl)))
    (bind_laws value_laws (λ value. pure_laws {A = RawSource} (sources.Value value))
    (apart _ _ refl))

abbrev pub Is_input : RawSource → Part
Is_input e ts = (name : Word) × (e ≡ sources.Input name) × (Key KwValue ⨾ IsWord name) ts

pub input_laws : Laws input_at Is_input (is (kinds.Keyword KwValue)) none false
unfolding input_at
input_laws = same_laws
    (λ e ts f. (f.5.2, f.5.5.0, without_value f (last_of f.5)))
    (λ e ts f. with_value tt f.2 (closed f.0 f.2.4 f.1))
    (bind_laws (only_laws (kinds.Keyword KwValue) refl)
    (λ _. bind_laws word_laws (λ name. pure_laws {A = RawSource} (sources.Input name))
    (apart _ _ refl)) (apart _ _ refl))

abbrev pub Is_add : Word → RawSource → Part
Is_add name e ts = (number : Num) × (e ≡ sources.Add name number) × (Sign Plus ⨾ IsNum number) ts

pub add_laws : (name : Word) → Laws (add_at name) (Is_add name) (is (kinds.Sign Plus)) none false
unfolding add_at
add_laws name = same_laws
    (λ e ts f. (f.5.2, f.5.5.0, without_value f (last_of f.5)))
    (λ e ts f. with_value tt f.2 (closed f.0 f.2.4 f.1))
    (bind_laws (only_laws (kinds.Sign Plus) refl)
    (λ _. bind_laws num_laws (λ number. pure_laws {A = RawSource} (sources.Add name number))
    (apart _ _ refl)) (apart _ _ refl))

-- what stands after a value
abbrev pub After_value : RawValue → RawSource → Part
After_value (values.Name name) = Or (Is_add name) (Just (sources.Value (values.Name name)))
After_value (values.Number number) = Just (sources.Value (values.Number number))

abbrev pub plus : ℕ → Bool
plus c = is (kinds.Sign Plus) c || false

after_value_laws : (value : RawValue)
    → Laws (after_value_at value) (After_value value) plus (is (kinds.Sign Plus)) true
unfolding after_value_at add_or_plain_at
after_value_laws (values.Name name) =
    either_laws (is (kinds.Sign Plus)) (add_laws name)
    (pure_laws (sources.Value (values.Name name))) (within _ _ refl) (apart _ _ refl)
after_value_laws (values.Number number) =
    wider_laws (within none plus refl) (begins_none (is (kinds.Sign Plus)))
    (pure_laws (sources.Value (values.Number number)))

abbrev pub sum_goes : ℕ → Bool
sum_goes c = is (kinds.Sign Plus) c || false

sum_laws : Laws sum_at (Bind IsValue After_value) value_starts sum_goes false
unfolding sum_at
sum_laws = bind_laws value_laws after_value_laws (apart _ _ refl)

input_or_plain_laws : Laws input_or_plain_at (Or Is_input Is_plain) source_starts none false
unfolding input_or_plain_at
input_or_plain_laws =
    either_laws (is (kinds.Keyword KwValue)) input_laws plain_laws (within _ _ refl)
    (apart _ _ refl)

input_or_sum_laws : Laws input_or_sum_at (Or Is_input (Bind IsValue After_value)) source_starts
    sum_goes false
unfolding input_or_sum_at
input_or_sum_laws =
    either_laws (is (kinds.Keyword KwValue)) input_laws sum_laws (within _ _ refl) (apart _ _ refl)

no_second : (version : ℕ) → (version == 2) ≡ false → (P : Part) (ts : List Lexeme)
    → Second version P ts → ⊥
no_second version other P ts f = false≢true (sym other ∙ eq-eqb version 2 f.0)

given_source_laws : (version : ℕ) (second : Bool) → (version == 2) ≡ second
    → Laws (given_source_at version) (IsGiven version) source_starts none false
unfolding given_source_at
given_source_laws version true is =
    subst (λ (b : Bool). Laws (cond b input_or_plain_at plain_at) (IsGiven version) source_starts
    none false) (sym is) (same_laws there back input_or_plain_laws)
  where
    there : (e : RawSource) (ts : List Lexeme) → Or Is_input Is_plain e ts → IsGiven version e ts
    there e ts (inl f) =
        subst (λ (z : RawSource). IsGiven version z ts) (sym f.1) (eqb-true version 2 is, f.2)
    there e ts (inr f) = subst (λ (z : RawSource). IsGiven version z ts) (sym f.1) f.2

    back : (e : RawSource) (ts : List Lexeme) → IsGiven version e ts → Or Is_input Is_plain e ts
    back (sources.Value value) ts f = inr (value, refl, f)
    back (sources.Input name) ts f = inl (name, refl, f.1)
    back (sources.Add name number) ts f = absurd f
given_source_laws version false is =
    subst (λ (b : Bool). Laws (cond b input_or_plain_at plain_at) (IsGiven version) source_starts
    none false) (sym is)
    (wider_laws (within _ _ refl) (λ ls h. h) (same_laws there back plain_laws))
  where
    there : (e : RawSource) (ts : List Lexeme) → Is_plain e ts → IsGiven version e ts
    there e ts f = subst (λ (z : RawSource). IsGiven version z ts) (sym f.1) f.2

    back : (e : RawSource) (ts : List Lexeme) → IsGiven version e ts → Is_plain e ts
    back (sources.Value value) ts f = (value, refl, f)
    back (sources.Input name) ts f = absurd (no_second version is (Key KwValue ⨾ IsWord name) ts f)
    back (sources.Add name number) ts f = absurd f

after_there : (version : ℕ) → version ≡ 2
    → (value : RawValue) (e : RawSource) (ts x y : List Lexeme) → ts ≡ x ++ y → IsValue value x
    → After_value value e y → IsSource version e ts
after_there version is (values.Name name) e ts x y s v (inl f) =
    subst (λ (z : RawSource). IsSource version z ts) (sym f.1)
    (is, (x, y, s, value_is_word name x v, f.2))
after_there version is (values.Name name) e ts x y s v (inr f) =
    subst (λ (z : RawSource). IsSource version z ts) (sym f.0)
    (subst (IsValue (values.Name name)) (sym (s ∙ ap (λ m. x ++ m) f.1 ∙ append-nil x)) v)
after_there version is (values.Number number) e ts x y s v f =
    subst (λ (z : RawSource). IsSource version z ts) (sym f.0)
    (subst (IsValue (values.Number number)) (sym (s ∙ ap (λ m. x ++ m) f.1 ∙ append-nil x)) v)

plain_back : (value : RawValue) (ts : List Lexeme) → IsValue value ts
    → Bind IsValue After_value (sources.Value value) ts
plain_back (values.Name name) ts f =
    (ts, [], values.Name name, sym (append-nil ts), f, inr (refl, refl))
plain_back (values.Number number) ts f =
    (ts, [], values.Number number, sym (append-nil ts), f, (refl, refl))

source_laws : (version : ℕ) (second : Bool) → (version == 2) ≡ second
    → Laws (source_at version) (IsSource version) source_starts sum_goes false
unfolding source_at
source_laws version true is =
    subst (λ (b : Bool). Laws (cond b input_or_sum_at plain_at) (IsSource version) source_starts
    sum_goes false) (sym is) (same_laws there back input_or_sum_laws)
  where
    there : (e : RawSource) (ts : List Lexeme) → Or Is_input (Bind IsValue After_value) e ts
        → IsSource version e ts
    there e ts (inl f) =
        subst (λ (z : RawSource). IsSource version z ts) (sym f.1) (eqb-true version 2 is, f.2)
    there e ts (inr f) = after_there version (eqb-true version 2 is) f.2 e ts f.0 f.1 f.3 f.4 f.5

    back : (e : RawSource) (ts : List Lexeme) → IsSource version e ts
        → Or Is_input (Bind IsValue After_value) e ts
    back (sources.Value value) ts f = inr (plain_back value ts f)
    back (sources.Input name) ts f = inl (name, refl, f.1)
    back (sources.Add name number) ts f =
        inr (
          f.1.0,
          f.1.1,
          values.Name name,
          f.1.2,
          word_is_value name f.1.0 f.1.3,
          inl (number, refl, f.1.4),
        )
source_laws version false is =
    subst (λ (b : Bool). Laws (cond b input_or_sum_at plain_at) (IsSource version) source_starts
    sum_goes false) (sym is)
    (wider_laws (within _ _ refl) (begins_none sum_goes) (same_laws there back plain_laws))
  where
    there : (e : RawSource) (ts : List Lexeme) → Is_plain e ts → IsSource version e ts
    there e ts f = subst (λ (z : RawSource). IsSource version z ts) (sym f.1) f.2

    back : (e : RawSource) (ts : List Lexeme) → IsSource version e ts → Is_plain e ts
    back (sources.Value value) ts f = (value, refl, f)
    back (sources.Input name) ts f = absurd (no_second version is (Key KwValue ⨾ IsWord name) ts f)
    back (sources.Add name number) ts f =
        absurd (no_second version is (IsWord name ⨾ Sign Plus ⨾ IsNum number) ts f)

abbrev pub GivenAt : ℕ → RawSource → Part
GivenAt version source = Sign Equal ⨾ IsGiven version source

abbrev pub Is_given : ℕ → Option RawSource → Part
Is_given version e ts = (source : RawSource) × (e ≡ Some source) × (GivenAt version source) ts

pub given_laws : (version : ℕ)
    → Laws (given_at version) (Is_given version) (is (kinds.Sign Equal)) none false
unfolding given_at
given_laws version = same_laws
    (λ e ts f. (f.5.2, f.5.5.0, without_value f (last_of f.5)))
    (λ e ts f. with_value tt f.2 (closed f.0 f.2.4 f.1))
    (bind_laws (only_laws (kinds.Sign Equal) refl)
    (λ _. bind_laws (given_source_laws version (version == 2) refl)
    (λ source. pure_laws {A = Option RawSource} (Some source)) (apart _ _ refl))
    (apart _ _ refl))

pub value_part_laws : (version : ℕ)
    → Laws (given_part_at version) (Optional (GivenAt version))
    (λ c. is (kinds.Sign Equal) c || false) (is (kinds.Sign Equal)) true
unfolding given_part_at
value_part_laws version =
    same_laws (optional_there (GivenAt version)) (optional_back (GivenAt version))
    (either_laws (is (kinds.Sign Equal)) (given_laws version) (pure_laws None) (within _ _ refl)
    (apart _ _ refl))

abbrev pub Is_emit : ℕ → RawAct → Part
Is_emit version e ts =
    (name : Word) × (value : Option RawSource) × (e ≡ acts.Emit name value)
    × (Key KwEmit ⨾ IsWord name ⨾ Optional (GivenAt version) value) ts

pub emit_laws : (version : ℕ)
    → Laws (emit_at version) (Is_emit version) (is (kinds.Keyword KwEmit))
    (λ c. is (kinds.Sign Equal) c || false) false
unfolding emit_at
emit_laws version = same_laws
    (λ e ts f. (f.5.2, f.5.5.2, f.5.5.5.0, without_value f (without_value f.5 (last_of f.5.5))))
    (λ e ts f. with_value tt f.3 (with_value f.0 f.3.4 (closed f.1 f.3.4.4 f.2)))
    (bind_laws (only_laws (kinds.Keyword KwEmit) refl)
    (λ _. bind_laws word_laws (λ name.
    bind_laws (value_part_laws version) (λ value. pure_laws {A = RawAct} (acts.Emit name value))
    (apart _ _ refl)) (apart _ _ refl)) (apart _ _ refl))

abbrev pub Is_set : ℕ → RawAct → Part
Is_set version e ts =
    (name : Word) × (value : RawSource) × (e ≡ acts.Set name value)
    × (IsWord name ⨾ Sign Assign ⨾ IsSource version value) ts

pub set_laws : (version : ℕ) → Laws (set_at version) (Is_set version) (is kinds.Name) sum_goes false
unfolding set_at
set_laws version = same_laws
    (λ e ts f. (f.2, f.5.5.2, f.5.5.5.0, without_value f (without_value f.5 (last_of f.5.5))))
    (λ e ts f. with_value f.0 f.3 (with_value tt f.3.4 (closed f.1 f.3.4.4 f.2)))
    (bind_laws word_laws
    (λ name. bind_laws (only_laws (kinds.Sign Assign) refl)
    (λ _. bind_laws (source_laws version (version == 2) refl)
    (λ value. pure_laws {A = RawAct} (acts.Set name value)) (apart _ _ refl)) (apart _ _ refl))
    (apart _ _ refl))

act_there : (version : ℕ) (e : RawAct) (ts : List Lexeme)
    → Or (Is_emit version) (Is_set version) e ts → IsAct version e ts
act_there version e ts (inl f) = subst (λ (z : RawAct). IsAct version z ts) (sym f.2) f.3
act_there version e ts (inr f) = subst (λ (z : RawAct). IsAct version z ts) (sym f.2) f.3

act_back : (version : ℕ) (e : RawAct) (ts : List Lexeme) → IsAct version e ts
    → Or (Is_emit version) (Is_set version) e ts
act_back version (acts.Emit name value) ts f = inl (name, value, refl, f)
act_back version (acts.Set name value) ts f = inr (name, value, refl, f)

abbrev pub act_goes : ℕ → Bool
act_goes c = (is (kinds.Sign Equal) c || false) || (is (kinds.Sign Plus) c || false)

pub act_laws : (version : ℕ)
    → Laws (act_at version) (IsAct version) (λ c. is (kinds.Keyword KwEmit) c || is kinds.Name c)
    act_goes false
unfolding act_at
act_laws version =
    same_laws (act_there version) (act_back version)
    (either_laws (is (kinds.Keyword KwEmit)) (emit_laws version) (set_laws version)
    (within _ _ refl) (apart _ _ refl))

abbrev pub Is_nothing : List RawAct → Part
Is_nothing e ts = (e ≡ []) × (Key KwNothing) ts

pub nothing_laws : Laws (nothing_at) (Is_nothing) (is (kinds.Keyword KwNothing)) none false
unfolding nothing_at
nothing_laws = same_laws
    (λ e ts f. (f.5.0, last_of f))
    (λ e ts f. (ts, [], tt, sym (append-nil ts), f.1, (f.0, refl)))
    (bind_laws (only_laws (kinds.Keyword KwNothing) refl) (λ _. pure_laws {A = List RawAct} [])
    (apart _ _ refl))

acts_there : (version : ℕ) (e : List RawAct) (ts : List Lexeme)
    → Or Is_nothing (Listed (IsAct version)) e ts → AreActs version e ts
acts_there version e ts (inl f) = subst (λ (z : List RawAct). AreActs version z ts) (sym f.0) f.1
acts_there version [] ts (inr f) = absurd f
acts_there version (act ∷ others) ts (inr f) = f

acts_back : (version : ℕ) (e : List RawAct) (ts : List Lexeme) → AreActs version e ts
    → Or Is_nothing (Listed (IsAct version)) e ts
acts_back version [] ts f = inl (refl, f)
acts_back version (act ∷ others) ts f = inr f

abbrev pub acts_goes : ℕ → Bool
acts_goes c = listed_goes act_goes c

pub acts_laws : (version : ℕ)
    → Laws (acts_at version) (AreActs version)
    (λ c. is (kinds.Keyword KwNothing) c || (is (kinds.Keyword KwEmit) c || is kinds.Name c))
    acts_goes false
unfolding acts_at
acts_laws version =
    same_laws (acts_there version) (acts_back version)
    (either_laws (is (kinds.Keyword KwNothing)) nothing_laws
    (listed_laws (act_laws version) (apart _ _ refl)) (within _ _ refl) (apart _ _ refl))
