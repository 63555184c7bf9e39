-- The laws of the rules of domains, events and state variables.
use Rattle.std.proofs.Common.{◌≡◌, ℕ, Bool, true, false, ◌||◌, List, Option, Some, None, refl, sym, subst, inl, inr}
use Rattle.polis_base.specs.declared.token.Keyword.TheVariants.{KwDomain, KwEvent, KwFrom, KwTo, KwEnv, KwState}
use Rattle.polis_base.specs.declared.token.Sign.TheVariants.{Equal, Colon, LeftBrace, RightBrace, DotDot}
use Rattle.polis_base.specs.declared.token.Kind.TheVariants as kinds
use Rattle.net_reader.specs.Lexemes.{Lexeme}
use Rattle.net_reader.specs.Grammar.{Part, ◌⨾◌, Key, Sign, IsWord, IsNum, Optional, Listed, IsShape, IsDomain, IsEnv, IsEvent, IsState}
use Rattle.net_reader.specs.Reading.{is, names_at, range_at, shape_at, domain_at, from_env_at, to_env_at, env_at, typed_at, typed_part_at, event_at, state_at}
use Rattle.net_reader.specs.declared.raw.Word.{Word}
use Rattle.net_reader.specs.declared.raw.Num.{Num}
use Rattle.net_reader.specs.declared.raw.RawShape.{RawShape}
use Rattle.net_reader.specs.declared.raw.RawShape.TheVariants as shapes
use Rattle.net_reader.specs.declared.raw.RawDomain.{RawDomain}
use Rattle.net_reader.specs.declared.raw.RawEnv.{RawEnv}
use Rattle.net_reader.specs.declared.raw.RawEnv.TheVariants as envs
use Rattle.net_reader.specs.declared.raw.RawEvent.{RawEvent}
use Rattle.net_reader.specs.declared.raw.RawState.{RawState}
use Rattle.net_reader.proofs.BoundParts.{closed, last_of, with_value, without_value}
use Rattle.net_reader.proofs.Laws.{Laws, none, bind_laws}
use Rattle.net_reader.proofs.Combinators.{Just, Or, same_laws, pure_laws, either_laws}
use Rattle.net_reader.proofs.Tokens.{apart, within, only_laws, word_laws, num_laws, value_laws, optional_there, optional_back, listed_laws}

abbrev pub Is_names : RawShape → Part
Is_names e ts =
    (names : List Word) × (e ≡ shapes.Names names)
    × (Sign LeftBrace ⨾ Listed IsWord names ⨾ Sign RightBrace) ts

pub names_laws : Laws (names_at) (Is_names) (is (kinds.Sign LeftBrace)) none false
unfolding names_at
names_laws = same_laws
    (λ e ts f. (f.5.2, f.5.5.5.0, without_value f (without_value f.5 (last_of f.5.5))))
    (λ e ts f. with_value tt f.2 (with_value f.0 f.2.4 (closed tt f.2.4.4 f.1)))
    (bind_laws (only_laws (kinds.Sign LeftBrace) refl)
    (λ _. bind_laws (listed_laws word_laws (apart _ _ refl))
    (λ names. bind_laws (only_laws (kinds.Sign RightBrace) refl)
    (λ _. pure_laws {A = RawShape} (shapes.Names names)) (apart _ _ refl)) (apart _ _ refl))
    (apart _ _ refl))

abbrev pub Is_range : RawShape → Part
Is_range e ts =
    (first : Num) × (last : Num) × (e ≡ shapes.Range first last)
    × (IsNum first ⨾ Sign DotDot ⨾ IsNum last) ts

pub range_laws : Laws (range_at) (Is_range) (is (kinds.Number 0)) none false
unfolding range_at
range_laws = same_laws
    (λ e ts f. (f.2, f.5.5.2, f.5.5.5.0, without_value f (without_value f.5 (last_of f.5.5))))
    (λ e ts f. with_value f.0 f.3 (with_value tt f.3.4 (closed f.1 f.3.4.4 f.2)))
    (bind_laws num_laws
    (λ first. bind_laws (only_laws (kinds.Sign DotDot) refl)
    (λ _. bind_laws num_laws (λ last. pure_laws {A = RawShape} (shapes.Range first last))
    (apart _ _ refl)) (apart _ _ refl)) (apart _ _ refl))

shape_there : (e : RawShape) (ts : List Lexeme) → Or Is_names Is_range e ts → IsShape e ts
shape_there e ts (inl f) = subst (λ (z : RawShape). IsShape z ts) (sym f.1) f.2
shape_there e ts (inr f) = subst (λ (z : RawShape). IsShape z ts) (sym f.2) f.3

shape_back : (e : RawShape) (ts : List Lexeme) → IsShape e ts → Or Is_names Is_range e ts
shape_back (shapes.Names names) ts f = inl (names, refl, f)
shape_back (shapes.Range first last) ts f = inr (first, last, refl, f)

pub shape_laws : Laws shape_at IsShape (λ c. is (kinds.Sign LeftBrace) c || is (kinds.Number 0) c)
    none false
unfolding shape_at
shape_laws = same_laws shape_there shape_back
    (either_laws (is (kinds.Sign LeftBrace)) names_laws range_laws (within _ _ refl)
    (apart _ _ refl))

pub domain_laws : Laws domain_at IsDomain (is (kinds.Keyword KwDomain)) none false
unfolding domain_at
domain_laws = same_laws
    (λ e ts f. subst (λ (z : RawDomain). IsDomain z ts) (sym f.5.5.5.5.0)
    (without_value f (without_value f.5 (without_value f.5.5 (last_of f.5.5.5)))))
    (λ e ts f.
    with_value tt f (with_value e.name f.4 (with_value tt f.4.4 (closed e.shape f.4.4.4
    refl))))
    (bind_laws (only_laws (kinds.Keyword KwDomain) refl)
    (λ _. bind_laws word_laws (λ name.
    bind_laws (only_laws (kinds.Sign Equal) refl)
    (λ _. bind_laws shape_laws (λ shape.
    pure_laws {A = RawDomain} (record { name = name; shape = shape })) (apart _ _ refl))
    (apart _ _ refl)) (apart _ _ refl)) (apart _ _ refl))

abbrev pub Is_from_env : RawEnv → Part
Is_from_env e ts = (e ≡ envs.FromEnv) × (Key KwFrom ⨾ Key KwEnv) ts

pub from_env_laws : Laws (from_env_at) (Is_from_env) (is (kinds.Keyword KwFrom)) none false
unfolding from_env_at
from_env_laws = same_laws
    (λ e ts f. (f.5.5.0, without_value f (last_of f.5)))
    (λ e ts f. with_value tt f.1 (closed tt f.1.4 f.0))
    (bind_laws (only_laws (kinds.Keyword KwFrom) refl)
    (λ _. bind_laws (only_laws (kinds.Keyword KwEnv) refl)
    (λ _. pure_laws {A = RawEnv} envs.FromEnv) (apart _ _ refl)) (apart _ _ refl))

abbrev pub Is_to_env : RawEnv → Part
Is_to_env e ts = (e ≡ envs.ToEnv) × (Key KwTo ⨾ Key KwEnv) ts

pub to_env_laws : Laws (to_env_at) (Is_to_env) (is (kinds.Keyword KwTo)) none false
unfolding to_env_at
to_env_laws = same_laws
    (λ e ts f. (f.5.5.0, without_value f (last_of f.5)))
    (λ e ts f. with_value tt f.1 (closed tt f.1.4 f.0))
    (bind_laws (only_laws (kinds.Keyword KwTo) refl)
    (λ _. bind_laws (only_laws (kinds.Keyword KwEnv) refl)
    (λ _. pure_laws {A = RawEnv} envs.ToEnv) (apart _ _ refl)) (apart _ _ refl))

env_there : (e : RawEnv) (ts : List Lexeme) → Or Is_from_env (Or Is_to_env (Just envs.Between)) e ts
    → IsEnv e ts
env_there e ts (inl f) = subst (λ (z : RawEnv). IsEnv z ts) (sym f.0) f.1
env_there e ts (inr (inl f)) = subst (λ (z : RawEnv). IsEnv z ts) (sym f.0) f.1
env_there e ts (inr (inr f)) = subst (λ (z : RawEnv). IsEnv z ts) (sym f.0) f.1

env_back : (e : RawEnv) (ts : List Lexeme) → IsEnv e ts
    → Or Is_from_env (Or Is_to_env (Just envs.Between)) e ts
env_back envs.Between ts f = inr (inr (refl, f))
env_back envs.FromEnv ts f = inl (refl, f)
env_back envs.ToEnv ts f = inr (inl (refl, f))

abbrev pub env_goes : ℕ → Bool
env_goes c = is (kinds.Keyword KwTo) c || is (kinds.Keyword KwFrom) c

pub env_laws : Laws env_at IsEnv (λ c.
    is (kinds.Keyword KwFrom) c || (is (kinds.Keyword KwTo) c || false)) env_goes true
unfolding env_at
env_laws = same_laws env_there env_back
    (either_laws (is (kinds.Keyword KwFrom)) from_env_laws
    (either_laws (is (kinds.Keyword KwTo)) to_env_laws (pure_laws envs.Between) (within _ _ refl)
    (apart _ _ refl)) (within _ _ refl) (apart _ _ refl))

abbrev pub Is_typed : Option Word → Part
Is_typed e ts = (name : Word) × (e ≡ Some name) × (Sign Colon ⨾ IsWord name) ts

pub typed_laws : Laws (typed_at) (Is_typed) (is (kinds.Sign Colon)) none false
unfolding typed_at
typed_laws = same_laws
    (λ e ts f. (f.5.2, f.5.5.0, without_value f (last_of f.5)))
    (λ e ts f. with_value tt f.2 (closed f.0 f.2.4 f.1))
    (bind_laws (only_laws (kinds.Sign Colon) refl)
    (λ _. bind_laws word_laws (λ name. pure_laws {A = Option Word} (Some name))
    (apart _ _ refl)) (apart _ _ refl))

pub domain_part_laws : Laws typed_part_at (Optional (λ d. Sign Colon ⨾ IsWord d))
    (λ c. is (kinds.Sign Colon) c || false) (is (kinds.Sign Colon)) true
unfolding typed_part_at
domain_part_laws =
    same_laws (optional_there (λ d. Sign Colon ⨾ IsWord d))
    (optional_back (λ d. Sign Colon ⨾ IsWord d))
    (either_laws (is (kinds.Sign Colon)) typed_laws (pure_laws None) (within _ _ refl)
    (apart _ _ refl))

abbrev pub event_goes : ℕ → Bool
event_goes c = (env_goes c || is (kinds.Sign Colon) c) || false

pub event_laws : Laws event_at IsEvent (is (kinds.Keyword KwEvent)) event_goes false
unfolding event_at
event_laws = same_laws
    (λ e ts f. subst (λ (z : RawEvent). IsEvent z ts) (sym f.5.5.5.5.0)
    (without_value f (without_value f.5 (without_value f.5.5 (last_of f.5.5.5)))))
    (λ e ts f.
    with_value tt f (with_value e.name f.4 (with_value e.domain f.4.4 (closed e.env f.4.4.4
    refl))))
    (bind_laws (only_laws (kinds.Keyword KwEvent) refl)
    (λ _. bind_laws word_laws (λ name.
    bind_laws domain_part_laws (λ domain.
    bind_laws env_laws
    (λ env. pure_laws {A = RawEvent} (record { name = name; domain = domain; env = env }))
    (apart _ _ refl)) (apart _ _ refl)) (apart _ _ refl)) (apart _ _ refl))

pub state_laws : Laws state_at IsState (is (kinds.Keyword KwState)) none false
unfolding state_at
state_laws = same_laws
    (λ e ts f. subst (λ (z : RawState). IsState z ts) (sym f.5.5.5.5.5.5.0)
    (without_value f (without_value f.5 (without_value f.5.5 (without_value f.5.5.5
    (without_value f.5.5.5.5 (last_of f.5.5.5.5.5)))))))
    (λ e ts f.
    with_value tt f (with_value e.name f.4 (with_value tt f.4.4 (with_value e.domain
    f.4.4.4 (with_value tt f.4.4.4.4 (closed e.init f.4.4.4.4.4 refl))))))
    (bind_laws (only_laws (kinds.Keyword KwState) refl)
    (λ _. bind_laws word_laws (λ name.
    bind_laws (only_laws (kinds.Sign Colon) refl)
    (λ _. bind_laws word_laws (λ domain.
    bind_laws (only_laws (kinds.Sign Equal) refl)
    (λ _. bind_laws value_laws (λ init.
    pure_laws {A = RawState} (record { name = name; domain = domain; init = init }))
    (apart _ _ refl)) (apart _ _ refl)) (apart _ _ refl)) (apart _ _ refl)) (apart _ _ refl))
    (apart _ _ refl))
