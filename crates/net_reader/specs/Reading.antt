-- Reading from left to right with one token of look-ahead. A rule answers what it reads and the
-- tokens after it, or the tokens from the first one on that doesn't fit.
use Rattle.std.specs.Prelude.{◌≡◌, ℕ, zero, suc, Bool, true, false, cond, ◌==◌, List, [], ◌∷◌, ◌++◌, ◌<◌, length, Option, Some, None, Result, Ok, Err}
use Rattle.polis_base.specs.declared.token.Keyword.TheVariants.{KwNetwork, KwVersion, KwDomain, KwEvent, KwMachine, KwFrom, KwTo, KwEnv, KwPriority, KwInput, KwOutput, KwState, KwWhen, KwDo, KwEmit, KwAbsent, KwIn, KwNothing, KwValue}
use Rattle.polis_base.specs.declared.token.Sign.TheVariants.{Equal, Assign, Colon, Comma, LeftBrace, RightBrace, DotDot, Plus}
use Rattle.polis_base.specs.declared.token.Kind.{Kind}
use Rattle.polis_base.specs.declared.token.Kind.TheVariants.{Keyword, Sign, Name, Number}
use Rattle.net_reader.specs.Kinds.{class_of}
use Rattle.net_reader.specs.Lexemes.{Lexeme, word_of, num_of, value_of}
use Rattle.net_reader.specs.declared.reader.Stop.{Stop}
use Rattle.net_reader.specs.declared.reader.Stop.TheVariants as stops
use Rattle.net_reader.specs.declared.raw.Word.{Word}
use Rattle.net_reader.specs.declared.raw.Num.{Num}
use Rattle.net_reader.specs.declared.raw.RawValue.{RawValue}
use Rattle.net_reader.specs.declared.raw.RawValue.TheVariants as values
use Rattle.net_reader.specs.declared.raw.RawShape.{RawShape}
use Rattle.net_reader.specs.declared.raw.RawShape.TheVariants as shapes
use Rattle.net_reader.specs.declared.raw.RawDomain.{RawDomain}
use Rattle.net_reader.specs.declared.raw.RawEnv.{RawEnv}
use Rattle.net_reader.specs.declared.raw.RawEnv.TheVariants as envs
use Rattle.net_reader.specs.declared.raw.RawEvent.{RawEvent}
use Rattle.net_reader.specs.declared.raw.RawState.{RawState}
use Rattle.net_reader.specs.declared.raw.RawCond.{RawCond}
use Rattle.net_reader.specs.declared.raw.RawCond.TheVariants as conds
use Rattle.net_reader.specs.declared.raw.RawSource.{RawSource}
use Rattle.net_reader.specs.declared.raw.RawSource.TheVariants as sources
use Rattle.net_reader.specs.declared.raw.RawAct.{RawAct}
use Rattle.net_reader.specs.declared.raw.RawAct.TheVariants as acts
use Rattle.net_reader.specs.declared.raw.RawRow.{RawRow}
use Rattle.net_reader.specs.declared.raw.RawMachine.{RawMachine}
use Rattle.net_reader.specs.declared.raw.RawNet.{RawNet}

abbrev pub Answer : Type 0 → Type 0
Answer A = Result (A × List Lexeme) (List Lexeme)

abbrev pub Rule : Type 0 → Type 0
Rule A = List Lexeme → Answer A

infixl 10 ◌>>=◌
abbrev pub ◌>>=◌ : {A B : Type 0} → Answer A → (A × List Lexeme → Answer B) → Answer B
(Ok x) >>= f = f x
(Err rest) >>= f = Err rest

-- What a function returned, with what it left, is what the rule answers, unless memory ran out.
abbrev pub Gives : {A : Type 0} → Result A Stop → List Lexeme → Answer A → Type 0
Gives (Ok a) left answer = answer ≡ Ok (a, left)
Gives (Err stops.Fault) left answer = answer ≡ Err left
Gives (Err stops.NoMemory) left answer = Unit {0}

-- a value in one token
abbrev pub taken : {A : Type 0} → Option A → Lexeme → List Lexeme → Answer A
taken (Some a) l ls = Ok (a, ls)
taken None l ls = Err (l ∷ ls)

abbrev pub one : {A : Type 0} → (Lexeme → Option A) → Rule A
one f [] = Err []
one f (l ∷ ls) = taken (f l) l ls

-- what the next token says
abbrev pub next_of : {A : Type 0} → (Lexeme → Option A) → List Lexeme → Option A
next_of f [] = None
next_of f (l ∷ ls) = f l

-- the kinds that have this number
abbrev pub is : Kind → ℕ → Bool
is kind c = c == class_of kind

-- the next token is of such a kind
abbrev pub begins : (ℕ → Bool) → List Lexeme → Bool
begins test [] = false
begins test (l ∷ ls) = test (class_of l.kind)

-- a kind that says all of its token
abbrev pub is_fixed : Kind → Bool
is_fixed Name = true
is_fixed (Number n) = false
is_fixed (Keyword k) = true
is_fixed (Sign s) = true

abbrev pub of_kind : Kind → Lexeme → Option (Unit {0})
of_kind kind l = cond (is kind (class_of l.kind)) (Some tt) None

unfoldable pub only : Kind → Rule (Unit {0})
only kind = one (of_kind kind)

unfoldable pub word_at : Rule Word
word_at = one word_of

unfoldable pub num_at : Rule Num
num_at = one num_of

unfoldable pub value_at : Rule RawValue
value_at = one value_of

-- whatever is read, less is left
abbrev pub Shrinks : {A : Type 0} → Rule A → Type 0
Shrinks {A} p = (ls rest : List Lexeme) (a : A) → p ls ≡ Ok (a, rest) → length rest < length ls

-- p where the next token passes, and otherwise q
abbrev pub either : {A : Type 0} → (ℕ → Bool) → Rule A → Rule A → Rule A
either test p q ls = cond (begins test ls) (p ls) (q ls)

-- the value, and nothing is read
abbrev pub pure : {A : Type 0} → A → Rule A
pure a ls = Ok (a, ls)

-- Items as long as the next token passes, at most n of them. An item has a token at least, so that
-- no more than there are tokens can come.
abbrev pub many_up_to : {A : Type 0} → ℕ → (ℕ → Bool) → Rule A → Rule (List A)
many_up_to zero test p ls = Ok ([], ls)
many_up_to (suc n) test p ls = cond (begins test ls)
    (p ls >>= λ x. many_up_to n test p x.1 >>= λ y. Ok (x.0 ∷ y.0, y.1)) (Ok ([], ls))

unfoldable pub many : {A : Type 0} → (ℕ → Bool) → Rule A → Rule (List A)
many test p ls = many_up_to (length ls) test p ls

-- items, with others before them
abbrev pub with_before : {A : Type 0} → List A → Answer (List A) → Answer (List A)
with_before items answer = answer >>= λ y. Ok (items ++ y.0, y.1)

-- what is read, after other items
abbrev pub with_one : {A : Type 0} → List A → Answer A → Answer (List A)
with_one items answer = answer >>= λ x. Ok (items ++ x.0 ∷ [], x.1)

-- A function that puts what it reads after other items left these items and these tokens, as the
-- answer says, unless memory ran out.
abbrev pub Adds : {A : Type 0} → Result (Unit {0}) Stop → List Lexeme → List A → Answer (List A)
    → Type 0
Adds (Ok u) left made answer = answer ≡ Ok (made, left)
Adds (Err stops.Fault) left made answer = answer ≡ Err left
Adds (Err stops.NoMemory) left made answer = Unit {0}

-- an item and the ones after it
abbrev pub more : {A : Type 0} → (ℕ → Bool) → Rule A → A → Rule (List A)
more test p a ls = many test p ls >>= λ y. Ok (a ∷ y.0, y.1)

-- one or more
abbrev pub some : {A : Type 0} → (ℕ → Bool) → Rule A → Rule (List A)
some test p ls = p ls >>= λ x. more test p x.0 x.1

unfoldable pub after_comma : {A : Type 0} → Rule A → Rule A
after_comma p ls = only (Sign Comma) ls >>= λ x. p x.1

-- one or more, with commas between them
unfoldable pub listed : {A : Type 0} → Rule A → Rule (List A)
listed p ls = p ls >>= λ x. more (is (Sign Comma)) (after_comma p) x.0 x.1

unfoldable pub names_at : Rule RawShape
names_at ls = do
  l ← only (Sign LeftBrace) ls
  names ← listed word_at l.1
  r ← only (Sign RightBrace) names.1
  Ok (shapes.Names names.0, r.1)

unfoldable pub range_at : Rule RawShape
range_at ls = do
  first ← num_at ls
  d ← only (Sign DotDot) first.1
  last ← num_at d.1
  Ok (shapes.Range first.0 last.0, last.1)

unfoldable pub shape_at : Rule RawShape
shape_at = either (is (Sign LeftBrace)) names_at range_at

unfoldable pub domain_at : Rule RawDomain
domain_at ls = do
  d ← only (Keyword KwDomain) ls
  name ← word_at d.1
  e ← only (Sign Equal) name.1
  shape ← shape_at e.1
  Ok (record { name = name.0; shape = shape.0 }, shape.1)

unfoldable pub from_env_at : Rule RawEnv
from_env_at ls = do
  f ← only (Keyword KwFrom) ls
  e ← only (Keyword KwEnv) f.1
  Ok (envs.FromEnv, e.1)

unfoldable pub to_env_at : Rule RawEnv
to_env_at ls = do
  t ← only (Keyword KwTo) ls
  e ← only (Keyword KwEnv) t.1
  Ok (envs.ToEnv, e.1)

unfoldable pub env_at : Rule RawEnv
env_at = either (is (Keyword KwFrom)) from_env_at
    (either (is (Keyword KwTo)) to_env_at (pure envs.Between))

unfoldable pub typed_at : Rule (Option Word)
typed_at ls = do
  c ← only (Sign Colon) ls
  name ← word_at c.1
  Ok (Some name.0, name.1)

-- the domain of an event, if it has one
unfoldable pub typed_part_at : Rule (Option Word)
typed_part_at = either (is (Sign Colon)) typed_at (pure None)

unfoldable pub event_at : Rule RawEvent
event_at ls = do
  e ← only (Keyword KwEvent) ls
  name ← word_at e.1
  domain ← typed_part_at name.1
  env ← env_at domain.1
  Ok (record { name = name.0; domain = domain.0; env = env.0 }, env.1)

unfoldable pub state_at : Rule RawState
state_at ls = do
  s ← only (Keyword KwState) ls
  name ← word_at s.1
  c ← only (Sign Colon) name.1
  domain ← word_at c.1
  e ← only (Sign Equal) domain.1
  init ← value_at e.1
  Ok (record { name = name.0; domain = domain.0; init = init.0 }, init.1)

unfoldable pub absent_at : Rule RawCond
absent_at ls = do
  a ← only (Keyword KwAbsent) ls
  name ← word_at a.1
  Ok (conds.Absent name.0, name.1)

unfoldable pub is_at : Word → Rule RawCond
is_at name ls = do
  e ← only (Sign Equal) ls
  value ← value_at e.1
  Ok (conds.Is name value.0, value.1)

unfoldable pub one_of_at : Word → Rule RawCond
one_of_at name ls = do
  i ← only (Keyword KwIn) ls
  l ← only (Sign LeftBrace) i.1
  values ← listed value_at l.1
  r ← only (Sign RightBrace) values.1
  Ok (conds.OneOf name values.0, r.1)

-- what stands after the name of a condition
unfoldable pub after_name_at : Word → Rule RawCond
after_name_at name = either (is (Sign Equal)) (is_at name)
    (either (is (Keyword KwIn)) (one_of_at name) (pure (conds.Present name)))

unfoldable pub named_at : Rule RawCond
named_at ls = do
  name ← word_at ls
  after_name_at name.0 name.1

unfoldable pub cond_at : Rule RawCond
cond_at = either (is (Keyword KwAbsent)) absent_at named_at

unfoldable pub plain_at : Rule RawSource
plain_at ls = do
  value ← value_at ls
  Ok (sources.Value value.0, value.1)

unfoldable pub input_at : Rule RawSource
input_at ls = do
  v ← only (Keyword KwValue) ls
  name ← word_at v.1
  Ok (sources.Input name.0, name.1)

unfoldable pub add_at : Word → Rule RawSource
add_at name ls = do
  p ← only (Sign Plus) ls
  number ← num_at p.1
  Ok (sources.Add name number.0, number.1)

unfoldable pub add_or_plain_at : Word → Rule RawSource
add_or_plain_at name =
    either (is (Sign Plus)) (add_at name) (pure (sources.Value (values.Name name)))

-- what a value is the beginning of, where a sum may stand
unfoldable pub after_value_at : RawValue → Rule RawSource
after_value_at (values.Name name) = add_or_plain_at name
after_value_at (values.Number number) = pure (sources.Value (values.Number number))

unfoldable pub sum_at : Rule RawSource
sum_at ls = do
  value ← value_at ls
  after_value_at value.0 value.1

unfoldable pub input_or_plain_at : Rule RawSource
input_or_plain_at = either (is (Keyword KwValue)) input_at plain_at

unfoldable pub input_or_sum_at : Rule RawSource
input_or_sum_at = either (is (Keyword KwValue)) input_at sum_at

-- what stands after the `=` of an emission
unfoldable pub given_source_at : ℕ → Rule RawSource
given_source_at version = cond (version == 2) input_or_plain_at plain_at

-- what stands after `:=`
unfoldable pub source_at : ℕ → Rule RawSource
source_at version = cond (version == 2) input_or_sum_at plain_at

unfoldable pub given_at : ℕ → Rule (Option RawSource)
given_at version ls = do
  e ← only (Sign Equal) ls
  source ← given_source_at version e.1
  Ok (Some source.0, source.1)

-- what an emission gives, if anything
unfoldable pub given_part_at : ℕ → Rule (Option RawSource)
given_part_at version = either (is (Sign Equal)) (given_at version) (pure None)

unfoldable pub emit_at : ℕ → Rule RawAct
emit_at version ls = do
  e ← only (Keyword KwEmit) ls
  name ← word_at e.1
  value ← given_part_at version name.1
  Ok (acts.Emit name.0 value.0, value.1)

unfoldable pub set_at : ℕ → Rule RawAct
set_at version ls = do
  name ← word_at ls
  a ← only (Sign Assign) name.1
  value ← source_at version a.1
  Ok (acts.Set name.0 value.0, value.1)

unfoldable pub act_at : ℕ → Rule RawAct
act_at version = either (is (Keyword KwEmit)) (emit_at version) (set_at version)

unfoldable pub nothing_at : Rule (List RawAct)
nothing_at ls = do
  n ← only (Keyword KwNothing) ls
  Ok ([], n.1)

unfoldable pub acts_at : ℕ → Rule (List RawAct)
acts_at version = either (is (Keyword KwNothing)) nothing_at (listed (act_at version))

unfoldable pub row_at : ℕ → Rule RawRow
row_at version ls = do
  w ← only (Keyword KwWhen) ls
  conds ← listed cond_at w.1
  d ← only (Keyword KwDo) conds.1
  acts ← acts_at version d.1
  Ok (record { conds = conds.0; acts = acts.0 }, acts.1)

unfoldable pub output_at : Rule (List Word)
output_at ls = do
  o ← only (Keyword KwOutput) ls
  listed word_at o.1

unfoldable pub outputs_at : Rule (List Word)
outputs_at = either (is (Keyword KwOutput)) output_at (pure [])

-- what stands after the left brace of a machine
unfoldable pub body_at : ℕ → Word → Num → Rule RawMachine
body_at version name priority ls = do
  i ← only (Keyword KwInput) ls
  inputs ← listed word_at i.1
  outputs ← outputs_at inputs.1
  states ← many (is (Keyword KwState)) state_at outputs.1
  rows ← many (is (Keyword KwWhen)) (row_at version) states.1
  r ← only (Sign RightBrace) rows.1
  Ok (
    record {
      name = name;
      priority = priority;
      inputs = inputs.0;
      outputs = outputs.0;
      states =
          states.0;
      rows = rows.0;
    },
    r.1,
  )

unfoldable pub machine_at : ℕ → Rule RawMachine
machine_at version ls = do
  m ← only (Keyword KwMachine) ls
  name ← word_at m.1
  p ← only (Keyword KwPriority) name.1
  priority ← num_at p.1
  l ← only (Sign LeftBrace) priority.1
  body_at version name.0 priority.0 l.1

unfoldable pub net_at : Rule RawNet
net_at ls = do
  n ← only (Keyword KwNetwork) ls
  name ← word_at n.1
  v ← only (Keyword KwVersion) name.1
  version ← num_at v.1
  domains ← many (is (Keyword KwDomain)) domain_at version.1
  events ← many (is (Keyword KwEvent)) event_at domains.1
  machines ← some (is (Keyword KwMachine)) (machine_at version.0.number) events.1
  Ok (
    record {
      name = name.0;
      version = version.0;
      domains = domains.0;
      events = events.0;
      machines
          = machines.0;
    },
    machines.1,
  )

-- the end of the list
unfoldable pub end_at : Rule (Unit {0})
end_at [] = Ok (tt, [])
end_at (l ∷ ls) = Err (l ∷ ls)

-- all of the tokens
unfoldable pub whole_at : Rule RawNet
whole_at ls = do
  net ← net_at ls
  e ← end_at net.1
  Ok (net.0, e.1)
