-- The grammar of network texts, versions 1 and 2: which lists of tokens say which declarations.
use Rattle.std.specs.Prelude.{◌≡◌, ℕ, List, [], ◌∷◌, ◌++◌, Option, Some, None}
use Rattle.polis_base.specs.declared.token.Keyword.{Keyword as Reserved}
use Rattle.polis_base.specs.declared.token.Keyword.TheVariants.{KwNetwork, KwVersion, KwDomain, KwEvent, KwMachine, KwFrom, KwTo, KwEnv, KwPriority, KwInput, KwOutput, KwState, KwWhen, KwDo, KwEmit, KwAbsent, KwIn, KwNothing, KwValue}
use Rattle.polis_base.specs.declared.token.Sign.{Sign as Mark}
use Rattle.polis_base.specs.declared.token.Sign.TheVariants.{Equal, Assign, Colon, Comma, LeftBrace, RightBrace, DotDot, Plus}
use Rattle.polis_base.specs.declared.token.Kind.{Kind}
use Rattle.polis_base.specs.declared.token.Kind.TheVariants as kinds
use Rattle.net_reader.specs.Lexemes.{Lexeme, word_of, num_of, value_of}
use Rattle.net_reader.specs.declared.raw.Word.{Word}
use Rattle.net_reader.specs.declared.raw.Num.{Num}
use Rattle.net_reader.specs.declared.raw.RawValue.{RawValue}
use Rattle.net_reader.specs.declared.raw.RawShape.{RawShape}
use Rattle.net_reader.specs.declared.raw.RawShape.TheVariants as shapes
use Rattle.net_reader.specs.declared.raw.RawDomain.{RawDomain}
use Rattle.net_reader.specs.declared.raw.RawEnv.{RawEnv}
use Rattle.net_reader.specs.declared.raw.RawEnv.TheVariants as envs
use Rattle.net_reader.specs.declared.raw.RawEvent.{RawEvent}
use Rattle.net_reader.specs.declared.raw.RawState.{RawState}
use Rattle.net_reader.specs.declared.raw.RawCond.{RawCond}
use Rattle.net_reader.specs.declared.raw.RawCond.TheVariants as conds
use Rattle.net_reader.specs.declared.raw.RawSource.{RawSource}
use Rattle.net_reader.specs.declared.raw.RawSource.TheVariants as sources
use Rattle.net_reader.specs.declared.raw.RawAct.{RawAct}
use Rattle.net_reader.specs.declared.raw.RawAct.TheVariants as acts
use Rattle.net_reader.specs.declared.raw.RawRow.{RawRow}
use Rattle.net_reader.specs.declared.raw.RawMachine.{RawMachine}
use Rattle.net_reader.specs.declared.raw.RawNet.{RawNet}

-- a condition on a list of tokens
abbrev pub Part : Type 1
Part = List Lexeme → Type 0

-- the list is one of P and then one of Q
infixr 20 ◌⨾◌
abbrev pub ◌⨾◌ : Part → Part → Part
(P ⨾ Q) ts = (x y : List Lexeme) × (ts ≡ x ++ y) × P x × Q y

-- one token, of this kind
abbrev pub Only : Kind → Part
Only kind ts = (l : Lexeme) × (ts ≡ l ∷ []) × (l.kind ≡ kind)

abbrev pub Key : Reserved → Part
Key keyword = Only (kinds.Keyword keyword)

abbrev pub Sign : Mark → Part
Sign sign = Only (kinds.Sign sign)

-- one token, which says this
abbrev pub Says : {A : Type 0} → (Lexeme → Option A) → A → Part
Says f a ts = (l : Lexeme) × (ts ≡ l ∷ []) × (f l ≡ Some a)

abbrev pub IsWord : Word → Part
IsWord = Says word_of

abbrev pub IsNum : Num → Part
IsNum = Says num_of

abbrev pub IsValue : RawValue → Part
IsValue = Says value_of

abbrev pub Nothing : Part
Nothing ts = ts ≡ []

-- no list of tokens
abbrev pub Never : Part
Never ts = ⊥

-- one of P, which stands in version 2 alone
abbrev pub Second : ℕ → Part → Part
Second version P ts = (version ≡ 2) × P ts

abbrev pub Optional : {A : Type 0} → (A → Part) → Option A → Part
Optional P None = Nothing
Optional P (Some a) = P a

-- none or more, one after the other
abbrev pub Each : {A : Type 0} → (A → Part) → List A → Part
Each P [] = Nothing
Each P (a ∷ rest) = P a ⨾ Each P rest

-- one of P, and then none or more of Q
abbrev pub OneAnd : {A : Type 0} → (A → Part) → (A → Part) → List A → Part
OneAnd P Q [] ts = ⊥
OneAnd P Q (a ∷ rest) ts = (P a ⨾ Each Q rest) ts

-- one or more, with commas between them
abbrev pub Listed : {A : Type 0} → (A → Part) → List A → Part
Listed P = OneAnd P (λ a. Sign Comma ⨾ P a)

abbrev pub IsShape : RawShape → Part
IsShape (shapes.Names names) = Sign LeftBrace ⨾ Listed IsWord names ⨾ Sign RightBrace
IsShape (shapes.Range first last) = IsNum first ⨾ Sign DotDot ⨾ IsNum last

abbrev pub IsDomain : RawDomain → Part
IsDomain d = Key KwDomain ⨾ IsWord d.name ⨾ Sign Equal ⨾ IsShape d.shape

abbrev pub IsEnv : RawEnv → Part
IsEnv envs.Between = Nothing
IsEnv envs.FromEnv = Key KwFrom ⨾ Key KwEnv
IsEnv envs.ToEnv = Key KwTo ⨾ Key KwEnv

abbrev pub IsEvent : RawEvent → Part
IsEvent e =
    Key KwEvent ⨾ IsWord e.name ⨾ Optional (λ d. Sign Colon ⨾ IsWord d) e.domain ⨾ IsEnv e.env

abbrev pub IsState : RawState → Part
IsState s = Key KwState ⨾ IsWord s.name ⨾ Sign Colon ⨾ IsWord s.domain ⨾ Sign Equal ⨾ IsValue s.init

abbrev pub IsCond : RawCond → Part
IsCond (conds.Present name) = IsWord name
IsCond (conds.Absent name) = Key KwAbsent ⨾ IsWord name
IsCond (conds.Is name value) = IsWord name ⨾ Sign Equal ⨾ IsValue value
IsCond (conds.OneOf name values) =
    IsWord name ⨾ Key KwIn ⨾ Sign LeftBrace ⨾ Listed IsValue values ⨾ Sign RightBrace

-- what an emission gives its event
abbrev pub IsGiven : ℕ → RawSource → Part
IsGiven version (sources.Value value) = IsValue value
IsGiven version (sources.Input name) = Second version (Key KwValue ⨾ IsWord name)
IsGiven version (sources.Add name number) = Never

-- what a variable is set to
abbrev pub IsSource : ℕ → RawSource → Part
IsSource version (sources.Value value) = IsValue value
IsSource version (sources.Input name) = Second version (Key KwValue ⨾ IsWord name)
IsSource version (sources.Add name number) = Second version (IsWord name ⨾ Sign Plus ⨾ IsNum number)

-- an action in a sentence of this version
abbrev pub IsAct : ℕ → RawAct → Part
IsAct version (acts.Emit name value) =
    Key KwEmit ⨾ IsWord name ⨾ Optional (λ source. Sign Equal ⨾ IsGiven version source) value
IsAct version (acts.Set name value) = IsWord name ⨾ Sign Assign ⨾ IsSource version value

-- what stands after `do`
abbrev pub AreActs : ℕ → List RawAct → Part
AreActs version [] = Key KwNothing
AreActs version (act ∷ acts) = Listed (IsAct version) (act ∷ acts)

abbrev pub IsRow : ℕ → RawRow → Part
IsRow version r = Key KwWhen ⨾ Listed IsCond r.conds ⨾ Key KwDo ⨾ AreActs version r.acts

abbrev pub AreOutputs : List Word → Part
AreOutputs [] = Nothing
AreOutputs (name ∷ names) = Key KwOutput ⨾ Listed IsWord (name ∷ names)

abbrev pub IsMachine : ℕ → RawMachine → Part
IsMachine version m =
    Key KwMachine ⨾ IsWord m.name ⨾ Key KwPriority ⨾ IsNum m.priority ⨾ Sign LeftBrace
    ⨾ Key KwInput ⨾ Listed IsWord m.inputs ⨾ AreOutputs m.outputs ⨾ Each IsState m.states
    ⨾ Each (IsRow version) m.rows ⨾ Sign RightBrace

-- the tokens are a sentence, with these declarations
abbrev pub IsNet : RawNet → Part
IsNet n =
    Key KwNetwork ⨾ IsWord n.name ⨾ Key KwVersion ⨾ IsNum n.version ⨾ Each IsDomain n.domains
    ⨾ Each IsEvent n.events
    ⨾ OneAnd (IsMachine n.version.number) (IsMachine n.version.number) n.machines

-- the tokens begin a sentence
abbrev pub BeginsSentence : List Lexeme → Type 0
BeginsSentence ts = (rest : List Lexeme) × (net : RawNet) × IsNet net (ts ++ rest)
