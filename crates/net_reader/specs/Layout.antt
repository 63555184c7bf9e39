-- The printed layout of a network: one line a declaration, tokens separated by one space, none
-- before a comma.
use Rattle.std.specs.Prelude.{ℕ, List, [], ◌∷◌, ◌++◌, Option, Some, None, codes, decimal, flat_map}
use Rattle.net_reader.specs.Lexemes.{Lexeme}
use Rattle.net_reader.specs.Grammar.{IsNet}
use Rattle.net_reader.specs.declared.raw.Word.{Word}
use Rattle.net_reader.specs.declared.raw.Num.{Num}
use Rattle.net_reader.specs.declared.raw.RawValue.{RawValue}
use Rattle.net_reader.specs.declared.raw.RawValue.TheVariants as values
use Rattle.net_reader.specs.declared.raw.RawShape.{RawShape}
use Rattle.net_reader.specs.declared.raw.RawShape.TheVariants as shapes
use Rattle.net_reader.specs.declared.raw.RawDomain.{RawDomain}
use Rattle.net_reader.specs.declared.raw.RawEnv.{RawEnv}
use Rattle.net_reader.specs.declared.raw.RawEnv.TheVariants as envs
use Rattle.net_reader.specs.declared.raw.RawEvent.{RawEvent}
use Rattle.net_reader.specs.declared.raw.RawState.{RawState}
use Rattle.net_reader.specs.declared.raw.RawCond.{RawCond}
use Rattle.net_reader.specs.declared.raw.RawCond.TheVariants as conds
use Rattle.net_reader.specs.declared.raw.RawSource.{RawSource}
use Rattle.net_reader.specs.declared.raw.RawSource.TheVariants as sources
use Rattle.net_reader.specs.declared.raw.RawAct.{RawAct}
use Rattle.net_reader.specs.declared.raw.RawAct.TheVariants as acts
use Rattle.net_reader.specs.declared.raw.RawRow.{RawRow}
use Rattle.net_reader.specs.declared.raw.RawMachine.{RawMachine}
use Rattle.net_reader.specs.declared.raw.RawNet.{RawNet}

-- some sentence has these declarations
abbrev pub IsOfSentence : RawNet → Type 0
IsOfSentence net = (ts : List Lexeme) × IsNet net ts

abbrev pub word_text : Word → List ℕ
word_text w = w.name

abbrev pub num_text : Num → List ℕ
num_text n = decimal n.number

abbrev pub value_text : RawValue → List ℕ
value_text (values.Name w) = word_text w
value_text (values.Number n) = num_text n

-- items after others, each after a comma
abbrev pub others_text : {A : Type 0} → (A → List ℕ) → List A → List ℕ
others_text f items = flat_map (λ a. codes ", " ++ f a) items

-- items with commas between them
abbrev pub listed_text : {A : Type 0} → (A → List ℕ) → List A → List ℕ
listed_text f [] = []
listed_text f (a ∷ others) = f a ++ others_text f others

abbrev pub shape_text : RawShape → List ℕ
shape_text (shapes.Names names) = codes "{ " ++ listed_text word_text names ++ codes " }"
shape_text (shapes.Range first last) = num_text first ++ codes " .. " ++ num_text last

abbrev pub domain_text : RawDomain → List ℕ
domain_text d = codes "domain " ++ d.name.name ++ codes " = " ++ shape_text d.shape ++ codes "\n"

abbrev pub typed_text : Option Word → List ℕ
typed_text None = []
typed_text (Some d) = codes " : " ++ d.name

abbrev pub env_text : RawEnv → List ℕ
env_text envs.Between = []
env_text envs.FromEnv = codes " from env"
env_text envs.ToEnv = codes " to env"

abbrev pub event_text : RawEvent → List ℕ
event_text e = codes "event " ++ e.name.name ++ typed_text e.domain ++ env_text e.env ++ codes "\n"

abbrev pub state_text : RawState → List ℕ
state_text s =
    codes "  state " ++ s.name.name ++ codes " : " ++ s.domain.name ++ codes " = "
    ++ value_text s.init ++ codes "\n"

abbrev pub cond_text : RawCond → List ℕ
cond_text (conds.Present name) = name.name
cond_text (conds.Absent name) = codes "absent " ++ name.name
cond_text (conds.Is name value) = name.name ++ codes " = " ++ value_text value
cond_text (conds.OneOf name values) =
    name.name ++ codes " in { " ++ listed_text value_text values ++ codes " }"

abbrev pub source_text : RawSource → List ℕ
source_text (sources.Value value) = value_text value
source_text (sources.Input name) = codes "value " ++ name.name
source_text (sources.Add name number) = name.name ++ codes " + " ++ num_text number

abbrev pub act_text : RawAct → List ℕ
act_text (acts.Emit name None) = codes "emit " ++ name.name
act_text (acts.Emit name (Some source)) =
    codes "emit " ++ name.name ++ codes " = " ++ source_text source
act_text (acts.Set name source) = name.name ++ codes " := " ++ source_text source

abbrev pub acts_text : List RawAct → List ℕ
acts_text [] = codes "nothing"
acts_text (act ∷ others) = listed_text act_text (act ∷ others)

abbrev pub row_text : RawRow → List ℕ
row_text r =
    codes "  when " ++ listed_text cond_text r.conds ++ codes " do " ++ acts_text r.acts
    ++ codes "\n"

abbrev pub outputs_text : List Word → List ℕ
outputs_text [] = []
outputs_text (name ∷ names) =
    codes "  output " ++ listed_text word_text (name ∷ names) ++ codes "\n"

abbrev pub head_text : RawMachine → List ℕ
head_text m =
    codes "machine " ++ m.name.name ++ codes " priority " ++ num_text m.priority ++ codes " {\n"

abbrev pub ports_text : RawMachine → List ℕ
ports_text m =
    codes "  input " ++ listed_text word_text m.inputs ++ codes "\n" ++ outputs_text m.outputs

abbrev pub machine_text : RawMachine → List ℕ
machine_text m =
    head_text m ++ ports_text m ++ flat_map state_text m.states ++ flat_map row_text m.rows
    ++ codes "}\n"

abbrev pub network_text : RawNet → List ℕ
network_text n =
    codes "network " ++ n.name.name ++ codes " version " ++ num_text n.version ++ codes "\n"
    ++ flat_map domain_text n.domains ++ flat_map event_text n.events
    ++ flat_map machine_text n.machines
