-- Small texts of both versions, and what they declare. Each name and number has its byte place in
-- the text.
use Rattle.std.specs.Prelude.{ℕ, List, [], ◌∷◌, ◌++◌, Some, None, codes}
use Rattle.net_reader.specs.declared.raw.Word.{Word}
use Rattle.net_reader.specs.declared.raw.Num.{Num}
use Rattle.net_reader.specs.declared.raw.RawValue.TheVariants as values
use Rattle.net_reader.specs.declared.raw.RawShape.TheVariants as shapes
use Rattle.net_reader.specs.declared.raw.RawEnv.TheVariants as envs
use Rattle.net_reader.specs.declared.raw.RawCond.TheVariants as conds
use Rattle.net_reader.specs.declared.raw.RawSource.TheVariants as sources
use Rattle.net_reader.specs.declared.raw.RawAct.{RawAct}
use Rattle.net_reader.specs.declared.raw.RawAct.TheVariants as acts
use Rattle.net_reader.specs.declared.raw.RawNet.{RawNet}

abbrev word : List ℕ → ℕ → Word
word name at = record { name = name; at = at }

abbrev num : ℕ → ℕ → Num
num number at = record { number = number; at = at }

abbrev pub lamp_text : List ℕ
lamp_text = codes
    "network lamp version 1\ndomain bit = { off, on }\nevent press from env\nevent light to env\nmachine lamp_ctl priority 1 {\n  input press\n  output light\n  state s : bit = off\n  when press, s = off do s := on, emit light\n}\n"

abbrev pub lamp : RawNet
lamp = record {
  name = word (codes "lamp") 8;
  version = num 1 21;
  domains =
      record {
        name = word (codes "bit") 30;
        shape = shapes.Names
            (word (codes "off") 38 ∷ word (codes "on") 43 ∷ []);
      }
      ∷ [];
  events =
      record { name = word (codes "press") 54; domain = None; env = envs.FromEnv }
      ∷ record { name = word (codes "light") 75; domain = None; env = envs.ToEnv } ∷ [];
  machines =
      record {
        name = word (codes "lamp_ctl") 96;
        priority = num 1 114;
        inputs = word (codes "press") 126 ∷ [];
        outputs = word (codes "light") 141 ∷ [];
        states =
            record {
              name = word (codes "s") 155;
              domain = word (codes "bit") 159;
              init =
                  values.Name (word (codes "off") 165);
            }
            ∷ [];
        rows =
            record {
              conds =
                  conds.Present (word (codes "press") 176)
                  ∷ conds.Is (word (codes "s") 183) (values.Name (word (codes "off") 187)) ∷ [];
              acts =
                  acts.Set (word (codes "s") 194)
                  (sources.Value (values.Name (word (codes "on") 199)))
                  ∷ acts.Emit (word (codes "light") 208) None ∷ [];
            }
            ∷ [];
      }
      ∷ [];
}

abbrev pub echo_text : List ℕ
echo_text = codes
    "network echo version 2\ndomain d = 0 .. 7\nevent v : d from env\nevent w : d to env\nmachine m priority 0 {\n  input v\n  output w\n  state s : d = 6\n  when v do s := s + 3, emit w = value v\n}\n"

abbrev pub echo : RawNet
echo = record {
  name = word (codes "echo") 8;
  version = num 2 21;
  domains = record { name = word (codes "d") 30; shape = shapes.Range (num 0 34) (num 7 39) } ∷ [];
  events =
      record { name = word (codes "v") 47; domain = Some (word (codes "d") 51); env = envs.FromEnv }
      ∷ record { name = word (codes "w") 68; domain = Some (word (codes "d") 72); env = envs.ToEnv }
      ∷ [];
  machines =
      record {
        name = word (codes "m") 89;
        priority = num 0 100;
        inputs = word (codes "v") 112 ∷ [];
        outputs = word (codes "w") 123 ∷ [];
        states =
            record {
              name = word (codes "s") 133;
              domain = word (codes "d") 137;
              init =
                  values.Number (num 6 141);
            }
            ∷ [];
        rows =
            record {
              conds = conds.Present (word (codes "v") 150) ∷ [];
              acts =
                  acts.Set (word (codes "s") 155) (sources.Add (word (codes "s") 160) (num 3 164))
                  ∷ acts.Emit (word (codes "w") 172) (Some (sources.Input (word (codes "v") 182)))
                  ∷ [];
            }
            ∷ [];
      }
      ∷ [];
}

-- a text of this version with one row, which does this
abbrev pub with_action : List ℕ → List ℕ → List ℕ
with_action version action =
    codes "network t version " ++ version
    ++ codes " event g from env machine m priority 0 { input g when g do " ++ action ++ codes " }"

-- what it declares
abbrev pub one_action : ℕ → RawAct → RawNet
one_action version action = record {
  name = word (codes "t") 8;
  version = num version 18;
  domains = [];
  events = record { name = word (codes "g") 26; domain = None; env = envs.FromEnv } ∷ [];
  machines =
      record {
        name = word (codes "m") 45;
        priority = num 0 56;
        inputs = word (codes "g") 66 ∷ [];
        outputs = [];
        states = [];
        rows = record { conds = conds.Present (word (codes "g") 73) ∷ []; acts = action ∷ [] } ∷ [];
      }
      ∷ [];
}

-- `s := value g`
abbrev pub set_to_input : RawAct
set_to_input = acts.Set (word (codes "s") 78) (sources.Input (word (codes "g") 89))
