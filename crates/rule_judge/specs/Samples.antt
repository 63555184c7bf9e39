-- Small texts, with the rule that each breaks first, and the byte place that is shown.
use Rattle.std.specs.Prelude.{◌≡◌, ℕ, ◌+◌, ◌/◌, ◌%◌, nat_lt, List, [], ◌∷◌, ◌++◌, drop, flat_map, Option, Some, None, codes, if◌then◌else◌, ⊤}
use Rattle.polis_base.specs.Lists.{upto}
use Rattle.net_reader.specs.declared.raw.RawNet.{RawNet}
use Rattle.net_reader.specs.Sentences.{HasNet}
use Rattle.net_reader.specs.Samples.{lamp_text, echo_text}
use Rattle.rule_judge.specs.declared.verdict.Broken.{Broken}
use Rattle.rule_judge.specs.Judged.{broken}

-- a text with the first rule that it breaks and the least place, or none
abbrev pub Sample : Type 0
Sample = List ℕ × Option Broken

-- the text declares a network, of which this is so
abbrev pub IsJudged : Sample → Type 0
IsJudged sample = (net : RawNet) × HasNet sample.0 net × (broken net ≡ sample.1)

-- and so do all of these
abbrev pub AreJudged : List Sample → Type 0
AreJudged [] = ⊤
AreJudged (sample ∷ samples) = IsJudged sample × AreJudged samples

abbrev breaks : List ℕ → ℕ → ℕ → Sample
breaks text rule place = (text, Some (record { rule = rule; place = place }))

abbrev keeps : List ℕ → Sample
keeps text = (text, None)

-- a text of version 1
abbrev text : List ℕ → List ℕ
text declarations = codes "network t version 1 " ++ declarations

-- one with these declarations, and a machine that reads g
abbrev before_g : List ℕ → List ℕ
before_g declarations =
    text (declarations ++ codes "event g from env machine m priority 0 { input g }")

-- one whose machine reads v and g, emits p and has the state variable s, with this row after `when`
abbrev with_row : List ℕ → List ℕ
with_row row = text
    (codes "domain d = { x, y } event v : d from env event p : d to env event g from env "
    ++ codes "machine m priority 0 { input v, g output p state s : d = x when "
    ++ row ++ codes " }")

-- one of version 2 with two domains of the same numbers, and with these actions in its row
abbrev with_acts : List ℕ → List ℕ
with_acts acts = codes "network t version 2 domain d = 0 .. 1 domain e = 0 .. 1 "
    ++ codes "event v : d from env event w : d to env machine m priority 0 "
    ++ codes "{ input v output w state s : d = 0 state r : e = 0 when v do " ++ acts ++ codes " }"

-- a number below 100
abbrev digits : ℕ → List ℕ
digits n = if nat_lt n 10 then (48 + n) ∷ [] else (48 + n / 10) ∷ (48 + n % 10) ∷ []

-- so many items with numbers from 0 on, each between two words
abbrev numbered : ℕ → List ℕ → List ℕ → List ℕ
numbered count before after = flat_map (λ n. before ++ digits n ++ after) (upto count)

abbrev pub samples : List Sample
samples =
    breaks (codes "network t version 3 event g from env machine m priority 0 { input g }") 1 18
    ∷ breaks (before_g (numbered 65 (codes "domain d") (codes " = 0 .. 1 "))) 2 1297
    ∷ breaks (before_g (codes "domain g = { a } event g from env ")) 3 60
    ∷ breaks (before_g (codes "domain d = { a, b, a } ")) 4 39
    ∷ breaks (before_g (codes "domain d = 4 .. 3 ")) 4 36
    ∷ breaks (before_g (codes "domain d = 0 .. 32 ")) 5 27
    ∷ breaks (text (codes "event g : e from env machine m priority 0 { input g }")) 6 30
    ∷ breaks (text (codes "event g from env machine m priority 0 { input g, x }")) 7 69
    ∷ breaks (text (codes "domain d = 0 .. 1 event g from env "
    ++ codes "machine m priority 0 { input g state g : d = 0 }")) 8 92
    ∷ breaks (text (codes "domain d = 0 .. 0 event g from env machine m priority 0 { input g"
    ++ numbered 9 (codes " state s") (codes " : d = 0") ++ codes " }")) 9 63
    ∷ breaks (text (codes "event g from env machine m priority 256 { input g }")) 10 56
    ∷ breaks (text (codes "event g from env event p to env "
    ++ codes "machine a priority 0 { input g output p } machine b priority 0 { input g output p }"))
    11 132
    ∷ breaks (text (codes "event g from env event p to env "
    ++ codes "machine a priority 0 { input g output g, p }")) 11 90
    ∷ breaks (text (codes "event g from env event p to env machine m priority 0 { input g }")) 12 43
    ∷ breaks (text (codes "event g from env event h from env machine m priority 0 { input g }"))
    13 43
    ∷ breaks (text (codes "domain d = 5 .. 7 event g from env "
    ++ codes "machine m priority 0 { input g state s : d = 4 }")) 14 100
    ∷ breaks (with_row (codes "p do nothing")) 15 161
    ∷ breaks (with_row (codes "g, s do nothing")) 16 164
    ∷ breaks (with_row (codes "g = x do nothing")) 16 161
    ∷ breaks (with_row (codes "v in { x, z } do nothing")) 17 171
    ∷ breaks (with_row (codes "g do s := x, s := y")) 18 174
    ∷ breaks (with_row (codes "g do emit g")) 18 171
    ∷ breaks (with_row (codes "g do s := y, emit p")) 19 179
    ∷ breaks (with_row (codes "g do s := 0")) 19 171
    ∷ breaks (text (codes "domain d22 = 1 .. 22 domain d18 = 1 .. 18 domain d3 = 1 .. 3 "
    ++ codes "domain d5 = 1 .. 5 event g from env event a : d22 from env event b : d18 from env "
    ++ codes "machine m priority 0 "
    ++ codes "{ input g, a, b state x : d3 = 1 state y : d5 = 1 state z : d5 = 1 }")) 20 171
    ∷ breaks (codes "network t version 2 domain d = 0 .. 1 event v : d from env event w : d to env "
    ++ codes "machine m priority 0 { input v output w when absent v do emit w = value v }") 22 150
    ∷ breaks (with_acts (codes "emit w")) 19 183
    ∷ breaks (with_acts (codes "emit w = value w")) 21 193
    ∷ breaks (with_acts (codes "emit w = value v, r := value v")) 23 207
    ∷ breaks (with_acts (codes "s := r + 1")) 24 183
    ∷ breaks (with_acts (codes "s := s + 2")) 25 187
    ∷ keeps (text (numbered 16 (codes "event e") (codes " from env ")
    ++ codes "machine m priority 0 { input" ++ drop 1 (numbered 16 (codes ", e") []) ++ codes " }"))
    ∷ keeps lamp_text
    ∷ keeps (codes "network val version 1 domain d = 0 .. 7 event v : d from env event hit to env "
    ++ codes "machine m priority 0 { input v output hit when v = 5 do emit hit }")
    ∷ keeps echo_text
    ∷ []
