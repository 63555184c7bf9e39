-- The tokens of printed keywords, signs and lists.
use Rattle.std.proofs.Common.{◌≡◌, ℕ, Bool, true, List, [], map, refl, add-zero}
use Rattle.std.specs.Prelude.{codes}
use Rattle.std.specs.List.{list_all}
use Rattle.polis_base.specs.declared.token.Keyword.TheVariants.{KwNetwork, KwVersion, KwDomain, KwEvent, KwMachine, KwFrom, KwTo, KwEnv, KwPriority, KwInput, KwOutput, KwState, KwWhen, KwDo, KwEmit, KwAbsent, KwIn, KwNothing, KwValue}
use Rattle.polis_base.specs.declared.token.Sign.TheVariants.{Equal, Assign, Colon, LeftBrace, RightBrace, DotDot, Plus}
use Rattle.polis_base.specs.declared.token.Kind.TheVariants as kinds
use Rattle.net_reader.specs.Lexemes.{Lexeme}
use Rattle.net_reader.specs.Grammar.{Part, Key, Sign, Nothing, IsWord, IsValue, Listed}
use Rattle.net_reader.specs.Formed.{word_formed, value_formed}
use Rattle.net_reader.specs.Layout.{word_text, value_text, listed_text}
use Rattle.net_reader.specs.Places.{word_alone, value_alone}
use Rattle.net_reader.specs.declared.raw.Word.{Word}
use Rattle.net_reader.specs.declared.raw.RawValue.{RawValue}
use Rattle.net_reader.proofs.Lexemes.{Made, lit, moved, any}
use Rattle.net_reader.proofs.PrintedWords.{Like, ends, word_made, value_made, listed_made}

-- keywords and signs with their blanks
pub network_key : Made any (Key KwNetwork) (codes "network ")
network_key = lit [] 110 (codes "etwork") (codes " ") (kinds.Keyword KwNetwork) refl refl
    (λ at rest. record { size = refl; token = λ read. refl })

pub version_key : Made any (Key KwVersion) (codes " version ")
version_key = lit (codes " ") 118 (codes "ersion") (codes " ") (kinds.Keyword KwVersion) refl refl
    (λ at rest. record { size = refl; token = λ read. refl })

pub domain_key : Made any (Key KwDomain) (codes "domain ")
domain_key = lit [] 100 (codes "omain") (codes " ") (kinds.Keyword KwDomain) refl refl
    (λ at rest. record { size = refl; token = λ read. refl })

pub event_key : Made any (Key KwEvent) (codes "event ")
event_key = lit [] 101 (codes "vent") (codes " ") (kinds.Keyword KwEvent) refl refl
    (λ at rest. record { size = refl; token = λ read. refl })

pub machine_key : Made any (Key KwMachine) (codes "machine ")
machine_key = lit [] 109 (codes "achine") (codes " ") (kinds.Keyword KwMachine) refl refl
    (λ at rest. record { size = refl; token = λ read. refl })

pub from_key : Made any (Key KwFrom) (codes " from ")
from_key = lit (codes " ") 102 (codes "rom") (codes " ") (kinds.Keyword KwFrom) refl refl
    (λ at rest. record { size = refl; token = λ read. refl })

pub to_key : Made any (Key KwTo) (codes " to ")
to_key = lit (codes " ") 116 (codes "o") (codes " ") (kinds.Keyword KwTo) refl refl
    (λ at rest. record { size = refl; token = λ read. refl })

pub env_key : Made any (Key KwEnv) (codes "env\n")
env_key = lit [] 101 (codes "nv") (codes "\n") (kinds.Keyword KwEnv) refl refl
    (λ at rest. record { size = refl; token = λ read. refl })

pub priority_key : Made any (Key KwPriority) (codes " priority ")
priority_key = lit (codes " ") 112 (codes "riority") (codes " ") (kinds.Keyword KwPriority) refl
    refl (λ at rest. record { size = refl; token = λ read. refl })

pub input_key : Made any (Key KwInput) (codes "  input ")
input_key = lit (codes "  ") 105 (codes "nput") (codes " ") (kinds.Keyword KwInput) refl refl
    (λ at rest. record { size = refl; token = λ read. refl })

pub output_key : Made any (Key KwOutput) (codes "  output ")
output_key = lit (codes "  ") 111 (codes "utput") (codes " ") (kinds.Keyword KwOutput) refl refl
    (λ at rest. record { size = refl; token = λ read. refl })

pub state_key : Made any (Key KwState) (codes "  state ")
state_key = lit (codes "  ") 115 (codes "tate") (codes " ") (kinds.Keyword KwState) refl refl
    (λ at rest. record { size = refl; token = λ read. refl })

pub when_key : Made any (Key KwWhen) (codes "  when ")
when_key = lit (codes "  ") 119 (codes "hen") (codes " ") (kinds.Keyword KwWhen) refl refl
    (λ at rest. record { size = refl; token = λ read. refl })

pub do_key : Made any (Key KwDo) (codes " do ")
do_key = lit (codes " ") 100 (codes "o") (codes " ") (kinds.Keyword KwDo) refl refl
    (λ at rest. record { size = refl; token = λ read. refl })

pub emit_key : Made any (Key KwEmit) (codes "emit ")
emit_key = lit [] 101 (codes "mit") (codes " ") (kinds.Keyword KwEmit) refl refl
    (λ at rest. record { size = refl; token = λ read. refl })

pub absent_key : Made any (Key KwAbsent) (codes "absent ")
absent_key = lit [] 97 (codes "bsent") (codes " ") (kinds.Keyword KwAbsent) refl refl
    (λ at rest. record { size = refl; token = λ read. refl })

pub in_key : Made any (Key KwIn) (codes " in ")
in_key = lit (codes " ") 105 (codes "n") (codes " ") (kinds.Keyword KwIn) refl refl
    (λ at rest. record { size = refl; token = λ read. refl })

pub nothing_key : Made any (Key KwNothing) (codes "nothing\n")
nothing_key = lit [] 110 (codes "othing") (codes "\n") (kinds.Keyword KwNothing) refl refl
    (λ at rest. record { size = refl; token = λ read. refl })

pub value_key : Made any (Key KwValue) (codes "value ")
value_key = lit [] 118 (codes "alue") (codes " ") (kinds.Keyword KwValue) refl refl
    (λ at rest. record { size = refl; token = λ read. refl })

pub plus_sign : Made any (Sign Plus) (codes " + ")
plus_sign = lit (codes " ") 43 [] (codes " ") (kinds.Sign Plus) refl refl
    (λ at rest. record { size = refl; token = λ read. refl })

pub equal_sign : Made any (Sign Equal) (codes " = ")
equal_sign = lit (codes " ") 61 [] (codes " ") (kinds.Sign Equal) refl refl
    (λ at rest. record { size = refl; token = λ read. refl })

pub assign_sign : Made any (Sign Assign) (codes " := ")
assign_sign = lit (codes " ") 58 (codes "=") (codes " ") (kinds.Sign Assign) refl refl
    (λ at rest. record { size = refl; token = λ read. refl })

pub colon_sign : Made any (Sign Colon) (codes " : ")
colon_sign = lit (codes " ") 58 [] (codes " ") (kinds.Sign Colon) refl refl
    (λ at rest. record { size = refl; token = λ read. refl })

pub open_sign : Made any (Sign LeftBrace) (codes "{ ")
open_sign = lit [] 123 [] (codes " ") (kinds.Sign LeftBrace) refl refl
    (λ at rest. record { size = refl; token = λ read. refl })

pub close_sign : Made any (Sign RightBrace) (codes " }")
close_sign = lit (codes " ") 125 [] [] (kinds.Sign RightBrace) refl refl
    (λ at rest. record { size = refl; token = λ read. refl })

pub dots_sign : Made any (Sign DotDot) (codes " .. ")
dots_sign = lit (codes " ") 46 (codes ".") (codes " ") (kinds.Sign DotDot) refl refl
    (λ at rest. record { size = refl; token = λ read. refl })

pub body_sign : Made any (Sign LeftBrace) (codes " {\n")
body_sign = lit (codes " ") 123 [] (codes "\n") (kinds.Sign LeftBrace) refl refl
    (λ at rest. record { size = refl; token = λ read. refl })

pub end_sign : Made any (Sign RightBrace) (codes "}\n")
end_sign = lit [] 125 [] (codes "\n") (kinds.Sign RightBrace) refl refl
    (λ at rest. record { size = refl; token = λ read. refl })

-- a text that may stand before more is one that may stand before what ends it
pub weak : {n : List ℕ → Bool} {P : Part} {t : List ℕ} → Made any P t → Made n P t
weak m = record { made = λ at rest ls h l. m.made at rest ls refl l }

pub blank_made : {n : List ℕ → Bool} → Made n Nothing []
blank_made =
    record { made = λ at rest ls h l. ([], refl, moved _ _ _ _ _ _ (add-zero at) refl refl l) }

pub words_made : (names : List Word) (ts : List Lexeme) → list_all word_formed names ≡ true
    → Listed IsWord names ts
    → Made ends (Like (Listed IsWord) (map word_alone) names) (listed_text word_text names)
words_made = listed_made IsWord word_alone word_text word_formed (λ w ts f is. word_made w f)

pub values_made : (values : List RawValue) (ts : List Lexeme) → list_all value_formed values ≡ true
    → Listed IsValue values ts
    → Made ends (Like (Listed IsValue) (map value_alone) values) (listed_text value_text values)
values_made = listed_made IsValue value_alone value_text value_formed (λ v ts f is. value_made v f)
