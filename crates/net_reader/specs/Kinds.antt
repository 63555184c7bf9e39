-- Kinds of tokens told apart by a number.
use Rattle.std.specs.Prelude.{ℕ}
use Rattle.polis_base.specs.declared.token.Keyword.TheVariants.{KwNetwork, KwVersion, KwDomain, KwEvent, KwMachine, KwFrom, KwTo, KwEnv, KwPriority, KwInput, KwOutput, KwState, KwWhen, KwDo, KwEmit, KwAbsent, KwIn, KwNothing, KwSettle, KwValue}
use Rattle.polis_base.specs.declared.token.Sign.TheVariants.{Equal, Assign, Colon, Comma, LeftBrace, RightBrace, DotDot, Plus}
use Rattle.polis_base.specs.declared.token.Kind.{Kind}
use Rattle.polis_base.specs.declared.token.Kind.TheVariants.{Keyword, Name, Number, Sign}

-- the number of a kind: names have one, numbers have one, and each sign and each keyword has one
abbrev pub class_of : Kind → ℕ
class_of Name = 0
class_of (Number n) = 1
class_of (Sign Equal) = 2
class_of (Sign Assign) = 3
class_of (Sign Colon) = 4
class_of (Sign Comma) = 5
class_of (Sign LeftBrace) = 6
class_of (Sign RightBrace) = 7
class_of (Sign DotDot) = 8
class_of (Sign Plus) = 9
class_of (Keyword KwNetwork) = 10
class_of (Keyword KwVersion) = 11
class_of (Keyword KwDomain) = 12
class_of (Keyword KwEvent) = 13
class_of (Keyword KwMachine) = 14
class_of (Keyword KwFrom) = 15
class_of (Keyword KwTo) = 16
class_of (Keyword KwEnv) = 17
class_of (Keyword KwPriority) = 18
class_of (Keyword KwInput) = 19
class_of (Keyword KwOutput) = 20
class_of (Keyword KwState) = 21
class_of (Keyword KwWhen) = 22
class_of (Keyword KwDo) = 23
class_of (Keyword KwEmit) = 24
class_of (Keyword KwAbsent) = 25
class_of (Keyword KwIn) = 26
class_of (Keyword KwNothing) = 27
class_of (Keyword KwSettle) = 28
class_of (Keyword KwValue) = 29
