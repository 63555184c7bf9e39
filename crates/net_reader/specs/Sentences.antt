-- What a text declares, and where it is no network.
use Rattle.std.specs.Prelude.{◌≡◌, ◌⊎◌, ℕ, List, [], ◌∷◌, ◌++◌, length, Result, Ok, Err}
use Rattle.polis_base.specs.Lists.{Begins}
use Rattle.polis_base.specs.Tokens.{tokens_of}
use Rattle.polis_base.specs.declared.token.Token.{Token}
use Rattle.net_reader.specs.Lexemes.{Lexeme, lexemes}
use Rattle.net_reader.specs.Grammar.{IsNet, BeginsSentence}
use Rattle.net_reader.specs.Pieces.{place_of}
use Rattle.net_reader.specs.declared.raw.RawNet.{RawNet}
use Rattle.net_reader.specs.declared.network.NetFault.{NetFault}
use Rattle.net_reader.specs.declared.network.NetFault.TheVariants as faults

-- the text's tokens are a sentence, with these declarations
pub record HasNet (text : List ℕ) (net : RawNet) : Type 0 where
  pub tokens : List Token
  pub read : tokens_of text ≡ Ok tokens
  pub sentence : IsNet net (lexemes text tokens)

-- and no others
pub record HasOnly (text : List ℕ) (net : RawNet) : Type 0 where
  pub has : HasNet text net
  pub only : (other : RawNet) → HasNet text other → other ≡ net

-- the tokens before aren't all of a sentence, or begin none with the next one
abbrev pub Stops : List Lexeme → List Lexeme → Type 0
Stops before [] = (net : RawNet) → IsNet net before → ⊥
Stops before (l ∷ rest) = BeginsSentence (before ++ l ∷ []) → ⊥

-- The text's tokens read and are no sentence: the ones before the place begin one, and those up to
-- it begin none. It is the text's length where all of them begin one.
pub record BreaksAt (text : List ℕ) (place : ℕ) : Type 0 where
  pub tokens : List Token
  pub read : tokens_of text ≡ Ok tokens
  pub before : List Lexeme
  pub rest : List Lexeme
  pub split : lexemes text tokens ≡ before ++ rest
  pub begins : BeginsSentence before
  pub stops : Stops before rest
  pub here : place ≡ place_of (length text) rest

-- the text's tokens are all those of a sentence but its last one
pub record LacksLast (text : List ℕ) : Type 0 where
  pub tokens : List Token
  pub read : tokens_of text ≡ Ok tokens
  pub last : Lexeme
  pub net : RawNet
  pub sentence : IsNet net (lexemes text tokens ++ last ∷ [])

-- this answer, unless memory ran out
abbrev pub OrNoMemory : Result RawNet NetFault → Result RawNet NetFault → Type 0
OrNoMemory result answer = (result ≡ Err faults.NoMemory) ⊎ (result ≡ answer)

-- It declares what the whole does, but of the machines only the first ones.
pub record HasFirstMachines (cut whole : RawNet) : Type 0 where
  pub name : cut.name ≡ whole.name
  pub version : cut.version ≡ whole.version
  pub domains : cut.domains ≡ whole.domains
  pub events : cut.events ≡ whole.events
  pub machines : Begins cut.machines whole.machines

-- a sentence that goes on to another one has the first machines of that one
abbrev pub SentencesHaveFirstMachines : Type 0
SentencesHaveFirstMachines =
    (before more : List Lexeme) (cut whole : RawNet) → IsNet cut before
    → IsNet whole (before ++ more) → HasFirstMachines cut whole

-- A text that is cut off, at whatever byte, and that still declares a network declares the first
-- machines of what the whole text declares, and all else that it declares.
abbrev pub CutsHaveFirstMachines : Type 0
CutsHaveFirstMachines =
    (text rest : List ℕ) (cut whole : RawNet) → HasNet text cut → HasNet (text ++ rest) whole
    → HasFirstMachines cut whole

-- Where it declares as many machines as the whole text, no token was cut off.
abbrev pub CutsNeedAllTokens : Type 0
CutsNeedAllTokens =
    (text rest : List ℕ) (cut whole : RawNet) → HasNet text cut → HasNet (text ++ rest) whole
    → length cut.machines ≡ length whole.machines → tokens_of (text ++ rest) ≡ tokens_of text

-- So a text of one machine that lacks a token, or a part of one, at its end is no network text.
abbrev pub OneMachineNeedsAllTokens : Type 0
OneMachineNeedsAllTokens =
    (text rest : List ℕ) (cut whole : RawNet) → HasNet text cut → HasNet (text ++ rest) whole
    → length whole.machines ≡ 1 → tokens_of (text ++ rest) ≡ tokens_of text
