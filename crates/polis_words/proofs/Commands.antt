-- Requests by their commands.
use Rattle.std.proofs.Common.{◌≡◌, ◌==◌, get_or, ◌+◌, ◌*◌, ℕ, List, slice_get, Option, refl, sym, ap, ◌∙◌, cond, codes}
use Rattle.polis_words.specs.Commands.{word_of}
use Rattle.polis_words.specs.Requests.{Asks, AsksNothing}
use Rattle.polis_words.specs.declared.requests.Request.{Request}
use Rattle.polis_words.specs.declared.requests.Request.TheVariants as requests
use Rattle.polis_words.specs.declared.requests.command.Command.{Command}
use Rattle.polis_words.specs.declared.requests.command.Command.TheVariants.{Run, OnNet, FromNet, Replay, OnJournal, FromJournal, Demo, Bound, Equiv, Explain, Shuffle, Watch, Survey, Chart}
use Rattle.polis_words.specs.declared.requests.command.OnNet.TheVariants.{Check, Lint}
use Rattle.polis_words.specs.declared.requests.command.FromNet.TheVariants.{Compile, Image, Draw}
use Rattle.polis_words.specs.declared.requests.command.OnJournal.TheVariants.{Losses, Cover}
use Rattle.polis_words.specs.declared.requests.command.FromJournal.TheVariants.{Migrate, Wave}
use Rattle.polis_words.specs.declared.requests.explain.Explain.TheVariants as explains
use Rattle.polis_words.specs.inner.Commands.{IsCommand}
use Rattle.polis_words.proofs.Asks.{same_word}

-- ---- the table
-- the first three letters of a word as one number, which tells the commands apart
letters : List ℕ → ℕ
letters word = (get_or word 0 0 * 256 + get_or word 1 0) * 256 + get_or word 2 0

-- the command of a word, read back
named : List ℕ → Command
named word =
    cond (letters word == letters (codes "run")) Run
    (cond (letters word == letters (codes "check")) (OnNet Check)
    (cond (letters word == letters (codes "lint")) (OnNet Lint)
    (cond (letters word == letters (codes "compile")) (FromNet Compile)
    (cond (letters word == letters (codes "image")) (FromNet Image)
    (cond (letters word == letters (codes "draw")) (FromNet Draw)
    (cond (letters word == letters (codes "replay")) Replay
    (cond (letters word == letters (codes "losses")) (OnJournal Losses)
    (cond (letters word == letters (codes "cover")) (OnJournal Cover)
    (cond (letters word == letters (codes "migrate")) (FromJournal Migrate)
    (cond (letters word == letters (codes "wave")) (FromJournal Wave)
    (cond (letters word == letters (codes "demo")) Demo
    (cond (letters word == letters (codes "bound")) Bound
    (cond (letters word == letters (codes "equiv")) Equiv
    (cond (letters word == letters (codes "explain")) Explain
    (cond (letters word == letters (codes "shuffle")) Shuffle
    (cond (letters word == letters (codes "watch")) Watch
    (cond (letters word == letters (codes "survey")) Survey Chart)))))))))))))))))

known : (command : Command) → named (word_of command) ≡ command
unfolding letters named
known (OnNet Check) = refl
known (OnNet Lint) = refl
known (FromNet Compile) = refl
known (FromNet Image) = refl
known (FromNet Draw) = refl
known (OnJournal Losses) = refl
known (OnJournal Cover) = refl
known (FromJournal Migrate) = refl
known (FromJournal Wave) = refl
known other = refl

-- each word is one command's
pub one_command : (a b : Command) → word_of a ≡ word_of b → a ≡ b
one_command a b same = sym (known a) ∙ ap named same ∙ known b

-- ---- requests
-- the command of a request
abbrev pub command_of : Request → Command
command_of (requests.Run x) = Run
command_of (requests.OnNet kind x) = OnNet kind
command_of (requests.FromNet kind x) = FromNet kind
command_of (requests.Replay x) = Replay
command_of (requests.OnJournal kind x) = OnJournal kind
command_of (requests.FromJournal kind x) = FromJournal kind
command_of (requests.Demo x) = Demo
command_of (requests.Bound x) = Bound
command_of (requests.Equiv x) = Equiv
command_of (requests.Explain x) = Explain
command_of (requests.Shuffle x) = Shuffle
command_of (requests.Watch x) = Watch
command_of (requests.Survey x) = Survey
command_of (requests.Chart x) = Chart

abbrev head : List (List ℕ) → Option (List ℕ)
head words = slice_get words 0

-- its word is the first one
begins : (words : List (List ℕ)) (request : Request) → Asks words request
    → IsCommand words (word_of (command_of request))
begins words (requests.Explain (explains.Net x)) asks = ap head asks.form
begins words (requests.Explain (explains.Trace x)) asks = ap head asks.form
begins words (requests.Explain (explains.Journal x)) asks = ap head asks.form
begins words other asks = ap head asks.form

-- requests of one command line are of one command
pub same_command : (words : List (List ℕ)) (a b : Request) → Asks words a → Asks words b
    → command_of a ≡ command_of b
same_command words a b asks again =
    one_command (command_of a) (command_of b)
    (same_word words 0 (word_of (command_of b)) (word_of (command_of a)) (begins words b again)
    (begins words a asks))

-- a first word of no command asks for nothing
pub no_command : (words : List (List ℕ)) (word : List ℕ) → IsCommand words word
    → ((command : Command) → ¬ (word ≡ word_of command)) → AsksNothing words
no_command words word first none request asks =
    none (command_of request)
    (same_word words 0 (word_of (command_of request)) word (begins words request asks) first)
