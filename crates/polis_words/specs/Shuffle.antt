-- The command line `shuffle NET TRACE STEM SEED`, with its options.
use Rattle.std.specs.Prelude.{◌≡◌, ℕ, ◌<◌, ◌^◌, List, ◌∷◌, ◌++◌, unwrap_or, codes, decimal}
use Rattle.polis_base.specs.declared.limits.TheConstants.{ENTRIES_MAX}
use Rattle.polis_words.specs.declared.requests.order.GivenOrder.{GivenOrder}
use Rattle.polis_words.specs.declared.requests.order.GivenOrder.TheVariants.{Mixed}
use Rattle.polis_words.specs.FileWords.{IsFileWord}
use Rattle.polis_words.specs.RunOptions.{Said, AskOptions, DrawsOne}

-- what a drawn run is asked for: the names of its files, the number from which it is drawn, which
-- moves it is offered, and the most entries that its journal may have
pub record ShuffleWords : Type 0 where
  pub net : List ℕ
  pub trace : List ℕ
  pub stem : List ℕ
  pub seed : ℕ
  pub order : GivenOrder
  pub limit : ℕ

-- the words are options that say this order and this limit, and nothing else; where none says so,
-- the order is drawn too, and the limit is 60,000
pub record AskSettings (words : List (List ℕ)) (order : GivenOrder) (limit : ℕ) : Type 0 where
  pub said : Said
  pub asks : AskOptions words said
  pub order_is : order ≡ unwrap_or said.order Mixed
  pub limit_is : limit ≡ unwrap_or said.limit ENTRIES_MAX
  pub draws_one : DrawsOne said

-- `shuffle NET TRACE STEM SEED` with these options after it, the seed in decimal
abbrev pub shuffle_form : ShuffleWords → List (List ℕ) → List (List ℕ)
shuffle_form shuffle options =
    codes "shuffle" ∷ shuffle.net ∷ shuffle.trace ∷ shuffle.stem ∷ decimal shuffle.seed ∷ options

-- the command line asks for this drawn run: the seed is below 2^64
pub record AsksShuffle (words : List (List ℕ)) (shuffle : ShuffleWords) : Type 0 where
  pub options : List (List ℕ)
  pub form : words ≡ shuffle_form shuffle options
  pub net : IsFileWord shuffle.net
  pub trace : IsFileWord shuffle.trace
  pub stem : IsFileWord shuffle.stem
  pub seed : shuffle.seed < 2 ^ 64
  pub asks : AskSettings options shuffle.order shuffle.limit

-- the name of the outputs' file
abbrev pub out_name : ShuffleWords → List ℕ
out_name shuffle = shuffle.stem ++ codes ".out"

-- the name of the journal's file
abbrev pub journal_name : ShuffleWords → List ℕ
journal_name shuffle = shuffle.stem ++ codes ".jnl"
