-- Options, by their places.
use Rattle.std.specs.Prelude.{◌≡◌, ℕ, ◌+◌, List, ◌++◌, Some, slice_get, drop, flat_map}
use Rattle.polis_words.specs.RunOptions.{RunOption, Workers, Limit, Image, Order, Seed, Watch, From, To, IsOption, Said, Says, SayAll, unsaid, flag_of, value_of, option_words}
use Rattle.polis_words.specs.declared.requests.options.Given.{Given}
use Rattle.polis_words.specs.declared.requests.options.Given.TheVariants as given

-- the flag and the word after it are the option's
pub record IsOptionOf (flag value : List ℕ) (o : RunOption) : Type 0 where
  pub option : IsOption o
  pub flag_is : flag ≡ flag_of o
  pub value_is : value ≡ value_of o

-- the option at this place says what none before it said
pub record SaysAt (words : List (List ℕ)) (place : ℕ) (old new : Said) : Type 0 where
  pub option : RunOption
  pub is_option : IsOption option
  pub flag : slice_get words place ≡ Some (flag_of option)
  pub value : slice_get words (place + 1) ≡ Some (value_of option)
  pub says : Says old option new

-- what was read of an option
abbrev pub option_of : Given → RunOption
option_of (given.Workers n) = Workers n
option_of (given.Limit n) = Limit n
option_of (given.Image name) = Image name.now
option_of (given.Order order) = Order order
option_of (given.Seed n) = Seed n
option_of (given.Watch name) = Watch name.now
option_of (given.From n) = From n
option_of (given.To n) = To n

-- the words after the first so many, up to this place, are options that say this
pub record AreSaid (words : List (List ℕ)) (first place : ℕ) (said : Said) : Type 0 where
  pub options : List RunOption
  pub words_are : drop first words ≡ flat_map option_words options ++ drop place words
  pub say : SayAll unsaid options said
