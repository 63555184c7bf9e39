-- The options of runs and charts.
use Rattle.std.specs.Prelude.{◌≡◌, ℕ, ◌≤◌, ◌<◌, ◌^◌, List, [], ◌∷◌, Option, Some, None, flat_map, codes, decimal, ⊤}
use Rattle.polis_base.specs.declared.limits.TheConstants.{ENTRIES_MAX, WORKERS_MAX}
use Rattle.polis_words.specs.declared.requests.order.GivenOrder.{GivenOrder}
use Rattle.polis_words.specs.declared.requests.order.GivenOrder.TheVariants.{Mixed, Free, Settled, Scheduled}
use Rattle.polis_words.specs.FileWords.{IsFileWord}

-- how many workers do the work, the most entries that a journal may have, the name of the image
-- whose code is run, which moves are offered, the number from which the first run is drawn, the
-- name of a monitor, the first entry that is shown, or the first one after it that isn't
pub data RunOption : Type 0 where
  Workers : ℕ → RunOption
  Limit : ℕ → RunOption
  Image : List ℕ → RunOption
  Order : GivenOrder → RunOption
  Seed : ℕ → RunOption
  Watch : List ℕ → RunOption
  From : ℕ → RunOption
  To : ℕ → RunOption

-- its flag
abbrev pub flag_of : RunOption → List ℕ
flag_of (Workers n) = codes "--workers"
flag_of (Limit n) = codes "--limit"
flag_of (Image name) = codes "--image"
flag_of (Order order) = codes "--order"
flag_of (Seed n) = codes "--seed"
flag_of (Watch name) = codes "--watch"
flag_of (From n) = codes "--from"
flag_of (To n) = codes "--to"

-- the word of an order
abbrev pub order_word : GivenOrder → List ℕ
order_word Mixed = codes "mixed"
order_word Free = codes "free"
order_word Settled = codes "settled"
order_word Scheduled = codes "scheduled"

-- the word after its flag
abbrev pub value_of : RunOption → List ℕ
value_of (Workers n) = decimal n
value_of (Limit n) = decimal n
value_of (Image name) = name
value_of (Order order) = order_word order
value_of (Seed n) = decimal n
value_of (Watch name) = name
value_of (From n) = decimal n
value_of (To n) = decimal n

abbrev pub option_words : RunOption → List (List ℕ)
option_words o = flag_of o ∷ value_of o ∷ []

-- 1 to 8 workers, a limit from 1 to 60,000, a seed below 2^64, names of 1 to 200 bytes, entries
-- from 0 to 60,000
abbrev pub IsOption : RunOption → Type 0
IsOption (Workers n) = (1 ≤ n) × (n ≤ WORKERS_MAX)
IsOption (Limit n) = (1 ≤ n) × (n ≤ ENTRIES_MAX)
IsOption (Image name) = IsFileWord name
IsOption (Order order) = ⊤
IsOption (Seed n) = n < 2 ^ 64
IsOption (Watch name) = IsFileWord name
IsOption (From n) = n ≤ ENTRIES_MAX
IsOption (To n) = n ≤ ENTRIES_MAX

-- what options say of each of these, where one says it
pub record Said : Type 0 where
  pub workers : Option ℕ
  pub limit : Option ℕ
  pub image : Option (List ℕ)
  pub order : Option GivenOrder
  pub seed : Option ℕ
  pub watch : Option (List ℕ)
  pub from : Option ℕ
  pub to : Option ℕ

-- what no option says
abbrev pub unsaid : Said
unsaid = record {
  workers = None;
  limit = None;
  image = None;
  order = None;
  seed = None;
  watch = None;
  from = None;
  to = None;
}

-- the option says what none before it said
abbrev pub Says : Said → RunOption → Said → Type 0
Says old (Workers n) new = (old.workers ≡ None) × (new ≡ record old { workers = Some n })
Says old (Limit n) new = (old.limit ≡ None) × (new ≡ record old { limit = Some n })
Says old (Image name) new = (old.image ≡ None) × (new ≡ record old { image = Some name })
Says old (Order order) new = (old.order ≡ None) × (new ≡ record old { order = Some order })
Says old (Seed n) new = (old.seed ≡ None) × (new ≡ record old { seed = Some n })
Says old (Watch name) new = (old.watch ≡ None) × (new ≡ record old { watch = Some name })
Says old (From n) new = (old.from ≡ None) × (new ≡ record old { from = Some n })
Says old (To n) new = (old.to ≡ None) × (new ≡ record old { to = Some n })

-- options in order, each of which says what none before it said
abbrev pub SayAll : Said → List RunOption → Said → Type 0
SayAll old [] new = new ≡ old
SayAll old (o ∷ more) new = IsOption o × ((next : Said) × Says old o next × SayAll next more new)

-- the words are options that say this: each of the eight at most once, in any order
pub record AskOptions (words : List (List ℕ)) (said : Said) : Type 0 where
  pub options : List RunOption
  pub words_are : words ≡ flat_map option_words options
  pub say : SayAll unsaid options said

-- they say nothing of which entries are shown
pub record ShowsAll (said : Said) : Type 0 where
  pub no_from : said.from ≡ None
  pub no_to : said.to ≡ None

-- nor of drawn runs: no order, no seed and no monitor
pub record DrawsNothing (said : Said) : Type 0 where
  pub no_order : said.order ≡ None
  pub no_seed : said.seed ≡ None
  pub no_watch : said.watch ≡ None
  pub shows_all : ShowsAll said

-- they say nothing but an order and a limit
pub record DrawsOne (said : Said) : Type 0 where
  pub no_workers : said.workers ≡ None
  pub no_image : said.image ≡ None
  pub no_seed : said.seed ≡ None
  pub no_watch : said.watch ≡ None
  pub shows_all : ShowsAll said

-- they name no image, and say nothing of which entries are shown
pub record DrawsMany (said : Said) : Type 0 where
  pub no_image : said.image ≡ None
  pub shows_all : ShowsAll said

-- they say nothing but which entries are shown
pub record ShowsPart (said : Said) : Type 0 where
  pub no_workers : said.workers ≡ None
  pub no_limit : said.limit ≡ None
  pub no_image : said.image ≡ None
  pub no_order : said.order ≡ None
  pub no_seed : said.seed ≡ None
  pub no_watch : said.watch ≡ None
