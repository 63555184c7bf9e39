-- What options say.
use Rattle.std.proofs.lemmas.List.{length-drop, append-nil}
use Rattle.std.proofs.Common.{◌≡◌, ◌≢◌, ◌+◌, ◌*◌, ◌%◌, ◌≤◌, ◌<◌, ◌^◌, ℕ, get_or, List, [], ◌∷◌, ◌++◌, length, drop, slice_get, flat_map, Some, None, IfNone, refl, sym, ap, subst, ◌∙◌, arith, decimal}
use Rattle.std.specs.Prelude.{Option, unwrap_or}
use Rattle.std.proofs.lemmas.Fmt.{decimal_injective}
use Rattle.polis_base.specs.declared.limits.TheConstants.{ENTRIES_MAX, WORKERS_MAX}
use Rattle.journals.proofs.Emitted.{drop_at_item}
use Rattle.polis_words.specs.declared.requests.order.GivenOrder.{GivenOrder}
use Rattle.polis_words.specs.declared.requests.order.GivenOrder.TheVariants.{Mixed, Free, Settled, Scheduled}
use Rattle.polis_words.specs.RunOptions.{RunOption, Workers, Limit, Image, Order, Seed, Watch, From, To, IsOption, Said, Says, SayAll, AskOptions, unsaid, flag_of, value_of, option_words, order_word}
use Rattle.polis_words.specs.inner.Run.{IsOptionOf, SaysAt, AreSaid}
use Rattle.polis_base.proofs.Places.{same_some, some_at}

-- ---- numbers
-- a number has one text
no_number : (text : List ℕ) (n m most : ℕ) → text ≡ decimal n → n < 2 ^ 64 → most < 2 ^ 64
    → m ≤ most → text ≡ decimal m → n ≡ m
no_number text n m most e below high few d =
    let small : m < 2 ^ 64 = omega arith in
    decimal_injective n m below small (sym e ∙ d)

-- a number that is none of those has no text of theirs
pub no_numbers : (answer : Option ℕ) (text : List ℕ) (n most : ℕ) → text ≡ decimal n
    → n < 2 ^ 64 → most < 2 ^ 64 → IfNone answer ((m : ℕ) → m ≤ most → 1 ≤ m → n ≢ m)
    → IfNone answer ((m : ℕ) → m ≤ most → 1 ≤ m → text ≢ decimal m)
no_numbers None text n most e below high none =
    λ m few some d. none m few some (no_number text n m most e below high few d)
no_numbers (Some found) text n most e below high none = tt

-- and a number above the most has none of a number of at most that
pub no_number_above : (answer : Option ℕ) (text : List ℕ) (n most : ℕ) → text ≡ decimal n
    → n < 2 ^ 64 → most < 2 ^ 64 → IfNone answer (most < n)
    → IfNone answer ((m : ℕ) → m ≤ most → text ≢ decimal m)
no_number_above None text n most e below high none =
    λ m few d.
    let same = no_number text n m most e below high few d in
    omega arith
no_number_above (Some found) text n most e below high none = tt

-- ---- one option
-- the two letters that tell the flags apart, as one number, and the letter that tells the orders
-- apart
letter : List ℕ → ℕ
letter flag = get_or flag 2 0 * 256 + get_or flag 3 0

order_letter : List ℕ → ℕ
order_letter word = get_or word 2 0

-- a word names one order
same_order : (o p : GivenOrder) → order_word o ≡ order_word p → o ≡ p
unfolding order_letter
same_order Mixed Mixed e = refl
same_order Free Free e = refl
same_order Settled Settled e = refl
same_order Scheduled Scheduled e = refl
same_order o p e = let h = ap order_letter e in absurd (omega (arith, h))

-- a flag and a word after it are one option's
same_option : (o p : RunOption) → IsOption o → IsOption p → flag_of o ≡ flag_of p
    → value_of o ≡ value_of p → o ≡ p
unfolding letter
same_option (Workers n) (Workers m) a b f v =
    let low : n < 2 ^ 64 = omega (arith, a.1) in
    let high : m < 2 ^ 64 = omega (arith, b.1) in
    ap Workers (decimal_injective n m low high v)
same_option (Limit n) (Limit m) a b f v =
    let low : n < 2 ^ 64 = omega (arith, a.1) in
    let high : m < 2 ^ 64 = omega (arith, b.1) in
    ap Limit (decimal_injective n m low high v)
same_option (Image x) (Image y) a b f v = ap Image v
same_option (Order o) (Order p) a b f v = ap Order (same_order o p v)
same_option (Seed n) (Seed m) a b f v = ap Seed (decimal_injective n m a b v)
same_option (Watch x) (Watch y) a b f v = ap Watch v
same_option (From n) (From m) a b f v =
    let low : n < 2 ^ 64 = omega (arith, a) in
    let high : m < 2 ^ 64 = omega (arith, b) in
    ap From (decimal_injective n m low high v)
same_option (To n) (To m) a b f v =
    let low : n < 2 ^ 64 = omega (arith, a) in
    let high : m < 2 ^ 64 = omega (arith, b) in
    ap To (decimal_injective n m low high v)
same_option o p a b f v = let h = ap letter f in absurd (omega (arith, h))

-- an option says one thing
one_said : (old x y : Said) (o : RunOption) → Says old o x → Says old o y → y ≡ x
one_said old x y (Workers n) a b = b.1 ∙ sym a.1
one_said old x y (Limit n) a b = b.1 ∙ sym a.1
one_said old x y (Image name) a b = b.1 ∙ sym a.1
one_said old x y (Order order) a b = b.1 ∙ sym a.1
one_said old x y (Seed n) a b = b.1 ∙ sym a.1
one_said old x y (Watch name) a b = b.1 ∙ sym a.1
one_said old x y (From n) a b = b.1 ∙ sym a.1
one_said old x y (To n) a b = b.1 ∙ sym a.1

-- ---- options one after the other
-- all options are those that were read and others after them
goes_on : (given all : List RunOption) (rest : List (List ℕ)) (old mid new : Said)
    → flat_map option_words all ≡ flat_map option_words given ++ rest
    → SayAll old given mid → SayAll old all new
    → (more : List RunOption) × (rest ≡ flat_map option_words more) × SayAll mid more new
goes_on [] all rest old mid new e a b =
    (all, sym e, subst (λ (s : Said). SayAll s all new) (sym a) b)
goes_on (o ∷ given) [] rest old mid new e a b = cc
goes_on (o ∷ given) (p ∷ all) rest old mid new e (is, (next, says, rest_said))
    (are, (other, say, all_said)) =
    let flags : flag_of p ≡ flag_of o = cc in
    let values : value_of p ≡ value_of o = cc in
    let tails : flat_map option_words all ≡ flat_map option_words given ++ rest = cc in
    let same = same_option p o are is flags values in
    let moved = subst (λ (q : RunOption). Says old q other) same say in
    let here = one_said old next other o says moved in
    goes_on given all rest next mid new tails rest_said
    (subst (λ (s : Said). SayAll s all new) here all_said)

-- one option more
one_more : (given : List RunOption) (o : RunOption) (rest : List (List ℕ)) (old mid new : Said)
    → SayAll old given mid → IsOption o → Says mid o new
    → SayAll old (given ++ o ∷ []) new
    × (flat_map option_words (given ++ o ∷ []) ++ rest
    ≡ flat_map option_words given ++ flag_of o ∷ value_of o ∷ rest)
one_more [] o rest old mid new a is says =
    ((is, (new, subst (λ (s : Said). Says s o new) a says, refl)), refl)
one_more (p ∷ given) o rest old mid new (are, (next, say, said)) is says =
    let more = one_more given o rest next mid new said is says in (
      (are, (next, say, more.0)),
      ap (λ (ws : List (List ℕ)). flag_of p ∷ value_of p ∷ ws) more.1,
    )

-- ---- options at their places
-- two words at a place
two_at : (words : List (List ℕ)) (place : ℕ) (a b : List ℕ) → slice_get words place ≡ Some a
    → slice_get words (place + 1) ≡ Some b → drop place words ≡ a ∷ b ∷ drop (place + 2) words
two_at words place a b p q =
    let next : place + 1 + 1 ≡ place + 2 = omega arith in
    drop_at_item words place a p
    ∙ ap (λ (ws : List (List ℕ)). a ∷ ws)
    (drop_at_item words (place + 1) b q
    ∙ ap (λ (k : ℕ). b ∷ drop k words) next)

pub said_next : (words : List (List ℕ)) (first place : ℕ) (old new : Said)
    → AreSaid words first place old → SaysAt words place old new
    → AreSaid words first (place + 2) new
said_next words first place old new a s =
    let more = one_more a.options s.option (drop (place + 2) words) unsaid old new a.say s.is_option
    s.says in
    record {
      options = a.options ++ s.option ∷ [];
      words_are = a.words_are
          ∙ ap (λ (ws : List (List ℕ)). flat_map option_words a.options ++ ws)
          (two_at words place (flag_of s.option) (value_of s.option) s.flag s.value)
          ∙ sym more.1;
      say = more.0;
    }

-- where what stands at a place says nothing new, the words are no options
pub no_more : (words : List (List ℕ)) (first place : ℕ) (old : Said)
    → AreSaid words first place old → place + 1 < length words
    → ((new : Said) → ¬ SaysAt words place old new)
    → (said : Said) → ¬ AskOptions (drop first words) said
no_more words first place old a there none said asks =
    let on = goes_on a.options asks.options (drop place words) unsaid old said
    (sym asks.words_are ∙ a.words_are) a.say asks.say in
    by_case on.0 on.1 on.2
  where
    by_case : (more : List RunOption) → drop place words ≡ flat_map option_words more
        → SayAll old more said → ⊥
    by_case [] e s = let long = length-drop place words in
        let none : length (drop place words) ≡ 0 = ap length e in
        omega (arith, long, none, there)
    by_case (o ∷ more) e (is, (next, says, rest)) =
        let before : place < length words = omega (arith, there) in
        let flag = some_at words place before in
        let value = some_at words (place + 1) there in
        let two = sym (two_at words place flag.0 value.0 flag.1 value.1) ∙ e in
        let same_flag : flag.0 ≡ flag_of o = cc in
        let same_value : value.0 ≡ value_of o = cc in
        none next (record {
          option = o;
          is_option = is;
          flag = flag.1 ∙ ap Some same_flag;
          value = value.1 ∙ ap Some same_value;
          says = says;
        })

pub says_nothing : (words : List (List ℕ)) (place : ℕ) (flag value : List ℕ) (o : RunOption)
    (old : Said) (answer : Option Said) → slice_get words place ≡ Some flag
    → slice_get words (place + 1) ≡ Some value → IsOptionOf flag value o
    → IfNone answer ((new : Said) → ¬ Says old o new)
    → IfNone answer ((new : Said) → ¬ SaysAt words place old new)
says_nothing words place flag value o old (Some found) p q is none = tt
says_nothing words place flag value o old None p q is none = λ new s.
    let flags = same_some (slice_get words place) (flag_of s.option) flag s.flag p ∙ is.flag_is in
    let values = same_some (slice_get words (place + 1)) (value_of s.option) value s.value q
    ∙ is.value_is in
    none new (subst (λ (p : RunOption). Says old p new)
    (same_option s.option o s.is_option is.option flags values) s.says)

-- options are pairs of words
pairs : (options : List RunOption) → length (flat_map option_words options) ≡ 2 * length options
pairs [] = refl
pairs (o ∷ options) = let h = pairs options in omega (arith, h)

pub no_odd : (words : List (List ℕ)) (first count : ℕ) → first + count ≡ length words
    → count % 2 ≢ 0 → (said : Said) → ¬ AskOptions (drop first words) said
no_odd words first count all odd said asks =
    let long = length-drop first words in
    let many = ap length asks.words_are ∙ pairs asks.options in
    let even : count % 2 ≡ 0 = omega (arith, long, many, all) in
    odd even

-- ---- what the words ask for
-- words are options that say one thing
pub one_asked_for : (words : List (List ℕ)) (x y : Said) → AskOptions words x
    → AskOptions words y → y ≡ x
one_asked_for words x y a b =
    let on = goes_on a.options b.options [] unsaid x y
    (sym b.words_are ∙ a.words_are ∙ sym (append-nil (flat_map option_words a.options))) a.say b.say in
    by_case on.0 on.1 on.2
  where
    by_case : (more : List RunOption) → [] ≡ flat_map option_words more → SayAll x more y → y ≡ x
    by_case [] e s = s
    by_case (o ∷ more) e s = cc

-- ---- limits
-- the numbers that are said, or their defaults, are within their limits
abbrev pub AreWithin : Said → Type 0
AreWithin s =
    ((1 ≤ unwrap_or s.workers 1) × (unwrap_or s.workers 1 ≤ WORKERS_MAX))
    × ((1 ≤ unwrap_or s.limit ENTRIES_MAX) × (unwrap_or s.limit ENTRIES_MAX ≤ ENTRIES_MAX))

says_within : (old new : Said) (o : RunOption) → IsOption o → Says old o new → AreWithin old
    → AreWithin new
says_within old new (Workers n) is says a = subst AreWithin (sym says.1) (is, a.1)
says_within old new (Limit n) is says a = subst AreWithin (sym says.1) (a.0, is)
says_within old new (Image name) is says a = subst AreWithin (sym says.1) a
says_within old new (Order order) is says a = subst AreWithin (sym says.1) a
says_within old new (Seed n) is says a = subst AreWithin (sym says.1) a
says_within old new (Watch name) is says a = subst AreWithin (sym says.1) a
says_within old new (From n) is says a = subst AreWithin (sym says.1) a
says_within old new (To n) is says a = subst AreWithin (sym says.1) a

all_within : (options : List RunOption) (old new : Said) → SayAll old options new → AreWithin old
    → AreWithin new
all_within [] old new e a = subst AreWithin (sym e) a
all_within (o ∷ options) old new (is, (next, says, rest)) a =
    all_within options next new rest (says_within old next o is says a)

pub asked_within : (words : List (List ℕ)) (said : Said) → AskOptions words said → AreWithin said
asked_within words said a =
    all_within a.options unsaid said a.say
    ((omega arith, omega arith), (omega arith, omega arith))
