-- How many variables conditions and actions need, item by item.
use Rattle.std.proofs.Common.{◌≡◌, ℕ, ◌+◌, ◌<◌, ◌≤◌, true, ◌&&◌, List, [], ◌∷◌, length, take, get_or, refl, ap, ◌∙◌, arith, nat_lt}
use Rattle.std.specs.List.{list_all}
use Rattle.std.specs.Ordering.{nat_cmp, ord_max}
use Rattle.std.proofs.lemmas.Bool.Decides.{nat_tests}
use Rattle.std.proofs.lemmas.Bool.{and_parts, and_from, lt-ltb, ltb-true}
use Rattle.std.proofs.lemmas.List.{take_more}
use Rattle.std.proofs.lemmas.List.Folds.{list_all-append}
use Rattle.std.proofs.lemmas.Option.{slice_get-get_or}
use Rattle.transition_table.specs.MachineFacts.{names_codes}
use Rattle.transition_table.specs.Sources.{variable_of}
use Rattle.transition_table.specs.declared.row.Act.{Act}
use Rattle.transition_table.specs.declared.row.Cond.{Cond}
use Rattle.transition_table.specs.declared.row.Source.{Source}
use Rattle.transition_table.specs.declared.row.Source.TheVariants.{Code, Input, Add}
use Rattle.outcome_table.specs.inner.Needs.{asks_before, is_before, takes_before}
use Rattle.polis_base.proofs.ListTests.{all_get}

pub asks_more : (a b : ℕ) (conds : List Cond) → a ≤ b → list_all (asks_before a) conds ≡ true
    → list_all (asks_before b) conds ≡ true
asks_more a b [] most h = refl
asks_more a b (c ∷ conds) most h =
    let parts = and_parts (asks_before a c) (list_all (asks_before a) conds) h in
    let low = ltb-true c.var a parts.0 in
    and_from (asks_before b c) (list_all (asks_before b) conds) (lt-ltb c.var b (omega arith))
    (asks_more a b conds most parts.1)

-- one more condition
pub asks_next : (a b : ℕ) (conds : List Cond) (k : ℕ) (d : Cond) → k < length conds
    → list_all (asks_before a) (take k conds) ≡ true → a ≤ b → (get_or conds k d).var < b
    → list_all (asks_before b) (take (k + 1) conds) ≡ true
asks_next a b conds k d low before most own =
    ap (list_all (asks_before b)) (take_more conds k d low)
    ∙ list_all-append (asks_before b) (take k conds) (get_or conds k d ∷ [])
    ∙ ap (λ t. t && (asks_before b (get_or conds k d) && true))
    (asks_more a b (take k conds) most before)
    ∙ ap (λ t. t && true) (lt-ltb (get_or conds k d).var b own)

-- it is on a variable
pub asks_var : (vars : List ℕ) (conds : List Cond) (k : ℕ) (d : Cond) → k < length conds
    → list_all (names_codes vars) conds ≡ true → (get_or conds k d).var < length vars
asks_var vars conds k d low all =
    let own = all_get (names_codes vars) conds k (get_or conds k d) all
    (slice_get-get_or conds k d low) in
    ltb-true (get_or conds k d).var (length vars)
    (and_parts (nat_lt (get_or conds k d).var (length vars)) _ own).0

before_more : (inputs : List ℕ) (a b y : ℕ) (source : Source) → a ≤ b
    → is_before inputs a y source ≡ true → is_before inputs b y source ≡ true
before_more inputs a b y (Code code) most h = refl
before_more inputs a b y (Input v) most h = let low = ltb-true v a h in lt-ltb v b (omega arith)
before_more inputs a b y (Add k) most h =
    let low = ltb-true (variable_of inputs y) a h in lt-ltb (variable_of inputs y) b (omega arith)

pub takes_more : (inputs : List ℕ) (a b : ℕ) (acts : List Act) → a ≤ b
    → list_all (takes_before inputs a) acts ≡ true → list_all (takes_before inputs b) acts ≡ true
takes_more inputs a b [] most h = refl
takes_more inputs a b (act ∷ acts) most h =
    let parts = and_parts (takes_before inputs a act) (list_all (takes_before inputs a) acts) h in
    and_from (takes_before inputs b act) (list_all (takes_before inputs b) acts)
    (before_more inputs a b act.result act.source most parts.0)
    (takes_more inputs a b acts most parts.1)

-- one more action
pub takes_next : (inputs : List ℕ) (a own b : ℕ) (acts : List Act) (k : ℕ) (d : Act)
    → k < length acts → list_all (takes_before inputs a) (take k acts) ≡ true → a ≤ b → own ≤ b
    → takes_before inputs own (get_or acts k d) ≡ true
    → list_all (takes_before inputs b) (take (k + 1) acts) ≡ true
takes_next inputs a own b acts k d low before most more takes =
    let act : Act = get_or acts k d in
    ap (list_all (takes_before inputs b)) (take_more acts k d low)
    ∙ list_all-append (takes_before inputs b) (take k acts) (act ∷ [])
    ∙ ap (λ t. t && (takes_before inputs b act && true))
    (takes_more inputs a b (take k acts) most before)
    ∙ ap (λ t. t && true) (before_more inputs own b act.result act.source more takes)

-- ---- the greater of two numbers
pub max_over : (a b : ℕ) → (a ≤ ord_max nat_cmp a b) × (b ≤ ord_max nat_cmp a b)
max_over a b = (grind (arith, nat_tests), grind (arith, nat_tests))

pub max_within : (a b k : ℕ) → a ≤ k → b ≤ k → ord_max nat_cmp a b ≤ k
max_within a b k one other = grind (arith, nat_tests)
