-- Items and the codes that they give, both ways.
use Rattle.std.proofs.Common.{◌≡◌, ◌<◌, ◌+◌, ◌-◌, ℕ, zero, suc, Bool, true, false, not, nat_lt, cond, List, [], ◌∷◌, ◌++◌, map, Option, Some, None, Result, Ok, Err, refl, sym, ◌∙◌, ap, arith, slice_get, subst}
use Rattle.std.specs.Prelude.{option_map, unwrap_or, codes, ⊤}
use Rattle.std.specs.List.{list_all, list_any}
use Rattle.std.specs.Option.{option_map_or}
use Rattle.std.proofs.lemmas.Bool.{and_parts, ltb-true, lt-ltb, not-true, eqb-true, and_from}
use Rattle.domains.specs.Names.{is_same, are_distinct}
use Rattle.domains.specs.Domains.{size_of, word_of, WordsDiffer}
use Rattle.domains.specs.Tables.{fits}
use Rattle.domains.specs.declared.domain.Domain.{Domain}
use Rattle.transition_table.specs.NetworkFacts.{values_of}
use Rattle.transition_table.specs.declared.network.Network.{Network}
use Rattle.journal_text.specs.declared.fault.JournalKind.{JournalKind}
use Rattle.journal_text.specs.declared.fault.JournalKind.TheVariants.{Name}
use Rattle.journal_text.specs.Texts.{value_part}
use Rattle.journal_text.specs.Forms.{Text, Texts}
use Rattle.transition_table.specs.NetworkNames.{joined}
use Rattle.journal_text.specs.Items.{Named, is_equals, name_part, value_part_of, has_name, item_code, with_code, some_codes, all_values}
use Rattle.journals.specs.ValueWords.{word_code, value_named}
use Rattle.journal_text.specs.Holding.{values_hold}
use Rattle.domains.proofs.Names.{same_texts, same_self}
use Rattle.journal_text.proofs.FormWords.{some_same}
use Rattle.journal_text.proofs.FoundByName.{value_found, value_has}
use Rattle.polis_base.proofs.Bools.{neither_first, neither_second}

-- no byte of the text is `=`
abbrev pub lacks_equals : Text → Bool
lacks_equals text = list_all (λ c. not (is_equals c)) text

-- a text after `=`, where there is one
abbrev pub after_equals : Option Text → Text
after_equals None = []
after_equals (Some value) = 61 ∷ value

pub name_of_item : (name : Text) (value : Option Text) → lacks_equals name ≡ true
    → name_part (name ++ after_equals value) ≡ name
name_of_item [] None h = refl
name_of_item [] (Some value) h = refl
name_of_item (c ∷ name) value h =
    let parts = and_parts (not (is_equals c)) _ h in
    rw (not-true _ parts.0, name_of_item name value parts.1) refl

pub value_of_item : (name : Text) (value : Option Text) → lacks_equals name ≡ true
    → value_part_of (name ++ after_equals value) ≡ value
value_of_item [] None h = refl
value_of_item [] (Some value) h = refl
value_of_item (c ∷ name) value h =
    let parts = and_parts (not (is_equals c)) _ h in
    rw (not-true _ parts.0) (value_of_item name value parts.1)

-- an item is its name and what stands after the first `=`
pub item_parts : (item : Text) → item ≡ name_part item ++ after_equals (value_part_of item)
item_parts [] = refl
item_parts (c ∷ rest) = go (is_equals c) refl (item_parts rest)
  where
    go : (b : Bool) → is_equals c ≡ b → rest ≡ name_part rest ++ after_equals (value_part_of rest)
        → c ∷ rest ≡ cond b [] (c ∷ name_part rest)
        ++ after_equals (cond b (Some rest) (value_part_of rest))
    go true e h = ap (λ x. x ∷ rest) (eqb-true c 61 e)
    go false e h = ap (λ xs. c ∷ xs) h

-- how many codes a thing has
abbrev pub named_size : Network → Named → ℕ
named_size net named = 1 + values_of net.domains named.1

-- `E` or `E=V`
abbrev pub item_text : Network → Named → ℕ → Text
item_text net named v = named.0 ++ option_map_or (λ d. value_part net d v) named.1 []

-- the items of the things with a code above 0
abbrev pub named_items : Network → List Named → List ℕ → Texts
named_items net (named ∷ rest) (zero ∷ codes) = named_items net rest codes
named_items net (named ∷ rest) (suc v ∷ codes) = item_text net named v ∷ named_items net rest codes
named_items net [] codes = []
named_items net (named ∷ rest) [] = []

-- the domains of the network hold distinct words
abbrev pub DomainsHold : Network → Type 0
DomainsHold net = (d : ℕ) (domain : Domain) → slice_get net.domains d ≡ Some domain
    → values_hold domain ≡ true

-- the word of a value, where there is a domain
abbrev pub value_word : Network → Named → ℕ → Option Text
value_word net named v =
    option_map (λ d. unwrap_or (option_map (λ domain. word_of domain v) (slice_get net.domains d))
    []) named.1

pub item_is : (net : Network) (named : Named) (v : ℕ)
    → item_text net named v ≡ named.0 ++ after_equals (value_word net named v)
item_is net (name, None) v = refl
item_is net (name, Some d) v = refl

pub item_has_name : (net : Network) (named : Named) (v : ℕ) → lacks_equals named.0 ≡ true
    → has_name named (item_text net named v) ≡ true
item_has_name net named v h =
    rw (item_is net named v, name_of_item named.0 (value_word net named v) h) (same_self named.0)

pub item_has_code : WordsDiffer → (net : Network) (named : Named) (v : ℕ) → DomainsHold net
    → lacks_equals named.0 ≡ true → suc v < named_size net named
    → item_code net named (item_text net named v) ≡ Some (suc v)
item_has_code differ net (name, None) v hold h below =
    let first : v ≡ 0 = omega arith in
    rw (
      item_is net (name, None) v,
      value_of_item name (value_word net (name, None) v) h,
      first,
    ) refl
item_has_code differ net (name, Some d) v hold h below =
    rw (item_is net (name, Some d) v, value_of_item name (value_word net (name, Some d) v) h)
    (at (slice_get net.domains d) refl below)
  where
    at : (o : Option Domain) → slice_get net.domains d ≡ o
        → suc v < 1 + unwrap_or (option_map size_of o) 0
        → option_map (λ v. 1 + v)
        (joined (option_map
        (value_named (unwrap_or (option_map (λ domain. word_of domain v) o) [])) o))
        ≡ Some (suc v)
    at None p below = absurd (omega arith)
    at (Some domain) p below =
        let found = value_found differ domain v (hold d domain p) (omega arith) in
        let one : 1 + v ≡ suc v = omega arith in
        rw found (ap Some one)

-- an item of this name with a code is the item of that code
pub item_of_code : (net : Network) (named : Named) (item : Text) (code : ℕ)
    → has_name named item ≡ true → item_code net named item ≡ Some code
    → (v : ℕ) × (code ≡ suc v) × (item ≡ item_text net named v) × (suc v < named_size net named)
item_of_code net (name, domain) item code h is =
    let first : name ≡ name_part item = same_texts name (name_part item) h in
    let whole : item ≡ name ++ after_equals (value_part_of item) = rw first (item_parts item) in
    go domain (value_part_of item) whole is
  where
    found : (d : ℕ) (value : Text) (domain : Domain) (o : Option ℕ) → value_named value domain ≡ o
        → slice_get net.domains d ≡ Some domain → item ≡ name ++ after_equals (Some value)
        → option_map (λ v. 1 + v) o ≡ Some code
        → (v : ℕ) × (code ≡ suc v) × (item ≡ item_text net (name, Some d) v)
        × (suc v < named_size net (name, Some d))
    found d value domain None q p whole is = cc
    found d value domain (Some v) q p whole is =
        let has = value_has domain value v q in
        let one : 1 + v ≡ code = some_same is in
        let more : code ≡ suc v = omega arith in
        (v, more, rw (p, has.1) whole, rw p (omega (arith, has.0)))

    at : (d : ℕ) (value : Text) (o : Option Domain) → slice_get net.domains d ≡ o
        → item ≡ name ++ after_equals (Some value)
        → option_map (λ v. 1 + v) (joined (option_map (value_named value) o)) ≡ Some code
        → (v : ℕ) × (code ≡ suc v) × (item ≡ item_text net (name, Some d) v)
        × (suc v < named_size net (name, Some d))
    at d value None p whole is = cc
    at d value (Some domain) p whole is =
        found d value domain (value_named value domain) refl p whole is

    go : (o : Option ℕ) (value : Option Text) → item ≡ name ++ after_equals value
        → word_code net o value ≡ Some code → (v : ℕ) × (code ≡ suc v)
        × (item ≡ item_text net (name, o) v) × (suc v < named_size net (name, o))
    go None None whole is =
        let one : 1 ≡ code = some_same is in
        (0, sym one, whole, omega arith)
    go None (Some value) whole is = cc
    go (Some d) None whole is = cc
    go (Some d) (Some value) whole is = at d value (slice_get net.domains d) refl whole is

-- a list of items begins with none of this name
abbrev pub HeadIsNot : Named → Texts → Type 0
HeadIsNot named [] = ⊤
HeadIsNot named (item ∷ items) = has_name named item ≡ false

pub skipped : (net : Network) (named : Named) (things : List Named) (items : Texts) (codes : List ℕ)
    → HeadIsNot named items → some_codes net things items ≡ Ok codes
    → some_codes net (named ∷ things) items ≡ Ok (0 ∷ codes)
skipped net named things [] codes isnt h = rw h refl
skipped net named things (item ∷ items) codes isnt h = rw (isnt, h) refl

-- the names of the things lack `=`, and no two are the same
abbrev pub names_lack : List Named → Bool
names_lack things = list_all (λ (named : Named). lacks_equals named.0) things

abbrev pub names_of : List Named → Texts
names_of things = map (λ (named : Named). named.0) things

later : (net : Network) (named : Named) (things : List Named) (codes : List ℕ)
    → names_lack things ≡ true → list_any (is_same named.0) (names_of things) ≡ false
    → HeadIsNot named (named_items net things codes)
later net named [] codes lack other = tt
later net named (thing ∷ things) [] lack other = tt
later net named (thing ∷ things) (zero ∷ codes) lack other =
    later net named things codes (and_parts (lacks_equals thing.0) _ lack).1
    (neither_second (is_same named.0 thing.0) _ other)
later net named (thing ∷ things) (suc v ∷ codes) lack other =
    rw (
      item_is net thing v,
      name_of_item thing.0 (value_word net thing v)
          (and_parts (lacks_equals thing.0) _ lack).0,
    ) (neither_first (is_same named.0 thing.0) _ other)

-- the items of codes that fit give these codes
pub codes_read : WordsDiffer → (net : Network) (things : List Named) (codes : List ℕ)
    → DomainsHold net → names_lack things ≡ true → are_distinct (names_of things) ≡ true
    → fits (map (named_size net) things) codes ≡ true
    → some_codes net things (named_items net things codes) ≡ Ok codes
codes_read differ net [] [] hold lack distinct fit = refl
codes_read differ net [] (code ∷ codes) hold lack distinct fit = cc
codes_read differ net (thing ∷ things) [] hold lack distinct fit = cc
codes_read differ net (thing ∷ things) (zero ∷ codes) hold lack distinct fit =
    let lacks = and_parts (lacks_equals thing.0) _ lack in
    let apart = and_parts (not (list_any (is_same thing.0) (names_of things))) _ distinct in
    let fits = and_parts (nat_lt 0 (named_size net thing)) _ fit in
    skipped net thing things (named_items net things codes) codes
    (later net thing things codes lacks.1 (not-true _ apart.0))
    (codes_read differ net things codes hold lacks.1 apart.1 fits.1)
codes_read differ net (thing ∷ things) (suc v ∷ codes) hold lack distinct fit =
    let lacks = and_parts (lacks_equals thing.0) _ lack in
    let apart = and_parts (not (list_any (is_same thing.0) (names_of things))) _ distinct in
    let fits = and_parts (nat_lt (suc v) (named_size net thing)) _ fit in
    let named = item_has_name net thing v lacks.0 in
    let coded = item_has_code differ net thing v hold lacks.0 (ltb-true _ _ fits.0) in
    rw (named, coded, codes_read differ net things codes hold lacks.1 apart.1 fits.1) refl

-- one more code
pub values_read : WordsDiffer → (net : Network) (things : List Named) (values : List ℕ)
    → DomainsHold net → names_lack things ≡ true
    → fits (map (λ (named : Named). values_of net.domains named.1) things) values ≡ true
    → all_values net things (named_items net things (map suc values)) ≡ Ok values
values_read differ net [] [] hold lack fit = refl
values_read differ net [] (v ∷ values) hold lack fit = cc
values_read differ net (thing ∷ things) [] hold lack fit = cc
values_read differ net (thing ∷ things) (v ∷ values) hold lack fit =
    let lacks = and_parts (lacks_equals thing.0) _ lack in
    let fits = and_parts (nat_lt v (values_of net.domains thing.1)) _ fit in
    let below = ltb-true _ _ fits.0 in
    let named = item_has_name net thing v lacks.0 in
    let coded = item_has_code differ net thing v hold lacks.0 (omega arith) in
    let less : suc v - 1 ≡ v = omega arith in
    rw (named, coded, values_read differ net things values hold lacks.1 fits.1, less) refl

-- what is under a code in front
pub under_code : (code : Option ℕ) (rest : Result (List ℕ) JournalKind) (codes : List ℕ)
    → with_code code rest ≡ Ok codes → (c : ℕ) × (cs : List ℕ) × (code ≡ Some c) × (rest ≡ Ok cs)
    × (codes ≡ c ∷ cs)
under_code None rest codes h = cc
under_code (Some c) (Err kind) codes h = cc
under_code (Some c) (Ok cs) codes h =
    let e : codes ≡ c ∷ cs = cc in
    (c, cs, refl, refl, e)

-- items that give codes are the items of these codes, which fit
pub items_are : (net : Network) (things : List Named) (items : Texts) (codes : List ℕ)
    → some_codes net things items ≡ Ok codes
    → (items ≡ named_items net things codes) × (fits (map (named_size net) things) codes ≡ true)
items_are net [] [] codes h =
    let none : codes ≡ [] = cc in
    rw none (refl, refl)
items_are net [] (item ∷ items) codes h = cc
items_are net (thing ∷ things) [] codes h =
    let u = under_code (Some 0) (some_codes net things []) codes h in
    let zero_first : u.0 ≡ 0 = sym (some_same u.2) in
    let r = items_are net things [] u.1 u.3 in
    let is : codes ≡ 0 ∷ u.1 = u.4 ∙ ap (λ c. c ∷ u.1) zero_first in
    subst (λ cs. ([] ≡ named_items net (thing ∷ things) cs)
    × (fits (map (named_size net) (thing ∷ things)) cs ≡ true)) (sym is)
    (r.0, and_from _ _ (lt-ltb _ _ (omega arith)) r.1)
items_are net (thing ∷ things) (item ∷ items) codes h =
    go (has_name thing item) refl h (λ xs cs e. items_are net things xs cs e)
  where
    go : (b : Bool) → has_name thing item ≡ b
        → with_code (cond b (item_code net thing item) (Some 0))
        (some_codes net things (cond b items (item ∷ items))) ≡ Ok codes
        → ((xs : Texts) (cs : List ℕ) → some_codes net things xs ≡ Ok cs
        → (xs ≡ named_items net things cs) × (fits (map (named_size net) things) cs ≡ true))
        → (item ∷ items ≡ named_items net (thing ∷ things) codes)
        × (fits (map (named_size net) (thing ∷ things)) codes ≡ true)
    go true p e more =
        let u = under_code (item_code net thing item) (some_codes net things items) codes e in
        let r = more items u.1 u.3 in
        let i = item_of_code net thing item u.0 p u.2 in
        let is : codes ≡ suc i.0 ∷ u.1 = u.4 ∙ ap (λ c. c ∷ u.1) i.1 in
        subst (λ cs. (item ∷ items ≡ named_items net (thing ∷ things) cs)
        × (fits (map (named_size net) (thing ∷ things)) cs ≡ true)) (sym is) (
          ap (λ x. x ∷ items) i.2 ∙ ap (λ xs. item_text net thing i.0 ∷ xs) r.0,
          and_from _ _ (lt-ltb _ _ i.3) r.1,
        )
    go false p e more =
        let u = under_code (Some 0) (some_codes net things (item ∷ items)) codes e in
        let zero_first : u.0 ≡ 0 = sym (some_same u.2) in
        let r = more (item ∷ items) u.1 u.3 in
        let is : codes ≡ 0 ∷ u.1 = u.4 ∙ ap (λ c. c ∷ u.1) zero_first in
        subst (λ cs. (item ∷ items ≡ named_items net (thing ∷ things) cs)
        × (fits (map (named_size net) (thing ∷ things)) cs ≡ true)) (sym is)
        (r.0, and_from _ _ (lt-ltb _ _ (omega arith)) r.1)

-- items that give values are the items of these values, which fit
pub values_are : (net : Network) (things : List Named) (items : Texts) (values : List ℕ)
    → all_values net things items ≡ Ok values
    → (items ≡ named_items net things (map suc values))
    × (fits (map (λ (named : Named). values_of net.domains named.1) things) values ≡ true)
values_are net [] [] values h =
    let none : values ≡ [] = cc in
    rw none (refl, refl)
values_are net [] (item ∷ items) values h = cc
values_are net (thing ∷ things) [] values h = cc
values_are net (thing ∷ things) (item ∷ items) values h =
    go (has_name thing item) refl h (λ vs e. values_are net things items vs e)
  where
    under : (o : Option ℕ) (v : ℕ) → option_map (λ code. code - 1) o ≡ Some v
        → (c : ℕ) × (o ≡ Some c) × (c - 1 ≡ v)
    under None v e = cc
    under (Some c) v e = (c, refl, some_same e)

    go : (b : Bool) → has_name thing item ≡ b
        → cond b (with_code (option_map (λ code. code - 1) (item_code net thing item))
        (all_values net things items)) (Err Name) ≡ Ok values
        → ((vs : List ℕ) → all_values net things items ≡ Ok vs
        → (items ≡ named_items net things (map suc vs))
        × (fits (map (λ (named : Named). values_of net.domains named.1) things) vs ≡ true))
        → (item ∷ items ≡ named_items net (thing ∷ things) (map suc values))
        × (fits (map (λ (named : Named). values_of net.domains named.1) (thing ∷ things))
        values ≡ true)
    go true p e more =
        let u = under_code (option_map (λ code. code - 1) (item_code net thing item))
        (all_values net things items) values e in
        let w = under (item_code net thing item) u.0 u.2 in
        let r = more u.1 u.3 in
        let i = item_of_code net thing item w.0 p w.1 in
        let same : i.0 ≡ u.0 = omega (arith, i.1, w.2) in
        let is : values ≡ i.0 ∷ u.1 = u.4 ∙ ap (λ c. c ∷ u.1) (sym same) in
        subst (λ vs. (item ∷ items ≡ named_items net (thing ∷ things) (map suc vs))
        × (fits (map (λ (named : Named). values_of net.domains named.1) (thing ∷ things)) vs
        ≡ true)) (sym is) (
          ap (λ x. x ∷ items) i.2 ∙ ap (λ xs. item_text net thing i.0 ∷ xs) r.0,
          and_from _ _ (lt-ltb _ _ (omega (arith, i.3))) r.1,
        )
    go false p e more = cc
