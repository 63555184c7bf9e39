-- Words beyond a number, words of events on one side, and places found in three parts.
use Rattle.std.proofs.Common.{◌≡◌, ◌∙◌, ℕ, zero, suc, ◌+◌, ◌<◌, Result, IfOk, Bool, true, false, not, ◌||◌, cond, List, ◌∷◌, ◌++◌, map, flat_map, filter, length, take, drop, get_or, slice_get, Option, Some, is_some, refl, ap, sym, true≢false, []}
use Rattle.std.proofs.lemmas.List.{take_more}
use Rattle.polis_base.specs.declared.NoMemory.{NoMemory}
use Rattle.net_reader.specs.declared.raw.Word.{Word}
use Rattle.net_reader.specs.declared.raw.RawEnv.{RawEnv}
use Rattle.net_reader.specs.declared.raw.RawEvent.{RawEvent}
use Rattle.net_names.specs.Places.{unless, sooner, least_place}
use Rattle.net_names.specs.Numbers.{is_name_of, repeated}
use Rattle.domains.specs.Names.{is_same}
use Rattle.rule_judge.specs.Rules.{beyond}
use Rattle.rule_judge.specs.inner.Sorting.{taken_before}
use Rattle.rule_judge.proofs.LeastPlace.{sooner_least, least_append, repeated_more}
use Rattle.net_names.proofs.IfOk.{IfOk_same}
use Rattle.polis_base.proofs.Bools.{or_swap}
use Rattle.polis_base.proofs.Places.{some_is}

pub beyond_some : (most : ℕ) (words : List Word) (w : Word) → slice_get words most ≡ Some w
    → beyond most words ≡ w.at ∷ []
beyond_some most [] w at = absurd (true≢false (sym (ap is_some at)))
beyond_some zero (x ∷ words) w at = ap (λ (y : Word). y.at ∷ []) (some_is x w at)
beyond_some (suc most) (x ∷ words) w at = beyond_some most words w at

-- the names of the events that pass
pub where_words : (test : RawEnv → Bool) (events : List RawEvent)
    → flat_map (λ (e : RawEvent). cond (test e.env) (e.name ∷ []) []) events
    ≡ map (λ (e : RawEvent). e.name) (filter (λ (e : RawEvent). test e.env) events)
where_words test [] = refl
where_words test (e ∷ events) = by (test e.env) (where_words test events)
  where
    by : (b : Bool) → flat_map (λ (e : RawEvent). cond (test e.env) (e.name ∷ []) []) events
        ≡ map (λ (e : RawEvent). e.name) (filter (λ (e : RawEvent). test e.env) events)
        → cond b (e.name ∷ []) [] ++ flat_map (λ (e : RawEvent). cond (test e.env) (e.name ∷ []) [])
        events ≡ map (λ (e : RawEvent). e.name)
        (cond b (e ∷ filter (λ (e : RawEvent). test e.env) events)
        (filter (λ (e : RawEvent). test e.env) events))
    by true h = ap (λ l. e.name ∷ l) h
    by false h = h

-- what was found before, then in three parts
pub three_found : (found a b : Option ℕ) (r : Result (Option ℕ) NoMemory) (ps qs rs : List ℕ)
    → a ≡ sooner found (least_place ps) → b ≡ sooner a (least_place qs)
    → IfOk r (λ place. place ≡ sooner b (least_place rs))
    → IfOk r (λ place. place ≡ sooner found (least_place (ps ++ qs ++ rs)))
three_found found a b r ps qs rs first second third =
    IfOk_same r _ _
    (ap (λ o. sooner o (least_place rs)) (second ∙ ap (λ o. sooner o (least_place qs)) first
    ∙ sooner_least found ps qs) ∙ sooner_least found (ps ++ qs) rs) third

-- the places of three lists, found one after the other
pub three_plain : (a b r : Option ℕ) (ps qs rs : List ℕ) → a ≡ least_place ps → b ≡ sooner a (least_place qs)
    → r ≡ sooner b (least_place rs) → r ≡ least_place (ps ++ qs ++ rs)
three_plain a b r ps qs rs first second third =
    third ∙ ap (λ o. sooner o (least_place rs))
    (second ∙ ap (λ o. sooner o (least_place qs)) first ∙ sym (least_append ps qs))
    ∙ sym (least_append (ps ++ qs) rs)

-- the names of some words and of one more
pub name_after : (words : List Word) (word : Word) (q : List ℕ)
    → is_name_of (words ++ word ∷ []) q ≡ (is_name_of words q || is_same q word.name)
name_after [] word q = by (is_same q word.name)
  where
    by : (b : Bool) → (b || false) ≡ b
    by true = refl
    by false = refl
name_after (w ∷ words) word q = by (is_same q w.name) (name_after words word q)
  where
    by : (b : Bool) → is_name_of (words ++ word ∷ []) q
        ≡ (is_name_of words q || is_same q word.name)
        → (b || is_name_of (words ++ word ∷ []) q)
        ≡ ((b || is_name_of words q) || is_same q word.name)
    by true h = refl
    by false h = h

-- one more word is gone over, whose name stands before, is taken, or neither
pub taken_more : (taken words : List Word) (i : ℕ) (word : Word) (stands : Bool)
    (found next total : Option ℕ) → i < length words → word ≡ get_or words i word
    → stands ≡ taken_before taken (take i words) word.name
    → next ≡ sooner found (least_place (unless (not stands) word.at))
    → sooner found (least_place (repeated (taken_before taken (take i words)) (drop i words))) ≡ total
    → sooner next (least_place (repeated (taken_before taken (take (i + 1) words)) (drop (i + 1) words)))
    ≡ total
taken_more taken words i word stands found next total below at test is held =
    repeated_more (taken_before taken (take i words)) (taken_before taken (take (i + 1) words)) words
    i word found next total below at
    (λ q. ap (λ b. b || is_name_of taken q)
    (ap (λ (ws : List Word). is_name_of ws q)
    (take_more words i word below ∙ ap (λ (w : Word). take i words ++ w ∷ []) (sym at))
    ∙ name_after (take i words) word q)
    ∙ or_swap (is_name_of (take i words) q) (is_same q word.name) (is_name_of taken q))
    (is ∙ ap (λ b. sooner found (least_place (unless (not b) word.at))) test) held
