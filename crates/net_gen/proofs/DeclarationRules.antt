-- The declarations of a ring break no rule.
use Rattle.std.proofs.Common.{◌≡◌, ℕ, zero, suc, ◌+◌, ◌%◌, ◌<◌, ◌≤◌, true, false, List, [], ◌∷◌, ◌++◌, map, flat_map, length, refl, ap, ◌∙◌, arith}
use Rattle.std.specs.Prelude.{codes, decimal, ◌*◌, nat_le}
use Rattle.std.proofs.lemmas.Bool.{le-leb}
use Rattle.std.proofs.Math.Nat.{mod-lt}
use Rattle.std.proofs.lemmas.List.{drop_all, length-map}
use Rattle.std.proofs.lemmas.List.Folds.{flat_map-map}
use Rattle.polis_base.specs.Lists.{upto}
use Rattle.domains.specs.Names.{is_same}
use Rattle.net_reader.specs.declared.raw.Word.{Word}
use Rattle.net_reader.specs.declared.raw.RawEvent.{RawEvent}
use Rattle.net_reader.specs.declared.raw.RawMachine.{RawMachine}
use Rattle.net_names.specs.Numbers.{is_name_of, no_name, missing, repeated}
use Rattle.net_names.specs.Scopes.{event_words, machine_words}
use Rattle.rule_judge.specs.Rules.{beyond, rule_1, rule_2, rule_3, rule_4, rule_5, rule_7, rule_8, rule_9, rule_10, rule_14}
use Rattle.polis_base.specs.Draws.{after, draw}
use Rattle.net_gen.specs.Networks.{named, tick, valued, output, events_of, machine_at, machines, rows, tick_rows, value_rows, ring}
use Rattle.net_gen.proofs.RingNames.{other_number, declared_at, AllWords, Different, Apart, different_flat, none_repeats}
use Rattle.domains.proofs.Names.{same_self}
use Rattle.polis_base.proofs.UptoPlaces.{flat_map_upto, length_upto}

-- ---- the words, number by number

words_of : ℕ → List Word
words_of i = tick i ∷ valued i ∷ output i ∷ []

abbrev machine_word : ℕ → List Word
machine_word i = named (codes "m") i ∷ []

events_named : (is : List ℕ)
    → map (λ (e : RawEvent). e.name) (flat_map events_of is) ≡ flat_map words_of is
unfolding words_of
events_named [] = refl
events_named (i ∷ is) =
    ap (λ (ws : List Word). tick i ∷ valued i ∷ output i ∷ ws) (events_named is)

machines_named : (n x : ℕ) (is : List ℕ)
    → map (λ (m : RawMachine). m.name) (map (machine_at n x) is) ≡ flat_map machine_word is
machines_named n x [] = refl
machines_named n x (i ∷ is) =
    ap (λ (ws : List Word). named (codes "m") i ∷ ws) (machines_named n x is)

-- ---- finding nothing in each machine

pub none_flat : (g : ℕ → List ℕ) (n : ℕ) → ((i : ℕ) → i < n → g i ≡ []) → flat_map g (upto n) ≡ []
none_flat g zero h = refl
none_flat g (suc n) h =
    flat_map_upto g n
    ∙ rw (none_flat g n (λ i below. h i (omega arith)), h n (omega arith)) refl

pub each_machine : (f : RawMachine → List ℕ) (n x : ℕ)
    → ((i : ℕ) → i < n → f (machine_at n x i) ≡ [])
    → flat_map f (machines n x) ≡ []
unfolding machines
each_machine f n x h =
    flat_map-map f (machine_at n x) (upto n) ∙ none_flat (λ i. f (machine_at n x i)) n h

long_words : (is : List ℕ) → length (flat_map words_of is) ≡ 3 * length is
unfolding words_of
long_words [] = refl
long_words (i ∷ is) = let rest = long_words is in omega arith

none_beyond : (most : ℕ) (ws : List Word) → length ws ≤ most → beyond most ws ≡ []
none_beyond most ws few = rw (drop_all most ws few) refl

pub keeps_1 : (n x : ℕ) → rule_1 (ring n x) ≡ []
keeps_1 n x = refl

pub keeps_2 : (n x : ℕ) → n ≤ 48 → rule_2 (ring n x) ≡ []
unfolding machines
keeps_2 n x few =
    let events : beyond 256 (event_words (ring n x)) ≡ [] =
    none_beyond 256 (event_words (ring n x))
    (let size = ap length (events_named (upto n)) ∙ long_words (upto n) in
    let long = length_upto n in omega arith) in
    let all : beyond 64 (machine_words (ring n x)) ≡ [] =
    none_beyond 64 (machine_words (ring n x))
    (let size = length-map (map (machine_at n x) (upto n)) (λ (m : RawMachine). m.name)
    ∙ length-map (upto n) (machine_at n x) ∙ length_upto n in omega arith) in
    rw (events, all) refl

-- ---- names don't repeat

words_apart : (i k : ℕ) → i < k → k < 48 → Apart (words_of i) (words_of k)
unfolding words_of
words_apart i k less small =
    let other : is_same (decimal k) (decimal i) ≡ false =
    other_number k i small (omega arith) (λ e. let same = e in omega arith) in
    ((other, (refl, (refl, tt))), ((refl, (other, (refl, tt))), ((refl, (refl, (other, tt))), tt)))

events_differ : (n : ℕ) → n ≤ 48 → Different (flat_map words_of (upto n))
unfolding words_of
events_differ n few =
    different_flat words_of n (λ i below. ((refl, (refl, tt)), ((refl, tt), (tt, tt))))
    (λ i k less below. words_apart i k less (omega arith))

machines_differ : (n : ℕ) → n ≤ 48 → Different (flat_map machine_word (upto n))
machines_differ n few =
    different_flat machine_word n (λ i below. (tt, tt))
    (λ i k less below.
    ((other_number k i (omega arith) (omega arith) (λ e. let same = e in omega arith), tt), tt))

all_free : (ws : List Word) → AllWords (λ (w : Word). no_name w.name ≡ false) ws
all_free [] = tt
all_free (w ∷ ws) = (refl, all_free ws)

pub keeps_3 : (n x : ℕ) → n ≤ 48 → rule_3 (ring n x) ≡ []
unfolding machines
keeps_3 n x few =
    let events : repeated no_name (event_words (ring n x)) ≡ [] =
    ap (repeated no_name) (events_named (upto n))
    ∙ none_repeats no_name (flat_map words_of (upto n)) (all_free _) (events_differ n few) in
    let all : repeated no_name (machine_words (ring n x)) ≡ [] =
    ap (repeated no_name) (machines_named n x (upto n))
    ∙ none_repeats no_name (flat_map machine_word (upto n)) (all_free _) (machines_differ n few) in
    rw (events, all) refl

pub keeps_4 : (n x : ℕ) → rule_4 (ring n x) ≡ []
keeps_4 n x = refl

pub keeps_5 : (n x : ℕ) → rule_5 (ring n x) ≡ []
keeps_5 n x = refl

-- ---- machine by machine

pub draw_below : (x m : ℕ) → 0 < m → draw x m < m
draw_below x m some = mod-lt _ some

declared : (n i : ℕ) (name : List ℕ) → i < n → is_name_of (words_of i) name ≡ true → (x : ℕ)
    → is_name_of (event_words (ring n x)) name ≡ true
declared n i name below here x =
    ap (λ (ws : List Word). is_name_of ws name) (events_named (upto n))
    ∙ declared_at words_of name n i below here

pub keeps_7 : (n x : ℕ) → rule_7 (ring n x) ≡ []
unfolding words_of
keeps_7 n x =
    each_machine (λ (m : RawMachine). missing (is_name_of (event_words (ring n x)))
    (m.inputs ++ m.outputs)) n x (λ i below.
    let j : ℕ = (i + 1) % n in
    let t = declared n i (tick i).name below (rw (same_self (decimal i)) refl) x in
    let e = declared n i (valued i).name below (rw (same_self (decimal i)) refl) x in
    let f = declared n j (valued j).name (mod-lt (i + 1) (omega arith))
    (rw (same_self (decimal j)) refl) x in
    let o = declared n i (output i).name below (rw (same_self (decimal i)) refl) x in
    rw (t, e, f, o) refl)

pub keeps_8 : (n x : ℕ) → rule_8 (ring n x) ≡ []
keeps_8 n x = each_machine _ n x (λ i below. refl)

pub keeps_9 : (n x : ℕ) → rule_9 (ring n x) ≡ []
unfolding rows tick_rows value_rows
keeps_9 n x = each_machine _ n x (λ i below. refl)

pub keeps_10 : (n x : ℕ) → rule_10 (ring n x) ≡ []
keeps_10 n x =
    each_machine _ n x (λ i below.
    let small : nat_le (draw (after x (25 * i)) 4) 255 ≡ true =
    le-leb _ _ (let h = draw_below (after x (25 * i)) 4 (omega arith) in omega arith) in
    rw small refl)

pub keeps_14 : (n x : ℕ) → rule_14 (ring n x) ≡ []
keeps_14 n x = each_machine _ n x (λ i below. refl)
