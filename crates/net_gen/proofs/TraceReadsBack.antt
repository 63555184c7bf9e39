-- The trace text of a seed reads as the trace of the seed.
use Rattle.std.proofs.Common.{◌≡◌, ℕ, zero, suc, ◌+◌, ◌*◌, ◌/◌, ◌%◌, ◌<◌, ◌≤◌, ◌==◌, ◌&&◌, not, Bool, true, false, cond, List, [], ◌∷◌, ◌++◌, flat_map, length, Option, Some, None, refl, sym, ap, ◌∙◌, arith, inl, inr, nat_lt, fold}
use Rattle.std.specs.Prelude.{codes, decimal, option_map, unwrap_or, Ok}
use Rattle.std.specs.List.{find, list_all, enumerate_from, AllZip}
use Rattle.std.proofs.lemmas.Bool.{cases_eq, cases_lt, lt-ltb, le-ltb, true≢false}
use Rattle.std.proofs.lemmas.List.{length-append}
use Rattle.std.proofs.lemmas.List.Folds.{list_all-append}
use Rattle.polis_base.specs.Lists.{upto}
use Rattle.domains.specs.Names.{is_same}
use Rattle.transition_table.specs.NetworkNames.{joined, event_domain}
use Rattle.transition_table.specs.declared.decl.EventDecl.{EventDecl}
use Rattle.transition_table.specs.declared.network.Network.{Network}
use Rattle.journals.specs.declared.entry.TraceItem.TheVariants.{Settle}
use Rattle.trace_text.specs.Pieces.{ends_line, ends_word, begins_comment, trace_lines}
use Rattle.trace_text.specs.Traces.{is_sent, is_sent_event, env_event, coded, sent_item, with_line, trace_of}
use Rattle.polis_base.specs.Draws.{after, draw}
use Rattle.net_gen.specs.Events.{HasDemoEvents}
use Rattle.net_gen.specs.Items.{tick_item, items_at, tick_items, trace_items}
use Rattle.net_gen.specs.Networks.{count}
use Rattle.net_gen.specs.Traces.{tick_line, lines_at, ticks, trace_text}
use Rattle.net_gen.proofs.DeclarationRules.{draw_below}
use Rattle.net_gen.proofs.Lines.{is_free, text_of, are_lines, lines_back, one_word, IsItem, all_read, zip_flat, all_flat, text_flat}
use Rattle.net_gen.proofs.RingNames.{other_number}
use Rattle.net_gen.proofs.NumberedNames.{each_below, one_digit, two_digits}
use Rattle.journals.specs.ValueWords.{word_code}
use Rattle.domains.proofs.Names.{same_self}
use Rattle.polis_base.proofs.Found.{find_only}
use Rattle.polis_base.proofs.UptoPlaces.{flat_map_upto}

-- ---- the lines

abbrev tick_word : ℕ → List ℕ
tick_word i = codes "t" ++ decimal i

abbrev settle_words : ℕ → List (List ℕ)
settle_words k = cond ((k + 1) % 10 == 0) (codes "settle" ∷ []) []

abbrev words_at : ℕ → ℕ → ℕ → List (List ℕ)
words_at n x k = tick_word (draw (after x k) n) ∷ settle_words k

settle_text : (b : Bool)
    → text_of (cond b (codes "settle" ∷ []) []) ≡ cond b (codes "settle\n") []
settle_text true = refl
settle_text false = refl

text_at : (n x k : ℕ) → text_of (words_at n x k) ≡ lines_at n x k
text_at n x k =
    ap (λ (l : List ℕ). tick_line (draw (after x k) n) ++ l) (settle_text ((k + 1) % 10 == 0))

-- the digits of a number below 100
abbrev digits : ℕ → List ℕ
digits i = cond (nat_lt i 10) ((48 + i % 10) ∷ []) ((48 + i / 10) ∷ (48 + i % 10) ∷ [])

digits_are : (i : ℕ) → i < 48 → decimal i ≡ digits i
digits_are i below =
    elim (cases_lt i 10) [
      | inl less ↦ one_digit i less
          ∙ ap (λ b. cond b ((48 + i % 10) ∷ []) ((48 + i / 10) ∷ (48 + i % 10) ∷ []))
          (sym (lt-ltb i 10 less))
      | inr more ↦ two_digits i more below
          ∙ ap (λ b. cond b ((48 + i % 10) ∷ []) ((48 + i / 10) ∷ (48 + i % 10) ∷ []))
          (sym (le-ltb i 10 more))
    ]

-- in no such line is a byte that ends it or a word, or that begins a comment
free_tick : (ends : ℕ → Bool)
    → list_all (λ i. is_free ends (codes "t" ++ digits i)) (upto 48) ≡ true
    → (i : ℕ) → i < 48 → is_free ends (tick_word i) ≡ true
free_tick ends table i below =
    ap (λ (ds : List ℕ). is_free ends (codes "t" ++ ds)) (digits_are i below)
    ∙ each_below (λ k. is_free ends (codes "t" ++ digits k)) 48 i table below

are_lines_at : (n x k : ℕ) → 0 < n → n ≤ 48 → are_lines (words_at n x k) ≡ true
are_lines_at n x k some few =
    let d : ℕ = draw (after x k) n in
    let small = draw_below (after x k) n some in
    ap (λ (b : Bool). b && are_lines (settle_words k)) (free_tick ends_line refl d (omega arith))
    ∙ settled ((k + 1) % 10 == 0)
  where
    settled : (b : Bool) → are_lines (cond b (codes "settle" ∷ []) []) ≡ true
    settled true = refl
    settled false = refl

-- ---- the event of a tick

find_none : {X : Type 0} (p : X → Bool) (xs : List X)
    → list_all (λ x. not (p x)) xs ≡ true → find p xs ≡ None
find_none p [] none = refl
find_none p (x ∷ xs) none = by (p x) (find_none p xs) none
  where
    by : (b : Bool) → (list_all (λ y. not (p y)) xs ≡ true → find p xs ≡ None)
        → (not b && list_all (λ y. not (p y)) xs) ≡ true
        → cond b (Some x) (find p xs) ≡ None
    by true rest h = absurd (true≢false (sym h))
    by false rest h = rest h

none_before : (p : ℕ → Bool) (m : ℕ) → ((j : ℕ) → j < m → p j ≡ false)
    → list_all (λ x. not (p x)) (upto m) ≡ true
none_before p zero none = refl
none_before p (suc m) none =
    list_all-append (λ x. not (p x)) (upto m) (m ∷ [])
    ∙ rw (none_before p m (λ j less. none j (omega arith)), none m (omega arith)) refl

module _ (n : ℕ) (net : Network) (few : n ≤ 48) (has : HasDemoEvents n net) where
  not_before : (i : ℕ) → i < n → (k : ℕ) → k ≤ i → (j : ℕ) → j < 3 * k
      → is_sent_event net (tick_word i) j ≡ false
  not_before i below zero less j small = absurd (omega arith)
  not_before i below (suc k) less j small =
      let sent : Option EventDecl → Bool = λ o.
      unwrap_or (option_map (is_sent (tick_word i)) o) false in
      elim (cases_lt j (3 * k)) [
        | inl before ↦ not_before i below k (omega arith) j before
        | inr past ↦
            elim (cases_eq j (3 * k)) [
              | inl first ↦
                  let apart : is_same (decimal k) (decimal i) ≡ false =
                  other_number k i (omega arith) (omega arith) (λ e. let same = e in omega arith) in
                  ap (is_sent_event net (tick_word i)) first
                  ∙ ap sent (has.tick_is k (omega arith))
                  ∙ rw apart refl
              | inr other ↦
                  elim (cases_eq j (3 * k + 1)) [
                    | inl second ↦
                        ap (is_sent_event net (tick_word i)) second
                        ∙ ap sent (has.valued_is k (omega arith))
                    | inr last ↦
                        ap (is_sent_event net (tick_word i))
                        (let e : j ≡ 3 * k + 2 = omega arith in e)
                        ∙ ap sent (has.output_is k (omega arith))
                  ]
            ]
      ]

  tick_found : (i : ℕ) → i < n → env_event net (tick_word i) ≡ Some (3 * i)
  tick_found i below =
      let sent : Option EventDecl → Bool = λ o.
      unwrap_or (option_map (is_sent (tick_word i)) o) false in
      let here : is_sent_event net (tick_word i) (3 * i) ≡ true =
      ap sent (has.tick_is i below) ∙ rw (same_self (decimal i)) refl in
      ap (λ (m : ℕ). find (is_sent_event net (tick_word i)) (upto m)) has.events
      ∙ find_only (is_sent_event net (tick_word i)) (3 * n) (3 * i) (omega arith) here
      (λ j before. not_before i below i (omega arith) j before)

  tick_read : (i : ℕ) → i < n → IsItem net (tick_word i) (tick_item i)
  tick_read i below =
      let pure : event_domain net (3 * i) ≡ None =
      ap (λ o. joined (option_map (λ (event : EventDecl). event.domain) o)) (has.tick_is i below) in
      one_word net 116 (decimal i) (free_tick begins_comment refl i (omega arith))
      (free_tick ends_word refl i (omega arith))
      ∙ ap (λ o. sent_item net o None) (tick_found i below)
      ∙ ap (λ o. coded (3 * i) (word_code net o None)) pure

  settle_read : IsItem net (codes "settle") Settle
  settle_read = refl

  read_at : (x : ℕ) → 0 < n → (k : ℕ) → AllZip (IsItem net) (words_at n x k) (items_at n x k)
  read_at x some k =
      (tick_read (draw (after x k) n) (draw_below (after x k) n some), by ((k + 1) % 10 == 0))
    where
      by : (b : Bool)
          → AllZip (IsItem net) (cond b (codes "settle" ∷ []) []) (cond b (Settle ∷ []) [])
      by true = (settle_read, tt)
      by false = tt

  long_at : (x k : ℕ) → length (words_at n x k) ≤ 2
  long_at x k = by ((k + 1) % 10 == 0)
    where
      by : (b : Bool) → suc (length (cond b (codes "settle" ∷ []) [])) ≤ 2
      by true = omega arith
      by false = omega arith

  long_words : (x m : ℕ) → length (flat_map (words_at n x) (upto m)) ≤ 2 * m
  long_words x zero = omega arith
  long_words x (suc m) =
      let rest = long_words x m in
      let one = long_at x m in
      let size : length (flat_map (words_at n x) (upto (suc m)))
      ≡ length (flat_map (words_at n x) (upto m)) + length (words_at n x m) =
      ap length (flat_map_upto (words_at n x) m)
      ∙ length-append (flat_map (words_at n x) (upto m)) (words_at n x m) in
      omega arith

  -- so many ticks
  pub ticks_read : (x m : ℕ) → 0 < n → m ≤ 5000
      → trace_of net (flat_map (lines_at n x) (upto m)) ≡ Ok (flat_map (items_at n x) (upto m))
  ticks_read x m some small =
      let words : List (List ℕ) = flat_map (words_at n x) (upto m) in
      let long = long_words x m in
      let lines : trace_lines (flat_map (lines_at n x) (upto m)) ≡ words =
      ap trace_lines (sym (text_flat (words_at n x) (lines_at n x) (text_at n x) (upto m)))
      ∙ lines_back words (all_flat (is_free ends_line) (words_at n x)
      (λ k. are_lines_at n x k some few) (upto m)) in
      ap (λ ls. fold (with_line net) (Ok []) (enumerate_from 1 ls)) lines
      ∙ all_read net words (flat_map (items_at n x) (upto m)) [] 1
      (zip_flat (IsItem net) (words_at n x) (items_at n x) (read_at x some) (upto m)) (omega arith)

pub text_read : (n x : ℕ) (net : Network) → 0 < n → n ≤ 48 → HasDemoEvents n net
    → trace_of net (ticks n x) ≡ Ok (tick_items n x)
unfolding ticks tick_items
text_read n x net some few has = ticks_read n net few has x 2000 some (omega arith)

pub seed_read : (seed : ℕ) (net : Network) → HasDemoEvents (count seed) net
    → trace_of net (trace_text seed) ≡ Ok (trace_items seed)
unfolding trace_text trace_items
seed_read seed net has =
    let h = draw_below seed 25 (omega arith) in
    text_read (count seed) (after seed (1 + 25 * count seed)) net (omega arith) (omega arith) has
