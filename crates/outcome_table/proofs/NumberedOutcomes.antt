-- Outcomes under numbers, one snapshot after another.
use Rattle.std.proofs.Common.{◌≡◌, ℕ, zero, suc, ◌+◌, ◌<◌, ◌≤◌, Bool, true, ◌&&◌, List, [], ◌∷◌, ◌++◌, map, flat_map, length, take, get_or, replicate, min, refl, ap, sym, ◌∙◌, arith, nat_lt}
use Rattle.std.specs.List.{list_all}
use Rattle.std.proofs.lemmas.Bool.{and_parts, and_from, lt-ltb, ltb-true}
use Rattle.std.proofs.lemmas.List.{map-append, append_assoc, length-take, get_or-take}
use Rattle.std.proofs.lemmas.List.Folds.{list_all-append}
use Rattle.std.proofs.lemmas.Option.{slice_get_within}
use Rattle.polis_base.specs.Lists.{upto}
use Rattle.domains.specs.AllCodes.{all_codes, each_after}
use Rattle.domains.specs.Tables.{product}
use Rattle.transition_table.specs.declared.machine.Machine.{Machine}
use Rattle.outcome_table.specs.Outcomes.{named, are_named}
use Rattle.outcome_table.specs.inner.Numbering.{Adds, BeginWithRows, lists_after}
use Rattle.transition_table.specs.Computed.{result_codes}
use Rattle.outcome_table.specs.declared.number.Numbered.{Numbered}
use Rattle.outcome_table.proofs.Columns.{all_long}
use Rattle.outcome_table.proofs.ListMaps.{map_flat, flat_same, map_same}
use Rattle.polis_base.proofs.Places.{map_of_map}

-- more outcomes leave those before
pub within_more : {X : Type 0} (old new : List X) → take (length old) new ≡ old
    → length old ≤ length new
within_more old new kept = let e = ap length kept in let f = length-take (length old) new in
    let g : min (length old) (length new) ≡ length old = sym f ∙ e in omega (arith, g)

pub same_before : (old new : List (List ℕ)) (k : ℕ) → take (length old) new ≡ old → k < length old
    → get_or new k [] ≡ get_or old k []
same_before old new k kept low = sym (get_or-take (length old) new k [] low)
    ∙ ap (λ (xs : List (List ℕ)). get_or xs k []) kept

pub named_kept : (old new : List (List ℕ)) (numbers : List ℕ) → take (length old) new ≡ old
    → list_all (λ k. nat_lt k (length old)) numbers ≡ true → named new numbers ≡ named old numbers
named_kept old new [] kept all = refl
named_kept old new (k ∷ numbers) kept all =
    let parts = and_parts (nat_lt k (length old)) (list_all (λ k. nat_lt k (length old)) numbers)
    all in
    ap (λ (x : List ℕ). x ∷ named new numbers)
    (same_before old new k kept (ltb-true k (length old) parts.0))
    ∙ ap (λ (xs : List (List ℕ)). get_or old k [] ∷ xs) (named_kept old new numbers kept parts.1)

below_more : (a b : ℕ) (numbers : List ℕ) → a ≤ b → list_all (λ k. nat_lt k a) numbers ≡ true
    → list_all (λ k. nat_lt k b) numbers ≡ true
below_more a b [] most all = refl
below_more a b (k ∷ numbers) most all =
    let parts = and_parts (nat_lt k a) (list_all (λ k. nat_lt k a) numbers) all in
    let low = ltb-true k a parts.0 in
    and_from (nat_lt k b) (list_all (λ k. nat_lt k b) numbers) (lt-ltb k b (omega arith))
    (below_more a b numbers most parts.1)

pub take_less : {X : Type 0} (a b : ℕ) (xs : List X) → a ≤ b → take a (take b xs) ≡ take a xs
take_less zero b xs most = refl
take_less (suc a) zero xs most = absurd (omega arith)
take_less (suc a) (suc b) [] most = refl
take_less {X = X} (suc a) (suc b) (x ∷ xs) most =
    ap (λ (ys : List X). x ∷ ys) (take_less a b xs (omega arith))

pub adds_on : (m : Machine) (a b c : Numbered) (xs ys : List (List ℕ)) → Adds m a b xs
    → Adds m b c ys → Adds m a c (xs ++ ys)
adds_on m a b c xs ys one two =
    let most = within_more a.outcomes b.outcomes one.kept in
    record {
      kept = sym (take_less (length a.outcomes) (length b.outcomes) c.outcomes most)
          ∙ ap (λ (zs : List (List ℕ)). take (length a.outcomes) zs) two.kept
          ∙ one.kept;
      results = two.results
          ∙ ap (λ (zs : List (List ℕ)). zs ++ map (result_codes m) ys) one.results
          ∙ append_assoc (named a.outcomes a.numbers.items) (map (result_codes m) xs)
          (map (result_codes m) ys)
          ∙ ap (λ (zs : List (List ℕ)). named a.outcomes a.numbers.items ++ zs)
          (sym (map-append (result_codes m) xs ys));
      within = two.within;
    }

named_same : (outcomes : List (List ℕ)) (k n : ℕ)
    → named outcomes (replicate n k) ≡ replicate n (get_or outcomes k [])
named_same outcomes k zero = refl
named_same outcomes k (suc n) =
    ap (λ (xs : List (List ℕ)). get_or outcomes k [] ∷ xs) (named_same outcomes k n)

all_below : (b k n : ℕ) → nat_lt k b ≡ true → list_all (λ k. nat_lt k b) (replicate n k) ≡ true
all_below b k zero low = refl
all_below b k (suc n) low =
    and_from (nat_lt k b) (list_all (λ k. nat_lt k b) (replicate n k)) low (all_below b k n low)

-- so many more lists, whose outcome is that of one number
pub adds_many : (m : Machine) (old new : Numbered) (k n : ℕ) (lists : List (List ℕ))
    → are_named old.outcomes old.numbers.items
    → take (length old.outcomes) new.outcomes ≡ old.outcomes
    → new.numbers.items ≡ old.numbers.items ++ replicate n k → k < length new.outcomes
    → map (result_codes m) lists ≡ replicate n (get_or new.outcomes k []) → Adds m old new lists
adds_many m old new k n lists within kept numbers low is =
    let below = below_more (length old.outcomes) (length new.outcomes) old.numbers.items
    (within_more old.outcomes new.outcomes kept) within in
    record {
      kept = kept;
      results = ap (named new.outcomes) numbers
          ∙ map-append (λ k. get_or new.outcomes k []) old.numbers.items (replicate n k)
          ∙ ap (λ (xs : List (List ℕ)). xs ++ named new.outcomes (replicate n k))
          (named_kept old.outcomes new.outcomes old.numbers.items kept within)
          ∙ ap (λ (xs : List (List ℕ)). named old.outcomes old.numbers.items ++ xs)
          (named_same new.outcomes k n ∙ sym is);
      within = ap (λ (xs : List ℕ). list_all (λ k. nat_lt k (length new.outcomes)) xs) numbers
          ∙ list_all-append (λ k. nat_lt k (length new.outcomes)) old.numbers.items (replicate n k)
          ∙ ap (λ b. b && list_all (λ k. nat_lt k (length new.outcomes)) (replicate n k)) below
          ∙ all_below (length new.outcomes) k n (lt-ltb k (length new.outcomes) low);
    }

map_one : {X Y : Type 0} (f : X → Y) (c : Y) (xs : List X) → ((x : X) → f x ≡ c)
    → map f xs ≡ replicate (length xs) c
map_one f c [] each = refl
map_one {Y = Y} f c (x ∷ xs) each =
    ap (λ (y : Y). y ∷ map f xs) (each x) ∙ ap (λ (ys : List Y). c ∷ ys) (map_one f c xs each)

-- all lists that begin with the fixed codes have one outcome
pub same_after : (m : Machine) (fixed sizes c : List ℕ) (n : ℕ) → n ≡ product sizes
    → ((rest : List ℕ) → c ≡ result_codes m (fixed ++ rest))
    → map (result_codes m) (lists_after fixed sizes) ≡ replicate n c
same_after m fixed sizes c n many each =
    map_of_map (result_codes m) (λ codes. fixed ++ codes) (all_codes sizes)
    ∙ map_one (λ codes. result_codes m (fixed ++ codes)) c (all_codes sizes)
    (λ codes. sym (each codes))
    ∙ ap (λ n. replicate n c) (all_long sizes ∙ sym many)

pub begins_kept : (m : Machine) (fixed : List Bool) (old new : List (List ℕ))
    → BeginWithRows m fixed old → take (length old) new ≡ old → BeginWithRows m fixed new
begins_kept m fixed old new h kept =
    let most = within_more old new kept in
    let some = h.some in
    record {
      long = h.long;
      some = omega arith;
      blank = same_before old new 0 kept (omega arith) ∙ h.blank;
      rows = λ r row at on s.
          let inside = slice_get_within m.rows r row at in
          same_before old new (1 + r) kept (omega arith) ∙ h.rows r row at on s;
    }

-- ---- lists that begin with fixed codes
pub lists_split : (fixed sizes rest : List ℕ) (size : ℕ) → sizes ≡ size ∷ rest
    → lists_after fixed sizes ≡ flat_map (λ c. lists_after (fixed ++ c ∷ []) rest) (upto size)
lists_split fixed sizes rest size is =
    ap (lists_after fixed) is
    ∙ map_flat (λ codes. fixed ++ codes) (each_after (all_codes rest)) (upto size)
    ∙ flat_same (λ c. map (λ codes. fixed ++ codes) (each_after (all_codes rest) c))
    (λ c. lists_after (fixed ++ c ∷ []) rest) (upto size)
    (λ c. map_of_map (λ codes. fixed ++ codes) (λ codes. c ∷ codes) (all_codes rest)
    ∙ map_same (λ codes. fixed ++ c ∷ codes) (λ codes. (fixed ++ c ∷ []) ++ codes) (all_codes rest)
    (λ codes. sym (append_assoc fixed (c ∷ []) codes)))

pub lists_all : (sizes : List ℕ) → lists_after [] sizes ≡ all_codes sizes
lists_all sizes = same (all_codes sizes)
  where
    same : (xs : List (List ℕ)) → map (λ codes. [] ++ codes) xs ≡ xs
    same [] = refl
    same (x ∷ xs) = ap (λ (ys : List (List ℕ)). x ∷ ys) (same xs)
