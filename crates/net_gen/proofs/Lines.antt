-- Lines of a text, and what they are read as.
use Rattle.std.proofs.Common.{◌≡◌, ℕ, ◌+◌, ◌≤◌, not, Bool, true, cond, List, [], ◌∷◌, ◌++◌, length, flat_map, fold, Some, refl, sym, ap, ◌∙◌, arith, append_assoc, nat_lt}
use Rattle.std.specs.Prelude.{filter, Ok}
use Rattle.std.specs.List.{list_all, take_while, enumerate_from, AllZip}
use Rattle.std.proofs.lemmas.Bool.{and_parts, lt-ltb, not-true}
use Rattle.std.proofs.lemmas.List.{append-nil, length-append}
use Rattle.std.proofs.lemmas.List.Folds.{list_all-append}
use Rattle.std.proofs.lemmas.List.Sums.{take_while-cons}
use Rattle.std.proofs.lemmas.Grind.{flat_map-append}
use Rattle.transition_table.specs.declared.network.Network.{Network}
use Rattle.journals.specs.declared.entry.TraceItem.{TraceItem}
use Rattle.trace_text.specs.Pieces.{runs, ends_line, ends_word, begins_comment, trace_lines, without_comment, trace_words}
use Rattle.trace_text.specs.Traces.{added, with_line, item_of_line, item_of_words}
use Rattle.polis_base.specs.Pieces.{with_byte, is_nonempty}

-- no byte passes
abbrev pub is_free : (ℕ → Bool) → List ℕ → Bool
is_free ends bytes = list_all (λ c. not (ends c)) bytes

-- a piece that something ends, and one that the text's end does
piece_ended : (ends : ℕ → Bool) (piece rest : List ℕ) (e : ℕ) → ends e ≡ true
    → is_free ends piece ≡ true
    → runs ends (piece ++ e ∷ rest) ≡ piece ∷ runs ends rest
piece_ended ends [] rest e end free = rw end refl
piece_ended ends (c ∷ piece) rest e end free =
    let parts = and_parts (not (ends c)) (is_free ends piece) free in
    rw (not-true (ends c) parts.0, piece_ended ends piece rest e end parts.1) refl

piece_last : (ends : ℕ → Bool) (c : ℕ) (piece : List ℕ) → is_free ends (c ∷ piece) ≡ true
    → runs ends (c ∷ piece) ≡ (c ∷ piece) ∷ []
piece_last ends c [] free =
    let parts = and_parts (not (ends c)) true free in
    rw (not-true (ends c) parts.0) refl
piece_last ends c (d ∷ piece) free =
    let parts = and_parts (not (ends c)) (is_free ends (d ∷ piece)) free in
    ap (λ (ps : List (List ℕ)). with_byte (ends c) c ps) (piece_last ends d piece parts.1)
    ∙ ap (λ (b : Bool). with_byte b c ((d ∷ piece) ∷ [])) (not-true (ends c) parts.0)

-- the text of these lines
abbrev pub text_of : List (List ℕ) → List ℕ
text_of lines = flat_map (λ (line : List ℕ). line ++ 10 ∷ []) lines

abbrev pub are_lines : List (List ℕ) → Bool
are_lines lines = list_all (is_free ends_line) lines

pub lines_back : (lines : List (List ℕ)) → are_lines lines ≡ true
    → trace_lines (text_of lines) ≡ lines
lines_back [] free = refl
lines_back (line ∷ lines) free =
    let parts = and_parts (is_free ends_line line) (are_lines lines) free in
    ap trace_lines (append_assoc line (10 ∷ []) (text_of lines))
    ∙ piece_ended ends_line line (text_of lines) 10 refl parts.0
    ∙ ap (λ (ls : List (List ℕ)). line ∷ ls) (lines_back lines parts.1)

-- a line without a comment that is one word
whole_line : (line : List ℕ) → is_free begins_comment line ≡ true → without_comment line ≡ line
whole_line [] free = refl
whole_line (c ∷ line) free =
    let parts = and_parts (not (begins_comment c)) (is_free begins_comment line) free in
    take_while-cons (λ d. not (begins_comment d)) c line
    ∙ ap (λ (b : Bool). cond b (c ∷ take_while (λ d. not (begins_comment d)) line) []) parts.0
    ∙ ap (λ (l : List ℕ). c ∷ l) (whole_line line parts.1)

pub one_word : (net : Network) (c : ℕ) (line : List ℕ) → is_free begins_comment (c ∷ line) ≡ true
    → is_free ends_word (c ∷ line) ≡ true
    → item_of_line net (c ∷ line) ≡ item_of_words net ((c ∷ line) ∷ [])
one_word net c line plain free =
    ap (λ (l : List ℕ). item_of_words net (trace_words l)) (whole_line (c ∷ line) plain)
    ∙ ap (λ (ps : List (List ℕ)). item_of_words net (filter is_nonempty ps))
    (piece_last ends_word c line free)

-- ---- lines that are an item each

abbrev pub IsItem : Network → List ℕ → TraceItem → Type 0
IsItem net line item = item_of_line net line ≡ Ok (Some item)

pub all_read : (net : Network) (lines : List (List ℕ)) (items before : List TraceItem) (k : ℕ)
    → AllZip (IsItem net) lines items
    → length before + length lines ≤ 10000
    → fold (with_line net) (Ok before) (enumerate_from k lines) ≡ Ok (before ++ items)
all_read net [] [] before k all few = ap (λ (l : List TraceItem). Ok l) (sym (append-nil before))
all_read net [] (item ∷ items) before k all few = absurd all
all_read net (line ∷ lines) [] before k all few = absurd all
all_read net (line ∷ lines) (item ∷ items) before k all few =
    let room : nat_lt (length before) 10000 ≡ true =
    lt-ltb (length before) 10000 (omega arith) in
    let one : with_line net (Ok before) (k, line) ≡ Ok (before ++ item ∷ []) =
    ap (added before k) all.0 ∙ rw room refl in
    let size = length-append before (item ∷ []) in
    ap (λ r. fold (with_line net) r (enumerate_from (k + 1) lines)) one
    ∙ all_read net lines items (before ++ item ∷ []) (k + 1) all.1 (omega arith)
    ∙ ap (λ (l : List TraceItem). Ok l) (append_assoc before (item ∷ []) items)

-- ---- lists that are made number by number

zip_append : {X Y : Type 0} (R : X → Y → Type 0) (xs us : List X) (ys vs : List Y)
    → AllZip R xs ys → AllZip R us vs → AllZip R (xs ++ us) (ys ++ vs)
zip_append R [] us [] vs all more = more
zip_append R [] us (y ∷ ys) vs all more = absurd all
zip_append R (x ∷ xs) us [] vs all more = absurd all
zip_append R (x ∷ xs) us (y ∷ ys) vs all more =
    (all.0, zip_append R xs us ys vs all.1 more)

pub zip_flat : {X Y : Type 0} (R : X → Y → Type 0) (f : ℕ → List X) (g : ℕ → List Y)
    → ((k : ℕ) → AllZip R (f k) (g k)) → (ks : List ℕ)
    → AllZip R (flat_map f ks) (flat_map g ks)
zip_flat R f g each [] = tt
zip_flat R f g each (k ∷ ks) =
    zip_append R (f k) (flat_map f ks) (g k) (flat_map g ks) (each k) (zip_flat R f g each ks)

pub all_flat : {X : Type 0} (p : X → Bool) (f : ℕ → List X) → ((k : ℕ) → list_all p (f k) ≡ true)
    → (ks : List ℕ)
    → list_all p (flat_map f ks) ≡ true
all_flat p f each [] = refl
all_flat p f each (k ∷ ks) =
    list_all-append p (f k) (flat_map f ks)
    ∙ rw (each k, all_flat p f each ks) refl

pub text_flat : (f : ℕ → List (List ℕ)) (g : ℕ → List ℕ) → ((k : ℕ) → text_of (f k) ≡ g k)
    → (ks : List ℕ)
    → text_of (flat_map f ks) ≡ flat_map g ks
text_flat f g each [] = refl
text_flat f g each (k ∷ ks) =
    flat_map-append (λ (line : List ℕ). line ++ 10 ∷ []) (f k) (flat_map f ks)
    ∙ ap (λ (l : List ℕ). l ++ text_of (flat_map f ks)) (each k)
    ∙ ap (λ (l : List ℕ). g k ++ l) (text_flat f g each ks)
