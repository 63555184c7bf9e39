-- The part of the line on which a place stands, and the whole block.
use Rattle.std.proofs.Common.{◌≡◌, ℕ, zero, suc, ◌+◌, ◌-◌, ◌*◌, ◌/◌, ◌%◌, ◌<◌, ◌≤◌, Bool, true, false, ◌==◌, List, [], ◌∷◌, ◌++◌, map, length, take, drop, get_or, Option, slice_get, unwrap_or, refl, ap, sym, ◌∙◌, arith, length-drop, append_assoc, min}
use Rattle.std.specs.List.{count_by, prefix_len, suffix_len, take_while}
use Rattle.std.proofs.lemmas.List.{drop-drop, take_min}
use Rattle.std.proofs.lemmas.List.Sums.{take_while-cons, prefix_len-drop_yes, prefix_len-drop_no}
use Rattle.std.proofs.lemmas.Nat.{div-add-mod'}
use Rattle.fault_text.specs.Positions.{is_inner, ends_before, passed, line_of, column_of, lines, numbered}
use Rattle.fault_text.specs.Blocks.{shown, shown_part, shown_start, head_text, mark, block_text}
use Rattle.fault_text.proofs.Lines.{first_line, more_lines, get_from}
use Rattle.fault_text.proofs.Positions.{ends_inner, ends_end, passed_inner, passed_end}

drop_both : (xs : List ℕ) (a b c : ℕ) → c ≡ a + b → drop a (drop b xs) ≡ drop c xs
drop_both xs a b c e =
    let f : b + a ≡ c = omega arith in drop-drop a b xs ∙ ap (λ (k : ℕ). drop k xs) f

-- ---- the line on which a place stands
record Stands (text : List ℕ) (n : ℕ) : Type 0 where
  within : passed text n ≤ n
  here : drop (ends_before text n) (lines text) ≡ lines (drop (n - passed text n) text)
  run : prefix_len is_inner (drop (n - passed text n) text)
      ≡ passed text n + prefix_len is_inner (drop n text)

stands_case : (text : List ℕ) (n : ℕ) (t : Bool) → is_inner (get_or text n 0) ≡ t
    → n < length text → Stands text n → Stands text (suc n)
stands_case text n true e small s =
    let a = ends_inner text n small e in
    let b = passed_inner text n small e in
    let w = s.within in
    let r = s.run in
    let f : n - passed text n ≡ suc n - passed text (suc n) = omega arith in
    let g : n + 1 ≡ suc n = omega arith in
    let m : prefix_len is_inner (drop n text) ≡ 1 + prefix_len is_inner (drop (suc n) text) =
    prefix_len-drop_yes is_inner text n 0 small e
    ∙ ap (λ (k : ℕ). 1 + prefix_len is_inner (drop k text)) g in
    record {
      within = omega arith;
      here = ap (λ (k : ℕ). drop k (lines text)) a ∙ s.here
          ∙ ap (λ (k : ℕ). lines (drop k text)) f;
      run = ap (λ (k : ℕ). prefix_len is_inner (drop k text)) (sym f) ∙ r ∙ omega arith;
    }
stands_case text n false e small s =
    let a = ends_end text n small e in
    let b = passed_end text n small e in
    let w = s.within in
    let r = s.run in
    let from = n - passed text n in
    let f : suc n ≡ suc n - passed text (suc n) = omega arith in
    let m : prefix_len is_inner (drop n text) ≡ 0 = prefix_len-drop_no is_inner text n 0 small e in
    let p : prefix_len is_inner (drop from text) ≡ passed text n = omega arith in
    let len : length (drop from text) ≡ length text - from = length-drop from text in
    record {
      within = omega arith;
      here = ap (λ (k : ℕ). drop k (lines text)) a
          ∙ sym (drop-drop 1 (ends_before text n) (lines text))
          ∙ ap (λ (ls : List (List ℕ)). drop 1 ls) s.here
          ∙ more_lines ([] ∷ []) (drop from text) (omega arith)
          ∙ ap (λ (k : ℕ). lines (drop (suc k) (drop from text))) p
          ∙ ap (λ (ys : List ℕ). lines ys) (drop_both text (suc (passed text n)) from
          (suc n - passed text (suc n)) (omega arith));
      run = ap (λ (k : ℕ). prefix_len is_inner (drop k text)) (sym f)
          ∙ omega arith;
    }

stands : (text : List ℕ) (n : ℕ) → n ≤ length text → Stands text n
stands text zero small = record { within = omega arith; here = refl; run = omega arith }
stands text (suc n) small =
    stands_case text n (is_inner (get_or text n 0)) refl (omega arith)
    (stands text n (omega arith))

line_of_place : (text : List ℕ) (n : ℕ) → Stands text n
    → unwrap_or (numbered (line_of text n) (lines text)) []
    ≡ take_while is_inner (drop (n - passed text n) text)
line_of_place text n s =
    let f : 1 + ends_before text n ≡ suc (ends_before text n) = omega arith in
    ap (λ (k : ℕ). unwrap_or (numbered k (lines text)) []) f
    ∙ ap (λ (o : Option (List ℕ)). unwrap_or o [])
    (get_from (lines text) (ends_before text n)
    ∙ ap (λ (ls : List (List ℕ)). slice_get ls 0) s.here
    ∙ first_line (drop (n - passed text n) text))

-- ---- the part that is shown
pub start_is : (blanks : Bool) (content into one two : List ℕ) (k : ℕ) → k ≡ min (length content) 80
    → one ≡ into ++ map (shown blanks) (take k content) → two ≡ one ++ 10 ∷ []
    → two ≡ into ++ shown_start blanks content
start_is blanks content into one two k is first second =
    let f : k ≡ min 80 (length content) = omega arith in
    second
    ∙ ap (λ (xs : List ℕ). xs ++ 10 ∷ [])
    (first ∙ ap (λ (xs : List ℕ). into ++ map (shown blanks) xs)
    (ap (λ (i : ℕ). take i content) f ∙ take_min 80 content))
    ∙ append_assoc into (map (shown blanks) (take 80 content)) (10 ∷ [])

drop_case : (b : ℕ) (bs : List ℕ) (k : ℕ) (t : Bool) → is_inner b ≡ t
    → (k ≤ prefix_len is_inner bs
    → drop k (take_while is_inner bs) ≡ take_while is_inner (drop k bs))
    → suc k ≤ prefix_len is_inner (b ∷ bs)
    → drop (suc k) (take_while is_inner (b ∷ bs)) ≡ take_while is_inner (drop k bs)
drop_case b bs k true e rest small =
    let n : prefix_len is_inner (b ∷ bs) ≡ suc (prefix_len is_inner bs) = rw e (omega arith) in
    rw (take_while-cons is_inner b bs, e) (rest (omega arith))
drop_case b bs k false e rest small =
    let n : prefix_len is_inner (b ∷ bs) ≡ 0 = rw e refl in
    absurd (omega arith)

drop_while : (xs : List ℕ) (k : ℕ) → k ≤ prefix_len is_inner xs
    → drop k (take_while is_inner xs) ≡ take_while is_inner (drop k xs)
drop_while xs zero small = refl
drop_while [] (suc k) small = absurd (omega arith)
drop_while (b ∷ bs) (suc k) small =
    drop_case b bs k (is_inner b) refl (drop_while bs k) small

shown_of_place : (text : List ℕ) (n : ℕ) → n ≤ length text
    → shown_part (passed text n) (unwrap_or (numbered (line_of text n) (lines text)) [])
    ≡ shown_start true (take_while is_inner (drop (n - passed text n % 80) text))
shown_of_place text n small =
    let s = stands text n small in
    let w = s.within in
    let r = s.run in
    let cut = passed text n / 80 * 80 in
    let d : cut + passed text n % 80 ≡ passed text n = div-add-mod' (passed text n) 80 in
    ap (λ (l : List ℕ). shown_part (passed text n) l) (line_of_place text n s)
    ∙ ap (λ (l : List ℕ). shown_start true l)
    (drop_while (drop (n - passed text n) text) cut (omega arith)
    ∙ ap (λ (l : List ℕ). take_while is_inner l)
    (drop_both text cut (n - passed text n) (n - passed text n % 80) (omega arith)))

-- ---- the whole block
-- the end stands for every place that the text doesn't have
block_within : (file text sentence : List ℕ) (place n : ℕ) → n ≡ min place (length text)
    → block_text file text n sentence ≡ block_text file text place sentence
block_within file text sentence place n is =
    ap (λ (before : List ℕ).
    head_text file (1 + count_by (λ b. b == 10) before) (1 + suffix_len is_inner before) sentence
    ++ shown_part (suffix_len is_inner before)
    (unwrap_or (numbered (1 + count_by (λ b. b == 10) before) (lines text)) [])
    ++ mark (suffix_len is_inner before % 80))
    (ap (λ (k : ℕ). take k text) is ∙ take_min place text)

-- what is written is the whole block
pub block_is : (file text sentence : List ℕ) (place n number column : ℕ)
    → n ≡ min place (length text) → number ≡ line_of text n → column ≡ column_of text n
    → (into one two three : List ℕ)
    → one ≡ into ++ head_text file number column sentence
    → two ≡ one ++ shown_start true (take_while is_inner (drop (n - (column - 1) % 80) text))
    → three ≡ two ++ mark ((column - 1) % 80)
    → three ≡ into ++ block_text file text place sentence
block_is file text sentence place n number column is number_is column_is into one two three first
    second third =
    let passed_is : column - 1 ≡ passed text n = omega arith in
    let part = shown_part (passed text n)
    (unwrap_or (numbered (line_of text n) (lines text)) []) in
    let head = head_text file (line_of text n) (column_of text n) sentence in
    third
    ∙ ap (λ (xs : List ℕ). xs ++ mark ((column - 1) % 80))
    (second ∙ ap (λ (xs : List ℕ). xs ++ shown_start true (take_while is_inner
    (drop (n - (column - 1) % 80) text))) first)
    ∙ ap (λ (i : ℕ). into ++ head_text file number column sentence
    ++ shown_start true (take_while is_inner (drop (n - i % 80) text)) ++ mark (i % 80)) passed_is
    ∙ ap (λ (xs : List ℕ). into ++ head_text file number column sentence ++ xs
    ++ mark (passed text n % 80)) (sym (shown_of_place text n (omega arith)))
    ∙ ap (λ (i : ℕ). into ++ head_text file i column sentence ++ part
    ++ mark (passed text n % 80)) number_is
    ∙ ap (λ (i : ℕ). into ++ head_text file (line_of text n) i sentence ++ part
    ++ mark (passed text n % 80)) column_is
    ∙ ap (λ (xs : List ℕ). xs ++ mark (passed text n % 80)) (append_assoc into head part)
    ∙ append_assoc into (head ++ part) (mark (passed text n % 80))
    ∙ ap (λ (xs : List ℕ). into ++ xs) (block_within file text sentence place n is)
