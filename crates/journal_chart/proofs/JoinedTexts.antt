-- Texts that are put together, and the spaces at their ends.
use Rattle.std.proofs.Common.{◌≡◌, ℕ, zero, suc, ◌+◌, ◌<◌, ◌≤◌, subst, slice_index, Bool, true, false, cond, nat_lt, ◌&&◌, List, [], ◌∷◌, ◌++◌, length, take, flat_map, slice_get, Some, refl, sym, ap, ◌∙◌, arith}
use Rattle.std.specs.List.{list_all}
use Rattle.std.proofs.lemmas.Bool.{lt-ltb}
use Rattle.std.proofs.lemmas.List.{append-nil, append_assoc}
use Rattle.std.proofs.lemmas.Option.{slice_get-get_or}
use Rattle.polis_base.proofs.Places.{flat_map_push, take_next}
use Rattle.journal_chart.specs.Labels.{joined}
use Rattle.journal_chart.specs.Pictures.{is_space, trimmed}

-- one text more
joined_push : (between : List ℕ) (texts : List (List ℕ)) (text : List ℕ)
    → joined between (texts ++ text ∷ [])
    ≡ joined between texts ++ cond (nat_lt 0 (length texts)) between [] ++ text
joined_push between [] text = append-nil text
joined_push between (first ∷ texts) text =
    ap (λ (l : List ℕ). first ++ l) (flat_map_push (λ (next : List ℕ). between ++ next) texts text)
    ∙ grouped first (flat_map (λ (next : List ℕ). between ++ next) texts) between text
    ∙ ap
    (λ (b : Bool). first ++ flat_map (λ (next : List ℕ). between ++ next) texts
    ++ cond b between [] ++ text) (sym (lt-ltb 0 (suc (length texts)) (some (length texts))))
  where
    some : (n : ℕ) → 0 < suc n
    some n = omega arith

    grouped : (a b c d : List ℕ) → a ++ (b ++ (c ++ d)) ≡ a ++ b ++ c ++ d
    grouped a b c d = simp append_assoc refl

pub length_taken : {X : Type 0} (xs : List X) (k : ℕ) (x : X) → slice_get xs k ≡ Some x
    → length (take k xs) ≡ k
length_taken [] k x at = cc
length_taken (y ∷ xs) zero x at = refl
length_taken (y ∷ xs) (suc k) x at = ap suc (length_taken xs k x at)

pub joined_more : (between : List ℕ) (texts : List (List ℕ)) (k : ℕ) (text old now led new : List ℕ)
    → slice_get texts k ≡ Some text
    → now ≡ old ++ joined between (take k texts)
    → led ≡ now ++ cond (nat_lt 0 k) between []
    → new ≡ led ++ text
    → new ≡ old ++ joined between (take (k + 1) texts)
joined_more between texts k text old now led new at was leads is =
    is ∙ ap (λ (l : List ℕ). l ++ text) leads
    ∙ ap (λ (l : List ℕ). l ++ cond (nat_lt 0 k) between [] ++ text) was
    ∙ grouped old (joined between (take k texts)) (cond (nat_lt 0 k) between []) text
    ∙ ap
    (λ (n : ℕ). old ++ (joined between (take k texts) ++ cond (nat_lt 0 n) between [] ++ text))
    (sym (length_taken texts k text at))
    ∙ ap (λ (l : List ℕ). old ++ l)
    (sym (joined_push between (take k texts) text)
    ∙ ap (λ (l : List (List ℕ)). joined between l) (sym (take_next texts k text at)))
  where
    grouped : (a b c d : List ℕ) → a ++ b ++ c ++ d ≡ a ++ (b ++ c ++ d)
    grouped a b c d = simp append_assoc refl

-- ---- the spaces at the end

all_spaces : (text : List ℕ) (c : ℕ) → is_space c ≡ true
    → list_all is_space (text ++ c ∷ []) ≡ list_all is_space text
all_spaces [] c space = rw space refl
all_spaces (d ∷ text) c space = ap (λ (b : Bool). is_space d && b) (all_spaces text c space)

trimmed_space : (text : List ℕ) (c : ℕ) → is_space c ≡ true → trimmed (text ++ c ∷ []) ≡ trimmed text
trimmed_space [] c space = rw space refl
trimmed_space (d ∷ text) c space =
    ap (λ (b : Bool). cond (is_space d && b) [] (d ∷ trimmed (text ++ c ∷ [])))
    (all_spaces text c space)
    ∙ ap (λ (l : List ℕ). cond (is_space d && list_all is_space text) [] (d ∷ l))
    (trimmed_space text c space)

not_all : (text : List ℕ) (c : ℕ) → is_space c ≡ false
    → list_all is_space (text ++ c ∷ []) ≡ false
not_all [] c other = rw other refl
not_all (d ∷ text) c other = ap (λ (b : Bool). is_space d && b) (not_all text c other)
    ∙ neither (is_space d)
  where
    neither : (b : Bool) → (b && false) ≡ false
    neither true = refl
    neither false = refl

trimmed_other : (text : List ℕ) (c : ℕ) → is_space c ≡ false
    → trimmed (text ++ c ∷ []) ≡ text ++ c ∷ []
trimmed_other [] c other = rw other refl
trimmed_other (d ∷ text) c other =
    ap (λ (b : Bool). cond b [] (d ∷ trimmed (text ++ c ∷ []))) (not_all (d ∷ text) c other)
    ∙ ap (λ (l : List ℕ). d ∷ l) (trimmed_other text c other)

still : (end k : ℕ) → end ≤ k → end ≤ k + 1
still end k low = omega arith

itself : (k : ℕ) → k + 1 ≤ k + 1
itself k = omega arith

ends_by : (bytes : List ℕ) (k end new c : ℕ) (b : Bool) → slice_get bytes k ≡ Some c → end ≤ k
    → take end bytes ≡ trimmed (take k bytes)
    → is_space c ≡ b
    → new ≡ cond b end (k + 1)
    → (new ≤ k + 1) × (take new bytes ≡ trimmed (take (k + 1) bytes))
ends_by bytes k end new c true at low was space is = (
  subst (λ (n : ℕ). n ≤ k + 1) (sym is) (still end k low),
  ap (λ (n : ℕ). take n bytes) is ∙ was
      ∙ sym (trimmed_space (take k bytes) c space)
      ∙ ap trimmed (sym (take_next bytes k c at)),
)
ends_by bytes k end new c false at low was other is = (
  subst (λ (n : ℕ). n ≤ k + 1) (sym is) (itself k),
  ap (λ (n : ℕ). take n bytes) is ∙ take_next bytes k c at
      ∙ sym (trimmed_other (take k bytes) c other)
      ∙ ap trimmed (sym (take_next bytes k c at)),
)

-- one byte more
pub ends_more : (bytes : List ℕ) (k end new : ℕ) → k < length bytes → end ≤ k
    → take end bytes ≡ trimmed (take k bytes)
    → new ≡ cond (is_space (slice_index bytes k)) end (k + 1)
    → (new ≤ k + 1) × (take new bytes ≡ trimmed (take (k + 1) bytes))
ends_more bytes k end new below low was is =
    ends_by bytes k end new (slice_index bytes k) (is_space (slice_index bytes k))
    (slice_get-get_or bytes k 0 below) low was refl is
