-- One more code of an edge.
use Rattle.std.proofs.Common.{◌≡◌, ℕ, suc, ◌+◌, Bool, true, false, cond, List, ◌∷◌, ◌++◌, map, drop, slice_get, Some, ap, sym, ◌∙◌, arith, append_assoc}
use Rattle.polis_base.specs.Lists.{places_from, numbered}
use Rattle.graph_drawing.specs.Words.{after_gap}
use Rattle.polis_base.proofs.Places.{drop_one}

-- the words from the one of number n on
abbrev words : (ℕ → List ℕ) → ℕ → List ℕ → List ℕ
words word n codes = numbered after_gap n (map word codes)

-- what is left begins with the code where it passes
at_code : (word : ℕ → List ℕ) (test : ℕ → Bool) (kids : List ℕ) (n code kid : ℕ) (b : Bool)
    (out whole : List ℕ)
    → out ++ words word n (places_from code test (drop code kids)) ≡ whole
    → slice_get kids code ≡ Some kid → test kid ≡ b
    → out ++ words word n (cond b (code ∷ places_from (code + 1) test (drop (code + 1) kids))
    (places_from (code + 1) test (drop (code + 1) kids))) ≡ whole
at_code word test kids n code kid b out whole is is_kid e =
    let f : code + 1 ≡ suc code = omega arith in
    ap (λ (i : ℕ). out ++ words word n (cond b
    (code ∷ places_from (code + 1) test (drop i kids))
    (places_from (code + 1) test (drop i kids)))) f
    ∙ ap (λ (t : Bool). out ++ words word n (cond t
    (code ∷ places_from (code + 1) test (drop (suc code) kids))
    (places_from (code + 1) test (drop (suc code) kids)))) (sym e)
    ∙ ap (λ (ks : List ℕ). out ++ words word n (places_from code test ks))
    (sym (drop_one kids code kid is_kid))
    ∙ is

pub one_word : (word : ℕ → List ℕ) (test : ℕ → Bool) (kids : List ℕ) (n code kid : ℕ)
    (out new whole : List ℕ)
    → out ++ words word n (places_from code test (drop code kids)) ≡ whole
    → slice_get kids code ≡ Some kid → test kid ≡ true → new ≡ out ++ after_gap n (word code)
    → new ++ words word (n + 1) (places_from (code + 1) test (drop (code + 1) kids)) ≡ whole
one_word word test kids n code kid out new whole is is_kid passes e =
    let f : n + 1 ≡ suc n = omega arith in
    let left = places_from (code + 1) test (drop (code + 1) kids) in
    ap (λ (i : ℕ). new ++ words word i left) f
    ∙ ap (λ (ys : List ℕ). ys ++ words word (suc n) left) e
    ∙ append_assoc out (after_gap n (word code)) (words word (suc n) left)
    ∙ at_code word test kids n code kid true out whole is is_kid passes

pub no_word : (word : ℕ → List ℕ) (test : ℕ → Bool) (kids : List ℕ) (n code kid : ℕ)
    (out whole : List ℕ)
    → out ++ words word n (places_from code test (drop code kids)) ≡ whole
    → slice_get kids code ≡ Some kid → test kid ≡ false
    → out ++ words word n (places_from (code + 1) test (drop (code + 1) kids)) ≡ whole
no_word word test kids n code kid out whole is is_kid fails =
    at_code word test kids n code kid false out whole is is_kid fails
