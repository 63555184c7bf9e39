-- Texts joined to the right are the same as those joined to the left.
use Rattle.std.proofs.Common.{◌≡◌, ℕ, List, ◌++◌, sym, ◌∙◌}
use Rattle.std.proofs.lemmas.List.{append_assoc}

-- what is joined to the right is the same as what is joined to the left
pub as3 : (a b c : List ℕ) → a ++ (b ++ c) ≡ a ++ b ++ c
as3 a b c = sym (append_assoc a b c)

pub as4 : (a b c d : List ℕ) → a ++ (b ++ (c ++ d)) ≡ a ++ b ++ c ++ d
as4 a b c d = as3 a b (c ++ d) ∙ sym (append_assoc (a ++ b) c d)

pub as5 : (a b c d e : List ℕ) → a ++ (b ++ (c ++ (d ++ e))) ≡ a ++ b ++ c ++ d ++ e
as5 a b c d e = as4 a b c (d ++ e) ∙ sym (append_assoc (a ++ b ++ c) d e)

pub as6 : (a b c d e f : List ℕ) → a ++ (b ++ (c ++ (d ++ (e ++ f)))) ≡ a ++ b ++ c ++ d ++ e ++ f
as6 a b c d e f = as5 a b c d (e ++ f) ∙ sym (append_assoc (a ++ b ++ c ++ d) e f)

pub as7 : (a b c d e f g : List ℕ)
    → a ++ (b ++ (c ++ (d ++ (e ++ (f ++ g))))) ≡ a ++ b ++ c ++ d ++ e ++ f ++ g
as7 a b c d e f g = as6 a b c d e (f ++ g) ∙ sym (append_assoc (a ++ b ++ c ++ d ++ e) f g)
