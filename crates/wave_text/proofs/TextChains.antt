-- Texts that are put one behind the other.
use Rattle.std.specs.Prelude.{◌≡◌, ℕ, List, ◌++◌}
use Rattle.std.proofs.Common.{refl}
use Rattle.std.proofs.lemmas.List.{append_assoc}

pub three_parts : (into one two new a b c : List ℕ) → one ≡ into ++ a → two ≡ one ++ b
    → new ≡ two ++ c → new ≡ into ++ (a ++ b ++ c)
three_parts into one two new a b c p q r = rw (r, q, p) (simp append_assoc refl)

pub four_parts : (into one two three new a b c d : List ℕ) → one ≡ into ++ a → two ≡ one ++ b
    → three ≡ two ++ c → new ≡ three ++ d → new ≡ into ++ (a ++ b ++ c ++ d)
four_parts into one two three new a b c d p q r s = rw (s, r, q, p) (simp append_assoc refl)

pub six_parts : (into one two three four five new a b c d e f : List ℕ) → one ≡ into ++ a
    → two ≡ one ++ b → three ≡ two ++ c → four ≡ three ++ d → five ≡ four ++ e → new ≡ five ++ f
    → new ≡ into ++ (a ++ b ++ c ++ d ++ e ++ f)
six_parts into one two three four five new a b c d e f p q r s t u =
    rw (u, t, s, r, q, p) (simp append_assoc refl)

pub seven_parts : (into one two three four five six new a b c d e f g : List ℕ) → one ≡ into ++ a
    → two ≡ one ++ b → three ≡ two ++ c → four ≡ three ++ d → five ≡ four ++ e → six ≡ five ++ f
    → new ≡ six ++ g → new ≡ into ++ (a ++ b ++ c ++ d ++ e ++ f ++ g)
seven_parts into one two three four five six new a b c d e f g p q r s t u v =
    rw (v, u, t, s, r, q, p) (simp append_assoc refl)
