-- The parts of a network's drawing, one after the other.
use Rattle.std.proofs.Common.{◌≡◌, ℕ, List, ◌++◌, ap, ◌∙◌, append_assoc}

glue : (out w x t u : List ℕ) → t ≡ out ++ w → u ≡ t ++ x → u ≡ out ++ (w ++ x)
glue out w x t u one two =
    two ∙ ap (λ (ys : List ℕ). ys ++ x) one ∙ append_assoc out w x

pub seven_parts : (out a b d e f g h t1 t2 t3 t4 t5 t6 t7 : List ℕ)
    → t1 ≡ out ++ a → t2 ≡ t1 ++ b → t3 ≡ t2 ++ d → t4 ≡ t3 ++ e → t5 ≡ t4 ++ f → t6 ≡ t5 ++ g
    → t7 ≡ t6 ++ h → t7 ≡ out ++ (a ++ b ++ d ++ e ++ f ++ g ++ h)
seven_parts out a b d e f g h t1 t2 t3 t4 t5 t6 t7 e1 e2 e3 e4 e5 e6 e7 =
    glue out (a ++ b ++ d ++ e ++ f ++ g) h t6 t7
    (glue out (a ++ b ++ d ++ e ++ f) g t5 t6
    (glue out (a ++ b ++ d ++ e) f t4 t5
    (glue out (a ++ b ++ d) e t3 t4 (glue out (a ++ b) d t2 t3 (glue out a b t1 t2 e1 e2) e3) e4)
    e5) e6) e7
