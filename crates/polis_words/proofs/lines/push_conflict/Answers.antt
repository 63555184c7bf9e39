use Rattle.std.proofs.Common.{◌≡◌, ℕ, List, ◌++◌, refl}
use Rattle.std.proofs.lemmas.List.{append_assoc}
use Rattle.std.proofs.lemmas.Result.{IfOk-equal}
use Rattle.polis_words.proofs.lines.push_conflict.Goals as goal

row_of_seven : (start o p q r s t u a b d e f g h k : List ℕ) → o ≡ start → p ≡ o ++ a
    → q ≡ p ++ b → r ≡ q ++ d → s ≡ r ++ e → t ≡ s ++ f → u ≡ t ++ g → h ≡ k
    → u ++ h ≡ start ++ (a ++ b ++ d ++ e ++ f ++ g ++ k)
row_of_seven start o p q r s t u a b d e f g h k i j l m n v w last =
    rw (last, w, v, n, m, l, j, i) (simp append_assoc refl)

pub returns : goal.returns
returns c = IfOk-equal _ _ _ _ c.push-6.ensures.ok
    (row_of_seven _ c.push.new.self c.push-2.new.self c.push-3.new.self c.push_decimal.new.self
    c.push-4.new.self c.push_decimal-2.new.self c.push-5.new.self _ _ _ _ _ _ _ _
    c.in_ok-push.ensures.ok
    (rw c.bytes.ensures.bytes at c.in_ok-push-2.ensures.ok) c.in_ok-push-3.ensures.ok
    c.in_ok-push_decimal.ensures.ok c.in_ok-push-4.ensures.ok c.in_ok-push_decimal-2.ensures.ok
    c.in_ok-push-5.ensures.ok c.as_slice.ensures)
