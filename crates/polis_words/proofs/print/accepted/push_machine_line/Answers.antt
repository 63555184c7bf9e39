use Rattle.std.proofs.Common.{◌≡◌, ℕ, List, ◌++◌, refl}
use Rattle.std.proofs.lemmas.List.{append_assoc}
use Rattle.std.proofs.lemmas.Result.{IfOk-equal}
use Rattle.polis_words.proofs.print.accepted.push_machine_line.Goals as goal

row_of_seven : (start o p q r s t a b d e f g h : List ℕ) → o ≡ start ++ a → p ≡ o ++ b
    → q ≡ p ++ d → r ≡ q ++ e → s ≡ r ++ f → t ≡ s ++ g
    → t ++ h ≡ start ++ (a ++ b ++ d ++ e ++ f ++ g ++ h)
row_of_seven start o p q r s t a b d e f g h i j k l m n =
    rw (n, m, l, k, j, i) (simp append_assoc refl)

pub returns : goal.returns
returns c = IfOk-equal _ _ _ _ c.push-5.ensures.ok
    (row_of_seven c.args.into.now c.push.new.self c.push-2.new.self c.push-3.new.self
    c.push_decimal.new.self c.push-4.new.self c.push_decimal-2.new.self _ _ _ _ _ _ _
    c.in_ok-push.ensures.ok (rw c.bytes.ensures.bytes at c.in_ok-push-2.ensures.ok)
    c.in_ok-push-3.ensures.ok
    (rw c.snapshot_count.ensures at c.in_ok-push_decimal.ensures.ok)
    c.in_ok-push-4.ensures.ok (rw c.len.ensures at c.in_ok-push_decimal-2.ensures.ok))
