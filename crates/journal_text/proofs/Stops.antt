-- What the same fault is in two results, and that no answer is a fault.
use Rattle.std.proofs.Common.{◌≡◌, Result, Ok, Err}
use Rattle.journal_text.specs.declared.codes.Stop.{Stop}
use Rattle.journal_text.specs.declared.codes.Stop.TheVariants.{Kind}
use Rattle.journal_text.specs.declared.fault.JournalKind.{JournalKind}

pub same_stop : {A B : Type 0} (x y : Stop) → ◌≡◌ {A = Result A Stop} (Err x) (Err y)
    → ◌≡◌ {A = Result B Stop} (Err x) (Err y)
same_stop x y e = cc

pub same_kind : {A : Type 0} (x y : JournalKind)
    → ◌≡◌ {A = Result A Stop} (Err (Kind x)) (Err (Kind y)) → x ≡ y
same_kind x y e = cc

pub ok_is_no_stop : {A : Type 0} {C : Type 0} (a : A) (x : Stop)
    → ◌≡◌ {A = Result A Stop} (Ok a) (Err x) → C
ok_is_no_stop a x e = absurd cc

pub stop_of_exit : {A B : Type 0} (r : Result A Stop) (x y z : Stop) → r ≡ Err x → x ≡ y
    → r ≡ Err z → ◌≡◌ {A = Result B Stop} (Err y) (Err z)
stop_of_exit r x y z p q e = cc
