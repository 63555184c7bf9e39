-- An outcome by the codes of its results, and back.
use Rattle.std.proofs.Common.{◌≡◌, ℕ, suc, ◌+◌, Bool, true, false, cond, ◌==◌, ◌++◌, take, drop, length, refl, ap, sym, ◌∙◌, arith}
use Rattle.transition_table.specs.declared.machine.Machine.{Machine}
use Rattle.transition_table.specs.declared.snapshot.Outcome.{Outcome}
use Rattle.transition_table.specs.Orders.{codes_of}
use Rattle.sgraph.specs.Graphs.{with_codes}
use Rattle.polis_base.proofs.Lists.{take_prefix, drop_prefix}

fires_back : (b : Bool) → (cond b 1 0 == 1) ≡ b
fires_back true = refl
fires_back false = refl

pub codes_back : (m : Machine) (o : Outcome) → length o.next ≡ length m.states
    → with_codes m (codes_of o) ≡ o
codes_back m o e =
    let n : 1 + length m.states ≡ suc (length m.states) = omega arith in
    let p : (cond o.fires 1 0 == 1) ≡ o.fires = fires_back o.fires in
    let q : take (length m.states) (o.next ++ o.outs) ≡ o.next =
    take_prefix o.next o.outs (length m.states) (sym e) in
    let r : drop (1 + length m.states) (codes_of o) ≡ o.outs =
    ap (λ (k : ℕ). drop k (codes_of o)) n
    ∙ drop_prefix o.next o.outs (length m.states) (sym e) in
    λ i. record { fires = p i; next = q i; outs = r i }
