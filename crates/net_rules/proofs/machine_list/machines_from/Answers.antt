use Rattle.std.proofs.Common.{rules, ◌≡◌, ◌∙◌, ◌++◌, ◌∷◌, [], suc, List, length, ap, sym, subst, refl, arith}
use Rattle.std.proofs.lemmas.List.{append-nil, append_assoc}
use Rattle.std.specs.List.{AllZip}
use Rattle.transition_table.specs.declared.machine.Machine.{Machine}
use Rattle.net_rules.specs.Networks.{IsMachineOf}
use Rattle.net_rules.specs.inner.Sound.{Each, IsSoundMachine}
use Rattle.net_rules.proofs.machine_list.machines_from.Goals as goal

pub loop-machine-init : goal.loop-machine-init
loop-machine-init c =
    let items = c.into_iter-machine-iterator.ensures.into_iter_gives.0
    ∙ c.into_vec-machine-items.ensures in
    record {
      count = search rules;
      kept = subst (λ l. Each (IsSoundMachine c.args.scope.now.raw.now) l) (sym items)
          c.requires.machines;
      made = λ more all.
          subst (λ l. AllZip (IsMachineOf c.args.scope.now.raw.now) c.args.machines (l ++ more))
          (sym c.new-made.ensures)
          (subst (λ l. AllZip (IsMachineOf c.args.scope.now.raw.now) l more) items all);
    }

pub machine_named-requires-clause-machine : goal.machine_named-requires-clause-machine
machine_named-requires-clause-machine c =
    subst (λ l. Each (IsSoundMachine c.args.scope.now.raw.now) l) c.in-Some.ensures.steps.0
    c.loop-machine.invariant.kept 0 c.in-Some.machine refl

pub loop-machine-preserved : goal.loop-machine-preserved
loop-machine-preserved c =
    let steps = c.in-Some.ensures.steps.0 in
    let made = c.loop-machine.made in
    let next = c.in_ok-next.next in
    record {
      count = search rules;
      kept = λ i m at.
          subst (λ l. Each (IsSoundMachine c.args.scope.now.raw.now) l) steps
          c.loop-machine.invariant.kept (suc i) m at;
      made = λ more all.
          subst (λ l. AllZip (IsMachineOf c.args.scope.now.raw.now) c.args.machines l)
          (sym (append_assoc made (next ∷ []) more)
          ∙ ap (λ (l : List Machine). l ++ more) (sym c.in_ok-push.ensures.ok))
          (c.loop-machine.invariant.made (next ∷ more)
          (subst (λ l. AllZip (IsMachineOf c.args.scope.now.raw.now) l (next ∷ more)) (sym steps)
          (c.in_ok-next.ensures, all)));
    }

-- where nothing is left, nothing is to be made
nothing : {A B : Type 0} (R : A → B → Type 0) (xs : List A) → length xs ≡ 0 → AllZip R xs []
nothing R [] none = tt
nothing R (x ∷ xs) none = absurd (omega (arith, none))

pub returns : goal.returns
returns c =
    subst (λ l. AllZip (IsMachineOf c.args.scope.now.raw.now) c.args.machines l)
    (append-nil c.loop-machine.made)
    (c.loop-machine.invariant.made []
    (nothing (IsMachineOf c.args.scope.now.raw.now) _
    (sym c.loop-machine.invariant.count ∙ c.in-None.ensures.steps.0)))
