use Rattle.std.proofs.Common.{◌≡◌, ℕ, ◌+◌, ◌*◌, ◌%◌, List, [], ◌∷◌, ◌++◌, map, sym, ap, ◌∙◌, arith}
use Rattle.polis_base.specs.Lists.{upto}
use Rattle.net_reader.specs.declared.raw.RawMachine.{RawMachine}
use Rattle.polis_base.specs.Draws.{after}
use Rattle.net_gen.specs.Networks.{machine, machine_at, machines}
use Rattle.polis_base.proofs.DrawsAfter.{after_none, after_more}
use Rattle.net_gen.proofs.network.machines.Goals as goal
use Rattle.polis_base.proofs.UptoPlaces.{map_upto}

pub loop-i-init : goal.loop-i-init
loop-i-init c = record {
  made = c.new-machines.ensures;
  moved = sym (after_none c.args.draws.now.x);
}

pub loop-i-preserved : goal.loop-i-preserved
loop-i-preserved c =
    let i = c.loop-i.i in
    let count = c.args.count in
    let x = c.args.draws.now.x in
    let f : ℕ → RawMachine = machine_at count x in
    let made : c.in_ok-machine.field-0 ≡ f i =
    c.in_ok-machine.ensures.machine
    ∙ ap (machine i ((i + 1) % count)) c.loop-i.invariant.moved in
    record {
      made =
          c.in_ok-push.ensures.ok
          ∙ ap (λ (l : List RawMachine). l ++ c.in_ok-machine.field-0 ∷ [])
          c.loop-i.invariant.made
          ∙ ap (λ (m : RawMachine). map f (upto i) ++ m ∷ []) made
          ∙ sym (map_upto f i);
      moved =
          c.in_ok-machine.ensures.moves
          ∙ ap (λ (s : ℕ). after s 25) c.loop-i.invariant.moved
          ∙ after_more x (25 * i) 25
          ∙ ap (after x) (let e : 25 * i + 25 ≡ 25 * (i + 1) = omega arith in e);
    }

pub returns-clause-machines : goal.returns-clause-machines
unfolding machines
returns-clause-machines c =
    let f : ℕ → RawMachine = machine_at c.args.count c.args.draws.now.x in
    let all : c.loop-i.i ≡ c.args.count =
    omega (arith, c.loop-i.auto.i-end, c.loop-i-test.false) in
    c.loop-i.invariant.made ∙ ap (λ (n : ℕ). map f (upto n)) all

pub returns-clause-moves : goal.returns-clause-moves
returns-clause-moves c =
    let all : c.loop-i.i ≡ c.args.count =
    omega (arith, c.loop-i.auto.i-end, c.loop-i-test.false) in
    c.loop-i.invariant.moved ∙ ap (λ (n : ℕ). after c.args.draws.now.x (25 * n)) all
