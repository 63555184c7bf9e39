use Rattle.std.proofs.Common.{◌≡◌, ◌∙◌, ◌++◌, List, ℕ, ap, refl, length, arith}
use Rattle.machine_compiler.proofs.AreTexts.{nothing_written, one_written, all_written}
use Rattle.machine_compiler.proofs.texts.compile_texts.Goals as goal

pub loop-k-init : goal.loop-k-init
loop-k-init c =
    nothing_written c.args.net.now c.push.new.self c.new-lengths.result
    (c.in_ok-push.ensures.ok ∙ ap (λ (xs : List ℕ). xs ++ _) c.new-listing.ensures)
    c.new-lengths.ensures

pub loop-k-preserved : goal.loop-k-preserved
loop-k-preserved c =
    let written = c.in_ok-write_machine.ensures in
    one_written c.args.net.now c.loop-k.k c.loop-k.listing c.loop-k.lengths
    c.write_machine.new.listing c.write_machine.new.lines c.get-machine.result.now written.part
    c.loop-k.invariant c.get-machine.ensures written.right written.listed written.measured

pub returns : goal.returns
returns c =
    let net = c.args.net.now in
    let all : c.loop-k.k ≡ length net.machines = let a = c.loop-k-test.false in
    let b = c.loop-k.auto.k-end in let d = c.len-k-end.ensures in omega arith in
    all_written net c.loop-k.k c.loop-k.listing c.loop-k.lengths
    (record { listing = c.push-2.new.self; lengths = c.loop-k.lengths }) c.loop-k.invariant all
    c.in_ok-push-2.ensures.ok refl
