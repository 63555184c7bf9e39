use Rattle.std.proofs.Common.{◌≡◌, ◌∙◌, ◌++◌, [], ◌∷◌, ℕ, length, ap}
use Rattle.polis_base.specs.Lines.{line}
use Rattle.machine_compiler.specs.Parts.{part_of_compiled, parts_of}
use Rattle.machine_compiler.specs.Lines.{lengths, tally_text, tries, tries_line, tries_text, reactions_of, side_by_side}
use Rattle.machine_compiler.proofs.AreTallies.{code_at, tally_at}
use Rattle.machine_compiler.proofs.Pairwise.{more_pairs, side_pairs, three_texts}
use Rattle.machine_compiler.proofs.lines.print_tries.Goals as goal

pub loop-k-preserved : goal.loop-k-preserved
loop-k-preserved c =
    let r = c.args.r.now in
    let net = r.net.now in
    let cs = c.args.compiled.now in
    let journal = c.args.journal.now in
    let k = c.loop-k.k in
    let m = c.get-machine.result.now in
    let part = c.get-part.result.now in
    let t = c.index.result.now in
    let code = code_at r.codes cs k part c.requires.same c.get-part.ensures in
    let there = rw c.network-net.ensures at c.get-machine.ensures in
    let is = tally_at net r.codes journal c.in_ok-tallies.tallies.items k m part.code t
    c.in_ok-tallies.ensures there code c.index.ensures in
    let head = lengths m (part_of_compiled part) in
    let written : c.push.new.self ≡ c.loop-k.text
    ++ line (head ++ tries part.code (reactions_of k journal)) =
    three_texts c.loop-k.text c.push_lengths.new.out c.push_tally.new.out c.push.new.self head
    (tally_text t.tries t.steps) (10 ∷ []) c.in_ok-push_lengths.ensures
    c.in_ok-push_tally.ensures c.in_ok-push.ensures.ok
    ∙ ap (λ (n : ℕ). c.loop-k.text ++ line (head ++ tally_text n t.steps)) is.tries
    ∙ ap (λ (n : ℕ). c.loop-k.text ++ line
    (head ++ tally_text (length (reactions_of k journal)) n)) is.steps
    in
    let one = tries_line journal in
    more_pairs one (side_by_side one) (side_pairs one) net.machines cs k m part c.loop-k.text
    c.push.new.self (tries_text net (parts_of cs) journal) c.loop-k.invariant there
    c.get-part.ensures written
