use Rattle.std.proofs.Common.{◌≡◌, ◌∙◌, ◌++◌, [], ◌∷◌, ℕ, length, ap}
use Rattle.polis_base.specs.Lines.{line}
use Rattle.machine_compiler.specs.Lines.{code_length, code_tries_line, code_tries_text, tally_text, tries, reactions_of, side_by_side}
use Rattle.machine_compiler.proofs.AreTallies.{tally_at}
use Rattle.machine_compiler.proofs.Pairwise.{next_pair, side_pairs, three_texts}
use Rattle.machine_compiler.proofs.lines.print_code_tries.Goals as goal

pub loop-k-preserved : goal.loop-k-preserved
loop-k-preserved c =
    let r = c.args.r.now in
    let net = r.net.now in
    let journal = c.args.journal.now in
    let k = c.loop-k.k in
    let m = c.get.result.now in
    let code = c.code.result.now in
    let t = c.index.result.now in
    let there = rw c.network-net.ensures at c.get.ensures in
    let is = tally_at net r.codes journal c.in_ok-tallies.tallies.items k m code t
    c.in_ok-tallies.ensures there c.code.ensures.is c.index.ensures in
    let head = code_length m code in
    let written : c.push.new.self ≡ c.loop-k.text
    ++ line (head ++ tries code (reactions_of k journal)) =
    three_texts c.loop-k.text c.push_code_length.new.out c.push_tally.new.out c.push.new.self head
    (tally_text t.tries t.steps) (10 ∷ []) c.in_ok-push_code_length.ensures
    c.in_ok-push_tally.ensures c.in_ok-push.ensures.ok
    ∙ ap (λ (n : ℕ). c.loop-k.text ++ line (head ++ tally_text n t.steps)) is.tries
    ∙ ap (λ (n : ℕ). c.loop-k.text ++ line
    (head ++ tally_text (length (reactions_of k journal)) n)) is.steps
    in
    let one = code_tries_line journal in
    next_pair one (side_by_side one) (side_pairs one) net.machines r.codes k m code c.loop-k.text
    c.push.new.self (code_tries_text net r.codes journal) c.loop-k.invariant there
    c.code.ensures.is written
