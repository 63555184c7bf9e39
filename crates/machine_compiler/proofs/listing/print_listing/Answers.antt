use Rattle.std.proofs.Common.{◌≡◌, ◌∙◌, ◌++◌, ◌<◌, codes, length, List, ℕ, ap, arith}
use Rattle.polis_base.specs.Lines.{line}
use Rattle.task_code.specs.Listings.{part_text, parts_text}
use Rattle.machine_compiler.specs.Parts.{part_of_compiled, parts_of}
use Rattle.machine_compiler.proofs.Pairwise.{listing_pairs, more_pairs, all_pairs, of_machine}
use Rattle.machine_compiler.proofs.listing.print_listing.Goals as goal
use Rattle.polis_base.proofs.Places.{some_at}

pub loop-k-preserved : goal.loop-k-preserved
loop-k-preserved c =
    let net = c.args.net.now in
    let cs = c.args.compiled.now in
    let k = c.loop-k.k in
    let part = c.get.result.now in
    let low : k < length net.machines = let a = c.loop-k-test.true in let b = c.len.ensures in
    let d = c.min-count.ensures in omega arith in
    let m = some_at net.machines k low in
    let written : c.push_part.new.listing
    ≡ c.loop-k.text ++ part_text net m.0 (part_of_compiled part) =
    of_machine net k m.0 (λ machine. c.push_part.new.listing
    ≡ c.loop-k.text ++ part_text net machine (part_of_compiled part)) m.1
    c.in_ok-push_part.ensures
    in
    more_pairs (λ k m q. part_text net m q) (λ k ms qs. parts_text net ms qs) (listing_pairs net)
    net.machines cs k m.0 part c.loop-k.text c.push_part.new.listing
    (line (codes "polis listing 1") ++ parts_text net net.machines (parts_of cs))
    c.loop-k.invariant m.1 c.get.ensures written

pub returns : goal.returns
returns c =
    let net = c.args.net.now in
    let cs = c.args.compiled.now in
    let whole = line (codes "polis listing 1") ++ parts_text net net.machines (parts_of cs) in
    let all : c.loop-k.text ≡ whole =
    all_pairs (λ k m q. part_text net m q) (λ k ms qs. parts_text net ms qs) (listing_pairs net)
    net.machines cs c.loop-k.k c.loop-k.text whole c.loop-k.invariant
    (let a = c.loop-k-test.false in let b = c.len.ensures in let d = c.len-2.ensures in
    let e = c.min-count.ensures in omega arith)
    in
    c.in_ok-push-2.ensures.ok ∙ ap (λ (xs : List ℕ). xs ++ line (codes "end")) all
