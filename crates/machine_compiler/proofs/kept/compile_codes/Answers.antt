use Rattle.std.proofs.Common.{◌≡◌, List, length, arith}
use Rattle.task_code.specs.Listings.{Part}
use Rattle.machine_compiler.specs.Parts.{codes_in}
use Rattle.machine_compiler.proofs.PartsSoFar.{no_part, one_part, all_parts, one_item}
use Rattle.machine_compiler.proofs.kept.compile_codes.Goals as goal

pub loop-k-init : goal.loop-k-init
loop-k-init c =
    no_part c.args.net.now (λ (qs : List Part). c.new-codes.result ≡ codes_in qs) c.new-codes.ensures

pub loop-k-preserved : goal.loop-k-preserved
loop-k-preserved c =
    let old = c.loop-k.codes in
    let new = c.push.new.self in
    one_part c.args.net.now c.loop-k.k (λ (qs : List Part). old ≡ codes_in qs)
    (λ (qs : List Part). new ≡ codes_in qs) c.get.result.now _ c.loop-k.invariant c.get.ensures
    c.in_ok-code.ensures
    (λ qs here kept. one_item (λ (q : Part). q.code) qs _ old new kept c.in_ok-push.ensures.ok)

pub returns : goal.returns
returns c =
    let net = c.args.net.now in
    let all : c.loop-k.k ≡ length net.machines = let a = c.loop-k-test.false in
    let b = c.loop-k.auto.k-end in let d = c.len-k-end.ensures in omega arith in
    record {
      parts = c.loop-k.invariant.parts;
      right = all_parts net c.loop-k.k (λ (qs : List Part). c.loop-k.codes ≡ codes_in qs)
          c.loop-k.invariant all;
      codes_are = c.loop-k.invariant.kept;
    }
