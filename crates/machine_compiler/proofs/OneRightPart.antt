-- A machine has one right part.
use Rattle.std.proofs.Common.{◌≡◌, ℕ, suc, List, [], ◌∷◌, length, slice_get, Some, refl, ap, sym, subst, ◌∙◌, arith}
use Rattle.transition_table.specs.declared.machine.Machine.{Machine}
use Rattle.transition_table.specs.Transitions.{IsDeterministic}
use Rattle.sgraph.specs.declared.vertex.Vertex.{Vertex}
use Rattle.sgraph.specs.Reactions.{IsGraphOf}
use Rattle.task_code.specs.Codes.{laid_out, start}
use Rattle.task_code.specs.Listings.{Part}
use Rattle.order_sift.proofs.OneOrder.{one_sifted}
use Rattle.sgraph_opt.proofs.OneGraph.{one_graph}
use Rattle.machine_compiler.specs.Parts.{IsRightPart}
use Rattle.machine_compiler.specs.Laws.{OneRightPart, OneRightParts}

pub one_right_part : OneRightPart
one_right_part m p q sure rp rq =
    let sifted = one_sifted m p.order q.order p.first q.first p.count q.count rp.sifted rq.sifted in
    let order : p.order ≡ q.order = sifted.0 in
    let first : p.first ≡ q.first = sifted.1 in
    let count : p.count ≡ q.count = sifted.2 in
    let graph : p.graph ≡ q.graph = one_graph m q.order p.graph q.graph sure rq.sifted.allowed
    rp.is_graph rq.is_graph (subst (λ (o : List ℕ). IsGraphOf m o p.graph) order rp.of_machine)
    rq.of_machine rp.no_defaults rq.no_defaults in
    let code : p.code ≡ q.code = rp.lowered
    ∙ ap (λ (g : List Vertex). laid_out (start g) 0 g) graph ∙ sym rq.lowered in
    λ i. record {
      order = order i;
      first = first i;
      count = count i;
      graph = graph i;
      code = code i;
    }

each_same : (ms : List Machine) (ps qs : List Part) → length ps ≡ length ms
    → length qs ≡ length ms
    → ((k : ℕ) (m : Machine) → slice_get ms k ≡ Some m → IsDeterministic m)
    → ((k : ℕ) (m : Machine) (q : Part) → slice_get ms k ≡ Some m → slice_get ps k ≡ Some q
    → IsRightPart m q)
    → ((k : ℕ) (m : Machine) (q : Part) → slice_get ms k ≡ Some m → slice_get qs k ≡ Some q
    → IsRightPart m q)
    → ps ≡ qs
each_same [] [] [] lp lq sure rp rq = refl
each_same [] [] (q ∷ qs) lp lq sure rp rq = absurd (omega arith)
each_same [] (p ∷ ps) qs lp lq sure rp rq = absurd (omega arith)
each_same (m ∷ ms) [] qs lp lq sure rp rq = absurd (omega arith)
each_same (m ∷ ms) (p ∷ ps) [] lp lq sure rp rq = absurd (omega arith)
each_same (m ∷ ms) (p ∷ ps) (q ∷ qs) lp lq sure rp rq =
    let one : p ≡ q =
    one_right_part m p q (sure 0 m refl) (rp 0 m p refl refl) (rq 0 m q refl refl) in
    let others : ps ≡ qs = each_same ms ps qs (omega arith) (omega arith)
    (λ k n at. sure (suc k) n at) (λ k n x a b. rp (suc k) n x a b)
    (λ k n x a b. rq (suc k) n x a b) in
    cc

pub one_right_parts : OneRightParts
one_right_parts net p q sure rp rq =
    each_same net.machines p q rp.long rq.long sure rp.each rq.each
