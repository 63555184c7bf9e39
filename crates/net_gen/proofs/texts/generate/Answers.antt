use Rattle.std.proofs.Common.{◌≡◌, ℕ, ◌+◌, ◌*◌, List, subst, sym, ap, ◌∙◌, arith}
use Rattle.net_reader.specs.declared.raw.RawNet.{RawNet}
use Rattle.net_reader.specs.Layout.{IsOfSentence, network_text}
use Rattle.net_reader.specs.Places.{Declares}
use Rattle.polis_base.specs.Draws.{after, draw}
use Rattle.net_gen.specs.Networks.{ring, network, count}
use Rattle.net_gen.specs.Traces.{ticks, trace_text}
use Rattle.net_gen.specs.Whole.{AreWhole}
use Rattle.polis_base.proofs.DrawsAfter.{after_first, after_more}
use Rattle.net_gen.proofs.Sentence.{sentence}
use Rattle.net_gen.proofs.texts.generate.Goals as goal

pub print_network-requires : goal.print_network-requires
print_network-requires c =
    subst IsOfSentence (sym c.in_ok-declared.ensures.ring)
    (sentence (24 + c.draw-count.result) c.draw-count.new.self.x (omega arith))

-- what was drawn first, and the declarations
same_count : (seed answer : ℕ) → answer ≡ draw seed 25 → 24 + answer ≡ count seed
same_count seed answer e = ap (λ (k : ℕ). 24 + k) e

same_network : (seed answer x : ℕ) (net : RawNet) → answer ≡ draw seed 25 → x ≡ after seed 1
    → net ≡ ring (24 + answer) x → net ≡ network seed
unfolding network
same_network seed answer x net drawn moved made =
    made
    ∙ ap (λ (k : ℕ). ring k x) (same_count seed answer drawn)
    ∙ ap (ring (count seed)) moved

same_trace : (seed answer x y : ℕ) (text : List ℕ) → answer ≡ draw seed 25 → x ≡ after seed 1
    → y ≡ after x (25 * (24 + answer)) → text ≡ ticks (24 + answer) y → text ≡ trace_text seed
unfolding trace_text
same_trace seed answer x y text drawn first moved made =
    let same = same_count seed answer drawn in
    made
    ∙ ap (λ (k : ℕ). ticks k y) same
    ∙ ap (ticks (count seed))
    (moved
    ∙ ap (λ (s : ℕ). after s (25 * (24 + answer))) first
    ∙ after_more seed 1 (25 * (24 + answer))
    ∙ ap (λ (k : ℕ). after seed (1 + 25 * k)) same)

pub returns-clause-trace : goal.returns-clause-trace
returns-clause-trace c =
    same_trace c.args.seed c.draw-count.result c.draw-count.new.self.x c.ring.new.draws.x
    c.in_ok-trace.trace c.draw-count.ensures.answer
    (c.draw-count.ensures.moves ∙ after_first c.args.seed) c.in_ok-declared.ensures.moves
    c.in_ok-trace.ensures

pub returns-clause-net : goal.returns-clause-net
returns-clause-net c =
    c.in_ok-net.ensures.layout
    ∙ ap network_text
    (same_network c.args.seed c.draw-count.result c.draw-count.new.self.x
    c.in_ok-declared.declared c.draw-count.ensures.answer
    (c.draw-count.ensures.moves ∙ after_first c.args.seed) c.in_ok-declared.ensures.ring)

pub returns-clause-declares : goal.returns-clause-declares
returns-clause-declares c =
    subst (Declares c.in_ok-net.net)
    (same_network c.args.seed c.draw-count.result c.draw-count.new.self.x
    c.in_ok-declared.declared c.draw-count.ensures.answer
    (c.draw-count.ensures.moves ∙ after_first c.args.seed) c.in_ok-declared.ensures.ring)
    c.in_ok-net.ensures.back

pub returns-clause-whole : goal.returns-clause-whole
returns-clause-whole c =
    subst (AreWhole c.in_ok-net.net) (sym (returns-clause-trace c))
    (c.whole_laws.ensures.whole c.args.seed c.in_ok-net.net (returns-clause-declares c))
