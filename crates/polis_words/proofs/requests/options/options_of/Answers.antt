use Rattle.std.proofs.Common.{◌≡◌, ◌+◌, ◌-◌, ◌*◌, ℕ, arith, subst}
use Rattle.polis_words.specs.inner.Run.{AreSaid}
use Rattle.polis_words.proofs.AskOptions.{no_more, no_odd, said_next}
use Rattle.polis_words.proofs.requests.options.options_of.Goals as goal

pub returns-then-count-ne0-clause-none : goal.returns-then-count-ne0-clause-none
returns-then-count-ne0-clause-none c =
    let is = c.len.ensures in
    let odd = c.if-count-ne0.true in
    no_odd c.args.words.now c.args.first (c.len.result - c.args.first) (omega arith)
    (λ even. omega (arith, is, odd, even))

pub returns-in-None-clause-none : goal.returns-in-None-clause-none
returns-in-None-clause-none c =
    let within = c.loop-k-test.true in
    let is = c.len.ensures in
    no_more c.args.words.now c.args.first (c.args.first + 2 * c.loop-k.k) c.loop-k.options
    c.loop-k.invariant (omega (arith, within, is)) c.in-None.ensures.none

pub loop-k-preserved : goal.loop-k-preserved
loop-k-preserved c =
    let first = c.args.first in
    let k = c.loop-k.k in
    let next : first + 2 * k + 2 ≡ first + 2 * (k + 1) = omega arith in
    subst (λ (place : ℕ). AreSaid c.args.words.now first place c.in-Some.options) next
    (said_next c.args.words.now first (first + 2 * k) c.loop-k.options c.in-Some.options
    c.loop-k.invariant c.in-Some.ensures.some)
