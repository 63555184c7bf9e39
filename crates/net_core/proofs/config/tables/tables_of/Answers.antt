use Rattle.std.proofs.Common.{◌≡◌, ◌<◌, ◌≤◌, ℕ, List, length, take, ap, ◌∙◌, sym, subst, arith}
use Rattle.std.proofs.Math.Seq.{take-length}
use Rattle.journals.specs.declared.entry.Entry.{Entry}
use Rattle.net_core.specs.Tables.{AreTables}
use Rattle.journals.proofs.StampSteps.{prefix_step, prefix_more}
use Rattle.net_core.proofs.config.tables.tables_of.Goals as goal

pub take_next-requires-clause-fits : goal.take_next-requires-clause-fits
take_next-requires-clause-fits c =
    (prefix_step c.laws.ensures.prefixes c.laws.ensures.steps c.args.net.now c.args.trace.now
    c.args.journal.now c.loop-i.i c.get.result.now c.requires.legal (omega arith)
    c.get.ensures).1

pub take_next-requires-clause-current : goal.take_next-requires-clause-current
take_next-requires-clause-current c =
    let step = prefix_step c.laws.ensures.prefixes c.laws.ensures.steps c.args.net.now
    c.args.trace.now c.args.journal.now c.loop-i.i c.get.result.now c.requires.legal
    (omega arith) c.get.ensures in
    (take c.loop-i.i c.args.journal.now, step.2, c.loop-i.invariant)

pub loop-i-preserved : goal.loop-i-preserved
loop-i-preserved c =
    let step = prefix_step c.laws.ensures.prefixes c.laws.ensures.steps c.args.net.now
    c.args.trace.now c.args.journal.now c.loop-i.i c.get.result.now c.requires.legal
    (omega arith) c.get.ensures in
    let more = prefix_more c.args.journal.now c.loop-i.i c.get.result.now (omega arith)
    c.get.ensures in
    let tables = c.take_next.new.self in
    subst (λ (l : List Entry). AreTables c.args.net.now c.args.trace.now l tables.readers.items
    tables.moments.items tables.woken tables.cursors tables.owed) (sym more)
    (c.in_ok-take_next.ensures (take c.loop-i.i c.args.journal.now) step.2 c.loop-i.invariant)

pub loop-i-init : goal.loop-i-init
loop-i-init c = c.in_ok-tables.ensures

pub get-requires : goal.get-requires
get-requires c = subst (λ n. c.loop-i.i < n) c.len-i-end.ensures c.loop-i-test.true

at_end : (i end long : ℕ) → end ≡ long → i ≤ end → end ≤ i → i ≡ long
at_end i end long same most least = omega arith

pub returns : goal.returns
returns c =
    let journal = c.args.journal.now in
    let end = at_end c.loop-i.i c.len-i-end.result (length journal) c.len-i-end.ensures
    c.loop-i.auto.i-end c.loop-i-test.false in
    let tables = c.loop-i.tables in
    subst (λ (l : List Entry). AreTables c.args.net.now c.args.trace.now l tables.readers.items
    tables.moments.items tables.woken tables.cursors tables.owed)
    (ap (λ (k : ℕ). take k journal) end ∙ take-length journal) c.loop-i.invariant
