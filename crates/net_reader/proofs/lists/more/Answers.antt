use Rattle.std.proofs.Common.{sym, ◌∙◌, ap}
use Rattle.std.proofs.lemmas.Result.{err_from_is_err_and}
use Rattle.net_reader.specs.Reading.{is, many, with_before}
use Rattle.net_reader.proofs.Loops.{added, not_added, goes_on, ends, stops_list}
use Rattle.net_reader.proofs.lists.more.Goals as goal

pub returns-in_err-read : goal.returns-in_err-read
returns-in_err-read g c =
    let rule = g.T.Part.rule c.args.version in
    let stop = c.in_err-read.field-0.0 in
    let p = err_from_is_err_and c.from_residual.result c.from_residual.ensures.1 in
    rw (p.1, p.2) (stops_list (is c.args.begins) rule c.loop-begins.made c.loop-begins.reader
    c.read.new.reader stop _ (sym c.sees.ensures ∙ c.loop-begins-test.true)
    (not_added c.loop-begins.made c.read.new.made (rule c.loop-begins.reader) c.read.new.reader stop
    c.in_err-read.ensures) c.loop-begins.invariant)

pub loop-begins-preserved : goal.loop-begins-preserved
loop-begins-preserved g c =
    let rule = g.T.Part.rule c.args.version in
    let k = added c.loop-begins.made c.read.new.made (rule c.loop-begins.reader) c.read.new.reader
    c.in_ok-read.ensures in
    ap (λ m. with_before m (many (is c.args.begins) rule c.read.new.reader)) k.2
    ∙ goes_on (is c.args.begins) rule (c.requires.shrinks) c.loop-begins.made c.loop-begins.reader
    c.read.new.reader k.0 (sym c.sees.ensures ∙ c.loop-begins-test.true) k.1
    ∙ c.loop-begins.invariant

pub loop-begins-smaller : goal.loop-begins-smaller
loop-begins-smaller g c =
    let rule = g.T.Part.rule c.args.version in
    let k = added c.loop-begins.made c.read.new.made (rule c.loop-begins.reader) c.read.new.reader
    c.in_ok-read.ensures in
    c.requires.shrinks c.loop-begins.reader c.read.new.reader k.0 k.1

pub returns : goal.returns
returns g c = rw c.shrink.ensures (sym c.loop-begins.invariant
    ∙ ends (is c.args.begins) (g.T.Part.rule c.args.version) c.loop-begins.made c.loop-begins.reader
    (sym c.sees.ensures ∙ c.loop-begins-test.false))
