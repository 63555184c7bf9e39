use Rattle.std.proofs.Common.{◌≡◌, true, false, cond, drop, sym, ◌∙◌, ap}
use Rattle.std.proofs.lemmas.Result.{err_from_is_err_and}
use Rattle.polis_base.specs.declared.token.Kind.TheVariants as kinds
use Rattle.polis_base.specs.declared.token.Sign.TheVariants.{Comma}
use Rattle.net_reader.specs.Reading.{begins, is}
use Rattle.net_reader.proofs.Loops.{added, not_added, listed_on, listed_ends, listed_stops, listed_shrinks}
use Rattle.net_reader.proofs.lists.listed.Goals as goal

pub returns-in_err-read : goal.returns-in_err-read
returns-in_err-read g c =
    let rule = g.T.Part.rule c.args.version in
    let stop = c.in_err-read.field-0.0 in
    let p = err_from_is_err_and c.from_residual-in_err-read.result
    c.from_residual-in_err-read.ensures.1 in
    rw (p.1, p.2) (listed_stops rule c.loop-made.made c.loop-made.reader c.read.new.reader stop _
    (not_added c.loop-made.made c.read.new.made (rule c.loop-made.reader) c.read.new.reader stop
    c.in_err-read.ensures) c.loop-made.invariant)

pub returns-then-not-takes : goal.returns-then-not-takes
returns-then-not-takes g c =
    let rule = g.T.Part.rule c.args.version in
    let k = added c.loop-made.made c.read.new.made (rule c.loop-made.reader) c.read.new.reader
    c.in_ok-read.ensures in
    let no : begins (is (kinds.Sign Comma)) c.read.new.reader ≡ false =
    sym c.takes.ensures.seen ∙ c.if-not-takes.true in
    let left : c.takes.new.self ≡ c.read.new.reader =
    c.takes.ensures.left
    ∙ ap (λ b. cond b (drop 1 c.read.new.reader) c.read.new.reader) no in
    rw (c.shrink.ensures, left, k.2) (sym c.loop-made.invariant
    ∙ listed_ends rule c.loop-made.made c.loop-made.reader c.read.new.reader k.0 k.1 no)

pub loop-made-preserved : goal.loop-made-preserved
loop-made-preserved g c =
    let rule = g.T.Part.rule c.args.version in
    let k = added c.loop-made.made c.read.new.made (rule c.loop-made.reader) c.read.new.reader
    c.in_ok-read.ensures in
    let there : begins (is (kinds.Sign Comma)) c.read.new.reader ≡ true =
    sym c.takes.ensures.seen ∙ c.if-not-takes.false in
    let left : c.takes.new.self ≡ drop 1 c.read.new.reader =
    c.takes.ensures.left
    ∙ ap (λ b. cond b (drop 1 c.read.new.reader) c.read.new.reader) there in
    rw (left, k.2) (listed_on rule c.requires c.loop-made.made c.loop-made.reader
    c.read.new.reader k.0 k.1 there
    ∙ c.loop-made.invariant)

pub loop-made-smaller : goal.loop-made-smaller
loop-made-smaller g c =
    let rule = g.T.Part.rule c.args.version in
    let k = added c.loop-made.made c.read.new.made (rule c.loop-made.reader) c.read.new.reader
    c.in_ok-read.ensures in
    let there : begins (is (kinds.Sign Comma)) c.read.new.reader ≡ true =
    sym c.takes.ensures.seen ∙ c.if-not-takes.false in
    let left : c.takes.new.self ≡ drop 1 c.read.new.reader =
    c.takes.ensures.left
    ∙ ap (λ b. cond b (drop 1 c.read.new.reader) c.read.new.reader) there in
    rw left (listed_shrinks rule c.requires c.loop-made.reader c.read.new.reader k.0 k.1 there)
