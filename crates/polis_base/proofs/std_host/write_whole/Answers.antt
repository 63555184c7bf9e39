use Rattle.std.proofs.Common.{◌≡◌, ◌++◌, take, drop, sym, ◌∙◌, ap, arith}
use Rattle.std.proofs.lemmas.List.{append_assoc, take-append-drop, take_rest}
use Rattle.polis_base.proofs.KnownBytes.{appended_more, appended_none, appended_prefix}
use Rattle.polis_base.proofs.std_host.write_whole.Goals as goal

pub loop-rest-preserved : goal.loop-rest-preserved
loop-rest-preserved g c =
    let prefix = c.loop-rest.invariant.0 in
    let rest = c.loop-rest.rest.now in
    let n = c.in-Ok.count in (
      prefix ++ take n rest,
      c.loop-rest.invariant.1 ∙ ap (λ zs. prefix ++ zs) (sym (take-append-drop n rest))
          ∙ sym (append_assoc prefix (take n rest) (drop n rest))
          ∙ ap (λ zs. (prefix ++ take n rest) ++ zs) (sym (take_rest rest n)),
      appended_more (g.W.Write.contents c.args.writer.now) (g.W.Write.contents c.loop-rest.writer)
          (g.W.Write.contents c.write.new.self) prefix (take n rest) c.loop-rest.invariant.2
          c.in-Ok.ensures.bytes,
    )

pub returns-in-Ok-eq0-clause-prefix : goal.returns-in-Ok-eq0-clause-prefix
returns-in-Ok-eq0-clause-prefix g c =
    let i = c.loop-rest.invariant in
    let none : c.in-Ok-eq0.field-0 ≡ 0 = omega arith in
    appended_prefix (g.W.Write.contents c.args.writer.now) (g.W.Write.contents c.loop-rest.writer)
    (g.W.Write.contents c.write.new.self) c.args.bytes.now i.0 c.loop-rest.rest.now i.1 i.2
    (appended_none (g.W.Write.contents c.loop-rest.writer) (g.W.Write.contents c.write.new.self)
    (rw (c.in-Ok-eq0.is, none) at c.write.ensures.bytes))

pub returns-in-Err-2-clause-prefix : goal.returns-in-Err-2-clause-prefix
returns-in-Err-2-clause-prefix g c =
    let i = c.loop-rest.invariant in
    appended_prefix (g.W.Write.contents c.args.writer.now) (g.W.Write.contents c.loop-rest.writer)
    (g.W.Write.contents c.write.new.self) c.args.bytes.now i.0 c.loop-rest.rest.now i.1 i.2
    c.in-Err-2.ensures.bytes

pub returns-in-Err-2-2-clause-prefix : goal.returns-in-Err-2-2-clause-prefix
returns-in-Err-2-2-clause-prefix g c =
    let i = c.loop-rest.invariant in
    appended_prefix (g.W.Write.contents c.args.writer.now) (g.W.Write.contents c.loop-rest.writer)
    (g.W.Write.contents c.write.new.self) c.args.bytes.now i.0 c.loop-rest.rest.now i.1 i.2
    c.in-Err-2.ensures.bytes

pub returns-in-Ok-flush-clause-prefix : goal.returns-in-Ok-flush-clause-prefix
returns-in-Ok-flush-clause-prefix g c =
    let i = c.loop-rest.invariant in
    appended_prefix (g.W.Write.contents c.args.writer.now) (g.W.Write.contents c.loop-rest.writer)
    (g.W.Write.contents c.flush.new.self) c.args.bytes.now i.0 c.loop-rest.rest.now i.1 i.2
    c.flush.ensures.bytes

pub returns-in-Err-flush-clause-prefix : goal.returns-in-Err-flush-clause-prefix
returns-in-Err-flush-clause-prefix g c =
    let i = c.loop-rest.invariant in
    appended_prefix (g.W.Write.contents c.args.writer.now) (g.W.Write.contents c.loop-rest.writer)
    (g.W.Write.contents c.flush.new.self) c.args.bytes.now i.0 c.loop-rest.rest.now i.1 i.2
    c.flush.ensures.bytes
