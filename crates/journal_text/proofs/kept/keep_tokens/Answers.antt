use Rattle.polis_base.specs.Names.{is_name}
use Rattle.journal_text.proofs.ListAll.{holds_next}
use Rattle.journal_text.proofs.kept.keep_tokens.Goals as goal

pub loop-i-preserved : goal.loop-i-preserved
loop-i-preserved c =
    holds_next is_name c.args.names.now c.loop-i.i c.get.result.now c.loop-i.invariant c.get.ensures
    c.bytes-token.ensures.name
