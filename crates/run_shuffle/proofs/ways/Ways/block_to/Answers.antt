use Rattle.std.proofs.Common.{ℕ, ◌<◌, ◌≤◌, subst}
use Rattle.run_shuffle.proofs.BlockTables.{block_read, nothing_read}
use Rattle.run_shuffle.proofs.ways.Ways.block_to.Goals as goal

pub returns-then-place-len-clause-block : goal.returns-then-place-len-clause-block
returns-then-place-len-clause-block c =
    let now = c.args.config.now in
    (block_read c.sending_laws.ensures.trace_gives now.net now.trace now.journal c.args.m
    c.place-place.result c.get.result.now c.args.self.now.blocks c.requires.blocks
    c.place-place.ensures.place
    (subst (λ (k : ℕ). c.place-place.result < k) c.len.ensures c.if-place-len.true)
    c.get.ensures).0

pub returns-then-place-len-clause-within : goal.returns-then-place-len-clause-within
returns-then-place-len-clause-within c =
    let now = c.args.config.now in
    (block_read c.sending_laws.ensures.trace_gives now.net now.trace now.journal c.args.m
    c.place-place.result c.get.result.now c.args.self.now.blocks c.requires.blocks
    c.place-place.ensures.place
    (subst (λ (k : ℕ). c.place-place.result < k) c.len.ensures c.if-place-len.true)
    c.get.ensures).1

pub returns-else-place-len-clause-block : goal.returns-else-place-len-clause-block
returns-else-place-len-clause-block c =
    let now = c.args.config.now in
    nothing_read c.sending_laws.ensures.trace_gives now.net now.trace now.journal c.args.m
    c.place-place.result c.args.self.now.blocks c.requires.blocks c.place-place.ensures.place
    (subst (λ (k : ℕ). k ≤ c.place-place.result) c.len.ensures c.if-place-len.false)
