use Rattle.std.proofs.Common.{◌<◌, length, ap, sym, subst, ◌∙◌, arith}
use Rattle.net_core.specs.Moments.{Moment}
use Rattle.journals.specs.Journals.{snap}
use Rattle.journals.proofs.MomentsAfter.{length_table}
use Rattle.journals.proofs.EntriesAt.{moment_of}
use Rattle.net_core.proofs.config.Config.moment.Goals as goal

pub index-requires : goal.index-requires
index-requires c =
    let below = subst (λ (m : Moment). c.args.m < length m.net.machines) (sym c.self.view_is)
    c.requires in
    let size = ap length c.self.invariant.moments_are
    ∙ length_table (snap c.self.inside.net.now c.self.inside.journal)
    (length c.self.inside.net.now.machines) in
    omega arith

pub returns : goal.returns
returns c =
    let below = subst (λ (m : Moment). c.args.m < length m.net.machines) (sym c.self.view_is)
    c.requires in
    rw (← c.self.view_is)
    (moment_of c.self.inside.net.now c.self.inside.journal c.self.inside.tables.moments.items
    c.args.m c.index.result.now c.self.invariant.moments_are below c.index.ensures)
