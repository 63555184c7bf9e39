use Rattle.std.proofs.Common.{◌≡◌, ◌<◌, length, ap, sym, subst, ◌∙◌, arith}
use Rattle.journals.specs.Cursors.{cursor}
use Rattle.journals.proofs.MomentsAfter.{length_table}
use Rattle.net_core.specs.Moments.{Moment}
use Rattle.net_core.proofs.Tables.{table_item}
use Rattle.net_core.proofs.config.Config.place.Goals as goal

pub get-requires : goal.get-requires
get-requires c =
    let below = subst (λ (m : Moment). c.args.m < length m.net.machines) (sym c.self.view_is)
    c.requires in
    let size = ap length c.self.invariant.cursors_are
    ∙ length_table
    (cursor c.self.inside.net.now c.self.inside.trace.now c.self.inside.journal)
    (length c.self.inside.net.now.machines) in
    omega arith

pub returns-clause-place : goal.returns-clause-place
returns-clause-place c =
    let below = subst (λ (m : Moment). c.args.m < length m.net.machines) (sym c.self.view_is)
    c.requires in
    subst (λ (m : Moment). c.get.result ≡ cursor m.net m.trace m.journal c.args.m) c.self.view_is
    (table_item (cursor c.self.inside.net.now c.self.inside.trace.now c.self.inside.journal)
    (length c.self.inside.net.now.machines) c.self.inside.tables.cursors c.args.m c.get.result
    c.self.invariant.cursors_are below c.get.ensures)
