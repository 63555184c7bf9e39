use Rattle.std.proofs.Common.{ap, sym, ◌∙◌, length}
use Rattle.transition_table.specs.declared.snapshot.Snapshot.{Snapshot}
use Rattle.journals.proofs.MomentsAfter.{length_snap}
use Rattle.net_core.proofs.config.Config.snapshot.Goals as goal

pub copy_from-requires : goal.copy_from-requires
copy_from-requires c =
    let before = c.args.self.now in
    c.requires.width
    ∙ sym (ap (λ (s : Snapshot). length s.codes) c.moment.ensures
    ∙ length_snap before.net before.journal c.args.m)

pub returns : goal.returns
returns c = let same = c.copy_from.ensures ∙ ap (λ (s : Snapshot). s.codes) c.moment.ensures in
    λ i. record { codes = same i }
