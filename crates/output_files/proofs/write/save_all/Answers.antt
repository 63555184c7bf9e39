use Rattle.std.proofs.Common.{length, refl}
use Rattle.std.proofs.lemmas.Option.{slice_get_read}
use Rattle.polis_base.specs.Host.{Rose}
use Rattle.output_files.proofs.Saves.{stops_at}
use Rattle.output_files.proofs.write.save_all.Goals as goal

pub returns-in-Err-clause-stops : goal.returns-in-Err-clause-stops
returns-in-Err-clause-stops g c =
    let there = slice_get_read c.args.saves.now (length c.args.saves.now) c.loop-saving.saving-index
    c.saving-item.result refl c.loop-saving-test.true c.saving-item.is in
    stops_at (g.H.Host.files c.args.host.now) (g.H.Host.files c.loop-saving.host)
    (g.H.Host.files c.save_text.new.host)
    (g.H.Host.shown c.args.host.now) (g.H.Host.shown c.save_text.new.host) c.args.saves.now
    c.loop-saving.saving-index c.saving-item.result c.in-Err.status
    (Rose (g.H.Host.write_faults c.args.host.now) (g.H.Host.write_faults c.save_text.new.host))
    there c.loop-saving.invariant.files c.in-Err.ensures.files
    (rw (c.loop-saving.invariant.shown, c.loop-saving.invariant.write_faults) at
    c.in-Err.ensures.shown) c.in-Err.ensures.others
