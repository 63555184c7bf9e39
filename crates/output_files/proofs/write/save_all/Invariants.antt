use Rattle.output_files.proofs.Saves.{SavedSoFar}
use Rattle.output_files.proofs.write.save_all.Given as goal

-- the saves so far are made
abbrev pub invariant-loop-saving : goal.invariant-loop-saving
invariant-loop-saving g l =
    SavedSoFar l.saves l.saving-index (g.H.Host.files l.fn.host) (g.H.Host.files l.host)
    (g.H.Host.shown l.fn.host) (g.H.Host.shown l.host)
    (g.H.Host.load_faults l.fn.host) (g.H.Host.load_faults l.host) (g.H.Host.write_faults l.fn.host)
    (g.H.Host.write_faults l.host)
