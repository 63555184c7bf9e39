use Rattle.std.proofs.Common.{arith}
use Rattle.polis_base.specs.Host.{Rose}
use Rattle.output_files.proofs.Saves.{save_line}
use Rattle.output_files.proofs.write.save_text.Goals as goal

pub returns-in-Failed-clause-shown : goal.returns-in-Failed-clause-shown
returns-in-Failed-clause-shown g c =
    save_line (g.H.Host.shown c.args.host.now) (g.H.Host.shown c.save.new.self)
    (g.H.Host.shown c.show_lines.new.host) c.args.saving.now.name c.line.result.now
    (Rose (g.H.Host.write_faults c.save.new.self) (g.H.Host.write_faults c.show_lines.new.host))
    (Rose (g.H.Host.write_faults c.args.host.now) (g.H.Host.write_faults c.show_lines.new.host))
    c.in-Failed.ensures.leaves.same_shown c.line.ensures
    (λ r. let a = c.in-Failed.ensures.leaves.counted.1 in
    let b = c.show_lines.ensures.write_faults in omega (arith, a, b))
    c.show_lines.ensures.shown
