use Rattle.std.proofs.Common.{length}
use Rattle.std.specs.List.{flat_map}
use Rattle.std.specs.Prelude.{codes}
use Rattle.polis_base.specs.Lines.{line}
use Rattle.polis_base.specs.Lists.{upto}
use Rattle.wave_text.specs.Waves.{env_scope, machine_scope, scope_end, scope_line}
use Rattle.wave_text.proofs.TextChains.{seven_parts}
use Rattle.wave_text.proofs.head.push_head.Goals as goal

pub returns-clause-text : goal.returns-clause-text
returns-clause-text c =
    let net = c.args.net.now in
    seven_parts c.args.into.now c.push.new.self c.push-2.new.self c.push_scope.new.into
    c.push_machines.new.into c.push_env.new.into c.push_end.new.into c.push-3.new.self
    (line (codes "$version polis wave 1 $end")) (line (codes "$timescale 1 ns $end"))
    (scope_line net.name) (flat_map (machine_scope net) (upto (length net.machines)))
    (env_scope net) scope_end (line (codes "$enddefinitions $end"))
    c.in_ok-push.ensures.ok c.in_ok-push-2.ensures.ok
    (rw c.bytes.ensures.bytes at c.in_ok-push_scope.ensures) c.in_ok-n.ensures.text
    c.in_ok-push_env.ensures c.in_ok-push_end.ensures c.in_ok-push-3.ensures.ok
