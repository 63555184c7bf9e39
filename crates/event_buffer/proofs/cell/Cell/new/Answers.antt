use Rattle.std.proofs.Common.{List, None, false, subst, sym, refl}
use Rattle.journals.specs.declared.stamped.Stamped.{Stamped}
use Rattle.event_buffer.specs.Cells.{IsCell}
use Rattle.event_buffer.proofs.cell.Cell.new.Goals as goal

pub invariant_of-result : goal.invariant_of-result
invariant_of-result c =
    let net = c.args.net.now in
    let m = c.args.machine in (
      subst (λ (log : List Stamped). IsCell net m c.in_ok-moment.moment false 0 None log)
          (sym c.new.ensures)
          (record {
            exists = c.requires.machine;
            deterministic = c.requires.deterministic;
            legal = record { rising = refl; fitting = tt; own = refl; reacting = tt };
            moment_is =
                c.moving_laws.ensures.first_moment net m c.get.result.now c.in_ok-moment.moment
                c.get.ensures c.in_ok-moment.ensures;
            woken_is = refl;
            time_is = refl;
            pending_is = tt;
            last_is = tt;
          }),
      c.in_ok-spare.ensures.widths,
    )
