use Rattle.std.proofs.Common.{ℕ, nat_le, sym, ap, ◌∙◌}
use Rattle.transition_table.proofs.Rows.{machine_sizes}
use Rattle.table_use.proofs.ByNumber.{seen_by_number}
use Rattle.table_use.proofs.lookup.sees_at.Goals as goal

pub returns : goal.returns
returns c =
    let lookup = c.args.lookup.now in
    let m = lookup.machine.now in
    λ s fit number.
    ap (λ (n : ℕ). nat_le n c.args.n) lookup.are_idle
    ∙ ap (nat_le _) (sym number)
    ∙ seen_by_number m s (machine_sizes m) fit
