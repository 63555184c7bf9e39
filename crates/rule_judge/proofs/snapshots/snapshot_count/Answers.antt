use Rattle.std.proofs.Common.{◌∙◌, ◌*◌, ap, min, map}
use Rattle.domains.specs.Tables.{product}
use Rattle.net_names.specs.Scopes.{event_codes, state_codes}
use Rattle.rule_judge.proofs.CappedProducts.{product_capped}
use Rattle.rule_judge.proofs.snapshots.snapshot_count.Goals as goal

pub returns : goal.returns
returns c =
    let raw = c.args.scope.now.raw.now in
    let m = c.args.machine.now in
    c.times_states.ensures
    ∙ ap (λ l. min 65537 (c.times_inputs-count.result * product (map (state_codes raw) l)))
    c.as_slice-2.ensures
    ∙ product_capped 65537 c.times_inputs-count.result (map (event_codes raw) m.inputs)
    (map (state_codes raw) m.states)
    (c.times_inputs-count.ensures ∙ ap (λ l. min 65537 (1 * product (map (event_codes raw) l)))
    c.as_slice.ensures)
