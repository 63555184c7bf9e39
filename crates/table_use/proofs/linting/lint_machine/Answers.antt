use Rattle.std.proofs.Common.{◌≡◌, ◌∙◌, true, nat_lt, ap, sym, subst}
use Rattle.polis_base.specs.declared.limits.TheConstants.{SIFTED_SNAPSHOTS_MAX}
use Rattle.table_use.specs.Lint.{lint_of}
use Rattle.table_use.specs.LintLines.{are_snapshots}
use Rattle.table_use.specs.declared.finding.MachineLint.{MachineLint}
use Rattle.table_use.proofs.Named.{snapshots_of_lint}
use Rattle.table_use.proofs.Turning.{ignored_states}
use Rattle.table_use.proofs.linting.lint_machine.Goals.{After-lists_from}
use Rattle.table_use.proofs.linting.lint_machine.Goals as goal

-- what was made
abbrev made : After-lists_from → MachineLint
made c = record {
  seen = c.seen_count.result;
  fire = c.in_ok-fire.field-0.fire;
  jam = c.in_ok-fire.field-0.jam;
  rows = c.in_ok-rows.field-0.rows;
  inputs = c.of.result;
  states = c.in_ok-fire.field-0.states;
  outputs = c.in_ok-rows.field-0.outputs;
  large = nat_lt SIFTED_SNAPSHOTS_MAX c.lists_from.result;
}

is : (c : After-lists_from) → made c ≡ lint_of c.args.machine.now
is c =
    let m = c.args.machine.now in
    let walked = c.in_ok-fire.ensures in
    let large = ap (nat_lt SIFTED_SNAPSHOTS_MAX) c.lists_from.ensures in
    let inputs = c.of.ensures ∙ walked.inputs in
    let states = walked.states ∙ ignored_states m in
    λ i. record {
      seen = c.seen_count.ensures i;
      fire = walked.fire i;
      jam = walked.jam i;
      rows = c.in_ok-rows.ensures.rows i;
      inputs = inputs i;
      states = states i;
      outputs = c.in_ok-rows.ensures.outputs i;
      large = large i;
    }

pub returns-clause-is : goal.returns-clause-is
returns-clause-is c = is (goal.at.returns-clause-is c).After-lists_from

pub returns-clause-snapshots : goal.returns-clause-snapshots
returns-clause-snapshots c =
    let m = c.args.machine.now in
    subst (λ (x : MachineLint). are_snapshots m x ≡ true)
    (sym (is (goal.at.returns-clause-snapshots c).After-lists_from)) (snapshots_of_lint m)
