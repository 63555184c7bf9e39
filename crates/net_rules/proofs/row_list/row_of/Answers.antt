use Rattle.std.proofs.Common.{◌∙◌, ◌++◌, ap, sym, slice_get, map}
use Rattle.net_reader.specs.declared.raw.RawCond.{RawCond}
use Rattle.net_names.specs.Places.{unless}
use Rattle.net_names.specs.Numbers.{is_name_of}
use Rattle.net_names.specs.Scopes.{state_words, cond_word}
use Rattle.net_rules.specs.Networks.{act_of}
use Rattle.transition_table.specs.RowFacts.{are_actions}
use Rattle.net_rules.proofs.AreActions.{actions_kept}
use Rattle.net_rules.proofs.Amounts.{amount_small}
use Rattle.net_rules.proofs.HasReceivers.{holds}
use Rattle.net_rules.proofs.Counts.{each_nil}
use Rattle.net_rules.proofs.row_list.row_of.Goals as goal

pub conds_of-requires-clause-known : goal.conds_of-requires-clause-known
conds_of-requires-clause-known c = λ i x at.
    let m = c.args.names.now.machine.now in
    holds (is_name_of (m.inputs ++ state_words m) (cond_word x).name) (cond_word x).at
    (each_nil (λ (q : RawCond). unless (is_name_of (m.inputs ++ state_words m) (cond_word q).name)
    (cond_word q).at) c.args.row.now.conds c.requires.row.known i x
    (ap (λ l. slice_get l i) (sym c.as_slice.ensures) ∙ at))

pub invariant_of-result : goal.invariant_of-result
invariant_of-result c =
    let raw = c.args.names.now.scope.now.raw.now in
    let m = c.args.names.now.machine.now in
    record {
      actions = ap are_actions (c.in_ok-acts.ensures
          ∙ ap (map (act_of raw m)) c.as_slice-2.ensures)
          ∙ actions_kept raw m c.args.row.now.acts c.requires.row.targets;
    }

pub acts_of-requires-clause-small : goal.acts_of-requires-clause-small
acts_of-requires-clause-small c = λ i x at.
    let raw = c.args.names.now.scope.now.raw.now in
    let m = c.args.names.now.machine.now in
    amount_small raw c.requires.sound m c.args.row.now x c.requires.kept
    (c.requires.row.acts i x (ap (λ l. slice_get l i) (sym c.as_slice-2.ensures) ∙ at))
