use Rattle.std.proofs.Common.{◌∙◌, ap, sym, arith, length, slice_index, slice_get, ◌++◌, Some, subst}
use Rattle.std.proofs.lemmas.Option.{get_or_from_slice_get}
use Rattle.net_reader.specs.declared.raw.Word.{Word}
use Rattle.net_names.specs.Scopes.{cond_word, state_words, var_sizes}
use Rattle.net_rules.specs.Networks.{allows, bits_where}
use Rattle.net_names.specs.Numbers.{names_of, number_in}
use Rattle.net_names.specs.Vars.{IsVar}
use Rattle.net_rules.proofs.AreActions.{in_range, has_it}
use Rattle.net_rules.proofs.AllowedCodes.{vars_count, size_few}
use Rattle.net_rules.proofs.BitsWhere.{cut}
use Rattle.net_rules.proofs.MachineFacts.{sizes_fit, vars_short}
use Rattle.net_rules.proofs.row_list.cond_of.Goals as goal

pub get-requires : goal.get-requires
get-requires c =
    let raw = c.args.names.now.scope.now.raw.now in
    let m = c.args.names.now.machine.now in
    let is = c.requires.number in
    omega (
      arith,
      is,
      in_range (m.inputs ++ state_words m) (cond_word c.args.cond.now).name
          c.requires.known,
      vars_count raw m,
      ap length c.requires.vars,
    )

pub overflow_cast-result : goal.overflow_cast-result
overflow_cast-result c =
    let raw = c.args.names.now.scope.now.raw.now in
    let m = c.args.names.now.machine.now in
    let is = c.requires.number in
    omega (
      arith,
      is,
      in_range (m.inputs ++ state_words m) (cond_word c.args.cond.now).name
          c.requires.known,
      vars_short raw m c.requires.sound c.requires.kept,
      vars_count raw m,
    )

pub first-requires : goal.first-requires
first-requires c =
    let raw = c.args.names.now.scope.now.raw.now in
    let m = c.args.names.now.machine.now in
    omega (
      arith,
      c.from-size.ensures,
      size_few (var_sizes raw m) c.args.var_number c.get.result.now
          (sizes_fit raw m c.requires.sound c.requires.kept)
          (ap (λ l. slice_get l c.args.var_number) (sym c.requires.vars) ∙ c.get.ensures),
    )

pub returns : goal.returns
returns c =
    let raw = c.args.names.now.scope.now.raw.now in
    let m = c.args.names.now.machine.now in
    let q = c.args.cond.now in
    let is = c.requires.number in
    let few = size_few (var_sizes raw m) c.args.var_number c.get.result.now
    (sizes_fit raw m c.requires.sound c.requires.kept)
    (ap (λ l. slice_get l c.args.var_number) (sym c.requires.vars) ∙ c.get.ensures) in
    let size = c.from-size.result in
    let from = c.from-size.ensures in
    let is_size = c.from-size.ensures ∙ sym
    (get_or_from_slice_get c.args.vars.now c.args.var_number c.get.result.now 0
    c.get.ensures) ∙ (λ i. slice_index (c.requires.vars i) (is i)) in
    let codes =
    cut c.allowed.result c.first.result size c.both.result (allows raw m q)
    (omega (arith, few, from)) c.allowed.ensures c.first.ensures c.both.ensures
    ∙ ap (bits_where (allows raw m q)) is_size in
    λ i. record { var = is i; codes = codes i }

pub var_numbered-var-requires-clause-number : goal.var_numbered-var-requires-clause-number
var_numbered-var-requires-clause-number c =
    let m = c.args.names.now.machine.now in
    ap (λ (w : Word). number_in (names_of (m.inputs ++ state_words m)) w.name) c.cond_word.ensures
    ∙ has_it (m.inputs ++ state_words m) (cond_word c.args.cond.now).name c.requires.known
    ∙ ap Some (sym c.requires.number)

pub allowed-requires-clause-var : goal.allowed-requires-clause-var
allowed-requires-clause-var c =
    subst (λ (w : Word). IsVar c.args.names.now.scope.now.raw.now c.args.names.now.machine.now
    w.name c.var_numbered-var.result.now) c.cond_word.ensures
    c.var_numbered-var.ensures
