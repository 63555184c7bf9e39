use Rattle.std.proofs.Common.{List, [], ◌∷◌, ◌++◌, ◌≡◌, map, ap, sym, ◌∙◌, replicate, length, Option, unwrap_or, option_map}
use Rattle.polis_base.specs.Lists.{upto}
use Rattle.transition_table.specs.declared.machine.Machine.{Machine}
use Rattle.journals.specs.Journals.{inputs_of}
use Rattle.event_accounts.specs.declared.account.Account.{Account}
use Rattle.event_accounts.proofs.RowsOf.{first_row, row_of}
use Rattle.event_accounts.proofs.account.first_rows.Goals as goal
use Rattle.polis_base.proofs.UptoPlaces.{map_upto}

pub loop-m-preserved : goal.loop-m-preserved
loop-m-preserved c =
    let net = c.args.net.now in
    let inputs : inputs_of net c.loop-m.m ≡ c.get.result.now.inputs =
    ap (λ (o : Option Machine). unwrap_or (option_map (λ machine. machine.inputs) o) [])
    c.get.ensures in
    let none = c.untouched.result in
    let row : c.in_ok-filled.field-0 ≡ row_of net [] c.loop-m.m =
    c.in_ok-filled.ensures
    ∙ ap (λ n. replicate n none) (c.len-inputs.ensures ∙ ap length (sym inputs))
    ∙ first_row c.loop-m.m 0 (inputs_of net c.loop-m.m) none c.untouched.ensures in
    c.in_ok-push.ensures.items
    ∙ ap (λ (l : List (List Account)). l ++ c.in_ok-filled.field-0 ∷ []) c.loop-m.invariant
    ∙ ap (λ (r : List Account). map (row_of net []) (upto c.loop-m.m) ++ r ∷ []) row
    ∙ sym (map_upto (row_of net []) c.loop-m.m)
