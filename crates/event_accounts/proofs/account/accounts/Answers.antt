use Rattle.std.proofs.Common.{◌≡◌, ℕ, ◌<◌, List, [], ◌∷◌, ◌++◌, length, flat_map, take, get_or, set, slice_get, slice_index, Some, IfOk, sym, ap, ◌∙◌, subst, arith}
use Rattle.std.proofs.lemmas.List.{length-take-le, take_all}
use Rattle.polis_base.specs.Lists.{upto}
use Rattle.journals.specs.Moved.{machine_of}
use Rattle.event_accounts.specs.Accounts.{accounts_of}
use Rattle.event_accounts.specs.inner.Steps.{AreFew, account_after, rows_of}
use Rattle.event_accounts.specs.declared.account.Account.{Account}
use Rattle.journals.proofs.EntriesAt.{fits_at, prefix_more}
use Rattle.journals.proofs.CursorsAfter.{machine_within}
use Rattle.journals.proofs.MomentsAfter.{length_table}
use Rattle.event_accounts.proofs.InputsOf.{inputs_of_machine}
use Rattle.event_accounts.proofs.RowsOf.{has_code, joined_rows, row_at, row_few, row_many, row_more, row_of, rows_more}
use Rattle.event_accounts.proofs.account.accounts.Goals as goal

pub get-requires : goal.get-requires
get-requires c =
    let within = machine_within c.args.net.now c.get-entry.result.now
    (fits_at c.args.net.now c.args.j.now c.loop-p.p c.get-entry.result.now c.requires
    c.get-entry.ensures) in
    let same = c.machine-m.ensures in
    omega arith

pub index_mut-requires : goal.index_mut-requires
index_mut-requires c =
    let net = c.args.net.now in
    let within = machine_within net c.get-entry.result.now
    (fits_at net c.args.j.now c.loop-p.p c.get-entry.result.now c.requires c.get-entry.ensures) in
    let same = c.machine-m.ensures in
    let size = ap length c.loop-p.invariant
    ∙ length_table (row_of net (take c.loop-p.p c.args.j.now)) (length net.machines) in
    omega arith

pub count_entry-requires-clause-many : goal.count_entry-requires-clause-many
count_entry-requires-clause-many c =
    let net = c.args.net.now in
    let prefix = take c.loop-p.p c.args.j.now in
    let within = machine_within net c.get-entry.result.now
    (fits_at net c.args.j.now c.loop-p.p c.get-entry.result.now c.requires c.get-entry.ensures) in
    let below : c.machine-m.result < length net.machines = let same = c.machine-m.ensures in
    omega arith in
    ap length
    (row_at net prefix c.loop-p.rows.items c.machine-m.result c.index_mut.result.now
    c.loop-p.invariant below c.index_mut.ensures.value)
    ∙ row_many net prefix c.machine-m.result
    ∙ ap length (inputs_of_machine net c.machine-m.result c.get.result.now c.get.ensures)

pub count_entry-requires-clause-few : goal.count_entry-requires-clause-few
count_entry-requires-clause-few c = λ k d inside.
    let net = c.args.net.now in
    let prefix = take c.loop-p.p c.args.j.now in
    let within = machine_within net c.get-entry.result.now
    (fits_at net c.args.j.now c.loop-p.p c.get-entry.result.now c.requires c.get-entry.ensures) in
    let below : c.machine-m.result < length net.machines = let same = c.machine-m.ensures in
    omega arith in
    let row = row_at net prefix c.loop-p.rows.items c.machine-m.result c.index_mut.result.now
    c.loop-p.invariant below c.index_mut.ensures.value in
    let many : length prefix ≡ c.loop-p.p = length-take-le c.loop-p.p c.args.j.now
    (let end = c.len-p-end.ensures in omega arith) in
    subst (λ (r : List Account). AreFew c.loop-p.p (get_or r k d)) (sym row)
    (row_few net prefix c.machine-m.result c.loop-p.p k d many
    (subst (λ (r : List Account). k < length r) row inside))

pub count_entry-requires-clause-codes : goal.count_entry-requires-clause-codes
count_entry-requires-clause-codes c = λ i below.
    let net = c.args.net.now in
    has_code net c.get.result.now c.get-entry.result.now i
    (fits_at net c.args.j.now c.loop-p.p c.get-entry.result.now c.requires c.get-entry.ensures)
    (subst (λ (k : ℕ). slice_get net.machines k ≡ Some c.get.result.now) c.machine-m.ensures
    c.get.ensures) below

pub loop-p-preserved : goal.loop-p-preserved
loop-p-preserved c =
    let net = c.args.net.now in
    let j = c.args.j.now in
    let p = c.loop-p.p in
    let prefix = take p j in
    let entry = c.get-entry.result.now in
    let m = c.machine-m.result in
    let machine = c.get.result.now in
    let old : List Account = c.index_mut.result.now in
    let new : List Account = c.count_entry.new.row in
    let own = c.machine-m.ensures in
    let fits = fits_at net j p entry c.requires c.get-entry.ensures in
    let below : m < length net.machines = let within = machine_within net entry fits in
    omega arith in
    let there = subst (λ (k : ℕ). slice_get net.machines k ≡ Some machine) own c.get.ensures in
    let many : length prefix ≡ p = length-take-le p j
    (let end = c.len-p-end.ensures in omega arith) in
    let row : old ≡ row_of net prefix (machine_of entry) =
    row_at net prefix c.loop-p.rows.items m old c.loop-p.invariant below c.index_mut.ensures.value
    ∙ ap (row_of net prefix) own in
    let inputs = inputs_of_machine net (machine_of entry) machine there in
    let made : new ≡ row_of net (prefix ++ entry ∷ []) (machine_of entry) =
    row_more net prefix entry p new fits many
    (c.count_entry.ensures.many ∙ ap length row)
    (λ i a at.
    subst (λ (l : List ℕ). slice_get new i ≡ Some (account_after p i (slice_index l i) entry a))
    (sym inputs)
    (c.count_entry.ensures.each i a
    (subst (λ (r : List Account). slice_get r i ≡ Some a) (sym row) at))) in
    ap (λ (l : List (List Account)). set l m new) c.loop-p.invariant
    ∙ ap (λ (k : ℕ). set (rows_of net prefix) k new) own
    ∙ rows_more net prefix entry new fits made
    ∙ ap (rows_of net) (sym (prefix_more j p entry c.get-entry.ensures))

pub returns : goal.returns
returns c =
    let net = c.args.net.now in
    let j = c.args.j.now in
    let whole : take c.loop-p.p j ≡ j = take_all c.loop-p.p j
    (let end = c.len-p-end.ensures in omega arith) in
    let rows = c.deref.ensures.value ∙ c.loop-p.invariant ∙ ap (rows_of net) whole in
    let all : flat_map (λ (row : List Account). row) c.deref.result.now ≡ accounts_of net j =
    ap (flat_map (λ (row : List Account). row)) rows
    ∙ joined_rows net j (upto (length net.machines)) in
    subst (λ (l : List Account). IfOk c.all_accounts.result (λ accounts. accounts ≡ l)) all
    c.all_accounts.ensures
