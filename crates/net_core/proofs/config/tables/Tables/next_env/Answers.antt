use Rattle.std.proofs.Common.{◌≡◌, ◌≤◌, ℕ, Bool, nat_lt, List, length, Some, slice_get, ap, sym, subst, ◌∙◌, arith}
use Rattle.std.specs.List.{IsFirstBest}
use Rattle.polis_base.specs.Lists.{head_of}
use Rattle.transition_table.specs.declared.decl.Party.TheVariants.{Env}
use Rattle.journals.specs.declared.entry.Owed.{Owed}
use Rattle.journals.specs.declared.entry.TraceItem.TheVariants.{Event, Settle}
use Rattle.journals.specs.Cursors.{cursor, settled_at}
use Rattle.net_core.proofs.OwedByEnv.{first_at_least, none_left, no_machines_read, settled_says}
use Rattle.journals.proofs.MomentsAfter.{length_table}
use Rattle.net_core.proofs.Tables.{table_item}
use Rattle.net_core.proofs.config.tables.Tables.next_env.Goals as goal
use Rattle.polis_base.proofs.Bools.{not_not}

-- the number of the cursors, and the first of the least
few : (n m : ℕ) (cursors : List ℕ) → length cursors ≡ n
    → IsFirstBest nat_lt cursors (length cursors) m → IsFirstBest nat_lt cursors n m
few n m cursors size best = subst (λ (k : ℕ). IsFirstBest nat_lt cursors k m) size best

pub returns-then-len-eq0 : goal.returns-then-len-eq0
returns-then-len-eq0 c = λ journal current.
    let none : length c.args.net.now.machines ≡ 0 = omega arith in
    sym (ap head_of
    (no_machines_read c.args.net.now c.args.trace.now journal c.sending_laws.ensures.none_at_ends
    none))

pub overflow_cast-m : goal.overflow_cast-m
overflow_cast-m c =
    let net = c.args.net.now in
    let size = ap length c.requires.1.cursors_are
    ∙ length_table (cursor net c.args.trace.now c.requires.0) (length net.machines) in
    let best = few (length net.machines) c.first-m.result c.args.self.now.cursors size
    c.first-m.ensures in
    let below = best.0 in
    let sixty_four : length net.machines ≤ 64 = net.few_machines in
    omega arith

pub first-m-requires : goal.first-m-requires
first-m-requires c =
    let size = ap length c.requires.1.cursors_are
    ∙ length_table (cursor c.args.net.now c.args.trace.now c.requires.0)
    (length c.args.net.now.machines) in
    omega arith

pub get-place-requires : goal.get-place-requires
get-place-requires c = c.first-m.ensures.0

pub returns-then-place-len : goal.returns-then-place-len
returns-then-place-len c = λ journal current.
    let net = c.args.net.now in
    let trace = c.args.trace.now in
    let m = c.first-m.result in
    let cursors = c.args.self.now.cursors in
    let size = ap length current.cursors_are
    ∙ length_table (cursor net trace journal) (length net.machines) in
    let best = few (length net.machines) m cursors size c.first-m.ensures in
    let at = table_item (cursor net trace journal) (length net.machines) cursors m
    c.get-place.result current.cursors_are best.0 c.get-place.ensures in
    let past : length trace ≤ cursor net trace journal m = omega arith in
    sym (ap head_of
    (none_left net trace journal cursors m c.sending_laws.ensures.none_at_ends current.cursors_are
    best past))

pub returns-in-Event : goal.returns-in-Event
returns-in-Event c = λ journal current.
    let net = c.args.net.now in
    let trace = c.args.trace.now in
    let m = c.first-m.result in
    let cursors = c.args.self.now.cursors in
    let e = c.in-Event.event in
    let code = c.in-Event.code in
    let b = c.is_settled.result in
    let size = ap length current.cursors_are
    ∙ length_table (cursor net trace journal) (length net.machines) in
    let best = few (length net.machines) m cursors size c.first-m.ensures in
    let at = table_item (cursor net trace journal) (length net.machines) cursors m
    c.get-place.result current.cursors_are best.0 c.get-place.ensures in
    let item = subst (λ (k : ℕ). slice_get trace k ≡ Some (Event e code)) at
    (c.get.ensures ∙ ap Some c.in-Event.is) in
    let settled = subst (λ (k : ℕ). settled_at trace k ≡ b) at
    (settled_says trace c.get-place.result b c.is_settled.ensures) in
    let first = first_at_least net trace journal cursors m e code b
    c.sending_laws.ensures.first_of_cursors current.cursors_are best item settled in
    let same = ap (λ (b : Bool). let p : Owed
    × Bool = (record { from = Env; to = m; event = e; code = code }, b) in Some p) (not_not b) in
    same ∙ sym first

pub returns-in-Settle : goal.returns-in-Settle
returns-in-Settle c = λ journal current.
    let net = c.args.net.now in
    let trace = c.args.trace.now in
    let m = c.first-m.result in
    let cursors = c.args.self.now.cursors in
    let size = ap length current.cursors_are
    ∙ length_table (cursor net trace journal) (length net.machines) in
    let best = few (length net.machines) m cursors size c.first-m.ensures in
    let at = table_item (cursor net trace journal) (length net.machines) cursors m
    c.get-place.result current.cursors_are best.0 c.get-place.ensures in
    let item = subst (λ (k : ℕ). slice_get trace k ≡ Some Settle) at
    (c.get.ensures ∙ ap Some c.in-Settle.is) in
    absurd (c.sending_laws.ensures.events_at_cursors net trace journal m item)
