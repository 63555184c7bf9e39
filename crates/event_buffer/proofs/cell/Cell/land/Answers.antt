use Rattle.std.proofs.Common.{◌≡◌, ◌≤◌, ◌+◌, ◌++◌, ◌∷◌, [], ℕ, List, length, take, Option, sym, ap, subst, refl, ◌∙◌, arith}
use Rattle.std.proofs.Math.Seq.{take-append_seam}
use Rattle.std.proofs.lemmas.List.{length_push}
use Rattle.journals.specs.declared.stamped.Stamped.{Stamped}
use Rattle.journals.specs.Alone.{LegalAlone}
use Rattle.journals.specs.Journals.{snap}
use Rattle.journals.specs.Logs.{entries, max_stamp, stamped}
use Rattle.worker_core.specs.Cores.{delivering}
use Rattle.event_buffer.specs.declared.pending.Pending.{Pending}
use Rattle.event_buffer.specs.Arrivals.{owed_of}
use Rattle.event_buffer.specs.Cells.{before, filled, IsCell}
use Rattle.event_buffer.proofs.LandingKeepsCell.{full, not_full, may_land_in, landed_frozen, landed_thawed, landed_view, landed_firing, moved_view}
use Rattle.event_buffer.proofs.cell.Cell.land.Goals as goal

pub catch_up-requires-clause-legal : goal.catch_up-requires-clause-legal
catch_up-requires-clause-legal c =
    let i = c.self.inside in
    let a = c.args.a.now in
    let latest = c.latest-latest.result in
    let old = filled i.net.now i.machine i.moment i.pending i.log in
    let x = stamped (latest + 1) (delivering (owed_of a)) in
    let next =
    may_land_in i.net.now i.machine i.moment i.busy i.pending i.log a latest c.args.self.now
    c.self.view_is c.requires.arrival c.requires.receiver c.latest-latest.ensures.is
    (omega arith) in
    let legal =
    (c.laws.ensures.alone_steps i.net.now i.machine old x).1 (c.self.invariant.0.legal, next) in
    subst (LegalAlone i.net.now i.machine)
    (ap (λ (o : Option Pending). filled i.net.now i.machine i.moment o i.log ++ x ∷ []) c.in-None.is
    ∙ sym c.in-Ok.ensures.ok) legal

pub invariant_of-self-in-None : goal.invariant_of-self-in-None
invariant_of-self-in-None c =
    let i = c.self.inside in
    let a = c.args.a.now in
    let latest = c.latest-latest.result in
    let next =
    may_land_in i.net.now i.machine i.moment i.busy i.pending i.log a latest c.args.self.now
    c.self.view_is c.requires.arrival c.requires.receiver c.latest-latest.ensures.is
    (omega arith) in (
      landed_thawed _ _ _ _ _ _ _ _ _ (stamped (latest + 1) (delivering (owed_of a)))
          c.laws.ensures.alone_steps c.moving_laws.ensures.moves_waking c.self.invariant.0 next
          refl c.in-Ok.ensures.ok c.in-None.is c.catch_up.ensures,
      c.self.invariant.1,
    )

pub invariant_of-self-in-Some : goal.invariant_of-self-in-Some
invariant_of-self-in-Some c =
    let i = c.self.inside in
    let a = c.args.a.now in
    let latest = c.latest-latest.result in
    let next =
    may_land_in i.net.now i.machine i.moment i.busy i.pending i.log a latest c.args.self.now
    c.self.view_is c.requires.arrival c.requires.receiver c.latest-latest.ensures.is
    (omega arith) in (
      landed_frozen _ _ _ _ _ _ _ _ (stamped (latest + 1) (delivering (owed_of a))) _
          c.laws.ensures.alone_steps c.moving_laws.ensures.moves_waking c.self.invariant.0 next
          refl c.in-Ok.ensures.ok c.in-Some.is,
      c.self.invariant.1,
    )

pub returns-in-None-clause-lands : goal.returns-in-None-clause-lands
returns-in-None-clause-lands c =
    let i = c.self.inside in
    moved_view i.net.now i.machine i.moment c.catch_up.new.moment i.busy i.pending c.push.new.self
    c.in-None.is
    ∙ landed_view _ _ _ _ _ _ _ _ _ c.args.a.now _ _ c.self.invariant.0 c.self.view_is
    c.latest-latest.ensures.is c.in-Ok.ensures.ok

pub returns-in-None-clause-firing : goal.returns-in-None-clause-firing
returns-in-None-clause-firing c =
    let i = c.self.inside in
    landed_firing i.net.now i.machine c.catch_up.new.moment i.busy i.pending c.push.new.self
    c.args.a.now c.args.self.now (returns-in-None-clause-lands c)

pub returns-in-Some-clause-lands : goal.returns-in-Some-clause-lands
returns-in-Some-clause-lands c =
    landed_view _ _ _ _ _ _ _ _ _ c.args.a.now _ _ c.self.invariant.0 c.self.view_is
    c.latest-latest.ensures.is c.in-Ok.ensures.ok

pub returns-in-Some-clause-firing : goal.returns-in-Some-clause-firing
returns-in-Some-clause-firing c =
    let i = c.self.inside in
    landed_firing i.net.now i.machine i.moment i.busy i.pending c.push.new.self c.args.a.now
    c.args.self.now (returns-in-Some-clause-lands c)

pub catch_up-requires-clause-exists : goal.catch_up-requires-clause-exists
catch_up-requires-clause-exists c = c.self.invariant.0.exists

up_to : (log more : List Stamped) (x : Stamped) (n : ℕ) → n ≡ length log → more ≡ log ++ x ∷ []
    → n ≤ length more
up_to log more x n end is =
    let long = ap (λ (l : List Stamped). length l) is ∙ length_push log x in omega arith

pub catch_up-requires-clause-from : goal.catch_up-requires-clause-from
catch_up-requires-clause-from c =
    up_to c.self.inside.log c.push.new.self _ c.len-before.result c.len-before.ensures
    c.in-Ok.ensures.ok

old_log : (log more : List Stamped) (x : Stamped) (n : ℕ) → n ≡ length log → more ≡ log ++ x ∷ []
    → take n more ≡ log
old_log log more x n end is =
    ap (λ (k : ℕ). take k more) end ∙ ap (take (length log)) is ∙ take-append_seam log (x ∷ [])

pub catch_up-requires-clause-moment : goal.catch_up-requires-clause-moment
catch_up-requires-clause-moment c =
    let i = c.self.inside in
    c.self.invariant.0.moment_is
    ∙ ap (λ (o : Option Pending). snap i.net.now (entries (before o i.log)) i.machine) c.in-None.is
    ∙ ap (λ (l : List Stamped). snap i.net.now (entries l) i.machine)
    (sym
    (old_log i.log c.push.new.self _ c.len-before.result c.len-before.ensures c.in-Ok.ensures.ok))

pub returns-in-None-clause-stamp : goal.returns-in-None-clause-stamp
returns-in-None-clause-stamp c = ap (λ (n : ℕ). n + 1) c.latest-latest.ensures.is

pub returns-in-Some-clause-stamp : goal.returns-in-Some-clause-stamp
returns-in-Some-clause-stamp c = ap (λ (n : ℕ). n + 1) c.latest-latest.ensures.is

pub returns-then-latest-ge-MAX_STAMP-clause-full : goal.returns-then-latest-ge-MAX_STAMP-clause-full
returns-then-latest-ge-MAX_STAMP-clause-full c = (
  λ e.
      full c.latest-latest.result _ max_stamp c.latest-latest.ensures.is
      c.latest-latest.ensures.small c.if-latest-ge-MAX_STAMP.true,
  λ e. refl,
)

pub returns-in-Err-clause-full : goal.returns-in-Err-clause-full
returns-in-Err-clause-full c = (
  λ e. absurd cc,
  λ e.
      absurd
      (not_full c.latest-latest.result _ max_stamp c.latest-latest.ensures.is
      c.if-latest-ge-MAX_STAMP.false e),
)

pub returns-in-None-clause-full : goal.returns-in-None-clause-full
returns-in-None-clause-full c = (
  λ e. absurd cc,
  λ e.
      absurd
      (not_full c.latest-latest.result _ max_stamp c.latest-latest.ensures.is
      c.if-latest-ge-MAX_STAMP.false e),
)

pub returns-in-Some-clause-full : goal.returns-in-Some-clause-full
returns-in-Some-clause-full c = (
  λ e. absurd cc,
  λ e.
      absurd
      (not_full c.latest-latest.result _ max_stamp c.latest-latest.ensures.is
      c.if-latest-ge-MAX_STAMP.false e),
)

pub invariant_of-self : goal.invariant_of-self
invariant_of-self c =
    let i = c.self.inside in (
      subst
          (λ (l : List Stamped).
          IsCell i.net.now i.machine i.moment i.woken i.time i.pending l)
          (sym c.in-Err.ensures.err) c.self.invariant.0,
      c.self.invariant.1,
    )
