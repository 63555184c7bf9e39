-- What is kept as a delivery lands.
use Rattle.std.specs.Prelude.{◌≡◌, ℕ, ◌+◌, ◌<◌, ◌≤◌, max, Bool, true, cond, ◌&&◌, ◌==◌, nat_lt, nat_le, List, [], ◌∷◌, ◌++◌, take, length, Option, Some, None}
use Rattle.std.proofs.Common.{refl, sym, ap, ◌∙◌, subst, arith}
use Rattle.std.proofs.lemmas.Bool.{eq-eqb, and_parts, and_from}
use Rattle.transition_table.specs.declared.network.Network.{Network}
use Rattle.transition_table.specs.declared.snapshot.Snapshot.{Snapshot}
use Rattle.journals.specs.declared.stamped.Stamped.{Stamped}
use Rattle.journals.specs.Alone.{LegalAlone, MayAppend}
use Rattle.journals.specs.Journals.{is_party, is_event_code, reads, is_woken, snap}
use Rattle.journals.specs.Laws.{AloneBySteps, MovesWaking}
use Rattle.journals.specs.Logs.{clock, entries, max_stamp, stamped}
use Rattle.journals.specs.Moved.{machine_of, is_dep}
use Rattle.worker_core.specs.Cores.{delivering, landing}
use Rattle.event_buffer.specs.declared.arrival.Arrival.{Arrival}
use Rattle.event_buffer.specs.declared.pending.Pending.{Pending}
use Rattle.event_buffer.specs.Arrivals.{is_arrival, owed_of}
use Rattle.event_buffer.specs.Cells.{CellState, taking, firing_stamp, before, decided, filled, frozen_of, shown, IsLast, IsPending, IsCell}
use Rattle.event_buffer.proofs.LastReaction.{last_stays, same_firing}
use Rattle.event_buffer.proofs.Lists.{set_within, take_within}
use Rattle.event_buffer.proofs.LegalLogs.{clock_more, own_machine}
use Rattle.journals.proofs.StampSteps.{entries_more}

-- it may come after the log
pub may_land :
    (net : Network) (m : ℕ) (log : List Stamped) (a : Arrival) (latest : ℕ)
    → is_arrival net a ≡ true
    → a.to ≡ m
    → clock log ≤ latest
    → latest < max_stamp
    → MayAppend net m log (stamped (latest + 1) (delivering (owed_of a)))
may_land net m log a latest h to below room =
    let party = is_party net a.from in
    let there = nat_lt a.to (length net.machines) in
    let code = is_event_code net a.event a.code in
    let read = reads net a.to a.event in
    let all = and_parts (party && there && code && read) (nat_le a.stamp max_stamp) h in
    let parts = and_parts (party && there && code) read all.0 in
    record {
      rises = omega arith;
      small = omega arith;
      fits = parts.0;
      own =
          and_from (a.to == m) (reads net m a.event) (eq-eqb a.to m to)
          (subst (λ (k : ℕ). reads net k a.event ≡ true) to parts.1);
      reacts = tt;
    }

pub filled_more :
    (net : Network) (m : ℕ) (moment : Snapshot) (pending : Option Pending) (log : List Stamped)
    (x : Stamped)
    → IsPending pending log
    → filled net m moment pending (log ++ x ∷ []) ≡ filled net m moment pending log ++ x ∷ []
filled_more net m moment None log x h = refl
filled_more net m moment (Some p) log x h = set_within log p.place x (decided net m moment p) h

pub landed_view :
    (net : Network) (m : ℕ) (moment : Snapshot) (woken : Bool) (time : ℕ) (busy : Bool)
    (pending : Option Pending) (log more : List Stamped) (a : Arrival) (latest : ℕ)
    (c : CellState)
    → IsCell net m moment woken time pending log
    → shown net m moment busy pending log ≡ c
    → latest ≡ max (clock c.log) a.stamp
    → more ≡ log ++ stamped (latest + 1) (delivering (owed_of a)) ∷ []
    → shown net m moment busy pending more ≡ taking c a
landed_view net m moment woken time busy pending log more a latest c kept view is added =
    let x : Stamped = stamped (latest + 1) (delivering (owed_of a)) in
    let whole : filled net m moment pending more ≡ c.log ++ landing c.log a.stamp (owed_of a) ∷ [] =
    ap (filled net m moment pending) added
    ∙ filled_more net m moment pending log x kept.pending_is
    ∙ ap (λ (s : CellState). s.log ++ x ∷ []) view
    ∙ ap (λ (n : ℕ). c.log ++ stamped (n + 1) (delivering (owed_of a)) ∷ []) is in
    λ i. record {
      net = (ap (λ (s : CellState). s.net) view) i;
      machine = (ap (λ (s : CellState). s.machine) view) i;
      log = whole i;
      busy = (ap (λ (s : CellState). s.busy) view) i;
      frozen = (ap (λ (s : CellState). s.frozen) view) i;
    }

-- the last firing is the same
pub landed_firing :
    (net : Network) (m : ℕ) (moment : Snapshot) (busy : Bool) (pending : Option Pending)
    (more : List Stamped) (a : Arrival) (c : CellState)
    → shown net m moment busy pending more ≡ taking c a
    → firing_stamp m (filled net m moment pending more) ≡ firing_stamp c.machine c.log
landed_firing net m moment busy pending more a c view =
    ap (λ (s : CellState). firing_stamp s.machine s.log) view
    ∙ same_firing c.machine c.log (landing c.log a.stamp (owed_of a)) refl

-- what lands in a cell may come after its log
pub may_land_in :
    (net : Network) (m : ℕ) (moment : Snapshot) (busy : Bool) (pending : Option Pending)
    (log : List Stamped) (a : Arrival) (latest : ℕ) (c : CellState)
    → shown net m moment busy pending log ≡ c
    → is_arrival c.net a ≡ true
    → a.to ≡ c.machine
    → latest ≡ max (clock c.log) a.stamp
    → latest < max_stamp
    → MayAppend net m (filled net m moment pending log)
    (stamped (latest + 1) (delivering (owed_of a)))
may_land_in net m moment busy pending log a latest c view arrives to is room =
    let same = ap (λ (s : CellState). clock s.log) view in
    may_land net m (filled net m moment pending log) a latest
    (subst (λ (s : CellState). is_arrival s.net a ≡ true) (sym view) arrives)
    (to ∙ sym (ap (λ (s : CellState). s.machine) view))
    (omega arith)
    room

landed_kept :
    (net : Network) (m : ℕ) (moment after : Snapshot) (woken : Bool) (time : ℕ)
    (pending : Option Pending) (log more : List Stamped) (x : Stamped)
    → AloneBySteps
    → MovesWaking
    → IsCell net m moment woken time pending log
    → MayAppend net m (filled net m moment pending log) x
    → is_dep x.entry ≡ true
    → filled net m after pending more ≡ filled net m moment pending log ++ x ∷ []
    → frozen_of after pending ≡ frozen_of moment pending
    → after ≡ snap net (entries (before pending more)) m
    → IsPending pending more
    → IsCell net m after true x.stamp pending more
landed_kept net m moment after woken time pending log more x steps waking kept next dep whole frozen
    moment_is pending_is =
    let old : List Stamped = filled net m moment pending log in
    let own = own_machine net m x.entry next.own in
    record {
      exists = kept.exists;
      deterministic = kept.deterministic;
      legal = subst (LegalAlone net m) (sym whole) ((steps net m old x).1 (kept.legal, next));
      moment_is = moment_is;
      woken_is =
          sym
          (ap (λ (l : List Stamped). is_woken (entries l) m) whole
          ∙ ap (λ j. is_woken j m) (entries_more old x)
          ∙ waking (entries old) x.entry m
          ∙ ap (λ b. cond b (is_dep x.entry) (is_woken (entries old) m))
          (eq-eqb (machine_of x.entry) m own)
          ∙ dep);
      time_is = sym (ap clock whole ∙ clock_more old x);
      pending_is = pending_is;
      last_is =
          subst (λ f. IsLast net m f (filled net m after pending more)) (sym frozen)
          (subst (IsLast net m (frozen_of moment pending)) (sym whole)
          (last_stays net m (frozen_of moment pending) old x dep kept.last_is));
    }

-- ---- beside a pending reaction

landed_beside :
    (pending : Option Pending) (log more : List Stamped) (x : Stamped) (p : Pending)
    → IsPending pending log
    → more ≡ log ++ x ∷ []
    → pending ≡ Some p
    → (before pending more ≡ before pending log) × IsPending pending more
landed_beside None log more x p h is some = absurd cc
landed_beside (Some q) log more x p h is some = (
  ap (λ (l : List Stamped). take q.place l) is ∙ take_within log q.place x (omega arith),
  (let size = ap (λ (l : List Stamped). length l) is ∙ long log x in omega arith),
)
  where
    long : (xs : List Stamped) (y : Stamped) → length (xs ++ y ∷ []) ≡ length xs + 1
    long [] y = refl
    long (z ∷ xs) y = let rest = long xs y in omega arith

pub landed_frozen :
    (net : Network) (m : ℕ) (moment : Snapshot) (woken : Bool) (time : ℕ)
    (pending : Option Pending) (log more : List Stamped) (x : Stamped) (p : Pending)
    → AloneBySteps
    → MovesWaking
    → IsCell net m moment woken time pending log
    → MayAppend net m (filled net m moment pending log) x
    → is_dep x.entry ≡ true
    → more ≡ log ++ x ∷ []
    → pending ≡ Some p
    → IsCell net m moment true x.stamp pending more
landed_frozen net m moment woken time pending log more x p steps waking kept next dep is some =
    let beside = landed_beside pending log more x p kept.pending_is is some in
    landed_kept net m moment moment woken time pending log more x steps waking kept next dep
    (ap (filled net m moment pending) is ∙ filled_more net m moment pending log x kept.pending_is)
    refl
    (kept.moment_is ∙ ap (λ (l : List Stamped). snap net (entries l) m) (sym beside.0))
    beside.1

-- ---- and where none is

-- the moment is in no place then
pub moved_view :
    (net : Network) (m : ℕ) (moment after : Snapshot) (busy : Bool) (pending : Option Pending)
    (log : List Stamped)
    → pending ≡ None
    → shown net m after busy pending log ≡ shown net m moment busy pending log
moved_view net m moment after busy None log none = refl
moved_view net m moment after busy (Some p) log none = absurd cc

pub landed_thawed :
    (net : Network) (m : ℕ) (moment after : Snapshot) (woken : Bool) (time : ℕ)
    (pending : Option Pending) (log more : List Stamped) (x : Stamped)
    → AloneBySteps
    → MovesWaking
    → IsCell net m moment woken time pending log
    → MayAppend net m (filled net m moment pending log) x
    → is_dep x.entry ≡ true
    → more ≡ log ++ x ∷ []
    → pending ≡ None
    → after ≡ snap net (entries more) m
    → IsCell net m after true x.stamp pending more
landed_thawed net m moment after woken time pending log more x steps waking kept next dep is none
    moment_is =
    let same = moved_view net m moment after true pending more none in
    landed_kept net m moment after woken time pending log more x steps waking kept next dep
    (ap (λ (s : CellState). s.log) same
    ∙ ap (filled net m moment pending) is
    ∙ filled_more net m moment pending log x kept.pending_is)
    (ap (λ (s : CellState). s.frozen) same)
    (moment_is
    ∙ ap (λ (o : Option Pending). snap net (entries (before o more)) m) (sym none))
    (subst (λ (o : Option Pending). IsPending o more) (sym none) tt)

-- the clock isn't full, where the later stamp is below the greatest
pub not_full : (latest later most : ℕ) → latest ≡ later → latest < most → later ≡ most → ⊥
not_full latest later most is below full = omega arith

pub full : (latest later most : ℕ) → latest ≡ later → latest ≤ most → most ≤ latest → later ≡ most
full latest later most is small high = omega arith
