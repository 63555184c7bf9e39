-- What the scheduler picks, and the journals that follow its picks.
use Rattle.std.specs.Prelude.{◌≡◌, ◌⊎◌, ℕ, ◌<◌, Bool, true, false, cond, ◌&&◌, ◌==◌, nat_lt, List, [], ◌∷◌, ◌++◌, map, filter, flat_map, count_by, length, take, drop, slice_get, Option, Some, None, option_map, unwrap_or, ⊤}
use Rattle.polis_base.specs.Lists.{upto, head_of}
use Rattle.transition_table.specs.Transitions.{OfMachine, Transition}
use Rattle.transition_table.specs.declared.decl.Party.{Party}
use Rattle.transition_table.specs.declared.decl.Party.TheVariants.{Env, Machine as Sender}
use Rattle.transition_table.specs.declared.network.Network.{Network}
use Rattle.transition_table.specs.declared.snapshot.Outcome.{Outcome}
use Rattle.journals.specs.declared.entry.Entry.{Entry}
use Rattle.journals.specs.declared.entry.Entry.TheVariants.{Dep, Rea}
use Rattle.journals.specs.declared.entry.TraceItem.{TraceItem}
use Rattle.journals.specs.declared.entry.TraceItem.TheVariants.{Event, Settle}
use Rattle.journals.specs.declared.entry.Owed.{Owed}
use Rattle.journals.specs.declared.entry.Pick.{Pick}
use Rattle.journals.specs.declared.entry.Pick.TheVariants.{Deliver, React, Stop}
use Rattle.journals.specs.Journals.{same_party, is_woken, snap, emissions, delivered}

abbrev pub receivers_of : Network → ℕ → List ℕ
receivers_of net e = unwrap_or (option_map (λ event. event.receivers) (slice_get net.events e)) []

-- an event with its code to each receiver, in order of the receivers' numbers
abbrev pub deliveries_of : Network → Party → ℕ × ℕ → List Owed
deliveries_of net s (e, code) =
    map (λ m. record { from = s; to = m; event = e; code = code }) (receivers_of net e)

abbrev pub firing_deliveries : Network → Entry → List Owed
firing_deliveries net (Dep s m event code) = []
firing_deliveries net (Rea m s o) =
    flat_map (deliveries_of net (Sender m)) (emissions net (Rea m s o))

-- the deliveries that the firings give, by firing, then by output, then by receiver
abbrev pub machine_deliveries : Network → List Entry → List Owed
machine_deliveries net journal = flat_map (firing_deliveries net) journal

-- what an item of the trace gives: an event to each of its receivers, and nothing for `settle`
abbrev pub item_deliveries : Network → TraceItem → List Owed
item_deliveries net (Event e code) = deliveries_of net Env (e, code)
item_deliveries net Settle = []

-- the environment's deliveries by item and then by receiver, each with whether a `settle` item
-- stands between the event item before its item, or the start, and its item
abbrev pub trace_deliveries : Network → Bool → List TraceItem → List (Owed × Bool)
trace_deliveries net settled [] = []
trace_deliveries net settled (Settle ∷ items) = trace_deliveries net true items
trace_deliveries net settled (Event e code ∷ items) =
    map (λ d. (d, settled)) (deliveries_of net Env (e, code)) ++ trace_deliveries net false items

-- the delivery is from s to m
abbrev pub is_way : Party → ℕ → Owed → Bool
is_way s m d = same_party d.from s && d.to == m

-- its event with its code
abbrev pub event_code : Owed → ℕ × ℕ
event_code d = (d.event, d.code)

-- two deliveries from one sender to one receiver
abbrev pub same_way : Owed → Owed → Bool
same_way d c = same_party d.from c.from && d.to == c.to

abbrev pub keep_unless : {X : Type 0} → Bool → X → List X → List X
keep_unless true x xs = xs
keep_unless false x xs = x ∷ xs

-- the items of the list after `passed` that aren't made: for each sender and receiver all but the
-- first ones, as many as the journal has
abbrev pub unmade : {X : Type 0} → (X → Owed) → List Entry → List X → List X → List X
unmade way journal passed [] = []
unmade way journal passed (x ∷ xs) =
    keep_unless
    (nat_lt (count_by (λ y. same_way (way y) (way x)) passed)
    (length (delivered (way x).from (way x).to journal))) x
    (unmade way journal (passed ++ x ∷ []) xs)

-- the deliveries of machines that are owed
abbrev pub owed_by_machines : Network → List Entry → List Owed
owed_by_machines net journal = unmade (λ d. d) journal [] (machine_deliveries net journal)

-- the deliveries of the environment that are owed
abbrev pub owed_by_env : Network → List TraceItem → List Entry → List (Owed × Bool)
owed_by_env net trace journal = unmade (λ p. p.0) journal [] (trace_deliveries net false trace)

-- the list without the first item that passes
abbrev pub without_first : {X : Type 0} → (X → Bool) → List X → List X
without_first p [] = []
without_first p (x ∷ xs) = cond (p x) xs (x ∷ without_first p xs)

-- what an entry leaves of these deliveries: it takes the first from its sender to its receiver
-- away, where it is a delivery
abbrev pub left_by : Entry → List Owed → List Owed
left_by (Dep s m event code) ds = without_first (is_way s m) ds
left_by (Rea m s o) ds = ds

-- no delivery is owed, and no machine is woken
abbrev pub OwesNothing : Network → List TraceItem → List Entry → Type 0
OwesNothing net trace journal =
    (head_of (owed_by_machines net journal) ≡ None)
    × (head_of (owed_by_env net trace journal) ≡ None)
    × ((m : ℕ) → m < length net.machines → is_woken journal m ≡ false)

abbrev pub priority_of : Network → ℕ → ℕ
priority_of net m =
    unwrap_or (option_map (λ machine. machine.priority) (slice_get net.machines m)) 0

-- the machine of a rising list that is least by priority and then by number
abbrev pub least_by : (ℕ → ℕ) → List ℕ → Option ℕ
least_by priority [] = None
least_by priority (m ∷ ms) = before (least_by priority ms)
  where
    before : Option ℕ → Option ℕ
    before None = Some m
    before (Some k) = cond (nat_lt (priority k) (priority m)) (Some k) (Some m)

-- the woken machine that is least by priority and then by number
abbrev pub first_woken : Network → List Entry → Option ℕ
first_woken net journal =
    least_by (priority_of net) (filter (is_woken journal) (upto (length net.machines)))

abbrev pub deliver : Owed → Pick
deliver d = Deliver d.from d.to d.event d.code

-- the first of these that there is: a delivery of a machine, one of the environment that isn't held
-- back, a reaction, any delivery of the environment
abbrev pub first_pick : Option Owed → Option (Owed × Bool) → Option ℕ → Pick
first_pick (Some d) e m = deliver d
first_pick None (Some (d, false)) m = deliver d
first_pick None (Some (d, true)) (Some m) = React m
first_pick None None (Some m) = React m
first_pick None (Some (d, true)) None = deliver d
first_pick None None None = Stop

abbrev pub pick : Network → List TraceItem → List Entry → Pick
pick net trace journal =
    first_pick (head_of (owed_by_machines net journal)) (head_of (owed_by_env net trace journal))
    (first_woken net journal)

-- the entry is what was picked after the journal: the delivery, or the reaction of the machine to
-- its snapshot by its transition
abbrev pub IsPicked : Network → List Entry → Pick → Entry → Type 0
IsPicked net journal (Deliver s m event code) entry = entry ≡ Dep s m event code
IsPicked net journal (React m) entry =
    (o : Outcome) × (entry ≡ Rea m (snap net journal m) o)
    × OfMachine net m (λ machine. Transition machine (snap net journal m) o)
IsPicked net journal Stop entry = ⊥

abbrev pub FollowsAfter : Network → List TraceItem → List Entry → List Entry → Type 0
FollowsAfter net trace journal [] = ⊤
FollowsAfter net trace journal (entry ∷ entries) =
    IsPicked net journal (pick net trace journal) entry
    × FollowsAfter net trace (journal ++ entry ∷ []) entries

-- from the place a on each entry is what is picked after those before it
abbrev pub Follows : Network → List TraceItem → List Entry → ℕ → Type 0
Follows net trace journal a = FollowsAfter net trace (take a journal) (drop a journal)

-- the scheduler's journal of n entries, or of fewer where it stops
pub record IsSchedule (net : Network) (trace : List TraceItem) (n : ℕ)
    (journal : List Entry) : Type 0 where
  pub follows : Follows net trace journal 0
  pub whole : (length journal ≡ n) ⊎ ((length journal < n) × (pick net trace journal ≡ Stop))
