-- The moves that what is kept beside a configuration stands for.
use Rattle.std.proofs.Common.{◌≡◌, ◌≢◌, ℕ, zero, suc, ◌+◌, ◌-◌, ◌<◌, ◌≤◌, Bool, true, List, [], ◌∷◌, ◌++◌, map, flat_map, drop, length, length-append, take, get_or, slice_get, Option, Some, None, option_map, unwrap_or, refl, sym, ap, ◌∙◌, subst, add-one, inl, inr, arith}
use Rattle.std.specs.Prelude.{find, is_some, min}
use Rattle.std.specs.Int.{bit_at}
use Rattle.std.specs.List.{Contains, sum_by}
use Rattle.std.proofs.lemmas.Bool.{cases_lt, le-ltb, lt-ltb}
use Rattle.std.proofs.lemmas.List.{append-nil, drop_all, drop_more, length-map, take_all}
use Rattle.std.proofs.lemmas.List.Sums.{sum_by_more}
use Rattle.std.proofs.lemmas.List.Concat.{flat_map-append}
use Rattle.std.proofs.lemmas.Option.{get_or_from_slice_get, slice_get-get_or, slice_get-map, slice_get_cases, slice_get_within}
use Rattle.polis_base.specs.Lists.{head_of, upto}
use Rattle.polis_base.proofs.Members.{here}
use Rattle.transition_table.specs.declared.decl.Party.TheVariants.{Env, Machine as Sender}
use Rattle.transition_table.specs.declared.network.Network.{Network}
use Rattle.journals.specs.declared.entry.Entry.{Entry}
use Rattle.journals.specs.declared.entry.Owed.{Owed}
use Rattle.journals.specs.declared.entry.Pick.{Pick}
use Rattle.journals.specs.declared.entry.Pick.TheVariants.{Deliver, React, Stop}
use Rattle.journals.specs.declared.entry.TraceItem.{TraceItem}
use Rattle.journals.specs.declared.entry.TraceItem.TheVariants.{Event, Settle}
use Rattle.journals.specs.AllLaws.{JournalLaws, SendingLaws}
use Rattle.journals.specs.Cursors.{cursor}
use Rattle.journals.specs.Journals.{IsTrace, is_woken}
use Rattle.journals.specs.Legality.{Legal}
use Rattle.journals.specs.Schedules.{deliver, first_pick, first_woken, is_way, owed_by_env, owed_by_machines}
use Rattle.journals.proofs.MomentsAfter.{get_or_upto}
use Rattle.net_core.specs.Moments.{Moment}
use Rattle.run_shuffle.specs.declared.ways.Ways.{Ways}
use Rattle.run_shuffle.specs.Blocks.{block_to, current_block}
use Rattle.run_shuffle.specs.Moves.{env_moves, machines_of, network_moves, next_deliveries, next_delivery, next_sends, reactions}
use Rattle.run_shuffle.specs.Orders.{first_move, moves_of_block, picked_move, same_block, scheduled_move}
use Rattle.run_shuffle.specs.Shuffles.{move_at}
use Rattle.run_shuffle.specs.inner.Ways.{AreWays, Gives, IsSetOf, env_owes, how_many, is_of_block, owes}
use Rattle.polis_base.specs.Sets.{members}
use Rattle.run_shuffle.proofs.BlocksByPlaces.{no_block_past}
use Rattle.run_shuffle.proofs.GivenMoves.{gives_all, gives_at, gives_many, gives_none, gives_one, gives_passing}
use Rattle.run_shuffle.proofs.MembersOfSets.{members_are, only_member}
use Rattle.run_shuffle.proofs.NextMoves.{env_has, env_has_none, machine_has, machine_has_none}
use Rattle.run_shuffle.proofs.OffersUntilComplete.{first_is, network_has_none, scheduled_in_network}
use Rattle.run_shuffle.proofs.OwedWays.{some_found}
use Rattle.run_shuffle.proofs.RowSums.{rows_few}
use Rattle.polis_base.proofs.UptoPlaces.{length_upto}

-- ---- who has a next delivery

env_owes_next : SendingLaws
    → (net : Network) (trace : List TraceItem) (journal : List Entry) (m : ℕ)
    → Legal net trace journal
    → env_owes net trace journal m ≡ is_some (next_delivery net trace journal Env m)
env_owes_next sending net trace journal m legal =
    elim (slice_get_cases trace (cursor net trace journal m)).1 [
      | inl (item, within, at, same) ↦
          lt-ltb (cursor net trace journal m) (length trace) within ∙ stands item at
      | inr (past, none) ↦
          le-ltb (cursor net trace journal m) (length trace) past
          ∙ ap is_some (env_has_none sending net trace journal m legal past)
    ]
  where
    stands : (item : TraceItem) → slice_get trace (cursor net trace journal m) ≡ Some item
        → true ≡ is_some (next_delivery net trace journal Env m)
    stands (Event e c) at = ap is_some (env_has sending net trace journal m e c legal at)
    stands Settle at = absurd (sending.events_at_cursors net trace journal m at)

owes_next : SendingLaws
    → (net : Network) (trace : List TraceItem) (journal : List Entry) (s m : ℕ)
    → Legal net trace journal
    → owes net journal s m ≡ is_some (next_delivery net trace journal (Sender s) m)
owes_next sending net trace journal s m legal =
    sym (some_found (is_way (Sender s) m) (owed_by_machines net journal))
    ∙ cases (find (is_way (Sender s) m) (owed_by_machines net journal)) refl
  where
    cases : (o : Option Owed) → find (is_way (Sender s) m) (owed_by_machines net journal) ≡ o
        → is_some o ≡ is_some (next_delivery net trace journal (Sender s) m)
    cases None is = ap is_some (machine_has_none sending net trace journal s m legal is)
    cases (Some d) is = ap is_some (machine_has sending net trace journal s m d legal is)

-- ---- of the environment

pub env_gives : SendingLaws
    → (now : Moment) (ways : Ways) → Legal now.net now.trace now.journal → AreWays now ways
    → Gives now.net (next_delivery now.net now.trace now.journal Env) ways.env
    (env_moves now.net now.trace now.journal)
env_gives sending now ways legal are =
    gives_all now.net (next_delivery now.net now.trace now.journal Env)
    (env_owes now.net now.trace now.journal) ways.env are.env_is
    (λ m. env_owes_next sending now.net now.trace now.journal m legal)

-- of the block that is the current one
pub block_gives : SendingLaws
    → (net : Network) (trace : List TraceItem) (journal : List Entry) (block set : ℕ)
    → Legal net trace journal → Some block ≡ current_block net trace journal
    → IsSetOf (length net.machines) (is_of_block net trace journal (Some block)) set
    → Gives net (next_delivery net trace journal Env) set (moves_of_block net trace journal)
block_gives sending net trace journal block set legal now are =
    gives_passing net (next_delivery net trace journal Env)
    (λ m. same_block (block_to net trace journal m) (current_block net trace journal)) set
    (subst
    (λ o. IsSetOf (length net.machines) (λ m. same_block (block_to net trace journal m) o) set) now
    are)
    (λ m below passes.
    sym (env_owes_next sending net trace journal m legal)
    ∙ elim (cases_lt (cursor net trace journal m) (length trace)) [
      | inl within ↦ lt-ltb (cursor net trace journal m) (length trace) within
      | inr past ↦
          absurd
          (none_passes (current_block net trace journal)
          (sym
          (ap (λ o. same_block o (current_block net trace journal))
          (no_block_past sending.trace_gives net trace journal m past)) ∙ passes))
    ])
  where
    none_passes : (o : Option ℕ) → same_block None o ≡ true → ⊥
    none_passes None h = cc
    none_passes (Some b) h = cc

-- the first that it owes
pub first_gives : JournalLaws → SendingLaws
    → (net : Network) (trace : List TraceItem) (journal : List Entry) (d : Owed) (held : Bool)
    (set : ℕ) → IsTrace net trace → Legal net trace journal
    → head_of (owed_by_env net trace journal) ≡ Some (d, held)
    → bit_at set d.to ≡ 1 → ((k : ℕ) → k ≢ d.to → bit_at set k ≡ bit_at 0 k)
    → Gives net (next_delivery net trace journal Env) set (first_move net trace journal)
first_gives laws sending net trace journal d held set fits legal first own others =
    let is = first_is laws sending net trace journal (d, held) fits legal first in
    let gives : next_delivery net trace journal Env d.to ≡ Some (deliver d) =
    ap (option_map (λ (p : ℕ × ℕ). Deliver Env d.to p.0 p.1)) is.next
    ∙ ap (λ t. Some (Deliver t d.to d.event d.code)) (sym is.from) in
    subst (λ l. Gives net (next_delivery net trace journal Env) set l)
    (sym (head_alone (owed_by_env net trace journal) first))
    (gives_one net (next_delivery net trace journal Env) set d.to (deliver d) is.below
    (only_member d.to (length net.machines) set is.below net.few_machines own others) gives)
  where
    head_alone : (xs : List (Owed × Bool)) → head_of xs ≡ Some (d, held)
        → map (λ (p : Owed × Bool). deliver p.0) (take 1 xs) ≡ deliver d ∷ []
    head_alone [] none = cc
    head_alone (x ∷ xs) is =
        let same : x ≡ (d, held) = cc in
        ap (λ (p : Owed × Bool). deliver p.0 ∷ []) same

pub first_gives_none : (net : Network) (trace : List TraceItem) (journal : List Entry)
    → head_of (owed_by_env net trace journal) ≡ None
    → Gives net (next_delivery net trace journal Env) 0 (first_move net trace journal)
first_gives_none net trace journal none =
    subst (λ l. Gives net (next_delivery net trace journal Env) 0 l)
    (sym (nothing (owed_by_env net trace journal) none))
    (gives_none net (next_delivery net trace journal Env))
  where
    nothing : (xs : List (Owed × Bool)) → head_of xs ≡ None
        → map (λ (p : Owed × Bool). deliver p.0) (take 1 xs) ≡ []
    nothing [] none = refl
    nothing (x ∷ xs) none = cc

-- ---- of the network

pub row_gives : SendingLaws
    → (now : Moment) (ways : Ways) (s row : ℕ) → Legal now.net now.trace now.journal
    → AreWays now ways → slice_get ways.sends s ≡ Some row
    → Gives now.net (next_delivery now.net now.trace now.journal (Sender s)) row
    (next_deliveries now.net now.trace now.journal (Sender s))
row_gives sending now ways s row legal are at =
    let within : s < length now.net.machines =
    subst (λ k. s < k) are.long (slice_get_within ways.sends s row at) in
    subst
    (λ set. Gives now.net (next_delivery now.net now.trace now.journal (Sender s)) set
    (next_deliveries now.net now.trace now.journal (Sender s)))
    (get_or_from_slice_get ways.sends s row 0 at)
    (gives_all now.net (next_delivery now.net now.trace now.journal (Sender s))
    (owes now.net now.journal s) (get_or ways.sends s 0) (are.sends_are s within)
    (λ m. owes_next sending now.net now.trace now.journal s m legal))

reactions_by : (now : Moment) (ways : Ways) → AreWays now ways
    → reactions now.net now.journal ≡ map React (members ways.woken)
reactions_by now ways are =
    ap (map React)
    (sym
    (members_are (length now.net.machines) (is_woken now.journal) ways.woken now.net.few_machines
    are.woken_is))

-- ---- how many there are

-- as many deliveries as receivers in the rows of the first senders
rows_counted : SendingLaws
    → (now : Moment) (ways : Ways) (s : ℕ) → Legal now.net now.trace now.journal
    → AreWays now ways → s ≤ length now.net.machines
    → sum_by how_many (take s ways.sends)
    ≡ length (flat_map (λ s. next_deliveries now.net now.trace now.journal (Sender s)) (upto s))
rows_counted sending now ways zero legal are within = refl
rows_counted sending now ways (suc s) legal are within =
    let f : ℕ → List Pick =
    λ (s : ℕ). next_deliveries now.net now.trace now.journal (Sender s) in
    let row : ℕ = get_or ways.sends s 0 in
    let long = are.long in
    let inside : s < length ways.sends = omega (arith, long, within) in
    let many =
    gives_many now.net (next_delivery now.net now.trace now.journal (Sender s)) row (f s)
    (row_gives sending now ways s row legal are (slice_get-get_or ways.sends s 0 inside)) in
    let joined : flat_map f (upto (suc s)) ≡ flat_map f (upto s) ++ f s =
    flat_map-append f (upto s) (s ∷ []) ∙ ap (λ l. flat_map f (upto s) ++ l) (append-nil (f s)) in
    let size = ap length joined in
    let sum = length-append (flat_map f (upto s)) (f s) in
    let before = rows_counted sending now ways s legal are (omega (arith, within)) in
    let step = sum_by_more how_many ways.sends s 0 inside in
    ap (λ k. sum_by how_many (take k ways.sends)) (sym (add-one s))
    ∙ omega (arith, many, size, sum, before, step)

pub sends_counted : SendingLaws
    → (now : Moment) (ways : Ways) → Legal now.net now.trace now.journal → AreWays now ways
    → ways.owed ≡ length (next_sends now.net now.trace now.journal)
sends_counted sending now ways legal are =
    let long = are.long in
    are.owed_is
    ∙ ap (sum_by how_many)
    (sym (take_all (length now.net.machines) ways.sends (omega (arith, long))))
    ∙ rows_counted sending now ways (length now.net.machines) legal are (omega arith)

woken_counted : (now : Moment) (ways : Ways) → AreWays now ways
    → how_many ways.woken ≡ length (reactions now.net now.journal)
woken_counted now ways are =
    sym
    (ap length (reactions_by now ways are) ∙ length-map (members ways.woken) React)

pub network_counted : SendingLaws
    → (now : Moment) (ways : Ways) (k : ℕ) → Legal now.net now.trace now.journal
    → AreWays now ways → k ≡ how_many ways.woken
    → ways.owed + k ≡ length (network_moves now.net now.trace now.journal)
network_counted sending now ways k legal are is =
    let sends = sends_counted sending now ways legal are in
    let reacts = woken_counted now ways are in
    let sum =
    length-append (next_sends now.net now.trace now.journal) (reactions now.net now.journal) in
    omega (arith, sends, reacts, sum, is)

pub owed_few : (now : Moment) (ways : Ways) → AreWays now ways → ways.owed ≤ 4096
owed_few now ways are =
    rows_few ways.sends ways.owed
    (subst (λ k. k ≤ 64) (sym are.long) now.net.few_machines) are.owed_is

-- ---- the move of a number

-- the deliveries of machines from those of a sender on
abbrev pub sends_from : Moment → ℕ → List Pick
sends_from now s =
    flat_map (λ s. next_deliveries now.net now.trace now.journal (Sender s))
    (drop s (machines_of now.net))

sends_split : (now : Moment) (s : ℕ) → s < length now.net.machines
    → sends_from now s
    ≡ next_deliveries now.net now.trace now.journal (Sender s) ++ sends_from now (s + 1)
sends_split now s below =
    let long = length_upto (length now.net.machines) in
    let first : drop s (machines_of now.net) ≡ s ∷ drop (s + 1) (machines_of now.net) =
    drop_more (machines_of now.net) s 0 (omega (arith, long, below))
    ∙ ap (λ k. k ∷ drop (s + 1) (machines_of now.net))
    (get_or_upto (length now.net.machines) s 0 below) in
    ap (flat_map (λ s. next_deliveries now.net now.trace now.journal (Sender s))) first

at_first : (xs ys : List Pick) (k : ℕ) → k < length xs → move_at (xs ++ ys) k ≡ move_at xs k
at_first [] ys k below = absurd (omega arith)
at_first (x ∷ xs) ys zero below = refl
at_first (x ∷ xs) ys (suc k) below = at_first xs ys k (omega arith)

at_later : (xs ys : List Pick) (k : ℕ) → length xs ≤ k
    → move_at (xs ++ ys) k ≡ move_at ys (k - length xs)
at_later [] ys k past = ap (move_at ys) (omega arith)
at_later (x ∷ xs) ys zero past = absurd (omega arith)
at_later (x ∷ xs) ys (suc k) past =
    at_later xs ys k (omega arith)
    ∙ ap (move_at ys) (omega arith)

-- one of a sender
pub move_of_row : SendingLaws
    → (now : Moment) (ways : Ways) (s row number left m : ℕ)
    → Legal now.net now.trace now.journal → AreWays now ways
    → slice_get ways.sends s ≡ Some row
    → move_at (sends_from now s) left
    ≡ move_at (next_sends now.net now.trace now.journal) number
    → left < how_many row → slice_get (members row) left ≡ Some m
    → unwrap_or (next_delivery now.net now.trace now.journal (Sender s) m) Stop
    ≡ move_at (next_sends now.net now.trace now.journal) number
move_of_row sending now ways s row number left m legal are at before below is =
    let own : List Pick = next_deliveries now.net now.trace now.journal (Sender s) in
    let within : s < length now.net.machines =
    subst (λ k. s < k) are.long (slice_get_within ways.sends s row at) in
    let gives = row_gives sending now ways s row legal are at in
    let many =
    gives_many now.net (next_delivery now.net now.trace now.journal (Sender s)) row own gives in
    gives_at now.net (next_delivery now.net now.trace now.journal (Sender s)) row own left m gives
    is
    ∙ sym (at_first own (sends_from now (s + 1)) left (omega (arith, many, below)))
    ∙ sym (ap (λ l. move_at l left) (sends_split now s within))
    ∙ before

-- one of a later sender
pub move_past_row : SendingLaws
    → (now : Moment) (ways : Ways) (s row number left many : ℕ)
    → Legal now.net now.trace now.journal → AreWays now ways
    → slice_get ways.sends s ≡ Some row
    → move_at (sends_from now s) left
    ≡ move_at (next_sends now.net now.trace now.journal) number
    → left < length (sends_from now s)
    → many ≡ how_many row → many ≤ left
    → (left - many < length (sends_from now (s + 1)))
    × (move_at (sends_from now (s + 1)) (left - many)
    ≡ move_at (next_sends now.net now.trace now.journal) number)
move_past_row sending now ways s row number left many legal are at before below count past =
    let own : List Pick = next_deliveries now.net now.trace now.journal (Sender s) in
    let within : s < length now.net.machines =
    subst (λ k. s < k) are.long (slice_get_within ways.sends s row at) in
    let gives = row_gives sending now ways s row legal are at in
    let all =
    gives_many now.net (next_delivery now.net now.trace now.journal (Sender s)) row own gives in
    let split = sends_split now s within in
    let size = ap length split in
    let sum = length-append own (sends_from now (s + 1)) in
    let same : many ≡ length own = omega (arith, count, all) in (
      omega (arith, size, sum, same, past, below),
      ap (λ k. move_at (sends_from now (s + 1)) (left - k)) same
          ∙ sym (at_later own (sends_from now (s + 1)) left (omega (arith, same, past)))
          ∙ sym (ap (λ l. move_at l left) split)
          ∙ before,
    )

-- past all senders none is left
pub none_past_rows : (now : Moment) (ways : Ways) (n left : ℕ) → AreWays now ways
    → length ways.sends ≤ n → left < length (sends_from now n) → ⊥
none_past_rows now ways n left are past below =
    let long = length_upto (length now.net.machines) in
    let all = are.long in
    let none =
    ap length
    (ap (flat_map (λ s. next_deliveries now.net now.trace now.journal (Sender s)))
    (drop_all n (machines_of now.net) (omega (arith, long, all, past)))) in
    omega (arith, none, below)

pub move_of_sends : SendingLaws
    → (now : Moment) (ways : Ways) (number : ℕ) → Legal now.net now.trace now.journal
    → AreWays now ways → number < ways.owed
    → move_at (next_sends now.net now.trace now.journal) number
    ≡ move_at (network_moves now.net now.trace now.journal) number
move_of_sends sending now ways number legal are below =
    let many = sends_counted sending now ways legal are in
    sym
    (at_first (next_sends now.net now.trace now.journal) (reactions now.net now.journal) number
    (omega (arith, many, below)))

pub reaction_left : SendingLaws
    → (now : Moment) (ways : Ways) (number : ℕ) → Legal now.net now.trace now.journal
    → AreWays now ways → ways.owed ≤ number
    → number < length (network_moves now.net now.trace now.journal)
    → number - ways.owed < how_many ways.woken
reaction_left sending now ways number legal are past below =
    let all = network_counted sending now ways (how_many ways.woken) legal are refl in
    omega (arith, all, past, below)

pub reaction_of : SendingLaws
    → (now : Moment) (ways : Ways) (number m : ℕ) → Legal now.net now.trace now.journal
    → AreWays now ways → ways.owed ≤ number
    → slice_get (members ways.woken) (number - ways.owed) ≡ Some m
    → React m ≡ move_at (network_moves now.net now.trace now.journal) number
reaction_of sending now ways number m legal are past at =
    let many = sends_counted sending now ways legal are in
    sym
    (at_later (next_sends now.net now.trace now.journal) (reactions now.net now.journal) number
    (omega (arith, many, past))
    ∙ ap (λ k. move_at (reactions now.net now.journal) (number - k)) (sym many)
    ∙ ap (λ l. move_at l (number - ways.owed)) (reactions_by now ways are)
    ∙ ap (λ (o : Option Pick). unwrap_or o Stop)
    (slice_get-map React (members ways.woken) (number - ways.owed)
    ∙ ap (option_map React) at))

-- ---- of the scheduler

-- where the network has a move the scheduler has one, and no other
pub scheduled_many : JournalLaws → SendingLaws
    → (net : Network) (trace : List TraceItem) (journal : List Entry) → Legal net trace journal
    → min (length (network_moves net trace journal)) 1 ≡ length (scheduled_move net journal)
scheduled_many laws sending net trace journal legal =
    many (head_of (owed_by_machines net journal)) (first_woken net journal)
    (λ move. scheduled_in_network laws sending net trace journal move legal)
    (network_has_none sending net trace journal legal)
  where
    some_there : (xs : List Pick) (x : Pick) → Contains xs x → min (length xs) 1 ≡ 1
    some_there xs x (k, below, at) = omega (arith, below)

    many : (a : Option Owed) (c : Option ℕ)
        → ((move : Pick) → Contains (picked_move (first_pick a None c)) move
        → Contains (network_moves net trace journal) move)
        → (a ≡ None → c ≡ None → network_moves net trace journal ≡ [])
        → min (length (network_moves net trace journal)) 1
        ≡ length (picked_move (first_pick a None c))
    many (Some d) c member none =
        some_there (network_moves net trace journal) (deliver d)
        (member (deliver d) (here (deliver d) []))
    many None (Some m) member none =
        some_there (network_moves net trace journal) (React m)
        (member (React m) (here (React m) []))
    many None None member none =
        ap (λ (l : List Pick). min (length l) 1) (none refl refl)
