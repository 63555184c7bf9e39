-- What is kept beside a configuration, after one entry more.
use Rattle.std.proofs.Common.{◌≡◌, ◌≢◌, ℕ, ◌<◌, ◌≤◌, Bool, true, false, cond, ◌&&◌, ◌||◌, ◌==◌, nat_lt, List, [], ◌∷◌, ◌++◌, length, get_or, slice_get, Option, Some, refl, sym, ap, ◌∙◌, subst, inl, inr}
use Rattle.std.specs.Prelude.{slice_set}
use Rattle.std.specs.Int.{bit_at}
use Rattle.std.specs.List.{sum_by}
use Rattle.std.proofs.lemmas.Bool.{and_parts, cases_eq, cases_lt, eq-eqb, le-ltb, lt-ltb, ltb-true, ne_eqb}
use Rattle.std.proofs.lemmas.Option.{get_or_from_slice_get}
use Rattle.std.proofs.lemmas.List.{get_or-set_other, get_or-set_same, length-set}
use Rattle.transition_table.specs.declared.decl.Party.{Party}
use Rattle.transition_table.specs.declared.decl.Party.TheVariants.{Env, Machine as Sender}
use Rattle.transition_table.specs.declared.network.Network.{Network}
use Rattle.transition_table.specs.declared.snapshot.Outcome.{Outcome}
use Rattle.transition_table.specs.declared.snapshot.Snapshot.{Snapshot}
use Rattle.journals.specs.declared.entry.Entry.{Entry}
use Rattle.journals.specs.declared.entry.Entry.TheVariants.{Dep, Rea}
use Rattle.journals.specs.declared.entry.TraceItem.{TraceItem}
use Rattle.journals.specs.Journals.{FitsNetwork, emissions, is_event_code, is_party, is_woken, same_party}
use Rattle.journals.specs.Laws.{MovesOwed, MovesWaking, TraceGivesSent}
use Rattle.journals.specs.Legality.{Legal}
use Rattle.journals.specs.Moved.{is_dep, machine_of}
use Rattle.journals.proofs.DeliveredBeginsSent.{delivered_by_reaction, delivered_other}
use Rattle.net_core.specs.Moments.{Moment}
use Rattle.polis_base.proofs.SmallSets.{with_same, with_others}
use Rattle.run_shuffle.specs.declared.ways.Ways.{Ways}
use Rattle.run_shuffle.specs.Blocks.{block_to}
use Rattle.run_shuffle.specs.Orders.{same_block}
use Rattle.run_shuffle.specs.inner.Ways.{AreWays, IsSetOf, begun_table, env_owes, how_many, is_of_block, owes}
use Rattle.run_shuffle.specs.inner.Blocks.{blocks_read}
use Rattle.run_shuffle.proofs.BegunBlocks.{begun_after_machine, begun_after_reaction, table_stays}
use Rattle.run_shuffle.proofs.BlocksByPlaces.{block_by_count}
use Rattle.run_shuffle.proofs.MembersOfSets.{set_changed, set_stays}
use Rattle.run_shuffle.proofs.OwedWays.{cursor_after_other, cursor_after_reaction, owes_after_delivery, owes_after_reaction}
use Rattle.run_shuffle.proofs.ReceiverSets.{is_receiver}
use Rattle.polis_base.proofs.Bools.{and_none, or_none}

-- the moment with one entry more
abbrev pub taken : Moment → Entry → Moment
taken now entry = record now { journal = now.journal ++ entry ∷ [] }

-- ---- whose block is asked for

block_after_reaction : TraceGivesSent
    → (net : Network) (trace : List TraceItem) (journal : List Entry) (k : ℕ) (x : Snapshot)
    (o : Outcome) (m : ℕ)
    → block_to net trace (journal ++ Rea k x o ∷ []) m ≡ block_to net trace journal m
block_after_reaction gives net trace journal k x o m =
    block_by_count gives net trace (journal ++ Rea k x o ∷ []) m
    ∙ ap (λ (l : List (ℕ × ℕ)). slice_get (blocks_read net m 0 trace) (length l))
    (delivered_by_reaction Env m k x o journal)
    ∙ sym (block_by_count gives net trace journal m)

block_after_other : TraceGivesSent
    → (net : Network) (trace : List TraceItem) (journal : List Entry) (t : Party) (r e c m : ℕ)
    → (same_party t Env && r == m) ≡ false
    → block_to net trace (journal ++ Dep t r e c ∷ []) m ≡ block_to net trace journal m
block_after_other gives net trace journal t r e c m other =
    block_by_count gives net trace (journal ++ Dep t r e c ∷ []) m
    ∙ ap (λ (l : List (ℕ × ℕ)). slice_get (blocks_read net m 0 trace) (length l))
    (delivered_other Env t m r e c journal other)
    ∙ sym (block_by_count gives net trace journal m)

-- ---- the woken machines

woken_stay : MovesWaking → (journal : List Entry) (entry : Entry) (k : ℕ)
    → k ≢ machine_of entry → is_woken (journal ++ entry ∷ []) k ≡ is_woken journal k
woken_stay law journal entry k other =
    law journal entry k
    ∙ ap (λ b. cond b (is_dep entry) (is_woken journal k))
    (ne_eqb (machine_of entry) k (λ e. other (sym e)))

woken_now : MovesWaking → (journal : List Entry) (entry : Entry)
    → is_woken (journal ++ entry ∷ []) (machine_of entry) ≡ is_dep entry
woken_now law journal entry =
    law journal entry (machine_of entry)
    ∙ ap (λ b. cond b (is_dep entry) (is_woken journal (machine_of entry)))
    (eq-eqb (machine_of entry) (machine_of entry) refl)

woken_after : MovesWaking → (n : ℕ) (journal : List Entry) (entry : Entry) (old new : ℕ)
    → machine_of entry < n → IsSetOf n (is_woken journal) old
    → (bit_at new (machine_of entry) == 1) ≡ is_dep entry
    → ((k : ℕ) → k < 64 → k ≢ machine_of entry → bit_at new k ≡ bit_at old k)
    → IsSetOf n (is_woken (journal ++ entry ∷ [])) new
woken_after law n journal entry old new below were own others =
    set_changed (is_woken journal) (is_woken (journal ++ entry ∷ [])) n (machine_of entry) old new
    below were (own ∙ sym (woken_now law journal entry)) others (woken_stay law journal entry)

-- ---- a delivery of the environment

-- what is set for the machine to which it goes
pub record IsMarked (old new m : ℕ) (is : Bool) : Type 0 where
  pub own : (bit_at new m == 1) ≡ is
  pub others : (k : ℕ) → k ≢ m → bit_at new k ≡ bit_at old k

pub env_taken : MovesOwed → MovesWaking → TraceGivesSent
    → (now : Moment) (ways : Ways) (to e c : ℕ) (begun : List Bool) (env woken of_block : ℕ)
    → Legal now.net now.trace now.journal → AreWays now ways → to < length now.net.machines
    → begun ≡ begun_table now.net now.trace (now.journal ++ Dep Env to e c ∷ [])
    → IsMarked ways.env env to
    (env_owes now.net now.trace (now.journal ++ Dep Env to e c ∷ []) to)
    → IsMarked ways.woken woken to true
    → IsMarked ways.of_block of_block to
    (is_of_block now.net now.trace (now.journal ++ Dep Env to e c ∷ []) ways.block to)
    → AreWays (taken now (Dep Env to e c))
    (record ways { begun = begun; env = env; woken = woken; of_block = of_block })
env_taken owed waking gives now ways to e c begun env woken of_block =
    λ legal are below table sent awake in_block.
    let n = length now.net.machines in
    let journal : List Entry = now.journal ++ Dep Env to e c ∷ [] in
    record {
      plan_is = are.plan_is;
      long = are.long;
      owed_is = are.owed_is;
      sends_are = λ s within.
          set_stays (owes now.net now.journal s) (owes now.net journal s) n (get_or ways.sends s 0)
          (are.sends_are s within)
          (λ m. owes_after_delivery owed now.net now.trace now.journal Env to e c s m legal refl);
      env_is =
          set_changed (env_owes now.net now.trace now.journal)
          (env_owes now.net now.trace journal) n to ways.env env below are.env_is sent.own
          (λ k within other. sent.others k other)
          (λ k other.
          ap (λ (p : ℕ). nat_lt p (length now.trace))
          (cursor_after_other now.net now.trace now.journal Env to e c k
          (ne_eqb to k (λ same. other (sym same)))));
      woken_is =
          woken_after waking n now.journal (Dep Env to e c) ways.woken woken below are.woken_is
          awake.own (λ k within other. awake.others k other);
      blocks_are = are.blocks_are;
      begun_are = table;
      of_block_is =
          set_changed (is_of_block now.net now.trace now.journal ways.block)
          (is_of_block now.net now.trace journal ways.block) n to ways.of_block of_block below
          are.of_block_is in_block.own (λ k within other. in_block.others k other)
          (λ k other.
          ap (λ (b : Option ℕ). same_block b ways.block)
          (block_after_other gives now.net now.trace now.journal Env to e c k
          (ne_eqb to k (λ same. other (sym same)))));
    }

-- the same as a call that marks the block first leaves it
pub env_taken_after : MovesOwed → MovesWaking → TraceGivesSent
    → (now new : Moment) (ways begun : Ways) (to e c : ℕ) (env woken of_block : ℕ)
    → Legal now.net now.trace now.journal → AreWays now ways → to < length now.net.machines
    → new ≡ taken now (Dep Env to e c) → begun ≡ record ways { begun = begun.begun }
    → begun.begun ≡ begun_table now.net now.trace (now.journal ++ Dep Env to e c ∷ [])
    → IsMarked begun.env env to (env_owes new.net new.trace new.journal to)
    → IsMarked begun.woken woken to true
    → IsMarked begun.of_block of_block to
    (is_of_block new.net new.trace new.journal begun.block to)
    → AreWays new (record begun { env = env; woken = woken; of_block = of_block })
env_taken_after owed waking gives now new ways begun to e c env woken of_block =
    λ legal are below is same table sent awake in_block.
    subst
    (λ (w : Ways). AreWays new (record w { env = env; woken = woken; of_block = of_block }))
    (sym same)
    (subst
    (λ (m : Moment). AreWays m
    (record ways { begun = begun.begun; env = env; woken = woken; of_block = of_block }))
    (sym is)
    (env_taken owed waking gives now ways to e c begun.begun env woken of_block legal are below
    table
    (subst (λ (w : Ways). IsMarked w.env env to
    (env_owes now.net now.trace (now.journal ++ Dep Env to e c ∷ []) to)) same
    (subst
    (λ (m : Moment). IsMarked begun.env env to (env_owes m.net m.trace m.journal to)) is sent))
    (subst (λ (w : Ways). IsMarked w.woken woken to true) same awake)
    (subst (λ (w : Ways). IsMarked w.of_block of_block to
    (is_of_block now.net now.trace (now.journal ++ Dep Env to e c ∷ []) w.block to)) same
    (subst
    (λ (m : Moment). IsMarked begun.of_block of_block to
    (is_of_block m.net m.trace m.journal begun.block to)) is in_block))))

-- ---- rows

-- one row is another, and each other row stands for the same
rows_after : (old new : ℕ → ℕ → Bool) (n : ℕ) (rows : List ℕ) (s row : ℕ) → s < length rows
    → ((k : ℕ) → k < n → IsSetOf n (old k) (get_or rows k 0)) → IsSetOf n (new s) row
    → ((k : ℕ) → k ≢ s → (m : ℕ) → new k m ≡ old k m)
    → (k : ℕ) → k < n → IsSetOf n (new k) (get_or (slice_set rows s row) k 0)
rows_after old new n rows s row inside were own same k within =
    elim (cases_eq k s) [
      | inl is ↦
          subst (λ j. IsSetOf n (new j) (get_or (slice_set rows s row) j 0)) (sym is)
          (subst (λ set. IsSetOf n (new s) set) (sym (get_or-set_same rows s row 0 inside)) own)
      | inr other ↦
          subst (λ set. IsSetOf n (new k) set) (sym (get_or-set_other rows s k row 0 other))
          (set_stays (old k) (new k) n (get_or rows k 0) (were k within) (same k other))
    ]

-- ---- a delivery of a machine

own_row : MovesOwed
    → (now : Moment) (ways : Ways) (from to e c row : ℕ)
    → Legal now.net now.trace now.journal → AreWays now ways
    → from < length now.net.machines → to < length now.net.machines
    → IsMarked (get_or ways.sends from 0) row to
    (owes now.net (now.journal ++ Dep (Sender from) to e c ∷ []) from to)
    → IsSetOf (length now.net.machines)
    (owes now.net (now.journal ++ Dep (Sender from) to e c ∷ []) from) row
own_row owed now ways from to e c row legal are sender below sent =
    set_changed (owes now.net now.journal from)
    (owes now.net (now.journal ++ Dep (Sender from) to e c ∷ []) from) (length now.net.machines) to
    (get_or ways.sends from 0) row below (are.sends_are from sender) sent.own
    (λ k within other. sent.others k other)
    (λ k other.
    owes_after_delivery owed now.net now.trace now.journal (Sender from) to e c from k legal
    (ap (λ b. from == from && b) (ne_eqb to k (λ same. other (sym same)))
    ∙ and_none (from == from)))

pub between_taken : MovesOwed → MovesWaking → TraceGivesSent
    → (now : Moment) (ways : Ways) (from to e c : ℕ) (row woken sum : ℕ)
    → Legal now.net now.trace now.journal → AreWays now ways
    → from < length now.net.machines → to < length now.net.machines
    → IsMarked (get_or ways.sends from 0) row to
    (owes now.net (now.journal ++ Dep (Sender from) to e c ∷ []) from to)
    → IsMarked ways.woken woken to true → sum ≡ sum_by how_many (slice_set ways.sends from row)
    → AreWays (taken now (Dep (Sender from) to e c))
    (record ways { sends = slice_set ways.sends from row; owed = sum; woken = woken })
between_taken owed waking gives now ways from to e c row woken sum =
    λ legal are sender below sent awake all.
    let n = length now.net.machines in
    let journal : List Entry = now.journal ++ Dep (Sender from) to e c ∷ [] in
    record {
      plan_is = are.plan_is;
      long = length-set ways.sends from row ∙ are.long;
      owed_is = all;
      sends_are =
          rows_after (owes now.net now.journal) (owes now.net journal) n ways.sends from row
          (subst (λ k. from < k) (sym are.long) sender) are.sends_are
          (own_row owed now ways from to e c row legal are sender below sent) (λ s other m.
          owes_after_delivery owed now.net now.trace now.journal (Sender from) to e c s m legal
          (ap (λ b. b && to == m) (ne_eqb from s (λ same. other (sym same)))));
      env_is =
          set_stays (env_owes now.net now.trace now.journal) (env_owes now.net now.trace journal) n
          ways.env are.env_is
          (λ m. ap (λ (p : ℕ). nat_lt p (length now.trace))
          (cursor_after_other now.net now.trace now.journal (Sender from) to e c m refl));
      woken_is =
          woken_after waking n now.journal (Dep (Sender from) to e c) ways.woken woken below
          are.woken_is awake.own (λ k within other. awake.others k other);
      blocks_are = are.blocks_are;
      begun_are =
          are.begun_are
          ∙ table_stays now.net now.trace now.journal journal
          (begun_after_machine now.net now.trace now.journal from to e c);
      of_block_is =
          set_stays (is_of_block now.net now.trace now.journal ways.block)
          (is_of_block now.net now.trace journal ways.block) n ways.of_block are.of_block_is
          (λ m. ap (λ (b : Option ℕ). same_block b ways.block)
          (block_after_other gives now.net now.trace now.journal (Sender from) to e c m refl));
    }

-- ---- a reaction

-- a row with the receivers of what is emitted
pub record IsRow (net : Network) (sent : List (ℕ × ℕ)) (old new : ℕ) : Type 0 where
  pub machines : (m : ℕ) → m < length net.machines
      → (bit_at new m == 1) ≡ (bit_at old m == 1 || is_receiver net sent m)
  pub others : (m : ℕ) → length net.machines ≤ m → bit_at new m ≡ bit_at old m

row_after : MovesOwed
    → (net : Network) (trace : List TraceItem) (journal : List Entry) (k : ℕ) (x : Snapshot)
    (o : Outcome) (old new : ℕ) → Legal net trace journal
    → IsSetOf (length net.machines) (owes net journal k) old
    → IsRow net (emissions net (Rea k x o)) old new
    → IsSetOf (length net.machines) (owes net (journal ++ Rea k x o ∷ []) k) new
row_after owed net trace journal k x o old new legal were row m within =
    elim (cases_lt m (length net.machines)) [
      | inl below ↦
          row.machines m below
          ∙ ap (λ b. b || is_receiver net (emissions net (Rea k x o)) m)
          (were m within
          ∙ ap (λ b. b && owes net journal k m) (lt-ltb m (length net.machines) below))
          ∙ sym
          (owes_after_reaction owed net trace journal k x o k m legal
          ∙ ap
          (λ b. owes net journal k m || b && is_receiver net (emissions net (Rea k x o)) m)
          (eq-eqb k k refl))
          ∙ sym
          (ap (λ b. b && owes net (journal ++ Rea k x o ∷ []) k m)
          (lt-ltb m (length net.machines) below))
      | inr past ↦
          ap (λ b. b == 1) (row.others m past) ∙ were m within
          ∙ ap (λ b. b && owes net journal k m) (le-ltb m (length net.machines) past)
          ∙ sym
          (ap (λ b. b && owes net (journal ++ Rea k x o ∷ []) k m)
          (le-ltb m (length net.machines) past))
    ]

pub reaction_taken : MovesOwed → MovesWaking → TraceGivesSent
    → (now : Moment) (ways : Ways) (k : ℕ) (x : Snapshot) (o : Outcome) (row woken sum : ℕ)
    → Legal now.net now.trace now.journal → AreWays now ways → k < length now.net.machines
    → IsRow now.net (emissions now.net (Rea k x o)) (get_or ways.sends k 0) row
    → bit_at woken k ≡ 0
    → ((m : ℕ) → m < 64 → m ≢ k → bit_at woken m ≡ bit_at ways.woken m)
    → sum ≡ sum_by how_many (slice_set ways.sends k row)
    → AreWays (taken now (Rea k x o))
    (record ways { sends = slice_set ways.sends k row; owed = sum; woken = woken })
reaction_taken owed waking gives now ways k x o row woken sum =
    λ legal are below sent asleep others all.
    let n = length now.net.machines in
    let journal : List Entry = now.journal ++ Rea k x o ∷ [] in
    record {
      plan_is = are.plan_is;
      long = length-set ways.sends k row ∙ are.long;
      owed_is = all;
      sends_are =
          rows_after (owes now.net now.journal) (owes now.net journal) n ways.sends k row
          (subst (λ j. k < j) (sym are.long) below) are.sends_are
          (row_after owed now.net now.trace now.journal k x o (get_or ways.sends k 0) row legal
          (are.sends_are k below) sent) (λ s other m.
          owes_after_reaction owed now.net now.trace now.journal k x o s m legal
          ∙ ap
          (λ b. owes now.net now.journal s m
          || b && is_receiver now.net (emissions now.net (Rea k x o)) m)
          (ne_eqb k s (λ same. other (sym same)))
          ∙ or_none (owes now.net now.journal s m));
      env_is =
          set_stays (env_owes now.net now.trace now.journal) (env_owes now.net now.trace journal) n
          ways.env are.env_is
          (λ m. ap (λ (p : ℕ). nat_lt p (length now.trace))
          (cursor_after_reaction now.net now.trace now.journal k x o m));
      woken_is =
          woken_after waking n now.journal (Rea k x o) ways.woken woken below are.woken_is
          (ap (λ b. b == 1) asleep) others;
      blocks_are = are.blocks_are;
      begun_are =
          are.begun_are
          ∙ table_stays now.net now.trace now.journal journal
          (begun_after_reaction now.net now.trace now.journal k x o);
      of_block_is =
          set_stays (is_of_block now.net now.trace now.journal ways.block)
          (is_of_block now.net now.trace journal ways.block) n ways.of_block are.of_block_is
          (λ m. ap (λ (b : Option ℕ). same_block b ways.block)
          (block_after_reaction gives now.net now.trace now.journal k x o m));
    }

-- what a call leaves that puts a row in the place of another
pub row_set : (new now : Moment) (ways set : Ways) (s row woken : ℕ) → new ≡ now
    → set.sends ≡ slice_set ways.sends s row → set.owed ≡ sum_by how_many set.sends
    → set ≡ record ways { sends = set.sends; owed = set.owed }
    → ((sum : ℕ) → sum ≡ sum_by how_many (slice_set ways.sends s row)
    → AreWays now
    (record ways { sends = slice_set ways.sends s row; owed = sum; woken = woken }))
    → AreWays new (record set { woken = woken })
row_set new now ways set s row woken is rows sum same made =
    subst (λ (w : Ways). AreWays new (record w { woken = woken })) (sym same)
    (subst
    (λ (l : List ℕ). AreWays new
    (record ways { sends = l; owed = set.owed; woken = woken }))
    (sym rows)
    (subst
    (λ (m : Moment). AreWays m
    (record ways { sends = slice_set ways.sends s row; owed = set.owed; woken = woken }))
    (sym is) (made set.owed (sum ∙ ap (sum_by how_many) rows))))

-- ---- what an entry that fits says

-- a delivery goes to a machine, and one from a machine comes from one
pub receiver_is : (net : Network) (t : Party) (to e c : ℕ) → FitsNetwork net (Dep t to e c)
    → to < length net.machines
receiver_is net t to e c fits =
    let parts =
    and_parts (is_party net t && nat_lt to (length net.machines)) (is_event_code net e c) fits in
    ltb-true to (length net.machines)
    (and_parts (is_party net t) (nat_lt to (length net.machines)) parts.0).1

-- the row that was read
pub marked_row : (rows : List ℕ) (s row new m : ℕ) (is : Bool) → slice_get rows s ≡ Some row
    → (bit_at new m == 1) ≡ is → ((k : ℕ) → k ≢ m → bit_at new k ≡ bit_at row k)
    → IsMarked (get_or rows s 0) new m is
marked_row rows s row new m is at own others = record {
  own = own;
  others = λ k other.
      others k other ∙ ap (λ (w : ℕ). bit_at w k) (sym (get_or_from_slice_get rows s row 0 at));
}

pub with_one : (old new m : ℕ)
    → ((k : ℕ) → (bit_at new k == 1) ≡ (k == m || bit_at old k == 1)) → IsMarked old new m true
with_one old new m is =
    record { own = ap (λ b. b == 1) (with_same new old m is); others = with_others new old m is }

pub read_row : (net : Network) (sent : List (ℕ × ℕ)) (rows : List ℕ) (s row new : ℕ)
    → slice_get rows s ≡ Some row → IsRow net sent row new → IsRow net sent (get_or rows s 0) new
read_row net sent rows s row new at is =
    subst (λ (w : ℕ). IsRow net sent w new) (sym (get_or_from_slice_get rows s row 0 at)) is
