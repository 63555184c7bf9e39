-- Emissions with the receivers that wait for them.
use Rattle.std.specs.Prelude.{◌≡◌, ◌≢◌, ℕ, ◌+◌, ◌*◌, ◌<◌, ◌≤◌, Bool, false, cond, ◌&&◌, ◌==◌, List, ◌++◌, map, flat_map, length, drop, get_or}
use Rattle.std.specs.Int.{bit_at}
use Rattle.transition_table.specs.declared.decl.Party.TheVariants.{Machine as Sender}
use Rattle.journals.specs.declared.entry.Entry.{Entry}
use Rattle.journals.specs.declared.entry.Entry.TheVariants.{Dep, Rea}
use Rattle.journals.specs.declared.entry.Owed.{Owed}
use Rattle.net_core.specs.declared.config.emissions.Emission.{Emission}
use Rattle.polis_base.specs.Sets.{members}

-- m waits for what s has sent
abbrev pub waits : ℕ → ℕ → Emission → Bool
waits s m r = r.from == s && bit_at r.left m == 1

-- one that nobody waits for
abbrev pub no_emission : Emission
no_emission = record { from = 0; event = 0; code = 0; left = 0; next = 0 }

-- the emission at a place, and one that nobody waits for where there is none
abbrev pub nth : List Emission → ℕ → Emission
nth records i = get_or records i no_emission

abbrev pub owed_to : Emission → ℕ → Owed
owed_to r m = record { from = Sender r.from; to = m; event = r.event; code = r.code }

-- the deliveries of an emission that are still owed, by receiver
abbrev pub waiting : Emission → List Owed
waiting r = map (owed_to r) (members r.left)

-- those of emissions, in order
abbrev pub all_waiting : List Emission → List Owed
all_waiting records = flat_map waiting records

-- ---- chains

-- the place that no emission has
abbrev pub no_place : ℕ
no_place = 4294967295

-- at this place is an emission of s
abbrev pub IsOf : List Emission → ℕ → ℕ → Type 0
IsOf records s i = (i < length records) × ((nth records i).from ≡ s)

-- each emission names the place of the next of its sender, or one past the end
pub record IsChained (records : List Emission) : Type 0 where
  pub further : (i : ℕ) → i < length records → i < (nth records i).next
  pub same : (i : ℕ) → i < length records → (nth records i).next < length records
      → (nth records (nth records i).next).from ≡ (nth records i).from
  pub none_between : (i j : ℕ) → i < length records → i < j → j < (nth records i).next
      → j < length records → (nth records j).from ≢ (nth records i).from

-- and the list has for each sender the place of its last
pub record IsChain (records : List Emission) (last : List ℕ) : Type 0 where
  pub chained : IsChained records
  pub few : length records ≤ no_place
  pub ends : (i : ℕ) → i < length records → length records ≤ (nth records i).next
      → (nth records i).next ≡ no_place
  pub senders : (i : ℕ) → (nth records i).from < 64
  pub long : length last ≡ 64
  pub own : (s : ℕ) → s < 64 → IsOf records s (get_or last s 0)
  pub none_after : (s j : ℕ) → s < 64 → get_or last s 0 < j → j < length records
      → (nth records j).from ≢ s

-- ---- the queue

-- What the code keeps: the emissions so far, and the first of them for which anyone waits. It isn't
-- struck, and those before it are. The cursor of a sender and a receiver is at an emission of the
-- sender, and for none before it the receiver waits.
pub record IsQueue (records : List Emission) (front : ℕ) (cursors last : List ℕ) : Type 0 where
  pub chain : IsChain records last
  pub within : front ≤ length records
  pub front_waits : front < length records → 0 < (nth records front).left
  pub struck : (i : ℕ) → i < front → (nth records i).left ≡ 0
  pub long : length cursors ≡ 4096
  pub starts : (s m : ℕ) → s < 64 → m < 64 → IsOf records s (get_or cursors (64 * s + m) 0)
  pub passed : (s m i : ℕ) → s < 64 → m < 64 → i < get_or cursors (64 * s + m) 0
      → waits s m (nth records i) ≡ false

-- emissions that owe these deliveries beside stand at the end
pub record IsMore (records : List Emission) (last : List ℕ) (more : List Emission)
    (last_more : List ℕ) (owed : List Owed) : Type 0 where
  pub chain : IsChain more last_more
  pub grown : length records ≤ length more
  pub queue : (front : ℕ) (cursors : List ℕ) → IsQueue records front cursors last
      → IsQueue more front cursors last_more
  pub view : (front : ℕ) → front ≤ length records
      → all_waiting (drop front more) ≡ all_waiting (drop front records) ++ owed

-- how many records there are at most of what an entry gives
abbrev pub most_given : Entry → ℕ
most_given (Dep s m event code) = 0
most_given (Rea m s o) = cond o.fires (length o.outs) 0
