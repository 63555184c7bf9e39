-- What became of the deliveries to each input of each machine: how many came, were read and were
-- lost, and what is left.
use Rattle.std.specs.Prelude.{ℕ, Bool, false, not, ◌&&◌, ◌==◌, List, map, filter, flat_map, count_by, length, take, slice_get, slice_index}
use Rattle.std.specs.List.{enumerate_from}
use Rattle.std.specs.Option.{option_map_or}
use Rattle.polis_base.specs.Lists.{upto, head_of}
use Rattle.transition_table.specs.declared.network.Network.{Network}
use Rattle.journals.specs.declared.entry.Entry.{Entry}
use Rattle.journals.specs.declared.entry.Entry.TheVariants.{Dep, Rea}
use Rattle.journals.specs.Journals.{inputs_of, buffered}
use Rattle.event_accounts.specs.declared.account.Account.{Account}

-- the buffer of an input: its machine, its place among the machine's inputs, and its event
pub record Buffer : Type 0 where
  pub machine : ℕ
  pub place : ℕ
  pub event : ℕ

-- the buffer of a machine's input at place i, which has the event e
abbrev pub buffer_at : ℕ → ℕ × ℕ → Buffer
buffer_at m (i, e) = record { machine = m; place = i; event = e }

-- the buffers of a machine, by input
abbrev pub buffers_of : Network → ℕ → List Buffer
buffers_of net m = map (buffer_at m) (enumerate_from 0 (inputs_of net m))

-- the buffers of the network, by machine and then by input
abbrev pub buffers : Network → List Buffer
buffers net = flat_map (buffers_of net) (upto (length net.machines))

-- the entry delivers e to m
abbrev pub is_delivery_of : ℕ → ℕ → Entry → Bool
is_delivery_of m e (Dep from to event code) = to == m && event == e
is_delivery_of m e (Rea k s o) = false

-- the entry is a firing of m that reads its input at place i: the snapshot has it present
abbrev pub consumes : ℕ → ℕ → Entry → Bool
consumes m i (Dep from to event code) = false
consumes m i (Rea k s o) = k == m && o.fires && not (slice_index s.codes i == 0)

-- the entry at place p delivers e to m, and the input is present before it: what stood there is
-- lost
abbrev pub overwrites_at : List Entry → ℕ → ℕ → ℕ → Bool
overwrites_at journal m e p =
    option_map_or (is_delivery_of m e) (slice_get journal p) false
    && not (buffered (take p journal) m e == 0)

-- the places of the entries that overwrite, in order
abbrev pub loss_places : List Entry → ℕ → ℕ → List ℕ
loss_places journal m e = filter (overwrites_at journal m e) (upto (length journal))

-- how many deliveries came to the buffer, how many firings read one, how many were lost, whether
-- one is left, and which entry overwrote first
abbrev pub account : List Entry → Buffer → Account
account journal b =
    record {
      delivered = count_by (is_delivery_of b.machine b.event) journal;
      read = count_by (consumes b.machine b.place) journal;
      lost = length (loss_places journal b.machine b.event);
      left = not (buffered journal b.machine b.event == 0);
      first = head_of (loss_places journal b.machine b.event);
    }

-- one account for each buffer
abbrev pub accounts_of : Network → List Entry → List Account
accounts_of net journal = map (account journal) (buffers net)
