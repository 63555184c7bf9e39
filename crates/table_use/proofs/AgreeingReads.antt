-- What coverage counts of each input as read is what the account of its buffer counts.
use Rattle.std.proofs.Common.{◌≡◌, ℕ, ◌+◌, Bool, List, [], ◌∷◌, ◌++◌, count_by, flat_map, length, map, slice_get, Some, refl, sym, ap, ◌∙◌, arith}
use Rattle.std.specs.List.{enumerate_from}
use Rattle.std.proofs.lemmas.List.{length_push}
use Rattle.std.proofs.lemmas.List.Folds.{flat_map-map}
use Rattle.std.proofs.lemmas.Option.{slice_get_within}
use Rattle.polis_base.specs.Lists.{upto}
use Rattle.transition_table.specs.declared.machine.Machine.{Machine}
use Rattle.transition_table.specs.declared.network.Network.{Network}
use Rattle.journals.specs.declared.entry.Entry.{Entry}
use Rattle.journals.specs.declared.entry.Entry.TheVariants.{Dep, Rea}
use Rattle.journals.specs.Seen.{is_present}
use Rattle.outcome_table.proofs.ListMaps.{map_flat}
use Rattle.event_accounts.specs.Accounts.{account, buffer_at, buffers_of, consumes}
use Rattle.event_accounts.specs.declared.account.Account.{Account}
use Rattle.event_accounts.proofs.InputsOf.{inputs_of_machine}
use Rattle.event_accounts.proofs.OneItemMore.{by_end}
use Rattle.table_use.specs.Coverage.{coverage_of, fires_on, input_use}
use Rattle.table_use.specs.Laws.{ReadsAgree}
use Rattle.table_use.specs.declared.used.InputUse.{InputUse}
use Rattle.table_use.specs.declared.used.MachineUse.{MachineUse}
use Rattle.table_use.proofs.Pushed.{numbered_push}
use Rattle.polis_base.proofs.Places.{get_end, get_left, map_of_map}
use Rattle.polis_base.proofs.UptoPlaces.{map_upto}

-- what is made of each item and its number is made of the number alone
abbrev OfNumbers : {X Y : Type 0} → (ℕ × X → Y) → (ℕ → Y) → List X → Type 0
OfNumbers {X} {Y} f g xs =
    ((k : ℕ) (x : X) → slice_get xs k ≡ Some x → f (k, x) ≡ g k)
    → map f (enumerate_from 0 xs) ≡ map g (upto (length xs))

by_number : {X Y : Type 0} (f : ℕ × X → Y) (g : ℕ → Y) (xs : List X) → OfNumbers f g xs
by_number {X} {Y} f g xs = by_end (OfNumbers f g) (λ same. refl) more xs
  where
    more : (xs : List X) (x : X) → OfNumbers f g xs → OfNumbers f g (xs ++ x ∷ [])
    more xs x before same =
        let n = length xs in
        let number : 0 + n ≡ n = omega arith in
        numbered_push f 0 xs x
        ∙ ap (λ (k : ℕ). map f (enumerate_from 0 xs) ++ f (k, x) ∷ []) number
        ∙ ap (λ (l : List Y). l ++ f (n, x) ∷ [])
        (before (λ k y at.
        same k y (get_left xs (x ∷ []) k (slice_get_within xs k y at) ∙ at)))
        ∙ ap (λ (y : Y). map g (upto n) ++ y ∷ []) (same n x (get_end xs x))
        ∙ sym (map_upto g n)
        ∙ ap (λ (k : ℕ). map g (upto k)) (sym (length_push xs x))

same_entry : (m i : ℕ) (x : Entry) → consumes m i x ≡ fires_on m (is_present i) x
same_entry m i (Dep from to event code) = refl
same_entry m i (Rea k s o) = refl

same_count : (m i : ℕ) (journal : List Entry)
    → count_by (consumes m i) journal ≡ count_by (fires_on m (is_present i)) journal
same_count m i journal = ap (λ (p : Entry → Bool). count_by p journal) (λ j x. same_entry m i x j)

abbrev read_of : Account → ℕ
read_of a = a.read

abbrev reads_of_machine : MachineUse → List ℕ
reads_of_machine used = map (λ (input : InputUse). input.read.count) used.inputs

-- of the inputs of one machine
abbrev reads_at : Network → List Entry → ℕ → List ℕ
reads_at net journal m = map read_of (map (account journal) (buffers_of net m))

machine_reads : (net : Network) (journal : List Entry) (m : ℕ) (machine : Machine)
    → slice_get net.machines m ≡ Some machine
    → reads_of_machine (coverage_of journal (m, machine)) ≡ reads_at net journal m
machine_reads net journal m machine at =
    map_of_map (λ (input : InputUse). input.read.count) (input_use machine m journal)
    (upto (length machine.inputs))
    ∙ sym
    (by_number (λ (b : ℕ × ℕ). (account journal (buffer_at m b)).read)
    (λ i. (input_use machine m journal i).read.count) machine.inputs
    (λ i e there. same_count m i journal))
    ∙ sym (map_of_map (λ b. (account journal b).read) (buffer_at m) (enumerate_from 0 machine.inputs))
    ∙ sym (map_of_map read_of (account journal) (map (buffer_at m) (enumerate_from 0 machine.inputs)))
    ∙ ap (λ (l : List ℕ). map read_of (map (account journal) (map (buffer_at m)
    (enumerate_from 0 l))))
    (sym (inputs_of_machine net m machine at))

pub reads_agree : ReadsAgree
reads_agree net journal =
    let numbered = enumerate_from 0 net.machines in
    let numbers = upto (length net.machines) in
    let of : ℕ × Machine → List ℕ = λ x. reads_of_machine (coverage_of journal x) in
    let at = reads_at net journal in
    flat_map-map reads_of_machine (coverage_of journal) numbered
    ∙ sym (flat_map-map (λ (l : List ℕ). l) of numbered)
    ∙ ap (flat_map (λ (l : List ℕ). l))
    (by_number of at net.machines (machine_reads net journal))
    ∙ flat_map-map (λ (l : List ℕ). l) at numbers
    ∙ sym (map_flat read_of (λ m. map (account journal) (buffers_of net m)) numbers)
    ∙ sym (ap (map read_of) (map_flat (account journal) (buffers_of net) numbers))
