-- What a firing emits, output by output.
use Rattle.std.specs.Prelude.{◌≡◌, ℕ, zero, suc, ◌+◌, ◌<◌, ◌&&◌, nat_lt, List, [], ◌∷◌, length, drop, slice_get, Option, Some, option_map, unwrap_or}
use Rattle.std.specs.List.{list_all}
use Rattle.std.proofs.Common.{ap, ◌∙◌, arith}
use Rattle.std.proofs.lemmas.List.{drop_more}
use Rattle.std.proofs.lemmas.Bool.{ltb-true, and_parts}
use Rattle.std.proofs.lemmas.Option.{slice_get_within, get_or_from_slice_get}
use Rattle.transition_table.specs.NetworkFacts.{is_numbered}
use Rattle.transition_table.specs.declared.machine.Machine.{Machine}
use Rattle.transition_table.specs.declared.network.Network.{Network}
use Rattle.journals.specs.Journals.{outputs_of, emitted}
use Rattle.polis_base.proofs.ListTests.{all_get}

-- an output of a machine is an event
pub output_is_event : (net : Network) (m : ℕ) (machine : Machine) (k e : ℕ)
    → slice_get net.machines m ≡ Some machine → slice_get machine.outputs k ≡ Some e
    → e < length net.events
output_is_event net m machine k e at is =
    let all =
    all_get (is_numbered net.domains net.events) net.machines m machine net.numbered at in
    let inputs = list_all (λ e. nat_lt e (length net.events)) machine.inputs in
    let outputs = list_all (λ e. nat_lt e (length net.events)) machine.outputs in
    let states = list_all (λ state. nat_lt state.domain (length net.domains)) machine.states in
    ltb-true e (length net.events)
    (all_get (λ e. nat_lt e (length net.events)) machine.outputs k e
    (and_parts inputs outputs (and_parts (inputs && outputs) states all).0).1 is)

pub outputs_of_machine : (net : Network) (m : ℕ) (machine : Machine)
    → slice_get net.machines m ≡ Some machine → outputs_of net m ≡ machine.outputs
outputs_of_machine net m machine at =
    ap (λ (o : Option Machine). unwrap_or (option_map (λ machine. machine.outputs) o) []) at

pub drop_at_item : {X : Type 0} (xs : List X) (i : ℕ) (x : X) → slice_get xs i ≡ Some x
    → drop i xs ≡ x ∷ drop (i + 1) xs
drop_at_item xs i x at = drop_more xs i x (slice_get_within xs i x at)
    ∙ ap (λ y. y ∷ drop (i + 1) xs) (get_or_from_slice_get xs i x x at)

-- what is emitted from a place on
pub emitted_none : (events codes : List ℕ) (k e c : ℕ) → slice_get events k ≡ Some e
    → slice_get codes k ≡ Some c → c ≡ 0
    → emitted (drop k events) (drop k codes) ≡ emitted (drop (k + 1) events) (drop (k + 1) codes)
emitted_none events codes k e c event code none =
    ap (λ l. emitted l (drop k codes)) (drop_at_item events k e event)
    ∙ ap (λ l. emitted (e ∷ drop (k + 1) events) l) (drop_at_item codes k c code)
    ∙ ap (λ n. emitted (e ∷ drop (k + 1) events) (n ∷ drop (k + 1) codes)) none

pub emitted_one : (events codes : List ℕ) (k e c : ℕ) → slice_get events k ≡ Some e
    → slice_get codes k ≡ Some c → 0 < c
    → emitted (drop k events) (drop k codes)
    ≡ (e, c) ∷ emitted (drop (k + 1) events) (drop (k + 1) codes)
emitted_one events codes k e zero event code some = absurd (omega arith)
emitted_one events codes k e (suc v) event code some =
    ap (λ l. emitted l (drop k codes)) (drop_at_item events k e event)
    ∙ ap (λ l. emitted (e ∷ drop (k + 1) events) l) (drop_at_item codes k (suc v) code)
