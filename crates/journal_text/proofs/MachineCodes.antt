-- The codes of a machine's snapshots and outcomes, in the sizes that the network gives them.
use Rattle.std.proofs.Common.{◌≡◌, ◌≤◌, ℕ, true, ◌==◌, ◌+◌, nat_lt, nat_le, List, [], ◌∷◌, ◌++◌, map, length, take, drop, sym, refl, ◌∙◌, ap, arith}
use Rattle.std.specs.Prelude.{IsTrue, slice_get, Some}
use Rattle.std.specs.List.{list_all}
use Rattle.std.specs.Cmp.Lexicographic.{pointwise, same_text}
use Rattle.std.proofs.lemmas.List.{take-append-drop, length-map, take_at, drop_at}
use Rattle.std.proofs.lemmas.Simd.{map-map}
use Rattle.domains.specs.Tables.{fits}
use Rattle.transition_table.specs.NetworkFacts.{has_vars, has_outputs}
use Rattle.transition_table.specs.Transitions.{IsSnapshot, IsOutcome}
use Rattle.journals.specs.Journals.{FitsNetwork}
use Rattle.journals.specs.declared.entry.Entry.TheVariants.{Rea}
use Rattle.transition_table.specs.declared.machine.Machine.{Machine}
use Rattle.transition_table.specs.declared.network.Network.{Network}
use Rattle.transition_table.specs.declared.snapshot.Snapshot.{Snapshot}
use Rattle.transition_table.specs.declared.snapshot.Outcome.{Outcome}
use Rattle.journal_text.specs.inner.Texts.{event_size, state_size, set_size, are_event_codes, are_values, are_settings}
use Rattle.domains.proofs.FittingCodes.{fits_prefix}
use Rattle.polis_base.proofs.Bools.{and_first, and_second}
use Rattle.polis_base.proofs.ListTests.{all_get}

-- codes that fit two lists of sizes, one after the other
long_enough : (xs ys codes : List ℕ) → fits (xs ++ ys) codes ≡ true → length xs ≤ length codes
long_enough [] ys codes h = omega arith
long_enough (x ∷ xs) ys [] h = cc
long_enough (x ∷ xs) ys (code ∷ codes) h = let r =
    long_enough xs ys codes (and_second (nat_lt code x) _ h) in omega arith

back_fits : (xs ys codes : List ℕ) → fits (xs ++ ys) codes ≡ true
    → fits ys (drop (length xs) codes) ≡ true
back_fits [] ys codes h = h
back_fits (x ∷ xs) ys [] h = cc
back_fits (x ∷ xs) ys (code ∷ codes) h = back_fits xs ys codes (and_second (nat_lt code x) _ h)

-- the sizes of a machine's variables
pub vars_are : (net : Network) (m : Machine) → IsTrue (has_vars net.domains net.events m)
    → m.vars ≡ map (event_size net) m.inputs ++ map (state_size net) m.states
vars_are net m h =
    same_text m.vars (map (event_size net) m.inputs ++ map (state_size net) m.states) (sym h)

pub inputs_in : (net : Network) (m : Machine) (s : Snapshot)
    → IsTrue (has_vars net.domains net.events m) → IsSnapshot m s → length m.inputs ≤ length s.codes
inputs_in net m s h fit =
    let e = vars_are net m h in
    let f = rw e at fit in
    let l = long_enough (map (event_size net) m.inputs) (map (state_size net) m.states) s.codes f in
    rw (length-map m.inputs (event_size net)) at l

pub inputs_fit : (net : Network) (m : Machine) (s : Snapshot)
    → IsTrue (has_vars net.domains net.events m) → IsSnapshot m s
    → are_event_codes net m.inputs (take (length m.inputs) s.codes) ≡ true
inputs_fit net m s h fit =
    let e = vars_are net m h in
    let f = rw e at fit in
    let l = fits_prefix (map (event_size net) m.inputs) (map (state_size net) m.states) s.codes f in
    rw (length-map m.inputs (event_size net)) at l

pub states_fit : (net : Network) (m : Machine) (s : Snapshot)
    → IsTrue (has_vars net.domains net.events m) → IsSnapshot m s
    → are_values net m.states (drop (length m.inputs) s.codes) ≡ true
states_fit net m s h fit =
    let e = vars_are net m h in
    let f = rw e at fit in
    let l = back_fits (map (event_size net) m.inputs) (map (state_size net) m.states) s.codes f in
    rw (length-map m.inputs (event_size net)) at l

-- the sizes of what a machine sets and emits, after the size of `go`
pub results_are : (net : Network) (m : Machine) → IsTrue (has_vars net.domains net.events m)
    → IsTrue (has_outputs net.domains net.events m)
    → drop 1 m.results ≡ map (set_size net) m.states ++ map (event_size net) m.outputs
results_are net m vars outs =
    let n = 1 + length m.states in
    let v = vars_are net m vars in
    let d : drop (length m.inputs) m.vars ≡ map (state_size net) m.states =
    rw v (drop_at _ _ _ (length-map m.inputs (event_size net))) in
    let sets : pointwise ◌==◌ (2 ∷ map (λ size. 1 + size) (drop (length m.inputs) m.vars))
    (take n m.results) ≡ true =
    and_second (length m.results == n + length m.outputs) _
    (and_first _ (list_all (nat_le 2) (drop n m.results)) m.sized_results) in
    let prefix = same_text (2 ∷ map (λ size. 1 + size) (drop (length m.inputs) m.vars))
    (take n m.results) (sym sets) in
    let back = same_text (drop n m.results) (map (event_size net) m.outputs) (sym outs) in
    let whole : take n m.results ++ drop n m.results
    ≡ 2 ∷ map (set_size net) m.states ++ map (event_size net) m.outputs =
    rw (← prefix, back, d, map-map (λ size. 1 + size) (state_size net) m.states) refl in
    ap (drop 1) (sym (take-append-drop n m.results) ∙ whole)

-- codes in two parts, the first as long as the sizes that it fits
both_fit : (xs ys codes more : List ℕ) → length codes ≡ length xs
    → fits (xs ++ ys) (codes ++ more) ≡ true → (fits xs codes ≡ true) × (fits ys more ≡ true)
both_fit xs ys codes more same h =
    let f = fits_prefix xs ys (codes ++ more) h in
    let b = back_fits xs ys (codes ++ more) h in
    let t : take (length xs) (codes ++ more) ≡ codes = take_at codes more _ same in
    let d : drop (length xs) (codes ++ more) ≡ more = drop_at codes more _ same in
    (rw t at f, rw d at b)

result_fits : (net : Network) (m : Machine) (o : Outcome)
    → IsTrue (has_vars net.domains net.events m) → IsTrue (has_outputs net.domains net.events m)
    → IsOutcome m o
    → (are_settings net m.states o.next ≡ true) × (are_event_codes net m.outputs o.outs ≡ true)
result_fits net m o vars outs is =
    let e = results_are net m vars outs in
    let c = is.codes in
    let f = rw e at c in
    both_fit (map (set_size net) m.states) (map (event_size net) m.outputs) o.next o.outs
    (is.widths.next ∙ sym (length-map m.states (set_size net))) f

pub settings_fit : (net : Network) (m : Machine) (o : Outcome)
    → IsTrue (has_vars net.domains net.events m) → IsTrue (has_outputs net.domains net.events m)
    → IsOutcome m o
    → are_settings net m.states o.next ≡ true
settings_fit net m o vars outs is = (result_fits net m o vars outs is).0

pub outputs_fit : (net : Network) (m : Machine) (o : Outcome)
    → IsTrue (has_vars net.domains net.events m) → IsTrue (has_outputs net.domains net.events m)
    → IsOutcome m o
    → are_event_codes net m.outputs o.outs ≡ true
outputs_fit net m o vars outs is = (result_fits net m o vars outs is).1

-- the outputs of a reaction that fits the network
pub emitted_fit : (net : Network) (k : ℕ) (s : Snapshot) (o : Outcome) (m : Machine)
    → FitsNetwork net (Rea k s o) → slice_get net.machines k ≡ Some m
    → are_event_codes net m.outputs o.outs ≡ true
emitted_fit net k s o m fit there =
    let vars = all_get (has_vars net.domains net.events) net.machines k m net.sized_vars there in
    let outs = all_get (has_outputs net.domains net.events) net.machines k m net.sized_outputs
    there in
    let is = rw there at fit in
    outputs_fit net m o vars outs is.1
