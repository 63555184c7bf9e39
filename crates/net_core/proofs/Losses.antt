-- The losses of a journal, entry by entry.
use Rattle.std.specs.Prelude.{◌≡◌, ◌⊎◌, ◌≤◌, nat_lt, ℕ, zero, suc, ◌+◌, ◌<◌, Bool, true, false, cond, not, ◌&&◌, ◌||◌, ◌==◌, List, [], ◌∷◌, ◌++◌, map, length, take, drop, slice_get, slice_index, Option, Some, None, option_map, unwrap_or, position, MatchOption}
use Rattle.std.specs.List.{position_or_len}
use Rattle.std.proofs.Common.{inl, inr, refl, sym, ap, ◌∙◌, subst, arith, get_or}
use Rattle.std.proofs.lemmas.Bool.{eqb-true, or_from, or_left, ltb-true, ltb-false}
use Rattle.std.proofs.lemmas.List.{drop_more, get_or_append_left, get_or-map, length-map}
use Rattle.std.proofs.lemmas.List.Sums.{fails_before_first, passes_at_first}
use Rattle.std.proofs.lemmas.Option.{slice_get_within, get_or_from_slice_get}
use Rattle.polis_base.specs.Lists.{upto}
use Rattle.transition_table.specs.NetworkFacts.{has}
use Rattle.transition_table.specs.declared.decl.Party.{Party}
use Rattle.transition_table.specs.declared.machine.Machine.{Machine}
use Rattle.transition_table.specs.declared.network.Network.{Network}
use Rattle.transition_table.specs.declared.snapshot.Snapshot.{Snapshot}
use Rattle.journals.specs.declared.entry.Entry.{Entry}
use Rattle.journals.specs.declared.entry.Entry.TheVariants.{Dep, Rea}
use Rattle.journals.specs.Journals.{inputs_of, states_of, buffered, state, snap}
use Rattle.journals.proofs.EntriesAt.{prefix_more}
use Rattle.net_core.specs.inner.Losses.{Overwrites}
use Rattle.journals.specs.Moved.{machine_of}
use Rattle.journals.specs.Outputs.{overwrites, lost_after}

-- ---- what is present

-- what the place of the first that passes says
at_position : {X : Type 0} (p : X → Bool) (xs : List X) (P : Type 0) (Q : ℕ → Type 0)
    → MatchOption (position p xs) P Q
    → ((P × (length xs ≤ position_or_len p xs))
    ⊎ (Q (position_or_len p xs) × (position_or_len p xs < length xs)))
at_position p xs P Q h =
    (elim (nat_lt (position_or_len p xs) (length xs)) as
    (λ b. nat_lt (position_or_len p xs) (length xs) ≡ b
    → MatchOption (cond b (Some (position_or_len p xs)) None) P Q
    → ((P × (length xs ≤ position_or_len p xs))
    ⊎ (Q (position_or_len p xs) × (position_or_len p xs < length xs)))) [
      | true ↦ λ e g. inr (g, ltb-true (position_or_len p xs) (length xs) e)
      | false ↦ λ e g. inl (g, ltb-false (position_or_len p xs) (length xs) e)
    ]) refl h

has_at : (inputs : List ℕ) (i e d : ℕ) → i < length inputs → (get_or inputs i d == e) ≡ true
    → has inputs e ≡ true
has_at [] i e d below here = absurd (omega arith)
has_at (x ∷ inputs) zero e d below here = or_left (x == e) (has inputs e) here
has_at (x ∷ inputs) (suc i) e d below here =
    or_later (x == e) (has inputs e) (has_at inputs i e d (omega arith) here)
  where
    or_later : (a b : Bool) → b ≡ true → (a || b) ≡ true
    or_later true b h = refl
    or_later false b h = h

has_nowhere : (inputs : List ℕ) (e d : ℕ)
    → ((k : ℕ) → k < length inputs → (get_or inputs k d == e) ≡ false) → has inputs e ≡ false
has_nowhere [] e d none = refl
has_nowhere (x ∷ inputs) e d none =
    or_from (x == e) (has inputs e) (none 0 (omega arith))
    (has_nowhere inputs e d (λ k h. none (suc k) (omega arith)))

present_by_position : (inputs codes : List ℕ) (f : ℕ → ℕ) (rest : List ℕ) (e : ℕ) (b : Bool)
    → codes ≡ map f inputs ++ rest
    → MatchOption (position (λ input. input == e) inputs) (b ≡ false)
    (λ i. b ≡ not (slice_index codes i == 0)) → b ≡ (has inputs e && not (f e == 0))
present_by_position inputs codes f rest e b are h =
    let p : ℕ → Bool = λ input. input == e in
    let i = position_or_len p inputs in
    elim (at_position p inputs (b ≡ false) (λ i. b ≡ not (slice_index codes i == 0)) h) [
      | inl (none, past) ↦
          none ∙ sym (ap (λ (h : Bool). h && not (f e == 0))
          (has_nowhere inputs e 0 (λ k below. fails_before_first p inputs k 0 (omega arith))))
      | inr (full, within) ↦
          let here = passes_at_first p inputs 0 within in
          let same : get_or inputs i 0 ≡ e = eqb-true (get_or inputs i 0) e here in
          let size = length-map inputs f in
          let code : slice_index codes i ≡ f e =
          ap (λ (l : List ℕ). get_or l i 0) are
          ∙ get_or_append_left (map f inputs) rest 0 i (omega arith)
          ∙ get_or-map f inputs i 0 0 within ∙ ap f same in
          full ∙ ap (λ (n : ℕ). not (n == 0)) code
          ∙ sym (ap (λ (h : Bool). h && not (f e == 0)) (has_at inputs i e 0 within here))
    ]

pub overwrites_is : (net : Network) (journal : List Entry) (machine : Machine) (before : Snapshot)
    (entry : Entry) (b : Bool) → slice_get net.machines (machine_of entry) ≡ Some machine
    → before ≡ snap net journal (machine_of entry) → Overwrites machine before entry b
    → b ≡ overwrites net journal entry
overwrites_is net journal machine before (Rea m s o) b at is h = h
overwrites_is net journal machine before (Dep s m e c) b at is h =
    let inputs : inputs_of net m ≡ machine.inputs =
    ap (λ (o : Option Machine). unwrap_or (option_map (λ machine. machine.inputs) o) []) at in
    let values = map (state net journal m) (upto (length (states_of net m))) in
    let codes = ap (λ (x : Snapshot). x.codes) is
    ∙ ap (λ (l : List ℕ). map (buffered journal m) l ++ values) inputs in
    present_by_position machine.inputs before.codes (buffered journal m) values e b codes h
    ∙ ap (λ (l : List ℕ). has l e && not (buffered journal m e == 0)) (sym inputs)

-- ---- one entry more

pub losses_more : (net : Network) (journal : List Entry) (i : ℕ) (entry : Entry)
    → slice_get journal i ≡ Some entry
    → lost_after net (take i journal) (drop i journal)
    ≡ cond (overwrites net (take i journal) entry) 1 0
    + lost_after net (take (i + 1) journal) (drop (i + 1) journal)
losses_more net journal i entry at =
    let rest = drop_more journal i entry (slice_get_within journal i entry at)
    ∙ ap (λ x. x ∷ drop (i + 1) journal) (get_or_from_slice_get journal i entry entry at) in
    ap (lost_after net (take i journal)) rest
    ∙ ap (λ (l : List Entry). cond (overwrites net (take i journal) entry) 1 0
    + lost_after net l (drop (i + 1) journal)) (sym (prefix_more journal i entry at))

-- ---- what the place of an event says

pub overwrites_at : (machine : Machine) (before : Snapshot) (entry : Entry) (s : Party)
    (m e c i code : ℕ) (found : Option ℕ) → entry ≡ Dep s m e c
    → found ≡ position (λ input. input == e) machine.inputs → found ≡ Some i
    → slice_get before.codes i ≡ Some code → Overwrites machine before entry (not (code == 0))
overwrites_at machine before entry s m e c i code found is place at here =
    subst (λ (x : Entry). Overwrites machine before x (not (code == 0))) (sym is)
    (subst (λ (o : Option ℕ). MatchOption o (not (code == 0) ≡ false)
    (λ i. not (code == 0) ≡ not (slice_index before.codes i == 0))) (sym at ∙ place)
    (ap (λ (n : ℕ). not (n == 0)) (sym (get_or_from_slice_get before.codes i code 0 here))))

pub overwrites_nowhere : (machine : Machine) (before : Snapshot) (entry : Entry) (s : Party)
    (m e c : ℕ) (found : Option ℕ) → entry ≡ Dep s m e c
    → found ≡ position (λ input. input == e) machine.inputs → found ≡ None
    → Overwrites machine before entry false
overwrites_nowhere machine before entry s m e c found is place at =
    subst (λ (x : Entry). Overwrites machine before x false) (sym is)
    (subst (λ (o : Option ℕ). MatchOption o (false ≡ false)
    (λ i. false ≡ not (slice_index before.codes i == 0))) (sym at ∙ place) refl)
