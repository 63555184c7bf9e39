-- There is one shuffled journal of each number of entries, and that of fewer begins that of more.
use Rattle.std.proofs.Common.{◌≡◌, ◌⊎◌, ℕ, zero, suc, ◌+◌, ◌*◌, ◌^◌, ◌/◌, ◌<◌, ◌≤◌, List, [], ◌∷◌, ◌++◌, length, slice_get, Option, Some, None, refl, sym, ap, ◌∙◌, subst, inl, inr, append_assoc, length-append, arith}
use Rattle.std.specs.Prelude.{IsSomeAnd}
use Rattle.std.specs.List.{Contains}
use Rattle.std.proofs.Math.Nat.{mod-lt}
use Rattle.std.proofs.lemmas.Bool.{cases_lt}
use Rattle.std.proofs.lemmas.List.{append-nil, nil_from_length}
use Rattle.std.proofs.lemmas.Nat.{pow_pos}
use Rattle.polis_base.specs.Draws.{draw, next}
use Rattle.polis_base.specs.Lists.{Begins}
use Rattle.transition_table.specs.Laws.{OneOutcome, TransitionFits}
use Rattle.transition_table.specs.Transitions.{AreDeterministic, Transition}
use Rattle.transition_table.specs.declared.machine.Machine.{Machine}
use Rattle.transition_table.specs.declared.network.Network.{Network}
use Rattle.transition_table.specs.declared.snapshot.Outcome.{Outcome}
use Rattle.journals.specs.declared.entry.Entry.{Entry}
use Rattle.journals.specs.declared.entry.Entry.TheVariants.{Dep, Rea}
use Rattle.journals.specs.declared.entry.Pick.{Pick}
use Rattle.journals.specs.declared.entry.Pick.TheVariants.{Deliver, React, Stop}
use Rattle.journals.specs.declared.entry.TraceItem.{TraceItem}
use Rattle.journals.specs.AllLaws.{JournalLaws, SendingLaws}
use Rattle.journals.specs.Journals.{IsTrace, snap}
use Rattle.journals.specs.Legality.{Legal}
use Rattle.journals.specs.Reactions.{outcome_on}
use Rattle.journals.specs.Schedules.{IsPicked}
use Rattle.journals.proofs.Follows.{one_picked}
use Rattle.journals.proofs.Reactions.{none_within}
use Rattle.run_shuffle.specs.declared.order.RunOrder.{RunOrder}
use Rattle.run_shuffle.specs.Laws.{FewerBeginMore, OneShuffle, SomeShuffle}
use Rattle.run_shuffle.specs.Orders.{env_offered, network_offered, offered}
use Rattle.run_shuffle.specs.Shuffles.{IsDrawn, chosen, drawn, first_draw, pace, run_order, stirred}
use Rattle.run_shuffle.proofs.ChosenMoves.{chosen_is_one}
use Rattle.run_shuffle.proofs.OffersUntilComplete.{offered_is_sound}
use Rattle.polis_base.proofs.Members.{none_in_empty}
use Rattle.run_shuffle.proofs.Shuffles.{chosen_is_offered, drawn_is_legal}

-- ---- the shorter of two begins the longer

one_drawn : OneOutcome → JournalLaws → SendingLaws → TransitionFits
    → (net : Network) (trace : List TraceItem) (order : RunOrder) (pace x : ℕ)
    (journal xs ys : List Entry) → AreDeterministic net → IsTrace net trace
    → Legal net trace journal → IsDrawn net trace order pace x journal xs
    → IsDrawn net trace order pace x journal ys → length xs ≤ length ys → Begins xs ys
one_drawn one laws sending fits net trace order pace x journal [] ys d t h f g short = (ys, refl)
one_drawn one laws sending fits net trace order pace x journal (e ∷ xs) [] d t h f g short =
    absurd (omega arith)
one_drawn one laws sending fits net trace order pace x journal (e ∷ xs) (y ∷ ys) d t h f g short =
    let same : e ≡ y =
    one_picked one net journal (drawn net trace order pace x journal) e y d h.0 f.0 g.0 in
    let legal =
    drawn_is_legal laws sending fits net trace order pace x journal (e ∷ []) t h (f.0, tt) in
    let rest =
    one_drawn one laws sending fits net trace order pace (next x) (journal ++ e ∷ []) xs ys d t
    legal f.1
    (subst (λ z. IsDrawn net trace order pace (next x) (journal ++ z ∷ []) ys) (sym same) g.1)
    (omega arith) in
    (rest.0, ap (λ z. z ∷ ys) (sym same) ∙ ap (λ l. e ∷ l) rest.1)

drawn_rest : (net : Network) (trace : List TraceItem) (order : RunOrder) (pace x : ℕ)
    (journal xs rest : List Entry) → IsDrawn net trace order pace x journal (xs ++ rest)
    → (y : ℕ) × IsDrawn net trace order pace y (journal ++ xs) rest
drawn_rest net trace order pace x journal [] rest h =
    (x, subst (λ j. IsDrawn net trace order pace x j rest) (sym (append-nil journal)) h)
drawn_rest net trace order pace x journal (e ∷ xs) rest h =
    let (y, further) = drawn_rest net trace order pace (next x) (journal ++ e ∷ []) xs rest h.1 in
    (y, subst (λ j. IsDrawn net trace order pace y j rest) (append_assoc journal (e ∷ []) xs) further)

-- where nothing is offered nothing is drawn
nothing_drawn : (net : Network) (trace : List TraceItem) (order : RunOrder) (pace x : ℕ)
    (journal rest : List Entry) → IsDrawn net trace order pace x journal rest
    → offered order net trace journal ≡ [] → rest ≡ []
nothing_drawn net trace order pace x journal [] h none = refl
nothing_drawn net trace order pace x journal (entry ∷ rest) h none =
    let env : List Pick = env_offered order net trace journal in
    let network : List Pick = network_offered order net trace journal in
    let k = draw x (length env + pace * length network) in
    let member = chosen_is_offered net journal env network pace k entry h.0 in
    absurd
    (none_in_empty (chosen env network pace k)
    (subst (λ l. Contains l (chosen env network pace k)) none member))

abbrev Whole : Network → List TraceItem → RunOrder → ℕ → List Entry → Type 0
Whole net trace order n journal =
    (length journal ≡ n) ⊎ ((length journal < n) × (offered order net trace journal ≡ []))

none_left : (net : Network) (trace : List TraceItem) (order : RunOrder) (pace x n : ℕ)
    (j k rest : List Entry) → k ≡ j ++ rest → IsDrawn net trace order pace x [] k
    → Whole net trace order n j → length k ≤ n → rest ≡ []
none_left net trace order pace x n j k rest is d (inl full) low =
    let long : length k ≡ length j + length rest = ap length is ∙ length-append j rest in
    nil_from_length rest (omega arith)
none_left net trace order pace x n j k rest is d (inr (below, none)) low =
    let (y, further) =
    drawn_rest net trace order pace x [] j rest
    (subst (λ l. IsDrawn net trace order pace x [] l) is d) in
    nothing_drawn net trace order pace y j rest further none

within : (net : Network) (trace : List TraceItem) (order : RunOrder) (n : ℕ) (j : List Entry)
    → Whole net trace order n j → length j ≤ n
within net trace order n j (inl full) = omega arith
within net trace order n j (inr (below, none)) = omega arith

pub fewer_begin_more : OneOutcome → JournalLaws → SendingLaws → TransitionFits → FewerBeginMore
fewer_begin_more one laws sending fits net trace seed order n k j l d t low f g =
    elim (cases_lt (length l) (length j)) [
      | inl longer ↦ absurd (no_longer longer)
      | inr short ↦
          one_drawn one laws sending fits net trace (run_order order seed) (pace seed)
          (first_draw order seed) [] j l d t (tt, tt) f.drawn g.drawn (omega arith)
    ]
  where
    no_longer : length l < length j → ⊥
    no_longer longer =
        let (rest, is) =
        one_drawn one laws sending fits net trace (run_order order seed) (pace seed)
        (first_draw order seed) [] l j d t (tt, tt) g.drawn f.drawn (omega arith) in
        let small = within net trace (run_order order seed) n j f.whole in
        let none =
        none_left net trace (run_order order seed) (pace seed) (first_draw order seed) k l j rest
        is f.drawn g.whole (omega arith) in
        let size : length j ≡ length l + length rest = ap length is ∙ length-append l rest in
        let empty = ap length none in
        omega (arith, size, empty, longer)

pub one_shuffle : OneOutcome → JournalLaws → SendingLaws → TransitionFits → OneShuffle
one_shuffle one laws sending fits net trace seed order n j k d t f g =
    let (rest, is) =
    fewer_begin_more one laws sending fits net trace seed order n n j k d t (omega arith) f g in
    let none =
    none_left net trace (run_order order seed) (pace seed) (first_draw order seed) n j k rest is
    g.drawn f.whole (within net trace (run_order order seed) n k g.whole) in
    sym (is ∙ ap (λ l. j ++ l) none ∙ append-nil j)

-- ---- there is one

-- a machine has a transition
reacts : JournalLaws → (net : Network) (journal : List Entry) (m : ℕ) (found : Option Machine)
    → slice_get net.machines m ≡ found → m < length net.machines
    → (o : Outcome) × IsSomeAnd found (λ machine. Transition machine (snap net journal m) o)
reacts laws net journal m None is below = absurd (none_within net.machines m below is)
reacts laws net journal m (Some machine) is below =
    (outcome_on machine (snap net journal m), laws.gives_transition machine (snap net journal m))

-- a move has an entry
entry_for : JournalLaws → (net : Network) (journal : List Entry) (move : Pick)
    → (move ≡ Stop → ⊥) → ((m : ℕ) → move ≡ React m → m < length net.machines)
    → (entry : Entry) × IsPicked net journal move entry
entry_for laws net journal (Deliver s m e c) some below = (Dep s m e c, refl)
entry_for laws net journal Stop some below = absurd (some refl)
entry_for laws net journal (React m) some below =
    let (o, may) = reacts laws net journal m (slice_get net.machines m) refl (below m refl) in
    (Rea m (snap net journal m) o, (o, refl, may))

none_or_some : (env network : List Pick)
    → (env ++ network ≡ []) ⊎ (0 < length env + length network)
none_or_some [] [] = inl refl
none_or_some [] (p ∷ network) = inr (omega arith)
none_or_some (p ∷ env) network = inr (omega arith)

some_weigh : (a b pace : ℕ) → 0 < pace → 0 < a + b → 0 < a + pace * b
some_weigh a b zero none some = absurd (omega arith)
some_weigh a b (suc k) none some =
    let product : suc k * b ≡ b + k * b = grind arith in
    omega (arith, some, product)

-- where something is offered an entry is drawn
drawn_entry : JournalLaws → SendingLaws
    → (net : Network) (trace : List TraceItem) (order : RunOrder) (pace x : ℕ)
    (journal : List Entry) → IsTrace net trace → Legal net trace journal → 0 < pace
    → 0 < length (env_offered order net trace journal)
    + length (network_offered order net trace journal)
    → (entry : Entry) × IsPicked net journal (drawn net trace order pace x journal) entry
drawn_entry laws sending net trace order pace x journal t legal some any =
    let env : List Pick = env_offered order net trace journal in
    let network : List Pick = network_offered order net trace journal in
    let below =
    mod-lt (next x / 2 ^ 33) (some_weigh (length env) (length network) pace some any) in
    let member =
    chosen_is_one env network pace (draw x (length env + pace * length network)) some below in
    let (goes, machine) =
    offered_is_sound laws sending net trace journal order (drawn net trace order pace x journal) t
    legal member in
    entry_for laws net journal (drawn net trace order pace x journal) goes machine

-- so many entries are drawn after a journal, or fewer after which nothing is offered
drawn_on : JournalLaws → SendingLaws → TransitionFits
    → (net : Network) (trace : List TraceItem) (order : RunOrder) (pace x n : ℕ)
    (journal : List Entry) → IsTrace net trace → Legal net trace journal → 0 < pace
    → (more : List Entry) × IsDrawn net trace order pace x journal more
    × ((length more ≡ n)
    ⊎ ((length more < n) × (offered order net trace (journal ++ more) ≡ [])))
drawn_on laws sending fits net trace order pace x zero journal t legal some = ([], tt, inl refl)
drawn_on laws sending fits net trace order pace x (suc n) journal t legal some =
    elim
    (none_or_some (env_offered order net trace journal) (network_offered order net trace journal)) [
      | inl none ↦ (
        [],
        tt,
        inr (
          omega arith,
          subst (λ j. offered order net trace j ≡ []) (sym (append-nil journal)) none,
        ),
      )
      | inr any ↦
          let (entry, picked) =
          drawn_entry laws sending net trace order pace x journal t legal some any in
          let longer =
          drawn_is_legal laws sending fits net trace order pace x journal (entry ∷ []) t legal
          (picked, tt) in
          let (more, further, whole) =
          drawn_on laws sending fits net trace order pace (next x) n (journal ++ entry ∷ []) t
          longer some in
          (entry ∷ more, (picked, further), so_whole entry more whole)
    ]
  where
    so_whole : (entry : Entry) (more : List Entry)
        → ((length more ≡ n) ⊎ ((length more < n)
        × (offered order net trace ((journal ++ entry ∷ []) ++ more) ≡ [])))
        → (length (entry ∷ more) ≡ suc n) ⊎ ((length (entry ∷ more) < suc n)
        × (offered order net trace (journal ++ entry ∷ more) ≡ []))
    so_whole entry more (inl full) = inl (omega arith)
    so_whole entry more (inr (below, none)) =
        inr (
          omega arith,
          subst (λ j. offered order net trace j ≡ []) (append_assoc journal (entry ∷ []) more) none,
        )

pub some_shuffle : JournalLaws → SendingLaws → TransitionFits → SomeShuffle
some_shuffle laws sending fits net trace seed order n t =
    let (journal, is, whole) =
    drawn_on laws sending fits net trace (run_order order seed) (pace seed)
    (first_draw order seed) n [] t (tt, tt) (pow_pos (draw (stirred seed) 5)) in
    (journal, record { drawn = is; whole = whole })
