-- The trace of a seed is one of its network, and each of its ticks arrives once.
use Rattle.std.proofs.Common.{◌≡◌, ℕ, zero, suc, ◌+◌, ◌*◌, ◌%◌, ◌<◌, ◌==◌, ◌&&◌, Bool, true, false, cond, List, [], ◌∷◌, ◌++◌, flat_map, length, Option, refl, ap, ◌∙◌, arith, inl, inr, nat_lt}
use Rattle.std.specs.Prelude.{slice_get, option_map, unwrap_or, filter, filter_map}
use Rattle.std.specs.List.{list_all}
use Rattle.std.proofs.lemmas.Bool.{cases_eq, lt-ltb, eq-eqb, ne_eqb}
use Rattle.std.proofs.lemmas.List.{length-append}
use Rattle.std.proofs.lemmas.List.Elements.{filter_map-append}
use Rattle.polis_base.specs.Lists.{upto}
use Rattle.transition_table.specs.NetworkFacts.{has, values_of, event_values}
use Rattle.transition_table.specs.declared.decl.EventDecl.{EventDecl}
use Rattle.transition_table.specs.declared.decl.Party.TheVariants.{Env}
use Rattle.transition_table.specs.declared.network.Network.{Network}
use Rattle.journals.specs.declared.entry.TraceItem.{TraceItem}
use Rattle.journals.specs.declared.entry.TraceItem.TheVariants.{Settle}
use Rattle.journals.specs.Journals.{reads, same_party, is_trace_item, IsTrace, event_of, sent}
use Rattle.polis_base.specs.Draws.{after, draw}
use Rattle.net_gen.specs.Dwindling.{sum_below, arrivals}
use Rattle.net_gen.specs.Events.{HasDemoEvents}
use Rattle.net_gen.specs.Items.{tick_item, settle_items, items_at, tick_items, trace_items}
use Rattle.net_gen.specs.Networks.{count}
use Rattle.net_gen.proofs.DeclarationRules.{draw_below}
use Rattle.net_gen.proofs.Lines.{all_flat}
use Rattle.polis_base.proofs.ListTests.{filter_append}
use Rattle.polis_base.proofs.UptoPlaces.{flat_map_upto}

-- ---- sums in which one term grows by one

sum_more : (f : ℕ → ℕ) (t : ℕ → Bool) (n : ℕ) → ((m : ℕ) → m < n → t m ≡ false)
    → sum_below (λ m. f m + cond (t m) 1 0) n ≡ sum_below f n
sum_more f t zero none = refl
sum_more f t (suc n) none =
    let rest = sum_more f t n (λ m less. none m (omega arith)) in
    let last : f n + cond (t n) 1 0 ≡ f n =
    ap (λ (b : Bool). f n + cond b 1 0) (none n (omega arith))
    ∙ (let e : f n + 0 ≡ f n = omega arith in e) in
    omega arith

sum_adds : (f : ℕ → ℕ) (t : ℕ → Bool) (n k : ℕ) → k < n → t k ≡ true
    → ((m : ℕ) → m < n → (m ≡ k → ⊥) → t m ≡ false)
    → sum_below (λ m. f m + cond (t m) 1 0) n ≡ sum_below f n + 1
sum_adds f t zero k below here others = absurd (omega arith)
sum_adds f t (suc n) k below here others =
    elim (cases_eq n k) [
      | inl same ↦
          let rest = sum_more f t n (λ m less. others m (omega arith)
          (λ e. let m_is = e in omega arith)) in
          let last : f n + cond (t n) 1 0 ≡ f n + 1 =
          ap (λ (b : Bool). f n + cond b 1 0) (ap t same ∙ here) in
          omega arith
      | inr other ↦
          let rest = sum_adds f t n k (omega arith) here (λ m less. others m (omega arith)) in
          let last : f n + cond (t n) 1 0 ≡ f n =
          ap (λ (b : Bool). f n + cond b 1 0) (others n (omega arith) other)
          ∙ (let e : f n + 0 ≡ f n = omega arith in e) in
          omega arith
    ]

-- ---- what is sent to each machine

-- the tick of an item
abbrev sent_at : ℕ → ℕ → ℕ → ℕ × ℕ
sent_at n x k = (3 * draw (after x k) n, 1)

one_sent : (n x k : ℕ) → filter_map event_of (items_at n x k) ≡ sent_at n x k ∷ []
one_sent n x k = by ((k + 1) % 10 == 0)
  where
    by : (b : Bool)
        → filter_map event_of (tick_item (draw (after x k) n) ∷ cond b (Settle ∷ []) [])
        ≡ sent_at n x k ∷ []
    by true = refl
    by false = refl

abbrev sent_to : Network → ℕ → ℕ → ℕ → ℕ → List (ℕ × ℕ)
sent_to net n x j m = sent net (flat_map (items_at n x) (upto j)) Env m []

one_more : (net : Network) (n x j m : ℕ)
    → length (sent_to net n x (suc j) m)
    ≡ length (sent_to net n x j m) + cond (reads net m (3 * draw (after x j) n)) 1 0
one_more net n x j m =
    let before : List TraceItem = flat_map (items_at n x) (upto j) in
    let p : ℕ × ℕ → Bool = λ q. reads net m q.0 in
    ap (λ (l : List TraceItem). length (filter p (filter_map event_of l)))
    (flat_map_upto (items_at n x) j)
    ∙ ap (λ (l : List (ℕ × ℕ)). length (filter p l))
    (filter_map-append event_of before (items_at n x j))
    ∙ ap (λ (l : List (ℕ × ℕ)). length (filter p (filter_map event_of before ++ l)))
    (one_sent n x j)
    ∙ ap length (filter_append p (filter_map event_of before) (sent_at n x j ∷ []))
    ∙ length-append (filter p (filter_map event_of before)) (filter p (sent_at n x j ∷ []))
    ∙ ap (λ (k : ℕ). length (filter p (filter_map event_of before)) + k)
    (by (p (sent_at n x j)))
  where
    by : (b : Bool) → length (cond b (sent_at n x j ∷ []) []) ≡ cond b 1 0
    by true = refl
    by false = refl

module _ (n : ℕ) (net : Network) (demo : HasDemoEvents n net) where
  reads_own : (m : ℕ) → m < n → reads net m (3 * m) ≡ true
  reads_own m below =
      ap (λ (l : List ℕ). has l (3 * m)) (demo.reads m below)
      ∙ rw (eq-eqb (3 * m) (3 * m) refl) refl

  reads_no_other : (m d : ℕ) → m < n → (m ≡ d → ⊥) → reads net m (3 * d) ≡ false
  reads_no_other m d below other =
      ap (λ (l : List ℕ). has l (3 * d)) (demo.reads m below)
      ∙ rw (
        ne_eqb (3 * m) (3 * d) (λ e. let same = e in omega arith),
        ne_eqb (3 * m + 1) (3 * d) (λ e. let same = e in omega arith),
      ) refl

  all_arrive : (x : ℕ) → 0 < n → (j : ℕ)
      → sum_below (λ m. length (sent_to net n x j m)) n ≡ j
  all_arrive x some zero = nothing n
    where
      nothing : (k : ℕ) → sum_below (λ m. length (sent_to net n x 0 m)) k ≡ 0
      nothing zero = refl
      nothing (suc k) = let rest = nothing k in omega arith
  all_arrive x some (suc j) =
      let d : ℕ = draw (after x j) n in
      let small : d < n = draw_below (after x j) n some in
      let f : ℕ → ℕ = λ m. length (sent_to net n x j m) in
      let t : ℕ → Bool = λ m. reads net m (3 * d) in
      let each : sum_below (λ m. length (sent_to net n x (suc j) m)) n
      ≡ sum_below (λ m. f m + cond (t m) 1 0) n =
      λ i. sum_below (λ m. one_more net n x j m i) n in
      each
      ∙ sum_adds f t n d small (reads_own d small)
      (λ m less other. reads_no_other m d less other)
      ∙ ap (λ (k : ℕ). k + 1) (all_arrive x some j)
      ∙ (let e : j + 1 ≡ suc j = omega arith in e)

  -- ---- each item fits the network

  tick_fits : (i : ℕ) → i < n → is_trace_item net (tick_item i) ≡ true
  tick_fits i below =
      let event = demo.tick_is i below in
      let inside : nat_lt (3 * i) (length net.events) ≡ true =
      lt-ltb (3 * i) (length net.events) (let long = demo.events in omega arith) in
      let pure : event_values net.domains net.events (3 * i) ≡ 1 =
      ap (λ (o : Option EventDecl).
      unwrap_or (option_map (λ (e : EventDecl). values_of net.domains e.domain) o) 0) event in
      let env : unwrap_or (option_map (λ (e : EventDecl). same_party e.sender Env)
      (slice_get net.events (3 * i))) false ≡ true =
      ap (λ (o : Option EventDecl).
      unwrap_or (option_map (λ (e : EventDecl). same_party e.sender Env) o) false) event in
      rw (inside, pure, env) refl

  items_fit : (x : ℕ) → 0 < n → (k : ℕ) → list_all (is_trace_item net) (items_at n x k) ≡ true
  items_fit x some k =
      let d : ℕ = draw (after x k) n in
      ap (λ (b : Bool). b && list_all (is_trace_item net) (settle_items k))
      (tick_fits d (draw_below (after x k) n some))
      ∙ by ((k + 1) % 10 == 0)
    where
      by : (b : Bool) → list_all (is_trace_item net) (cond b (Settle ∷ []) []) ≡ true
      by true = refl
      by false = refl

  pub ticks_fit : (x : ℕ) → 0 < n → IsTrace net (tick_items n x)
  unfolding tick_items
  ticks_fit x some = all_flat (is_trace_item net) (items_at n x) (items_fit x some) (upto 2000)

  pub ticks_arrive : (x : ℕ) → 0 < n → arrivals net (tick_items n x) ≡ 2000
  unfolding tick_items
  ticks_arrive x some =
      ap (sum_below (λ m. length (sent_to net n x 2000 m))) demo.machines
      ∙ all_arrive x some 2000

pub seed_fits : (seed : ℕ) (net : Network) → HasDemoEvents (count seed) net
    → IsTrace net (trace_items seed)
unfolding trace_items
seed_fits seed net demo =
    ticks_fit (count seed) net demo (after seed (1 + 25 * count seed)) (omega arith)

pub seed_arrives : (seed : ℕ) (net : Network) → HasDemoEvents (count seed) net
    → arrivals net (trace_items seed) ≡ 2000
unfolding trace_items
seed_arrives seed net demo =
    ticks_arrive (count seed) net demo (after seed (1 + 25 * count seed)) (omega arith)
