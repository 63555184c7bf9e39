-- What is kept of the emissions, where one receiver is less or an emission is more.
use Rattle.std.specs.Prelude.{◌≡◌, ◌≢◌, ℕ, ◌+◌, ◌*◌, ◌<◌, ◌≤◌, true, false, ◌&&◌, ◌==◌, List, [], ◌∷◌, ◌++◌, length, drop, get_or, set}
use Rattle.std.specs.Int.{bit_at}
use Rattle.std.proofs.Common.{refl, sym, ap, ◌∙◌, inl, inr, arith, append_assoc}
use Rattle.std.proofs.lemmas.List.{length-set, get_or_default, get_or-set_same, get_or-set_other}
use Rattle.std.proofs.lemmas.Bool.{false≢true, cases_eq, cases_lt, and_parts, eqb-true}
use Rattle.std.proofs.lemmas.Nat.Bits.{bit_at-zero}
use Rattle.journals.specs.declared.entry.Owed.{Owed}
use Rattle.transition_table.specs.declared.decl.Party.TheVariants.{Machine as Sender}
use Rattle.journals.specs.Schedules.{is_way, without_first}
use Rattle.net_core.specs.declared.config.emissions.Emission.{Emission}
use Rattle.net_core.specs.Emissions.{waits, no_emission, nth, waiting, all_waiting, no_place, IsChain, IsQueue, IsMore}
use Rattle.net_core.proofs.Chains.{at_set, chain_same, chain_more, IsLinked, linked}
use Rattle.net_core.proofs.OwedByEmissions.{strike_at_place, way_taken, set_same, new_more}
use Rattle.polis_base.proofs.Bools.{and_none}

-- a receiver that doesn't wait doesn't where one waits less
waits_less : (s m to rest : ℕ) (r : Emission) → m < 64 → bit_at rest to ≡ 0
    → ((k : ℕ) → k < 64 → k ≢ to → bit_at rest k ≡ bit_at r.left k) → waits s m r ≡ false
    → waits s m (record r { left = rest }) ≡ false
waits_less s m to rest r within gone same h =
    elim (cases_eq m to) [
      | inl is ↦ let none : bit_at rest m ≡ 0 = ap (bit_at rest) is ∙ gone in
          ap (λ n. r.from == s && n == 1) none ∙ and_none (r.from == s)
      | inr other ↦ ap (λ n. r.from == s && n == 1) (same m within other) ∙ h
    ]

-- who waits for an emission hangs on its sender and its receivers
waits_same : (s m : ℕ) (r q : Emission) → r.from ≡ q.from → r.left ≡ q.left
    → waits s m r ≡ waits s m q
waits_same s m r q from left = ap (λ n. n == s && bit_at r.left m == 1) from
    ∙ ap (λ n. q.from == s && bit_at n m == 1) left

waits_from : (s m : ℕ) (r : Emission) → waits s m r ≡ true → r.from ≡ s
waits_from s m r h = eqb-true r.from s (and_parts (r.from == s) (bit_at r.left m == 1) h).0

pub waits_struck : (s m : ℕ) (r : Emission) → r.left ≡ 0 → waits s m r ≡ false
waits_struck s m r none = ap (λ n. r.from == s && bit_at n m == 1) none
    ∙ ap (λ n. r.from == s && n == 1) (bit_at-zero m) ∙ and_none (r.from == s)

-- ---- the walk along a chain

-- the sender's emissions before this place, from the start on, aren't waited for
pub record IsPassed (records : List Emission) (s m start place : ℕ) : Type 0 where
  pub from_start : start ≤ place
  pub own : place < length records → (nth records place).from ≡ s
  pub none : (i : ℕ) → start ≤ i → i < place → i < length records
      → waits s m (nth records i) ≡ false

-- ---- one receiver less

pub struck_view : (records : List Emission) (front place s to rest : ℕ) (new : Emission) → to < 64
    → front ≤ place → ((i : ℕ) → front ≤ i → i < place → waits s to (nth records i) ≡ false)
    → waits s to (nth records place) ≡ true
    → new ≡ record (nth records place) { left = rest } → bit_at rest to ≡ 0
    → ((k : ℕ) → k < 64 → k ≢ to → bit_at rest k ≡ bit_at (nth records place).left k)
    → all_waiting (drop front (set records place new))
    ≡ without_first (is_way (Sender s) to) (all_waiting (drop front records))
struck_view records front place s to rest new within past before here is gone same =
    strike_at_place s to records front place new within past before here
    (way_taken s to rest (nth records place) new within here is gone same)

-- what is waited for isn't before the first that isn't struck
pub waits_past : (records : List Emission) (front : ℕ) (cursors last : List ℕ) (s m place : ℕ)
    → IsQueue records front cursors last → waits s m (nth records place) ≡ true → front ≤ place
waits_past records front cursors last s m place queue here =
    elim (cases_lt place front) [
      | inl before ↦ absurd
          (false≢true (sym (waits_struck s m (nth records place) (queue.struck place before))
          ∙ here))
      | inr past ↦ past
    ]

-- where the search starts
pub start_is : (cursors : List ℕ) (s m key start : ℕ) → length cursors ≡ 4096 → s < 64 → m < 64
    → key ≡ 64 * s + m → start ≡ get_or cursors key start → start ≡ get_or cursors (64 * s + m) 0
start_is cursors s m key start long from narrow place at =
    at ∙ get_or_default cursors key start 0 (omega arith) ∙ ap (λ k. get_or cursors k 0) place

-- no emission before the one that is found is waited for
pub none_passed : (records : List Emission) (front : ℕ) (cursors last : List ℕ) (s m start p : ℕ)
    → IsQueue records front cursors last → s < 64 → m < 64 → start ≡ get_or cursors (64 * s + m) 0
    → ((i : ℕ) → start ≤ i → i < p → waits s m (nth records i) ≡ false) → (i : ℕ) → i < p
    → waits s m (nth records i) ≡ false
none_passed records front cursors last s m start p queue from within is none i below =
    elim (cases_lt i start) [
      | inl under ↦ queue.passed s m i from within (omega arith)
      | inr over ↦ none i over below
    ]

pub struck_queue : (records : List Emission) (front ahead : ℕ) (cursors last : List ℕ)
    (place s to rest : ℕ) (new : Emission) → IsQueue records front cursors last → s < 64 → to < 64
    → place < length records
    → ((i : ℕ) → i < place → waits s to (nth records i) ≡ false)
    → waits s to (nth records place) ≡ true
    → new ≡ record (nth records place) { left = rest } → bit_at rest to ≡ 0
    → ((k : ℕ) → k < 64 → k ≢ to → bit_at rest k ≡ bit_at (nth records place).left k)
    → front ≤ ahead → ahead ≤ length (set records place new)
    → ((i : ℕ) → front ≤ i → i < ahead → (nth (set records place new) i).left ≡ 0)
    → (ahead < length (set records place new) → 0 < (nth (set records place new) ahead).left)
    → IsQueue (set records place new) ahead (set cursors (64 * s + to) place) last
struck_queue records front ahead cursors last place s to rest new queue from within inside before
    here is gone same on end struck left =
    let old : Emission = nth records place in
    let more : List Emission = set records place new in
    let key = 64 * s + to in
    let size = length-set records place new in
    let long = queue.long in
    let senders : (i : ℕ) → (nth more i).from ≡ (nth records i).from =
    λ i. at_set records place i new (λ r. r.from ≡ (nth records i).from) inside
    (λ e. ap (λ (r : Emission). r.from) is ∙ ap (λ k. (nth records k).from) (sym e))
    (λ other. refl) in
    let nexts : (i : ℕ) → (nth more i).next ≡ (nth records i).next =
    λ i. at_set records place i new (λ r. r.next ≡ (nth records i).next) inside
    (λ e. ap (λ (r : Emission). r.next) is ∙ ap (λ k. (nth records k).next) (sym e))
    (λ other. refl) in
    let past = waits_past records front cursors last s to place queue here in
    record {
      chain = chain_same records more last size senders nexts queue.chain;
      within = end;
      front_waits = left;
      struck = λ i below. elim (cases_lt i front) [
        | inl low ↦
            let other : i ≢ place = λ e. absurd (omega arith) in
            ap (λ (r : Emission). r.left) (get_or-set_other records place i new no_emission other)
            ∙ queue.struck i low
        | inr high ↦ struck i high below
      ];
      long = length-set cursors key place ∙ queue.long;
      starts = λ t m small narrow. elim (cases_eq (64 * t + m) key) [
        | inl is_key ↦
            let at : get_or (set cursors key place) (64 * t + m) 0 ≡ place =
            ap (λ k. get_or (set cursors key place) k 0) is_key
            ∙ get_or-set_same cursors key place 0 (omega arith) in
            let sender : t ≡ s = omega arith in (
              omega arith,
              ap (λ k. (nth more k).from) at ∙ senders place ∙ waits_from s to old here
                  ∙ sym sender,
            )
        | inr away ↦
            let at : get_or (set cursors key place) (64 * t + m) 0 ≡ get_or cursors (64 * t + m) 0 =
            get_or-set_other cursors key (64 * t + m) place 0 away in
            let start = queue.starts t m small narrow in
            let there = start.0 in (
              omega arith,
              ap (λ k. (nth more k).from) at ∙ senders (get_or cursors (64 * t + m) 0)
                  ∙ start.1,
            )
      ];
      passed = λ t m i small narrow under. elim (cases_eq (64 * t + m) key) [
        | inl is_key ↦
            let at : get_or (set cursors key place) (64 * t + m) 0 ≡ place =
            ap (λ k. get_or (set cursors key place) k 0) is_key
            ∙ get_or-set_same cursors key place 0 (omega arith) in
            let sender : t ≡ s = omega arith in
            let receiver : m ≡ to = omega arith in
            let other : i ≢ place = λ e. absurd (omega arith) in
            ap (waits t m) (get_or-set_other records place i new no_emission other)
            ∙ ap (λ k. waits k m (nth records i)) sender
            ∙ ap (λ k. waits s k (nth records i)) receiver
            ∙ before i (omega arith)
        | inr away ↦
            let at : get_or (set cursors key place) (64 * t + m) 0 ≡ get_or cursors (64 * t + m) 0 =
            get_or-set_other cursors key (64 * t + m) place 0 away in
            let old_passed = queue.passed t m i small narrow (omega arith) in
            at_set records place i new (λ r. waits t m r ≡ false) inside
            (λ e. ap (waits t m) is ∙ waits_less t m to rest old narrow gone same
            (sym (ap (λ k. waits t m (nth records k)) e) ∙ old_passed))
            (λ other. old_passed)
      ];
    }

-- ---- one emission more

pub more_and_more : (a : List Emission) (last_a : List ℕ) (b : List Emission) (last_b : List ℕ)
    (c : List Emission) (last_c : List ℕ) (xs ys : List Owed) → IsMore a last_a b last_b xs
    → IsMore b last_b c last_c ys → IsMore a last_a c last_c (xs ++ ys)
more_and_more a last_a b last_b c last_c xs ys first second =
    let one = first.grown in
    let two = second.grown in
    record {
      chain = second.chain;
      grown = omega arith;
      queue = λ front cursors queue. second.queue front cursors (first.queue front cursors queue);
      view = λ front within. second.view front (omega arith)
          ∙ ap (λ l. l ++ ys) (first.view front within)
          ∙ append_assoc (all_waiting (drop front a)) xs ys;
    }

queue_more : (records more : List Emission) (front : ℕ) (cursors last : List ℕ) (s : ℕ)
    (r : Emission) → IsQueue records front cursors last → IsLinked records more (get_or last s 0) r
    → IsChain more (set last s (length records)) → 0 < r.left
    → IsQueue more front cursors (set last s (length records))
queue_more records more front cursors last s r queue link chain left =
    let size = link.size in
    let within = queue.within in
    record {
      chain = chain;
      within = omega arith;
      front_waits = λ h. elim (cases_lt front (length records)) [
        | inl below ↦ let waits_old = queue.front_waits below in let same = link.left front below in
            omega arith
        | inr past ↦
            let end : front ≡ length records = omega arith in
            let same : (nth more front).left ≡ r.left =
            ap (λ k. (nth more k).left) end ∙ ap (λ (x : Emission). x.left) link.there in
            omega arith
      ];
      struck = λ i below. link.left i (omega arith) ∙ queue.struck i below;
      long = queue.long;
      starts = λ t m small narrow.
          let start = queue.starts t m small narrow in
          let inside = start.0 in
          (omega arith, link.from (get_or cursors (64 * t + m) 0) start.0 ∙ start.1);
      passed = λ t m i small narrow under.
          let start = queue.starts t m small narrow in
          let inside : i < length records = let low = start.0 in omega arith in
          waits_same t m (nth more i) (nth records i) (link.from i inside) (link.left i inside)
          ∙ queue.passed t m i small narrow under;
    }

pub linked_more : (records : List Emission) (last : List ℕ) (q r : Emission) → IsChain records last
    → r.from < 64 → r.next ≡ no_place → length records < no_place → 0 < r.left
    → q ≡ record (nth records (get_or last r.from 0)) { next = length records }
    → IsMore records last (set records (get_or last r.from 0) q ++ r ∷ [])
    (set last r.from (length records)) (waiting r)
linked_more records last q r chain from next few left is =
    let p = get_or last r.from 0 in
    let link = linked records p q r (chain.own r.from from).0 is in
    let more : List Emission = set records p q ++ r ∷ [] in
    let chain_after = chain_more records more last r.from r chain link from refl next few in
    record {
      chain = chain_after;
      grown = let size = link.size in omega arith;
      queue = λ front cursors queue. queue_more records more front cursors last r.from r queue link
          chain_after left;
      view = λ front within.
          let size = length-set records p q in
          new_more (set records p q) front r (omega arith)
          ∙ ap (λ l. l ++ waiting r) (set_same records front p q (ap waiting is));
    }
