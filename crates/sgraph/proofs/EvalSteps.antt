-- A graph of a machine may be walked on its snapshots.
use Rattle.std.proofs.Common.{◌≡◌, ◌⊎◌, inl, inr, ⊎_elim, ℕ, zero, suc, ◌<◌, List, [], ◌∷◌, length, replicate, take, drop, ◌==◌, slice_get, slice_index, Option, Some, None, refl, ap, sym, ◌∙◌, arith, length-set}
use Rattle.transition_table.specs.declared.machine.Machine.{Machine}
use Rattle.transition_table.specs.declared.snapshot.Snapshot.{Snapshot}
use Rattle.transition_table.specs.declared.snapshot.Outcome.{Outcome}
use Rattle.transition_table.specs.Transitions.{HasWidths, blank}
use Rattle.sgraph.specs.declared.vertex.Vertex.{Vertex}
use Rattle.sgraph.specs.declared.vertex.Vertex.TheVariants.{Begin, Test, Assign, End}
use Rattle.sgraph.specs.Trails.{trail}
use Rattle.sgraph.specs.Graphs.{next_of, walk, assign, assign_all, Eval}
use Rattle.sgraph.specs.Facts.{IsGraph}
use Rattle.sgraph.specs.Walks.{AreOfOne, outcome_with, width_of}
use Rattle.sgraph.specs.inner.Walks.{MayWalk}
use Rattle.sgraph.proofs.Trails.{Onward, trail_at}
use Rattle.sgraph.proofs.Outcomes.{mk, zeros, drop_more}
use Rattle.domains.proofs.Ranks.{length_fits}
use Rattle.transition_table.proofs.Ranges.{below_size}
use Rattle.transition_table.proofs.MachineCounts.{results_long}

pub there : (c : List Vertex) (k : ℕ) (i : Vertex) → slice_get c k ≡ Some i → k < length c
there [] k i is = cc
there (x ∷ c) zero i is = omega arith
there (x ∷ c) (suc k) i is = let r = there c k i is in omega arith

long_zeros : (n : ℕ) → length (replicate {A = ℕ} n 0) ≡ n
long_zeros zero = refl
long_zeros (suc n) = ap suc (long_zeros n)

pub blank_next : (o : Outcome) (m : Machine) → o ≡ blank m
    → (length o.next ≡ length m.states) × (length o.outs ≡ length m.outputs)
blank_next o m e = (
  ap (λ (p : Outcome). length p.next) e
      ∙ long_zeros (length m.states),
  ap (λ (p : Outcome). length p.outs) e
      ∙ long_zeros (length m.outputs),
)

pub may_walk : (g : List Vertex) (s : Snapshot) (o : Outcome) → IsGraph g → AreOfOne g s o
    → (k : ℕ) (v : Vertex) → slice_get g k ≡ Some v → MayWalk (length g) s.codes (width_of o) k v
may_walk g s o ok one k (Begin next) is =
    (ok.above k (Begin next) 0 is (omega arith), ok.within k (Begin next) 0 is (omega arith))
may_walk g s o ok one k (Test var kids) is =
    let test = one.graph.tests k var kids is in
    let low : var < length one.machine.vars = test.0 in
    let count : length kids ≡ slice_index one.machine.vars var = test.1 in
    let long = length_fits one.machine.vars s.codes one.snapshot in
    let code = below_size one.machine.vars s.codes var one.snapshot low in
    let inside : slice_index s.codes var < length kids = omega arith in (
      omega arith,
      inside,
      ok.above k (Test var kids) (slice_index s.codes var) is inside,
      ok.within k (Test var kids) (slice_index s.codes var) is inside,
    )
may_walk g s o ok one k (Assign result code next) is =
    let low = one.graph.assigns k result code next is in
    let long = results_long one.machine in
    let widths = blank_next o one.machine one.blank in
    let states = widths.0 in
    let outs = widths.1 in (
      omega arith,
      ok.above k (Assign result code next) 0 is (omega arith),
      ok.within k (Assign result code next) 0 is (omega arith),
    )
may_walk g s o ok one k End is = tt

-- what is left to walk, and the codes that the outcome has
pub record Doing (g : List Vertex) (s : List ℕ) (first o : Outcome) (at : ℕ) : Type 0 where
  pub codes : List ℕ
  pub low : at < length g
  pub long : length codes ≡ width_of first
  pub sets : assign_all codes (trail (next_of s) g 0 (Some at))
      ≡ assign_all (replicate (width_of first) 0) (walk g s)
  pub next : length o.next ≡ length first.next
  pub outs : length o.outs ≡ length first.outs
  pub is : o ≡ outcome_with (length first.next) codes

pub doing_start : (g : List Vertex) (s : Snapshot) (o : Outcome) → IsGraph g → AreOfOne g s o
    → Doing g s.codes o o 0
doing_start g s o ok one =
    let widths = blank_next o one.machine one.blank in
    let states = widths.0 in
    let outs = widths.1 in
    let some = there g 0 (Begin ok.begin.0) ok.begin.1 in
    record {
      codes = replicate (width_of o) 0;
      low = some;
      long = long_zeros (width_of o);
      sets = refl;
      next = refl;
      outs = refl;
      is =
          one.blank
          ∙ zeros (length one.machine.states) (length one.machine.outputs) (width_of o)
          (replicate (length one.machine.states) 0) (replicate (length one.machine.outputs) 0)
          refl refl (omega arith)
          ∙ ap (λ (n : ℕ). outcome_with n (replicate (width_of o) 0)) (sym widths.0);
    }

none : (next : ℕ → Vertex → Option ℕ) (xs : List Vertex) (base : ℕ) → trail next xs base None ≡ []
none next [] base = refl
none next (x ∷ xs) base = none next xs (suc base)

pub got_some : (xs : List ℕ) (i : ℕ) → i < length xs → slice_get xs i ≡ Some (slice_index xs i)
got_some [] i low = absurd (omega arith)
got_some (x ∷ xs) zero low = refl
got_some (x ∷ xs) (suc i) low = got_some xs i (omega arith)

leads : (count : ℕ) (s : List ℕ) (results k : ℕ) (v : Vertex) → MayWalk count s results k v
    → (next_of s k v ≡ None)
    ⊎ ((next : ℕ) × (next_of s k v ≡ Some next) × (k < next) × (next < count))
leads count s results k (Begin next) may = inr (next, refl, may.0, may.1)
leads count s results k (Test var kids) may =
    inr (
      slice_index kids (slice_index s var),
      got_some kids (slice_index s var) may.1,
      may.2,
      may.3,
    )
leads count s results k (Assign result code next) may = inr (next, refl, may.1, may.2)
leads count s results k End may = inl refl

long_set : (codes : List ℕ) (v : Vertex) → length (assign codes v) ≡ length codes
long_set codes (Begin next) = refl
long_set codes (Test var kids) = refl
long_set codes (Assign result code next) = length-set codes result code
long_set codes End = refl

set_one : (g : List Vertex) (s : List ℕ) (first o new : Outcome) (at : ℕ) (v : Vertex)
    → (d : Doing g s first o at)
    → ((codes : List ℕ) → length codes ≡ width_of o → o ≡ outcome_with (length o.next) codes
    → new ≡ outcome_with (length o.next) (assign codes v))
    → new ≡ outcome_with (length first.next) (assign d.codes v)
set_one g s first o new at v d sets =
    let long = d.long in
    let next = d.next in
    let outs = d.outs in
    sets d.codes (omega arith) (d.is ∙ ap (λ (n : ℕ). outcome_with n d.codes) (sym d.next))
    ∙ ap (λ (n : ℕ). outcome_with n (assign d.codes v)) d.next

same_next : (a : Option ℕ) (x y : ℕ) → a ≡ Some x → a ≡ Some y → x ≡ y
same_next a x y e f = cc

pub no_next : (a : Option ℕ) (x : ℕ) → a ≡ None → a ≡ Some x → ⊥
no_next a x e f = cc

pub doing_on : (g : List Vertex) (s : List ℕ) (first o new : Outcome) (at next : ℕ) (v : Vertex)
    → MayWalk (length g) s (width_of first) at v → Doing g s first o at → slice_get g at ≡ Some v
    → Some next ≡ next_of s at v → length new.next ≡ length o.next → length new.outs ≡ length o.outs
    → ((codes : List ℕ) → length codes ≡ width_of o → o ≡ outcome_with (length o.next) codes
    → new ≡ outcome_with (length o.next) (assign codes v)) → Doing g s first new next × (at < next)
doing_on g s first o new at next v may d is go long_next long_outs sets =
    ⊎_elim
    (λ stops. absurd (no_next (next_of s at v) next stops (sym go)))
    (λ some.
    let e : some.0 ≡ next = same_next (next_of s at v) some.0 next some.1 (sym go) in
    let above : at < some.0 = some.2 in
    let within : some.0 < length g = some.3 in
    let onward : Onward at (next_of s at v) = rw some.1 above in
    let step = trail_at (next_of s) g 0 at at v is (omega arith) onward in
    let to : trail (next_of s) g 0 (next_of s at v) ≡ trail (next_of s) g 0 (Some next) =
    ap (trail (next_of s) g 0) (sym go) in
    let whole : trail (next_of s) g 0 (Some at) ≡ v ∷ trail (next_of s) g 0 (Some next) =
    step ∙ ap (λ (xs : List Vertex). v ∷ xs) to in (
      record {
        codes = assign d.codes v;
        low = omega arith;
        long = long_set d.codes v ∙ d.long;
        sets = sym (ap (assign_all d.codes) whole) ∙ d.sets;
        next = long_next ∙ d.next;
        outs = long_outs ∙ d.outs;
        is = set_one g s first o new at v d sets;
      },
      omega arith,
    ))
    (leads (length g) s (width_of first) at v may)

pub doing_ends : (m : Machine) (g : List Vertex) (s : List ℕ) (first o new : Outcome) (at : ℕ)
    (v : Vertex) → HasWidths m first → Doing g s first o at → slice_get g at ≡ Some v
    → None ≡ next_of s at v
    → ((codes : List ℕ) → length codes ≡ width_of o → o ≡ outcome_with (length o.next) codes
    → new ≡ outcome_with (length o.next) (assign codes v)) → new ≡ Eval m g s
doing_ends m g s first o new at v widths d is stops sets =
    let onward : Onward at (next_of s at v) = rw (← stops) tt in
    let step = trail_at (next_of s) g 0 at at v is (omega arith) onward in
    let whole : trail (next_of s) g 0 (Some at) ≡ v ∷ [] =
    step ∙ ap (λ (o : Option ℕ). v ∷ trail (next_of s) g 0 o) (sym stops)
    ∙ ap (λ (xs : List Vertex). v ∷ xs) (none (next_of s) g 0) in
    let long = results_long m in
    let next = widths.next in
    let outs = widths.outs in
    let e : width_of first ≡ length m.results = omega arith in
    set_one g s first o new at v d sets
    ∙ ap (outcome_with (length first.next)) (sym (ap (assign_all d.codes) whole) ∙ d.sets)
    ∙ ap (λ (n : ℕ). outcome_with n (assign_all (replicate (width_of first) 0) (walk g s)))
    widths.next
    ∙ ap (λ (n : ℕ). outcome_with (length m.states) (assign_all (replicate n 0) (walk g s))) e
    ∙ ap (mk (slice_index (assign_all (replicate (length m.results) 0) (walk g s)) 0 == 1)
    (take (length m.states) (drop 1 (assign_all (replicate (length m.results) 0) (walk g s)))))
    (drop_more (length m.states) (assign_all (replicate (length m.results) 0) (walk g s)))
