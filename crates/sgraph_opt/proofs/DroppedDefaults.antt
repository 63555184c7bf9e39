-- Assignments of the code 0 that are left out.
use Rattle.std.proofs.Common.{◌≡◌, ◌≢◌, inl, inr, ⊎_elim, ℕ, ◌+◌, ◌<◌, ◌≤◌, Bool, cond, ◌==◌, List, length, replicate, slice_get, slice_index, slice_set, Option, Some, refl, ap, sym, subst, ◌∙◌, arith, eqb}
use Rattle.std.proofs.lemmas.Bool.{cases_eq, cases_Bool, eqb-true, eq-eqb}
use Rattle.sgraph.specs.declared.vertex.Vertex.{Vertex}
use Rattle.sgraph.specs.declared.vertex.Vertex.TheVariants.{Begin, Test, Assign, End}
use Rattle.sgraph.specs.Facts.{IsGraph}
use Rattle.sgraph_opt.specs.inner.Representatives.{IsRep, Standing, Dropping, past_default}
use Rattle.sgraph.proofs.NextNodes.{got}
use Rattle.sgraph.proofs.GraphOf.{set_there, long_zeros}
use Rattle.decision_diagram.proofs.ListItems.{read_within}
use Rattle.polis_base.proofs.Places.{index_set, length_set}

pub dropping_start : (g : List Vertex) (reps : List ℕ) (i count : ℕ) → reps ≡ replicate count 0
    → count ≡ length g → i ≡ length g → Dropping g reps i
dropping_start g reps i count is all at = record {
  long = ap (λ (xs : List ℕ). length xs) is ∙ long_zeros count ∙ all;
  each = λ k v high is_v. absurd (let low = read_within g k v is_v in omega arith);
}

-- only what stands for later vertices matters
same_past : (to other : ℕ → ℕ) (k : ℕ) (v : Vertex)
    → ((result code next : ℕ) → v ≡ Assign result code next → to next ≡ other next)
    → past_default to k v ≡ past_default other k v
same_past to other k (Begin next) same = refl
same_past to other k (Test var kids) same = refl
same_past to other k (Assign result code next) same =
    ap (λ (r : ℕ). cond (code == 0) r k) (same result code next refl)
same_past to other k End same = refl

pub dropping_more : (g : List Vertex) → IsGraph g → (reps more : List ℕ) (i k r : ℕ)
    → Dropping g reps i → i ≡ k + 1 → k < length g
    → ((v : Vertex) → slice_get g k ≡ Some v → r ≡ past_default (slice_index reps) k v)
    → more ≡ slice_set reps k r → Dropping g more k
dropping_more g ok reps more i k r s at low rep e =
    let own = s.long in
    let long = length_set reps k r in
    let same_long : length more ≡ length (slice_set reps k r) = ap (λ (xs : List ℕ). length xs) e in
    let apart : (j : ℕ) → k < j → slice_index reps j ≡ slice_index more j =
    λ j up. sym (ap (λ (xs : List ℕ). slice_index xs j) e
    ∙ set_there reps k j r (λ f. absurd (omega arith))) in
    record {
      long = omega arith;
      each = λ j v high is.
          let later : (result code next : ℕ) → v ≡ Assign result code next
          → slice_index reps next ≡ slice_index more next = λ result code next is_v.
          let up : j < next =
          ok.above j (Assign result code next) 0 (is ∙ ap (λ (w : Vertex). Some w) is_v)
          (omega arith) in
          apart next (omega arith)
          in
          ⊎_elim
          (λ here.
          let h : k ≡ j = here in
          let is_here : slice_get g k ≡ Some v =
          subst (λ (n : ℕ). slice_get g n ≡ Some v) (sym h) is in
          let read : slice_index more k ≡ r =
          ap (λ (xs : List ℕ). slice_index xs k) e ∙ index_set reps k r (omega arith) in
          ap (slice_index more) (sym h) ∙ read ∙ rep v is_here
          ∙ ap (λ (n : ℕ). past_default (slice_index reps) n v) h
          ∙ same_past (slice_index reps) (slice_index more) j v later)
          (λ other.
          let up : k < j = above k j high other in
          sym (apart j up) ∙ s.each j v (omega arith) is
          ∙ same_past (slice_index reps) (slice_index more) j v later)
          (cases_eq k j);
    }
  where
    above : (a b : ℕ) → a ≤ b → (a ≡ b → ⊥) → a < b
    above a b less other = omega (arith, other)

pub dropping_stands : (g : List Vertex) (reps : List ℕ) → Dropping g reps 0 → Standing g reps 0
dropping_stands g reps d =
    record { long = d.long; each = λ k v low is. one k v (d.each k v low is) }
  where
    one : (k : ℕ) (v : Vertex) → slice_index reps k ≡ past_default (slice_index reps) k v
        → IsRep g (slice_index reps) k (slice_index reps k) v
    one k (Begin next) e = e
    one k (Test var kids) e = inl e
    one k (Assign result code next) e =
        ⊎_elim
        (λ on. inr (inl (
          eqb-true code 0 on,
          sym (e ∙ ap (λ (b : Bool). cond b (slice_index reps next) k) on),
        )))
        (λ off. inl (e ∙ ap (λ (b : Bool). cond b (slice_index reps next) k) off))
        (cases_Bool (eqb code 0))
    one k End e = e

-- what stands for itself has another code
pub not_default : (g : List Vertex) → IsGraph g → (reps : List ℕ) → Dropping g reps 0
    → Standing g reps 0 → (k result code next : ℕ) → slice_get g k ≡ Some (Assign result code next)
    → slice_index reps k ≡ k → k < slice_index reps next → code ≢ 0
not_default g ok reps d s k result code next is own high zero_code =
    let e = d.each k (Assign result code next) (omega arith) is in
    let f : past_default (slice_index reps) k (Assign result code next) ≡ slice_index reps next =
    ap (λ (b : Bool). cond b (slice_index reps next) k) (eq-eqb code 0 zero_code) in
    absurd (omega arith)

-- an assignment of 0
pub left_out : (g : List Vertex) (reps : List ℕ) (k r : ℕ) (v w : Vertex) (result code next : ℕ)
    → slice_get g k ≡ Some v → slice_get g k ≡ Some w → w ≡ Assign result code next → code ≡ 0
    → slice_get reps next ≡ Some r → r ≡ past_default (slice_index reps) k v
left_out g reps k r v w result code next is_v is_w e zero_is rep =
    let same : v ≡ Assign result code next = same_some (slice_get g k) v w is_v is_w ∙ e in
    sym (got reps next r rep)
    ∙ sym (ap (λ (b : Bool). cond b (slice_index reps next) k) (eq-eqb code 0 zero_is))
    ∙ sym (ap (past_default (slice_index reps) k) same)
  where
    same_some : (o : Option Vertex) (a b : Vertex) → o ≡ Some a → o ≡ Some b → a ≡ b
    same_some o a b p q = cc
