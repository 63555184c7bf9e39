-- The children of a test, one after the other.
use Rattle.std.proofs.Common.{◌≡◌, ◌≢◌, ℕ, zero, suc, ◌+◌, ◌-◌, ◌<◌, ◌≤◌, Bool, true, false, cond, List, [], ◌∷◌, ◌++◌, flat_map, filter, length, get_or, slice_get, Some, ⊎_elim, refl, ap, sym, subst, ◌∙◌, arith}
use Rattle.std.proofs.lemmas.Bool.{cases_lt, ne_eqb}
use Rattle.std.proofs.lemmas.List.{append-nil, flat_map_more}
use Rattle.std.proofs.lemmas.Option.{get_or_from_slice_get}
use Rattle.polis_base.specs.Lists.{upto}
use Rattle.polis_base.proofs.Lists.{one_more}
use Rattle.transition_table.specs.NetworkFacts.{has}
use Rattle.graph_drawing.specs.inner.Children.{IsNext, IsNearer}
use Rattle.transition_table.proofs.MachineCounts.{has_at}

lacks : (kids : List ℕ) (k : ℕ) → ((j : ℕ) → j < length kids → get_or kids j 0 ≢ k)
    → has kids k ≡ false
lacks [] k none = refl
lacks (y ∷ ys) k none =
    rw (ne_eqb y k (none zero (omega arith)))
    (lacks ys k (λ j low. none (suc j) (omega arith)))

-- ---- the next child
-- the least of the first children that aren't below a number
pub record IsLeast (kids : List ℕ) (from count best code : ℕ) : Type 0 where
  pub rises : from ≤ best
  pub within : best ≤ count
  pub is : best < count → has kids best ≡ true
  pub least : (j : ℕ) → j < code → from ≤ get_or kids j 0 → best ≤ get_or kids j 0

pub least_more : (kids : List ℕ) (from count old code kid new : ℕ)
    → IsLeast kids from count old code → slice_get kids code ≡ Some kid
    → IsNearer kid from old new → IsLeast kids from count new (code + 1)
least_more kids from count old code kid new l e near =
    let low = near.low in
    let rises = l.rises in
    let within = l.within in
    let at : get_or kids code 0 ≡ kid = get_or_from_slice_get kids code kid 0 e in
    record {
      rises = ⊎_elim (λ (h : new ≡ old). omega arith)
          (λ (h : (new ≡ kid) × (from ≤ kid)). let a = h.0 in let b = h.1 in omega arith) near.is;
      within = omega arith;
      is = λ small. ⊎_elim
          (λ (h : new ≡ old).
          subst (λ (k : ℕ). has kids k ≡ true) (sym h) (l.is (omega arith)))
          (λ (h : (new ≡ kid) × (from ≤ kid)).
          subst (λ (k : ℕ). has kids k ≡ true) (sym h.0) (has_at kids code kid e)) near.is;
      least = λ j small high. ⊎_elim
          (λ (h : j < code). let m = l.least j h high in omega arith)
          (λ (h : code ≤ j).
          let same : j ≡ code = omega arith in
          let here : get_or kids j 0 ≡ kid = ap (λ (i : ℕ). get_or kids i 0) same ∙ at in
          let r = near.reach (omega arith) in
          omega arith) (cases_lt j code);
    }

pub least_is_next : (kids : List ℕ) (from count least code : ℕ)
    → IsLeast kids from count least code → length kids ≤ code → IsNext kids from count least
least_is_next kids from count least code l all = record {
  rises = l.rises;
  within = l.within;
  is = l.is;
  first = λ k high low. lacks kids k (λ j small e.
      let m = l.least j (omega arith) (omega arith) in omega arith);
}

-- ---- the edges of a test
abbrev pub kids_below : List ℕ → ℕ → List ℕ
kids_below kids n = filter (has kids) (upto n)

none_between : (kids : List ℕ) (a d b : ℕ) → b ≡ a + d
    → ((k : ℕ) → a ≤ k → k < b → has kids k ≡ false) → kids_below kids b ≡ kids_below kids a
none_between kids a zero b is none =
    let f : b ≡ a = omega arith in ap (λ (k : ℕ). kids_below kids k) f
none_between kids a (suc d) b is none =
    let f : b ≡ suc (a + d) = omega arith in
    ap (λ (k : ℕ). kids_below kids k) f
    ∙ one_more (has kids) (a + d)
    ∙ ap (λ (t : Bool). kids_below kids (a + d) ++ cond t ((a + d) ∷ []) [])
    (none (a + d) (omega arith) (omega arith))
    ∙ append-nil (kids_below kids (a + d))
    ∙ none_between kids a d (a + d) refl (λ k high low. none k high (omega arith))

none_before : (kids : List ℕ) (a n b : ℕ) → IsNext kids a n b
    → kids_below kids b ≡ kids_below kids a
none_before kids a n b next =
    let rises = next.rises in
    none_between kids a (b - a) b (omega arith) next.first

pub first_edges : (edge : ℕ → List ℕ) (kids : List ℕ) (n child : ℕ) (out : List ℕ)
    → IsNext kids 0 n child → out ≡ out ++ flat_map edge (kids_below kids child)
first_edges edge kids n child out next =
    sym (append-nil out)
    ∙ ap (λ (ks : List ℕ). out ++ flat_map edge ks) (sym (none_before kids 0 n child next))

pub more_edges : (edge : ℕ → List ℕ) (kids : List ℕ) (n child next : ℕ) (out old new : List ℕ)
    → old ≡ out ++ flat_map edge (kids_below kids child)
    → has kids child ≡ true → new ≡ old ++ edge child → IsNext kids (child + 1) n next
    → new ≡ out ++ flat_map edge (kids_below kids next)
more_edges edge kids n child next out old new is one e to =
    let f : child + 1 ≡ suc child = omega arith in
    let all : kids_below kids next ≡ kids_below kids child ++ child ∷ [] =
    none_before kids (child + 1) n next to
    ∙ ap (λ (k : ℕ). kids_below kids k) f
    ∙ one_more (has kids) child
    ∙ ap (λ (t : Bool). kids_below kids child ++ cond t (child ∷ []) []) one in
    e
    ∙ ap (λ (ys : List ℕ). ys ++ edge child) is
    ∙ flat_map_more edge out (kids_below kids child) child
    ∙ ap (λ (ks : List ℕ). out ++ flat_map edge ks) (sym all)
