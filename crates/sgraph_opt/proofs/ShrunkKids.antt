-- The vertices of which a smaller graph has ones that do the same.
use Rattle.std.proofs.Common.{◌≡◌, ℕ, ◌<◌, Bool, true, List, length, slice_get, slice_index, Some, ap, sym, subst}
use Rattle.sgraph.specs.declared.vertex.Vertex.{Vertex}
use Rattle.sgraph.specs.Graphs.{kids_of, kids_in}
use Rattle.sgraph_opt.specs.inner.Shrinking.{Shrinks}

-- a child of one of these is one of them
pub some_child : (g h : List Vertex) (to : ℕ → ℕ) (some : ℕ → Bool) → Shrinks g h to some
    → (k i : ℕ) (v : Vertex) → slice_get g k ≡ Some v → some k ≡ true → i < length (kids_of v)
    → some (slice_index (kids_of v) i) ≡ true
some_child g h to some shrinks k i v is on low =
    let e = ap kids_in is in
    subst (λ (ks : List ℕ). some (slice_index ks i) ≡ true) e
    (shrinks.onward k i on (subst (λ (ks : List ℕ). i < length ks) (sym e) low))
