-- Paths in a graph whose edges go on in the order.
use Rattle.std.proofs.Common.{◌≡◌, ℕ, zero, suc, ◌+◌, ◌<◌, ◌≤◌, Bool, true, false, not, List, [], ◌∷◌, map, length, slice_get, Option, Some, None, refl, ap, arith, eqb, ltb}
use Rattle.std.specs.Prelude.{Contains, ⊤, slice_index_or}
use Rattle.std.specs.List.{list_all, cons_option}
use Rattle.std.proofs.lemmas.Bool.{and_parts, and_from, ltb-true, lt-ltb, ne_eqb, or_from}
use Rattle.transition_table.specs.NetworkFacts.{has, are_different}
use Rattle.domains.specs.Orders.{place}
use Rattle.sgraph.specs.declared.vertex.Vertex.{Vertex}
use Rattle.sgraph.specs.declared.vertex.Vertex.TheVariants.{Begin, Test, Assign, End}
use Rattle.sgraph.specs.Graphs.{kids_of, kids_in, kids_at, IsPath, item_of, tested_by, items, tests, rises, depth, deepens, edges_rise}

-- each of these stands no earlier than the depth
abbrev NoEarlier : List ℕ → ℕ → List ℕ → Type 0
NoEarlier order d [] = ⊤
NoEarlier order d (x ∷ xs) = (d ≤ place order x + 1) × NoEarlier order d xs

higher : (order : List ℕ) (d e : ℕ) (xs : List ℕ) → d ≤ e → NoEarlier order e xs
    → NoEarlier order d xs
higher order d e [] less h = tt
higher order d e (x ∷ xs) less h = let f : e ≤ place order x + 1 = h.0 in
    (omega arith, higher order d e xs less h.1)

rises_more : (order : List ℕ) (d x : ℕ) (xs : List ℕ) → place order x + 1 < d → NoEarlier order d xs
    → rises (map (place order) xs) ≡ true → rises (map (place order) (x ∷ xs)) ≡ true
rises_more order d x [] less later h = refl
rises_more order d x (y ∷ ys) less later h =
    let f : d ≤ place order y + 1 = later.0 in
    and_from (ltb (place order x) (place order y)) (rises (map (place order) (y ∷ ys)))
    (lt-ltb (place order x) (place order y) (omega arith)) h

nowhere : (order : List ℕ) (d x : ℕ) (xs : List ℕ) → place order x + 1 < d → NoEarlier order d xs
    → has xs x ≡ false
nowhere order d x [] less later = refl
nowhere order d x (y ∷ ys) less later =
    let f : d ≤ place order y + 1 = later.0 in
    or_from (eqb y x) (has ys x)
    (ne_eqb y x (λ same. let e = ap (place order) same in absurd (omega arith)))
    (nowhere order d x ys less later.1)

different_more : (order : List ℕ) (d x : ℕ) (xs : List ℕ) → place order x + 1 < d
    → NoEarlier order d xs → are_different xs ≡ true → are_different (x ∷ xs) ≡ true
different_more order d x xs less later h =
    and_from (not (has xs x)) (are_different xs) (ap not (nowhere order d x xs less later)) h

-- one more vertex first, which stands before what is known
more_items : (n : ℕ) (order : List ℕ) (o : Option Vertex) (d : ℕ) (xs : List ℕ)
    → depth n order o < d → NoEarlier order d xs → rises (map (place order) xs) ≡ true
    → (rises (map (place order) (cons_option (item_of n o) xs)) ≡ true)
    × NoEarlier order (depth n order o) (cons_option (item_of n o) xs)
more_items n order None d xs less later h =
    (h, higher order (depth n order None) d xs (omega arith) later)
more_items n order (Some (Begin next)) d xs less later h =
    (h, higher order 0 d xs (omega arith) later)
more_items n order (Some (Test var kids)) d xs less later h = (
  rises_more order d var xs less later h,
  (omega arith, higher order (place order var + 1) d xs (omega arith) later),
)
more_items n order (Some (Assign result code next)) d xs less later h = (
  rises_more order d (n + result) xs less later h,
  (omega arith, higher order (place order (n + result) + 1) d xs (omega arith) later),
)
more_items n order (Some End) d xs less later h =
    (h, higher order (length order + 1) d xs (omega arith) later)

more_tests : (n : ℕ) (order : List ℕ) (o : Option Vertex) (d : ℕ) (xs : List ℕ)
    → depth n order o < d → NoEarlier order d xs → are_different xs ≡ true
    → (are_different (cons_option (tested_by o) xs) ≡ true)
    × NoEarlier order (depth n order o) (cons_option (tested_by o) xs)
more_tests n order None d xs less later h =
    (h, higher order (depth n order None) d xs (omega arith) later)
more_tests n order (Some (Begin next)) d xs less later h =
    (h, higher order 0 d xs (omega arith) later)
more_tests n order (Some (Test var kids)) d xs less later h = (
  different_more order d var xs less later h,
  (omega arith, higher order (place order var + 1) d xs (omega arith) later),
)
more_tests n order (Some (Assign result code next)) d xs less later h =
    (h, higher order (place order (n + result) + 1) d xs (omega arith) later)
more_tests n order (Some End) d xs less later h =
    (h, higher order (length order + 1) d xs (omega arith) later)

-- an edge
at_all : {X : Type 0} (p : X → Bool) (xs : List X) (k : ℕ) (d : X) → list_all p xs ≡ true
    → k < length xs → p (slice_index_or xs k d) ≡ true
at_all p [] k d h low = absurd (omega arith)
at_all p (x ∷ xs) zero d h low = (and_parts (p x) (list_all p xs) h).0
at_all p (x ∷ xs) (suc k) d h low =
    at_all p xs k d (and_parts (p x) (list_all p xs) h).1 (omega arith)

pub got_all : (p : Vertex → Bool) (g : List Vertex) (k : ℕ) (v : Vertex) → list_all p g ≡ true
    → slice_get g k ≡ Some v → p v ≡ true
got_all p [] k v h is = cc
got_all p (x ∷ xs) zero v h is = let e : x ≡ v = cc in
    rw (← e) (and_parts (p x) (list_all p xs) h).0
got_all p (x ∷ xs) (suc k) v h is = got_all p xs k v (and_parts (p x) (list_all p xs) h).1 is

pub edge : (n : ℕ) (order : List ℕ) (g : List Vertex) → edges_rise n order g ≡ true → (k j : ℕ)
    → Contains (kids_at g k) j → depth n order (slice_get g k) < depth n order (slice_get g j)
edge n order g h k j kid = go (slice_get g k) refl kid
  where
    go : (o : Option Vertex) → slice_get g k ≡ o → Contains (kids_in o) j
        → depth n order o < depth n order (slice_get g j)
    go None is there = absurd (omega (arith, there.1))
    go (Some v) is there =
        let up = got_all (deepens n order g) g k v h is in
        let here = at_all (λ i. ltb (depth n order (Some v)) (depth n order (slice_get g i)))
        (kids_of v) there.0 j up there.1 in
        let e : slice_index_or (kids_of v) there.0 j ≡ j = there.2 in
        ltb-true (depth n order (Some v)) (depth n order (slice_get g j)) (rw e at here)

-- a last vertex
last_items : (n : ℕ) (order : List ℕ) (o : Option Vertex)
    → (rises (map (place order) (cons_option (item_of n o) [])) ≡ true)
    × NoEarlier order (depth n order o) (cons_option (item_of n o) [])
last_items n order o = more_items n order o (depth n order o + 1) [] (omega arith) tt refl

last_tests : (n : ℕ) (order : List ℕ) (o : Option Vertex)
    → (are_different (cons_option (tested_by o) []) ≡ true)
    × NoEarlier order (depth n order o) (cons_option (tested_by o) [])
last_tests n order o = more_tests n order o (depth n order o + 1) [] (omega arith) tt refl

path_items : (n : ℕ) (order : List ℕ) (g : List Vertex) → edges_rise n order g ≡ true
    → (path : List ℕ) (k : ℕ) → IsPath g (k ∷ path)
    → (rises (map (place order) (items n g (k ∷ path))) ≡ true)
    × NoEarlier order (depth n order (slice_get g k)) (items n g (k ∷ path))
path_items n order g h [] k is = last_items n order (slice_get g k)
path_items n order g h (j ∷ path) k is =
    let rest = path_items n order g h path j is.1 in
    more_items n order (slice_get g k) (depth n order (slice_get g j)) (items n g (j ∷ path))
    (edge n order g h k j is.0) rest.1 rest.0

path_tests : (n : ℕ) (order : List ℕ) (g : List Vertex) → edges_rise n order g ≡ true
    → (path : List ℕ) (k : ℕ) → IsPath g (k ∷ path)
    → (are_different (tests g (k ∷ path)) ≡ true)
    × NoEarlier order (depth n order (slice_get g k)) (tests g (k ∷ path))
path_tests n order g h [] k is = last_tests n order (slice_get g k)
path_tests n order g h (j ∷ path) k is =
    let rest = path_tests n order g h path j is.1 in
    more_tests n order (slice_get g k) (depth n order (slice_get g j)) (tests g (j ∷ path))
    (edge n order g h k j is.0) rest.1 rest.0

pub edges_order : (n : ℕ) (order : List ℕ) (g : List Vertex) → edges_rise n order g ≡ true
    → (path : List ℕ) → IsPath g path → rises (map (place order) (items n g path)) ≡ true
edges_order n order g h [] is = refl
edges_order n order g h (k ∷ path) is = (path_items n order g h path k is).0

pub edges_once : (n : ℕ) (order : List ℕ) (g : List Vertex) → edges_rise n order g ≡ true
    → (path : List ℕ) → IsPath g path → are_different (tests g path) ≡ true
edges_once n order g h [] is = refl
edges_once n order g h (k ∷ path) is = (path_tests n order g h path k is).0
