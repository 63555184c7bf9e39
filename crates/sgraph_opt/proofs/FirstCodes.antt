-- The code that vertices give a result.
use Rattle.std.proofs.Common.{◌≡◌, ⊎_elim, ℕ, ◌<◌, Bool, true, false, not, cond, ◌&&◌, ◌||◌, eqb, List, [], ◌∷◌, length, slice_index, slice_set, refl, ap, sym, ◌∙◌, arith, get_or-set_same, get_or-set_other, length-set}
use Rattle.std.proofs.lemmas.Bool.{cases_eq, and_parts, or_parts, eqb-false, eq-eqb, ne_eqb, cond-true, cond-false, not-true}
use Rattle.sgraph.specs.declared.vertex.Vertex.{Vertex}
use Rattle.sgraph.specs.declared.vertex.Vertex.TheVariants.{Begin, Test, Assign, End}
use Rattle.sgraph.specs.Graphs.{assign_all}

-- the code that a vertex gives a result, where the vertices after it give it another
abbrev pub first_code : Vertex → ℕ → ℕ → ℕ
first_code (Begin next) y rest = rest
first_code (Test var kids) y rest = rest
first_code (Assign result code next) y rest = cond (eqb result y) code rest
first_code End y rest = rest

-- the code of the first vertex that assigns the result, 0 if none does
abbrev pub code_in : List Vertex → ℕ → ℕ
code_in [] y = 0
code_in (v ∷ vs) y = first_code v y (code_in vs y)

abbrev pub assigns : Vertex → ℕ → Bool
assigns (Begin next) y = false
assigns (Test var kids) y = false
assigns (Assign result code next) y = eqb result y
assigns End y = false

-- some vertex assigns the result
abbrev pub is_assigned : List Vertex → ℕ → Bool
is_assigned [] y = false
is_assigned (v ∷ vs) y = assigns v y || is_assigned vs y

abbrev pub not_again : Vertex → List Vertex → Bool
not_again (Begin next) vs = true
not_again (Test var kids) vs = true
not_again (Assign result code next) vs = not (is_assigned vs result)
not_again End vs = true

-- no result is assigned twice
abbrev pub each_once : List Vertex → Bool
each_once [] = true
each_once (v ∷ vs) = not_again v vs && each_once vs

none_first : (v : Vertex) (y rest : ℕ) → assigns v y ≡ false → first_code v y rest ≡ rest
none_first (Begin next) y rest off = refl
none_first (Test var kids) y rest off = refl
none_first (Assign result code next) y rest off = cond-false (eqb result y) code rest off
none_first End y rest off = refl

-- a result that isn't assigned
pub none_code : (vs : List Vertex) (y : ℕ) → is_assigned vs y ≡ false → code_in vs y ≡ 0
none_code [] y off = refl
none_code (v ∷ vs) y off =
    let parts = or_parts (assigns v y) (is_assigned vs y) off in
    none_first v y (code_in vs y) parts.0 ∙ none_code vs y parts.1

none_set : (vs : List Vertex) (codes : List ℕ) (y : ℕ) → is_assigned vs y ≡ false
    → slice_index (assign_all codes vs) y ≡ slice_index codes y
none_set [] codes y off = refl
none_set (Begin next ∷ vs) codes y off = none_set vs codes y off
none_set (Test var kids ∷ vs) codes y off = none_set vs codes y off
none_set (Assign result code next ∷ vs) codes y off =
    let parts = or_parts (eqb result y) (is_assigned vs y) off in
    none_set vs (slice_set codes result code) y parts.1
    ∙ get_or-set_other codes result y code 0 (λ same. eqb-false result y parts.0 (sym same))
none_set (End ∷ vs) codes y off = none_set vs codes y off

-- what is assigned to codes that are 0
pub set_code : (vs : List Vertex) (codes : List ℕ) (y : ℕ) → each_once vs ≡ true
    → slice_index codes y ≡ 0 → y < length codes
    → slice_index (assign_all codes vs) y ≡ code_in vs y
set_code [] codes y once blank low = blank
set_code (Begin next ∷ vs) codes y once blank low = set_code vs codes y once blank low
set_code (Test var kids ∷ vs) codes y once blank low = set_code vs codes y once blank low
set_code (Assign result code next ∷ vs) codes y once blank low =
    let parts = and_parts (not (is_assigned vs result)) (each_once vs) once in
    let set : List ℕ = slice_set codes result code in
    let long : length set ≡ length codes = length-set codes result code in
    ⊎_elim
    (λ same.
    let off : is_assigned vs y ≡ false =
    ap (is_assigned vs) (sym same) ∙ not-true (is_assigned vs result) parts.0 in
    none_set vs set y off
    ∙ ap (λ (r : ℕ). slice_index (slice_set codes r code) y) same
    ∙ get_or-set_same codes y code 0 low
    ∙ sym (cond-true (eqb result y) code (code_in vs y) (eq-eqb result y same)))
    (λ other.
    set_code vs set y parts.1
    (get_or-set_other codes result y code 0 (λ same. other (sym same)) ∙ blank) (omega arith)
    ∙ sym (cond-false (eqb result y) code (code_in vs y) (ne_eqb result y other)))
    (cases_eq result y)
set_code (End ∷ vs) codes y once blank low = set_code vs codes y once blank low

-- a code that is given is below what all codes of the result are
pub first_below : (v : Vertex) (y rest size : ℕ) → rest < size
    → ((code next : ℕ) → v ≡ Assign y code next → code < size) → first_code v y rest < size
first_below (Begin next) y rest size low own = low
first_below (Test var kids) y rest size low own = low
first_below (Assign result code next) y rest size low own =
    ⊎_elim
    (λ same.
    let here = cond-true (eqb result y) code rest (eq-eqb result y same) in
    let inside = own code next (ap (λ (r : ℕ). Assign r code next) same) in
    omega arith)
    (λ other.
    let here = cond-false (eqb result y) code rest (ne_eqb result y other) in
    omega arith)
    (cases_eq result y)
first_below End y rest size low own = low
