-- What is executed of a graph's layout is what the vertices of the walk give.
use Rattle.std.proofs.Common.{◌≡◌, ◌⊎◌, inl, inr, ⊎_elim, ℕ, zero, suc, ◌+◌, ◌-◌, ◌<◌, ◌≤◌, Bool, true, false, cond, ◌==◌, List, ◌∷◌, ◌++◌, map, length, slice_get, slice_index, Option, Some, None, refl, ap, sym, subst, ◌∙◌, arith, []}
use Rattle.std.specs.Prelude.{⊤}
use Rattle.std.proofs.lemmas.Bool.{cases_eq, eq-eqb, ne_eqb}
use Rattle.sgraph.specs.declared.vertex.Vertex.{Vertex}
use Rattle.sgraph.specs.declared.vertex.Vertex.TheVariants.{Begin, Test as Tests, Assign, End}
use Rattle.sgraph.specs.Trails.{is_at, kept, trail}
use Rattle.sgraph.specs.Graphs.{next_of, walk, assign, assign_all, GoesOn}
use Rattle.task_code.specs.declared.instr.Instr.{Instr}
use Rattle.task_code.specs.declared.instr.Instr.TheVariants.{Test, Set, Goto, Halt}
use Rattle.task_code.specs.Codes.{goes_to, executed, set_all, width, given_before, start, given_by, laid_out}
use Rattle.task_code.proofs.LaidOut.{start_next, long_given, start_rises}
use Rattle.sgraph.proofs.Trails.{passed}

-- ---- trails
-- the place is none before this one
abbrev pub From : ℕ → Option ℕ → Type 0
From k None = ⊤
From k (Some j) = k ≤ j

pub cases_at : (k : ℕ) (o : Option ℕ) → From k o
    → (o ≡ Some k) ⊎ ((is_at k o ≡ false) × From (suc k) o)
cases_at k None from = inr (refl, tt)
cases_at k (Some j) from =
    ⊎_elim (λ same. inl (ap Some (sym same)))
    (λ other. inr (ne_eqb k j other, omega (arith, other))) (cases_eq k j)

first_on : {X : Type 0} (next : ℕ → X → Option ℕ) (x : X) (xs : List X) (b : ℕ)
    → trail next (x ∷ xs) b (Some b) ≡ x ∷ trail next xs (suc b) (next b x)
first_on next x xs b =
    ap (λ (here : Bool). kept here x (trail next xs (suc b) (cond here (next b x) (Some b))))
    (eq-eqb b b refl)

not_yet : (b : ℕ) (o : Option ℕ) → From (suc b) o → is_at b o ≡ false
not_yet b None from = refl
not_yet b (Some j) from = ne_eqb b j (λ same. absurd (omega arith))

sooner : (a b : ℕ) (o : Option ℕ) → a ≤ b → From b o → From a o
sooner a b None less from = tt
sooner a b (Some j) less from = omega arith

pass_all : {X : Type 0} (next : ℕ → X → Option ℕ) (xs ys : List X) (b n : ℕ) (o : Option ℕ)
    → n ≡ b + length xs → From n o → trail next (xs ++ ys) b o ≡ trail next ys n o
pass_all next [] ys b n o e from = let f : b ≡ n = omega arith in
    ap (λ (m : ℕ). trail next ys m o) f
pass_all next (x ∷ xs) ys b n o e from =
    passed next x (xs ++ ys) b o (not_yet b o (sooner (suc b) n o (omega arith) from))
    ∙ pass_all next xs ys (suc b) n o (omega arith) from

pub got : (xs : List ℕ) (i : ℕ) → (slice_get xs i ≡ None)
    ⊎ ((x : ℕ) × (slice_get xs i ≡ Some x) × (i < length xs) × (slice_index xs i ≡ x))
got [] i = inl refl
got (x ∷ xs) zero = inr (x, refl, omega arith, refl)
got (x ∷ xs) (suc i) =
    ⊎_elim (λ none. inl none) (λ some. inr (some.0, some.1, omega (arith, some.2), some.3))
    (got xs i)

-- the vertices from number k on are these
abbrev pub Rest : List Vertex → ℕ → List Vertex → Type 0
Rest g k vs = (n : ℕ) → slice_get g (k + n) ≡ slice_get vs n

pub rest_first : (g : List Vertex) (k : ℕ) (v : Vertex) (vs : List Vertex) → Rest g k (v ∷ vs)
    → slice_get g k ≡ Some v
rest_first g k v vs rest = let e : k ≡ k + 0 = omega arith in ap (slice_get g) e ∙ rest 0

pub rest_next : (g : List Vertex) (k : ℕ) (v : Vertex) (vs : List Vertex) → Rest g k (v ∷ vs)
    → Rest g (suc k) vs
rest_next g k v vs rest = λ n. let e : suc k + n ≡ k + suc n = omega arith in
    ap (slice_get g) e ∙ rest (suc n)

pub rest_all : (g : List Vertex) → Rest g 0 g
rest_all g = λ n. let e : 0 + n ≡ n = omega arith in ap (slice_get g) e

module _ (g : List Vertex) (s : List ℕ) where
  -- what the vertices of the walk give, from number k on
  abbrev pub given_on : ℕ → List Vertex → Option ℕ → List Instr
  given_on k [] o = []
  given_on k (v ∷ vs) o =
      cond (is_at k o) (given_by (start g) k v ++ given_on (suc k) vs (next_of s k v))
      (given_on (suc k) vs o)

  -- where the instructions of the vertex stand
  abbrev placed : Option ℕ → Option ℕ
  placed None = None
  placed (Some j) = Some (start g j)

  get_placed : (xs : List ℕ) (i : ℕ) → slice_get (map (start g) xs) i ≡ placed (slice_get xs i)
  get_placed [] i = refl
  get_placed (x ∷ xs) zero = refl
  get_placed (x ∷ xs) (suc i) = get_placed xs i

  placed_from : (k : ℕ) (o : Option ℕ) → From k o → From (start g k) (placed o)
  placed_from k None from = tt
  placed_from k (Some j) from =
      let more : ℕ = j - k in
      let e : k + more ≡ j = omega arith in
      let rises = start_rises g 0 k more in
      let at : given_before 0 g (k + more) ≡ given_before 0 g j = ap (given_before 0 g) e in
      omega arith

  -- the rest of the layout, from the places of the vertices from number k on
  abbrev Runs : ℕ → List Vertex → Type 0
  Runs k vs = (o : Option ℕ) → From k o
      → trail (goes_to s) (laid_out (start g) k vs) (start g k) (placed o) ≡ given_on k vs o

  -- the next vertex stands after the instructions of this one
  wide : (k : ℕ) (v : Vertex) → slice_get g k ≡ Some v → start g (suc k) ≡ start g k + width k v
  wide k v is =
      let e : 0 + k ≡ k = omega arith in
      start_next g 0 k v is ∙ ap (λ (i : ℕ). start g k + width i v) e

  -- after an instruction the rest is executed from the vertex that follows
  then : (k place : ℕ) (i : Instr) (vs : List Vertex) (o : Option ℕ) → Runs (suc k) vs
      → From (suc k) o → start g (suc k) ≡ suc place → goes_to s place i ≡ placed o
      → trail (goes_to s) (i ∷ laid_out (start g) (suc k) vs) place (Some place)
      ≡ i ∷ given_on (suc k) vs o
  then k place i vs o runs from at to =
      first_on (goes_to s) i (laid_out (start g) (suc k) vs) place
      ∙ ap (λ (p : Option ℕ). i ∷ trail (goes_to s) (laid_out (start g) (suc k) vs)
      (suc place) p) to
      ∙ ap (λ (n : ℕ). i ∷ trail (goes_to s) (laid_out (start g) (suc k) vs) n (placed o)) (sym at)
      ∙ ap (λ (xs : List Instr). i ∷ xs) (runs o from)

  module _ (on : GoesOn g) where
    -- where a walk goes on is later
    goes_later : (k : ℕ) (v : Vertex) → slice_get g k ≡ Some v → From (suc k) (next_of s k v)
    goes_later k (Begin next) is = let above = on.above k (Begin next) 0 is (omega arith) in
        omega arith
    goes_later k (Tests var kids) is = of_kid (got kids (slice_index s var))
      where
        of_kid : (slice_get kids (slice_index s var) ≡ None)
            ⊎ ((x : ℕ) × (slice_get kids (slice_index s var) ≡ Some x)
            × (slice_index s var < length kids) × (slice_index kids (slice_index s var) ≡ x))
            → From (suc k) (slice_get kids (slice_index s var))
        of_kid (inl none) = rw none tt
        of_kid (inr some) =
            let above = on.above k (Tests var kids) (slice_index s var) is some.2 in
            let e = some.3 in
            rw some.1 (omega arith)
    goes_later k (Assign result code next) is = let above =
        on.above k (Assign result code next) 0 is (omega arith) in omega arith
    goes_later k End is = tt

    at_vertex : (k : ℕ) (v : Vertex) (vs : List Vertex) → slice_get g k ≡ Some v → Runs (suc k) vs
        → trail (goes_to s) (given_by (start g) k v ++ laid_out (start g) (suc k) vs) (start g k)
        (Some (start g k)) ≡ given_by (start g) k v ++ given_on (suc k) vs (next_of s k v)
    at_vertex k (Begin next) vs is runs =
        let zero_k : k ≡ 0 = on.only k next is in
        let begin : Some (Begin next) ≡ Some (Begin 1) =
        sym is ∙ ap (slice_get g) zero_k ∙ on.begin in
        let one : next ≡ 1 = to_one begin in
        let to : suc k ≡ next = omega arith in
        let w = wide k (Begin next) is in
        let here : start g (suc k) ≡ start g k = omega arith in
        ap (λ (n : ℕ). trail (goes_to s) (laid_out (start g) (suc k) vs) n (Some n)) (sym here)
        ∙ runs (Some (suc k)) (omega arith)
        ∙ ap (λ (n : ℕ). given_on (suc k) vs (Some n)) to
      where
        to_one : Some (Begin next) ≡ Some (Begin 1) → next ≡ 1
        to_one e = cc
    at_vertex k (Tests var kids) vs is runs =
        let w = wide k (Tests var kids) is in
        let e : width k (Tests var kids) ≡ 1 = refl in
        then k (start g k) (Test var (map (start g) kids)) vs (slice_get kids (slice_index s var))
        runs (goes_later k (Tests var kids) is) (omega arith)
        (get_placed kids (slice_index s var))
    at_vertex k (Assign result code next) vs is runs =
        let set : Instr = Set result code in
        let jump : Instr = Goto (start g next) in
        let wide_by = wide k (Assign result code next) is in
        let from = goes_later k (Assign result code next) is in
        ⊎_elim
        (λ same.
        let e = eq-eqb next (suc k) same in
        let w : width k (Assign result code next) ≡ 1 = ap (λ (b : Bool). cond {A = ℕ} b 1 2) e in
        let at : start g (suc k) ≡ suc (start g k) = omega arith in
        let to : Some (suc (start g k)) ≡ Some (start g next) =
        ap Some (sym at ∙ ap (start g) (sym same)) in
        subst (λ (b : Bool). trail (goes_to s)
        ((set ∷ cond b [] (jump ∷ [])) ++ laid_out (start g) (suc k) vs) (start g k)
        (Some (start g k)) ≡ (set ∷ cond b [] (jump ∷ []))
        ++ given_on (suc k) vs (Some next)) (sym e)
        (then k (start g k) set vs (Some next) runs from at to))
        (λ other.
        let e = ne_eqb next (suc k) other in
        let w : width k (Assign result code next) ≡ 2 = ap (λ (b : Bool). cond {A = ℕ} b 1 2) e in
        let at : start g (suc k) ≡ suc (suc (start g k)) = omega arith in
        subst (λ (b : Bool). trail (goes_to s)
        ((set ∷ cond b [] (jump ∷ [])) ++ laid_out (start g) (suc k) vs) (start g k)
        (Some (start g k)) ≡ (set ∷ cond b [] (jump ∷ []))
        ++ given_on (suc k) vs (Some next)) (sym e)
        (first_on (goes_to s) set (jump ∷ laid_out (start g) (suc k) vs) (start g k)
        ∙ ap (λ (xs : List Instr). set ∷ xs)
        (then k (suc (start g k)) jump vs (Some next) runs from at refl)))
        (cases_eq next (suc k))
    at_vertex k End vs is runs =
        let w = wide k End is in
        let e : width k End ≡ 1 = refl in
        then k (start g k) Halt vs None runs tt (omega arith) refl

    -- from number k on, what is executed of the layout is what the vertices of the walk give
    all_run : (k : ℕ) (vs : List Vertex) → Rest g k vs → Runs k vs
    all_run k [] rest o from = refl
    all_run k (v ∷ vs) rest o from =
        let is = rest_first g k v vs rest in
        let runs = all_run (suc k) vs (rest_next g k v vs rest) in
        let w = wide k v is in
        let long = long_given (start g) k v in
        ⊎_elim
        (λ here.
        ap (λ (p : Option ℕ). trail (goes_to s)
        (given_by (start g) k v ++ laid_out (start g) (suc k) vs) (start g k) (placed p)) here
        ∙ at_vertex k v vs is runs
        ∙ sym (ap (λ (b : Bool). cond b (given_by (start g) k v
        ++ given_on (suc k) vs (next_of s k v)) (given_on (suc k) vs o))
        (ap (is_at k) here ∙ eq-eqb k k refl)))
        (λ off.
        pass_all (goes_to s) (given_by (start g) k v) (laid_out (start g) (suc k) vs) (start g k)
        (start g (suc k)) (placed o) (omega arith) (placed_from (suc k) o off.1)
        ∙ runs o off.1
        ∙ sym (ap (λ (b : Bool). cond b (given_by (start g) k v
        ++ given_on (suc k) vs (next_of s k v)) (given_on (suc k) vs o)) off.0))
        (cases_at k o from)

    pub executed_is : executed (laid_out (start g) 0 g) s ≡ given_on 0 g (Some 0)
    executed_is = all_run 0 g (rest_all g) (Some 0) (omega arith)

  -- ---- what it sets
  set_given : (k : ℕ) (v : Vertex) (codes : List ℕ) (more : List Instr)
      → set_all codes (given_by (start g) k v ++ more) ≡ set_all (assign codes v) more
  set_given k (Begin next) codes more = refl
  set_given k (Tests var kids) codes more = refl
  set_given k (Assign result code next) codes more = go (next == suc k)
    where
      go : (b : Bool)
          → set_all codes ((Set result code ∷ cond b [] (Goto (start g next) ∷ [])) ++ more)
          ≡ set_all (assign codes (Assign result code next)) more
      go true = refl
      go false = refl
  set_given k End codes more = refl

  sets_alike : (k : ℕ) (vs : List Vertex) (o : Option ℕ) (codes : List ℕ)
      → set_all codes (given_on k vs o) ≡ assign_all codes (trail (next_of s) vs k o)
  sets_alike k [] o codes = refl
  sets_alike k (v ∷ vs) o codes = go (sets_alike (suc k) vs) (is_at k o)
    where
      go : ((p : Option ℕ) (cs : List ℕ)
          → set_all cs (given_on (suc k) vs p) ≡ assign_all cs (trail (next_of s) vs (suc k) p))
          → (b : Bool) → set_all codes
          (cond b (given_by (start g) k v ++ given_on (suc k) vs (next_of s k v))
          (given_on (suc k) vs o)) ≡ assign_all codes
          (kept b v (trail (next_of s) vs (suc k) (cond b (next_of s k v) o)))
      go alike true = set_given k v codes (given_on (suc k) vs (next_of s k v))
          ∙ alike (next_of s k v) (assign codes v)
      go alike false = alike o codes

  pub same_codes : GoesOn g → (codes : List ℕ)
      → set_all codes (executed (laid_out (start g) 0 g) s) ≡ assign_all codes (walk g s)
  same_codes on codes = ap (set_all codes) (executed_is on) ∙ sets_alike 0 g (Some 0) codes
