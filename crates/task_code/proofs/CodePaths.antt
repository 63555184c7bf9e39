-- Paths of the code are paths of the graph.
use Rattle.std.proofs.Common.{◌≡◌, ⊎_elim, ℕ, zero, suc, ◌+◌, ◌<◌, ◌≤◌, Bool, true, false, cond, ◌==◌, List, [], ◌∷◌, map, length, slice_get, slice_index, Option, Some, refl, ap, sym, subst, ◌∙◌, arith}
use Rattle.std.specs.Prelude.{Contains, slice_index_or}
use Rattle.std.specs.List.{cons_option}
use Rattle.std.proofs.lemmas.Bool.{cases_eq, eq-eqb, ne_eqb}
use Rattle.transition_table.specs.NetworkFacts.{are_different}
use Rattle.sgraph.specs.declared.vertex.Vertex.{Vertex}
use Rattle.sgraph.specs.declared.vertex.Vertex.TheVariants.{Begin, Test as Tests, Assign, End}
use Rattle.task_code.specs.declared.instr.Instr.{Instr}
use Rattle.task_code.specs.declared.instr.Instr.TheVariants.{Test, Set, Goto, Halt}
use Rattle.sgraph.specs.Graphs.{kids_of, kids_in, IsPath, tested_by, tests, GoesOn, Once}
use Rattle.task_code.specs.Codes.{width, given_before, start, given_by}
use Rattle.task_code.specs.Facts.{goes_on, IsCodePath, tested_at, code_tests, OnceCode}
use Rattle.task_code.proofs.LaidOut.{laid, start_next, instr_at}
use Rattle.sgraph.proofs.IsGraph.{there_is}

module _ (g : List Vertex) (on : GoesOn g) where
  -- a path of the graph that tests what the code's path tests
  pub record Mirror (k : ℕ) (path : List ℕ) : Type 0 where
    pub walk : List ℕ
    pub is : IsPath g (k ∷ walk)
    pub same : code_tests (laid g) (start g k ∷ path) ≡ tests g (k ∷ walk)

  at_start : (k : ℕ) (v : Vertex) (i : Instr) → slice_get g k ≡ Some v → 0 < width k v
      → slice_get (given_by (start g) k v) 0 ≡ Some i → slice_get (laid g) (start g k) ≡ Some i
  at_start k v i is some first = let e : start g k ≡ start g k + 0 = omega arith in
      ap (slice_get (laid g)) e ∙ instr_at g k 0 v is some ∙ first

  -- a member of a mapped list
  from_map : (xs : List ℕ) (j : ℕ) → Contains (map (start g) xs) j
      → (i : ℕ) × (i < length xs) × (j ≡ start g (slice_index xs i))
  from_map xs j there = go xs there.0 there.1 there.2
    where
      go : (ys : List ℕ) (i : ℕ) → i < length (map (start g) ys)
          → slice_index_or (map (start g) ys) i j ≡ j
          → (n : ℕ) × (n < length ys) × (j ≡ start g (slice_index ys n))
      go [] i low e = absurd (omega arith)
      go (y ∷ ys) zero low e = (0, omega arith, sym e)
      go (y ∷ ys) (suc i) low e = let rest = go ys i (omega arith) e in
          (suc rest.0, omega (arith, rest.1), rest.2)

  contains_at : (xs : List ℕ) (i : ℕ) → i < length xs → Contains xs (slice_index xs i)
  contains_at xs i low = (i, low, go xs i low (slice_index xs i))
    where
      go : (ys : List ℕ) (n : ℕ) → n < length ys → (d : ℕ)
          → slice_index_or ys n d ≡ slice_index ys n
      go [] n low d = absurd (omega arith)
      go (y ∷ ys) zero low d = refl
      go (y ∷ ys) (suc n) low d = go ys n (omega arith) d

  -- one more vertex in front of a mirrored path
  further : (k j : ℕ) (v : Vertex) (i : Instr) (path : List ℕ) → slice_get g k ≡ Some v
      → slice_get (laid g) (start g k) ≡ Some i → tested_at (Some i) ≡ tested_by (Some v)
      → Contains (kids_of v) j → Mirror j path → Mirror k (start g j ∷ path)
  further k j v i path is here test kid rest = record {
    walk = j ∷ rest.walk;
    is = (subst (λ (o : Option Vertex). Contains (kids_in o) j) (sym is) kid, rest.is);
    same =
        ap (λ (o : Option Instr). cons_option (tested_at o)
        (code_tests (laid g) (start g j ∷ path))) here
        ∙ ap (λ (o : Option ℕ). cons_option o (code_tests (laid g) (start g j ∷ path))) test
        ∙ ap (cons_option (tested_by (Some v))) rest.same
        ∙ ap (λ (o : Option Vertex). cons_option (tested_by o) (tests g (j ∷ rest.walk))) (sym is);
  }

  alone : (k : ℕ) (v : Vertex) (i : Instr) → slice_get g k ≡ Some v
      → slice_get (laid g) (start g k) ≡ Some i → tested_at (Some i) ≡ tested_by (Some v)
      → Mirror k []
  alone k v i is here test = record {
    walk = [];
    is = tt;
    same =
        ap (λ (o : Option Instr). cons_option (tested_at o) []) here
        ∙ ap (λ (o : Option ℕ). cons_option o []) test
        ∙ ap (λ (o : Option Vertex). cons_option (tested_by o) []) (sym is);
  }

  -- the only member
  only : (x j : ℕ) → Contains (x ∷ []) j → j ≡ x
  only x j there = go there.0 there.1 there.2
    where
      go : (i : ℕ) → i < 1 → slice_index_or (x ∷ []) i j ≡ j → j ≡ x
      go zero low e = sym e
      go (suc i) low e = absurd (omega arith)

  wide_assign : (k result code next : ℕ) → 0 < width k (Assign result code next)
  wide_assign k result code next = go (next == suc k)
    where
      go : (b : Bool) → 0 < cond {A = ℕ} b 1 2
      go true = omega arith
      go false = omega arith

  Later : List ℕ → Type 0
  Later path = (k : ℕ) → 0 < k → k < length g → IsCodePath (laid g) (start g k ∷ path)
      → Mirror k path

  of_end : (k : ℕ) (path : List ℕ) → slice_get g k ≡ Some End
      → IsCodePath (laid g) (start g k ∷ path) → Mirror k path
  of_end k [] is path_is = alone k End Halt is (at_start k End Halt is (omega arith) refl) refl
  of_end k (j ∷ path) is path_is = absurd (
      let here = at_start k End Halt is (omega arith) refl in
      let none : Contains (goes_on (start g k) (Some Halt)) j =
      subst (λ (o : Option Instr). Contains (goes_on (start g k) o) j) here path_is.0 in
      omega (arith, none.1))

  of_test : (k var : ℕ) (kids path : List ℕ) → slice_get g k ≡ Some (Tests var kids)
      → ((j : ℕ) (rest : List ℕ) → path ≡ j ∷ rest → Later rest)
      → IsCodePath (laid g) (start g k ∷ path) → Mirror k path
  unfolding Later
  of_test k var kids [] is later path_is =
      alone k (Tests var kids) (Test var (map (start g) kids)) is
      (at_start k (Tests var kids) (Test var (map (start g) kids)) is (omega arith) refl) refl
  of_test k var kids (j ∷ path) is later path_is =
      let here = at_start k (Tests var kids) (Test var (map (start g) kids)) is (omega arith)
      refl in
      let there : Contains (map (start g) kids) j =
      subst (λ (o : Option Instr). Contains (goes_on (start g k) o) j) here path_is.0 in
      let kid = from_map kids j there in
      let to : ℕ = slice_index kids kid.0 in
      let above = on.above k (Tests var kids) kid.0 is kid.1 in
      let within = on.within k (Tests var kids) kid.0 is kid.1 in
      let rest = later j path refl to (omega arith) within
      (subst (λ (p : ℕ). IsCodePath (laid g) (p ∷ path)) kid.2 path_is.1) in
      subst (λ (p : ℕ). Mirror k (p ∷ path)) (sym kid.2)
      (further k to (Tests var kids) (Test var (map (start g) kids)) path is here refl
      (contains_at kids kid.0 kid.1) rest)

  of_assign : (k result code next : ℕ) (path : List ℕ)
      → slice_get g k ≡ Some (Assign result code next)
      → ((j : ℕ) (rest : List ℕ) → path ≡ j ∷ rest → Later rest)
      → ((i j : ℕ) (rest : List ℕ) → path ≡ i ∷ j ∷ rest → Later rest)
      → IsCodePath (laid g) (start g k ∷ path) → Mirror k path
  unfolding Later
  of_assign k result code next [] is later much_later path_is =
      alone k (Assign result code next) (Set result code) is
      (at_start k (Assign result code next) (Set result code) is (wide_assign k result code next)
      refl) refl
  of_assign k result code next (j ∷ path) is later much_later path_is =
      let here = at_start k (Assign result code next) (Set result code) is
      (wide_assign k result code next) refl in
      let to : j ≡ suc (start g k) =
      only (suc (start g k)) j
      (subst (λ (o : Option Instr). Contains (goes_on (start g k) o) j) here path_is.0) in
      let above : k < next = on.above k (Assign result code next) 0 is (omega arith) in
      let within : next < length g = on.within k (Assign result code next) 0 is (omega arith) in
      let from = start_next g 0 k (Assign result code next) is in
      let own : 0 + k ≡ k = omega arith in
      let w_own : width (0 + k) (Assign result code next) ≡ width k (Assign result code next) =
      ap (λ (i : ℕ). width i (Assign result code next)) own in
      let kid : Contains (next ∷ []) next = (0, omega arith, refl) in
      ⊎_elim
      (λ same.
      let w : width k (Assign result code next) ≡ 1 =
      ap (λ (b : Bool). cond {A = ℕ} b 1 2) (eq-eqb next (suc k) same) in
      let f : given_before 0 g next ≡ given_before 0 g (suc k) = ap (given_before 0 g) same in
      let place : j ≡ start g next = omega arith in
      let rest = later j path refl next (omega arith) within
      (subst (λ (p : ℕ). IsCodePath (laid g) (p ∷ path)) place path_is.1) in
      subst (λ (p : ℕ). Mirror k (p ∷ path)) (sym place)
      (further k next (Assign result code next) (Set result code) path is here refl kid rest))
      (λ other.
      let off : (next == suc k) ≡ false = ne_eqb next (suc k) other in
      let w : width k (Assign result code next) ≡ 2 = ap (λ (b : Bool). cond {A = ℕ} b 1 2) off in
      let one_in : suc (start g k) ≡ start g k + 1 = omega arith in
      let jump : slice_get (laid g) (suc (start g k)) ≡ Some (Goto (start g next)) =
      ap (slice_get (laid g)) one_in
      ∙ instr_at g k 1 (Assign result code next) is (omega arith)
      ∙ ap (λ (b : Bool). slice_get (Set result code ∷ cond b [] (Goto (start g next) ∷ [])) 1) off
      in
      over path (subst (λ (p : ℕ). slice_get (laid g) p ≡ Some (Goto (start g next))) (sym to) jump)
      path_is.1 here kid above within (λ i rest e.
      much_later j i rest (ap (λ (xs : List ℕ). j ∷ xs) e)))
      (cases_eq next (suc k))
    where
      over : (rest : List ℕ) → slice_get (laid g) j ≡ Some (Goto (start g next))
          → IsCodePath (laid g) (j ∷ rest) → slice_get (laid g) (start g k) ≡ Some (Set result code)
          → Contains (next ∷ []) next → k < next → next < length g
          → ((i : ℕ) (more : List ℕ) → rest ≡ i ∷ more → Later more) → Mirror k (j ∷ rest)
      over [] jump rest_is here kid above within go =
          let a = alone k (Assign result code next) (Set result code) is here refl in record {
            walk = [];
            is = tt;
            same =
                ap (λ (o : Option Instr). cons_option (tested_at o)
                (cons_option (tested_at (slice_get (laid g) j)) [])) here
                ∙ ap (λ (o : Option Instr). cons_option (tested_at o) []) jump
                ∙ ap (λ (o : Option Vertex). cons_option (tested_by o) []) (sym is);
          }
      over (i ∷ more) jump rest_is here kid above within go =
          let to : i ≡ start g next =
          only (start g next) i
          (subst (λ (o : Option Instr). Contains (goes_on j o) i) jump rest_is.0) in
          let rest = go i more refl next (omega arith) within
          (subst (λ (p : ℕ). IsCodePath (laid g) (p ∷ more)) to rest_is.1) in
          let one = further k next (Assign result code next) (Set result code) more is here refl kid
          rest in record {
            walk = one.walk;
            is = one.is;
            same =
                ap (λ (o : Option Instr). cons_option (tested_at (slice_get (laid g) (start g k)))
                (cons_option (tested_at o) (code_tests (laid g) (i ∷ more)))) jump
                ∙ ap (λ (p : ℕ). code_tests (laid g) (start g k ∷ p ∷ more)) to
                ∙ one.same;
          }

  of_any : (k : ℕ) (path : List ℕ) (v : Vertex) → 0 < k → slice_get g k ≡ Some v
      → ((j : ℕ) (rest : List ℕ) → path ≡ j ∷ rest → Later rest)
      → ((i j : ℕ) (rest : List ℕ) → path ≡ i ∷ j ∷ rest → Later rest)
      → IsCodePath (laid g) (start g k ∷ path) → Mirror k path
  of_any k path (Begin next) high is later much_later path_is =
      absurd (let e = on.only k next is in omega arith)
  of_any k path (Tests var kids) high is later much_later path_is =
      of_test k var kids path is later path_is
  of_any k path (Assign result code next) high is later much_later path_is =
      of_assign k result code next path is later much_later path_is
  of_any k path End high is later much_later path_is = of_end k path is path_is

  tail_of : (x j : ℕ) (xs ys : List ℕ) → x ∷ xs ≡ j ∷ ys → xs ≡ ys
  tail_of x j xs ys e = cc

  mirror : (fuel : ℕ) (path : List ℕ) → length path ≤ fuel → Later path
  unfolding Later
  mirror zero path few k high low path_is =
      let v = there_is g k low in
      of_any k path v.0 high v.1
      (λ j rest e. absurd (let l : length path
      ≡ suc (length rest) = ap (λ (xs : List ℕ). length xs) e in omega arith))
      (λ i j rest e. absurd (let l : length path
      ≡ suc (suc (length rest)) = ap (λ (xs : List ℕ). length xs) e in omega arith))
      path_is
  mirror (suc fuel) path few k high low path_is =
      let v = there_is g k low in
      of_any k path v.0 high v.1
      (λ j rest e. mirror fuel rest (let l :
      length path ≡ suc (length rest) = ap (λ (xs : List ℕ). length xs) e in omega arith))
      (λ i j rest e. mirror fuel rest (let l :
      length path ≡ suc (suc (length rest)) = ap (λ (xs : List ℕ). length xs) e in omega arith))
      path_is

  pub once_code : Once g → OnceCode (laid g)
  unfolding Later
  once_code once path path_is =
      let one_there : 1 < length g = on.within 0 (Begin 1) 0 on.begin (omega arith) in
      let from = start_next g 0 0 (Begin 1) on.begin in
      let w : width (0 + 0) (Begin 1) ≡ 0 = refl in
      let none : given_before 0 g 0 ≡ 0 = refl in
      let e : start g 1 ≡ 0 = omega arith in
      let m = mirror (length path) path (omega arith) 1 (omega arith) one_there
      (subst (λ (p : ℕ). IsCodePath (laid g) (p ∷ path)) (sym e) path_is) in
      subst (λ (xs : List ℕ). are_different xs ≡ true)
      (sym m.same ∙ ap (λ (p : ℕ). code_tests (laid g) (p ∷ path)) e) (once (1 ∷ m.walk) m.is)
