-- An image by its heads and its codes.
use Rattle.std.proofs.Common.{◌≡◌, ℕ, zero, suc, ◌+◌, ◌<◌, ◌≤◌, List, [], ◌∷◌, ◌++◌, length, map, take, eqb, get_or, Some, refl, sym, ap, subst, ◌∙◌, arith}
use Rattle.std.specs.Prelude.{slice_get, IsSomeAnd, ◌&&◌, nat_le}
use Rattle.std.specs.List.{list_all}
use Rattle.std.proofs.lemmas.Bool.{eqb-true}
use Rattle.std.proofs.lemmas.List.{map-append}
use Rattle.polis_base.specs.declared.limits.TheConstants.{MACHINES_MAX}
use Rattle.transition_table.specs.declared.machine.Machine.{Machine}
use Rattle.transition_table.specs.declared.network.Network.{Network}
use Rattle.task_code.specs.declared.instr.Instr.{Instr}
use Rattle.task_image.specs.declared.image.Head.{Head}
use Rattle.task_image.specs.declared.image.ImageMachine.{ImageMachine}
use Rattle.task_image.specs.inner.Heads.{machine_of, joined, kept_head, IsHead, AreHeads}
use Rattle.task_image.specs.Images.{codes_of, head_of, kept, image_of, IsCodeOf, IsImage, IsImageMachine, AreStorable}
use Rattle.domains.specs.Tables.{are_sizes}
use Rattle.task_image.proofs.Prefixes.{none_some, take_next}
use Rattle.polis_base.proofs.Bools.{and_first, and_second}
use Rattle.polis_base.proofs.Places.{each_more, some_is}

pub joined_length : (hs : List Head) (cs : List (List Instr)) → length hs ≡ length cs
    → length (joined hs cs) ≡ length cs
joined_length [] [] e = refl
joined_length [] (c ∷ cs) e = absurd (omega (arith, e))
joined_length (h ∷ hs) [] e = absurd (omega (arith, e))
joined_length (h ∷ hs) (c ∷ cs) e = ap suc (joined_length hs cs (omega (arith, e)))

pub joined_code : (hs : List Head) (cs : List (List Instr)) (k : ℕ) (c : List Instr)
    → length hs ≡ length cs → slice_get cs k ≡ Some c
    → IsSomeAnd (slice_get (joined hs cs) k) (λ m. m.code ≡ c)
joined_code hs [] k c e is = absurd (none_some c is)
joined_code [] (d ∷ cs) k c e is = absurd (omega (arith, e))
joined_code (h ∷ hs) (d ∷ cs) zero c e is = some_is d c is
joined_code (h ∷ hs) (d ∷ cs) (suc k) c e is = joined_code hs cs k c (omega (arith, e)) is

pub joined_head : (hs : List Head) (cs : List (List Instr)) (k : ℕ) (h : Head)
    → length hs ≡ length cs → k < length hs → h ≡ get_or hs k h
    → IsSomeAnd (slice_get (joined hs cs) k) (λ m. head_of m ≡ h)
joined_head [] cs k h e lt is = absurd (omega (arith, lt))
joined_head (g ∷ hs) [] k h e lt is = absurd (omega (arith, e))
joined_head (g ∷ hs) (c ∷ cs) zero h e lt is = sym is
joined_head (g ∷ hs) (c ∷ cs) (suc k) h e lt is =
    joined_head hs cs k h (omega (arith, e)) (omega (arith, lt)) is

pub joined_push : (hs : List Head) (cs : List (List Instr)) (h : Head) (c : List Instr)
    → length hs ≡ length cs
    → joined (hs ++ h ∷ []) (cs ++ c ∷ []) ≡ joined hs cs ++ machine_of h c ∷ []
joined_push [] [] h c e = refl
joined_push [] (d ∷ cs) h c e = absurd (omega (arith, e))
joined_push (g ∷ hs) [] h c e = absurd (omega (arith, e))
joined_push (g ∷ hs) (d ∷ cs) h c e =
    ap (λ ms. machine_of g d ∷ ms) (joined_push hs cs h c (omega (arith, e)))

pub joined_codes : (hs : List Head) (cs : List (List Instr)) → length hs ≡ length cs
    → cs ≡ codes_of (joined hs cs)
joined_codes [] [] e = refl
joined_codes [] (c ∷ cs) e = absurd (omega (arith, e))
joined_codes (h ∷ hs) [] e = absurd (omega (arith, e))
joined_codes (h ∷ hs) (c ∷ cs) e =
    ap (λ (ds : List (List Instr)). c ∷ ds) (joined_codes hs cs (omega (arith, e)))

-- ---- of a network's machines
joined_kept : (ms : List Machine) (cs : List (List Instr))
    → joined (map kept_head ms) cs ≡ image_of ms cs
joined_kept [] cs = refl
joined_kept (m ∷ ms) [] = refl
joined_kept (m ∷ ms) (c ∷ cs) = ap (λ is. kept m c ∷ is) (joined_kept ms cs)

pub joined_of : (ms : List Machine) (heads : List Head) (cs : List (List Instr))
    → AreHeads ms heads → joined heads cs ≡ image_of ms cs
joined_of ms heads cs are =
    ap (λ (hs : List Head). joined hs cs) are.are ∙ joined_kept ms cs

image_long : (ms : List Machine) (cs : List (List Instr)) → length cs ≡ length ms
    → length (image_of ms cs) ≡ length ms
image_long [] [] e = refl
image_long [] (c ∷ cs) e = absurd (omega (arith, e))
image_long (m ∷ ms) [] e = absurd (omega (arith, e))
image_long (m ∷ ms) (c ∷ cs) e = ap suc (image_long ms cs (omega (arith, e)))

-- a machine of the image is one of the network's, with its code
kept_at : (ms : List Machine) (cs : List (List Instr)) (k : ℕ) (a : ImageMachine)
    → slice_get (image_of ms cs) k ≡ Some a
    → (m : Machine) × (c : List Instr) × (slice_get ms k ≡ Some m) × (slice_get cs k ≡ Some c)
    × (kept m c ≡ a)
kept_at [] cs k a e = absurd (none_some a e)
kept_at (m ∷ ms) [] k a e = absurd (none_some a e)
kept_at (m ∷ ms) (c ∷ cs) zero a e = (m, c, refl, refl, some_is (kept m c) a e)
kept_at (m ∷ ms) (c ∷ cs) (suc k) a e = kept_at ms cs k a e

head_at : (ms : List Machine) (k : ℕ) (m : Machine) → slice_get ms k ≡ Some m
    → slice_get (map kept_head ms) k ≡ Some (kept_head m)
head_at [] k m e = absurd (none_some m e)
head_at (n ∷ ms) zero m e = ap (λ (x : Machine). Some (kept_head x)) (some_is n m e)
head_at (n ∷ ms) (suc k) m e = head_at ms k m e

-- the variables are the inputs and the state variables
some_vars : (m : Machine) → 1 ≤ length m.inputs → 1 ≤ length m.vars
some_vars m some =
    let sized = and_first
    (are_sizes m.vars && eqb (length m.vars) (length m.inputs + length m.states)
    && list_all (nat_le 2) (take (length m.inputs) m.vars)) _ m.sized_vars in
    let front = and_first
    (are_sizes m.vars && eqb (length m.vars) (length m.inputs + length m.states)) _ sized in
    let long = eqb-true (length m.vars) (length m.inputs + length m.states)
    (and_second (are_sizes m.vars) (eqb (length m.vars) (length m.inputs + length m.states)) front)
    in
    omega (arith, long, some)

machine_is : (m : Machine) (c : List Instr) → IsHead (kept_head m) → 1 ≤ length m.vars
    → IsCodeOf m.vars m.results c → IsImageMachine (kept m c)
machine_is m c h some code = record {
  name = h.name;
  some_vars = some;
  few_vars = h.few_vars;
  vars = h.vars;
  some_results = h.some_results;
  few_results = h.few_results;
  results = h.results;
  code = code;
}

pub image_is : (net : Network) (codes : List (List Instr)) (heads : List Head)
    → AreStorable net codes → AreHeads net.machines heads → length net.machines ≤ MACHINES_MAX
    → IsImage (image_of net.machines codes)
image_is net codes heads s are few =
    let long = image_long net.machines codes s.long in
    let some = s.some in
    record {
      some = omega (arith, long, some);
      few = omega (arith, long, few);
      each = λ k a e.
          let p = kept_at net.machines codes k a e in
          let h = are.each k (kept_head p.0)
          (ap (λ (hs : List Head). slice_get hs k) are.are ∙ head_at net.machines k p.0 p.2) in
          subst IsImageMachine p.4
          (machine_is p.0 p.1 h (some_vars p.0 (s.inputs k p.0 p.2)) (s.codes k p.0 p.1 p.2 p.3));
    }

pub heads_next : (ms : List Machine) (k : ℕ) (heads : List Head) (m : Machine) (h : Head)
    → AreHeads (take k ms) heads → slice_get ms k ≡ Some m → h ≡ kept_head m → IsHead h
    → AreHeads (take (k + 1) ms) (heads ++ h ∷ [])
heads_next ms k heads m h are there is ok =
    let s : suc k ≡ k + 1 = omega arith in
    subst (λ (n : ℕ). AreHeads (take n ms) (heads ++ h ∷ [])) s
    (record {
      are = ap (λ (hs : List Head). hs ++ h ∷ []) are.are
          ∙ ap (λ (g : Head). map kept_head (take k ms) ++ g ∷ []) is
          ∙ sym (map-append kept_head (take k ms) (m ∷ []))
          ∙ ap (map kept_head) (sym (take_next ms k m there));
      each = each_more IsHead heads h are.each ok;
    })
