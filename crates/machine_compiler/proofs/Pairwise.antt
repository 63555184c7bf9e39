-- Parts and lines, written one after another.
use Rattle.std.proofs.Common.{◌≡◌, ⊎_elim, ◌⊎◌, inl, inr, ℕ, suc, ◌+◌, ◌<◌, ◌≤◌, List, ◌∷◌, ◌++◌, length, drop, min, slice_get, Option, Some, None, refl, ap, sym, subst, ◌∙◌, arith, append_assoc, []}
use Rattle.std.specs.Prelude.{IsSomeAnd, option_map}
use Rattle.std.proofs.lemmas.Bool.{cases_lt}
use Rattle.std.proofs.lemmas.List.{append-nil, drop-map}
use Rattle.std.proofs.lemmas.Option.{slice_get-map}
use Rattle.transition_table.specs.declared.machine.Machine.{Machine}
use Rattle.transition_table.specs.declared.network.Network.{Network}
use Rattle.transition_table.specs.Transitions.{OfMachine}
use Rattle.task_code.specs.declared.instr.Instr.{Instr}
use Rattle.task_code.specs.Listings.{Part, part_text, parts_text}
use Rattle.machine_compiler.specs.declared.compiled.Compiled.{Compiled}
use Rattle.machine_compiler.specs.Parts.{part_of_compiled, parts_of, codes_in}
use Rattle.machine_compiler.specs.Lines.{side_by_side}
use Rattle.polis_base.proofs.Places.{drop_one, drop_past}

-- ---- codes
pub more_codes : (cs : List Compiled) (k : ℕ) (c : Compiled) (out new : List (List Instr))
    (whole : List (List Instr))
    → out ++ codes_in (parts_of (drop k cs)) ≡ whole
    → slice_get cs k ≡ Some c
    → new ≡ out ++ c.code ∷ []
    → new ++ codes_in (parts_of (drop (k + 1) cs)) ≡ whole
more_codes cs k c out new whole is at e =
    let f : k + 1 ≡ suc k = omega arith in
    ap (λ (n : ℕ). new ++ codes_in (parts_of (drop n cs))) f
    ∙ ap (λ (xs : List (List Instr)). xs ++ codes_in (parts_of (drop (suc k) cs))) e
    ∙ append_assoc out (c.code ∷ []) (codes_in (parts_of (drop (suc k) cs)))
    ∙ ap (λ (ds : List Compiled). out ++ codes_in (parts_of ds)) (sym (drop_one cs k c at))
    ∙ is

pub all_codes_in : (cs : List Compiled) (k : ℕ) (out whole : List (List Instr)) → length cs ≤ k
    → out ++ codes_in (parts_of (drop k cs)) ≡ whole → out ≡ whole
all_codes_in cs k out whole high is =
    sym (append-nil out) ∙ ap (λ (ds : List Compiled). out ++ codes_in (parts_of ds))
    (sym (drop_past cs k high)) ∙ is

-- ---- texts of machines and parts, side by side
-- the text of machines and what stands at their places is that of each pair, one after another
pub record Pairwise {X : Type 0} (one : ℕ → Machine → X → List ℕ) (text : ℕ → List Machine → List X
    → List ℕ) : Type 0 where
  pub no_machine : (k : ℕ) (qs : List X) → text k [] qs ≡ []
  pub no_part : (k : ℕ) (ms : List Machine) → text k ms [] ≡ []
  pub pair : (k : ℕ) (m : Machine) (ms : List Machine) (q : X) (qs : List X)
      → text k (m ∷ ms) (q ∷ qs) ≡ one k m q ++ text (suc k) ms qs

pub listing_pairs : (net : Network)
    → Pairwise (λ k m q. part_text net m q) (λ k ms qs. parts_text net ms qs)
listing_pairs net =
    record {
      no_machine = λ k qs. refl;
      no_part = no_parts;
      pair = λ k m ms q qs. refl;
    }
  where
    no_parts : (k : ℕ) (ms : List Machine) → parts_text net ms [] ≡ []
    no_parts k [] = refl
    no_parts k (m ∷ ms) = refl

pub side_pairs : {X : Type 0} (one : ℕ → Machine → X → List ℕ) → Pairwise one (side_by_side one)
side_pairs one =
    record {
      no_machine = λ k xs. refl;
      no_part = no_parts;
      pair = λ k m ms x xs. refl;
    }
  where
    no_parts : (k : ℕ) (ms : List Machine) → side_by_side one k ms [] ≡ []
    no_parts k [] = refl
    no_parts k (m ∷ ms) = refl

-- one more pair
pub next_pair : {X : Type 0} (one : ℕ → Machine → X → List ℕ)
    (text : ℕ → List Machine → List X → List ℕ)
    → Pairwise one text
    → (ms : List Machine) (xs : List X) (k : ℕ) (m : Machine) (x : X) (out new whole : List ℕ)
    → out ++ text k (drop k ms) (drop k xs) ≡ whole
    → slice_get ms k ≡ Some m
    → slice_get xs k ≡ Some x
    → new ≡ out ++ one k m x
    → new ++ text (k + 1) (drop (k + 1) ms) (drop (k + 1) xs) ≡ whole
next_pair {X = X} one text pairs ms xs k m x out new whole is at_m at_x e =
    let f : k + 1 ≡ suc k = omega arith in
    let rest = text (suc k) (drop (suc k) ms) (drop (suc k) xs) in
    ap (λ (n : ℕ). new ++ text n (drop n ms) (drop n xs)) f
    ∙ ap (λ (ys : List ℕ). ys ++ rest) e
    ∙ append_assoc out (one k m x) rest
    ∙ ap (λ (ys : List ℕ). out ++ ys) (sym (pairs.pair k m (drop (suc k) ms) x (drop (suc k) xs)))
    ∙ ap (λ (ys : List X). out ++ text k (m ∷ drop (suc k) ms) ys) (sym (drop_one xs k x at_x))
    ∙ ap (λ (ns : List Machine). out ++ text k ns (drop k xs)) (sym (drop_one ms k m at_m))
    ∙ is

-- so of a machine and what was compiled of it
pub more_pairs : (one : ℕ → Machine → Part → List ℕ) (text : ℕ → List Machine → List Part → List ℕ)
    → Pairwise one text
    → (ms : List Machine) (cs : List Compiled) (k : ℕ) (m : Machine) (c : Compiled)
    (out new whole : List ℕ)
    → out ++ text k (drop k ms) (parts_of (drop k cs)) ≡ whole
    → slice_get ms k ≡ Some m
    → slice_get cs k ≡ Some c
    → new ≡ out ++ one k m (part_of_compiled c)
    → new ++ text (k + 1) (drop (k + 1) ms) (parts_of (drop (k + 1) cs)) ≡ whole
more_pairs one text pairs ms cs k m c out new whole is at_m at_c e =
    ap (λ (qs : List Part). new ++ text (k + 1) (drop (k + 1) ms) qs)
    (sym (drop-map part_of_compiled (k + 1) cs))
    ∙ next_pair one text pairs ms (parts_of cs) k m (part_of_compiled c) out new whole
    (ap (λ (qs : List Part). out ++ text k (drop k ms) qs) (drop-map part_of_compiled k cs)
    ∙ is) at_m
    (slice_get-map part_of_compiled cs k ∙ ap (option_map part_of_compiled) at_c) e

-- nothing is left where the machines or the parts end
pub all_pairs : (one : ℕ → Machine → Part → List ℕ) (text : ℕ → List Machine → List Part → List ℕ)
    → Pairwise one text
    → (ms : List Machine) (cs : List Compiled) (k : ℕ) (out whole : List ℕ)
    → out ++ text k (drop k ms) (parts_of (drop k cs)) ≡ whole
    → min (length ms) (length cs) ≤ k
    → out ≡ whole
all_pairs one text pairs ms cs k out whole is end =
    ⊎_elim few_machines few_parts (short (cases_lt k (length ms)))
  where
    nothing : text k (drop k ms) (parts_of (drop k cs)) ≡ [] → out ≡ whole
    nothing none = sym (append-nil out) ∙ ap (λ (xs : List ℕ). out ++ xs) (sym none) ∙ is

    short : ((k < length ms) ⊎ (length ms ≤ k)) → ((length ms ≤ k) ⊎ (length cs ≤ k))
    short (inl low) = inr (omega arith)
    short (inr high) = inl high

    few_machines : length ms ≤ k → out ≡ whole
    few_machines high =
        nothing (ap (λ (ns : List Machine). text k ns (parts_of (drop k cs))) (drop_past ms k high)
        ∙ pairs.no_machine k (parts_of (drop k cs)))

    few_parts : length cs ≤ k → out ≡ whole
    few_parts high =
        nothing (ap (λ (ds : List Compiled). text k (drop k ms) (parts_of ds)) (drop_past cs k high)
        ∙ pairs.no_part k (drop k ms))

-- one more part
pub one_more : (one : ℕ → Machine → Part → List ℕ) (text : ℕ → List Machine → List Part → List ℕ)
    → Pairwise one text
    → (k : ℕ) (ms : List Machine) (m : Machine) (qs : List Part) (q : Part)
    → slice_get ms (length qs) ≡ Some m
    → text k ms (qs ++ q ∷ []) ≡ text k ms qs ++ one (k + length qs) m q
one_more one text pairs k [] m qs q at = cc
one_more one text pairs k (n ∷ ms) m [] q at =
    let is : n ≡ m = cc in
    let here : k ≡ k + 0 = omega arith in
    pairs.pair k n ms q []
    ∙ ap (λ (xs : List ℕ). one k n q ++ xs) (pairs.no_part (suc k) ms)
    ∙ append-nil (one k n q)
    ∙ ap (λ (l : Machine). one k l q) is
    ∙ ap (λ (i : ℕ). one i m q) here
    ∙ ap (λ (xs : List ℕ). xs ++ one (k + 0) m q) (sym (pairs.no_part k (n ∷ ms)))
one_more one text pairs k (n ∷ ms) m (p ∷ qs) q at =
    let next : suc k + length qs ≡ k + suc (length qs) = omega arith in
    pairs.pair k n ms p (qs ++ q ∷ [])
    ∙ ap (λ (xs : List ℕ). one k n p ++ xs) (one_more one text pairs (suc k) ms m qs q at)
    ∙ sym (append_assoc (one k n p) (text (suc k) ms qs) (one (suc k + length qs) m q))
    ∙ ap (λ (xs : List ℕ). xs ++ one (suc k + length qs) m q) (sym (pairs.pair k n ms p qs))
    ∙ ap (λ (i : ℕ). text k (n ∷ ms) (p ∷ qs) ++ one i m q) next

-- ---- a part of the listing
-- what holds of the machine of a number holds of this one
pub of_machine : (net : Network) (k : ℕ) (m : Machine) (P : Machine → Type 0)
    → slice_get net.machines k ≡ Some m → OfMachine net k P → P m
of_machine net k m P at holds = go (slice_get net.machines k) at holds
  where
    go : (x : Option Machine) → x ≡ Some m → IsSomeAnd x P → P m
    go None e h = absurd h
    go (Some n) e h = let is : n ≡ m = cc in subst P is h

-- three texts, one after another
pub three_texts : (old one two new a b c : List ℕ) → one ≡ old ++ a → two ≡ one ++ b
    → new ≡ two ++ c → new ≡ old ++ ((a ++ b) ++ c)
three_texts old one two new a b c e f g =
    g
    ∙ ap (λ (xs : List ℕ). xs ++ c) (f ∙ ap (λ (xs : List ℕ). xs ++ b) e ∙ append_assoc old a b)
    ∙ append_assoc old (a ++ b) c
