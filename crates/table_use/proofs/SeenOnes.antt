-- How many snapshots have some input present.
use Rattle.std.proofs.Common.{◌≡◌, ℕ, zero, suc, ◌+◌, ◌*◌, Bool, true, not, ◌&&◌, List, [], ◌∷◌, length, drop, count_by, refl, sym, ap, ◌∙◌, arith}
use Rattle.std.specs.List.{filter}
use Rattle.std.proofs.lemmas.List.Sums.{length-filter}
use Rattle.polis_base.specs.Lists.{upto}
use Rattle.domains.specs.AllCodes.{all_codes}
use Rattle.domains.specs.Tables.{product}
use Rattle.domains.proofs.AllCodes.{counts_all}
use Rattle.transition_table.specs.declared.machine.Machine.{Machine}
use Rattle.transition_table.proofs.Rows.{machine_sizes}
use Rattle.table_use.specs.Lint.{seen_ones}
use Rattle.journals.specs.Seen.{is_seen}
use Rattle.table_use.specs.inner.Boxes.{passes, passing, passing_idle}
use Rattle.table_use.proofs.ListCounts.{begins_idle, count_same, idle_counts, seen_and_idle, unseen_idle}
use Rattle.table_use.proofs.RowBoxes.{count_filter}
use Rattle.polis_base.proofs.UptoPlaces.{length_upto}

all_kept : {X : Type 0} (xs : List X) → filter (λ (x : X). true) xs ≡ xs
all_kept [] = refl
all_kept {X} (x ∷ xs) = ap (λ (l : List X). x ∷ l) (all_kept xs)

all_count : {X : Type 0} (xs : List X) → count_by (λ (x : X). true) xs ≡ length xs
all_count {X} xs =
    sym (length-filter (λ (x : X). true) xs) ∙ ap (λ (l : List X). length l) (all_kept xs)

abbrev any_code : ℕ → ℕ → Bool
any_code var code = true

all_pass : (n : ℕ) (s : List ℕ) → passes any_code n s ≡ true
all_pass n [] = refl
all_pass n (code ∷ s) = all_pass (n + 1) s

product_of_all : (n : ℕ) (sizes : List ℕ) → passing any_code n sizes ≡ product sizes
product_of_all n [] = refl
product_of_all n (size ∷ sizes) =
    ap (λ (k : ℕ). k * passing any_code (n + 1) sizes)
    (all_count (upto size) ∙ length_upto size)
    ∙ ap (λ (k : ℕ). size * k) (product_of_all (n + 1) sizes)

idle_of_all : (k n : ℕ) (sizes : List ℕ)
    → passing_idle any_code k n sizes ≡ product (drop k sizes)
idle_of_all zero n sizes = product_of_all n sizes
idle_of_all (suc k) n [] = refl
idle_of_all (suc k) n (size ∷ sizes) = idle_of_all k (n + 1) sizes

-- those that are seen, and those whose inputs have the code 0, are all
pub seen_total : (m : Machine)
    → length (seen_ones m) + product (drop (length m.inputs) m.vars) ≡ product m.vars
seen_total m =
    let k = length m.inputs in
    let all = all_codes m.vars in
    let test : List ℕ → Bool = λ s. true in
    let sum = seen_and_idle m test in
    let one = all_count (seen_ones m) in
    let two = all_count all ∙ counts_all m.vars in
    let idle : count_by test (filter (λ s. not (is_seen m s)) all) ≡ product (drop k m.vars) =
    count_filter test (λ s. not (is_seen m s)) all
    ∙ count_same (λ s. true && not (is_seen m s))
    (λ s. passes any_code 0 s && begins_idle k s) all
    (λ s. unseen_idle m s ∙ ap (λ (b : Bool). b && begins_idle k s) (sym (all_pass 0 s)))
    ∙ idle_counts any_code k 0 m.vars (machine_sizes m)
    ∙ idle_of_all k 0 m.vars in
    omega arith
