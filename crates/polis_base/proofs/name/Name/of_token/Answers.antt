use Rattle.std.proofs.Common.{◌≡◌, sym, subst, List, ℕ, ◌-◌, ◌++◌, drop, length, replicate}
use Rattle.std.proofs.lemmas.List.{drop-replicate}
use Rattle.polis_base.specs.NameFields.{HoldsName, before_zero}
use Rattle.polis_base.proofs.Names.{holds_new, name_before_zeros, fits_in_place}
use Rattle.polis_base.proofs.name.Name.of_token.Goals as goal

pub slice_bounds-held-end : goal.slice_bounds-held-end
slice_bounds-held-end c = fits_in_place c.args.bytes.now c.requires

pub invariant_of-result : goal.invariant_of-result
invariant_of-result c =
    let bytes = c.args.bytes.now in
    let zeros : drop (length bytes) (replicate {A = ℕ} 24 0) ≡ replicate (24 - length bytes) 0 =
    drop-replicate (length bytes) 24 0 in
    let padded =
    subst (λ (ys : List ℕ). HoldsName (record { bytes = bytes ++ ys })) (sym zeros)
    (holds_new bytes c.requires) in
    subst (λ (xs : List ℕ). HoldsName
    (record { bytes = xs ++ drop (length bytes) (replicate 24 0) }))
    (sym c.copy_from_slice.ensures.after) padded

pub returns : goal.returns
returns c =
    let bytes = c.args.bytes.now in
    let same = name_before_zeros bytes (24 - length bytes) c.requires in
    let zeros : drop (length bytes) (replicate {A = ℕ} 24 0) ≡ replicate (24 - length bytes) 0 =
    drop-replicate (length bytes) 24 0 in
    let padded = subst (λ (ys : List ℕ). before_zero (bytes ++ ys) ≡ bytes) (sym zeros) same in
    subst (λ (xs : List ℕ). before_zero (xs ++ drop (length bytes) (replicate 24 0)) ≡ bytes)
    (sym c.copy_from_slice.ensures.after) padded
