-- Lists of rows with the same conditions and actions are the same.
use Rattle.std.proofs.Common.{◌≡◌, [], ◌∷◌, List, map, refl}
use Rattle.transition_table.specs.declared.row.Row.{Row}
use Rattle.transition_table.proofs.SameData.{same_row}

pub same_rows : (xs ys : List Row) → map (λ (r : Row). r.conds) xs ≡ map (λ (r : Row). r.conds) ys
    → map (λ (r : Row). r.acts) xs ≡ map (λ (r : Row). r.acts) ys → xs ≡ ys
same_rows [] [] p q = refl
same_rows [] (y ∷ ys) p q = cc
same_rows (x ∷ xs) [] p q = cc
same_rows (x ∷ xs) (y ∷ ys) p q =
    let conds : x.conds ≡ y.conds = cc in
    let acts : x.acts ≡ y.acts = cc in
    let other_conds : map (λ (r : Row). r.conds) xs ≡ map (λ (r : Row). r.conds) ys = cc in
    let other_acts : map (λ (r : Row). r.acts) xs ≡ map (λ (r : Row). r.acts) ys = cc in
    let first : x ≡ y = same_row x y conds acts in
    let others : xs ≡ ys = same_rows xs ys other_conds other_acts in
    cc
