-- Where a machine's characteristic function is true.
use Rattle.std.proofs.Common.{◌≡◌, ℕ, zero, suc, ◌+◌, ◌<◌, true, List, [], ◌∷◌, ◌++◌, length, take, drop, get_or, slice_index, slice_get, Some, refl, ap, sym, ◌∙◌, arith}
use Rattle.std.proofs.lemmas.List.{get_or_append_left, get_or-append-add, take-append-drop}
use Rattle.std.proofs.Math.Seq.{take-append_seam, drop-append_seam}
use Rattle.domains.specs.AllCodes.{all_codes}
use Rattle.domains.specs.Names.{is_same}
use Rattle.domains.specs.Tables.{fits, rank, product}
use Rattle.transition_table.specs.declared.machine.Machine.{Machine}
use Rattle.transition_table.specs.Computed.{char, result_codes, result_code}
use Rattle.transition_table.specs.Orders.{sizes_of}
use Rattle.order_sift.specs.inner.Below.{Below}
use Rattle.order_sift.specs.inner.Classes.{snapshot_at}
use Rattle.char_function.proofs.Char.{same_self}
use Rattle.domains.proofs.Ranks.{length_fits}
use Rattle.domains.proofs.FittingCodes.{fits_both, fits_prefix}
use Rattle.domains.proofs.Names.{same_texts}

-- a snapshot and the codes of its results
abbrev pub point : Machine → List ℕ → List ℕ
point m s = s ++ result_codes m s

module _ (m : Machine) (below : Below) where
  pub point_fits : (s : List ℕ) → fits m.vars s ≡ true → fits (sizes_of m) (point m s) ≡ true
  point_fits s h = fits_both m.vars m.results s (result_codes m s) h (below.results_fit m s h)

  pub point_var : (s : List ℕ) (w : ℕ) → fits m.vars s ≡ true → w < length m.vars
      → slice_index (point m s) w ≡ slice_index s w
  point_var s w h low = let l = length_fits m.vars s h in
      get_or_append_left s (result_codes m s) 0 w (omega arith)

  pub point_result : (s : List ℕ) (y : ℕ) → fits m.vars s ≡ true
      → slice_index (point m s) (length m.vars + y) ≡ result_code m y s
  point_result s y h = ap (λ k. slice_index (point m s) (k + y)) (sym (length_fits m.vars s h))
      ∙ get_or-append-add s (result_codes m s) y 0

  pub point_true : (s : List ℕ) → fits m.vars s ≡ true → char m (point m s) ≡ true
  point_true s h =
      let l = length_fits m.vars s h in
      let t : take (length m.vars) (point m s) ≡ s =
      ap (λ k. take k (point m s)) (sym l) ∙ take-append_seam s (result_codes m s) in
      let d : drop (length m.vars) (point m s) ≡ result_codes m s =
      ap (λ k. drop k (point m s)) (sym l) ∙ drop-append_seam s (result_codes m s) in
      ap (λ (xs : List ℕ). is_same (result_codes m xs) (drop (length m.vars) (point m s))) t
      ∙ ap (λ (xs : List ℕ). is_same (result_codes m s) xs) d
      ∙ same_self (result_codes m s)

  -- where it is true, a snapshot stands with the codes of its results
  pub true_point : (q : List ℕ) → char m q ≡ true → q ≡ point m (take (length m.vars) q)
  true_point q h =
      let e = same_texts (result_codes m (take (length m.vars) q)) (drop (length m.vars) q) h in
      sym (take-append-drop (length m.vars) q)
      ∙ ap (λ (xs : List ℕ). take (length m.vars) q ++ xs) (sym e)

  pub snapshot_of : (q : List ℕ) → fits (sizes_of m) q ≡ true
      → fits m.vars (take (length m.vars) q) ≡ true
  snapshot_of q h = fits_prefix m.vars m.results q h

  -- ---- by numbers
  pub snapshot_some : (i : ℕ) → i < product m.vars
      → slice_get (all_codes m.vars) i ≡ Some (snapshot_at m i)
  snapshot_some i low = let l = below.counts_all m.vars in read (all_codes m.vars) i (omega arith)
    where
      read : (xs : List (List ℕ)) (i : ℕ) → i < length xs → slice_get xs i ≡ Some (get_or xs i [])
      read [] i low = absurd (omega arith)
      read (x ∷ xs) zero low = refl
      read (x ∷ xs) (suc i) low = read xs i (omega arith)

  pub snapshot_fits : (i : ℕ) → i < product m.vars → fits m.vars (snapshot_at m i) ≡ true
  snapshot_fits i low = (below.stands_once m.vars (snapshot_at m i) i (snapshot_some i low)).0

  pub snapshot_rank : (i : ℕ) → i < product m.vars → rank m.vars (snapshot_at m i) ≡ i
  snapshot_rank i low = (below.stands_once m.vars (snapshot_at m i) i (snapshot_some i low)).1

  pub at_rank : (s : List ℕ) → fits m.vars s ≡ true → snapshot_at m (rank m.vars s) ≡ s
  at_rank s h = got (all_codes m.vars) (rank m.vars s) s (below.stands_at_rank m.vars s h)
    where
      got : (xs : List (List ℕ)) (i : ℕ) (x : List ℕ) → slice_get xs i ≡ Some x → get_or xs i [] ≡ x
      got [] i x h = cc
      got (y ∷ xs) zero x h = cc
      got (y ∷ xs) (suc i) x h = got xs i x h

  pub rank_low : (s : List ℕ) → fits m.vars s ≡ true → rank m.vars s < product m.vars
  rank_low s h = below.ranks_below m.vars s h
