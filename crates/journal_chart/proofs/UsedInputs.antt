-- The notes of inputs that are unused.
use Rattle.std.proofs.Common.{◌≡◌, ℕ, suc, ◌+◌, Bool, true, false, cond, List, [], ◌∷◌, ◌++◌, filter_map, drop, slice_get, Option, Some, refl, sym, ap, ◌∙◌, arith, codes}
use Rattle.std.specs.List.{enumerate_from}
use Rattle.std.proofs.lemmas.List.{append_assoc}
use Rattle.polis_base.proofs.Places.{drop_one}
use Rattle.transition_table.specs.NetworkNames.{event_name}
use Rattle.transition_table.specs.declared.machine.Machine.{Machine}
use Rattle.transition_table.specs.declared.network.Network.{Network}
use Rattle.table_use.specs.Use.{is_unused}
use Rattle.journal_chart.specs.Notes.{unused_note}

-- the note of one input more
pub unused_more : (net : Network) (machine : Machine) (s : List ℕ) (i e : ℕ)
    (now new whole : List (List ℕ)) (b : Bool)
    → slice_get machine.inputs i ≡ Some e
    → b ≡ is_unused machine i s
    → new ≡ now ++ cond b ((codes "unused " ++ event_name net e) ∷ []) []
    → now ++ filter_map (unused_note net machine s) (enumerate_from i (drop i machine.inputs))
    ≡ whole
    → new
    ++ filter_map (unused_note net machine s) (enumerate_from (i + 1) (drop (i + 1) machine.inputs))
    ≡ whole
unused_more net machine s i e now new whole b at is made was =
    ap (λ (l : List (List ℕ)). l ++ rest) made
    ∙ append_assoc now (cond b (note ∷ []) []) rest
    ∙ ap (λ (t : Bool). now ++ (cond t (note ∷ []) [] ++ rest)) is
    ∙ ap (λ (l : List (List ℕ)). now ++ l) (sym (split (is_unused machine i s) refl))
    ∙ ap (λ (l : List ℕ). now ++ filter_map f (enumerate_from i l))
    (ap (λ (k : ℕ). e ∷ drop k machine.inputs) next ∙ sym (drop_one machine.inputs i e at))
    ∙ was
  where
    f : ℕ × ℕ → Option (List ℕ)
    f = unused_note net machine s

    note : List ℕ
    note = codes "unused " ++ event_name net e

    rest : List (List ℕ)
    rest = filter_map f (enumerate_from (i + 1) (drop (i + 1) machine.inputs))

    next : i + 1 ≡ suc i
    next = omega arith

    split : (t : Bool) → is_unused machine i s ≡ t
        → filter_map f (enumerate_from i (e ∷ drop (i + 1) machine.inputs))
        ≡ cond (is_unused machine i s) (note ∷ []) [] ++ rest
    split true e = rw e refl
    split false e = rw e refl
