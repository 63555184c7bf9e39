-- The longest legal prefix of a journal that is legal by itself for each machine.
use Rattle.std.specs.Prelude.{◌≡◌, ℕ, ◌+◌, ◌<◌, ◌≤◌, List, [], ◌∷◌, ◌++◌, length, take, drop, slice_get, Some}
use Rattle.std.proofs.Common.{inl, inr, sym, ap, ◌∙◌, subst, arith, append_assoc}
use Rattle.std.proofs.lemmas.List.{length-take, take-append-drop, take-take}
use Rattle.std.proofs.lemmas.Bool.{cases_lt}
use Rattle.transition_table.specs.declared.network.Network.{Network}
use Rattle.journals.specs.declared.entry.Entry.{Entry}
use Rattle.journals.specs.declared.entry.TraceItem.{TraceItem}
use Rattle.journals.specs.Alone.{IsAlone}
use Rattle.journals.specs.Legality.{Legal, MayFollowIfReaction}
use Rattle.journals.specs.Laws.{PrefixesAreLegal, ReactsByOwn}
use Rattle.journals.specs.Moved.{machine_of}
use Rattle.net_core.specs.Prefixes.{IsAdopted}
use Rattle.journals.proofs.StampSteps.{length_prefix, prefix_more}

-- the list in three parts: what stands before an item, the item, and what stands after it
around : {X : Type 0} (xs : List X) (i : ℕ) (x : X) → i < length xs → slice_get xs i ≡ Some x
    → xs ≡ take i xs ++ x ∷ drop (i + 1) xs
around xs i x below at =
    sym (take-append-drop (i + 1) xs)
    ∙ ap (λ l. l ++ drop (i + 1) xs) (prefix_more xs i x below at)
    ∙ append_assoc (take i xs) (x ∷ []) (drop (i + 1) xs)

-- a reaction may follow in a journal that is legal by itself for each machine
pub entry_reacts : ReactsByOwn
    → (net : Network) (trace : List TraceItem) (journal : List Entry) (i : ℕ) (entry : Entry)
    → ((m : ℕ) → IsAlone net m journal) → i < length journal → slice_get journal i ≡ Some entry
    → MayFollowIfReaction net trace (take i journal) entry
entry_reacts by_own net trace journal i entry alone below at =
    by_own net trace (take i journal) entry (drop (i + 1) journal)
    (subst (IsAlone net (machine_of entry)) (around journal i entry below at)
    (alone (machine_of entry)))

pub shorter : PrefixesAreLegal → (net : Network) (trace : List TraceItem) (journal : List Entry)
    (p k : ℕ) → p ≤ k → Legal net trace (take k journal) → Legal net trace (take p journal)
shorter prefixes net trace journal p k within h =
    subst (Legal net trace) (take-take p k journal within)
    (prefixes net trace (take p (take k journal)) (drop p (take k journal))
    (subst (Legal net trace) (sym (take-append-drop p (take k journal))) h))

-- The judging ended at the limit, at the journal's end, or at an entry that may not follow. No
-- prefix is legal that has such an entry.
pub adopted_at : PrefixesAreLegal
    → (net : Network) (trace : List TraceItem) (journal : List Entry) (i limit : ℕ)
    → i ≤ length journal → i ≤ limit → Legal net trace (take i journal)
    → (i < length journal → i < limit → Legal net trace (take (i + 1) journal) → ⊥)
    → IsAdopted net trace journal limit (take i journal)
adopted_at prefixes net trace journal i limit within few legal refused =
    let size : length (take i journal) ≡ i = length_prefix journal i within in
    record {
      prefix = ap (λ k. take k journal) (sym size);
      legal = legal;
      within = omega arith;
      longest = λ k small h.
          let most = length-take k journal in
          elim (cases_lt i k) [
            | inl above ↦
                elim (cases_lt i (length journal)) [
                  | inl below ↦
                      absurd (refused below (omega arith)
                      (shorter prefixes net trace journal (i + 1) k (omega arith) h))
                  | inr end ↦ omega arith
                ]
            | inr under ↦ omega arith
          ];
    }
