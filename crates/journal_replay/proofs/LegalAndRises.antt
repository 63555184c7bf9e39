-- A journal judged with its stamps.
use Rattle.std.specs.Prelude.{◌≡◌, ℕ, ◌+◌, ◌<◌, ◌≤◌, List, length, take, None, Some}
use Rattle.std.proofs.Common.{sym, subst, arith}
use Rattle.std.proofs.lemmas.List.{take-take}
use Rattle.transition_table.specs.declared.network.Network.{Network}
use Rattle.journals.specs.declared.entry.Entry.{Entry}
use Rattle.journals.specs.declared.entry.TraceItem.{TraceItem}
use Rattle.journals.specs.Legality.{Legal}
use Rattle.journals.specs.Laws.{GoesOnBySteps, PrefixesAreLegal}
use Rattle.journals.specs.Stamps.{Rising, IsFirstNotRising}
use Rattle.journal_replay.specs.Verdicts.{IsLegalAndRises}
use Rattle.journals.proofs.StampSteps.{length_prefix}
use Rattle.net_core.specs.Prefixes.{IsReason}
use Rattle.net_core.proofs.IsAdopted.{shorter}
use Rattle.net_core.proofs.Prefixes.{follows_if_legal}
use Rattle.polis_base.proofs.Places.{some_at}

-- ---- an entry that is legal after those before it

may_follow : PrefixesAreLegal → GoesOnBySteps
    → (net : Network) (trace : List TraceItem) (journal : List Entry) (k p : ℕ)
    → p < k → k ≤ length journal → Legal net trace (take k journal)
    → IsReason net trace journal p None
may_follow prefixes steps net trace journal k p below few legal =
    let within : p < length journal = omega arith in
    let (entry, at) = some_at journal p within in (
      entry,
      at,
      follows_if_legal steps net trace journal p entry within at
          (shorter prefixes net trace journal (p + 1) k (omega arith) legal),
    )

-- ---- a journal with its stamps

pub stamps_refused : PrefixesAreLegal → GoesOnBySteps
    → (net : Network) (trace : List TraceItem) (journal : List Entry) (stamps : List ℕ) (k p : ℕ)
    (first : List Entry) (some : List ℕ)
    → k ≤ length journal → Legal net trace (take k journal)
    → first ≡ take k journal → some ≡ take k stamps
    → IsFirstNotRising net first some (Some p)
    → (p < length journal) × IsLegalAndRises net trace (take p journal) (take p stamps)
    × (IsLegalAndRises net trace (take (p + 1) journal) (take (p + 1) stamps) → ⊥)
    × IsReason net trace journal p None
stamps_refused prefixes steps net trace journal stamps k p first some few legal are stamps_are h =
    let cut : IsFirstNotRising net (take k journal) (take k stamps) (Some p) =
    subst (λ (l : List ℕ). IsFirstNotRising net (take k journal) l (Some p)) stamps_are
    (subst (λ (l : List Entry). IsFirstNotRising net l some (Some p)) are h) in
    let size : length (take k journal) ≡ k = length_prefix journal k few in
    let below = cut.0 in (
      (let h : p < length journal = omega arith in h),
      (
        shorter prefixes net trace journal p k (omega arith) legal,
        subst (λ (l : List ℕ). Rising net (take p journal) l) (take-take p k stamps (omega arith))
            (subst (λ (l : List Entry). Rising net l (take p (take k stamps)))
            (take-take p k journal (omega arith)) cut.1),
      ),
      (λ both. cut.2
          (subst (λ (l : List ℕ). Rising net (take (p + 1) (take k journal)) l)
          (sym (take-take (p + 1) k stamps (omega arith)))
          (subst (λ (l : List Entry). Rising net l (take (p + 1) stamps))
          (sym (take-take (p + 1) k journal (omega arith))) both.1))),
      may_follow prefixes steps net trace journal k p (omega arith) few legal,
    )
