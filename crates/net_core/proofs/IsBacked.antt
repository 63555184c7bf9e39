-- Stamps made and judged entry by entry.
use Rattle.std.specs.Prelude.{◌≡◌, ℕ, suc, ◌+◌, ◌<◌, ◌≤◌, List, ◌∷◌, ◌++◌, length, ◌-◌, take, get_or, slice_get, Some, []}
use Rattle.std.proofs.Common.{refl, ap, ◌∙◌, subst, arith, length-append}
use Rattle.std.proofs.lemmas.List.{get_or-append_right}
use Rattle.transition_table.specs.declared.decl.Party.TheVariants.{Machine as Sender}
use Rattle.transition_table.specs.declared.network.Network.{Network}
use Rattle.journals.specs.declared.entry.Entry.{Entry}
use Rattle.journals.specs.declared.entry.TraceItem.{TraceItem}
use Rattle.journals.specs.Journals.{FitsNetwork, delivered, sent}
use Rattle.journals.specs.Legality.{Legal}
use Rattle.journals.specs.Laws.{PrefixesAreLegal, GoesOnBySteps, DeliveredBeginsSent}
use Rattle.journals.specs.Logs.{entries, stamped, with_stamps}
use Rattle.journals.specs.StampLaws.{AsManyStampsSent, LeastAreAsMany, LeastAreWithin, LeastBySteps}
use Rattle.journals.specs.Stamps.{greatest, stamps_below, least_stamp, least}
use Rattle.net_core.specs.inner.Clocks.{IsBacked}
use Rattle.journals.proofs.StampSteps.{length_prefix, prefix_step, prefix_more, entries_with_stamps}

-- ---- entries with their stamps

stamps_more : (journal : List Entry) (ts : List ℕ) (entry : Entry) (t : ℕ)
    → length ts ≡ length journal
    → with_stamps (journal ++ entry ∷ []) (ts ++ t ∷ [])
    ≡ with_stamps journal ts ++ stamped t entry ∷ []
stamps_more [] [] entry t h = refl
stamps_more [] (u ∷ ts) entry t h = absurd (omega arith)
stamps_more (e ∷ journal) [] entry t h = absurd (omega arith)
stamps_more (e ∷ journal) (u ∷ ts) entry t h =
    ap (λ l. stamped u e ∷ l) (stamps_more journal ts entry t (omega arith))

length_stamped : (journal : List Entry) (ts : List ℕ) → length ts ≡ length journal
    → length (with_stamps journal ts) ≡ length journal
length_stamped [] ts h = refl
length_stamped (e ∷ journal) [] h = absurd (omega arith)
length_stamped (e ∷ journal) (t ∷ ts) h = ap suc (length_stamped journal ts (omega arith))

-- ---- no more is delivered than was sent

legal_is_backed : DeliveredBeginsSent → AsManyStampsSent
    → (net : Network) (trace : List TraceItem) (journal : List Entry) (ts : List ℕ)
    → Legal net trace journal → length ts ≡ length journal → IsBacked net (with_stamps journal ts)
legal_is_backed begins_sent as_many net trace journal ts legal many = λ s m.
    let same : entries (with_stamps journal ts) ≡ journal = entries_with_stamps journal ts many in
    let begins = begins_sent net trace (Sender s) m journal legal in
    let whole = ap length begins.1 ∙ length-append (delivered (Sender s) m journal) begins.0 in
    let count =
    as_many net trace s m (with_stamps journal ts)
    ∙ ap (λ j. length (sent net trace (Sender s) m j)) same in
    let few = ap (λ j. length (delivered (Sender s) m j)) same in
    omega arith

-- ---- one entry of a legal journal

-- The entries before one of a legal journal, with their stamps, and those with the entry: in
-- neither is more delivered than was sent.
pub record IsNext (net : Network) (journal : List Entry) (ts : List ℕ) (i : ℕ) (entry : Entry)
    (t : ℕ) : Type 0 where
  pub fits : FitsNetwork net entry
  pub size : length (with_stamps (take i journal) ts) ≡ i
  pub backed : IsBacked net (with_stamps (take i journal) ts)
  pub more : IsBacked net (with_stamps (take i journal) ts ++ stamped t entry ∷ [])
  pub next :
      with_stamps (take (i + 1) journal) (ts ++ t ∷ [])
      ≡ with_stamps (take i journal) ts ++ stamped t entry ∷ []

pub is_next : PrefixesAreLegal → GoesOnBySteps → DeliveredBeginsSent → AsManyStampsSent
    → (net : Network) (trace : List TraceItem) (journal : List Entry) (ts : List ℕ) (i : ℕ)
    (entry : Entry) (t : ℕ)
    → Legal net trace journal → i < length journal → slice_get journal i ≡ Some entry
    → length ts ≡ i → IsNext net journal ts i entry t
is_next prefixes steps begins as_many net trace journal ts i entry t legal below at many =
    let prefix : List Entry = take i journal in
    let step = prefix_step prefixes steps net trace journal i entry legal below at in
    let size : length prefix ≡ i = length_prefix journal i (omega arith) in
    let same : length ts ≡ length prefix = omega arith in
    let longer = length-append prefix (entry ∷ []) in
    let longer_stamps = length-append ts (t ∷ []) in
    record {
      fits = step.1;
      size = length_stamped prefix ts same ∙ size;
      backed = legal_is_backed begins as_many net trace prefix ts step.0 same;
      more = subst (IsBacked net) (stamps_more prefix ts entry t same)
          (legal_is_backed begins as_many net trace (prefix ++ entry ∷ []) (ts ++ t ∷ [])
          ((steps net trace prefix entry).1 step) (omega arith));
      next = ap (λ (l : List Entry). with_stamps l (ts ++ t ∷ []))
          (prefix_more journal i entry below at)
          ∙ stamps_more prefix ts entry t same;
    }

-- no least stamp is above the number of entries up to it
pub least_below : LeastAreAsMany → LeastAreWithin → LeastBySteps
    → (net : Network) (prefix : List Entry) (entry : Entry)
    → greatest (stamps_below net (with_stamps prefix (least net prefix)) entry) ≤ length prefix
least_below many within steps net prefix entry =
    let before : List ℕ = least net prefix in
    let t : ℕ = least_stamp net (with_stamps prefix before) entry in
    let last : get_or (least net (prefix ++ entry ∷ [])) (length prefix) 0 ≡ t =
    ap (λ (l : List ℕ). get_or l (length prefix) 0) (steps net prefix entry)
    ∙ get_or-append_right before (t ∷ []) (length prefix) (length prefix) 0 (many net prefix)
    (omega arith)
    ∙ ap (λ (k : ℕ). get_or (t ∷ []) k 0)
    (let e : length prefix - length prefix ≡ 0 = omega arith in e) in
    let bound = within net (prefix ++ entry ∷ []) (length prefix) in
    omega arith
