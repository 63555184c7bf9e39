-- The origin of a delivery in a legal journal.
use Rattle.std.specs.Prelude.{◌≡◌, ℕ, zero, suc, ◌<◌, List, [], ◌∷◌, ◌++◌, filter, flat_map, length, take, drop, get_or, slice_get, Some}
use Rattle.std.proofs.Common.{refl, sym, ap, ◌∙◌, arith, length-append}
use Rattle.std.proofs.lemmas.List.{take-append-drop, length_push}
use Rattle.std.proofs.lemmas.List.Concat.{flat_map-append}
use Rattle.std.proofs.lemmas.List.Elements.{filter-append}
use Rattle.std.proofs.lemmas.Option.{slice_get_within, slice_get-get_or}
use Rattle.transition_table.specs.declared.decl.Party.TheVariants.{Machine as Sender}
use Rattle.transition_table.specs.declared.network.Network.{Network}
use Rattle.journals.specs.declared.entry.Entry.{Entry}
use Rattle.journals.specs.declared.entry.Entry.TheVariants.{Dep}
use Rattle.journals.specs.declared.entry.TraceItem.{TraceItem}
use Rattle.journals.specs.declared.stamped.Stamped.{Stamped}
use Rattle.journals.specs.Journals.{is_firing_of, delivered, sent}
use Rattle.journals.specs.Logs.{entries, with_stamps}
use Rattle.journals.specs.Laws.{PrefixesAreLegal, GoesOnBySteps}
use Rattle.journals.specs.Legality.{Legal}
use Rattle.journals.specs.Stamps.{once_each, origin, stamps_sent}
use Rattle.journals.specs.StampLaws.{OriginIsBefore}
use Rattle.journals.proofs.DeliveredBeginsSent.{delivered_own}
use Rattle.journals.proofs.StampSteps.{prefix_step, length_prefix, entries_with_stamps, take_with_stamps, as_many_sent}
use Rattle.polis_base.proofs.Places.{get_stays}

take_one : (xs : List ℕ) (n : ℕ) → n < length xs → take 1 (drop n xs) ≡ get_or xs n 0 ∷ []
take_one [] n h = absurd (omega arith)
take_one (x ∷ xs) zero h = refl
take_one (x ∷ xs) (suc n) h = take_one xs n (omega arith)

-- Of what s has sent to m before the delivery more is there than is delivered, and the next of it
-- is the delivery's.
pub record OwnStamps (net : Network) (journal : List Entry) (ts : List ℕ)
    (p s m event code : ℕ) : Type 0 where
  pub within :
      length (delivered (Sender s) m (take p journal))
      < length (stamps_sent net s m (take p (with_stamps journal ts)))
  pub origin_is :
      origin net (take p (with_stamps journal ts)) (Dep (Sender s) m event code)
      ≡ get_or (stamps_sent net s m (take p (with_stamps journal ts)))
      (length (delivered (Sender s) m (take p journal))) 0 ∷ []

pub own_stamps : PrefixesAreLegal → GoesOnBySteps
    → (net : Network) (trace : List TraceItem) (journal : List Entry) (ts : List ℕ)
    (p s m event code : ℕ) → Legal net trace journal → length ts ≡ length journal
    → slice_get journal p ≡ Some (Dep (Sender s) m event code)
    → OwnStamps net journal ts p s m event code
own_stamps prefixes steps net trace journal ts p s m event code legal many at =
    let entry : Entry = Dep (Sender s) m event code in
    let before : List Stamped = take p (with_stamps journal ts) in
    let prefix : List Entry = take p journal in
    let below : p < length journal = slice_get_within journal p entry at in
    let step = prefix_step prefixes steps net trace journal p entry legal below at in
    let size = length_prefix journal p (omega arith) in
    let size_stamps = length_prefix ts p (omega arith) in
    let same : entries before ≡ prefix =
    ap entries (take_with_stamps journal ts p)
    ∙ entries_with_stamps prefix (take p ts) (omega arith) in
    let n : ℕ = length (delivered (Sender s) m prefix) in
    let own : List ℕ = stamps_sent net s m before in
    let count =
    as_many_sent net trace s m before
    ∙ ap (λ (j : List Entry). length (sent net trace (Sender s) m j)) same in
    let whole = ap length step.2.1
    ∙ length-append (delivered (Sender s) m (prefix ++ entry ∷ [])) step.2.0 in
    let longer =
    ap length (delivered_own (Sender s) m event code prefix)
    ∙ length_push (delivered (Sender s) m prefix) (event, code) in
    let inside : n < length own = omega arith in
    record {
      within = inside;
      origin_is =
          ap (λ (j : List Entry). take 1 (drop (length (delivered (Sender s) m j)) own)) same
          ∙ take_one own n inside;
    }

pub origin_is_before : PrefixesAreLegal → GoesOnBySteps → OriginIsBefore
origin_is_before prefixes steps net trace journal ts p s m event code legal many at =
    let all : List Stamped = with_stamps journal ts in
    let before : List Stamped = take p all in
    let after : List Stamped = drop p all in
    let n : ℕ = length (delivered (Sender s) m (take p journal)) in
    let own : List ℕ = stamps_sent net s m before in
    let later : List ℕ = stamps_sent net s m after in
    let found = own_stamps prefixes steps net trace journal ts p s m event code legal many at in
    let parts : stamps_sent net s m all ≡ own ++ later =
    ap (stamps_sent net s m) (sym (take-append-drop p all))
    ∙ ap (flat_map (once_each net m))
    (filter-append (λ (q : Stamped). is_firing_of s q.entry) before after)
    ∙ flat_map-append (once_each net m)
    (filter (λ (q : Stamped). is_firing_of s q.entry) before)
    (filter (λ (q : Stamped). is_firing_of s q.entry) after) in (
      get_or own n 0,
      found.origin_is,
      ap (λ (l : List ℕ). slice_get l n) parts
          ∙ get_stays own later n (get_or own n 0) (slice_get-get_or own n 0 found.within),
    )
