-- The entries that picks make, by computation: where these are the entries of a journal, it follows
-- the picks.
use Rattle.std.proofs.Common.{◌≡◌, ℕ, Bool, true, false, nat_lt, cond, List, [], ◌∷◌, ◌++◌, length, slice_get, get_or, drop, Option, Some, None, map, refl, sym, ap}
use Rattle.std.proofs.lemmas.Bool.{ltb-true}
use Rattle.std.proofs.lemmas.Option.{none-some}
use Rattle.transition_table.proofs.Computed.{outcome_by_rows}
use Rattle.transition_table.proofs.Determinism.{transition_fits}
use Rattle.transition_table.specs.declared.network.Network.{Network}
use Rattle.journals.specs.declared.entry.Entry.{Entry}
use Rattle.journals.specs.declared.entry.Entry.TheVariants.{Dep}
use Rattle.journals.specs.declared.entry.Pick.{Pick}
use Rattle.journals.specs.declared.entry.Pick.TheVariants.{Deliver, React, Stop}
use Rattle.journals.specs.declared.entry.TraceItem.{TraceItem}
use Rattle.journals.specs.Journals.{IsTrace, snap}
use Rattle.journals.specs.Legality.{Legal}
use Rattle.journals.specs.Outputs.{outputs, lost}
use Rattle.journals.specs.Reactions.{outcome_in, reaction}
use Rattle.journals.specs.Schedules.{Follows, FollowsAfter, IsPicked, pick}
use Rattle.journals.specs.Worked.{IsRun}
use Rattle.journals.proofs.Follows.{follows_is_legal}
use Rattle.journals.proofs.Reactions.{gives_transition, made}
use Rattle.journals.proofs.StopsWhereComplete.{stops_where_complete}

-- the entry that a pick makes after the journal
abbrev pub entry_of : Network → List Entry → Pick → Option Entry
entry_of net journal (Deliver s m event code) = Some (Dep s m event code)
entry_of net journal (React m) =
    cond (nat_lt m (length net.machines)) (Some (reaction net m journal)) None
entry_of net journal Stop = None

pub made_is_picked : (net : Network) (journal : List Entry) (p : Pick) (entry : Entry)
    → entry_of net journal p ≡ Some entry → IsPicked net journal p entry
made_is_picked net journal (Deliver s m event code) entry is = cc
made_is_picked net journal (React m) entry is = within (nat_lt m (length net.machines)) refl is
  where
    within : (b : Bool) → nat_lt m (length net.machines) ≡ b
        → cond b (Some (reaction net m journal)) None ≡ Some entry
        → IsPicked net journal (React m) entry
    within true below same =
        let s = snap net journal m in
        let is : reaction net m journal ≡ entry = cc in (
          outcome_in net m s,
          sym is,
          made (gives_transition outcome_by_rows) net m s
              (slice_get net.machines m) refl (ltb-true m (length net.machines) below),
        )
    within false past same = absurd (none-some entry same)
made_is_picked net journal Stop entry is = absurd (none-some entry is)

-- what is picked after the journal and each of these entries before the last makes
abbrev pub made_after : Network → List TraceItem → List Entry → List Entry → List (Option Entry)
made_after net trace journal [] = []
made_after net trace journal (entry ∷ entries) =
    entry_of net journal (pick net trace journal)
    ∷ made_after net trace (journal ++ entry ∷ []) entries

-- one list begins with this and goes on as the other
pub parts_of : {A : Type 0} {x y : A} {xs ys : List A} → (x ∷ xs) ≡ (y ∷ ys) → (x ≡ y) × (xs ≡ ys)
parts_of {x = x} h = (ap (λ l. get_or l 0 x) h, ap (λ l. drop 1 l) h)

follows_by_made : (net : Network) (trace : List TraceItem) (journal entries : List Entry)
    → made_after net trace journal entries ≡ map Some entries
    → FollowsAfter net trace journal entries
follows_by_made net trace journal [] h = tt
follows_by_made net trace journal (entry ∷ entries) h =
    let parts = parts_of h in (
      made_is_picked net journal (pick net trace journal) entry parts.0,
      follows_by_made net trace (journal ++ entry ∷ []) entries parts.1,
    )

-- the picks make this journal
pub record IsMade (net : Network) (trace : List TraceItem) (journal : List Entry) : Type 0 where
  pub trace_fits : IsTrace net trace
  pub made : made_after net trace [] journal ≡ map Some journal

pub made_follows : {net : Network} {trace : List TraceItem} {journal : List Entry}
    → IsMade net trace journal → Follows net trace journal 0
made_follows {net} {trace} {journal} h = follows_by_made net trace [] journal h.made

pub made_legal : (net : Network) (trace : List TraceItem) (journal : List Entry)
    → IsMade net trace journal → Legal net trace journal
made_legal net trace journal h =
    follows_is_legal transition_fits net trace journal 0 h.trace_fits (tt, tt) (made_follows h)

-- the picks make this journal and then stop, and its outputs and losses are these
pub whole_run : {net : Network} {trace : List TraceItem} {journal : List Entry}
    {outs : List (ℕ × ℕ)} {losses : ℕ} → IsMade net trace journal
    → pick net trace journal ≡ Stop
    → outputs net journal ≡ outs
    → lost net journal ≡ losses
    → IsRun net trace journal outs losses
whole_run {net} {trace} {journal} h stops gives loses = record {
  legal = made_legal net trace journal h;
  complete =
      (stops_where_complete net trace journal (made_legal net trace journal h)).0 stops;
  follows = made_follows h;
  stops = stops;
  gives = gives;
  loses = loses;
}
