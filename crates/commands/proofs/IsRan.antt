-- What is run.
use Rattle.std.proofs.Common.{◌≡◌, ◌⊎◌, ◌↔◌, inl, inr, ◌≤◌, ◌<◌, ◌/◌, ℕ, Bool, true, false, List, [], ◌∷◌, ◌++◌, length, take, refl, sym, ap, subst, ◌∙◌, IsTrue, arith}
use Rattle.std.proofs.lemmas.List.{append-nil, length-append}
use Rattle.std.proofs.Math.Seq.{drop-append_seam, take-append_seam}
use Rattle.std.proofs.Math.Nat.{eq-or-lt_of_le}
use Rattle.polis_base.specs.Lists.{Begins}
use Rattle.transition_table.specs.declared.network.Network.{Network}
use Rattle.journals.specs.declared.entry.Entry.{Entry}
use Rattle.journals.specs.declared.entry.TraceItem.{TraceItem}
use Rattle.journals.specs.declared.entry.Pick.{Pick}
use Rattle.journals.specs.declared.entry.Pick.TheVariants.{Stop}
use Rattle.journals.specs.Legality.{Legal, Complete}
use Rattle.journals.proofs.StopsWhereComplete.{stops_where_complete}
use Rattle.journals.specs.Schedules.{Follows, FollowsAfter, IsPicked, pick}
use Rattle.worker_run.specs.Gathered.{IsEnough}
use Rattle.commands.specs.declared.run_result.RunResult.{RunResult}
use Rattle.commands.specs.Run.{IsRan, AloneIsScheduled}
use Rattle.commands.specs.inner.Run.{CarriesOn}

-- a journal that isn't complete has no place at which the scheduler stopped
limited : (net : Network) (trace : List TraceItem) (limit : ℕ) (journal : List Entry)
    (complete : Bool) → Legal net trace journal
    → IsTrue complete ↔ Complete net trace journal → (pick net trace journal ≡ Stop)
    ⊎ (length journal ≡ limit) → complete ≡ false → length journal ≡ limit
limited net trace limit journal complete legal whole (inl stop) none = let yes' = whole.1
    ((stops_where_complete net trace journal legal).0 stop) in cc
limited net trace limit journal complete legal whole (inr full) none = full

-- a journal is as long as the one that it goes on from, or longer
begun_within : (from journal : List Entry) (adopted : ℕ) → adopted ≡ length from
    → Begins from journal → adopted ≤ length journal
begun_within from journal adopted begun (rest, whole) =
    let sum = length-append from rest in
    let same = ap (λ (xs : List Entry). length xs) whole in
    omega (arith, begun, sum, same)

pub ran_alone : (net : Network) (trace : List TraceItem) (limit : ℕ) (ran : RunResult)
    → CarriesOn net trace limit [] 0 ran → IsRan 1 limit net trace ran
ran_alone net trace limit ran c =
    let none = c.gathered in
    let begun = c.adopted in
    record {
      is = record {
        within = c.within;
        legal = c.legal;
        ends = c.ends;
        limited = limited net trace limit ran.journal ran.complete c.legal c.ends c.stops;
      };
      begins = record {
        gathered_few = omega (arith, none);
        adopted_few = omega (arith, none, begun);
        adopted_first = begun_within [] ran.journal ran.adopted begun c.begins;
        alone = λ one. none;
        enough = λ more. absurd (omega (arith, more));
        follows = subst (Follows net trace ran.journal) (sym begun) c.follows;
      };
    }

-- where nothing is picked after a journal, nothing follows it
nothing_follows : (net : Network) (trace : List TraceItem) (from rest : List Entry)
    → pick net trace from ≡ Stop → FollowsAfter net trace from rest → rest ≡ []
nothing_follows net trace from [] stop follows = refl
nothing_follows net trace from (entry ∷ entries) stop follows = absurd
    (subst (λ (p : Pick). IsPicked net from p entry) stop follows.0)

-- a complete journal isn't carried on
not_carried : (net : Network) (trace : List TraceItem) (from rest journal : List Entry)
    → journal ≡ from ++ rest → pick net trace from ≡ Stop → Follows net trace journal (length from)
    → journal ≡ from
not_carried net trace from rest journal whole stop follows =
    let after : FollowsAfter net trace from rest =
    subst (λ (xs : List Entry). FollowsAfter net trace xs rest) (take-append_seam from rest)
    (subst (FollowsAfter net trace (take (length from) (from ++ rest)))
    (drop-append_seam from rest)
    (subst (λ (j : List Entry). Follows net trace j (length from)) whole follows)) in
    whole ∙ ap (λ (xs : List Entry). from ++ xs) (nothing_follows net trace from rest stop after) ∙
    append-nil from

pub ran_by : (net : Network) (trace : List TraceItem) (workers limit merged : ℕ) (from : List Entry)
    (ran : RunResult) → 2 ≤ workers
    → Legal net trace from → (length from ≤ merged) × (merged ≤ limit)
    → IsEnough net trace (limit / workers) from → CarriesOn net trace limit from merged ran
    → IsRan workers limit net trace ran
ran_by net trace workers limit merged from ran several legal few enough c =
    let gathered = c.gathered in
    let begun = c.adopted in
    record {
      is = record {
        within = c.within;
        legal = c.legal;
        ends = c.ends;
        limited = limited net trace limit ran.journal ran.complete c.legal c.ends c.stops;
      };
      begins = record {
        gathered_few = omega (arith, gathered, few.1);
        adopted_few = omega (arith, gathered, begun, few.0);
        adopted_first = begun_within from ran.journal ran.adopted begun c.begins;
        alone = λ one. absurd (omega (arith, one, several));
        enough = λ more. share enough;
        follows = subst (Follows net trace ran.journal) (sym begun) c.follows;
      };
    }
  where
    share : IsEnough net trace (limit / workers) from → (limit / workers ≤ ran.adopted)
        ⊎ ((length ran.journal ≡ ran.adopted) × Complete net trace ran.journal)
    share (inl least) = inl (subst (λ n. limit / workers ≤ n) (sym c.adopted) least)
    share (inr complete) =
        let same = not_carried net trace from c.begins.0 ran.journal c.begins.1
        ((stops_where_complete net trace from legal).1 complete) c.follows in
        inr (
          ap (λ (j : List Entry). length j) same ∙ sym c.adopted,
          subst (Complete net trace)
              (sym same) complete,
        )

-- one worker's journal is the scheduler's
whole_at : (net : Network) (trace : List TraceItem) (limit : ℕ) (journal : List Entry)
    (complete : Bool) → Legal net trace journal
    → (length journal ≡ limit) ⊎ (length journal < limit)
    → IsTrue complete ↔ Complete net trace journal
    → (complete ≡ false → length journal ≡ limit)
    → (length journal ≡ limit) ⊎ ((length journal < limit) × (pick net trace journal ≡ Stop))
whole_at net trace limit journal complete legal (inl full) ends limited = inl full
whole_at net trace limit journal true legal (inr less) ends limited =
    inr (less, (stops_where_complete net trace journal legal).1 (ends.0 refl))
whole_at net trace limit journal false legal (inr less) ends limited = inl (limited refl)

pub alone_is_scheduled : AloneIsScheduled
alone_is_scheduled limit net trace ran r =
    let few = r.begins.adopted_few in
    let gathered = r.begins.alone refl in
    let none : ran.adopted ≡ 0 = omega (arith, few, gathered) in
    record {
      follows = subst (Follows net trace ran.journal) none r.begins.follows;
      whole = whole_at net trace limit ran.journal ran.complete r.is.legal
          (eq-or-lt_of_le r.is.within) r.is.ends r.is.limited;
    }
