-- What is legal by itself.
use Rattle.std.specs.Prelude.{◌≡◌, ◌↔◌, ℕ, ◌<◌, ◌≤◌, Bool, true, false, cond, ◌&&◌, nat_lt, nat_le, List, [], ◌∷◌, ◌++◌, filter}
use Rattle.std.specs.List.{list_all}
use Rattle.std.proofs.Common.{refl, sym, ap, ◌∙◌, subst, append_assoc}
use Rattle.std.proofs.lemmas.List.{append-nil, map-append}
use Rattle.std.proofs.lemmas.List.Elements.{filter-append}
use Rattle.std.proofs.lemmas.List.Folds.{list_all-append}
use Rattle.std.proofs.lemmas.Bool.{false≢true, eq-eqb, ltb-true, leb-true, lt-ltb, le-leb, and_parts, and_from}
use Rattle.polis_base.specs.Lists.{last_of}
use Rattle.transition_table.specs.declared.network.Network.{Network}
use Rattle.journals.specs.declared.entry.Entry.{Entry}
use Rattle.journals.specs.declared.entry.Entry.TheVariants.{Dep, Rea}
use Rattle.journals.specs.declared.stamped.Stamped.{Stamped}
use Rattle.journals.specs.Alone.{LegalAlone, MayAppend, ReactsAfter, is_own}
use Rattle.journals.specs.Journals.{FitsNetwork, IsJournal}
use Rattle.journals.specs.Laws.{AloneBySteps, AloneFits, LogIsAlone, PrefixesAreAlone, ReactsByOwn}
use Rattle.journals.specs.Reactions.{MayReactIfReaction}
use Rattle.journals.specs.Logs.{entries, max_stamp, of_machine, rises, stamps as stamps_of}
use Rattle.journals.specs.Moved.{machine_of}
use Rattle.journals.proofs.OwnEntries.{woken_by_own, snap_by_own}

reacts_at : (net : Network) (before prefix : List Entry) (entry : Entry) (rest : List Entry)
    → ReactsAfter net before (prefix ++ entry ∷ rest)
    → MayReactIfReaction net (before ++ prefix) entry
reacts_at net before [] entry rest h =
    subst (λ l. MayReactIfReaction net l entry) (sym (append-nil before)) h.0
reacts_at net before (x ∷ prefix) entry rest h =
    subst (λ l. MayReactIfReaction net l entry) (append_assoc before (x ∷ []) prefix)
    (reacts_at net (before ++ x ∷ []) prefix entry rest h.1)

-- a reaction rests on its machine's own entries
by_own : (net : Network) (prefix : List Entry) (entry : Entry)
    → MayReactIfReaction net (filter (of_machine (machine_of entry)) prefix) entry
    → MayReactIfReaction net prefix entry
by_own net prefix (Dep s m e c) h = tt
by_own net prefix (Rea m s o) h =
    (sym (woken_by_own m prefix) ∙ h.0, h.1 ∙ snap_by_own net m prefix, h.2)

pub reacts_by_own : ReactsByOwn
reacts_by_own net trace prefix entry rest alone =
    let m = machine_of entry in
    let parts : filter (of_machine m) (prefix ++ entry ∷ rest)
    ≡ filter (of_machine m) prefix ++ entry ∷ filter (of_machine m) rest =
    filter-append (of_machine m) prefix (entry ∷ rest)
    ∙ ap
    (λ b.
    filter (of_machine m) prefix
    ++ cond b (entry ∷ filter (of_machine m) rest) (filter (of_machine m) rest))
    (eq-eqb m m refl) in
    by_own net prefix entry
    (reacts_at net [] (filter (of_machine m) prefix) entry (filter (of_machine m) rest)
    (subst (ReactsAfter net []) parts alone.reacting))

pub fitting_prefix : (net : Network) (prefix rest : List Entry) → IsJournal net (prefix ++ rest)
    → IsJournal net prefix
fitting_prefix net [] rest h = tt
fitting_prefix net (entry ∷ prefix) rest h = (h.0, fitting_prefix net prefix rest h.1)

reacting_prefix : (net : Network) (before prefix rest : List Entry)
    → ReactsAfter net before (prefix ++ rest) → ReactsAfter net before prefix
reacting_prefix net before [] rest h = tt
reacting_prefix net before (entry ∷ prefix) rest h =
    (h.0, reacting_prefix net (before ++ entry ∷ []) prefix rest h.1)

pub prefixes_are_alone : PrefixesAreAlone
prefixes_are_alone net m prefix rest alone =
    let own : List Entry = filter (of_machine m) prefix in
    let after : List Entry = filter (of_machine m) rest in
    let parts : filter (of_machine m) (prefix ++ rest) ≡ own ++ after =
    filter-append (of_machine m) prefix rest in
    record {
      fitting = fitting_prefix net own after (subst (IsJournal net) parts alone.fitting);
      own =
          (and_parts (list_all (is_own net m) own) (list_all (is_own net m) after)
          (sym (list_all-append (is_own net m) own after) ∙ sym (ap (list_all (is_own net m)) parts)
          ∙ alone.own)).0;
      reacting = reacting_prefix net [] own after (subst (ReactsAfter net []) parts alone.reacting);
    }

-- ---- one entry more in a log

fitting_more : (net : Network) (journal : List Entry) (entry : Entry)
    → IsJournal net (journal ++ entry ∷ []) ↔ (IsJournal net journal × FitsNetwork net entry)
fitting_more net [] entry = (λ h. (tt, h.0), λ h. (h.1, tt))
fitting_more net (x ∷ journal) entry =
    let rest = fitting_more net journal entry in
    (λ h. let more = rest.0 h.1 in ((h.0, more.0), more.1), λ h. (h.0.0, rest.1 (h.0.1, h.1)))

reacting_more : (net : Network) (before journal : List Entry) (entry : Entry)
    → ReactsAfter net before (journal ++ entry ∷ [])
    ↔ (ReactsAfter net before journal × MayReactIfReaction net (before ++ journal) entry)
reacting_more net before [] entry =
    let same = append-nil before in (
      λ h. (tt, subst (λ l. MayReactIfReaction net l entry) (sym same) h.0),
      λ h.
          (subst (λ l. MayReactIfReaction net l entry) same h.1, tt),
    )
reacting_more net before (x ∷ journal) entry =
    let same = append_assoc before (x ∷ []) journal in
    let rest = reacting_more net (before ++ x ∷ []) journal entry in (
      λ h. let more =
          rest.0 h.1 in ((h.0, more.0), subst (λ l. MayReactIfReaction net l entry) same more.1),
      λ h. (h.0.0, rest.1 (h.0.1, subst (λ l. MayReactIfReaction net l entry) (sym same) h.1)),
    )

rising_more : (low : ℕ) (log : List Stamped) (x : Stamped)
    → (rises low (log ++ x ∷ []) ≡ true)
    ↔ ((rises low log ≡ true) × (last_of low (stamps_of log) < x.stamp) × (x.stamp ≤ max_stamp))
rising_more low [] x = (split, joined)
  where
    split : rises low (x ∷ []) ≡ true
        → (◌≡◌ {A = Bool} true true) × (low < x.stamp) × (x.stamp ≤ max_stamp)
    split h =
        let parts = and_parts (nat_lt low x.stamp && nat_le x.stamp max_stamp) true h in
        let both = and_parts (nat_lt low x.stamp) (nat_le x.stamp max_stamp) parts.0 in
        (refl, ltb-true low x.stamp both.0, leb-true x.stamp max_stamp both.1)

    joined : (◌≡◌ {A = Bool} true true) × (low < x.stamp) × (x.stamp ≤ max_stamp)
        → rises low (x ∷ []) ≡ true
    joined h =
        and_from (nat_lt low x.stamp && nat_le x.stamp max_stamp) true
        (and_from (nat_lt low x.stamp) (nat_le x.stamp max_stamp) (lt-ltb low x.stamp h.1)
        (le-leb x.stamp max_stamp h.2)) refl
rising_more low (y ∷ log) x =
    let rest = rising_more y.stamp log x in
    let here : Bool = nat_lt low y.stamp && nat_le y.stamp max_stamp in (
      λ h.
          let parts = and_parts here (rises y.stamp (log ++ x ∷ [])) h in
          let more = rest.0 parts.1 in
          (and_from here (rises y.stamp log) parts.0 more.0, more.1, more.2),
      λ h.
          let parts = and_parts here (rises y.stamp log) h.0 in
          and_from here (rises y.stamp (log ++ x ∷ [])) parts.0 (rest.1 (parts.1, h.1, h.2)),
    )

own_more : (p : Stamped → Bool) (log : List Stamped) (x : Stamped)
    → (list_all p (log ++ x ∷ []) ≡ true) ↔ ((list_all p log ≡ true) × (p x ≡ true))
own_more p [] x = (λ h. (refl, (and_parts (p x) true h).0), λ h. and_from (p x) true h.1 refl)
own_more p (y ∷ log) x =
    let rest = own_more p log x in (
      λ h.
          let parts = and_parts (p y) (list_all p (log ++ x ∷ [])) h in
          let more = rest.0 parts.1 in
          (and_from (p y) (list_all p log) parts.0 more.0, more.1),
      λ h.
          let parts = and_parts (p y) (list_all p log) h.0 in
          and_from (p y) (list_all p (log ++ x ∷ [])) parts.0 (rest.1 (parts.1, h.1)),
    )

pub alone_by_steps : AloneBySteps
alone_by_steps net m log x = (split, joined)
  where
    more : entries (log ++ x ∷ []) ≡ entries log ++ x.entry ∷ []
    more = map-append (λ (y : Stamped). y.entry) log (x ∷ [])

    test : Stamped → Bool
    test y = is_own net m y.entry

    split : LegalAlone net m (log ++ x ∷ []) → LegalAlone net m log × MayAppend net m log x
    split h =
        let rising = (rising_more 0 log x).0 h.rising in
        let fitting =
        (fitting_more net (entries log) x.entry).0 (subst (IsJournal net) more h.fitting) in
        let own = (own_more test log x).0 h.own in
        let reacting =
        (reacting_more net [] (entries log) x.entry).0
        (subst (ReactsAfter net []) more h.reacting) in (
          record { rising = rising.0; fitting = fitting.0; own = own.0; reacting = reacting.0 },
          record {
            rises = rising.1;
            small = rising.2;
            fits = fitting.1;
            own = own.1;
            reacts =
                reacting.1;
          },
        )

    joined : LegalAlone net m log × MayAppend net m log x → LegalAlone net m (log ++ x ∷ [])
    joined (h, next) = record {
      rising = (rising_more 0 log x).1 (h.rising, next.rises, next.small);
      fitting =
          subst (IsJournal net) (sym more)
          ((fitting_more net (entries log) x.entry).1 (h.fitting, next.fits));
      own = (own_more test log x).1 (h.own, next.own);
      reacting =
          subst (ReactsAfter net []) (sym more)
          ((reacting_more net [] (entries log) x.entry).1 (h.reacting, next.reacts));
    }

-- ---- a journal by its machines' entries

own_entries : (net : Network) (m : ℕ) (log : List Stamped)
    → list_all (is_own net m) (entries log) ≡ list_all (λ x. is_own net m x.entry) log
own_entries net m [] = refl
own_entries net m (x ∷ log) = ap (λ b. is_own net m x.entry && b) (own_entries net m log)

pub log_is_alone : LogIsAlone
log_is_alone net m journal log same h = record {
  fitting = subst (IsJournal net) (sym same) h.fitting;
  own = ap (list_all (is_own net m)) same ∙ own_entries net m log ∙ h.own;
  reacting = subst (ReactsAfter net []) (sym same) h.reacting;
}

fits_by_own : (net : Network) (journal : List Entry)
    → ((m : ℕ) → IsJournal net (filter (of_machine m) journal)) → IsJournal net journal
fits_by_own net [] h = tt
fits_by_own net (entry ∷ journal) h = (
  first (of_machine (machine_of entry) entry) (eq-eqb (machine_of entry) (machine_of entry) refl)
      (h (machine_of entry)),
  fits_by_own net journal (λ m. later m (of_machine m entry) (h m)),
)
  where
    rest : ℕ → List Entry
    rest m = filter (of_machine m) journal

    first : (b : Bool) → b ≡ true
        → IsJournal net (cond b (entry ∷ rest (machine_of entry)) (rest (machine_of entry)))
        → FitsNetwork net entry
    first true is fits = fits.0
    first false is fits = absurd (false≢true is)

    later : (m : ℕ) (b : Bool) → IsJournal net (cond b (entry ∷ rest m) (rest m))
        → IsJournal net (rest m)
    later m true fits = fits.1
    later m false fits = fits

pub alone_fits : AloneFits
alone_fits net journal alone = fits_by_own net journal (λ m. (alone m).fitting)
