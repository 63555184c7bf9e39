-- What a reaction, a landing and a freeing keep.
use Rattle.std.specs.Prelude.{◌≡◌, ℕ, ◌+◌, ◌<◌, ◌≤◌, Bool, true, not, ◌||◌, nat_le, List, [], ◌∷◌, ◌++◌, length, drop, replicate, Option, None}
use Rattle.std.specs.List.{list_all}
use Rattle.std.proofs.Common.{refl, sym, ap, ◌∙◌, subst, inl, inr, arith}
use Rattle.std.proofs.lemmas.List.{append-nil}
use Rattle.std.proofs.lemmas.Bool.{leb-true, le-leb, cases_eq, eq-eqb, or_right}
use Rattle.transition_table.specs.declared.decl.Party.{Party}
use Rattle.transition_table.specs.declared.decl.Party.TheVariants.{Env, Machine as Sender}
use Rattle.transition_table.specs.declared.network.Network.{Network}
use Rattle.transition_table.specs.declared.snapshot.Snapshot.{Snapshot}
use Rattle.transition_table.specs.declared.snapshot.Outcome.{Outcome}
use Rattle.journals.specs.declared.entry.Entry.{Entry}
use Rattle.journals.specs.declared.entry.Entry.TheVariants.{Rea}
use Rattle.journals.specs.declared.entry.Owed.{Owed}
use Rattle.journals.specs.declared.entry.TraceItem.{TraceItem}
use Rattle.journals.specs.Journals.{FitsNetwork, is_firing_of, delivered, sent}
use Rattle.journals.specs.Reactions.{MayReactIfReaction}
use Rattle.journals.specs.Schedules.{firing_deliveries}
use Rattle.journals.specs.declared.stamped.Stamped.{Stamped}
use Rattle.worker_core.specs.declared.state.Hand.{Hand}
use Rattle.journals.specs.Logs.{max_stamp, entries, clock}
use Rattle.worker_core.specs.Cores.{taken_up}
use Rattle.journals.specs.Logs.{rises}
use Rattle.journals.specs.Alone.{LegalAlone}
use Rattle.worker_core.specs.Facts.{log_of_party, deliveries_in, held_by, on_way, is_last_firing, is_hand_within, is_due, stamps_out, stamps_held, CoreFacts}
use Rattle.journals.specs.Stamps.{stamps_sent}
use Rattle.worker_core.proofs.ByStamp.{all_more}
use Rattle.worker_core.specs.inner.Known.{Known}
use Rattle.worker_core.proofs.Due.{firing_due}
use Rattle.worker_core.proofs.AllLeastIn.{stamps_push, stamps_of_one, drop_whole, all_least_more}
use Rattle.worker_core.proofs.OneEntryMore.{HasMore, more_or_same, none_above_clock, within_more, hand_within_more, all_push, alone_more, all_in_time_more}
use Rattle.journals.proofs.DeliveredBeginsSent.{sent_more, delivered_by_reaction}
use Rattle.journals.proofs.StampSteps.{entries_more}

-- ---- a reaction

deliveries_taken : (t : ℕ) (ds : List Owed) → deliveries_in (taken_up t ds) ≡ ds
deliveries_taken t [] = refl
deliveries_taken t (d ∷ ds) = refl

taken_within : (t n : ℕ) (ds : List Owed) → t ≤ n → is_hand_within n (taken_up t ds) ≡ true
taken_within t n [] h = refl
taken_within t n (d ∷ ds) h = le-leb t n h

taken_last : (m t : ℕ) (log : List Stamped) (entry : Entry) (ds : List Owed) → rises 0 log ≡ true
    → clock log < t
    → is_last_firing m (log ++ record { stamp = t; entry = entry } ∷ []) (taken_up t ds) ≡ true
taken_last m t log entry [] h above = refl
taken_last m t log entry (d ∷ ds) h above =
    let p : Stamped → Bool = λ y. not (is_firing_of m y.entry) || nat_le y.stamp t in
    all_push p log (record { stamp = t; entry = entry })
    (all_more (λ y. nat_le y.stamp (clock log)) p log
    (λ y small. or_right (not (is_firing_of m y.entry)) (nat_le y.stamp t)
    (le-leb y.stamp t (let less = leb-true y.stamp (clock log) small in omega arith)))
    (none_above_clock 0 log h))
    (or_right (not (is_firing_of m entry)) (nat_le t t) (le-leb t t (omega arith)))

taken_stamps : (m k t : ℕ) (ds : List Owed)
    → stamps_held (taken_up t ds) m k ≡ replicate (length (on_way (Sender m) k ds)) t
taken_stamps m k t [] = refl
taken_stamps m k t (d ∷ ds) = refl

-- what a firing takes up for k is what it sends to k
taken_way : (net : Network) (trace : List TraceItem) (m k : ℕ) (s : Snapshot) (o : Outcome) → Known
    → on_way (Sender m) k (firing_deliveries net (Rea m s o))
    ≡ sent net trace (Sender m) k (Rea m s o ∷ [])
taken_way net trace m k s o known =
    sym (ap (on_way (Sender m) k) (append-nil (firing_deliveries net (Rea m s o))))
    ∙ known.firings_give net trace m k (Rea m s o ∷ [])

module _ (net : Network) (trace : List TraceItem) (logs new : ℕ → List Stamped)
    (hands taken : ℕ → Option Hand) (rest : List Owed) (n m t : ℕ) (s : Snapshot)
    (o : Outcome) where
  abbrev reacting : Stamped
  reacting = record { stamp = t; entry = Rea m s o }

  reaction_delivers_nothing : HasMore logs new m reacting → (p : Party) (k : ℕ)
      → delivered p k (entries (new k)) ≡ delivered p k (entries (logs k))
  reaction_delivers_nothing more p k =
      elim (more_or_same logs new m reacting k more) [
        | inl (same, longer) ↦ ap (λ l. delivered p k (entries l)) longer
            ∙ ap (delivered p k) (entries_more (logs k) reacting)
            ∙ delivered_by_reaction p k m s o (entries (logs k))
        | inr (other, same) ↦ ap (λ l. delivered p k (entries l)) same
      ]

  reaction_way_own : Known → CoreFacts net trace logs hands rest n → HasMore logs new m reacting
      → hands m ≡ None → taken m ≡ taken_up t (firing_deliveries net (Rea m s o)) → (k : ℕ)
      → delivered (Sender m) k (entries (new k)) ++ on_way (Sender m) k (deliveries_in (taken m))
      ≡ sent net trace (Sender m) k (entries (new m))
  reaction_way_own known f more free took k =
      let old : delivered (Sender m) k (entries (logs k))
      ≡ sent net trace (Sender m) k (entries (logs m)) =
      sym (append-nil (delivered (Sender m) k (entries (logs k))))
      ∙ sym (ap
      (λ h. delivered (Sender m) k (entries (logs k))
      ++ on_way (Sender m) k (deliveries_in h)) free)
      ∙ f.on_the_way (Sender m) k in
      let hand : on_way (Sender m) k (deliveries_in (taken m))
      ≡ sent net trace (Sender m) k (Rea m s o ∷ []) =
      ap (λ h. on_way (Sender m) k (deliveries_in h)) took
      ∙ ap (on_way (Sender m) k) (deliveries_taken t (firing_deliveries net (Rea m s o)))
      ∙ taken_way net trace m k s o known in
      ap (λ l. l ++ on_way (Sender m) k (deliveries_in (taken m)))
      (reaction_delivers_nothing more (Sender m) k ∙ old)
      ∙ ap (λ l. sent net trace (Sender m) k (entries (logs m)) ++ l) hand
      ∙ sym (ap (λ l. sent net trace (Sender m) k (entries l)) more.here
      ∙ ap (sent net trace (Sender m) k) (entries_more (logs m) reacting)
      ∙ sent_more net trace m k (entries (logs m)) (Rea m s o ∷ []))

  reaction_way : Known → CoreFacts net trace logs hands rest n → HasMore logs new m reacting
      → hands m ≡ None → taken m ≡ taken_up t (firing_deliveries net (Rea m s o))
      → ((k : ℕ) → (k ≡ m → ⊥) → taken k ≡ hands k) → (p : Party) (k : ℕ)
      → delivered p k (entries (new k)) ++ on_way p k (held_by taken rest p)
      ≡ sent net trace p k (entries (log_of_party new p))
  reaction_way known f more free took others Env k =
      ap (λ l. l ++ on_way Env k rest) (reaction_delivers_nothing more Env k) ∙ f.on_the_way Env k
  reaction_way known f more free took others (Sender j) k =
      elim (cases_eq j m) [
        | inl same ↦ subst
            (λ i. delivered (Sender i) k (entries (new k))
            ++ on_way (Sender i) k (deliveries_in (taken i))
            ≡ sent net trace (Sender i) k (entries (new i))) (sym same)
            (reaction_way_own known f more free took k)
        | inr other ↦
            ap (λ l. l ++ on_way (Sender j) k (deliveries_in (taken j)))
            (reaction_delivers_nothing more (Sender j) k)
            ∙ ap (λ h. delivered (Sender j) k (entries (logs k))
            ++ on_way (Sender j) k (deliveries_in h)) (others j other)
            ∙ f.on_the_way (Sender j) k
            ∙ sym (ap (λ l. sent net trace (Sender j) k (entries l)) (more.away j other))
      ]

  reaction_due : Known → CoreFacts net trace logs hands rest n → FitsNetwork net (Rea m s o)
      → taken m ≡ taken_up t (firing_deliveries net (Rea m s o))
      → ((k : ℕ) → (k ≡ m → ⊥) → taken k ≡ hands k) → (p : Party)
      → list_all (is_due net p) (held_by taken rest p) ≡ true
  reaction_due known f fits took others Env = f.due Env
  reaction_due known f fits took others (Sender j) =
      elim (cases_eq j m) [
        | inl same ↦ subst (λ i. list_all (is_due net (Sender i)) (deliveries_in (taken i)) ≡ true)
            (sym same)
            (ap (λ h. list_all (is_due net (Sender m)) (deliveries_in h)) took
            ∙ ap (list_all (is_due net (Sender m)))
            (deliveries_taken t (firing_deliveries net (Rea m s o)))
            ∙ firing_due net m s o known fits)
        | inr other ↦ ap (λ h. list_all (is_due net (Sender j)) (deliveries_in h)) (others j other)
            ∙ f.due (Sender j)
      ]

  -- the stamps of what is on the way: of m those that it takes up, and of the others the same
  reaction_stamps_own : Known → CoreFacts net trace logs hands rest n → HasMore logs new m reacting
      → hands m ≡ None → taken m ≡ taken_up t (firing_deliveries net (Rea m s o)) → (k : ℕ)
      → stamps_out net new m k ≡ stamps_held (taken m) m k
  reaction_stamps_own known f more free took k =
      let old : delivered (Sender m) k (entries (logs k))
      ≡ sent net trace (Sender m) k (entries (logs m)) =
      sym (append-nil (delivered (Sender m) k (entries (logs k))))
      ∙ sym (ap
      (λ h. delivered (Sender m) k (entries (logs k))
      ++ on_way (Sender m) k (deliveries_in h)) free)
      ∙ f.on_the_way (Sender m) k in
      let passed : length (delivered (Sender m) k (entries (new k)))
      ≡ length (stamps_sent net m k (logs m)) =
      ap length (reaction_delivers_nothing more (Sender m) k ∙ old)
      ∙ sym (known.as_many net trace m k (logs m)) in
      let sending : stamps_sent net m k (new m) ≡ stamps_sent net m k (logs m)
      ++ stamps_sent net m k (reacting ∷ []) =
      ap (stamps_sent net m k) more.here ∙ stamps_push net m k (logs m) reacting in
      ap (drop (length (delivered (Sender m) k (entries (new k))))) sending
      ∙ drop_whole (length (delivered (Sender m) k (entries (new k))))
      (stamps_sent net m k (logs m)) (stamps_sent net m k (reacting ∷ [])) passed
      ∙ stamps_of_one net trace m k reacting
      ∙ sym (ap (λ h. stamps_held h m k) took
      ∙ taken_stamps m k t (firing_deliveries net (Rea m s o))
      ∙ ap (λ (l : List (ℕ × ℕ)). replicate (length l) t) (taken_way net trace m k s o known))

  reaction_stamps : Known → CoreFacts net trace logs hands rest n → HasMore logs new m reacting
      → hands m ≡ None → taken m ≡ taken_up t (firing_deliveries net (Rea m s o))
      → ((k : ℕ) → (k ≡ m → ⊥) → taken k ≡ hands k) → (j k : ℕ)
      → stamps_out net new j k ≡ stamps_held (taken j) j k
  reaction_stamps known f more free took others j k =
      elim (cases_eq j m) [
        | inl same ↦ subst (λ i. stamps_out net new i k ≡ stamps_held (taken i) i k) (sym same)
            (reaction_stamps_own known f more free took k)
        | inr other ↦
            ap (λ (l : List (ℕ × ℕ)). drop (length l) (stamps_sent net j k (new j)))
            (reaction_delivers_nothing more (Sender j) k)
            ∙ ap (λ l. drop (length (delivered (Sender j) k (entries (logs k))))
            (stamps_sent net j k l)) (more.away j other)
            ∙ f.held_stamps j k
            ∙ sym (ap (λ h. stamps_held h j k) (others j other))
      ]

  pub keeps_reaction : Known → CoreFacts net trace logs hands rest n → HasMore logs new m reacting
      → hands m ≡ None → taken m ≡ taken_up t (firing_deliveries net (Rea m s o))
      → ((k : ℕ) → (k ≡ m → ⊥) → taken k ≡ hands k)
      → t ≡ clock (logs m) + 1 → t ≤ max_stamp → t ≤ n + 1 → FitsNetwork net (Rea m s o)
      → MayReactIfReaction net (entries (logs m)) (Rea m s o)
      → CoreFacts net trace new taken rest (n + 1)
  keeps_reaction known f more free took others stamp most small fits may =
      let above : clock (logs m) < t = omega arith in
      record {
        alone = λ k. elim (more_or_same logs new m reacting k more) [
          | inl (same, longer) ↦ subst (LegalAlone net k) (sym longer)
              (subst (λ j. LegalAlone net j (logs j ++ reacting ∷ [])) (sym same)
              (alone_more net m (logs m) reacting (f.alone m) above most fits
              (eq-eqb m m refl) may))
          | inr (other, same) ↦ subst (LegalAlone net k) (sym same) (f.alone k)
        ];
        in_time = all_in_time_more net trace logs new m reacting more f.in_time tt;
        on_the_way = reaction_way known f more free took others;
        last_firing = λ k. elim (more_or_same logs new m reacting k more) [
          | inl (same, longer) ↦
              subst (λ l. is_last_firing k l (taken k) ≡ true) (sym longer)
              (subst (λ j. is_last_firing j (logs j ++ reacting ∷ []) (taken j) ≡ true) (sym same)
              (ap (is_last_firing m (logs m ++ reacting ∷ [])) took
              ∙ taken_last m t (logs m) (Rea m s o) (firing_deliveries net (Rea m s o))
              (f.alone m).rising above))
          | inr (other, same) ↦ ap (λ l. is_last_firing k l (taken k)) same
              ∙ ap (is_last_firing k (logs k)) (others k other) ∙ f.last_firing k
        ];
        due = reaction_due known f fits took others;
        within = λ k. elim (more_or_same logs new m reacting k more) [
          | inl (same, longer) ↦ ap (list_all (λ y. nat_le y.stamp (n + 1))) longer
              ∙ all_push (λ y. nat_le y.stamp (n + 1)) (logs k) reacting
              (within_more n (logs k) (f.within k)) (le-leb t (n + 1) small)
          | inr (other, same) ↦ ap (list_all (λ y. nat_le y.stamp (n + 1))) same
              ∙ within_more n (logs k) (f.within k)
        ];
        hands_within = λ k. elim (cases_eq k m) [
          | inl same ↦ subst (λ j. is_hand_within (n + 1) (taken j) ≡ true) (sym same)
              (ap (is_hand_within (n + 1)) took
              ∙ taken_within t (n + 1) (firing_deliveries net (Rea m s o)) small)
          | inr other ↦ ap (is_hand_within (n + 1)) (others k other)
              ∙ hand_within_more n (hands k) (f.hands_within k)
        ];
        least = all_least_more net trace logs new m reacting known more f.in_time f.least
            (f.alone m).rising (omega arith);
        held_stamps = reaction_stamps known f more free took others;
      }
