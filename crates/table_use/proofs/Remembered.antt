-- What is known of snapshots with one more.
use Rattle.std.proofs.Common.{◌≡◌, ⊎_elim, ℕ, suc, ◌<◌, true, List, [], ◌∷◌, ◌++◌, length, slice_get, slice_set, Some, sym, ap, ◌∙◌, subst, arith}
use Rattle.std.proofs.lemmas.Bool.{cases_eq}
use Rattle.std.proofs.lemmas.List.{length-set, length_push}
use Rattle.std.proofs.lemmas.Option.{slice_get_within}
use Rattle.domains.specs.Tables.{fits, rank}
use Rattle.domains.proofs.Ranks.{ranks_below, ranks_differ}
use Rattle.outcome_table.specs.declared.table.Results.{Results}
use Rattle.transition_table.specs.declared.machine.Machine.{Machine}
use Rattle.transition_table.specs.declared.network.Network.{Network}
use Rattle.table_use.specs.Keys.{AreKeys}
use Rattle.table_use.specs.Memos.{AreMemos, IsMemo, IsMet, StandsMet}
use Rattle.table_use.specs.declared.memo.Memo.{Memo}
use Rattle.table_use.specs.declared.memo.Met.{Met}
use Rattle.table_use.proofs.Pushed.{before, last}
use Rattle.table_use.proofs.Sets.{set_here, set_other}
use Rattle.polis_base.proofs.Places.{some_is}

pub number_there : (m : Machine) (r : Results) (memo : Memo) (s : List ℕ) (n : ℕ) → IsMemo m r memo
    → fits m.vars s ≡ true → n ≡ rank m.vars s → n < length memo.places
number_there m r memo s n is fit number =
    let below = ranks_below m.vars s fit in
    let long = is.long in
    omega arith

-- what was known stands where it stood
stands_on : (m : Machine) (s : List ℕ) (known : List Met) (met : Met) (k : ℕ)
    → StandsMet m s known k → StandsMet m s (known ++ met ∷ []) k
stands_on m s known met k stands =
    let low = stands.low in
    let more = length_push known met in
    record {
      low = omega arith;
      met = λ x at. stands.met x (sym (before known met k low) ∙ at);
    }

pub stands_last : (m : Machine) (s : List ℕ) (known : List Met) (met : Met) (k : ℕ)
    → IsMet m s met → k ≡ length known → StandsMet m s (known ++ met ∷ []) k
stands_last m s known met k is end =
    let more = length_push known met in
    record {
      low = omega arith;
      met = λ x at. subst (IsMet m s) (some_is met x (sym (last known met k end) ∙ at)) is;
    }

pub one_met : (m : Machine) (r : Results) (old new : Memo) (s : List ℕ) (n count : ℕ) (met : Met)
    → IsMemo m r old → fits m.vars s ≡ true → n ≡ rank m.vars s → IsMet m s met
    → new.known ≡ old.known ++ met ∷ [] → count ≡ length new.known
    → new.places ≡ slice_set old.places n count → new.keys ≡ old.keys → IsMemo m r new
one_met m r old new s n count met memo fit number is known many places keys =
    record {
      keys = subst (AreKeys m r) (sym keys) memo.keys;
      long = ap (λ (l : List ℕ). length l) places ∙ length-set old.places n count ∙ memo.long;
      each = λ t k fits_too at.
          subst (λ (l : List Met). StandsMet m t l k) (sym known)
          (⊎_elim (own t k fits_too at) (other t k fits_too at)
          (cases_eq (rank m.vars t) n));
    }
  where
    own : (t : List ℕ) (k : ℕ) → fits m.vars t ≡ true
        → slice_get new.places (rank m.vars t) ≡ Some (suc k) → rank m.vars t ≡ n
        → StandsMet m t (old.known ++ met ∷ []) k
    own t k fits_too at here =
        let same : s ≡ t =
        ranks_differ m.vars s t fit fits_too (sym number ∙ sym here) in
        let low : n < length old.places = number_there m r old s n memo fit number in
        let found : count ≡ suc k = some_is count (suc k)
        (sym (set_here old.places n count low)
        ∙ ap (λ (l : List ℕ). slice_get l n) (sym places)
        ∙ ap (slice_get new.places) (sym here) ∙ at) in
        let more = ap (λ (l : List Met). length l) known in
        let long = length_push old.known met in
        stands_last m t old.known met k (subst (λ (l : List ℕ). IsMet m l met) same is)
        (omega arith)

    other : (t : List ℕ) (k : ℕ) → fits m.vars t ≡ true
        → slice_get new.places (rank m.vars t) ≡ Some (suc k) → (rank m.vars t ≡ n → ⊥)
        → StandsMet m t (old.known ++ met ∷ []) k
    other t k fits_too at away =
        stands_on m t old.known met k
        (memo.each t k fits_too
        (sym (set_other old.places n (rank m.vars t) count away)
        ∙ ap (λ (l : List ℕ). slice_get l (rank m.vars t)) (sym places) ∙ at))

-- ---- of each machine

pub one_memo : (net : Network) (tables : List Results) (memos : List Memo) (k : ℕ) (m : Machine)
    (r : Results) (new : Memo) → AreMemos net tables memos → slice_get net.machines k ≡ Some m
    → slice_get tables k ≡ Some r → IsMemo m r new → AreMemos net tables (slice_set memos k new)
one_memo net tables memos k m r new are at there is =
    record {
      long = length-set memos k new ∙ are.long;
      each = λ j z memo here own q table. ⊎_elim
          (λ same.
          let within = slice_get_within net.machines k m at in
          let long = are.long in
          let one : m ≡ z = machine_same m z
          (sym at ∙ ap (slice_get net.machines) (sym same) ∙ here) in
          let two : new ≡ memo = memo_same new memo
          (sym (set_here memos k new (omega arith))
          ∙ ap (slice_get (slice_set memos k new)) (sym same) ∙ own) in
          let three : r ≡ q = results_same r q
          (sym there ∙ ap (slice_get tables) (sym same) ∙ table) in
          subst (λ (x : Results). IsMemo z x memo) three
          (subst (IsMemo z r) two (subst (λ (x : Machine). IsMemo x r new) one is)))
          (λ away. are.each j z memo here (sym (set_other memos k j new away) ∙ own) q table)
          (cases_eq j k);
    }
  where
    machine_same : (a b : Machine) → Some a ≡ Some b → a ≡ b
    machine_same a b h = cc

    memo_same : (a b : Memo) → Some a ≡ Some b → a ≡ b
    memo_same a b h = cc

    results_same : (a b : Results) → Some a ≡ Some b → a ≡ b
    results_same a b h = cc
