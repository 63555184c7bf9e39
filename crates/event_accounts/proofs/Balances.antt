-- Each delivery was read, lost, or is left.
use Rattle.std.specs.Prelude.{◌≡◌, ℕ, zero, suc, ◌+◌, Bool, true, false, cond, not, ◌&&◌, ◌==◌, nat_lt, nat_le, List, [], ◌∷◌, ◌++◌, map, flat_map, length, slice_get, slice_index, Some}
use Rattle.std.specs.List.{enumerate_from, list_all}
use Rattle.std.proofs.Common.{refl, sym, ap, ◌∙◌, subst, inl, inr, arith}
use Rattle.std.proofs.lemmas.List.{append_assoc}
use Rattle.std.proofs.lemmas.Bool.{and_parts, and_from, cases_eq, eq-eqb, leb-true}
use Rattle.polis_base.specs.Lists.{upto}
use Rattle.transition_table.specs.declared.network.Network.{Network}
use Rattle.transition_table.specs.declared.snapshot.Outcome.{Outcome}
use Rattle.transition_table.specs.declared.snapshot.Snapshot.{Snapshot}
use Rattle.journals.specs.declared.entry.Entry.{Entry}
use Rattle.journals.specs.declared.entry.Entry.TheVariants.{Dep, Rea}
use Rattle.journals.specs.Journals.{FitsNetwork, IsJournal, inputs_of, is_event_code, is_party, buffered, snap}
use Rattle.journals.specs.Legality.{Legal}
use Rattle.journals.proofs.Legal.{goes_on_by_steps, prefixes_are_legal}
use Rattle.journals.specs.Moved.{machine_of}
use Rattle.event_accounts.specs.Accounts.{Buffer, account, buffer_at, buffers, buffers_of}
use Rattle.event_accounts.specs.Laws.{ReadsMoments, balances, AccountsBalance, LegalReadsMoments, LegalBalances}
use Rattle.event_accounts.specs.inner.Steps.{account_after, after_delivery, after_firing}
use Rattle.event_accounts.specs.declared.account.Account.{Account}
use Rattle.event_accounts.proofs.InputsOf.{IsBuffer, code_of_place}
use Rattle.event_accounts.proofs.AccountAfter.{BringsCode, account_away, account_more}
use Rattle.event_accounts.proofs.OneItemMore.{by_end}
use Rattle.journals.proofs.Alone.{fitting_prefix}
use Rattle.journals.proofs.EntriesAt.{fits_at}
use Rattle.polis_base.proofs.Lists.{all_append}
use Rattle.std.proofs.lemmas.List.Folds.{list_all-map}
use Rattle.polis_base.proofs.Places.{flat_map_push, get_end}

-- ---- what each buffer says

all_of_machine : (t : Buffer → Bool) (m n : ℕ) (events : List ℕ)
    → ((k e : ℕ) → slice_get events k ≡ Some e → t (buffer_at m (n + k, e)) ≡ true)
    → list_all t (map (buffer_at m) (enumerate_from n events)) ≡ true
all_of_machine t m n [] h = refl
all_of_machine t m n (e ∷ events) h =
    let here : t (buffer_at m (n, e)) ≡ true =
    subst (λ (k : ℕ). t (buffer_at m (k, e)) ≡ true) (let z : n + 0 ≡ n = omega arith in z)
    (h 0 e refl) in
    and_from (t (buffer_at m (n, e)))
    (list_all t (map (buffer_at m) (enumerate_from (n + 1) events)))
    here
    (all_of_machine t m (n + 1) events (λ k x at.
    subst (λ (i : ℕ). t (buffer_at m (i, x)) ≡ true)
    (let z : n + suc k ≡ n + 1 + k = omega arith in z) (h (suc k) x at)))

all_below : (net : Network) (t : Buffer → Bool) (n : ℕ)
    → ((b : Buffer) → IsBuffer net b → t b ≡ true)
    → list_all t (flat_map (buffers_of net) (upto n)) ≡ true
all_below net t zero h = refl
all_below net t (suc n) h =
    subst (λ (l : List Buffer). list_all t l ≡ true)
    (sym (flat_map_push (buffers_of net) (upto n) n))
    (all_append t (flat_map (buffers_of net) (upto n)) (buffers_of net n)
    (all_below net t n h)
    (all_of_machine t n 0 (inputs_of net n)
    (λ k e at. h (buffer_at n (0 + k, e))
    (subst (λ (i : ℕ). slice_get (inputs_of net n) i ≡ Some e)
    (let z : k ≡ 0 + k = omega arith in z) at))))

pub all_buffers : (net : Network) (t : Buffer → Bool)
    → ((b : Buffer) → IsBuffer net b → t b ≡ true) → list_all t (buffers net) ≡ true
all_buffers net t h = all_below net t (length net.machines) h

-- ---- one buffer

reads_before : (net : Network) (journal : List Entry) (x : Entry)
    → ReadsMoments net (journal ++ x ∷ []) → ReadsMoments net journal
reads_before net journal x h =
    λ before after m s o is. h before (after ++ x ∷ []) m s o
    (ap (λ (l : List Entry). l ++ x ∷ []) is ∙ append_assoc before (Rea m s o ∷ after) (x ∷ []))

pub brings_code : (net : Network) (x : Entry) → FitsNetwork net x → BringsCode x
brings_code net (Dep from to e c) h =
    let code = (and_parts (is_party net from && nat_lt to (length net.machines))
    (is_event_code net e c) h).1 in
    leb-true 1 c
    (and_parts (nat_lt e (length net.events)) (nat_le 1 c)
    (and_parts (nat_lt e (length net.events) && nat_le 1 c) (nat_le c _) code).0).1
brings_code net (Rea m s o) h = tt

abbrev Balanced : Account → Type 0
Balanced a = a.delivered ≡ a.read + a.lost + cond a.left 1 0

after_delivery_balances : (p : ℕ) (a : Account) → Balanced a → Balanced (after_delivery p a)
after_delivery_balances p a h = cases a.left refl
  where
    cases : (b : Bool) → a.left ≡ b → a.delivered + 1 ≡ a.read + cond b (a.lost + 1) a.lost + 1
    cases true is = let g : a.delivered ≡ a.read + a.lost + 1 = h ∙ rw is refl in omega arith
    cases false is = let g : a.delivered ≡ a.read + a.lost + 0 = h ∙ rw is refl in omega arith

after_firing_balances : (code : ℕ) (a : Account) → a.left ≡ not (code == 0) → Balanced a
    → Balanced (after_firing code a)
after_firing_balances code a reads h = cases (code == 0) refl
  where
    cases : (b : Bool) → (code == 0) ≡ b
        → a.delivered ≡ cond b a.read (a.read + 1) + a.lost + 0
    cases true is =
        let g : a.delivered ≡ a.read + a.lost + 0 = h ∙ rw (reads, is) refl in omega arith
    cases false is =
        let g : a.delivered ≡ a.read + a.lost + 1 = h ∙ rw (reads, is) refl in omega arith

account_after_balances : (net : Network) (journal : List Entry) (x : Entry) (b : Buffer)
    → IsBuffer net b → machine_of x ≡ b.machine
    → ((m : ℕ) (s : Snapshot) (o : Outcome) → x ≡ Rea m s o → s ≡ snap net journal m)
    → Balanced (account journal b)
    → Balanced (account_after (length journal) b.place b.event x (account journal b))
account_after_balances net journal (Dep from to e c) b at own reads h =
    cases (e == b.event)
  where
    cases : (t : Bool)
        → Balanced (cond t (after_delivery (length journal) (account journal b))
        (account journal b))
    cases true = after_delivery_balances (length journal) (account journal b) h
    cases false = h
account_after_balances net journal (Rea m s o) b at own reads h =
    cases o.fires
  where
    code : slice_index s.codes b.place ≡ buffered journal b.machine b.event
    code = ap (λ (x : Snapshot). slice_index x.codes b.place) (reads m s o refl)
        ∙ ap (λ (k : ℕ). slice_index (snap net journal k).codes b.place) own
        ∙ code_of_place net journal b at

    cases : (t : Bool)
        → Balanced (cond t (after_firing (slice_index s.codes b.place) (account journal b))
        (account journal b))
    cases true = after_firing_balances (slice_index s.codes b.place) (account journal b)
        (ap (λ (n : ℕ). not (n == 0)) (sym code)) h
    cases false = h

abbrev Good : Network → Buffer → List Entry → Type 0
Good net b journal = IsJournal net journal → ReadsMoments net journal → Balanced (account journal b)

pub each_balances : (net : Network) (b : Buffer) → IsBuffer net b → (journal : List Entry)
    → Good net b journal
each_balances net b at journal = by_end (Good net b) (λ h g. refl) more journal
  where
    more : (journal : List Entry) (x : Entry) → Good net b journal → Good net b (journal ++ x ∷ [])
    more journal x before fits reads =
        let here = fits_at net (journal ++ x ∷ []) (length journal) x fits
        (get_end journal x) in
        let balanced = before (fitting_prefix net journal (x ∷ []) fits)
        (reads_before net journal x reads) in
        elim (cases_eq (machine_of x) b.machine) [
          | inl own ↦ subst Balanced
              (sym (account_more journal x b (brings_code net x here) own))
              (account_after_balances net journal x b at own
              (λ m s o is. reads journal [] m s o (ap (λ (y : Entry). journal ++ y ∷ []) is))
              balanced)
          | inr other ↦ subst Balanced (sym (account_away journal x b other)) balanced
        ]

pub accounts_balance : AccountsBalance
accounts_balance net journal fits reads =
    list_all-map balances (account journal) (buffers net)
    ∙ all_buffers net (λ b. balances (account journal b))
    (λ b at. eq-eqb _ _ (each_balances net b at journal fits reads))

-- ---- legal journals

pub legal_reads : LegalReadsMoments
legal_reads net trace journal legal =
    λ before after m s o is.
    let whole = subst (Legal net trace)
    (is ∙ sym (append_assoc before (Rea m s o ∷ []) after)) legal in
    let front = prefixes_are_legal net trace (before ++ Rea m s o ∷ []) after whole in
    let may = ((goes_on_by_steps net trace before (Rea m s o)).0 front).2 in
    may.1

pub legal_balances : LegalBalances
legal_balances net trace journal legal =
    accounts_balance net journal legal.0 (legal_reads net trace journal legal)
