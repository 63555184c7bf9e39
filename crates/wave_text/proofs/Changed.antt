-- What is made of an entry is what it changes.
use Rattle.std.specs.Prelude.{◌≡◌, ◌⊎◌, ℕ, zero, suc, ◌+◌, ◌<◌, ◌≤◌, Bool, true, false, cond, not, ◌&&◌, ◌==◌, nat_lt, List, [], ◌∷◌, ◌++◌, map, filter_map, flat_map, length, take, slice_get, Option, Some, None}
use Rattle.std.specs.List.{cons_option, enumerate_from}
use Rattle.std.specs.Option.{option_map_or}
use Rattle.std.proofs.Common.{refl, sym, ap, ◌∙◌, inl, inr, arith}
use Rattle.std.proofs.lemmas.List.{append-nil, length-map}
use Rattle.std.proofs.lemmas.List.Elements.{filter_map-append}
use Rattle.std.proofs.lemmas.Bool.{cases_eq, cases_lt, eq-eqb, ne_eqb, lt-ltb, le-ltb}
use Rattle.polis_base.specs.Lists.{upto}
use Rattle.transition_table.specs.declared.decl.Party.{Party}
use Rattle.transition_table.specs.declared.network.Network.{Network}
use Rattle.transition_table.specs.declared.snapshot.Outcome.{Outcome}
use Rattle.transition_table.specs.declared.snapshot.Snapshot.{Snapshot}
use Rattle.journals.specs.declared.entry.Entry.{Entry}
use Rattle.journals.specs.declared.entry.Entry.TheVariants.{Dep, Rea}
use Rattle.journals.specs.Journals.{inputs_of, buffered, snap, state, states_of}
use Rattle.journals.specs.Moved.{machine_of}
use Rattle.event_accounts.specs.Accounts.{is_delivery_of, overwrites_at}
use Rattle.wave_text.specs.inner.Changing.{becomes, code_changes, happens, loss_changes}
use Rattle.wave_text.specs.Signals.{change_at, signal_code, happens_at, snapshot_signals, loss_signals, same_code, machine_signals, first_number}
use Rattle.wave_text.specs.declared.signal.Change.{Change}
use Rattle.wave_text.specs.declared.signal.Signal.{Signal}
use Rattle.wave_text.specs.declared.signal.Signal.TheVariants.{Input, State, Loss}
use Rattle.journals.proofs.MomentsAfter.{place_dep, place_rea, state_dep, state_rea}
use Rattle.journals.proofs.EntriesAt.{prefix_more}
use Rattle.polis_base.proofs.Places.{flat_map_push}

-- ---- numbered lists

pub numbered_both : {X : Type 0} (n : ℕ) (xs ys : List X)
    → enumerate_from n (xs ++ ys) ≡ enumerate_from n xs ++ enumerate_from (n + length xs) ys
numbered_both n [] ys = ap (λ k. enumerate_from k ys) (let h : n ≡ n + 0 = omega arith in h)
numbered_both n (x ∷ xs) ys =
    ap (λ l. (n, x) ∷ l)
    (numbered_both (n + 1) xs ys
    ∙ ap (λ k. enumerate_from (n + 1) xs ++ enumerate_from k ys)
    (let h : n + 1 + length xs ≡ n + suc (length xs) = omega arith in h))

-- what a list of signals, numbered from n on, changes
abbrev pub changed : Network → List Entry → ℕ → ℕ → List Signal → List Change
changed net journal p n list = filter_map (change_at net journal p) (enumerate_from n list)

pub changed_both : (net : Network) (journal : List Entry) (p n : ℕ) (xs ys : List Signal)
    → changed net journal p n (xs ++ ys)
    ≡ changed net journal p n xs ++ changed net journal p (n + length xs) ys
changed_both net journal p n xs ys =
    ap (filter_map (change_at net journal p)) (numbered_both n xs ys)
    ∙ filter_map-append (change_at net journal p) (enumerate_from n xs)
    (enumerate_from (n + length xs) ys)

-- ---- what doesn't change

-- the signal stays as it is
pub record Stays (net : Network) (journal : List Entry) (p : ℕ) (signal : Signal) : Type 0 where
  pub same : signal_code net (take (p + 1) journal) signal ≡ signal_code net (take p journal) signal
  pub still : happens_at net journal p signal ≡ false

same_as_itself : (o : Option ℕ) → same_code o o ≡ true
same_as_itself None = refl
same_as_itself (Some a) = eq-eqb a a refl

unchanged : (net : Network) (journal : List Entry) (p k : ℕ) (signal : Signal)
    → Stays net journal p signal → change_at net journal p (k, signal) ≡ None
unchanged net journal p k signal stays =
    let before = signal_code net (take p journal) signal in
    let made : Option Change = Some (record { signal = k; code = None }) in
    ap (λ (b : Bool). cond b made
    (cond (same_code before (signal_code net (take (p + 1) journal) signal)) None
    (Some (record { signal = k; code = signal_code net (take (p + 1) journal) signal })))) stays.still
    ∙ ap (λ (b : Bool). cond b None
    (let c : Option Change = Some
    (record { signal = k; code = signal_code net (take (p + 1) journal) signal }) in c))
    (ap (same_code before) stays.same ∙ same_as_itself before)

pub none_changed : (net : Network) (journal : List Entry) (p n : ℕ) (c : ℕ → Signal)
    (es : List ℕ) → ((e : ℕ) → Stays net journal p (c e))
    → changed net journal p n (map c es) ≡ []
none_changed net journal p n c [] stays = refl
none_changed net journal p n c (e ∷ es) stays =
    ap (λ (o : Option Change). cons_option o (changed net journal p (n + 1) (map c es)))
    (unchanged net journal p n (c e) (stays e))
    ∙ none_changed net journal p (n + 1) c es stays

-- ---- what the codes of a machine's snapshots change

pub code_changes_both : (n : ℕ) (a c b d : List ℕ) → length a ≡ length c
    → code_changes n (a ++ b) (c ++ d) ≡ code_changes n a c ++ code_changes (n + length a) b d
code_changes_both n [] [] b d same = ap (λ (k : ℕ). code_changes k b d)
    (let h : n ≡ n + 0 = omega arith in h)
code_changes_both n [] (y ∷ c) b d same = absurd (omega arith)
code_changes_both n (x ∷ a) [] b d same = absurd (omega arith)
code_changes_both n (x ∷ a) (y ∷ c) b d same =
    let rest = code_changes_both (n + 1) a c b d (omega arith)
    ∙ ap (λ (k : ℕ). code_changes (n + 1) a c ++ code_changes k b d)
    (let h : n + 1 + length a ≡ n + suc (length a) = omega arith in h) in
    cases (x == y) (code_changes (n + 1) (a ++ b) (c ++ d)) (code_changes (n + 1) a c)
    (code_changes (n + suc (length a)) b d) rest
  where
    cases : (t : Bool) (whole one two : List Change) → whole ≡ one ++ two
        → cond t whole (becomes n y ∷ whole) ≡ cond t one (becomes n y ∷ one) ++ two
    cases true whole one two is = is
    cases false whole one two is = ap (λ (l : List Change). becomes n y ∷ l) is

pub code_changes_are : (net : Network) (journal : List Entry) (p : ℕ) (c : ℕ → Signal) (f g : ℕ → ℕ)
    (n : ℕ) (es : List ℕ)
    → ((e k : ℕ) → change_at net journal p (k, c e)
    ≡ cond (f e == g e) None (Some (becomes k (g e))))
    → code_changes n (map f es) (map g es) ≡ changed net journal p n (map c es)
code_changes_are net journal p c f g n [] says = refl
code_changes_are net journal p c f g n (e ∷ es) says =
    cases (f e == g e) (code_changes (n + 1) (map f es) (map g es))
    ∙ ap (λ (l : List Change). cons_option (cond (f e == g e) None (Some (becomes n (g e)))) l)
    (code_changes_are net journal p c f g (n + 1) es says)
    ∙ ap (λ (o : Option Change). cons_option o (changed net journal p (n + 1) (map c es)))
    (sym (says e n))
  where
    cases : (t : Bool) (rest : List Change)
        → cond t rest (becomes n (g e) ∷ rest)
        ≡ cons_option (cond t None (Some (becomes n (g e)))) rest
    cases true rest = refl
    cases false rest = refl

pub snapshot_changed : (net : Network) (journal : List Entry) (p m n : ℕ)
    → code_changes n (snap net (take p journal) m).codes (snap net (take (p + 1) journal) m).codes
    ≡ changed net journal p n (snapshot_signals net m)
snapshot_changed net journal p m n =
    let now = take p journal in
    let then = take (p + 1) journal in
    let inputs = inputs_of net m in
    let variables = upto (length (states_of net m)) in
    let many = length-map inputs (buffered now m) in
    let after = length-map inputs (buffered then m) in
    code_changes_both n (map (buffered now m) inputs) (map (buffered then m) inputs)
    (map (state net now m) variables) (map (state net then m) variables) (omega arith)
    ∙ ap (λ (l : List Change). l ++ code_changes (n + length (map (buffered now m) inputs))
    (map (state net now m) variables) (map (state net then m) variables))
    (code_changes_are net journal p (Input m) (buffered now m) (buffered then m) n inputs
    (λ e k. refl))
    ∙ ap (λ (l : List Change). changed net journal p n (map (Input m) inputs) ++ l)
    (code_changes_are net journal p (State m) (state net now m) (state net then m)
    (n + length (map (buffered now m) inputs)) variables (λ e k. refl))
    ∙ ap (λ (k : ℕ). changed net journal p n (map (Input m) inputs)
    ++ changed net journal p (n + k) (map (State m) variables))
    (many ∙ sym (length-map inputs (Input m)))
    ∙ sym (changed_both net journal p n (map (Input m) inputs) (map (State m) variables))

-- ---- the signals of other machines

place_away : (journal : List Entry) (x : Entry) (k e : ℕ) → (machine_of x ≡ k → ⊥)
    → buffered (journal ++ x ∷ []) k e ≡ buffered journal k e
place_away journal (Dep s to event c) k e other =
    place_dep journal s to event c k e ∙ rw (ne_eqb to k other) refl
place_away journal (Rea m s o) k e other =
    place_rea journal m s o k e ∙ rw (ne_eqb m k other) refl

state_away : (net : Network) (journal : List Entry) (x : Entry) (k v : ℕ) → (machine_of x ≡ k → ⊥)
    → state net (journal ++ x ∷ []) k v ≡ state net journal k v
state_away net journal (Dep s to event c) k v other = state_dep net journal s to event c k v
state_away net journal (Rea m s o) k v other =
    state_rea net journal m s o k v ∙ rw (ne_eqb m k other) refl

delivery_away : (x : Entry) (k e : ℕ) → (machine_of x ≡ k → ⊥) → is_delivery_of k e x ≡ false
delivery_away (Dep s to event c) k e other = rw (ne_eqb to k other) refl
delivery_away (Rea m s o) k e other = refl

overwrites_by : (journal : List Entry) (p : ℕ) (x : Entry) (k e : ℕ)
    → slice_get journal p ≡ Some x
    → overwrites_at journal k e p
    ≡ (is_delivery_of k e x && not (buffered (take p journal) k e == 0))
overwrites_by journal p x k e at =
    ap (λ (o : Option Entry). option_map_or (is_delivery_of k e) o false
    && not (buffered (take p journal) k e == 0)) at

other_machine : (net : Network) (journal : List Entry) (p n k : ℕ) (x : Entry)
    → slice_get journal p ≡ Some x → (machine_of x ≡ k → ⊥)
    → changed net journal p n (machine_signals net k) ≡ []
other_machine net journal p n k x at other =
    let now = take p journal in
    let more = prefix_more journal p x at in
    let kept = snapshot_signals net k in
    changed_both net journal p n kept (loss_signals net k)
    ∙ ap (λ (l : List Change). l ++ changed net journal p (n + length kept) (loss_signals net k))
    (changed_both net journal p n (map (Input k) (inputs_of net k))
    (map (State k) (upto (length (states_of net k))))
    ∙ ap (λ (l : List Change). l ++ changed net journal p
    (n + length (map (Input k) (inputs_of net k)))
    (map (State k) (upto (length (states_of net k)))))
    (none_changed net journal p n (Input k) (inputs_of net k) (λ e. record {
      same = ap Some (ap (λ (l : List Entry). buffered l k e) more ∙ place_away now x k e other);
      still = refl;
    }))
    ∙ none_changed net journal p (n + length (map (Input k) (inputs_of net k))) (State k)
    (upto (length (states_of net k))) (λ v. record {
      same = ap Some (ap (λ (l : List Entry). state net l k v) more
          ∙ state_away net now x k v other);
      still = refl;
    }))
    ∙ none_changed net journal p (n + length kept) (Loss k) (inputs_of net k) (λ e. record {
      same = refl;
      still = overwrites_by journal p x k e at
          ∙ ap (λ (b : Bool). b && not (buffered now k e == 0)) (delivery_away x k e other);
    })

-- of all machines' signals only those of the entry's own
pub machines_changed : (net : Network) (journal : List Entry) (p m : ℕ) (x : Entry)
    → slice_get journal p ≡ Some x → machine_of x ≡ m → (k : ℕ)
    → changed net journal p 0 (flat_map (machine_signals net) (upto k))
    ≡ cond (nat_lt m k) (changed net journal p (first_number net m) (machine_signals net m)) []
machines_changed net journal p m x at own zero = rw (le-ltb m 0 (omega arith)) refl
machines_changed net journal p m x at own (suc k) =
    let front = flat_map (machine_signals net) (upto k) in
    ap (changed net journal p 0) (flat_map_push (machine_signals net) (upto k) k)
    ∙ changed_both net journal p 0 front (machine_signals net k)
    ∙ ap (λ (l : List Change). l ++ changed net journal p (0 + length front)
    (machine_signals net k))
    (machines_changed net journal p m x at own k)
    ∙ cases (cases_lt m k) (cases_eq m k)
  where
    mine : List Change
    mine = changed net journal p (first_number net m) (machine_signals net m)

    last : List Change
    last = changed net journal p (0 + length (flat_map (machine_signals net) (upto k)))
        (machine_signals net k)

    cases : ((m < k) ⊎ (k ≤ m)) → ((m ≡ k) ⊎ (m ≡ k → ⊥))
        → cond (nat_lt m k) (changed net journal p (first_number net m) (machine_signals net m)) []
        ++ changed net journal p (0 + length (flat_map (machine_signals net) (upto k)))
        (machine_signals net k)
        ≡ cond (nat_lt m (suc k))
        (changed net journal p (first_number net m) (machine_signals net m)) []
    cases (inl below) (inl same) = absurd (omega arith)
    cases (inl below) (inr other) =
        rw (lt-ltb m k below, lt-ltb m (suc k) (omega arith))
        (ap (λ (l : List Change). changed net journal p (first_number net m) (machine_signals net m)
        ++ l)
        (other_machine net journal p (0 + length (flat_map (machine_signals net) (upto k))) k x at
        (λ h. other (sym own ∙ h)))
        ∙ append-nil (changed net journal p (first_number net m) (machine_signals net m)))
    cases (inr above) (inl same) =
        rw (le-ltb m k above, lt-ltb m (suc k) (omega arith))
        (ap (λ (n : ℕ). changed net journal p n (machine_signals net k))
        (let h : 0 + first_number net k ≡ first_number net k = omega arith in h)
        ∙ ap (λ (n : ℕ). changed net journal p (first_number net n) (machine_signals net n))
        (sym same))
    cases (inr above) (inr other) =
        rw (le-ltb m k above, le-ltb m (suc k) (omega arith))
        (other_machine net journal p (0 + length (flat_map (machine_signals net) (upto k))) k x at
        (λ h. other (sym own ∙ h)))

-- ---- losses

pub loss_changes_are : (net : Network) (journal : List Entry) (p : ℕ) (s : Party) (m e c n : ℕ)
    (es rest : List ℕ) → slice_get journal p ≡ Some (Dep s m e c)
    → loss_changes n es e (map (buffered (take p journal) m) es ++ rest)
    ≡ changed net journal p n (map (Loss m) es)
loss_changes_are net journal p s m e c n [] rest at = refl
loss_changes_are net journal p s m e c n (x ∷ es) rest at =
    let code = buffered (take p journal) m x in
    let test : overwrites_at journal m x p ≡ (e == x && not (code == 0)) =
    overwrites_by journal p (Dep s m e c) m x at ∙ rw (eq-eqb m m refl) refl in
    cases (e == x && not (code == 0))
    (loss_changes (n + 1) es e (map (buffered (take p journal) m) es ++ rest))
    ∙ ap (λ (l : List Change). cons_option
    (cond (e == x && not (code == 0)) (Some (happens n)) None) l)
    (loss_changes_are net journal p s m e c (n + 1) es rest at)
    ∙ ap (λ (b : Bool). cons_option (cond b (Some (happens n)) None)
    (changed net journal p (n + 1) (map (Loss m) es))) (sym test)
  where
    cases : (t : Bool) (rest : List Change)
        → cond t (happens n ∷ rest) rest ≡ cons_option (cond t (Some (happens n)) None) rest
    cases true rest = refl
    cases false rest = refl

pub no_losses : (net : Network) (journal : List Entry) (p k : ℕ) (s : Snapshot) (o : Outcome)
    (m n : ℕ) → slice_get journal p ≡ Some (Rea k s o)
    → changed net journal p n (loss_signals net m) ≡ []
no_losses net journal p k s o m n at =
    none_changed net journal p n (Loss m) (inputs_of net m) (λ e. record {
      same = refl;
      still = overwrites_by journal p (Rea k s o) m e at;
    })
