-- What was lost in all buffers is what the journal lost.
use Rattle.std.specs.Prelude.{◌≡◌, ◌⊎◌, ℕ, zero, suc, ◌+◌, ◌<◌, ◌≤◌, Bool, true, false, cond, not, ◌&&◌, ◌||◌, ◌==◌, nat_lt, List, [], ◌∷◌, ◌++◌, map, flat_map, length, slice_get, Option, option_map, unwrap_or}
use Rattle.std.specs.List.{enumerate_from, list_all, sum_by}
use Rattle.std.proofs.Common.{refl, sym, ap, ◌∙◌, inl, inr, arith, add-zero}
use Rattle.std.proofs.lemmas.List.{append_assoc, append-nil, length_push}
use Rattle.std.proofs.lemmas.List.Sums.{sum_by-cons, sum_by-append, sum-map}
use Rattle.std.proofs.lemmas.Bool.{and_parts, cases_eq, cases_lt, eq-eqb, ne_eqb, false≢true, lt-ltb, le-ltb}
use Rattle.std.proofs.lemmas.Option.{slice_get_past}
use Rattle.polis_base.specs.Lists.{upto}
use Rattle.transition_table.specs.NetworkFacts.{are_different, has, lists_once}
use Rattle.transition_table.specs.declared.machine.Machine.{Machine}
use Rattle.transition_table.specs.declared.network.Network.{Network}
use Rattle.journals.specs.declared.entry.Entry.{Entry}
use Rattle.journals.specs.declared.entry.Entry.TheVariants.{Dep, Rea}
use Rattle.journals.specs.Journals.{inputs_of, reads}
use Rattle.journals.specs.Outputs.{lost, lost_after, overwrites}
use Rattle.event_accounts.specs.Accounts.{Buffer, account, accounts_of, buffer_at, buffers, buffers_of, is_delivery_of, loss_places}
use Rattle.event_accounts.specs.Laws.{AllLossesCounted}
use Rattle.event_accounts.specs.declared.account.Account.{Account}
use Rattle.event_accounts.proofs.AccountAfter.{is_present, loss_places_more}
use Rattle.event_accounts.proofs.OneItemMore.{by_end}
use Rattle.polis_base.proofs.Places.{flat_map_push}

-- ---- sums

sum_in_map : {X Y : Type 0} (f : X → Y) (g : Y → ℕ) (xs : List X)
    → sum_by g (map f xs) ≡ sum_by (λ x. g (f x)) xs
sum_in_map f g [] = refl
sum_in_map f g (x ∷ xs) =
    sum_by-cons g (f x) (map f xs) ∙ ap (λ n. g (f x) + n) (sum_in_map f g xs)
    ∙ sym (sum_by-cons (λ x. g (f x)) x xs)

sum_same : {X : Type 0} (f g : X → ℕ) (xs : List X) → ((x : X) → f x ≡ g x)
    → sum_by f xs ≡ sum_by g xs
sum_same f g [] h = refl
sum_same f g (x ∷ xs) h =
    let a = sum_by-cons f x xs in
    let b = sum_by-cons g x xs in
    let c = sum_same f g xs h in
    let d = h x in
    omega arith

sum_of_sums : {X : Type 0} (f g : X → ℕ) (xs : List X)
    → sum_by (λ x. f x + g x) xs ≡ sum_by f xs + sum_by g xs
sum_of_sums f g [] = refl
sum_of_sums f g (x ∷ xs) =
    let a = sum_by-cons f x xs in
    let b = sum_by-cons g x xs in
    let c = sum_by-cons (λ x. f x + g x) x xs in
    let d = sum_of_sums f g xs in
    omega arith

sum_of_none : {X : Type 0} (xs : List X) → sum_by (λ x. 0) xs ≡ 0
sum_of_none [] = refl
sum_of_none {X} (x ∷ xs) = let a = sum_by-cons (λ (x : X). 0) x xs in
    let b = sum_of_none xs in omega arith

-- ---- one delivery is to one buffer at most

abbrev hit : ℕ → ℕ → (ℕ → ℕ → Bool) → Buffer → ℕ
hit to e w b = cond ((to == b.machine && e == b.event) && w b.machine b.event) 1 0

hits_of_machine : (to e m n : ℕ) (w : ℕ → ℕ → Bool) (events : List ℕ)
    → are_different events ≡ true
    → sum_by (hit to e w) (map (buffer_at m) (enumerate_from n events))
    ≡ cond (to == m) (cond (has events e && w to e) 1 0) 0
hits_of_machine to e m n w [] once = none (to == m)
  where
    none : (b : Bool) → ◌≡◌ {A = ℕ} 0 (cond b 0 0)
    none true = refl
    none false = refl
hits_of_machine to e m n w (x ∷ events) once =
    let parts = and_parts (not (has events x)) (are_different events) once in
    sum_by-cons (hit to e w) (buffer_at m (n, x))
    (map (buffer_at m) (enumerate_from (n + 1) events))
    ∙ ap (λ k. hit to e w (buffer_at m (n, x)) + k)
    (hits_of_machine to e m (n + 1) w events parts.1)
    ∙ cases (cases_eq to m) (cases_eq e x) parts.0
  where
    once_there : (a b : Bool) → not a ≡ true → (a || b) ≡ b
    once_there true b h = absurd (false≢true h)
    once_there false b h = refl

    not_there : (b : Bool) → not b ≡ true → b ≡ false
    not_there true h = absurd (false≢true h)
    not_there false h = refl

    cases : ((to ≡ m) ⊎ (to ≡ m → ⊥)) → ((e ≡ x) ⊎ (e ≡ x → ⊥)) → not (has events x) ≡ true
        → hit to e w (buffer_at m (n, x)) + cond (to == m) (cond (has events e && w to e) 1 0) 0
        ≡ cond (to == m) (cond ((x == e || has events e) && w to e) 1 0) 0
    cases (inr other) here new =
        let away = ne_eqb to m other in rw away refl
    cases (inl own) (inl same) new =
        let t = eq-eqb to m own in
        let s = eq-eqb e x same in
        let r = eq-eqb x e (sym same) in
        let gone : has events e ≡ false = ap (has events) same ∙ not_there (has events x) new in
        let mine : hit to e w (buffer_at m (n, x)) ≡ cond (w to e) 1 0 =
        rw (t, s) (ap (λ (k : ℕ). cond (w k x) 1 0) (sym own)
        ∙ ap (λ (k : ℕ). cond (w to k) 1 0) (sym same)) in
        ap (λ (k : ℕ). k + cond (to == m) (cond (has events e && w to e) 1 0) 0) mine
        ∙ rw (t, gone, r) (add-zero _)
    cases (inl own) (inr other) new =
        let t = eq-eqb to m own in
        let s = ne_eqb e x other in
        let r = ne_eqb x e (λ h. other (sym h)) in
        rw (t, s, r) (let z : 0 + cond (has events e && w to e) 1 0
        ≡ cond (has events e && w to e) 1 0 = omega arith in z)

inputs_differ : (net : Network) (m : ℕ) → are_different (inputs_of net m) ≡ true
inputs_differ net m = found net.machines m net.once
  where
    found : (machines : List Machine) (k : ℕ) → list_all lists_once machines ≡ true
        → are_different
        (unwrap_or (option_map (λ machine. machine.inputs) (slice_get machines k)) []) ≡ true
    found [] k h = refl
    found (machine ∷ machines) zero h =
        let here = (and_parts (lists_once machine) (list_all lists_once machines) h).0 in
        (and_parts (are_different machine.inputs) _
        (and_parts (are_different machine.inputs && are_different machine.outputs) _ here).0).0
    found (machine ∷ machines) (suc k) h =
        found machines k (and_parts (lists_once machine) (list_all lists_once machines) h).1

hits_below : (net : Network) (to e : ℕ) (w : ℕ → ℕ → Bool) (n : ℕ)
    → sum_by (hit to e w) (flat_map (buffers_of net) (upto n))
    ≡ cond (nat_lt to n) (cond (reads net to e && w to e) 1 0) 0
hits_below net to e w zero = rw (le-ltb to 0 (omega arith)) refl
hits_below net to e w (suc n) =
    ap (sum_by (hit to e w)) (flat_map_push (buffers_of net) (upto n) n)
    ∙ sum_by-append (hit to e w) (flat_map (buffers_of net) (upto n)) (buffers_of net n)
    ∙ ap (λ k. k + sum_by (hit to e w) (buffers_of net n)) (hits_below net to e w n)
    ∙ ap (λ k. cond (nat_lt to n) (cond (reads net to e && w to e) 1 0) 0 + k)
    (hits_of_machine to e n 0 w (inputs_of net n) (inputs_differ net n))
    ∙ cases (cases_lt to n) (cases_eq to n)
  where
    cases : ((to < n) ⊎ (n ≤ to)) → ((to ≡ n) ⊎ (to ≡ n → ⊥))
        → cond (nat_lt to n) (cond (reads net to e && w to e) 1 0) 0
        + cond (to == n) (cond (has (inputs_of net n) e && w to e) 1 0) 0
        ≡ cond (nat_lt to (suc n)) (cond (reads net to e && w to e) 1 0) 0
    cases (inl below) (inl same) = absurd (omega arith)
    cases (inl below) (inr other) =
        rw (lt-ltb to n below, ne_eqb to n other, lt-ltb to (suc n) (omega arith)) (add-zero _)
    cases (inr above) (inl same) =
        rw (le-ltb to n above, eq-eqb to n same, lt-ltb to (suc n) (omega arith))
        (let z : 0 + cond (has (inputs_of net n) e && w to e) 1 0
        ≡ cond (has (inputs_of net n) e && w to e) 1 0 = omega arith in z
        ∙ ap (λ (k : ℕ). cond (has (inputs_of net k) e && w to e) 1 0) (sym same))
    cases (inr above) (inr other) =
        rw (le-ltb to n above, ne_eqb to n other, le-ltb to (suc n) (omega arith)) refl

hits : (net : Network) (to e : ℕ) (w : ℕ → ℕ → Bool)
    → sum_by (hit to e w) (buffers net) ≡ cond (reads net to e && w to e) 1 0
hits net to e w = hits_below net to e w (length net.machines)
    ∙ cases (cases_lt to (length net.machines))
  where
    cases : ((to < length net.machines) ⊎ (length net.machines ≤ to))
        → ◌≡◌ {A = ℕ} (cond (nat_lt to (length net.machines))
        (cond (reads net to e && w to e) 1 0) 0)
        (cond (reads net to e && w to e) 1 0)
    cases (inl below) = rw (lt-ltb to (length net.machines) below) refl
    cases (inr above) =
        let gone : reads net to e ≡ false =
        ap (λ (o : Option Machine). has (unwrap_or (option_map (λ machine. machine.inputs) o) []) e)
        (slice_get_past net.machines to above) in
        rw (le-ltb to (length net.machines) above, gone) refl

-- ---- one entry more

all_hits : (net : Network) (journal : List Entry) (x : Entry)
    → sum_by (λ b. cond (is_delivery_of b.machine b.event x && is_present journal b.machine b.event)
    1 0)
    (buffers net) ≡ cond (overwrites net journal x) 1 0
all_hits net journal (Dep s to e c) = hits net to e (is_present journal)
all_hits net journal (Rea m s o) = sum_of_none (buffers net)

lost_after_push : (net : Network) (before entries : List Entry) (x : Entry)
    → lost_after net before (entries ++ x ∷ [])
    ≡ lost_after net before entries + cond (overwrites net (before ++ entries) x) 1 0
lost_after_push net before [] x =
    add-zero _
    ∙ ap (λ (l : List Entry). cond (overwrites net l x) 1 0) (sym (append-nil before))
    ∙ (let z : cond (overwrites net (before ++ []) x) 1 0
    ≡ 0 + cond (overwrites net (before ++ []) x) 1 0 = omega arith in z)
lost_after_push net before (y ∷ entries) x =
    let more = lost_after_push net (before ++ y ∷ []) entries x
    ∙ ap (λ (l : List Entry). lost_after net (before ++ y ∷ []) entries
    + cond (overwrites net l x) 1 0)
    (append_assoc before (y ∷ []) entries) in
    omega arith

abbrev Totals : Network → List Entry → Type 0
Totals net journal =
    sum_by (λ b. length (loss_places journal b.machine b.event)) (buffers net) ≡ lost net journal

lost_if : (b : Bool) (xs : List ℕ) (y : ℕ)
    → length (xs ++ cond b (y ∷ []) []) ≡ length xs + cond b 1 0
lost_if true xs y = length_push xs y
lost_if false xs y = ap length (append-nil xs) ∙ sym (add-zero _)

totals : (net : Network) (journal : List Entry) → Totals net journal
totals net journal = by_end (Totals net) (sum_of_none (buffers net)) more journal
  where
    more : (journal : List Entry) (x : Entry) → Totals net journal → Totals net (journal ++ x ∷ [])
    more journal x before =
        let was : Buffer → ℕ = λ b. length (loss_places journal b.machine b.event) in
        let is : Buffer → ℕ = λ b.
        cond (is_delivery_of b.machine b.event x && is_present journal b.machine b.event) 1 0 in
        sum_same (λ b. length (loss_places (journal ++ x ∷ []) b.machine b.event))
        (λ b. was b + is b) (buffers net)
        (λ b. ap length (loss_places_more journal x b.machine b.event)
        ∙ lost_if (is_delivery_of b.machine b.event x && is_present journal b.machine b.event)
        (loss_places journal b.machine b.event) (length journal))
        ∙ sum_of_sums was is (buffers net)
        ∙ ap (λ k. k + sum_by is (buffers net)) before
        ∙ ap (λ k. lost net journal + k) (all_hits net journal x)
        ∙ sym (lost_after_push net [] journal x)

pub all_losses : AllLossesCounted
all_losses net journal =
    sum-map (λ (a : Account). a.lost) (accounts_of net journal)
    ∙ sum_in_map (account journal) (λ (a : Account). a.lost) (buffers net)
    ∙ totals net journal
