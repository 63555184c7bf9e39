-- Sets to which the receivers of what is emitted are added.
use Rattle.std.proofs.Common.{◌≡◌, ◌≢◌, ℕ, ◌+◌, ◌<◌, ◌≤◌, Bool, true, false, ◌||◌, ◌==◌, List, [], ◌∷◌, ◌++◌, drop, length, take, slice_get, Some, refl, sym, ap, ◌∙◌, subst, inl, inr, arith}
use Rattle.std.specs.Int.{bit_at}
use Rattle.std.specs.List.{Contains, list_any}
use Rattle.std.proofs.lemmas.Bool.{cases_eq, eq-eqb, ne_eqb}
use Rattle.std.proofs.lemmas.List.{take_more}
use Rattle.std.proofs.lemmas.List.Folds.{list_any-append}
use Rattle.std.proofs.lemmas.Option.{get_or_from_slice_get, slice_get_within}
use Rattle.polis_base.specs.Lists.{upto}
use Rattle.polis_base.proofs.Members.{in_at, of_filter, of_upto}
use Rattle.transition_table.specs.NetworkFacts.{has}
use Rattle.transition_table.specs.declared.decl.EventDecl.{EventDecl}
use Rattle.transition_table.specs.declared.network.Network.{Network}
use Rattle.journals.specs.Journals.{emitted, reads}
use Rattle.journals.specs.Schedules.{receivers_of}
use Rattle.journals.proofs.Emitted.{emitted_none, emitted_one}
use Rattle.net_core.proofs.ReceiversOf.{receivers_are}
use Rattle.polis_base.proofs.Bools.{or_assoc, or_none}
use Rattle.polis_base.proofs.Places.{some_at}

-- a receiver of what is emitted
abbrev pub is_receiver : Network → List (ℕ × ℕ) → ℕ → Bool
is_receiver net sent m = list_any (λ (p : ℕ × ℕ). has (receivers_of net p.0) m) sent

or_all : (a b : Bool) → (a || (b || true)) ≡ true
or_all true b = refl
or_all false true = refl
or_all false false = refl

-- ---- of an event

pub receiver_below : (net : Network) (e : ℕ) (event : EventDecl) (i to : ℕ)
    → slice_get net.events e ≡ Some event → slice_get event.receivers i ≡ Some to
    → to < length net.machines
receiver_below net e event i to at is =
    of_upto (length net.machines) to
    (of_filter (λ k. reads net k e) (upto (length net.machines)) to
    (subst (λ l. Contains l to) (receivers_are net e event at) (in_at event.receivers i to is))).0

has_next : (xs : List ℕ) (i x m : ℕ) → slice_get xs i ≡ Some x
    → has (take (i + 1) xs) m ≡ (has (take i xs) m || x == m)
has_next xs i x m at =
    ap (λ l. has l m) (take_more xs i x (slice_get_within xs i x at))
    ∙ ap (λ y. has (take i xs ++ y ∷ []) m) (get_or_from_slice_get xs i x x at)
    ∙ list_any-append (λ k. k == m) (take i xs) (x ∷ [])
    ∙ ap (λ t. has (take i xs) m || t) (or_none (x == m))

-- one receiver more
pub one_receiver_more : (xs : List ℕ) (i x set old new m : ℕ) → slice_get xs i ≡ Some x
    → (bit_at old m == 1) ≡ (bit_at set m == 1 || has (take i xs) m)
    → bit_at new x ≡ 1 → ((k : ℕ) → k ≢ x → bit_at new k ≡ bit_at old k)
    → (bit_at new m == 1) ≡ (bit_at set m == 1 || has (take (i + 1) xs) m)
one_receiver_more xs i x set old new m at were own others =
    elim (cases_eq m x) [
      | inl same ↦
          ap (λ j. bit_at new j == 1) same ∙ ap (λ b. b == 1) own
          ∙ sym
          (ap (λ t. bit_at set m == 1 || t)
          (has_next xs i x m at ∙ ap (λ t. has (take i xs) m || t) (eq-eqb x m (sym same)))
          ∙ or_all (bit_at set m == 1) (has (take i xs) m))
      | inr other ↦
          ap (λ b. b == 1) (others m other) ∙ were
          ∙ ap (λ t. bit_at set m == 1 || t)
          (sym
          (has_next xs i x m at
          ∙ ap (λ t. has (take i xs) m || t) (ne_eqb x m (λ e. other (sym e)))
          ∙ or_none (has (take i xs) m)))
    ]

-- ---- of what is emitted

-- an output with a code: its receivers, and those of the rest
pub emits_one : (net : Network) (outputs codes : List ℕ) (k e c set old new m : ℕ)
    → slice_get outputs k ≡ Some e → slice_get codes k ≡ Some c → 0 < c
    → (bit_at old m == 1 || is_receiver net (emitted (drop k outputs) (drop k codes)) m)
    ≡ (bit_at set m == 1 || is_receiver net (emitted outputs codes) m)
    → (bit_at new m == 1) ≡ (bit_at old m == 1 || has (receivers_of net e) m)
    → (bit_at new m == 1 || is_receiver net (emitted (drop (k + 1) outputs) (drop (k + 1) codes)) m)
    ≡ (bit_at set m == 1 || is_receiver net (emitted outputs codes) m)
emits_one net outputs codes k e c set old new m event code some before now =
    ap (λ b. b || is_receiver net (emitted (drop (k + 1) outputs) (drop (k + 1) codes)) m) now
    ∙ or_assoc (bit_at old m == 1) (has (receivers_of net e) m)
    (is_receiver net (emitted (drop (k + 1) outputs) (drop (k + 1) codes)) m)
    ∙ ap (λ l. bit_at old m == 1 || is_receiver net l m)
    (sym (emitted_one outputs codes k e c event code some))
    ∙ before

-- one without
pub emits_none : (net : Network) (outputs codes : List ℕ) (k c set old m : ℕ)
    → k < length outputs → slice_get codes k ≡ Some c → c ≤ 0
    → (bit_at old m == 1 || is_receiver net (emitted (drop k outputs) (drop k codes)) m)
    ≡ (bit_at set m == 1 || is_receiver net (emitted outputs codes) m)
    → (bit_at old m == 1 || is_receiver net (emitted (drop (k + 1) outputs) (drop (k + 1) codes)) m)
    ≡ (bit_at set m == 1 || is_receiver net (emitted outputs codes) m)
emits_none net outputs codes k c set old m within code none before =
    let (e, event) = some_at outputs k within in
    ap (λ l. bit_at old m == 1 || is_receiver net l m)
    (sym (emitted_none outputs codes k e c event code (omega arith)))
    ∙ before
