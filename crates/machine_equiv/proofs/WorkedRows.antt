-- Comparisons of small machines and networks, by computation.
use Rattle.std.proofs.Common.{◌≡◌, ◌≢◌, ⊎_elim, ℕ, zero, suc, ◌<◌, ◌==◌, Bool, true, List, [], ◌∷◌, length, take, slice_get, slice_index, codes, Option, Some, None, unwrap_or, refl, sym, ap, ◌∙◌, subst, arith}
use Rattle.std.specs.List.{list_all}
use Rattle.std.specs.Cmp.Lexicographic.{pointwise, same_text}
use Rattle.std.proofs.lemmas.Bool.{cases_lt}
use Rattle.domains.specs.AllCodes.{all_codes}
use Rattle.domains.specs.Tables.{rank}
use Rattle.transition_table.specs.Computed.{result_codes}
use Rattle.transition_table.specs.samples.Join.{join, join_machine}
use Rattle.transition_table.specs.samples.Twice.{agreeing_machine}
use Rattle.transition_table.specs.samples.Two.{two, two_machine}
use Rattle.transition_table.specs.samples.Value.{value, value_machine}
use Rattle.transition_table.specs.Transitions.{reading, IsDeterministic, Transition}
use Rattle.transition_table.specs.declared.machine.Machine.{Machine}
use Rattle.transition_table.specs.declared.snapshot.Snapshot.{Snapshot}
use Rattle.journals.specs.Runs.{two_by_priority_run, two_by_number_run}
use Rattle.journals.specs.declared.entry.Entry.{Entry}
use Rattle.journals.specs.declared.entry.Entry.TheVariants.{Dep, Rea}
use Rattle.machine_equiv.specs.declared.machines.Compared.{Compared}
use Rattle.machine_equiv.specs.declared.machines.Compared.TheVariants.{Same, Shape, Differ}
use Rattle.machine_equiv.specs.Comparing.{SameTable, SameTables, IsLeastDifference, IsComparison, IsNetComparison}
use Rattle.machine_equiv.specs.Samples.{passing_machine, six, six_machine}
use Rattle.machine_equiv.specs.Shapes.{SameShape, SameForm}
use Rattle.domains.proofs.AllCodes.{lists_all, stands_at_rank, stands_once}
use Rattle.transition_table.proofs.Determinism.{one_row}
use Rattle.transition_table.proofs.Tables.{agreeing}
use Rattle.machine_equiv.proofs.DifferOn.{codes_differ, differ_on, same_on}
use Rattle.machine_equiv.proofs.OneComparison.{one_comparison}
use Rattle.polis_base.proofs.ListTests.{all_get}

get_taken : {X : Type 0} (xs : List X) (i k : ℕ) → k < i → slice_get (take i xs) k ≡ slice_get xs k
get_taken xs zero k low = absurd (omega arith)
get_taken [] (suc i) k low = refl
get_taken (x ∷ xs) (suc i) zero low = refl
get_taken (x ∷ xs) (suc i) (suc k) low = get_taken xs i k (omega arith)

-- the machines give the results the same codes
abbrev pub agree : Machine → Machine → List ℕ → Bool
agree a b codes = pointwise ◌==◌ (result_codes a codes) (result_codes b codes)

module _ (a b : Machine) (form : SameForm a b) (a_sure : IsDeterministic a)
    (b_sure : IsDeterministic b) where
  same_everywhere : list_all (agree a b) (all_codes a.vars) ≡ true → SameTable a b
  same_everywhere h s o snapshot =
      same_on a b form a_sure b_sure s.codes o snapshot
      (same_text (result_codes a s.codes) (result_codes b s.codes)
      (sym (lists_all a.vars (agree a b) h s.codes snapshot)))

  least_at : (i : ℕ) (s : Snapshot) → slice_get (all_codes a.vars) i ≡ Some s.codes
      → list_all (agree a b) (take i (all_codes a.vars)) ≡ true
      → result_codes a s.codes ≢ result_codes b s.codes → IsLeastDifference a b s
  least_at i s is h differ =
      let once = stands_once a.vars s.codes i is in
      record {
        fit = once.0;
        holds = differ_on a b form a_sure b_sure s.codes once.0 differ;
        least = λ other fit found.
            ⊎_elim
            (λ less. absurd (codes_differ a b form a_sure b_sure other found
            (same_text (result_codes a other) (result_codes b other)
            (sym (all_get (agree a b) (take i (all_codes a.vars)) (rank a.vars other) other h
            (get_taken (all_codes a.vars) i (rank a.vars other)
            (let at = once.1 in omega arith)
            ∙ stands_at_rank a.vars other fit))))))
            (λ more. more)
            (cases_lt (rank a.vars other) (rank a.vars s.codes));
      }

-- ---- values

pub value_form : SameForm value_machine six_machine
value_form = record {
  inputs = refl;
  outputs = refl;
  initial_values = refl;
  vars = refl;
  results = refl;
}

pub itself : IsNetComparison value value None
itself k x y x_is y_is s o snapshot =
    let same : x ≡ y =
    ap (λ (m : Option Machine). unwrap_or m value_machine) (sym x_is ∙ y_is) in (
      λ gives. subst (λ m. Transition m s o) same gives,
      λ gives. subst (λ m. Transition m s o) (sym same) gives,
    )

value_sure : IsDeterministic value_machine
value_sure = one_row value_machine (omega arith)

six_sure : IsDeterministic six_machine
six_sure = one_row six_machine (omega arith)

least_five : IsLeastDifference value_machine six_machine (reading (6 ∷ []))
least_five = least_at value_machine six_machine value_form value_sure six_sure 6
    (reading (6 ∷ [])) refl refl
    (λ e. let go = ap (λ (xs : List ℕ). slice_index xs 0) e in omega arith)

pub at_five : IsComparison value_machine six_machine (Differ (reading (6 ∷ [])))
at_five = (value_form, least_five)

pub first : IsNetComparison value six (Some (record { machine = 0; snapshot = reading (6 ∷ []) }))
first = record {
  before = λ k low. absurd (omega arith);
  one = value_machine;
  other = six_machine;
  one_is = refl;
  other_is = refl;
  least = least_five;
}

-- ---- a row that changes nothing

pub idle_row : IsComparison agreeing_machine passing_machine Same
idle_row =
    let form : SameForm agreeing_machine passing_machine = record {
      inputs = refl;
      outputs = refl;
      initial_values = refl;
      vars = refl;
      results = refl;
    } in (
      form,
      same_everywhere agreeing_machine passing_machine form agreeing
          (one_row passing_machine (omega arith)) refl,
    )

-- ---- shapes

pub other_form : SameForm value_machine join_machine → ⊥
other_form form = let vars = ap (λ (xs : List ℕ). length xs) form.vars in omega arith

pub other_shape : SameShape value join → ⊥
other_shape shape =
    let long = ap (λ (xs : List (List ℕ)). length xs) shape.events.names in omega arith

-- ---- priorities

pub two_shape : SameShape (two 2 1) (two 1 1)
two_shape = record {
  events = record { names = refl; words = refl; senders = refl; to_env = refl; receivers = refl };
  machines = record {
    names = refl;
    inputs = refl;
    outputs = refl;
    state_names = refl;
    state_words = refl;
    initial_values = refl;
  };
}

same_two : (name : List ℕ) (p q out : ℕ) (x y : Machine) → two_machine name p out ≡ x
    → two_machine name q out ≡ y → SameTable x y
same_two name p q out x y x_is y_is =
    subst (λ m. SameTable m y) x_is
    (subst (SameTable (two_machine name p out)) y_is
    (λ s o snapshot. (λ gives. gives, λ gives. gives)))

pub two_tables : SameTables (two 2 1) (two 1 1)
two_tables zero x y x_is y_is =
    same_two (codes "a") 2 1 1 x y
    (ap (λ (m : Option Machine). unwrap_or m x) x_is)
    (ap (λ (m : Option Machine). unwrap_or m y) y_is)
two_tables (suc zero) x y x_is y_is =
    same_two (codes "b") 1 1 2 x y
    (ap (λ (m : Option Machine). unwrap_or m x) x_is)
    (ap (λ (m : Option Machine). unwrap_or m y) y_is)
two_tables (suc (suc k)) x y x_is y_is = cc

-- the machine that reacts
reacting : Option Entry → ℕ
reacting None = 2
reacting (Some (Dep from to event code)) = 2
reacting (Some (Rea m s o)) = m

pub scheduled_apart : two_by_priority_run ≢ two_by_number_run
unfolding reacting
scheduled_apart same =
    let machine : ◌≡◌ {A = ℕ} 1 0 = ap (λ (es : List Entry). reacting (slice_get es 2)) same in
    omega arith

-- ---- what isn't answered

-- the code of the first variable, where a snapshot is answered
code_in : Compared → ℕ
code_in Same = 0
code_in Shape = 0
code_in (Differ s) = slice_index s.codes 0

other : (x : Compared) → (code_in x ≡ 6 → ⊥) → IsComparison value_machine six_machine x → ⊥
unfolding code_in
other x apart held =
    apart (ap code_in (one_comparison value_machine six_machine x (Differ (reading (6 ∷ [])))
    value_sure six_sure held at_five))

pub not_same : IsComparison value_machine six_machine Same → ⊥
unfolding code_in
not_same = other Same (λ e. omega arith)

pub not_later : IsComparison value_machine six_machine (Differ (reading (7 ∷ []))) → ⊥
unfolding code_in
not_later = other (Differ (reading (7 ∷ []))) (λ e. omega arith)

pub not_earlier : IsComparison value_machine six_machine (Differ (reading (5 ∷ []))) → ⊥
unfolding code_in
not_earlier = other (Differ (reading (5 ∷ []))) (λ e. omega arith)

pub not_nowhere : IsNetComparison value six None → ⊥
not_nowhere same = not_same (value_form, same 0 value_machine six_machine refl refl)
