-- A comparison has one answer.
use Rattle.std.proofs.Common.{◌≡◌, ◌⊎◌, ⊎_elim, inl, inr, ℕ, true, List, slice_get, Some, None, refl, sym, ap, ◌∙◌, subst, arith}
use Rattle.std.proofs.lemmas.Bool.{cases_lt}
use Rattle.domains.specs.Tables.{fits}
use Rattle.transition_table.specs.Computed.{result_codes}
use Rattle.transition_table.specs.Transitions.{reading, IsDeterministic, AreDeterministic}
use Rattle.transition_table.specs.declared.machine.Machine.{Machine}
use Rattle.transition_table.specs.declared.network.Network.{Network}
use Rattle.transition_table.specs.declared.snapshot.Snapshot.{Snapshot}
use Rattle.domains.proofs.IsLeast.{one_least}
use Rattle.transition_table.proofs.Computed.{only_by_rows}
use Rattle.machine_equiv.specs.declared.machines.Compared.TheVariants.{Same, Shape, Differ}
use Rattle.machine_equiv.specs.declared.nets.Differing.{Differing}
use Rattle.machine_equiv.specs.Comparing.{SameTable, DifferOn, IsLeastDifference, SameTableAt, IsFirstDiffering}
use Rattle.machine_equiv.specs.Laws.{SameShapeSameForms, NoDifference, OneComparison, OneNetComparison}
use Rattle.machine_equiv.specs.Shapes.{SameShape, SameForm}
use Rattle.machine_equiv.proofs.DifferOn.{differ_on, same_on}
use Rattle.machine_equiv.proofs.SameForm.{form_same}
use Rattle.polis_base.proofs.Places.{same_or_not}

pub same_forms : SameShapeSameForms
same_forms a b k x y shape x_is y_is = form_same a b shape k x y x_is y_is

-- tables that say the same differ nowhere
no_other : (a b : Machine) (s : Snapshot) → SameForm a b → IsDeterministic b → SameTable a b
    → DifferOn a b s → ⊥
no_other a b s form b_sure same found =
    let fit : fits b.vars s.codes ≡ true =
    subst (λ (vars : List ℕ). fits vars s.codes ≡ true) form.vars found.snapshot in
    found.differ
    (only_by_rows b s.codes found.first b_sure fit
    ((same s found.first found.snapshot).0 found.gives_first)
    ∙ sym (only_by_rows b s.codes found.second b_sure fit found.gives_second))

pub no_difference : NoDifference
no_difference a b form a_sure b_sure = (
  λ same s found. no_other a b s form b_sure same found,
  λ none s o snapshot. elim (same_or_not (result_codes a s.codes) (result_codes b s.codes)) [
    | inl same ↦ same_on a b form a_sure b_sure s.codes o snapshot same
    | inr differ ↦ absurd
        (none s (differ_on a b form a_sure b_sure s.codes snapshot differ))
  ],
)

-- there is one least snapshot
one_snapshot : (a b : Machine) (s t : Snapshot) → IsLeastDifference a b s
    → IsLeastDifference a b t → s ≡ t
one_snapshot a b s t first second =
    let codes : s.codes ≡ t.codes =
    one_least a.vars (λ codes. DifferOn a b (reading codes)) s.codes t.codes first second in
    λ i. record { codes = codes i }

pub one_comparison : OneComparison
one_comparison a b Same Same a_sure b_sure first second = refl
one_comparison a b Same Shape a_sure b_sure first second = absurd (second first.0)
one_comparison a b Same (Differ t) a_sure b_sure first second =
    absurd (no_other a b t first.0 b_sure first.1 second.1.holds)
one_comparison a b Shape Same a_sure b_sure first second = absurd (first second.0)
one_comparison a b Shape Shape a_sure b_sure first second = refl
one_comparison a b Shape (Differ t) a_sure b_sure first second = absurd (first second.0)
one_comparison a b (Differ s) Same a_sure b_sure first second =
    absurd (no_other a b s second.0 b_sure second.1 first.1.holds)
one_comparison a b (Differ s) Shape a_sure b_sure first second = absurd (second first.0)
one_comparison a b (Differ s) (Differ t) a_sure b_sure first second =
    ap (λ u. Differ u) (one_snapshot a b s t first.1 second.1)

-- the tables of the machine that is found aren't the same
not_same : (a b : Network) (found : Differing) → SameShape a b → AreDeterministic b
    → IsFirstDiffering a b found → SameTableAt a b found.machine → ⊥
not_same a b found shape b_sure first same =
    no_other first.one first.other found.snapshot
    (form_same a b shape found.machine first.one first.other first.one_is first.other_is)
    (b_sure found.machine first.other first.other_is)
    (same first.one first.other first.one_is first.other_is) first.least.holds

one_first : (a b : Network) (x y : Differing) → x.machine ≡ y.machine
    → IsFirstDiffering a b x → IsFirstDiffering a b y → x ≡ y
one_first a b x y at first second =
    let one : first.one ≡ second.one = let e = first.one_is in let f = second.one_is in
    let g = ap (slice_get a.machines) at in cc in
    let other : first.other ≡ second.other = let e = first.other_is in
    let f = second.other_is in let g = ap (slice_get b.machines) at in cc in
    let snapshot : x.snapshot ≡ y.snapshot =
    one_snapshot second.one second.other x.snapshot y.snapshot
    (subst (λ m. IsLeastDifference m second.other x.snapshot) one
    (subst (λ m. IsLeastDifference first.one m x.snapshot) other first.least))
    second.least in
    λ i. record { machine = at i; snapshot = snapshot i }

pub one_net_comparison : OneNetComparison
one_net_comparison a b None None shape a_sure b_sure first second = refl
one_net_comparison a b None (Some y) shape a_sure b_sure first second =
    absurd (not_same a b y shape b_sure second (first y.machine))
one_net_comparison a b (Some x) None shape a_sure b_sure first second =
    absurd (not_same a b x shape b_sure first (second x.machine))
one_net_comparison a b (Some x) (Some y) shape a_sure b_sure first second =
    ⊎_elim
    (λ less. absurd (not_same a b x shape b_sure first (second.before x.machine less)))
    (λ more.
    ⊎_elim
    (λ less. absurd (not_same a b y shape b_sure second (first.before y.machine less)))
    (λ same. ap (λ z. Some z) (one_first a b x y (omega arith) first second))
    (cases_lt y.machine x.machine))
    (cases_lt x.machine y.machine)
