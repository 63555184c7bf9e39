-- The least snapshot on which two machines differ, by the tables of their outcomes.
use Rattle.std.proofs.Common.{◌≡◌, ⊎_elim, ℕ, List, [], length, get_or, slice_get, Option, None, Some, sym, ap, ◌∙◌, subst, arith}
use Rattle.std.proofs.lemmas.Bool.{cases_lt}
use Rattle.std.proofs.lemmas.List.{length-map, get_or-map}
use Rattle.std.proofs.lemmas.Option.{get_or_from_slice_get, slice_get_within}
use Rattle.domains.specs.AllCodes.{all_codes}
use Rattle.domains.specs.Tables.{rank}
use Rattle.transition_table.specs.Computed.{result_codes}
use Rattle.transition_table.specs.Transitions.{IsDeterministic}
use Rattle.transition_table.specs.declared.machine.Machine.{Machine}
use Rattle.transition_table.specs.declared.snapshot.Snapshot.{Snapshot}
use Rattle.outcome_table.specs.Outcomes.{AreResultsOf, named}
use Rattle.outcome_table.specs.declared.table.Results.{Results}
use Rattle.domains.proofs.AllCodes.{stands_at_rank, stands_once}
use Rattle.machine_equiv.specs.Comparing.{SameTable, IsLeastDifference}
use Rattle.machine_equiv.specs.Shapes.{SameForm}
use Rattle.machine_equiv.specs.inner.FirstOthers.{IsFirstOther, IsFirstOtherIn, IsPlaceOfDifference}
use Rattle.machine_equiv.proofs.DifferOn.{codes_differ, differ_on, same_on}
use Rattle.machine_equiv.proofs.AreEqualOnes.{long_named}

-- the outcome under the number of a snapshot has the codes of the results on it
codes_under : (m : Machine) (t : Results) (k : ℕ) (codes : List ℕ) → AreResultsOf m t
    → slice_get (all_codes m.vars) k ≡ Some codes
    → get_or (named t.outcomes t.numbers) k [] ≡ result_codes m codes
codes_under m t k codes tabled is =
    ap (λ (xs : List (List ℕ)). get_or xs k []) tabled.results
    ∙ get_or-map (result_codes m) (all_codes m.vars) k [] []
    (slice_get_within (all_codes m.vars) k codes is)
    ∙ ap (result_codes m) (get_or_from_slice_get (all_codes m.vars) k codes [] is)

pub numbers_long : (m : Machine) (t : Results) → AreResultsOf m t
    → length t.numbers ≡ length (all_codes m.vars)
numbers_long m t tabled =
    sym (long_named t.outcomes t.numbers)
    ∙ ap (λ (xs : List (List ℕ)). length xs) tabled.results
    ∙ length-map (all_codes m.vars) (result_codes m)

module _ (a b : Machine) (form : SameForm a b) (a_sure : IsDeterministic a)
    (b_sure : IsDeterministic b) (t u : Results) (a_tabled : AreResultsOf a t)
    (b_tabled : AreResultsOf b u) where
  there_too : (k : ℕ) (codes : List ℕ) → slice_get (all_codes a.vars) k ≡ Some codes
      → slice_get (all_codes b.vars) k ≡ Some codes
  there_too k codes is =
      subst (λ (vars : List ℕ). slice_get (all_codes vars) k ≡ Some codes) form.vars is

  same_codes : (k : ℕ) (codes : List ℕ) → slice_get (all_codes a.vars) k ≡ Some codes
      → get_or (named t.outcomes t.numbers) k [] ≡ get_or (named u.outcomes u.numbers) k []
      → result_codes a codes ≡ result_codes b codes
  same_codes k codes is same =
      sym (codes_under a t k codes a_tabled is)
      ∙ same
      ∙ codes_under b u k codes b_tabled (there_too k codes is)

  pub same_table : named t.outcomes t.numbers ≡ named u.outcomes u.numbers → SameTable a b
  same_table same s o snapshot =
      same_on a b form a_sure b_sure s.codes o snapshot
      (same_codes (rank a.vars s.codes) s.codes (stands_at_rank a.vars s.codes snapshot)
      (ap (λ (xs : List (List ℕ)). get_or xs (rank a.vars s.codes) []) same))

  pub least_difference : (i : ℕ) (s : Snapshot)
      → IsFirstOther (named t.outcomes t.numbers) (named u.outcomes u.numbers) i
      → slice_get (all_codes a.vars) i ≡ Some s.codes → IsLeastDifference a b s
  least_difference i s first is =
      let once = stands_once a.vars s.codes i is in
      record {
        fit = once.0;
        holds = differ_on a b form a_sure b_sure s.codes once.0
            (λ same. first.differ (codes_under a t i s.codes a_tabled is ∙ same
            ∙ sym (codes_under b u i s.codes b_tabled (there_too i s.codes is))));
        least = λ other fit found.
            ⊎_elim
            (λ less. absurd (codes_differ a b form a_sure b_sure other found
            (same_codes (rank a.vars other) other (stands_at_rank a.vars other fit)
            (first.before (rank a.vars other) (let at = once.1 in omega arith)))))
            (λ more. more)
            (cases_lt (rank a.vars other) (rank a.vars s.codes));
      }

  pub place_is : (found : Option ℕ)
      → IsFirstOtherIn (named t.outcomes t.numbers) (named u.outcomes u.numbers) found
      → IsPlaceOfDifference a b found
  place_is None same = same_table same
  place_is (Some i) first =
      let low = first.low in
      let long = long_named t.outcomes t.numbers in
      let many = numbers_long a t a_tabled in
      (omega arith, (λ s is. least_difference i s first is))
