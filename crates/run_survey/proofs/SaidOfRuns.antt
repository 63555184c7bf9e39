-- What a monitor says of some runs and of those after them.
use Rattle.std.proofs.Common.{◌≡◌, ℕ, suc, ◌+◌, ◌<◌, ◌≤◌, ◌^◌, Bool, true, false, cond, ◌||◌, is_some, List, [], ◌∷◌, ◌++◌, length, count_by, filter_map, slice_get, Option, Some, None, option_map, IfSome, refl, sym, ap, subst, ◌∙◌, arith}
use Rattle.std.specs.List.{cons_option, list_any, position_or_len}
use Rattle.std.proofs.lemmas.List.{length-map, map-append}
use Rattle.std.proofs.lemmas.List.Sums.{count_by-le-length, sum_by-append}
use Rattle.polis_base.specs.Lists.{head_of}
use Rattle.transition_table.specs.declared.network.Network.{Network}
use Rattle.journals.specs.declared.entry.Entry.{Entry}
use Rattle.journals.specs.declared.entry.TraceItem.{TraceItem}
use Rattle.run_shuffle.specs.declared.order.Order.{Order}
use Rattle.run_watch.specs.WatchLines.{IsShown}
use Rattle.run_watch.specs.declared.answer.Complaint.{Complaint}
use Rattle.run_watch.specs.declared.answer.Watched.{Watched}
use Rattle.run_watch.specs.declared.answer.Watched.TheVariants.{Held, Unfinished, Found}
use Rattle.run_survey.specs.declared.figures.Figures.{Figures}
use Rattle.run_survey.specs.declared.told.FoundRuns.{FoundRuns}
use Rattle.run_survey.specs.declared.told.Others.{Others}
use Rattle.run_survey.specs.declared.told.Survey.{Survey}
use Rattle.run_survey.specs.Runs.{AreFiguresFrom}
use Rattle.run_survey.specs.Surveys.{IsOfRuns, IsSurvey, said_of}
use Rattle.run_survey.specs.Watching.{IsSaid, as_found, complaint_in, found_runs, met, those, unfinished_in, unfinished_runs}
use Rattle.run_survey.specs.inner.Merging.{others_count}
use Rattle.run_survey.specs.inner.Watching.{found_count, found_joined, others_joined}
use Rattle.run_survey.proofs.Places.{count_none, position_in, position_out}

-- ---- those in which something is met

abbrev first_of : {Y : Type 0} → Option Y → Option Y → Option Y
first_of None other = other
first_of (Some y) other = Some y

abbrev met_count : {Y : Type 0} → Option (Others × Y) → ℕ
met_count None = 0
met_count (Some p) = p.0.count

abbrev met_with : {Y : Type 0} → Option (Others × Y) → Option (Others × Y) → Option (Others × Y)
met_with None next = next
met_with (Some p) next =
    Some (record { count = p.0.count + met_count next; seed = p.0.seed }, p.1)

module _ {X Y : Type 0} (look : X → Option Y) where
  met_any : (xs : List X)
      → list_any (λ x. is_some (look x)) xs ≡ is_some (head_of (filter_map look xs))
  met_any [] = refl
  met_any (x ∷ xs) = cases (look x) (met_any xs)
    where
      cases : (o : Option Y)
          → list_any (λ x. is_some (look x)) xs ≡ is_some (head_of (filter_map look xs))
          → (is_some o || list_any (λ x. is_some (look x)) xs)
          ≡ is_some (head_of (cons_option o (filter_map look xs)))
      cases None rest = rest
      cases (Some y) rest = refl

  head_joined : (xs ys : List X)
      → head_of (filter_map look (xs ++ ys))
      ≡ first_of (head_of (filter_map look xs)) (head_of (filter_map look ys))
  head_joined [] ys = refl
  head_joined (x ∷ xs) ys = cases (look x) (head_joined xs ys)
    where
      cases : (o : Option Y)
          → head_of (filter_map look (xs ++ ys))
          ≡ first_of (head_of (filter_map look xs)) (head_of (filter_map look ys))
          → head_of (cons_option o (filter_map look (xs ++ ys)))
          ≡ first_of (head_of (cons_option o (filter_map look xs)))
          (head_of (filter_map look ys))
      cases None rest = rest
      cases (Some y) rest = refl

  met_many : (first : ℕ) (xs : List X)
      → met_count (met look first xs) ≡ count_by (λ x. is_some (look x)) xs
  met_many first xs = cases (head_of (filter_map look xs)) (met_any xs)
    where
      cases : (h : Option Y) → list_any (λ x. is_some (look x)) xs ≡ is_some h
          → met_count (option_map (λ y. (those (λ x. is_some (look x)) first xs, y)) h)
          ≡ count_by (λ x. is_some (look x)) xs
      cases None none = sym (count_none (λ x. is_some (look x)) xs none)
      cases (Some y) some = refl

  met_joined : (first : ℕ) (xs ys : List X)
      → met look first (xs ++ ys)
      ≡ met_with (met look first xs) (met look (first + length xs) ys)
  met_joined first xs ys =
      ap (option_map (λ y. (those test first (xs ++ ys), y))) (head_joined xs ys)
      ∙ cases (head_of (filter_map look xs)) (met_any xs)
    where
      test : X → Bool
      test = λ x. is_some (look x)

      sum : count_by test (xs ++ ys) ≡ count_by test xs + count_by test ys
      sum = sum_by-append (λ (x : X). cond (is_some (look x)) 1 0) xs ys

      many : met_count (met look (first + length xs) ys) ≡ count_by test ys
      many = met_many (first + length xs) ys

      later : list_any test xs ≡ false → those test first (xs ++ ys)
          ≡ those test (first + length xs) ys
      later none =
          let count : count_by test (xs ++ ys) ≡ count_by test ys =
          (let zero_is = count_none test xs none in let all = sum in omega arith) in
          let place = position_out test xs ys none in
          let seed : first + position_or_len test (xs ++ ys)
          ≡ first + length xs + position_or_len test ys = omega arith in
          λ i. record { count = count i; seed = seed i }

      both : list_any test xs ≡ true → those test first (xs ++ ys)
          ≡ record {
            count = count_by test xs + met_count (met look (first + length xs) ys);
            seed = first + position_or_len test xs;
          }
      both some =
          let count : count_by test (xs ++ ys)
          ≡ count_by test xs + met_count (met look (first + length xs) ys) =
          sum ∙ ap (λ (n : ℕ). count_by test xs + n) (sym many) in
          let seed : first + position_or_len test (xs ++ ys) ≡ first + position_or_len test xs =
          ap (λ (n : ℕ). first + n) (position_in test xs ys some) in
          λ i. record { count = count i; seed = seed i }

      cases : (h : Option Y) → list_any test xs ≡ is_some h
          → option_map (λ y. (those test first (xs ++ ys), y))
          (first_of h (head_of (filter_map look ys)))
          ≡ met_with (option_map (λ y. (those test first xs, y)) h)
          (met look (first + length xs) ys)
      cases None none =
          ap (λ (o : Others). option_map (λ (y : Y). (o, y)) (head_of (filter_map look ys)))
          (later none)
      cases (Some y) some = ap (λ (o : Others). Some (o, y)) (both some)

-- ---- of all runs

found_of : (p q : Option (Others × Complaint))
    → option_map as_found (met_with p q)
    ≡ found_joined (option_map as_found p) (option_map as_found q)
found_of None q = refl
found_of (Some p) None = refl
found_of (Some p) (Some q) = refl

unfinished_of : (p q : Option (Others × Unit {0}))
    → option_map (λ (r : Others × Unit {0}). r.0) (met_with p q)
    ≡ others_joined (option_map (λ (r : Others × Unit {0}). r.0) p)
    (option_map (λ (r : Others × Unit {0}). r.0) q)
unfinished_of None q = refl
unfinished_of (Some p) None = refl
unfinished_of (Some p) (Some q) = refl

said_joined : (xs ys : List Figures) → said_of (xs ++ ys) ≡ said_of xs ++ said_of ys
said_joined xs ys = map-append (λ (f : Figures). f.watched) xs ys

said_long : (xs : List Figures) → length (said_of xs) ≡ length xs
said_long xs = length-map xs (λ (f : Figures). f.watched)

pub found_of_all : (first : ℕ) (xs ys : List Figures) (one next new : Option FoundRuns)
    → new ≡ found_joined one next → one ≡ found_runs first (said_of xs)
    → next ≡ found_runs (first + length xs) (said_of ys)
    → new ≡ found_runs first (said_of (xs ++ ys))
found_of_all first xs ys one next new is before after =
    is
    ∙ ap (λ (o : Option FoundRuns). found_joined o next) before
    ∙ ap (found_joined (found_runs first (said_of xs)))
    (after ∙ ap (λ (n : ℕ). found_runs (first + n) (said_of ys)) (sym (said_long xs)))
    ∙ sym (found_of (met complaint_in first (said_of xs))
    (met complaint_in (first + length (said_of xs)) (said_of ys)))
    ∙ ap (option_map as_found) (sym (met_joined complaint_in first (said_of xs) (said_of ys)))
    ∙ ap (found_runs first) (sym (said_joined xs ys))

pub unfinished_of_all : (first : ℕ) (xs ys : List Figures) (one next new : Option Others)
    → new ≡ others_joined one next → one ≡ unfinished_runs first (said_of xs)
    → next ≡ unfinished_runs (first + length xs) (said_of ys)
    → new ≡ unfinished_runs first (said_of (xs ++ ys))
unfinished_of_all first xs ys one next new is before after =
    is
    ∙ ap (λ (o : Option Others). others_joined o next) before
    ∙ ap (others_joined (unfinished_runs first (said_of xs)))
    (after ∙ ap (λ (n : ℕ). unfinished_runs (first + n) (said_of ys)) (sym (said_long xs)))
    ∙ sym (unfinished_of (met unfinished_in first (said_of xs))
    (met unfinished_in (first + length (said_of xs)) (said_of ys)))
    ∙ ap (option_map (λ (r : Others × Unit {0}). r.0))
    (sym (met_joined unfinished_in first (said_of xs) (said_of ys)))
    ∙ ap (unfinished_runs first) (sym (said_joined xs ys))

-- ---- no number is above that of the runs

found_below : (s : Survey) → IsOfRuns s → found_count s.found ≤ s.runs
found_below s of =
    let is = of.1 in
    let said = said_of of.0 in
    let many = ap found_count is.found ∙ counted (met complaint_in s.seed said)
    ∙ met_many complaint_in s.seed said in
    let most = count_by-le-length (λ (w : Option Watched). is_some (complaint_in w)) said in
    let size = said_long of.0 in
    let runs = is.runs in
    omega arith
  where
    counted : (p : Option (Others × Complaint))
        → found_count (option_map as_found p) ≡ met_count p
    counted None = refl
    counted (Some p) = refl

unfinished_below : (s : Survey) → IsOfRuns s → others_count s.unfinished ≤ s.runs
unfinished_below s of =
    let is = of.1 in
    let said = said_of of.0 in
    let many = ap others_count is.unfinished ∙ counted (met unfinished_in s.seed said)
    ∙ met_many unfinished_in s.seed said in
    let most = count_by-le-length (λ (w : Option Watched). is_some (unfinished_in w)) said in
    let size = said_long of.0 in
    let runs = is.runs in
    omega arith
  where
    counted : (p : Option (Others × Unit {0}))
        → others_count (option_map (λ (r : Others × Unit {0}). r.0) p) ≡ met_count p
    counted None = refl
    counted (Some p) = refl

module _ (one next : Survey) (of : IsOfRuns one) (of_next : IsOfRuns next)
    (room : one.runs + next.runs < 2 ^ 64) where
  pub found_room : found_count one.found + found_count next.found < 2 ^ 64
  found_room =
      let low = found_below one of in
      let high = found_below next of_next in
      omega arith

  pub unfinished_room : others_count one.unfinished + others_count next.unfinished < 2 ^ 64
  unfinished_room =
      let low = unfinished_below one of in
      let high = unfinished_below next of_next in
      omega arith

-- ---- a complaint is an event of the monitor

first_shown : (m : Network) (figures : List Figures)
    → ((k : ℕ) (f : Figures) → slice_get figures k ≡ Some f
    → IfSome (complaint_in f.watched) (λ c. IsShown m (Found c)))
    → IfSome (head_of (filter_map complaint_in (said_of figures))) (λ c. IsShown m (Found c))
first_shown m [] each = tt
first_shown m (f ∷ figures) each =
    cases (complaint_in f.watched) (each 0 f refl)
    (first_shown m figures (λ k g at. each (suc k) g at))
  where
    cases : (o : Option Complaint) → IfSome o (λ c. IsShown m (Found c))
        → IfSome (head_of (filter_map complaint_in (said_of figures))) (λ c. IsShown m (Found c))
        → IfSome (head_of (cons_option o (filter_map complaint_in (said_of figures))))
        (λ c. IsShown m (Found c))
    cases None here more = more
    cases (Some c) here more = here

said_shown : (net m : Network) (journal : List Entry) (w : Option Watched)
    → IsSaid net (Some m) journal w → IfSome (complaint_in w) (λ c. IsShown m (Found c))
said_shown net m journal None said = tt
said_shown net m journal (Some Held) said = tt
said_shown net m journal (Some Unfinished) said = tt
said_shown net m journal (Some (Found c)) said = said.1

pub shown_found : (net : Network) (monitor : Option Network) (trace : List TraceItem)
    (order : Order) (limit seed runs : ℕ) (figures : List Figures) (s : Survey)
    → AreFiguresFrom net monitor trace order limit seed runs figures → IsSurvey seed figures s
    → IfSome monitor (λ m. IfSome s.found (λ f. IsShown m (Found f.complaint)))
shown_found net None trace order limit seed runs figures s drawn told = tt
shown_found net (Some m) trace order limit seed runs figures s drawn told =
    subst (λ (o : Option FoundRuns). IfSome o (λ f. IsShown m (Found f.complaint)))
    (sym told.found)
    (cases (head_of (filter_map complaint_in (said_of figures)))
    (first_shown m figures (λ k f at.
    let one = drawn.each k f at in said_shown net m one.journal f.watched one.said)))
  where
    cases : (h : Option Complaint) → IfSome h (λ c. IsShown m (Found c))
        → IfSome
        (option_map as_found
        (option_map
        (λ c. (those (λ w. is_some (complaint_in w)) seed (said_of figures), c)) h))
        (λ f. IsShown m (Found f.complaint))
    cases None shown = tt
    cases (Some c) shown = shown
