-- The scores of code are what its snapshots take.
use Rattle.std.proofs.Common.{◌≡◌, ℕ, zero, suc, ◌+◌, ◌*◌, ◌<◌, ◌≤◌, true, false, List, [], ◌∷◌, ◌++◌, length, slice_get, slice_index, slice_set, Some, refl, ap, sym, ◌∙◌, arith, length-set}
use Rattle.std.proofs.lemmas.Bool.{true≢false}
use Rattle.std.proofs.lemmas.List.{get_or-set_same, get_or-set_other}
use Rattle.std.proofs.lemmas.List.Elements.{Contains-get_or}
use Rattle.std.proofs.lemmas.Option.{slice_get-get_or}
use Rattle.domains.specs.Tables.{fits}
use Rattle.domains.proofs.Ranks.{length_fits}
use Rattle.transition_table.specs.NetworkFacts.{has}
use Rattle.transition_table.specs.declared.machine.Machine.{Machine}
use Rattle.transition_table.proofs.Ranges.{below_size}
use Rattle.task_code.specs.declared.instr.Instr.{Instr}
use Rattle.task_code.specs.declared.instr.Instr.TheVariants.{Test, Set, Goto, Halt}
use Rattle.task_code.specs.Codes.{goes_to}
use Rattle.task_code.specs.Facts.{IsCode}
use Rattle.task_machine.specs.Running.{CodeFits}
use Rattle.cost_bound.specs.declared.aim.Aim.{Aim}
use Rattle.cost_bound.specs.declared.aim.Aim.TheVariants.{Most, Least}
use Rattle.cost_bound.specs.declared.costs.Costs.{Costs}
use Rattle.cost_bound.specs.declared.score.Score.{Score}
use Rattle.cost_bound.specs.Costs.{cost_of}
use Rattle.cost_bound.specs.inner.Scores.{AtLeast, score_of, IsScore, AreScores}
use Rattle.cost_bound.proofs.TailCosts.{tail_cost, tail_none, tail_at, tail_to, instr_at, may_go_on}
use Rattle.cost_bound.proofs.WeightedSums.{dot, dot_set}
use Rattle.cost_bound.proofs.UntestedVariables.{Fresh, fresh_next, tests_new, not_in_more}
use Rattle.domains.proofs.FittingCodes.{fits_set}
use Rattle.transition_table.proofs.MachineCounts.{has_before, has_last}

-- ---- codes that fit

-- ---- better scores
-- more cost before both, and going on by a code
after_test : (aim : Aim) (own a an b bn e en q : ℕ) → AtLeast aim a an b (q + bn)
    → AtLeast aim b bn e en → AtLeast aim (own + a) an (own + e) (q + en)
after_test Most own a an b bn e en q (p, f) (r, g) =
    (omega arith, λ same. let x = f (omega arith) in let y = g (omega arith) in omega arith)
after_test Least own a an b bn e en q (p, f) (r, g) =
    (omega arith, λ same. let x = f (omega arith) in let y = g (omega arith) in omega arith)

after_other : (aim : Aim) (own b bn e en : ℕ) → AtLeast aim b bn e en
    → AtLeast aim (own + b) bn (own + e) en
after_other Most own b bn e en (r, g) = (omega arith, λ same. g (omega arith))
after_other Least own b bn e en (r, g) = (omega arith, λ same. g (omega arith))

same_cost : (aim : Aim) (a en : ℕ) → AtLeast aim a 0 a en
same_cost Most a en = (omega arith, λ same. omega arith)
same_cost Least a en = (omega arith, λ same. omega arith)

module _ (aim : Aim) (costs : Costs) (ws : List ℕ) (c : List Instr) (scores : List Score)
    (m : Machine) (ok : IsCode c) (fit : CodeFits m c)
    (are : AreScores aim costs ws c scores) where
  -- ---- some snapshot takes the score
  -- codes that agree with these on the variables that were tested, and from place i on take the
  -- score, where the rest of these codes is 0
  pub record Attained (seen s : List ℕ) (i : ℕ) : Type 0 where
    pub codes : List ℕ
    pub fit_vars : fits m.vars codes ≡ true
    pub same : (v : ℕ) → has seen v ≡ true → slice_index codes v ≡ slice_index s v
    pub cost_is : tail_cost costs c codes (Some i) ≡ (score_of scores i).cost
    pub number_is : dot ws codes ≡ dot ws s + (score_of scores i).number

  abbrev Zero : List ℕ → List ℕ → Type 0
  Zero seen s = (v : ℕ) → has seen v ≡ false → slice_index s v ≡ 0

  passes : (seen s : List ℕ) (i j : ℕ) (x : Instr) (score : IsScore aim costs ws scores i x
      (score_of scores i)) → slice_get c i ≡ Some x → i < j
      → ((t : List ℕ) → goes_to t i x ≡ Some j) → score.ahead ≡ score_of scores j
      → Attained seen s j → Attained seen s i
  passes seen s i j x score is later goes same got =
      let cost : score.ahead.cost ≡ (score_of scores j).cost = ap (λ (r : Score). r.cost) same in
      let number : score.ahead.number ≡ (score_of scores j).number =
      ap (λ (r : Score). r.number) same in
      let tail = tail_to costs c got.codes i j x is (goes got.codes) later in
      record {
        codes = got.codes;
        fit_vars = got.fit_vars;
        same = got.same;
        cost_is = omega (arith, score.cost_is, got.cost_is);
        number_is = omega (arith, score.number_is, got.number_is);
      }

  attained_at : (seen s : List ℕ) (i : ℕ) (x : Instr) → slice_get c i ≡ Some x
      → IsScore aim costs ws scores i x (score_of scores i) → Fresh c seen i
      → fits m.vars s ≡ true → Zero seen s
      → ((j : ℕ) (more t : List ℕ) → i < j → j < length c → Fresh c more j
      → fits m.vars t ≡ true → Zero more t → Attained more t j)
      → Attained seen s i
  attained_at seen s i (Test var targets) is score fresh fs zeros rest =
      let test = fit.tests i var targets is in
      let var_low : var < length m.vars = test.0 in
      let count : length targets ≡ slice_index m.vars var = test.1 in
      let best = score.best in
      let j : ℕ = best.code in
      let low : j < length targets = best.low in
      let next : ℕ = slice_index targets j in
      let may = may_go_on c i (Test var targets) ok is in
      let to = may.1 j low in
      let new = tests_new c seen i var targets is fresh in
      let long = length_fits m.vars s fs in
      let var_in : var < length s = omega arith in
      let s1 : List ℕ = slice_set s var j in
      let fs1 : fits m.vars s1 ≡ true = fits_set m.vars s var j fs (omega arith) in
      let zero1 : Zero (seen ++ var ∷ []) s1 =
      λ v out. let apart = not_in_more seen var v out in
      get_or-set_other s var v j 0 (λ e. apart.1 (sym e)) ∙ zeros v apart.0 in
      let fresh1 = fresh_next c seen i next (Test var targets) is fresh
      (Contains-get_or targets j 0 low) in
      let got = rest next (seen ++ var ∷ []) s1 to.0 to.1 fresh1 fs1 zero1 in
      let own : slice_index got.codes var ≡ j =
      got.same var (has_last seen var) ∙ get_or-set_same s var j 0 var_in in
      let goes : goes_to got.codes i (Test var targets) ≡ Some next =
      ap (slice_get targets) own ∙ slice_get-get_or targets j 0 low in
      let tail = tail_to costs c got.codes i next (Test var targets) is goes to.0 in
      let was : slice_index s var ≡ 0 = zeros var new in
      let dots = dot_set ws s var j var_in in
      let none : slice_index s var * slice_index ws var ≡ 0 =
      ap (λ (n : ℕ). n * slice_index ws var) was ∙ omega arith in
      record {
        codes = got.codes;
        fit_vars = got.fit_vars;
        same = λ v inside. got.same v (has_before seen var v inside)
            ∙ get_or-set_other s var v j 0
            (λ e. true≢false (sym inside ∙ ap (has seen) e ∙ new));
        cost_is = omega (arith, score.cost_is, best.cost_is, got.cost_is);
        number_is = omega (arith, score.number_is, best.number_is, got.number_is);
      }
  attained_at seen s i (Set result code) is score fresh fs zeros rest =
      let may = may_go_on c i (Set result code) ok is in
      passes seen s i (suc i) (Set result code) score is (omega arith) (λ t. refl) score.best
      (rest (suc i) seen s (omega arith) (omega arith)
      (fresh_next c seen i (suc i) (Set result code) is fresh
      (Contains-get_or (suc i ∷ []) 0 0 (omega arith))) fs zeros)
  attained_at seen s i (Goto target) is score fresh fs zeros rest =
      let may = may_go_on c i (Goto target) ok is in
      passes seen s i target (Goto target) score is may.0 (λ t. refl) score.best
      (rest target seen s may.0 may.1
      (fresh_next c seen i target (Goto target) is fresh
      (Contains-get_or (target ∷ []) 0 0 (omega arith))) fs zeros)
  attained_at seen s i Halt is score fresh fs zeros rest =
      let cost : score.ahead.cost ≡ 0 = ap (λ (r : Score). r.cost) score.best in
      let number : score.ahead.number ≡ 0 = ap (λ (r : Score). r.number) score.best in
      let tail = tail_at costs c s i Halt is tt in
      record {
        codes = s;
        fit_vars = fs;
        same = λ v inside. refl;
        cost_is = omega (arith, score.cost_is, tail_none costs c s);
        number_is = omega (arith, score.number_is);
      }

  pub attained : (d : ℕ) (seen s : List ℕ) (i : ℕ) → length c ≤ i + d → i < length c
      → Fresh c seen i → fits m.vars s ≡ true → Zero seen s → Attained seen s i
  attained zero seen s i deep low fresh fs zeros = absurd (omega arith)
  attained (suc d) seen s i deep low fresh fs zeros =
      let at = instr_at c i low in
      attained_at seen s i at.0 at.1 (are.each i at.0 at.1) fresh fs zeros
      (λ j more t later within. attained d more t j (omega arith) within)

  -- ---- no snapshot takes a better one
  abbrev Agrees : List ℕ → List ℕ → List ℕ → Type 0
  Agrees seen s r = (v : ℕ) → has seen v ≡ false → slice_index r v ≡ slice_index s v

  abbrev Bounded : List ℕ → List ℕ → ℕ → Type 0
  Bounded s r i = AtLeast aim (score_of scores i).cost (score_of scores i).number
      (tail_cost costs c s (Some i)) (dot ws r)

  bounded_on : (s r : List ℕ) (i j : ℕ) (x : Instr) (score : IsScore aim costs ws scores i x
      (score_of scores i)) → slice_get c i ≡ Some x → i < j
      → goes_to s i x ≡ Some j → score.ahead ≡ score_of scores j
      → Bounded s r j → Bounded s r i
  bounded_on s r i j x score is later goes same bound =
      let cost : score.ahead.cost ≡ (score_of scores j).cost = ap (λ (r : Score). r.cost) same in
      let number : score.ahead.number ≡ (score_of scores j).number =
      ap (λ (r : Score). r.number) same in
      let tail = tail_to costs c s i j x is goes later in
      with_equal (cost_of costs x) (score_of scores i).cost (score_of scores j).cost
      (score_of scores i).number (score_of scores j).number
      (tail_cost costs c s (Some i)) (tail_cost costs c s (Some j))
      (score.cost_is ∙ ap (λ (n : ℕ). cost_of costs x + n) cost) (score.number_is ∙ number) tail
      bound
    where
      with_equal : (own a b an bn e f : ℕ) → a ≡ own + b → an ≡ bn → e ≡ own + f
          → AtLeast aim b bn f (dot ws r) → AtLeast aim a an e (dot ws r)
      with_equal own a b an bn e f p q u h =
          rw (p, q, u) (after_other aim own b bn f (dot ws r) h)

  bounded_at : (seen s r : List ℕ) (i : ℕ) (x : Instr) → slice_get c i ≡ Some x
      → IsScore aim costs ws scores i x (score_of scores i) → Fresh c seen i
      → fits m.vars s ≡ true → length r ≡ length s → Agrees seen s r
      → ((j : ℕ) (more t : List ℕ) → i < j → j < length c → Fresh c more j
      → length t ≡ length s → Agrees more s t → Bounded s t j)
      → Bounded s r i
  bounded_at seen s r i (Test var targets) is score fresh fs long agrees rest =
      let test = fit.tests i var targets is in
      let var_low : var < length m.vars = test.0 in
      let count : length targets ≡ slice_index m.vars var = test.1 in
      let best = score.best in
      let j : ℕ = slice_index s var in
      let low_var = below_size m.vars s var fs var_low in
      let low : j < length targets = omega arith in
      let next : ℕ = slice_index targets j in
      let may = may_go_on c i (Test var targets) ok is in
      let to = may.1 j low in
      let new = tests_new c seen i var targets is fresh in
      let long_s = length_fits m.vars s fs in
      let var_in : var < length r = omega arith in
      let r1 : List ℕ = slice_set r var 0 in
      let agrees1 : Agrees (seen ++ var ∷ []) s r1 =
      λ v out. let apart = not_in_more seen var v out in
      get_or-set_other r var v 0 0 (λ e. apart.1 (sym e)) ∙ agrees v apart.0 in
      let fresh1 = fresh_next c seen i next (Test var targets) is fresh
      (Contains-get_or targets j 0 low) in
      let bound = rest next (seen ++ var ∷ []) r1 to.0 to.1 fresh1
      (length-set r var 0 ∙ long) agrees1 in
      let goes : goes_to s i (Test var targets) ≡ Some next = slice_get-get_or targets j 0 low in
      let tail = tail_to costs c s i next (Test var targets) is goes to.0 in
      let dots = dot_set ws r var 0 var_in in
      let was : slice_index r var * slice_index ws var ≡ j * slice_index ws var =
      ap (λ (n : ℕ). n * slice_index ws var) (agrees var new) in
      let whole : dot ws r ≡ j * slice_index ws var + dot ws r1 = omega arith in
      with_equal (cost_of costs (Test var targets)) (score_of scores i).cost score.ahead.cost
      (score_of scores i).number score.ahead.number
      (tail_cost costs c s (Some i)) (tail_cost costs c s (Some next))
      (dot ws r) (j * slice_index ws var) (dot ws r1) (score_of scores next)
      score.cost_is score.number_is tail whole (best.none j low) bound
    where
      with_equal : (own a b an bn e f en q fn : ℕ) (score : Score) → a ≡ own + b → an ≡ bn
          → e ≡ own + f → en ≡ q + fn → AtLeast aim b bn score.cost (q + score.number)
          → AtLeast aim score.cost score.number f fn → AtLeast aim a an e en
      with_equal own a b an bn e f en q fn score p o u t h g =
          rw (p, o, u, t) (after_test aim own b bn score.cost score.number f fn q h g)
  bounded_at seen s r i (Set result code) is score fresh fs long agrees rest =
      let may = may_go_on c i (Set result code) ok is in
      bounded_on s r i (suc i) (Set result code) score is (omega arith) refl score.best
      (rest (suc i) seen r (omega arith) (omega arith)
      (fresh_next c seen i (suc i) (Set result code) is fresh
      (Contains-get_or (suc i ∷ []) 0 0 (omega arith))) long agrees)
  bounded_at seen s r i (Goto target) is score fresh fs long agrees rest =
      let may = may_go_on c i (Goto target) ok is in
      bounded_on s r i target (Goto target) score is may.0 refl score.best
      (rest target seen r may.0 may.1
      (fresh_next c seen i target (Goto target) is fresh
      (Contains-get_or (target ∷ []) 0 0 (omega arith))) long agrees)
  bounded_at seen s r i Halt is score fresh fs long agrees rest =
      let cost : score.ahead.cost ≡ 0 = ap (λ (r : Score). r.cost) score.best in
      let number : score.ahead.number ≡ 0 = ap (λ (r : Score). r.number) score.best in
      let tail = tail_at costs c s i Halt is tt in
      let same : tail_cost costs c s (Some i) ≡ (score_of scores i).cost =
      omega (arith, score.cost_is, tail_none costs c s) in
      with_equal (score_of scores i).cost (score_of scores i).number
      (tail_cost costs c s (Some i)) same (score.number_is ∙ number)
    where
      with_equal : (a an e : ℕ) → e ≡ a → an ≡ 0 → AtLeast aim a an e (dot ws r)
      with_equal a an e p q = rw (p, q) (same_cost aim a (dot ws r))

  pub bounded : (d : ℕ) (seen s r : List ℕ) (i : ℕ) → length c ≤ i + d → i < length c
      → Fresh c seen i → fits m.vars s ≡ true → length r ≡ length s → Agrees seen s r
      → Bounded s r i
  bounded zero seen s r i deep low fresh fs long agrees = absurd (omega arith)
  bounded (suc d) seen s r i deep low fresh fs long agrees =
      let at = instr_at c i low in
      bounded_at seen s r i at.0 at.1 (are.each i at.0 at.1) fresh fs long agrees
      (λ j more t later within next. bounded d more s t j (omega arith) within next fs)
