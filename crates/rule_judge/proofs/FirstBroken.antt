-- The first rule that is broken stands among the first rules, or else among those after them.
use Rattle.std.proofs.Common.{◌≡◌, ℕ, zero, suc, List, [], ◌∷◌, take, drop, Option, Some, None, is_some, ap, sym, true≢false, refl}
use Rattle.net_reader.specs.declared.raw.RawNet.{RawNet}
use Rattle.rule_judge.specs.declared.verdict.Broken.{Broken}
use Rattle.rule_judge.specs.Declarations.{declaration_rules}
use Rattle.rule_judge.specs.Judged.{Rule, rules, machine_rules, broken_at, first_broken, broken}
use Rattle.net_names.specs.Places.{least_place}

among_first : (n : ℕ) (rs : List Rule) (b : Broken) → first_broken (take n rs) ≡ Some b
    → first_broken rs ≡ Some b
among_first zero rs b h = absurd (true≢false (sym (ap is_some h)))
among_first (suc n) [] b h = absurd (true≢false (sym (ap is_some h)))
among_first (suc n) (r ∷ rs) b h = by (least_place r.1) h (among_first n rs b)
  where
    by : (o : Option ℕ) → broken_at r.0 o (first_broken (take n rs)) ≡ Some b
        → (first_broken (take n rs) ≡ Some b → first_broken rs ≡ Some b)
        → broken_at r.0 o (first_broken rs) ≡ Some b
    by None h rest = rest h
    by (Some p) h rest = h

after_first : (n : ℕ) (rs : List Rule) → first_broken (take n rs) ≡ None
    → first_broken rs ≡ first_broken (drop n rs)
after_first zero rs none = refl
after_first (suc n) [] none = refl
after_first (suc n) (r ∷ rs) none = by (least_place r.1) none (after_first n rs)
  where
    by : (o : Option ℕ) → broken_at r.0 o (first_broken (take n rs)) ≡ None
        → (first_broken (take n rs) ≡ None → first_broken rs ≡ first_broken (drop n rs))
        → broken_at r.0 o (first_broken rs) ≡ first_broken (drop n rs)
    by None h rest = rest h
    by (Some p) h rest = absurd (true≢false (ap is_some h))

-- a rule on declarations that is broken is the first of all
pub declaration_broken : (net : RawNet) (b : Broken)
    → first_broken (declaration_rules net) ≡ Some b → broken net ≡ Some b
declaration_broken net b h = among_first 13 (rules net) b h

-- where none is, the first of all is one on machines
pub declarations_kept : (net : RawNet) → first_broken (declaration_rules net) ≡ None
    → broken net ≡ first_broken (machine_rules net)
declarations_kept net none = after_first 13 (rules net) none
