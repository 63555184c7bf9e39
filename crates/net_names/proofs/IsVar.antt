-- Variables by the numbers of their names.
use Rattle.std.proofs.Common.{◌≡◌, ◌∙◌, ◌<◌, ℕ, suc, Bool, true, false, cond, List, [], ◌∷◌, length, slice_get, Option, Some, None, is_some, subst, ap, sym, true≢false, refl, arith}
use Rattle.std.specs.Option.{option_map}
use Rattle.std.specs.Cmp.Lexicographic.{same_text}
use Rattle.domains.specs.Names.{is_same}
use Rattle.net_reader.specs.declared.raw.Word.{Word}
use Rattle.net_reader.specs.declared.raw.RawMachine.{RawMachine}
use Rattle.net_reader.specs.declared.raw.RawNet.{RawNet}
use Rattle.net_names.specs.declared.vars.Var.{Var}
use Rattle.net_names.specs.Numbers.{names_of, number_in}
use Rattle.net_names.specs.Vars.{IsVar, AreVars}
use Rattle.polis_base.proofs.Places.{some_is}

-- the variable at a name's number is what the name stands for
pub var_at : (net : RawNet) (m : RawMachine) (words : List Word) (vars : List Var) (name : List ℕ)
    (k : ℕ) (v : Var) → AreVars net m words vars → number_in (names_of words) name ≡ Some k
    → slice_get vars k ≡ Some v → IsVar net m name v
var_at net m [] vars name k v all is at = absurd (true≢false (sym (ap is_some is)))
var_at net m (w ∷ ws) [] name k v all is at = absurd all
var_at net m (w ∷ ws) (u ∷ us) name k v all is at =
    by (is_same name w.name) refl (number_in (names_of ws) name) refl is
    (λ j e h. var_at net m ws us name j v all.1 e h)
  where
    by : (b : Bool) → is_same name w.name ≡ b → (o : Option ℕ) → number_in (names_of ws) name ≡ o
        → cond b (Some 0) (option_map suc o) ≡ Some k
        → ((j : ℕ) → number_in (names_of ws) name ≡ Some j → slice_get us j ≡ Some v
        → IsVar net m name v) → IsVar net m name v
    by true same o e h rest =
        subst (λ n. IsVar net m n v) (sym (same_text name w.name (sym same)))
        (subst (λ x. IsVar net m w.name x)
        (some_is u v (ap (slice_get (u ∷ us)) (some_is 0 k h) ∙ at)) all.0)
    by false other None e h rest = absurd (true≢false (sym (ap is_some h)))
    by false other (Some j) e h rest = rest j e (ap (slice_get (u ∷ us)) (some_is (suc j) k h) ∙ at)

-- and there is one
pub var_below : (net : RawNet) (m : RawMachine) (words : List Word) (vars : List Var)
    (name : List ℕ) (k : ℕ) → AreVars net m words vars → number_in (names_of words) name ≡ Some k
    → k < length vars
var_below net m [] vars name k all is = absurd (true≢false (sym (ap is_some is)))
var_below net m (w ∷ ws) [] name k all is = absurd all
var_below net m (w ∷ ws) (u ∷ us) name k all is =
    by (is_same name w.name) (number_in (names_of ws) name) refl is
    (λ j e. var_below net m ws us name j all.1 e)
  where
    by : (b : Bool) (o : Option ℕ) → number_in (names_of ws) name ≡ o
        → cond b (Some 0) (option_map suc o) ≡ Some k
        → ((j : ℕ) → number_in (names_of ws) name ≡ Some j → j < length us) → k < suc (length us)
    by true o e h rest = let z = some_is 0 k h in omega (arith, z)
    by false None e h rest = absurd (true≢false (sym (ap is_some h)))
    by false (Some j) e h rest = let z = some_is (suc j) k h in omega (arith, z, rest j e)
