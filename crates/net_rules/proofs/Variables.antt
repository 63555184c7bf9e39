-- What a variable's name stands for gives the codes of its values.
use Rattle.std.proofs.Common.{◌≡◌, ◌≤◌, ◌+◌, ◌==◌, ℕ, cond, List, Option, Some, None, IfSome, unwrap_or, option_copied, subst, refl, sym}
use Rattle.std.specs.Option.{option_and_then}
use Rattle.std.specs.List.{list_any}
use Rattle.net_reader.specs.declared.raw.Word.{Word}
use Rattle.net_reader.specs.declared.raw.RawShape.{RawShape}
use Rattle.net_reader.specs.declared.raw.RawValue.{RawValue}
use Rattle.net_reader.specs.declared.raw.RawMachine.{RawMachine}
use Rattle.net_reader.specs.declared.raw.RawNet.{RawNet}
use Rattle.net_names.specs.declared.vars.Var.{Var}
use Rattle.net_names.specs.Values.{value_in, count_of}
use Rattle.net_names.specs.Scopes.{var_domain, shape_at, shape_of}
use Rattle.net_names.specs.Vars.{IsVar}
use Rattle.net_rules.specs.Networks.{value_code}
use Rattle.net_rules.specs.inner.Sound.{IsSound}
use Rattle.net_rules.proofs.Counts.{shape_in}

-- the domain of a variable has few values
pub var_few : (net : RawNet) (m : RawMachine) (name : List ℕ) (var : Var) → IsSound net
    → IsVar net m name var → IfSome (option_copied var.shape) (λ s. count_of s ≤ 32)
var_few net m name var sound is =
    subst (λ o. IfSome o (λ s. count_of s ≤ 32)) (sym is.shape) (by (var_domain net m name))
  where
    some : (name : List ℕ) (o : Option RawShape) → shape_of net name ≡ o
        → IfSome o (λ s. count_of s ≤ 32)
    some name None e = tt
    some name (Some s) e = (shape_in net name s sound e).1

    by : (d : Option Word) → IfSome (shape_at net d) (λ s. count_of s ≤ 32)
    by None = tt
    by (Some w) = some w.name (shape_of net w.name) refl

-- the code of a value
pub var_code : (net : RawNet) (m : RawMachine) (name : List ℕ) (var : Var) (v : RawValue)
    → IsVar net m name var → cond var.is_state 0 1
    + unwrap_or (option_and_then (λ s. value_in s v) (option_copied var.shape)) 0
    ≡ value_code net m name v
var_code net m name var v is = λ i.
    cond (is.state i) 0 1 + unwrap_or (option_and_then (λ s. value_in s v) (is.shape i)) 0

-- whether one of the values has a code
pub var_codes : (net : RawNet) (m : RawMachine) (name : List ℕ) (var : Var) (vs : List RawValue)
    (c : ℕ) → IsVar net m name var
    → list_any (λ v. c == cond var.is_state 0 1
    + unwrap_or (option_and_then (λ s. value_in s v) (option_copied var.shape)) 0) vs
    ≡ list_any (λ v. c == value_code net m name v) vs
var_codes net m name var vs c is =
    λ i. list_any (λ v. c == cond (is.state i) 0 1
    + unwrap_or (option_and_then (λ s. value_in s v) (is.shape i)) 0) vs
