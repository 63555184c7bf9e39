-- What the names of variables stand for.
use Rattle.std.specs.Prelude.{◌≡◌, ℕ, List, is_some, option_copied}
use Rattle.std.specs.List.{AllZip}
use Rattle.net_reader.specs.declared.raw.Word.{Word}
use Rattle.net_reader.specs.declared.raw.RawMachine.{RawMachine}
use Rattle.net_reader.specs.declared.raw.RawNet.{RawNet}
use Rattle.net_names.specs.declared.vars.Var.{Var}
use Rattle.net_names.specs.Numbers.{is_name_of}
use Rattle.net_names.specs.Scopes.{state_words, var_words, var_domain, shape_at}

-- this is what the name stands for in the machine
pub record IsVar (net : RawNet) (m : RawMachine) (name : List ℕ) (var : Var) : Type 0 where
  pub known : var.is_known ≡ is_name_of (var_words m) name
  pub input : var.is_input ≡ is_name_of m.inputs name
  pub state : var.is_state ≡ is_name_of (state_words m) name
  pub domain : var.has_domain ≡ is_some (var_domain net m name)
  pub shape : option_copied var.shape ≡ shape_at net (var_domain net m name)

-- and these are what the words stand for
abbrev pub AreVars : RawNet → RawMachine → List Word → List Var → Type 0
AreVars net m words vars = AllZip (λ (w : Word). IsVar net m w.name) words vars
