-- What `equiv` makes of two networks that were loaded.
use Rattle.std.specs.Prelude.{◌≡◌, ℕ, List, []}
use Rattle.transition_table.specs.declared.network.Network.{Network}
use Rattle.machine_equiv.specs.Comparing.{SameTables}
use Rattle.machine_equiv.specs.Runs.{HaveSameRuns}
use Rattle.machine_equiv.specs.Shapes.{SameShape}
use Rattle.polis_words.specs.declared.cause.Failure.{Failure}
use Rattle.output_files.specs.declared.product.Product.{Product}
use Rattle.input_files.specs.Failures.{IfExplained}
use Rattle.commands.specs.Equiv.{IsEquivFault, equiv_product}

-- the networks are of one shape, no tables of them differ, and the product says so
pub record IsSameProduct (net other : Network) (product : Product) : Type 0 where
  pub shape : SameShape net other
  pub same : SameTables net other
  pub runs : HaveSameRuns net other
  pub made : product ≡ equiv_product net

-- the failure is that of the file of this name, for a cause for which the networks aren't the same
abbrev pub IsEquivFailure : List ℕ → Network → Network → Failure → Type 0
IsEquivFailure name net other failure = IfExplained failure (λ file cause more. (file ≡ name)
    × IsEquivFault net other cause × (more ≡ []))
