-- What `equiv` makes of two networks.
use Rattle.std.specs.Prelude.{◌≡◌, ◌⊎◌, ℕ, true, List, length, Some, slice_get}
use Rattle.polis_base.specs.Host.{Files}
use Rattle.transition_table.specs.declared.machine.Machine.{Machine}
use Rattle.transition_table.specs.declared.network.Network.{Network}
use Rattle.machine_equiv.specs.declared.nets.Differing.{Differing}
use Rattle.machine_equiv.specs.Comparing.{SameTables, IsNetComparison}
use Rattle.machine_equiv.specs.Runs.{HaveSameRuns}
use Rattle.machine_equiv.specs.Shapes.{SameShape}
use Rattle.polis_words.specs.declared.cause.Cause.{Cause}
use Rattle.polis_words.specs.declared.cause.Cause.TheVariants.{OtherShape, Differ as TablesDiffer}
use Rattle.polis_words.specs.Equiv.{EquivWords}
use Rattle.polis_words.specs.Texts.{machine_snapshot_text, same_text}
use Rattle.output_files.specs.declared.product.Product.{Product}
use Rattle.output_files.specs.Products.{shows_only}
use Rattle.input_files.specs.Inputs.{HoldsNet, NetFails, OnlyNetFails}
use Rattle.commands.specs.Meanings.{Meaning, finds_differing, ends_compared}
use Rattle.input_files.specs.Failures.{explains_nothing}

-- the files hold two networks of one shape
pub record HoldsEquiv (equiv : EquivWords) (files : Files) (net other : Network) : Type 0 where
  pub holds_net : HoldsNet files equiv.net net
  pub holds_other : HoldsNet files equiv.other other
  pub shape : SameShape net other

-- the product saves nothing, and shows how many machines each network has
abbrev pub equiv_product : Network → Product
equiv_product net = shows_only (same_text (length net.machines))

-- The files hold two networks of one shape, no tables of which differ, so that they have the same
-- runs; and the product is that of their comparison.
pub record MakesEquiv (equiv : EquivWords) (files : Files) (product : Product) : Type 0 where
  pub net : Network
  pub other : Network
  pub holds : HoldsEquiv equiv files net other
  pub same : SameTables net other
  pub runs : HaveSameRuns net other
  pub made : product ≡ equiv_product net

-- both files are held, within their limits, and accepted, the second as one of the first's shape
abbrev pub AcceptsEquiv : EquivWords → Files → Type 0
AcceptsEquiv equiv files = (net : Network) × (other : Network) × HoldsEquiv equiv files net other

-- the files are accepted, and tables of the networks that they hold differ
pub record AreDiffering (equiv : EquivWords) (files : Files) : Type 0 where
  pub accepted : AcceptsEquiv equiv files
  pub differ : (net : Network) (other : Network) → HoldsEquiv equiv files net other
      → ¬ SameTables net other

-- this is printed of the first machine whose tables differ, with the least snapshot
pub record IsDifferText (net other : Network) (printed : List ℕ) : Type 0 where
  pub found : Differing
  pub first : IsNetComparison net other (Some found)
  pub machine : Machine
  pub there : slice_get net.machines found.machine ≡ Some machine
  pub printed_is : printed ≡ machine_snapshot_text net machine found.snapshot

-- why two networks that are accepted aren't of one shape, or their tables differ
abbrev pub IsEquivFault : Network → Network → Cause → Type 0
IsEquivFault net other OtherShape = ¬ SameShape net other
IsEquivFault net other (TablesDiffer printed) =
    SameShape net other × IsDifferText net other printed
IsEquivFault net other cause = ⊥

-- why the second file fails: it isn't loaded or isn't accepted, or its network isn't the same as
-- the first one
abbrev pub OtherFails : EquivWords → Files → Network → Cause → Type 0
OtherFails equiv files net cause =
    NetFails files equiv.other cause
    ⊎ ((other : Network) × HoldsNet files equiv.other other
    × ((another : Network) → HoldsNet files equiv.other another → IsEquivFault net another cause))

-- why a file of a comparison fails: the first does, or it is accepted and the second does
abbrev pub FailsEquiv : EquivWords → Files → List ℕ → Cause → Type 0
FailsEquiv equiv files name cause =
    OnlyNetFails equiv.net files name cause
    ⊎ ((name ≡ equiv.other) × (net : Network) × HoldsNet files equiv.net net
    × ((another : Network) → HoldsNet files equiv.net another
    → OtherFails equiv files another cause))

abbrev pub equiv_meaning : EquivWords → Meaning
equiv_meaning equiv = record {
  makes = MakesEquiv equiv;
  accepts = AcceptsEquiv equiv;
  finds = finds_differing (AreDiffering equiv);
  fails = FailsEquiv equiv;
  explains = explains_nothing;
  ends = ends_compared;
  reads = true;
}
