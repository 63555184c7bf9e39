-- How calls end that made and wrote what was asked for.
use Rattle.std.specs.Prelude.{Bool, true, false}
use Rattle.polis_words.specs.declared.status.Status.{Status}
use Rattle.polis_words.specs.declared.status.Status.TheVariants.{Done, Limit, Found}
use Rattle.output_files.specs.declared.product.End.{End}
use Rattle.output_files.specs.declared.product.End.TheVariants as ends

-- the status of a call that ends so
abbrev pub end_status : End → Status
end_status ends.Done = Done
end_status ends.Limit = Limit
end_status ends.Found = Found

-- the status is one of these
abbrev pub is_end : Status → Bool
is_end Done = true
is_end Limit = true
is_end Found = true
is_end other = false
