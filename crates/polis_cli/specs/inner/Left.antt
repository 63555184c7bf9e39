-- What calls leave of a host.
use Rattle.std.specs.Prelude.{Result, Ok, Err}
use Rattle.polis_base.specs.declared.host.Host.{Ghosts}
use Rattle.polis_words.specs.declared.cause.Failure.{Failure}
use Rattle.polis_words.specs.declared.status.Status.{Status}
use Rattle.output_files.specs.declared.product.Product.{Product}
use Rattle.output_files.specs.Written.{LeftByWriting, ShowsFailure}

-- What was made was written, or why nothing was made was shown.
abbrev pub LeftByEnding : {S : Type 0} → Ghosts S → Result Product Failure → Status → S → S → Type 0
LeftByEnding host (Ok product) status old new = LeftByWriting host status product old new
LeftByEnding host (Err failure) status old new = ShowsFailure host failure status old new
