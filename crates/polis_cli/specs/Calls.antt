-- Calls that ended, and the products that they wrote.
use Rattle.std.specs.Prelude.{◌≡◌, ℕ, List, Some, IsTrue}
use Rattle.polis_base.specs.Host.{Files}
use Rattle.polis_words.specs.declared.requests.Request.{Request}
use Rattle.polis_words.specs.declared.status.Status.{Status}
use Rattle.polis_words.specs.Requests.{Asks}
use Rattle.output_files.specs.declared.product.Product.{Product}
use Rattle.output_files.specs.Ends.{is_end}
use Rattle.polis_cli.specs.Promise.{Outside, Answers}
use Rattle.polis_cli.specs.Top.{MadeAndWritten}

-- A call that was asked for this and ended with Done, Limit or Found, and what its host told before
-- it and after it, the files among it.
pub record EndedCall (request : Request) : Type 0 where
  pub words : List (List ℕ)
  pub asks : Asks words request
  pub status : Status
  pub ends : IsTrue (is_end status)
  pub old : Outside
  pub new : Outside
  pub answers : Answers status words old new
  pub before : Files
  pub now : Files
  pub told : (old.files ≡ Some before) × (new.files ≡ Some now)

-- the call made this product and wrote it
abbrev pub Wrote : {request : Request} → EndedCall request → Product → Type 0
Wrote call product =
    (written : MadeAndWritten call.status call.words call.before call.now call.old.shown
    call.new.shown) × (written.product ≡ product)
