-- What commands mean that read a network text and a trace text of it, and find nothing of them.
use Rattle.std.proofs.Common.{Bool, List, ℕ}
use Rattle.polis_base.specs.Host.{Files}
use Rattle.polis_words.specs.declared.status.Status.{Status}
use Rattle.output_files.specs.declared.product.Product.{Product}
use Rattle.input_files.specs.Inputs.{AcceptsInputs}
use Rattle.input_files.specs.declared.load.Detail.{Detail}
use Rattle.input_files.proofs.InputsFail.{inputs_refused, inputs_unfound}
use Rattle.commands.specs.Meanings.{inputs_meaning}
use Rattle.commands.specs.inner.Lawful.{IsLawful}

pub inputs_lawful : (detail : Detail) (net trace : List ℕ) (makes : Files → Product → Type 0)
    (ends : Status → Bool)
    → ((files : Files) (product : Product) → makes files product → AcceptsInputs net trace files)
    → IsLawful (inputs_meaning detail net trace makes ends)
inputs_lawful detail net trace makes ends accepted = record {
  made_accepts = accepted;
  made_finds = λ files product status m found. found;
  refused = λ files name cause h s all. inputs_refused files net trace name cause all.0 all.1 s h
      all.2 all.3;
  found = λ files name cause h f. absurd (inputs_unfound files net trace name cause f h);
  found_accepts = λ files status h. absurd h;
  found_ends = λ files status h. absurd h;
  found_once = λ files s t h k. absurd h;
}
