-- What commands mean that read a network text alone and always end with Done.
use Rattle.std.proofs.Common.{List, ℕ}
use Rattle.polis_base.specs.Host.{Files}
use Rattle.output_files.specs.declared.product.Product.{Product}
use Rattle.input_files.specs.Inputs.{AcceptsNet}
use Rattle.input_files.specs.declared.load.Detail.{Detail}
use Rattle.commands.specs.Meanings.{net_meaning}
use Rattle.commands.specs.inner.Lawful.{IsLawful}
use Rattle.input_files.proofs.InputsFail.{net_refused, net_unfound}

pub net_lawful : (detail : Detail) (net : List ℕ) (makes : Files → Product → Type 0)
    → ((files : Files) (product : Product) → makes files product → AcceptsNet net files)
    → IsLawful (net_meaning detail net makes)
net_lawful detail net makes accepted = record {
  made_accepts = accepted;
  made_finds = λ files product status m found. found;
  refused = λ files name cause h s all. net_refused files net cause all.0 s h.1 all.1;
  found = λ files name cause h f. absurd (net_unfound files net cause f h.1);
  found_accepts = λ files status h. absurd h;
  found_ends = λ files status h. absurd h;
  found_once = λ files s t h k. absurd h;
}
