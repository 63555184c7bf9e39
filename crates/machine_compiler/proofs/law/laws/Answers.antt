use Rattle.machine_compiler.proofs.ListingDeterminesParts.{listing_determines}
use Rattle.machine_compiler.proofs.CountsFit.{right_counts_fit}
use Rattle.machine_compiler.proofs.OneRightPart.{one_right_part, one_right_parts}
use Rattle.machine_compiler.proofs.law.laws.Goals as goal

pub returns : goal.returns
returns c = record {
  one_part = one_right_part;
  one_parts = one_right_parts;
  listing_determines = listing_determines;
  counts_fit = right_counts_fit;
}
