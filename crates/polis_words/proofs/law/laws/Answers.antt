use Rattle.polis_words.proofs.OneRequest.{one_request}
use Rattle.polis_words.proofs.law.laws.Goals as goal

pub returns : goal.returns
returns c words a b asks again = one_request words a b asks again
