use Rattle.std.proofs.Common.{◌≡◌, true, false}
use Rattle.net_reader.specs.Reading.{begins, is}
use Rattle.net_reader.proofs.NextToken.{only_no, only_yes, begins_long}
use Rattle.net_reader.proofs.reader.Reader.expect.Goals as goal

pub skip-requires : goal.skip-requires
skip-requires c =
    let seen : begins (is c.args.kind) c.args.self.now ≡ true = cc in
    begins_long (is c.args.kind) c.args.self.now seen

pub returns-then-not-sees : goal.returns-then-not-sees
returns-then-not-sees c =
    let seen : begins (is c.args.kind) c.args.self.now ≡ false = cc in
    only_no c.args.kind c.args.self.now seen

pub returns : goal.returns
returns c =
    let seen : begins (is c.args.kind) c.args.self.now ≡ true = cc in
    rw c.skip.ensures (only_yes c.args.kind c.args.self.now seen)
