use Rattle.std.proofs.Common.{refl}
use Rattle.sgraph.proofs.worked.worked_graphs.Goals as goal

pub returns : goal.returns
returns c = record {
  lamp = record {
    built = refl;
    numbered = refl;
    reduced = refl;
    rises = refl;
    made = refl;
    turns_on = refl;
    stays_on = refl;
  };
  join = record { built = refl; numbered = refl; reduced = refl; both = refl; one = refl };
  refused = record { order = refl; twice = refl; idle = refl; end = refl };
}
