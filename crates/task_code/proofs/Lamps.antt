-- The lamp's code and its listing.
use Rattle.std.proofs.Common.{refl}
use Rattle.std.specs.Fmt.{digits}
use Rattle.task_code.specs.Worked.{Lamp}

pub lamp : Lamp
unfolding digits
lamp = record {
  rises = refl;
  made = refl;
  numbered = refl;
  plain = refl;
  small = refl;
  plain_steps = refl;
  small_steps = refl;
  idle_steps = refl;
  turns_on = refl;
  stays_on = refl;
  listing = refl;
}
