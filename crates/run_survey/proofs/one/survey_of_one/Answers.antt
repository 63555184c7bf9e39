use Rattle.std.proofs.Common.{◌≡◌, Bool, true, false, cond, refl, ◌∙◌}
use mir.Val.{bool_byte}
use Rattle.run_survey.proofs.OneRun.{one_survey}
use Rattle.run_survey.proofs.one.survey_of_one.Goals as goal

byte : (b : Bool) → bool_byte b ≡ cond b 1 0
byte true = refl
byte false = refl

pub returns : goal.returns
returns c =
    one_survey c.args.seed c.args.figures _
    (record {
      seed_is = refl;
      runs = refl;
      complete = c.from-complete.ensures ∙ byte c.args.figures.complete;
      kinds = c.in_ok-kinds.ensures;
      others = refl;
      found = c.found_of_one.ensures;
      unfinished = c.unfinished_of_one.ensures;
      lost = c.in_ok-numbers.ensures.lost;
      unused = c.in_ok-numbers.ensures.unused;
      jammed = c.in_ok-numbers.ensures.jammed;
      taken = c.in_ok-numbers.ensures.taken;
    })
