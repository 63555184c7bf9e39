use Rattle.std.proofs.Common.{◌<◌, ◌+◌, ◌^◌, List, OnOk, sum_by, refl, sym, subst, arith}
use Rattle.std.proofs.lemmas.Result.{on_ok_weaker}
use Rattle.run_survey.specs.declared.told.Kind.{Kind}
use Rattle.run_survey.specs.declared.told.Survey.{Survey}
use Rattle.run_survey.specs.Joins.{TellsBoth}
use Rattle.run_survey.specs.Kinds.{most_kinds}
use Rattle.run_survey.specs.inner.Merging.{AreTold, all_merged, count_of, run_count}
use Rattle.run_survey.proofs.RunsJoined.{covers_both}
use Rattle.run_survey.proofs.SaidOfRuns.{found_room, unfinished_room}
use Rattle.run_survey.proofs.SurveysJoined.{IsJoined, complete_below, jammed_room, keeps_shape, kinds_room, lost_room, taken_room, tells_both, unused_room}
use Rattle.run_survey.proofs.told.Survey.join.Goals.{After-join_kinds}
use Rattle.run_survey.proofs.told.Survey.join.Goals as goal

pub join_found-self-requires : goal.join_found-self-requires
join_found-self-requires c =
    found_room c.args.self.now c.args.next.now c.requires.told c.requires.next_told c.requires.room

pub join_others-self-requires : goal.join_others-self-requires
join_others-self-requires c =
    unfinished_room c.args.self.now c.args.next.now c.requires.told c.requires.next_told
    c.requires.room

pub join_kinds-requires : goal.join_kinds-requires
join_kinds-requires c =
    let one = c.args.self.now in
    subst (λ (l : List Kind). run_count one.kinds.items one.others + sum_by count_of l < 2 ^ 64)
    (sym c.deref.ensures.value)
    (kinds_room one c.args.next.now c.requires.told c.requires.next_told c.requires.room)

-- the survey as joining leaves it
abbrev new : After-join_kinds → Survey
new c = record {
  seed = c.args.self.now.seed;
  runs = c.args.self.now.runs + c.args.next.now.runs;
  complete = c.args.self.now.complete + c.args.next.now.complete;
  kinds = c.join_kinds.new.kinds;
  others = c.join_kinds.new.others;
  lost = c.join_spreads.new.own;
  unused = c.join_spreads-2.new.own;
  jammed = c.join_spreads-3.new.own;
  taken = c.join_spreads-4.new.own;
  found = c.join_found-self.result;
  unfinished = c.join_others-self.result;
}

joined : (c : After-join_kinds)
    → OnOk c.join_kinds.result (IsJoined c.args.self.now c.args.next.now (new c))
joined c =
    on_ok_weaker c.join_kinds.result
    (λ told. record {
      seed = refl;
      runs = refl;
      complete = refl;
      found = c.join_found-self.ensures;
      unfinished = c.join_others-self.ensures;
      lost = c.join_spreads.ensures;
      unused = c.join_spreads-2.ensures;
      jammed = c.join_spreads-3.ensures;
      taken = c.join_spreads-4.ensures;
      kinds =
          λ all was.
          subst
          (λ (l : List Kind).
          AreTold most_kinds (all_merged all l) c.join_kinds.new.kinds.items
          c.join_kinds.new.others)
          c.deref.ensures.value (told all was);
    })
    c.join_kinds.ensures

tells : (c : After-join_kinds)
    → OnOk c.join_kinds.result (TellsBoth c.args.self.now c.args.next.now (new c))
tells c =
    on_ok_weaker c.join_kinds.result
    (tells_both c.args.self.now c.args.next.now (new c) c.requires.alike c.requires.no_others)
    (joined c)

pub returns-clause-told : goal.returns-clause-told
returns-clause-told c = tells c

pub returns-clause-is : goal.returns-clause-is
returns-clause-is c =
    on_ok_weaker c.join_kinds.result (covers_both c.args.self.now c.args.next.now (new c)) (tells c)

pub returns-clause-shape : goal.returns-clause-shape
returns-clause-shape c =
    on_ok_weaker c.join_kinds.result (keeps_shape c.args.self.now c.args.next.now (new c))
    (joined c)

pub overflow_add-self-2 : goal.overflow_add-self-2
overflow_add-self-2 c =
    let one = complete_below c.args.self.now c.requires.told in
    let other = complete_below c.args.next.now c.requires.next_told in
    let room = c.requires.room in
    omega arith

pub join_spreads-requires-clause-room : goal.join_spreads-requires-clause-room
join_spreads-requires-clause-room c =
    lost_room c.args.self.now c.args.next.now c.requires.told c.requires.next_told c.requires.room

pub join_spreads-requires-2-clause-room : goal.join_spreads-requires-2-clause-room
join_spreads-requires-2-clause-room c =
    unused_room c.args.self.now c.args.next.now c.requires.told c.requires.next_told
    c.requires.room

pub join_spreads-requires-3-clause-room : goal.join_spreads-requires-3-clause-room
join_spreads-requires-3-clause-room c =
    jammed_room c.args.self.now c.args.next.now c.requires.told c.requires.next_told
    c.requires.room

pub join_spreads-requires-4-clause-room : goal.join_spreads-requires-4-clause-room
join_spreads-requires-4-clause-room c =
    taken_room c.args.self.now c.args.next.now c.requires.told c.requires.next_told c.requires.room
