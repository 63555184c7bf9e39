use Rattle.std.proofs.Common.{ℕ, ◌+◌, ◌*◌, ◌^◌, List, [], ◌∷◌, All, length, Some, refl, ap, sym, subst, ◌∙◌, arith}
use Rattle.std.proofs.lemmas.List.{length-append, length_push}
use Rattle.std.proofs.lemmas.List.Elements.{All-pop, All-push}
use Rattle.outcome_table.specs.declared.table.Results.{Results}
use Rattle.transition_table.specs.declared.network.Network.{Network}
use Rattle.run_survey.specs.declared.workers.Job.{Job}
use Rattle.run_survey.specs.inner.Workers.{AreInRow, IsReady, Knows}
use Rattle.run_survey.proofs.WorkersJoined.{job_room, row_more}
use Rattle.run_survey.proofs.workers.jobs_of.Goals as goal

pub loop-k-preserved : goal.loop-k-preserved
loop-k-preserved c =
    let before = c.loop-k.invariant in
    let first = c.args.seeds.first in
    let count = c.args.seeds.count in
    let known = c.in-Some.known in
    let job : Job = record {
      seeds = record { first = first + c.loop-k.k * count; count = count };
      memos = known;
    } in
    let made = c.in_ok-push-in-Some.ensures.items in
    let popped = c.in-Some.ensures.items in
    let taken = λ (net : Network) (tables : List Results)
    (all : All (Knows net tables) c.args.memos.now.items).
    All-pop (Knows net tables) c.loop-k.memos.items c.pop.new.self.items (Some known) popped
    (before.knows net tables all) in
    record {
      row = subst (AreInRow first count) (sym made)
          (row_more first count c.loop-k.made.items job before.row
          (ap (λ (n : ℕ). first + n * count) (sym before.many)) refl);
      many = ap length made ∙ length_push c.loop-k.made.items job
          ∙ ap (λ (n : ℕ). n + 1) before.many;
      left =
          (let size = ap length popped in
          let parts = length-append c.pop.new.self.items (known ∷ []) in
          let was = before.left in
          omega arith);
      ready = λ net tables all.
          subst (All (IsReady net tables)) (sym made)
          (All-push (IsReady net tables) c.loop-k.made.items job (before.ready net tables all)
          (record {
            knows = (taken net tables all).1;
            some = c.requires.some;
            few = c.requires.few;
            room = job_room first count c.args.jobs c.loop-k.k (2 ^ 64) c.loop-k-test.true
                c.requires.room;
          }));
      knows = λ net tables all. (taken net tables all).0;
    }
