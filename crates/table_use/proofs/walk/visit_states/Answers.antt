use Rattle.std.proofs.Common.{◌≡◌, ◌+◌, ℕ, Bool, false, not, ◌&&◌, List, length, slice_get, Some, sym, ap, ◌∙◌, arith}
use Rattle.std.proofs.lemmas.List.{length-set}
use Rattle.std.proofs.lemmas.Option.{slice_get_within}
use Rattle.domains.specs.Names.{is_same}
use Rattle.transition_table.specs.Computed.{result_codes}
use Rattle.table_use.specs.Use.{without}
use Rattle.table_use.specs.inner.Walking.{differs}
use Rattle.table_use.proofs.Sets.{one_judged, set_here, set_other}
use Rattle.table_use.proofs.walk.visit_states.Goals.{then-get, else-get}
use Rattle.table_use.proofs.walk.visit_states.Goals as goal

pub loop-x-preserved : goal.loop-x-preserved
loop-x-preserved c =
    let m = c.args.lookup.now.machine.now in
    let s = c.args.codes.now in
    let x = c.loop-x.x in
    let old = c.args.states.now in
    let now = c.loop-x.states in
    let f : ℕ → Bool → Bool = λ x b. b && not (differs m x s) in
    let within = slice_get_within now x c.get.result.now c.get.ensures in
    elim c.if-get.branch [
      | then-get w ↦
          let is : not w.differs_at.result ≡ not (differs m x s) =
          ap not (w.differs_at.ensures
          ∙ ap (λ (n : ℕ). not (is_same (result_codes m s)
          (result_codes m (without s (n + x))))) w.len.ensures) in
          let made : not w.differs_at.result ≡ f x c.get.result.now =
          is ∙ ap (λ (b : Bool). b && not (differs m x s)) (sym w.if-get.true) in
          let new = w.states-is ∙ w.set.ensures in
          record {
            long = ap (λ (l : List Bool). length l) new
                ∙ length-set now x (not w.differs_at.result) ∙ c.loop-x.invariant.long;
            judged = one_judged f x old now c.if-get.states c.get.result.now
                (not w.differs_at.result) c.loop-x.invariant.judged c.get.ensures
                (ap (λ (l : List Bool). slice_get l x) new
                ∙ set_here now x (not w.differs_at.result) within)
                (λ j away. ap (λ (l : List Bool). slice_get l j) new
                ∙ set_other now x j (not w.differs_at.result) away)
                made;
          }
      | else-get w ↦ record {
        long = ap (λ (l : List Bool). length l) w.states-is ∙ c.loop-x.invariant.long;
        judged = one_judged f x old now c.if-get.states c.get.result.now false
            c.loop-x.invariant.judged c.get.ensures
            (ap (λ (l : List Bool). slice_get l x) w.states-is ∙ c.get.ensures
            ∙ ap (λ (b : Bool). Some b) w.if-get.false)
            (λ j away. ap (λ (l : List Bool). slice_get l j) w.states-is)
            (ap (λ (b : Bool). b && not (differs m x s)) (sym w.if-get.false));
      }
    ]

pub returns-clause-each : goal.returns-clause-each
returns-clause-each c =
    let end = c.len-x-end.ensures in
    let off = c.loop-x-test.false in
    λ x b at.
    let within = slice_get_within c.args.states.now x b at in
    c.loop-x.invariant.judged.done x b (omega arith) at
