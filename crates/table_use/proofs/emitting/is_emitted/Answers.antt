use Rattle.std.proofs.Common.{◌≡◌, ◌+◌, ℕ, Bool, true, false, not, ◌&&◌, eqb, length, slice_get, sym, ap, ◌∙◌, refl, arith}
use Rattle.std.specs.List.{list_any}
use Rattle.std.proofs.lemmas.Bool.{eq-eqb, ne_eqb}
use Rattle.polis_base.specs.Lists.{upto}
use Rattle.transition_table.specs.Transitions.{actions}
use Rattle.table_use.specs.Lint.{amount}
use Rattle.table_use.specs.Use.{enables}
use Rattle.table_use.specs.inner.Emitting.{gives_some}
use Rattle.table_use.proofs.Emitted.{emitted_by_rows, emitting_is, is_emitting}
use Rattle.table_use.proofs.Repeats.{reach_at, reach_low}
use Rattle.journals.proofs.Upto.{any_found, none_more}
use Rattle.table_use.proofs.emitting.is_emitted.Goals.{then-get-gt0+else-gives_some, else-get-gt0}
use Rattle.table_use.proofs.emitting.is_emitted.Goals as goal

pub get-requires : goal.get-requires
get-requires c =
    let end = c.len-r-end.ensures in
    reach_low c.args.machine.now c.args.reach.now c.loop-r.r c.loop-r.r c.requires.reach refl
    (omega arith)

pub returns-then-gives_some : goal.returns-then-gives_some
returns-then-gives_some c =
    let m = c.args.machine.now in
    let y = c.args.y in
    let r = c.loop-r.r in
    let end = c.len-r-end.ensures in
    let reach = reach_at m c.args.reach.now r r c.get.result.now c.requires.reach refl (omega arith)
    c.get.ensures in
    let some = c.if-get-gt0.true in
    let on : not (eqb (amount m (enables m r)) 0) ≡ true =
    ap (λ (n : ℕ). not (eqb n 0)) (sym reach)
    ∙ ap not (ne_eqb c.get.result.now 0 (λ e. absurd (omega arith))) in
    let gives : gives_some c.get-then-get-gt0.result.now.acts (1 + length m.states + y) ≡ true =
    ap (λ (n : ℕ). gives_some c.get-then-get-gt0.result.now.acts (1 + n + y))
    (sym c.state_count.ensures.count)
    ∙ sym c.gives_some.ensures ∙ c.if-gives_some.true in
    sym (sym (emitted_by_rows m y c.requires.output)
    ∙ any_found (is_emitting m y) (length m.rows) r (omega arith)
    (emitting_is m y r c.get-then-get-gt0.result.now true true on c.get-then-get-gt0.ensures gives))

pub loop-r-preserved : goal.loop-r-preserved
loop-r-preserved c =
    let m = c.args.machine.now in
    let y = c.args.y in
    let r = c.loop-r.r in
    let end = c.len-r-end.ensures in
    let reach = reach_at m c.args.reach.now r r c.get.result.now c.requires.reach refl (omega arith)
    c.get.ensures in
    elim c.if-get-gt0.branch [
      | then-get-gt0+else-gives_some w ↦
          let some = w.if-get-gt0.true in
          let on : not (eqb (amount m (enables m r)) 0) ≡ true =
          ap (λ (n : ℕ). not (eqb n 0)) (sym reach)
          ∙ ap not (ne_eqb c.get.result.now 0 (λ e. absurd (omega arith))) in
          let gives : gives_some w.get-then-get-gt0.result.now.acts (1 + length m.states + y)
          ≡ false =
          ap (λ (n : ℕ). gives_some w.get-then-get-gt0.result.now.acts (1 + n + y))
          (sym c.state_count.ensures.count)
          ∙ sym w.gives_some.ensures ∙ w.if-gives_some.false in
          none_more (is_emitting m y) r c.loop-r.invariant
          (emitting_is m y r w.get-then-get-gt0.result.now true false on
          w.get-then-get-gt0.ensures gives)
      | else-get-gt0 w ↦
          let none = w.if-get-gt0.false in
          let off : not (eqb (amount m (enables m r)) 0) ≡ false =
          ap (λ (n : ℕ). not (eqb n 0)) (sym reach)
          ∙ ap not (eq-eqb c.get.result.now 0 (omega arith)) in
          none_more (is_emitting m y) r c.loop-r.invariant
          (ap (λ (b : Bool). b && gives_some (actions (slice_get m.rows r))
          (1 + length m.states + y)) off)
    ]

pub returns : goal.returns
returns c =
    let m = c.args.machine.now in
    let y = c.args.y in
    let end = c.len-r-end.ensures in
    let off = c.loop-r-test.false in
    let all : length m.rows ≡ c.loop-r.r = omega arith in
    sym (sym (emitted_by_rows m y c.requires.output)
    ∙ ap (λ (n : ℕ). list_any (is_emitting m y) (upto n)) all
    ∙ c.loop-r.invariant)
