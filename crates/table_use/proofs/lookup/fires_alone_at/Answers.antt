use Rattle.std.proofs.Common.{◌≡◌, ◌<◌, ◌+◌, ◌*◌, ◌%◌, ℕ, true, false, slice_index, refl, sym, ap, ◌∙◌, arith}
use Rattle.std.proofs.lemmas.Option.{get_or_from_slice_get}
use Rattle.domains.proofs.Ranks.{length_fits, ranks_below}
use Rattle.domains.specs.Tables.{fits, product, rank}
use Rattle.table_use.specs.Use.{alone}
use Rattle.table_use.specs.Keys.{stride}
use Rattle.table_use.proofs.ByNumber.{rank_alone, stride_at, strides_long}
use Rattle.table_use.proofs.Judged.{alone_is, fits_alone}
use Rattle.table_use.proofs.Present.{absent, present}
use Rattle.table_use.proofs.lookup.fires_alone_at.Goals.{After-get-2}
use Rattle.table_use.proofs.lookup.fires_alone_at.Goals as goal

pub get-requires : goal.get-requires
get-requires c =
    let vars = c.args.lookup.now.machine.now.vars in
    let long = length_fits vars c.args.codes.now c.requires.fits in
    let parts = c.var_count.ensures.inputs in
    let low = c.requires.input in
    omega arith

pub returns-then-code-eq0 : goal.returns-then-code-eq0
returns-then-code-eq0 c =
    let s = c.args.codes.now in
    sym (alone_is c.args.lookup.now.machine.now s c.args.i false _
    (absent s c.args.i c.get.result.now c.get.ensures
    (sym c.from-code.ensures ∙ c.if-code-eq0.true)) refl)

pub get-requires-2 : goal.get-requires-2
get-requires-2 c =
    let lookup = c.args.lookup.now in
    let long = strides_long lookup.machine.now.vars lookup.keys.now.strides
    lookup.are_keys.strides in
    let parts = c.var_count.ensures.inputs in
    let low = c.requires.input in
    omega arith

-- the number of the snapshot with the input alone
record IsAlone (c : After-get-2) : Type 0 where
  fit : fits c.args.lookup.now.machine.now.vars
      (alone c.args.lookup.now.machine.now c.args.codes.now c.args.i) ≡ true
  number : rank c.args.lookup.now.machine.now.vars
      (alone c.args.lookup.now.machine.now c.args.codes.now c.args.i)
      ≡ c.args.state + c.from-code.result * c.get-2.result.now
  low : c.args.state + c.from-code.result * c.get-2.result.now
      < product c.args.lookup.now.machine.now.vars

here : (c : After-get-2) → IsAlone c
here c =
    let lookup = c.args.lookup.now in
    let m = lookup.machine.now in
    let s = c.args.codes.now in
    let i = c.args.i in
    let parts = c.var_count.ensures.inputs in
    let inside = c.requires.input in
    let fit = fits_alone m s i c.requires.fits inside in
    let number : rank m.vars (alone m s i)
    ≡ c.args.state + c.from-code.result * c.get-2.result.now =
    rank_alone m s i c.requires.fits fit inside
    ∙ ap (λ (n : ℕ). rank m.vars s % n + slice_index s i * stride m.vars i) (sym lookup.are_idle)
    ∙ ap (λ (n : ℕ). n + slice_index s i * stride m.vars i) (sym c.requires.state)
    ∙ ap (λ (n : ℕ). c.args.state + n * stride m.vars i)
    (get_or_from_slice_get s i c.get.result.now 0 c.get.ensures ∙ sym c.from-code.ensures)
    ∙ ap (λ (n : ℕ). c.args.state + c.from-code.result * n)
    (sym (stride_at m.vars lookup.keys.now.strides i c.get-2.result.now lookup.are_keys.strides
    (omega arith) c.get-2.ensures)) in
    let below = ranks_below m.vars (alone m s i) fit in
    record {
      fit = fit;
      number = number;
      low = omega arith;
    }

pub overflow_mul-code : goal.overflow_mul-code
overflow_mul-code c =
    let low = (here (goal.at.overflow_mul-code c).After-get-2).low in
    let most = c.var_count.ensures.snapshots in
    omega arith

pub overflow_add-state : goal.overflow_add-state
overflow_add-state c =
    let low = (here (goal.at.overflow_add-state c).After-get-2).low in
    let most = c.var_count.ensures.snapshots in
    omega arith

pub fires_at-requires : goal.fires_at-requires
fires_at-requires c = (here (goal.at.fires_at-requires c).After-get-2).low

pub returns : goal.returns
returns c =
    let m = c.args.lookup.now.machine.now in
    let s = c.args.codes.now in
    let own = here (goal.at.returns c).After-get-2 in
    c.fires_at.ensures (alone m s c.args.i) own.fit own.number
    ∙ sym (alone_is m s c.args.i true _
    (present s c.args.i c.get.result.now c.get.ensures
    (λ none. c.if-code-eq0.false (c.from-code.ensures ∙ none))) refl)
