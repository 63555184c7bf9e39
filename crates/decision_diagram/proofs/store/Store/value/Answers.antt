use Rattle.std.proofs.Common.{◌≡◌, ◌∙◌, ℕ, slice_index, sym, subst, refl, arith}
use Rattle.decision_diagram.specs.declared.node.Shape.TheVariants.{Inner}
use Rattle.decision_diagram.specs.Diagrams.{shape_of}
use Rattle.decision_diagram.proofs.Fits.{fits_at}
use Rattle.decision_diagram.proofs.ListItems.{read}
use Rattle.decision_diagram.proofs.Meanings.{level_at_most}
use Rattle.decision_diagram.proofs.store.Store.value.Goals as goal
use Rattle.domains.proofs.Ranks.{length_fits}

pub get-requires : goal.get-requires
get-requires c =
    let long = length_fits c.args.self.now.sizes c.args.codes.now c.requires.codes in
    let below = c.in-Inner.ensures.var c.in-Inner.var refl in
    omega arith

pub child-at-requires-clause-code : goal.child-at-requires-clause-code
child-at-requires-clause-code c =
    let below = c.in-Inner.ensures.var c.in-Inner.var refl in
    let long = c.in-Inner.ensures.kids c.in-Inner.var refl in
    let fit = fits_at c.args.self.now.sizes c.args.codes.now c.requires.codes c.in-Inner.var
    below in
    let is : slice_index c.args.codes.now c.in-Inner.var ≡ c.get.result.now =
    subst (λ (k : ℕ). slice_index c.args.codes.now k ≡ c.get.result.now) c.from.ensures
    (read c.args.codes.now c.from.result c.get.result.now 0 c.get.ensures) in
    omega arith

pub loop-var-smaller : goal.loop-var-smaller
loop-var-smaller c =
    let later = c.child-at.ensures.later in
    let most = level_at_most c.args.self.now c.child-at.result in
    omega arith

pub loop-var-preserved : goal.loop-var-preserved
loop-var-preserved c =
    let is : slice_index c.args.codes.now c.in-Inner.var ≡ c.get.result.now =
    subst (λ (k : ℕ). slice_index c.args.codes.now k ≡ c.get.result.now) c.from.ensures
    (read c.args.codes.now c.from.result c.get.result.now 0 c.get.ensures) in
    let shape : shape_of c.args.self.now c.loop-var.at ≡ Inner c.in-Inner.var =
    sym c.shape.ensures.shape ∙ c.in-Inner.is in
    record {
      node = c.child-at.ensures.node;
      same = c.loop-var.invariant.same ∙ c.child-at.ensures.value c.in-Inner.var c.args.codes.now
          shape is;
    }
