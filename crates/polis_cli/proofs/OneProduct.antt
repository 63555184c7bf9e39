-- What is made of one network text is one product.
use Rattle.std.proofs.Common.{◌≡◌, ◌≤◌, ℕ, suc, List, [], ◌∷◌, length, slice_get, Some, refl, ap, sym, subst, ◌∙◌, arith, codes}
use mathlib.Core.HLevel.{is_prop→PathP}
use Rattle.std.specs.Coded.{le_prop}
use Rattle.polis_base.specs.declared.limits.TheConstants.{COST_MAX}
use Rattle.polis_base.specs.Host.{Files, bytes_at}
use Rattle.domains.specs.Least.{IsLeast}
use Rattle.domains.proofs.IsLeast.{one_least}
use Rattle.net_reader.specs.declared.raw.RawNet.{RawNet}
use Rattle.transition_table.specs.declared.machine.Machine.{Machine}
use Rattle.transition_table.specs.declared.network.Network.{Network}
use Rattle.transition_table.specs.Transitions.{IsDeterministic}
use Rattle.task_code.specs.Listings.{Part}
use Rattle.machine_compiler.specs.Parts.{AreRightParts}
use Rattle.machine_compiler.proofs.OneRightPart.{one_right_part, one_right_parts}
use Rattle.cost_bound.specs.declared.bound.Bound.{Bound}
use Rattle.cost_bound.specs.declared.bound.Range.{Range}
use Rattle.cost_bound.specs.declared.costs.Costs.{Costs}
use Rattle.cost_bound.specs.Bounds.{IsWorst, IsBest}
use Rattle.cost_bound.specs.Costs.{CostOf}
use Rattle.polis_words.specs.declared.requests.Request.TheVariants as requests
use Rattle.polis_words.specs.declared.requests.costs.GivenCosts.{GivenCosts}
use Rattle.polis_words.specs.declared.requests.command.FromNet.{FromNet}
use Rattle.polis_words.specs.declared.requests.command.FromNet.TheVariants.{Compile, Image, Draw}
use Rattle.polis_words.specs.declared.requests.command.OnNet.{OnNet}
use Rattle.polis_words.specs.Check.{CheckWords}
use Rattle.polis_words.specs.NetStem.{NetStemWords}
use Rattle.output_files.specs.declared.product.Product.{Product}
use Rattle.task_image.specs.Fields.{ImageBytes}
use Rattle.input_files.specs.Inputs.{HoldsNet}
use Rattle.commands.specs.Bound.{AreCosts, AreRanges, IsRange, bound_product}
use Rattle.commands.specs.Equiv.{equiv_product}
use Rattle.commands.specs.Image.{image_of_parts, image_product}
use Rattle.commands.specs.NetProducts.{MakesOfParts, compile_product, draw_product, product_of}
use Rattle.polis_cli.specs.OneProduct.{ProductsOfTexts, at_stem, held_under, no_stem, nothing}
use Rattle.commands.proofs.OneNet.{one_held_net}
use Rattle.polis_cli.proofs.Held.{first_same, one_declared}

-- ---- what is of the network
pub equiv_one : ProductsOfTexts requests.Equiv (λ w. w.net ∷ w.other ∷ []) nothing no_stem
equiv_one one two before now p q texts says a b =
    let net = one_held_net before now one.net two.net a.net b.net (first_same texts) a.holds.holds_net
    b.holds.holds_net in
    (equiv_product a.net, a.made, b.made ∙ ap equiv_product (sym net))

pub on_net_one : (kind : OnNet) → ProductsOfTexts (λ (w : CheckWords). requests.OnNet kind w)
    (λ w. w.net ∷ []) nothing no_stem
on_net_one kind one two before now p q texts says a b =
    let is = one_declared before now one.net two.net a.raw b.raw a.net b.net (first_same texts)
    a.holds b.holds in (
      product_of kind a.raw a.net,
      a.made,
      b.made ∙ ap (λ (r : RawNet). product_of kind r b.net) (sym is.raw_same)
          ∙ ap (product_of kind a.raw) (sym is.net_same),
    )

-- ---- what is of right parts
-- two networks with their right parts that one text gives are one
record AreOne (a b : Network) (p q : List Part) : Type 0 where
  net : a ≡ b
  parts : p ≡ q

right_parts : (before now : Files) (name other : List ℕ) (a b : Network) (p q : List Part)
    → bytes_at before name ≡ bytes_at now other → HoldsNet before name a → HoldsNet now other b
    → AreRightParts a p → AreRightParts b q → AreOne a b p q
right_parts before now name other a b p q same one two right rights =
    let net = one_held_net before now name other a b same one two in
    record {
      net = net;
      parts = one_right_parts a p q one.accepted.1 right
          (subst (λ (n : Network). AreRightParts n q) (sym net) rights);
    }

-- what is made of them is one, too
made_of : {X : Type 0} (f : Network → List Part → X) (a b : Network) (p q : List Part)
    → AreOne a b p q → f b q ≡ f a p
made_of f a b p q one = ap (f b) (sym one.parts) ∙ ap (λ (n : Network). f n p) (sym one.net)

parts_one : (of : List ℕ → Network → List Part → Product)
    → ((stem : List ℕ) (net : Network) (parts : List Part)
    → of stem net parts ≡ at_stem stem (of [] net parts))
    → (one two : NetStemWords) (before now : Files) (p q : Product)
    → held_under before (one.net ∷ []) ≡ held_under now (two.net ∷ [])
    → MakesOfParts (of one.stem) one before p → MakesOfParts (of two.stem) two now q
    → (bare : Product) × (p ≡ at_stem one.stem bare) × (q ≡ at_stem two.stem bare)
parts_one of at one two before now p q texts a b = (
  of [] a.net a.parts,
  a.made ∙ at one.stem a.net a.parts,
  b.made ∙ made_of (of two.stem) a.net b.net a.parts b.parts
      (right_parts before now one.net two.net a.net b.net a.parts b.parts (first_same texts)
      a.holds_net b.holds_net a.right b.right) ∙ at two.stem a.net a.parts,
)

pub from_net_one : (kind : FromNet) → ProductsOfTexts
    (λ (w : NetStemWords). requests.FromNet kind w) (λ w. w.net ∷ []) nothing (λ w. w.stem)
from_net_one Compile one two before now p q texts says a b =
    parts_one compile_product (λ stem net parts. refl) one two before now p q texts a b
from_net_one Draw one two before now p q texts says a b =
    parts_one draw_product (λ stem net parts. refl) one two before now p q texts a b
from_net_one Image one two before now p q texts says a b =
    let bytes : b.bytes ≡ a.bytes = b.are_bytes.bytes_are
    ∙ made_of (λ (n : Network) (r : List Part). ImageBytes (image_of_parts n r)) a.net b.net
    a.parts b.parts
    (right_parts before now one.net two.net a.net b.net a.parts b.parts (first_same texts)
    a.holds_net b.holds_net a.right b.right) ∙ sym a.are_bytes.bytes_are in
    (image_product [] a.bytes, a.made, b.made ∙ ap (image_product two.stem) bytes)

-- ---- bounds
same_bound : (a b : Bound) → a.steps ≡ b.steps → a.snapshot.codes ≡ b.snapshot.codes → a ≡ b
same_bound a b steps codes =
    λ i. record { steps = steps i; snapshot = record { codes = codes i } }

one_worst : (m : Machine) (takes : List ℕ → ℕ) (a b : Bound) → IsWorst m takes a
    → IsWorst m takes b → a ≡ b
one_worst m takes a b wa wb =
    let below = wa.most b.snapshot.codes wb.first.fit in
    let above = wb.most a.snapshot.codes wa.first.fit in
    let of_a = wa.first.holds in
    let of_b = wb.first.holds in
    let steps : a.steps ≡ b.steps = omega arith in
    same_bound a b steps (one_least m.vars (λ s. takes s ≡ a.steps) a.snapshot.codes
    b.snapshot.codes wa.first
    (subst (λ (n : ℕ). IsLeast m.vars (λ s. takes s ≡ n) b.snapshot.codes) (sym steps) wb.first))

one_best : (m : Machine) (takes : List ℕ → ℕ) (a b : Bound) → IsBest m takes a → IsBest m takes b
    → a ≡ b
one_best m takes a b wa wb =
    let above = wa.least b.snapshot.codes wb.first.fit in
    let below = wb.least a.snapshot.codes wa.first.fit in
    let of_a = wa.first.holds in
    let of_b = wb.first.holds in
    let steps : a.steps ≡ b.steps = omega arith in
    same_bound a b steps (one_least m.vars (λ s. takes s ≡ a.steps) a.snapshot.codes
    b.snapshot.codes wa.first
    (subst (λ (n : ℕ). IsLeast m.vars (λ s. takes s ≡ n) b.snapshot.codes) (sym steps) wb.first))

one_range : (costs : Costs) (m : Machine) (a b : Range) → IsDeterministic m → IsRange costs m a
    → IsRange costs m b → a ≡ b
one_range costs m a b sure ra rb =
    let part = one_right_part m rb.part ra.part sure rb.right ra.right in
    let most = one_worst m (CostOf costs ra.part.code) a.most b.most ra.most
    (subst (λ (q : Part). IsWorst m (CostOf costs q.code) b.most) part rb.most) in
    let least = one_best m (CostOf costs ra.part.code) a.least b.least ra.least
    (subst (λ (q : Part). IsBest m (CostOf costs q.code) b.least) part rb.least) in
    λ i. record { most = most i; least = least i }

one_each : (costs : Costs) (ms : List Machine) (rs qs : List Range) → length rs ≡ length ms
    → length qs ≡ length ms
    → ((k : ℕ) (m : Machine) → slice_get ms k ≡ Some m → IsDeterministic m)
    → ((k : ℕ) (m : Machine) (r : Range) → slice_get ms k ≡ Some m → slice_get rs k ≡ Some r
    → IsRange costs m r)
    → ((k : ℕ) (m : Machine) (r : Range) → slice_get ms k ≡ Some m → slice_get qs k ≡ Some r
    → IsRange costs m r)
    → rs ≡ qs
one_each costs [] [] [] la lb sure ra rb = refl
one_each costs [] [] (b ∷ qs) la lb sure ra rb = absurd (omega arith)
one_each costs [] (a ∷ rs) qs la lb sure ra rb = absurd (omega arith)
one_each costs (m ∷ ms) [] qs la lb sure ra rb = absurd (omega arith)
one_each costs (m ∷ ms) (a ∷ rs) [] la lb sure ra rb = absurd (omega arith)
one_each costs (m ∷ ms) (a ∷ rs) (b ∷ qs) la lb sure ra rb =
    let one : a ≡ b = one_range costs m a b (sure 0 m refl) (ra 0 m a refl refl)
    (rb 0 m b refl refl) in
    let others : rs ≡ qs = one_each costs ms rs qs (omega arith) (omega arith)
    (λ k n at. sure (suc k) n at) (λ k n x s t. ra (suc k) n x s t)
    (λ k n x s t. rb (suc k) n x s t) in
    cc

same_costs : (a b : Costs) → a.test ≡ b.test → a.set ≡ b.set → a.jump ≡ b.jump → a.halt ≡ b.halt
    → a ≡ b
same_costs a b test set jump halt = λ i. record {
  test = test i;
  set = set i;
  jump = jump i;
  halt = halt i;
  few_test =
      is_prop→PathP (λ j. test j ≤ COST_MAX) (λ j. le_prop) a.few_test b.few_test i;
  few_set = is_prop→PathP (λ j. set j ≤ COST_MAX) (λ j. le_prop) a.few_set b.few_set i;
  few_jump =
      is_prop→PathP (λ j. jump j ≤ COST_MAX) (λ j. le_prop) a.few_jump b.few_jump i;
  few_halt =
      is_prop→PathP (λ j. halt j ≤ COST_MAX) (λ j. le_prop) a.few_halt b.few_halt i;
}

asked_costs : (given other : GivenCosts) (a b : Costs) → given ≡ other → AreCosts given a
    → AreCosts other b → b ≡ a
asked_costs given other a b same x y =
    let z = subst (λ (g : GivenCosts). AreCosts g b) (sym same) y in
    same_costs b a (z.test ∙ sym x.test) (z.set ∙ sym x.set) (z.jump ∙ sym x.jump)
    (z.halt ∙ sym x.halt)

pub bound_one : ProductsOfTexts requests.Bound (λ w. w.net ∷ []) (λ w. w.costs) no_stem
bound_one one two before now p q texts says a b =
    let net = one_held_net before now one.net two.net a.net b.net (first_same texts) a.holds_net
    b.holds_net in
    let costs = asked_costs one.costs two.costs a.costs b.costs says a.asked b.asked in
    let are = subst (λ (n : Network). AreRanges a.costs n b.ranges) (sym net)
    (subst (λ (c : Costs). AreRanges c b.net b.ranges) costs b.are) in
    let ranges = one_each a.costs a.net.machines a.ranges b.ranges a.are.long are.long
    a.holds_net.accepted.1 a.are.each are.each in (
      bound_product a.net a.ranges,
      a.made,
      b.made ∙ ap (bound_product b.net) (sym ranges)
          ∙ ap (λ (n : Network). bound_product n a.ranges) (sym net),
    )
