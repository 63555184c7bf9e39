use Rattle.std.proofs.Common.{◌≡◌, ◌⊎◌, ◌∙◌, ◌∷◌, [], ⊎_elim, inl, inr, ℕ, List, Some, Result, OnOk, OnErr, cond, sym, subst}
use Rattle.std.specs.Str.{bytes_eq}
use Rattle.decision_diagram.specs.declared.operation.Operation.{Operation}
use Rattle.decision_diagram.specs.declared.operation.Operation.TheVariants.{And, Or}
use Rattle.decision_diagram.specs.Diagrams.{Diagrams}
use Rattle.polis_base.specs.Index.{Keyed, found}
use Rattle.decision_diagram.specs.Operations.{IsResult, AreResults}
use Rattle.decision_diagram.specs.Stores.{diagrams}
use Rattle.decision_diagram.proofs.OperationResults.{results_after}
use Rattle.decision_diagram.proofs.store.Store.remember.Goals as goal

-- a key that is the same as a pair
key_pair : (key pair : List ℕ) (a b : ℕ) → key ≡ pair
    → (pair ≡ a ∷ b ∷ []) ⊎ (pair ≡ b ∷ a ∷ []) → (key ≡ a ∷ b ∷ []) ⊎ (key ≡ b ∷ a ∷ [])
key_pair key pair a b is either =
    ⊎_elim (λ forth. inl (is ∙ forth)) (λ back. inr (is ∙ back)) either

after : {E : Type 0} (s now : Diagrams) (op other : Operation) (old new : Keyed)
    (key : List ℕ) (a b n number : ℕ) (r : Result (Unit {0}) E) → s ≡ now → op ≡ other
    → AreResults s other old → IsResult now op a b n → number ≡ n
    → (key ≡ a ∷ b ∷ []) ⊎ (key ≡ b ∷ a ∷ [])
    → OnOk r ((q : List ℕ) → found new q ≡ cond (bytes_eq key q) (Some number) (found old q))
    → OnErr r ((q : List ℕ) → found new q ≡ found old q) → AreResults s other new
after s now op other old new key a b n number r same op_is results result number_is pair made left =
    let here : IsResult s other a b number =
    subst (λ (d : Diagrams). IsResult d other a b number) (sym same)
    (subst (λ (o : Operation). IsResult now o a b number) op_is
    (subst (λ (m : ℕ). IsResult now op a b m) (sym number_is) result)) in
    results_after s other old new key a b number r results here pair made left

pub invariant_of-self : goal.invariant_of-self
invariant_of-self c = record {
  reduced = c.self.invariant.reduced;
  keys = c.self.invariant.keys;
  conjunctions = after (diagrams c.self.inside) c.args.self.now c.args.op And
      c.self.inside.conjunctions c.enter.new.index c.in_ok-key.key.items c.args.a
      c.args.b c.args.n c.number.result c.enter.result c.self.view_is c.in-And.is
      c.self.invariant.conjunctions c.requires c.number.ensures
      (key_pair c.in_ok-key.key.items c.pair.result c.args.a c.args.b c.in_ok-key.ensures.items
      c.pair.ensures)
      c.enter.ensures.ok c.enter.ensures.err;
  disjunctions = c.self.invariant.disjunctions;
}

pub invariant_of-self-in-Or : goal.invariant_of-self-in-Or
invariant_of-self-in-Or c = record {
  reduced = c.self.invariant.reduced;
  keys = c.self.invariant.keys;
  conjunctions = c.self.invariant.conjunctions;
  disjunctions = after (diagrams c.self.inside) c.args.self.now c.args.op Or
      c.self.inside.disjunctions c.enter-in-Or.new.index c.in_ok-key.key.items c.args.a
      c.args.b c.args.n c.number-in-Or.result c.enter-in-Or.result c.self.view_is c.in-Or.is
      c.self.invariant.disjunctions c.requires c.number-in-Or.ensures
      (key_pair c.in_ok-key.key.items c.pair.result c.args.a c.args.b c.in_ok-key.ensures.items
      c.pair.ensures)
      c.enter-in-Or.ensures.ok c.enter-in-Or.ensures.err;
}
