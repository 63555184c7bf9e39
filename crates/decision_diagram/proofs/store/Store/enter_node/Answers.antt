use Rattle.std.proofs.Common.{◌≡◌, ◌≤◌, ◌+◌, ℕ, List, sym, ap, subst}
use Rattle.domains.specs.Orders.{place}
use Rattle.decision_diagram.specs.declared.operation.Operation.TheVariants.{And, Or}
use Rattle.decision_diagram.specs.Diagrams.{Diagrams, AreReduced, Keeps, Means, choice, level_of}
use Rattle.decision_diagram.specs.inner.Diagrams.{HasNode}
use Rattle.decision_diagram.specs.Keys.{Key, AreKeys, nodes_of}
use Rattle.decision_diagram.specs.Stores.{diagrams}
use Rattle.decision_diagram.proofs.EnteredKeys.{IsGrown, grown, grown_same, entered, entered_means, entered_level, with_keys}
use Rattle.decision_diagram.proofs.Keys.{with_key}
use Rattle.decision_diagram.proofs.Meanings.{new_node}
use Rattle.decision_diagram.proofs.OperationResults.{results_keep}
use Rattle.decision_diagram.proofs.store.Store.enter_node.Goals as goal

pub invariant_of-self : goal.invariant_of-self
invariant_of-self c =
    let base = diagrams c.self.inside in
    let keys = c.self.inside.nodes.keys in
    let after : List Key = c.insert_full.new.self.keys in
    let is : after ≡ keys = c.in_err-place.ensures.err in
    let more : IsGrown base after =
    grown_same base after (ap nodes_of is) c.self.invariant.reduced
    (subst AreKeys (sym is) c.self.invariant.keys) in
    record {
      reduced = more.reduced;
      keys = more.good;
      conjunctions = results_keep base _ And c.self.inside.conjunctions more.kept
          c.self.invariant.conjunctions;
      disjunctions = results_keep base _ Or c.self.inside.disjunctions more.kept
          c.self.invariant.disjunctions;
    }

pub invariant_of-self-2 : goal.invariant_of-self-2
invariant_of-self-2 c =
    let s = c.args.self.now in
    let base = diagrams c.self.inside in
    let keys = c.self.inside.nodes.keys in
    let after : List Key = c.insert_full.new.self.keys in
    let key = c.in_ok-key.key in
    let ok = subst (λ (d : Diagrams). AreReduced d) c.self.view_is c.self.invariant.reduced in
    let same = ap (λ (d : Diagrams). d.nodes) c.self.view_is in
    let made : IsGrown s (with_key keys key) =
    grown s keys key c.args.var c.args.kids.now same ok c.self.invariant.keys
    c.in_ok-key.ensures.key c.in_ok-key.ensures.items
    (λ fresh. new_node s ok c.args.var c.args.kids.now fresh c.requires.var c.requires.kids
    c.requires.nodes c.requires.later c.requires.varied) in
    let more : IsGrown base after =
    subst (λ (d : Diagrams). IsGrown d after) (sym c.self.view_is)
    (subst (IsGrown s) (sym c.in_ok-place.ensures.keys) made) in
    record {
      reduced = more.reduced;
      keys = more.good;
      conjunctions = results_keep base _ And c.self.inside.conjunctions more.kept
          c.self.invariant.conjunctions;
      disjunctions = results_keep base _ Or c.self.inside.disjunctions more.kept
          c.self.invariant.disjunctions;
    }

pub returns-clause-kept : goal.returns-clause-kept
returns-clause-kept c =
    let s = c.args.self.now in
    let base = diagrams c.self.inside in
    let keys = c.self.inside.nodes.keys in
    let after : List Key = c.insert_full.new.self.keys in
    let key = c.in_ok-key.key in
    let ok = subst (λ (d : Diagrams). AreReduced d) c.self.view_is c.self.invariant.reduced in
    let same = ap (λ (d : Diagrams). d.nodes) c.self.view_is in
    let made : IsGrown s (with_key keys key) =
    grown s keys key c.args.var c.args.kids.now same ok c.self.invariant.keys
    c.in_ok-key.ensures.key c.in_ok-key.ensures.items
    (λ fresh. new_node s ok c.args.var c.args.kids.now fresh c.requires.var c.requires.kids
    c.requires.nodes c.requires.later c.requires.varied) in
    let more : IsGrown base after =
    subst (λ (d : Diagrams). IsGrown d after) (sym c.self.view_is)
    (subst (IsGrown s) (sym c.in_ok-place.ensures.keys) made) in
    let kept : Keeps s (with_keys base after) =
    subst (λ (d : Diagrams). Keeps d (with_keys base after)) c.self.view_is more.kept in
    kept

pub returns-clause-value : goal.returns-clause-value
returns-clause-value c =
    let s = c.args.self.now in
    let base = diagrams c.self.inside in
    let keys = c.self.inside.nodes.keys in
    let after : List Key = c.insert_full.new.self.keys in
    let key = c.in_ok-key.key in
    let ok = subst (λ (d : Diagrams). AreReduced d) c.self.view_is c.self.invariant.reduced in
    let same = ap (λ (d : Diagrams). d.nodes) c.self.view_is in
    let made : IsGrown s (with_key keys key) =
    grown s keys key c.args.var c.args.kids.now same ok c.self.invariant.keys
    c.in_ok-key.ensures.key c.in_ok-key.ensures.items
    (λ fresh. new_node s ok c.args.var c.args.kids.now fresh c.requires.var c.requires.kids
    c.requires.nodes c.requires.later c.requires.varied) in
    let more : IsGrown base after =
    subst (λ (d : Diagrams). IsGrown d after) (sym c.self.view_is)
    (subst (IsGrown s) (sym c.in_ok-place.ensures.keys) made) in
    let kept : Keeps s (with_keys base after) =
    subst (λ (d : Diagrams). Keeps d (with_keys base after)) c.self.view_is more.kept in
    let stored = c.in_ok-place.ensures.stored in
    let has : HasNode (with_keys base after) (c.in_ok-place.place + 2) c.args.var c.args.kids.now =
    entered base after key stored.0 c.args.var c.args.kids.now c.in_ok-place.place
    c.in_ok-key.ensures.items stored.1 stored.2 in
    subst (λ (n : ℕ). Means (with_keys base after) n (choice s c.args.var c.args.kids.now))
    (sym c.new.ensures)
    (entered_means s (with_keys base after) c.args.var c.args.kids.now (c.in_ok-place.place + 2)
    more.reduced kept c.requires.var c.requires.kids c.requires.nodes has)

pub returns-clause-level : goal.returns-clause-level
returns-clause-level c =
    let s = c.args.self.now in
    let base = diagrams c.self.inside in
    let keys = c.self.inside.nodes.keys in
    let after : List Key = c.insert_full.new.self.keys in
    let key = c.in_ok-key.key in
    let ok = subst (λ (d : Diagrams). AreReduced d) c.self.view_is c.self.invariant.reduced in
    let same = ap (λ (d : Diagrams). d.nodes) c.self.view_is in
    let made : IsGrown s (with_key keys key) =
    grown s keys key c.args.var c.args.kids.now same ok c.self.invariant.keys
    c.in_ok-key.ensures.key c.in_ok-key.ensures.items
    (λ fresh. new_node s ok c.args.var c.args.kids.now fresh c.requires.var c.requires.kids
    c.requires.nodes c.requires.later c.requires.varied) in
    let more : IsGrown base after =
    subst (λ (d : Diagrams). IsGrown d after) (sym c.self.view_is)
    (subst (IsGrown s) (sym c.in_ok-place.ensures.keys) made) in
    let kept : Keeps s (with_keys base after) =
    subst (λ (d : Diagrams). Keeps d (with_keys base after)) c.self.view_is more.kept in
    let stored = c.in_ok-place.ensures.stored in
    let has : HasNode (with_keys base after) (c.in_ok-place.place + 2) c.args.var c.args.kids.now =
    entered base after key stored.0 c.args.var c.args.kids.now c.in_ok-place.place
    c.in_ok-key.ensures.items stored.1 stored.2 in
    subst (λ (n : ℕ). place s.order c.args.var ≤ level_of (with_keys base after) n)
    (sym c.new.ensures)
    (entered_level s (with_keys base after) c.args.var c.args.kids.now (c.in_ok-place.place + 2)
    kept has)
