-- What entering a key leaves.
use Rattle.std.proofs.Common.{◌≡◌, ⊎_elim, ℕ, ◌+◌, ◌-◌, ◌<◌, ◌≤◌, true, List, [], ◌∷◌, ◌++◌, length, slice_get, slice_index, Some, refl, sym, ap, ◌∙◌, subst, arith}
use Rattle.std.specs.Cmp.Lexicographic.{bytes_decides}
use Rattle.std.specs.Str.{bytes_eq}
use Rattle.domains.specs.Orders.{place}
use Rattle.domains.specs.Tables.{fits}
use Rattle.decision_diagram.specs.Diagrams.{Diagrams, Node, inner_at, AreReduced, IsNode, Keeps, Means, choice, level_of}
use Rattle.decision_diagram.specs.inner.Diagrams.{IsNew, HasNode}
use Rattle.decision_diagram.specs.Keys.{Key, IsKey, AreKeys, node_of, nodes_of}
use Rattle.decision_diagram.proofs.Fits.{fits_at}
use Rattle.decision_diagram.proofs.Growth.{keeps_same, keeps_node, reduced_more}
use Rattle.decision_diagram.proofs.Keys.{with_key, key_enters, nodes_more, keys_more, inner_key, number_fresh}
use Rattle.decision_diagram.proofs.Meanings.{means_found, level_found}

-- the diagrams with the nodes of these keys
abbrev pub with_keys : Diagrams → List Key → Diagrams
with_keys s keys = record { sizes = s.sizes; order = s.order; nodes = nodes_of keys }

-- the keys are those of the store and of no or one more node
pub record IsGrown (s : Diagrams) (keys : List Key) : Type 0 where
  pub reduced : AreReduced (with_keys s keys)
  pub good : AreKeys keys
  pub kept : Keeps s (with_keys s keys)

-- the same keys
pub grown_same : (s : Diagrams) (keys : List Key) → nodes_of keys ≡ s.nodes → AreReduced s
    → AreKeys keys → IsGrown s keys
grown_same s keys same ok good =
    let with_nodes : List Node → Diagrams =
    λ nodes. record { sizes = s.sizes; order = s.order; nodes = nodes } in
    record {
      reduced = subst (λ (nodes : List Node). AreReduced (with_nodes nodes)) (sym same) ok;
      good = good;
      kept = subst (λ (nodes : List Node). Keeps s (with_nodes nodes)) (sym same) (keeps_same s);
    }

-- one more key, whose node may be made
grown_more : (s : Diagrams) (keys : List Key) (key : Key) (var : ℕ) (kids : List ℕ)
    → nodes_of keys ≡ s.nodes → AreReduced s → AreKeys keys → IsKey key.items
    → key.items ≡ var ∷ kids → IsNew s (record { var = var; kids = kids })
    → IsGrown s (keys ++ key ∷ [])
grown_more s keys key var kids same ok good narrow is new =
    let node : Node = record { var = var; kids = kids } in
    let with_nodes : List Node → Diagrams =
    λ nodes. record { sizes = s.sizes; order = s.order; nodes = nodes } in
    let nodes : nodes_of (keys ++ key ∷ []) ≡ s.nodes ++ node ∷ [] =
    nodes_more keys key var kids is ∙ ap (λ (xs : List Node). xs ++ node ∷ []) same in
    record {
      reduced = subst (λ (xs : List Node). AreReduced (with_nodes xs)) (sym nodes)
          (reduced_more s ok node new);
      good = keys_more keys key good narrow;
      kept = subst (λ (xs : List Node). Keeps s (with_nodes xs)) (sym nodes) (keeps_node s ok node);
    }

-- a key is entered whose node may be made where it isn't there yet
pub grown : (s : Diagrams) (keys : List Key) (key : Key) (var : ℕ) (kids : List ℕ)
    → nodes_of keys ≡ s.nodes → AreReduced s → AreKeys keys → IsKey key.items
    → key.items ≡ var ∷ kids
    → (((n : ℕ) (other : Node) → inner_at s.nodes n ≡ Some other → other.var ≡ var
    → other.kids ≡ kids → ⊥) → IsNew s (record { var = var; kids = kids }))
    → IsGrown s (with_key keys key)
grown s keys key var kids same ok good narrow is new =
    ⊎_elim
    (λ there. subst (IsGrown s) (sym there) (grown_same s keys same ok good))
    (λ last. subst (IsGrown s) (sym last.0)
    (grown_more s keys key var kids same ok good narrow is
    (new (subst (λ (nodes : List Node). (n : ℕ) (other : Node) → inner_at nodes n ≡ Some other
    → other.var ≡ var → other.kids ≡ kids → ⊥) same
    (number_fresh keys var kids good last.1)))))
    (key_enters keys key var kids is)

-- the node of the key at a place
pub entered : (s : Diagrams) (keys : List Key) (key at : Key) (var : ℕ) (kids : List ℕ) (place : ℕ)
    → key.items ≡ var ∷ kids → slice_get keys place ≡ Some at
    → bytes_eq key.items at.items ≡ true → HasNode (with_keys s keys) (place + 2) var kids
entered s keys key at var kids place is there same =
    let items : at.items ≡ var ∷ kids = sym ((bytes_decides key.items at.items).0 same) ∙ is in
    let back : place + 2 - 2 ≡ place = omega arith in (
      node_of (var ∷ kids),
      inner_key keys (place + 2) at (omega arith) (ap (slice_get keys) back ∙ there)
          ∙ ap (λ (k : List ℕ). Some (node_of k)) items,
      refl,
      refl,
    )

-- its value, where the children are of the earlier store
pub entered_means : (s new : Diagrams) (var : ℕ) (kids : List ℕ) (n : ℕ) → AreReduced new
    → Keeps s new → var < length s.sizes → length kids ≡ slice_index s.sizes var
    → ((code : ℕ) → code < length kids → IsNode s (slice_index kids code)) → HasNode new n var kids
    → Means new n (choice s var kids)
entered_means s new var kids n ok kept below long nodes has =
    let all = means_found new ok var kids n has in
    record {
      node = all.node;
      value = λ codes fit.
          let low : slice_index codes var < slice_index s.sizes var =
          fits_at s.sizes codes (ap (λ (sizes : List ℕ). fits sizes codes) (sym kept.sizes) ∙ fit)
          var below in
          all.value codes fit
          ∙ kept.values (slice_index kids (slice_index codes var)) codes
          (nodes (slice_index codes var) (omega arith));
    }

pub entered_level : (s new : Diagrams) (var : ℕ) (kids : List ℕ) (n : ℕ) → Keeps s new
    → HasNode new n var kids → place s.order var ≤ level_of new n
entered_level s new var kids n kept has =
    let e : place new.order var ≡ place s.order var =
    ap (λ (order : List ℕ). place order var) kept.order in
    let low = level_found new var kids n has in
    omega arith
