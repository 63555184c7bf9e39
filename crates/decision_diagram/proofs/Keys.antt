-- Inner nodes that are kept as their keys.
use Rattle.std.proofs.Common.{◌≡◌, ◌⊎◌, inl, inr, ⊎_elim, ℕ, zero, suc, ◌-◌, ◌<◌, ◌≤◌, Bool, true, false, List, [], ◌∷◌, ◌++◌, length, get_or, slice_get, Some, None, refl, sym, ap, ◌∙◌, subst, arith, true≢false, if◌then◌else◌}
use Rattle.std.specs.Cmp.Lexicographic.{bytes_decides}
use Rattle.std.specs.List.{list_any}
use Rattle.std.specs.Prelude.{option_map}
use Rattle.std.specs.Str.{bytes_eq}
use Rattle.std.proofs.lemmas.Bool.{cases_Bool}
use Rattle.std.proofs.lemmas.List.{map-append, length-map}
use Rattle.std.proofs.lemmas.Option.{slice_get-map}
use Rattle.indexmap.specs.IndexSet.{insert_key}
use Rattle.decision_diagram.specs.Diagrams.{Diagrams, Node, inner_at, IsNode}
use Rattle.decision_diagram.specs.Keys.{Key, IsKey, AreKeys, node_of, nodes_of}
use Rattle.decision_diagram.proofs.ListItems.{read_some}
use Rattle.decision_diagram.proofs.Nodes.{inner_high, inner_within}

-- whether a key has these numbers
abbrev has : List ℕ → Key → Bool
has numbers key = bytes_eq numbers key.items

-- the node of the key at a place
pub inner_key : (keys : List Key) (n : ℕ) (key : Key) → 2 ≤ n → slice_get keys (n - 2) ≡ Some key
    → inner_at (nodes_of keys) n ≡ Some (node_of key.items)
inner_key keys n key large is =
    inner_high (nodes_of keys) n large
    ∙ slice_get-map (λ (k : Key). node_of k.items) keys (n - 2)
    ∙ ap (option_map (λ (k : Key). node_of k.items)) is

-- the key that was read at an inner node's place
pub key_read : (s : Diagrams) (keys lent : List Key) (key : Key) (n : ℕ) → nodes_of keys ≡ s.nodes
    → lent ≡ keys → 2 ≤ n → IsNode s n → key ≡ get_or lent (n - 2) key
    → slice_get keys (n - 2) ≡ Some key
key_read s keys lent key n same lends large node is =
    let long : length s.nodes ≡ length keys =
    sym (ap (length {A = Node}) same) ∙ length-map keys (λ (k : Key). node_of k.items) in
    read_some keys (n - 2) key (omega arith)
    ∙ ap Some (sym (is ∙ ap (λ (ks : List Key). get_or ks (n - 2) key) lends))

-- ---- no key is found
-- the numbers of a key are those of its node
key_items : (key : List ℕ) → IsKey key → (node_of key).var ∷ (node_of key).kids ≡ key
key_items [] ok = absurd (let h = ok.some in omega arith)
key_items (v ∷ kids) ok = refl

-- the key of an inner node
pub key_there : (keys : List Key) (n : ℕ) (node : Node) → inner_at (nodes_of keys) n ≡ Some node
    → (key : Key) × (slice_get keys (n - 2) ≡ Some key) × (node ≡ node_of key.items)
    × (n - 2 < length keys)
key_there keys n node is =
    let within = inner_within (nodes_of keys) n node is in
    let at = sym (slice_get-map (λ (k : Key). node_of k.items) keys (n - 2))
    ∙ sym (inner_high (nodes_of keys) n within.0) ∙ is in
    some keys (n - 2) at
  where
    some : (ks : List Key) (k : ℕ)
        → option_map (λ (key : Key). node_of key.items) (slice_get ks k) ≡ Some node
        → (key : Key) × (slice_get ks k ≡ Some key) × (node ≡ node_of key.items) × (k < length ks)
    some [] k at = absurd (let e : None ≡ Some node = at in cc)
    some (x ∷ xs) zero at =
        (x, refl, (let e : Some (node_of x.items) ≡ Some node = at in cc), omega arith)
    some (x ∷ xs) (suc k) at =
        let w = some xs k at in (w.0, w.1, w.2, let h = w.3 in omega arith)

absent : (keys : List Key) (numbers : List ℕ) → list_any (has numbers) keys ≡ false → (i : ℕ)
    (key : Key) → slice_get keys i ≡ Some key → numbers ≡ key.items → ⊥
absent [] numbers none i key at items = absurd (let e : None ≡ Some key = at in cc)
absent (x ∷ xs) numbers none i key at items =
    ⊎_elim
    (λ same. let t : list_any (has numbers) (x ∷ xs) ≡ true = rw same refl in
    true≢false (sym t ∙ none))
    (λ apart. let e : list_any (has numbers) (x ∷ xs) ≡ list_any (has numbers) xs = rw apart refl in
    rest i at apart (λ j there. absent xs numbers (sym e ∙ none) j key there items))
    (cases_Bool (has numbers x))
  where
    rest : (i : ℕ) → slice_get (x ∷ xs) i ≡ Some key → has numbers x ≡ false
        → ((j : ℕ) → slice_get xs j ≡ Some key → ⊥) → ⊥
    rest zero at apart later =
        let e : Some x ≡ Some key = at in
        let f : x ≡ key = cc in
        true≢false (sym ((bytes_decides numbers x.items).1
        (items ∙ ap (λ (k : Key). k.items) (sym f))) ∙ apart)
    rest (suc i) at apart later = later i at

-- a node whose key isn't there isn't there
pub number_fresh : (keys : List Key) (var : ℕ) (kids : List ℕ) → AreKeys keys
    → list_any (has (var ∷ kids)) keys ≡ false → (n : ℕ) (other : Node)
    → inner_at (nodes_of keys) n ≡ Some other → other.var ≡ var → other.kids ≡ kids → ⊥
number_fresh keys var kids ok none n other is same_var same_kids =
    let w = key_there keys n other is in
    absent keys (var ∷ kids) none (n - 2) w.0 w.1
    (sym (ap (λ (v : ℕ). v ∷ kids) same_var)
    ∙ sym (ap (λ (xs : List ℕ). other.var ∷ xs) same_kids)
    ∙ ap (λ (node : Node). node.var ∷ node.kids) w.2 ∙ key_items w.0.items (ok (n - 2) w.0 w.1))

-- ---- one more key
-- the keys once one is entered
abbrev pub with_key : List Key → Key → List Key
with_key keys key = insert_key (λ (a b : Key). bytes_eq a.items b.items) keys key

-- it is there already, or it goes last and its node may be made
pub key_enters : (keys : List Key) (key : Key) (var : ℕ) (kids : List ℕ) → key.items ≡ var ∷ kids
    → (with_key keys key ≡ keys)
    ⊎ ((with_key keys key ≡ keys ++ key ∷ []) × (list_any (has (var ∷ kids)) keys ≡ false))
key_enters keys key var kids is =
    ⊎_elim
    (λ there. inl (ap (λ (b : Bool). if b then keys else keys ++ key ∷ []) there))
    (λ none. inr (
      ap (λ (b : Bool). if b then keys else keys ++ key ∷ []) none,
      subst (λ (numbers : List ℕ). list_any (has numbers) keys ≡ false) is none,
    ))
    (cases_Bool (list_any (has key.items) keys))

-- the node of a key that goes last goes last
pub nodes_more : (keys : List Key) (key : Key) (var : ℕ) (kids : List ℕ) → key.items ≡ var ∷ kids
    → nodes_of (keys ++ key ∷ []) ≡ nodes_of keys ++ node_of (var ∷ kids) ∷ []
nodes_more keys key var kids is =
    map-append (λ (k : Key). node_of k.items) keys (key ∷ [])
    ∙ ap (λ (k : List ℕ). nodes_of keys ++ node_of k ∷ []) is

pub keys_more : (keys : List Key) (key : Key) → AreKeys keys → IsKey key.items
    → AreKeys (keys ++ key ∷ [])
keys_more [] key ok good zero other is =
    let e : Some key ≡ Some other = is in
    let f : key ≡ other = cc in subst (λ (k : Key). IsKey k.items) f good
keys_more [] key ok good (suc i) other is = absurd (let e : None ≡ Some other = is in cc)
keys_more (k ∷ ks) key ok good zero other is = ok 0 other is
keys_more (k ∷ ks) key ok good (suc i) other is =
    keys_more ks key (λ j at there. ok (suc j) at there) good i other is
