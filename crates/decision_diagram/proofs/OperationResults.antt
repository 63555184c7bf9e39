-- Conjunction and disjunction of values.
use Rattle.std.proofs.Common.{◌≡◌, ◌⊎◌, ⊎_elim, ℕ, ◌+◌, ◌<◌, ◌≤◌, Bool, true, false, not, cond, List, ◌∷◌, ◌++◌, min, length, slice_index, Some, Result, Ok, Err, OnOk, OnErr, IsTrue, refl, sym, ap, ◌∙◌, subst, arith, []}
use Rattle.std.specs.Cmp.Lexicographic.{bytes_decides}
use Rattle.std.specs.Str.{bytes_eq}
use Rattle.std.proofs.lemmas.Bool.{cases_lt, cases_Bool, cond-true, cond-false}
use Rattle.std.proofs.lemmas.List.{get_or_append_left, get_or_push, length_push}
use Rattle.domains.specs.Tables.{fits}
use Rattle.decision_diagram.specs.declared.operation.Operation.{Operation}
use Rattle.decision_diagram.specs.declared.operation.Operation.TheVariants.{And, Or}
use Rattle.polis_base.specs.Index.{Keyed, found}
use Rattle.decision_diagram.specs.Constants.{constant_node}
use Rattle.domains.specs.Orders.{place}
use Rattle.decision_diagram.specs.Diagrams.{Diagrams, IsNode, value_of, level_of, Keeps, Means, choice}
use Rattle.decision_diagram.specs.Operations.{combine, IsResult, AreResults}
use Rattle.decision_diagram.proofs.Fits.{fits_at}
use Rattle.decision_diagram.proofs.Growth.{keeps_level}
use Rattle.decision_diagram.proofs.Meanings.{value_constant}

absorb_left : (op : Operation) (y : Bool)
    → combine op (combine op true false) y ≡ combine op true false
absorb_left And y = refl
absorb_left Or y = refl

absorb_right : (op : Operation) (x : Bool)
    → combine op x (combine op true false) ≡ combine op true false
absorb_right And true = refl
absorb_right And false = refl
absorb_right Or true = refl
absorb_right Or false = refl

neutral_left : (op : Operation) (y : Bool) → combine op (not (combine op true false)) y ≡ y
neutral_left And y = refl
neutral_left Or y = refl

neutral_right : (op : Operation) (x : Bool) → combine op x (not (combine op true false)) ≡ x
neutral_right And true = refl
neutral_right And false = refl
neutral_right Or true = refl
neutral_right Or false = refl

same_twice : (op : Operation) (x : Bool) → combine op x x ≡ x
same_twice And true = refl
same_twice And false = refl
same_twice Or true = refl
same_twice Or false = refl

pub settled_left : (s : Diagrams) (op : Operation) (n a b : ℕ) (codes : List ℕ)
    → n ≡ constant_node (combine op true false) → a ≡ n
    → value_of s n codes ≡ combine op (value_of s a codes) (value_of s b codes)
settled_left s op n a b codes is same =
    let v = value_constant s (combine op true false) n codes is in
    v ∙ sym (absorb_left op (value_of s b codes))
    ∙ ap (λ (x : Bool). combine op x (value_of s b codes))
    (sym v ∙ ap (λ (m : ℕ). value_of s m codes) (sym same))

pub settled_right : (s : Diagrams) (op : Operation) (n a b : ℕ) (codes : List ℕ)
    → n ≡ constant_node (combine op true false) → b ≡ n
    → value_of s n codes ≡ combine op (value_of s a codes) (value_of s b codes)
settled_right s op n a b codes is same =
    let v = value_constant s (combine op true false) n codes is in
    v ∙ sym (absorb_right op (value_of s a codes))
    ∙ ap (combine op (value_of s a codes))
    (sym v ∙ ap (λ (m : ℕ). value_of s m codes) (sym same))

pub settled_other : (s : Diagrams) (op : Operation) (n a b : ℕ) (codes : List ℕ)
    → n ≡ constant_node (not (combine op true false)) → a ≡ n
    → value_of s b codes ≡ combine op (value_of s a codes) (value_of s b codes)
settled_other s op n a b codes is same =
    let v = value_constant s (not (combine op true false)) n codes is in
    sym (neutral_left op (value_of s b codes))
    ∙ ap (λ (x : Bool). combine op x (value_of s b codes))
    (sym v ∙ ap (λ (m : ℕ). value_of s m codes) (sym same))

pub settled_one : (s : Diagrams) (op : Operation) (n a b : ℕ) (codes : List ℕ)
    → n ≡ constant_node (not (combine op true false)) → b ≡ n
    → value_of s a codes ≡ combine op (value_of s a codes) (value_of s b codes)
settled_one s op n a b codes is same =
    let v = value_constant s (not (combine op true false)) n codes is in
    sym (neutral_right op (value_of s a codes))
    ∙ ap (combine op (value_of s a codes))
    (sym v ∙ ap (λ (m : ℕ). value_of s m codes) (sym same))

pub settled_same : (s : Diagrams) (op : Operation) (a b : ℕ) (codes : List ℕ) → a ≡ b
    → value_of s b codes ≡ combine op (value_of s a codes) (value_of s b codes)
settled_same s op a b codes same =
    sym (same_twice op (value_of s b codes))
    ∙ ap (λ (x : Bool). combine op x (value_of s b codes))
    (ap (λ (m : ℕ). value_of s m codes) (sym same))

-- the children so far of what an operation makes of two nodes, at the first codes of a variable
pub record AreParts (old new : Diagrams) (op : Operation) (a b var : ℕ) (kids : List ℕ) (n : ℕ) :
    Type 0 where
  pub long : length kids ≡ n
  pub nodes : (code : ℕ) → code < n → IsNode new (slice_index kids code)
  pub later : (code : ℕ) → code < n → place old.order var < level_of new (slice_index kids code)
  pub values : (code : ℕ) → code < n → (codes : List ℕ) → IsTrue (fits old.sizes codes)
      → slice_index codes var ≡ code → value_of new (slice_index kids code) codes
      ≡ combine op (value_of old a codes) (value_of old b codes)

pub parts_keeps : (old new newer : Diagrams) (op : Operation) (a b var : ℕ) (kids : List ℕ) (n : ℕ)
    → Keeps new newer → AreParts old new op a b var kids n → AreParts old newer op a b var kids n
parts_keeps old new newer op a b var kids n keeps parts = record {
  long = parts.long;
  nodes = λ code h. keeps.nodes (slice_index kids code) (parts.nodes code h);
  later = λ code h. let l = parts.later code h in
      let e = keeps_level new newer keeps (slice_index kids code) (parts.nodes code h) in
      omega arith;
  values = λ code h codes fit at. keeps.values (slice_index kids code) codes (parts.nodes code h)
      ∙ parts.values code h codes fit at;
}

pub parts_more : (old new : Diagrams) (op : Operation) (a b var : ℕ) (kids : List ℕ) (n kid : ℕ)
    → AreParts old new op a b var kids n → IsNode new kid → place old.order var < level_of new kid
    → ((codes : List ℕ) → IsTrue (fits old.sizes codes) → slice_index codes var ≡ n
    → value_of new kid codes ≡ combine op (value_of old a codes) (value_of old b codes))
    → AreParts old new op a b var (kids ++ kid ∷ []) (n + 1)
parts_more old new op a b var kids n kid parts node later value =
    let at_prefix : (code : ℕ) → code < n
    → slice_index (kids ++ kid ∷ []) code ≡ slice_index kids code = λ code h. let l =
    parts.long in get_or_append_left kids (kid ∷ []) 0 code (omega arith) in
    let at_end : (code : ℕ) → n ≤ code → code < n + 1 → slice_index (kids ++ kid ∷ []) code ≡ kid =
    λ code from to. let l = parts.long in get_or_push kids kid 0 code (omega arith) in
    record {
      long = let l = parts.long in length_push kids kid ∙ omega arith;
      nodes = λ code h.
          ⊎_elim (λ prefix. subst (IsNode new) (sym (at_prefix code prefix))
          (parts.nodes code prefix)) (λ now. subst (IsNode new) (sym (at_end code now h)) node)
          (cases_lt code n);
      later = λ code h.
          ⊎_elim (λ prefix. subst (λ (m : ℕ). place old.order var < level_of new m)
          (sym (at_prefix code prefix)) (parts.later code prefix))
          (λ now. subst (λ (m : ℕ). place old.order var < level_of new m) (sym (at_end code now h))
          later) (cases_lt code n);
      values = λ code h codes fit at.
          ⊎_elim
          (λ prefix. ap (λ (m : ℕ). value_of new m codes) (at_prefix code prefix)
          ∙ parts.values code prefix codes fit at)
          (λ now. ap (λ (m : ℕ). value_of new m codes) (at_end code now h)
          ∙ value codes fit (at ∙ omega arith))
          (cases_lt code n);
    }

-- the node with all the parts
pub parts_mean_one : (old new newest : Diagrams) (op : Operation) (a b var : ℕ) (kids : List ℕ)
    (n m : ℕ) → AreParts old new op a b var kids n → n ≡ slice_index old.sizes var
    → var < length old.sizes → newest.sizes ≡ old.sizes → Means newest m (choice new var kids)
    → Means newest m (λ codes. combine op (value_of old a codes) (value_of old b codes))
parts_mean_one old new newest op a b var kids n m parts size below same means = record {
  node = means.node;
  value = λ codes fit.
      let fit_old : IsTrue (fits old.sizes codes) =
      subst (λ (sizes : List ℕ). IsTrue (fits sizes codes)) same fit in
      let low = fits_at old.sizes codes fit_old var below in
      means.value codes fit ∙ parts.values (slice_index codes var) (omega arith) codes fit_old refl;
}

-- ---- what was computed before
combine_comm : (op : Operation) (x y : Bool) → combine op x y ≡ combine op y x
combine_comm And true true = refl
combine_comm And true false = refl
combine_comm And false true = refl
combine_comm And false false = refl
combine_comm Or true true = refl
combine_comm Or true false = refl
combine_comm Or false true = refl
combine_comm Or false false = refl

pub result_swap : (s : Diagrams) (op : Operation) (a b n : ℕ) → IsResult s op a b n
    → IsResult s op b a n
result_swap s op a b n result = record {
  left = result.right;
  right = result.left;
  node = result.node;
  value = λ codes fit. result.value codes fit
      ∙ combine_comm op (value_of s a codes) (value_of s b codes);
  level = let l = result.level in omega arith;
}

pub result_keeps : (old new : Diagrams) (op : Operation) (a b n : ℕ) → Keeps old new
    → IsResult old op a b n → IsResult new op a b n
result_keeps old new op a b n keeps result = record {
  left = keeps.nodes a result.left;
  right = keeps.nodes b result.right;
  node = keeps.nodes n result.node;
  value = λ codes fit.
      keeps.values n codes result.node
      ∙ result.value codes (subst (λ (sizes : List ℕ). IsTrue (fits sizes codes)) keeps.sizes fit)
      ∙ ap (λ (x : Bool). combine op x (value_of old b codes))
      (sym (keeps.values a codes result.left))
      ∙ ap (combine op (value_of new a codes)) (sym (keeps.values b codes result.right));
  level =
      let l = result.level in
      let e = keeps_level old new keeps a result.left in
      let f = keeps_level old new keeps b result.right in
      let g = keeps_level old new keeps n result.node in
      omega arith;
}

pub results_keep : (old new : Diagrams) (op : Operation) (index : Keyed)
    → Keeps old new → AreResults old op index → AreResults new op index
results_keep old new op index keeps results =
    λ a b n is. result_keeps old new op a b n keeps (results a b n is)

-- a result under the key of its two nodes, in one order or the other
pub results_more : (s : Diagrams) (op : Operation) (old new : Keyed)
    (key : List ℕ) (a b n : ℕ) → AreResults s op old → IsResult s op a b n
    → (key ≡ a ∷ b ∷ []) ⊎ (key ≡ b ∷ a ∷ [])
    → ((q : List ℕ) → found new q ≡ cond (bytes_eq key q) (Some n) (found old q))
    → AreResults s op new
results_more s op old new key a b n results result pair after = λ x y m is.
    ⊎_elim
    (λ same.
    let e : Some n ≡ Some m =
    sym (after (x ∷ y ∷ []) ∙ cond-true (bytes_eq key (x ∷ y ∷ [])) (Some n)
    (found old (x ∷ y ∷ [])) same) ∙ is in
    let n_is : n ≡ m = cc in
    let key_is = (bytes_decides key (x ∷ y ∷ [])).0 same in
    subst (IsResult s op x y) n_is (⊎_elim
    (λ forth. let f : a ∷ b ∷ [] ≡ x ∷ y ∷ [] = sym forth ∙ key_is in let a_is : a ≡ x = cc in
    let b_is : b ≡ y = cc in
    subst (λ (v : ℕ). IsResult s op v y n) a_is
    (subst (λ (w : ℕ). IsResult s op a w n) b_is result))
    (λ back. let f : b ∷ a ∷ [] ≡ x ∷ y ∷ [] = sym back ∙ key_is in let b_is : b ≡ x = cc in
    let a_is : a ≡ y = cc in
    subst (λ (v : ℕ). IsResult s op v y n) b_is
    (subst (λ (w : ℕ). IsResult s op b w n) a_is (result_swap s op a b n result)))
    pair))
    (λ apart. results x y m
    (sym (after (x ∷ y ∷ []) ∙ cond-false (bytes_eq key (x ∷ y ∷ [])) (Some n)
    (found old (x ∷ y ∷ [])) apart) ∙ is))
    (cases_Bool (bytes_eq key (x ∷ y ∷ [])))

pub results_same : (s : Diagrams) (op : Operation) (old new : Keyed)
    → AreResults s op old → ((q : List ℕ) → found new q ≡ found old q) → AreResults s op new
results_same s op old new results same = λ a b n is. results a b n (sym (same (a ∷ b ∷ [])) ∙ is)

-- the result that the index has under the key of two nodes
pub results_found : (s : Diagrams) (op : Operation) (index : Keyed)
    (key : List ℕ) (a b n : ℕ) → AreResults s op index → (key ≡ a ∷ b ∷ []) ⊎ (key ≡ b ∷ a ∷ [])
    → found index key ≡ Some n → IsResult s op a b n
results_found s op index key a b n results pair is =
    ⊎_elim
    (λ forth. results a b n (ap (found index) (sym forth) ∙ is))
    (λ back. result_swap s op b a n (results b a n (ap (found index) (sym back) ∙ is)))
    pair

-- what the index holds after an entry that was made or not
pub results_after : {E : Type 0} (s : Diagrams) (op : Operation)
    (old new : Keyed) (key : List ℕ) (a b n : ℕ) (r : Result (Unit {0}) E)
    → AreResults s op old → IsResult s op a b n → (key ≡ a ∷ b ∷ []) ⊎ (key ≡ b ∷ a ∷ [])
    → OnOk r ((q : List ℕ) → found new q ≡ cond (bytes_eq key q) (Some n) (found old q))
    → OnErr r ((q : List ℕ) → found new q ≡ found old q) → AreResults s op new
results_after s op old new key a b n (Ok u) results result pair made left =
    results_more s op old new key a b n results result pair made
results_after s op old new key a b n (Err e) results result pair made left =
    results_same s op old new results left

-- a node that was made is the result
pub result_made : (old new : Diagrams) (op : Operation) (a b n : ℕ) → Keeps old new → IsNode old a
    → IsNode old b → Means new n (λ codes. combine op (value_of old a codes) (value_of old b codes))
    → min (level_of old a) (level_of old b) ≤ level_of new n → IsResult new op a b n
result_made old new op a b n keeps left right means level = record {
  left = keeps.nodes a left;
  right = keeps.nodes b right;
  node = means.node;
  value = λ codes fit.
      means.value codes fit
      ∙ ap (λ (x : Bool). combine op x (value_of old b codes)) (sym (keeps.values a codes left))
      ∙ ap (combine op (value_of new a codes)) (sym (keeps.values b codes right));
  level = let e = keeps_level old new keeps a left in let f = keeps_level old new keeps b right in
      omega arith;
}

-- the meaning of a result, by the values before
pub result_means : (old new : Diagrams) (op : Operation) (a b n : ℕ) → Keeps old new → IsNode old a
    → IsNode old b → IsResult new op a b n
    → Means new n (λ codes. combine op (value_of old a codes) (value_of old b codes))
result_means old new op a b n keeps left right result = record {
  node = result.node;
  value = λ codes fit.
      result.value codes fit
      ∙ ap (λ (x : Bool). combine op x (value_of new b codes)) (keeps.values a codes left)
      ∙ ap (combine op (value_of old a codes)) (keeps.values b codes right);
}
