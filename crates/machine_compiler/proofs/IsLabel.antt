-- Words that name variables and results: `go`, or a kind, a space and a name.
use Rattle.std.proofs.Common.{◌≡◌, ℕ, zero, suc, Bool, true, false, cond, not, ◌&&◌, ◌==◌, List, [], ◌∷◌, ◌++◌, map, length, get_or, slice_get, Some, refl, ap, sym, subst, ◌∙◌, append_assoc, arith, leb}
use Rattle.std.specs.List.{list_all}
use Rattle.std.proofs.lemmas.Bool.{and_parts, and_from, eqb-true, not_from_false, false_from_ne_true, or_left}
use Rattle.polis_base.specs.Names.{is_name, is_word, is_keyword, begins_name, continues_name}
use Rattle.machine_compiler.proofs.CutAtByte.{lacks, cut, breaks, word_cut}
use Rattle.machine_compiler.proofs.DistinctItems.{mapped, Apart, Disjoint, apart_both}

abbrev pub first : List ℕ → ℕ
first text = get_or text 0 0

-- `go`, or a kind, a space and a name; it is in one line and has no comma
pub record IsLabel (w : List ℕ) : Type 0 where
  pub kind : List ℕ
  pub name : List ℕ
  pub go : Bool
  pub is : w ≡ cond go kind (kind ++ 32 ∷ name)
  pub which : (first kind == 103) ≡ go
  pub kind_whole : lacks 32 kind ≡ true
  pub name_whole : lacks 32 name ≡ true
  pub one_line : lacks 10 w ≡ true
  pub no_comma : lacks 44 w ≡ true

both_labels : (g h : Bool) (k n l o x y : List ℕ)
    → (first k == 103) ≡ g
    → (first l == 103) ≡ h
    → lacks 32 k ≡ true
    → lacks 32 n ≡ true
    → lacks 32 l ≡ true
    → lacks 32 o ≡ true
    → breaks x ≡ true
    → breaks y ≡ true
    → cond g k (k ++ 32 ∷ n) ++ x ≡ cond h l (l ++ 32 ∷ o) ++ y
    → (cond g k (k ++ 32 ∷ n) ≡ cond h l (l ++ 32 ∷ o)) × (x ≡ y)
both_labels true true k n l o x y wk wl lk ln ll lo bx by e = word_cut k l x y lk ll bx by e
both_labels true false k n l o x y wk wl lk ln ll lo bx by e =
    let r = word_cut k l x (32 ∷ (o ++ y)) lk ll bx refl (e ∙ append_assoc l (32 ∷ o) y) in
    let same : (first k == 103) ≡ (first l == 103) = ap (λ (t : List ℕ). first t == 103) r.0 in
    let wrong : true ≡ false = sym wk ∙ same ∙ wl in
    cc
both_labels false true k n l o x y wk wl lk ln ll lo bx by e =
    let r = word_cut k l (32 ∷ (n ++ x)) y lk ll refl by (sym (append_assoc k (32 ∷ n) x) ∙ e) in
    let same : (first k == 103) ≡ (first l == 103) = ap (λ (t : List ℕ). first t == 103) r.0 in
    let wrong : false ≡ true = sym wk ∙ same ∙ wl in
    cc
both_labels false false k n l o x y wk wl lk ln ll lo bx by e =
    let r = cut 32 k l (n ++ x) (o ++ y) lk ll
    (sym (append_assoc k (32 ∷ n) x) ∙ e ∙ append_assoc l (32 ∷ o) y) in
    let s = word_cut n o x y ln lo bx by r.1 in
    (ap (λ (t : List ℕ). t ++ 32 ∷ n) r.0 ∙ ap (λ (t : List ℕ). l ++ 32 ∷ t) s.0, s.1)

-- two labels and what follows them
pub same_label : (a b x y : List ℕ) → IsLabel a → IsLabel b → breaks x ≡ true → breaks y ≡ true
    → a ++ x ≡ b ++ y → (a ≡ b) × (x ≡ y)
same_label a b x y la lb bx by e =
    let r = both_labels la.go lb.go la.kind la.name lb.kind lb.name x y la.which lb.which
    la.kind_whole la.name_whole lb.kind_whole lb.name_whole bx by
    (ap (λ (t : List ℕ). t ++ x) (sym la.is) ∙ e ∙ ap (λ (t : List ℕ). t ++ y) lb.is)
    in
    (la.is ∙ r.0 ∙ sym lb.is, r.1)

-- ---- names
-- a byte that no name has isn't in a name
pub name_lacks : (mark : ℕ) → continues_name mark ≡ false → (name : List ℕ) → is_name name ≡ true
    → lacks mark name ≡ true
name_lacks mark no_byte name h = go name (word_of name h)
  where
    word_of : (name : List ℕ) → is_name name ≡ true → list_all continues_name name ≡ true
    word_of [] h = refl
    word_of (c ∷ cs) h =
        let parts = and_parts (leb (length (c ∷ cs)) 24 && is_word (c ∷ cs))
        (not (is_keyword (c ∷ cs))) h in
        let word = and_parts (leb (length (c ∷ cs)) 24) (is_word (c ∷ cs)) parts.0 in
        let bytes = and_parts (begins_name c) (list_all continues_name cs) word.1 in
        and_from (continues_name c) (list_all continues_name cs)
        (or_left (begins_name c) (leb 48 c && leb c 57) bytes.0) bytes.1

    differs : (c : ℕ) → continues_name c ≡ true → not (c == mark) ≡ true
    differs c h = not_from_false (c == mark)
        (false_from_ne_true (c == mark) (λ (e : (c == mark) ≡ true).
        let f : true ≡ false = sym h ∙ ap continues_name (eqb-true c mark e) ∙ no_byte in
        cc))

    go : (text : List ℕ) → list_all continues_name text ≡ true → lacks mark text ≡ true
    go [] h = refl
    go (c ∷ cs) h =
        let parts = and_parts (continues_name c) (list_all continues_name cs) h in
        and_from (not (c == mark)) (lacks mark cs) (differs c parts.0) (go cs parts.1)

-- ---- what holds of each item
abbrev pub Each : {X : Type 0} → (X → Type 0) → List X → Type 0
Each {X} P xs = (i : ℕ) (x : X) → slice_get xs i ≡ Some x → P x

pub each_both : {X : Type 0} (P : X → Type 0) (xs ys : List X) → Each P xs → Each P ys
    → Each P (xs ++ ys)
each_both P [] ys px py i x e = py i x e
each_both P (z ∷ zs) ys px py zero x e = px zero x e
each_both P (z ∷ zs) ys px py (suc i) x e = each_both P zs ys (λ j y f. px (suc j) y f) py i x e

pub each_mapped : {X Y : Type 0} (P : Y → Type 0) (f : X → Y) (xs : List X)
    → ((i : ℕ) (x : X) → slice_get xs i ≡ Some x → P (f x)) → Each P (map f xs)
each_mapped P f xs p i y e =
    let r = mapped f xs i y e in
    subst P r.2 (p i r.0 r.1)

-- ---- by the first byte
-- each begins with the byte; none does
abbrev pub Begins : ℕ → List (List ℕ) → Type 0
Begins c ws = Each (λ w. first w ≡ c) ws

abbrev pub Others : ℕ → List (List ℕ) → Type 0
Others c ws = Each (λ w. first w ≡ c → ⊥) ws

pub others_from : (c d : ℕ) (ws : List (List ℕ)) → (d ≡ c → ⊥) → Begins d ws → Others c ws
others_from c d ws differ begins i w e f = differ (sym (begins i w e) ∙ f)

pub apart_by : (c : ℕ) (vs ws : List (List ℕ)) → Begins c vs → Others c ws → Disjoint vs ws
apart_by c vs ws begins others i j x ei ej = others j x ej (begins i x ei)

-- ---- five lists of labels, one after another
pub record Five (ins sts go tos outs : List (List ℕ)) : Type 0 where
  pub ins_begin : Begins 105 ins
  pub sts_begin : Begins 115 sts
  pub go_begin : Begins 103 go
  pub tos_begin : Begins 116 tos
  pub outs_begin : Begins 111 outs
  pub ins_apart : Apart ins
  pub sts_apart : Apart sts
  pub go_apart : Apart go
  pub tos_apart : Apart tos
  pub outs_apart : Apart outs

pub five_apart : (ins sts go tos outs : List (List ℕ)) → Five ins sts go tos outs
    → Apart (ins ++ (sts ++ (go ++ (tos ++ outs))))
five_apart ins sts go tos outs f =
    let tos_rest = apart_both tos outs f.tos_apart f.outs_apart
    (apart_by 116 tos outs f.tos_begin
    (others_from 116 111 outs (λ e. omega arith) f.outs_begin)) in
    let no_go : Others 103 (tos ++ outs) =
    each_both (λ w. first w ≡ 103 → ⊥) tos outs
    (others_from 103 116 tos (λ e. omega arith) f.tos_begin)
    (others_from 103 111 outs (λ e. omega arith) f.outs_begin) in
    let go_rest = apart_both go (tos ++ outs) f.go_apart tos_rest
    (apart_by 103 go (tos ++ outs) f.go_begin no_go) in
    let no_st : Others 115 (go ++ (tos ++ outs)) =
    each_both (λ w. first w ≡ 115 → ⊥) go (tos ++ outs)
    (others_from 115 103 go (λ e. omega arith) f.go_begin)
    (each_both (λ w. first w ≡ 115 → ⊥) tos outs
    (others_from 115 116 tos (λ e. omega arith) f.tos_begin)
    (others_from 115 111 outs (λ e. omega arith) f.outs_begin))
    in
    let sts_rest = apart_both sts (go ++ (tos ++ outs)) f.sts_apart go_rest
    (apart_by 115 sts (go ++ (tos ++ outs)) f.sts_begin no_st) in
    let no_in : Others 105 (sts ++ (go ++ (tos ++ outs))) =
    each_both (λ w. first w ≡ 105 → ⊥) sts (go ++ (tos ++ outs))
    (others_from 105 115 sts (λ e. omega arith) f.sts_begin)
    (each_both (λ w. first w ≡ 105 → ⊥) go (tos ++ outs)
    (others_from 105 103 go (λ e. omega arith) f.go_begin)
    (each_both (λ w. first w ≡ 105 → ⊥) tos outs
    (others_from 105 116 tos (λ e. omega arith) f.tos_begin)
    (others_from 105 111 outs (λ e. omega arith) f.outs_begin)))
    in
    apart_both ins (sts ++ (go ++ (tos ++ outs))) f.ins_apart sts_rest
    (apart_by 105 ins (sts ++ (go ++ (tos ++ outs))) f.ins_begin no_in)
