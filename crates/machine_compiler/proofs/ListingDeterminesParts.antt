-- A listing has one list of parts.
use Rattle.std.proofs.Common.{◌≡◌, ℕ, suc, ◌+◌, ◌^◌, ◌<◌, true, false, not, ◌==◌, List, [], ◌∷◌, ◌++◌, length, slice_get, slice_index, Some, refl, ap, sym, subst, ◌∙◌, append_assoc, arith, codes}
use Rattle.std.specs.Prelude.{flat_map}
use Rattle.std.specs.List.{list_all, join_by}
use Rattle.std.proofs.lemmas.Bool.{and_from, eq-eqb, lt-ltb}
use Rattle.std.proofs.lemmas.List.{append_cancel_left}
use Rattle.std.proofs.lemmas.List.Folds.{list_all-append}
use Rattle.std.proofs.lemmas.Option.{slice_get_within, get_or_from_slice_get}
use Rattle.polis_base.specs.Lines.{line}
use Rattle.domains.specs.Orders.{IsPermutation}
use Rattle.transition_table.specs.declared.machine.Machine.{Machine}
use Rattle.transition_table.specs.declared.network.Network.{Network}
use Rattle.transition_table.specs.Orders.{sizes_of}
use Rattle.char_function.specs.Sizes.{IsSize}
use Rattle.char_function.proofs.SizeAlong.{one_first_size, one_size}
use Rattle.sgraph.specs.declared.vertex.Vertex.{Vertex}
use Rattle.sgraph.specs.declared.vertex.Vertex.TheVariants.{Begin, Test as Tests, Assign, End}
use Rattle.sgraph.specs.Facts.{IsGraph}
use Rattle.sgraph.specs.Walks.{FitsMachine}
use Rattle.task_code.specs.declared.instr.Instr.{Instr}
use Rattle.task_code.specs.Codes.{laid_out, start}
use Rattle.task_code.specs.Listings.{Part, numbers, labels, label, vertex_words, instr_words, numbered_lines, part_text, parts_text}
use Rattle.machine_compiler.specs.Parts.{IsRightPart, AssignsBytes}
use Rattle.machine_compiler.specs.Laws.{ListingDeterminesParts}
use Rattle.machine_compiler.proofs.CutAtByte.{lacks, line_cut, fits_word, numbers_break, numbers_lack, same_numbers}
use Rattle.machine_compiler.proofs.IsLabel.{Each, first, same_label}
use Rattle.machine_compiler.proofs.SameLines.{Writes, same_lines, same_items}
use Rattle.machine_compiler.proofs.DistinctLabels.{Names, names_of, is_label, same_item, long_labels}

fits_from : (n : ℕ) → n < 2 ^ 64 → fits_word n ≡ true
fits_from n low = lt-ltb n (2 ^ 64) low

-- ---- a vertex
-- its numbers have 64 bits, its variable and its result are the machine's
abbrev Holds : Machine → Vertex → Type 0
Holds m (Begin next) = list_all fits_word (next ∷ []) ≡ true
Holds m (Tests var kids) = (var < length m.vars) × (list_all fits_word kids ≡ true)
Holds m (Assign result code next) =
    (result < length m.results) × (list_all fits_word (code ∷ next ∷ []) ≡ true)
Holds m End = true ≡ true

-- the first byte of a vertex's words
abbrev letter : Vertex → ℕ
letter (Begin next) = 98
letter (Tests var kids) = 116
letter (Assign result code next) = 97
letter End = 101

lettered : (net : Network) (m : Machine) (v : Vertex) → first (vertex_words net m v) ≡ letter v
lettered net m (Begin next) = refl
lettered net m (Tests var kids) = refl
lettered net m (Assign result code next) = refl
lettered net m End = refl

unlike : (a b : ℕ) → not (a == b) ≡ true → a ≡ b → ⊥
unlike a b differ e =
    let f : not (a == b) ≡ false = ap not (eq-eqb a b e) in
    let g : false ≡ true = sym f ∙ differ in
    cc

both_lack : (mark : ℕ) (a b : List ℕ) → lacks mark a ≡ true → lacks mark b ≡ true
    → lacks mark (a ++ b) ≡ true
both_lack mark a b ha hb = list_all-append (λ (c : ℕ). not (c == mark)) a b
    ∙ and_from (lacks mark a) (lacks mark b) ha hb

module _ (net : Network) (m : Machine) (names : Names net m) where
  low_var : (i : ℕ) → i < length m.vars → i < length (labels net m)
  low_var i low = let e = long_labels net m in omega arith

  low_result : (y : ℕ) → y < length m.results → length m.vars + y < length (labels net m)
  low_result y low = let e = long_labels net m in omega arith

  vertex_line : (v : Vertex) → Holds m v → lacks 10 (vertex_words net m v) ≡ true
  vertex_line (Begin next) h =
      both_lack 10 (codes "begin") (numbers (next ∷ [])) refl
      (numbers_lack 10 (omega arith) (next ∷ []) h)
  vertex_line (Tests var kids) h =
      let l = is_label net m names var (low_var var h.0) in
      both_lack 10 (codes "test " ++ label net m var) (numbers kids)
      (both_lack 10 (codes "test ") (label net m var) refl l.one_line)
      (numbers_lack 10 (omega arith) kids h.1)
  vertex_line (Assign result code next) h =
      let l = is_label net m names (length m.vars + result) (low_result result h.0) in
      both_lack 10 (codes "assign " ++ label net m (length m.vars + result))
      (numbers (code ∷ next ∷ []))
      (both_lack 10 (codes "assign ") (label net m (length m.vars + result)) refl l.one_line)
      (numbers_lack 10 (omega arith) (code ∷ next ∷ []) h.1)
  vertex_line End h = refl

  -- two words with numbers behind them, after the same text
  worded : (kind : List ℕ) (i j : ℕ) (ms ns : List ℕ) → i < length (labels net m)
      → j < length (labels net m) → list_all fits_word ms ≡ true → list_all fits_word ns ≡ true
      → (kind ++ label net m i) ++ numbers ms ≡ (kind ++ label net m j) ++ numbers ns
      → (i ≡ j) × (ms ≡ ns)
  worded kind i j ms ns li lj fm fn e =
      let f : kind ++ (label net m i ++ numbers ms) ≡ kind ++ (label net m j ++ numbers ns) =
      sym (append_assoc kind (label net m i) (numbers ms)) ∙ e
      ∙ append_assoc kind (label net m j) (numbers ns) in
      let g = append_cancel_left kind (label net m i ++ numbers ms)
      (label net m j ++ numbers ns) f in
      let r = same_label (label net m i) (label net m j) (numbers ms) (numbers ns)
      (is_label net m names i li) (is_label net m names j lj) (numbers_break ms)
      (numbers_break ns) g in
      (same_item net m names i j li lj r.0, same_numbers ms ns fm fn r.1)

  letters : (v w : Vertex) → vertex_words net m v ≡ vertex_words net m w → letter v ≡ letter w
  letters v w e = sym (lettered net m v) ∙ ap first e ∙ lettered net m w

  same_vertex : (v w : Vertex) → Holds m v → Holds m w
      → vertex_words net m v ≡ vertex_words net m w → v ≡ w
  same_vertex (Begin a) (Begin b) hv hw e =
      let f = append_cancel_left (codes "begin") (numbers (a ∷ [])) (numbers (b ∷ [])) e in
      let g : a ∷ [] ≡ b ∷ [] = same_numbers (a ∷ []) (b ∷ []) hv hw f in
      let h : a ≡ b = cc in
      ap Begin h
  same_vertex (Begin a) (Tests var kids) hv hw e =
      absurd (unlike 98 116 refl (letters (Begin a) (Tests var kids) e))
  same_vertex (Begin a) (Assign result code next) hv hw e =
      absurd (unlike 98 97 refl (letters (Begin a) (Assign result code next) e))
  same_vertex (Begin a) End hv hw e = absurd (unlike 98 101 refl (letters (Begin a) End e))
  same_vertex (Tests var kids) (Begin b) hv hw e =
      absurd (unlike 116 98 refl (letters (Tests var kids) (Begin b) e))
  same_vertex (Tests x ks) (Tests y ls) hv hw e =
      let r = worded (codes "test ") x y ks ls (low_var x hv.0) (low_var y hw.0) hv.1 hw.1 e in
      ap (λ (n : ℕ). Tests n ks) r.0 ∙ ap (λ (ns : List ℕ). Tests y ns) r.1
  same_vertex (Tests var kids) (Assign result code next) hv hw e =
      absurd (unlike 116 97 refl (letters (Tests var kids) (Assign result code next) e))
  same_vertex (Tests var kids) End hv hw e =
      absurd (unlike 116 101 refl (letters (Tests var kids) End e))
  same_vertex (Assign result code next) (Begin b) hv hw e =
      absurd (unlike 97 98 refl (letters (Assign result code next) (Begin b) e))
  same_vertex (Assign result code next) (Tests var kids) hv hw e =
      absurd (unlike 97 116 refl (letters (Assign result code next) (Tests var kids) e))
  same_vertex (Assign y c k) (Assign z d l) hv hw e =
      let r = worded (codes "assign ") (length m.vars + y) (length m.vars + z) (c ∷ k ∷ [])
      (d ∷ l ∷ []) (low_result y hv.0) (low_result z hw.0) hv.1 hw.1 e in
      let at : length m.vars + y ≡ length m.vars + z = r.0 in
      let is : y ≡ z = omega arith in
      let given : c ∷ k ∷ [] ≡ d ∷ l ∷ [] = r.1 in
      cc
  same_vertex (Assign result code next) End hv hw e =
      absurd (unlike 97 101 refl (letters (Assign result code next) End e))
  same_vertex End (Begin b) hv hw e = absurd (unlike 101 98 refl (letters End (Begin b) e))
  same_vertex End (Tests var kids) hv hw e =
      absurd (unlike 101 116 refl (letters End (Tests var kids) e))
  same_vertex End (Assign result code next) hv hw e =
      absurd (unlike 101 97 refl (letters End (Assign result code next) e))
  same_vertex End End hv hw e = refl

  writes : Writes (vertex_words net m) (Holds m)
  writes = record { one_line = vertex_line; one = same_vertex }

-- ---- what a right part keeps
each_holds : (m : Machine) (g : List Vertex) → IsGraph g → FitsMachine m g → AssignsBytes g
    → length g < 2 ^ 63 → Each (Holds m) g
each_holds m g graph fits bytes few k (Begin next) is =
    let low = graph.within k (Begin next) 0 is (omega arith) in
    and_from (fits_word next) true (fits_from next (omega arith)) refl
each_holds m g graph fits bytes few k (Tests var kids) is =
    ((fits.tests k var kids is).0, all_low kids (λ j low. graph.within k (Tests var kids) j is low))
  where
    all_low : (ns : List ℕ) → ((j : ℕ) → j < length ns → slice_index ns j < length g)
        → list_all fits_word ns ≡ true
    all_low [] h = refl
    all_low (n ∷ ns) h =
        let low = h 0 (omega arith) in
        and_from (fits_word n) (list_all fits_word ns) (fits_from n (omega arith))
        (all_low ns (λ j l. h (suc j) (omega arith)))
each_holds m g graph fits bytes few k (Assign result code next) is =
    let low = graph.within k (Assign result code next) 0 is (omega arith) in
    let byte = bytes k result code next is in (
      fits.assigns k result code next is,
      and_from (fits_word code) (list_all fits_word (next ∷ [])) (fits_from code (omega arith))
          (and_from (fits_word next) true (fits_from next (omega arith)) refl),
    )
each_holds m g graph fits bytes few k End is = refl

each_low : (bound : ℕ) (order : List ℕ) → IsPermutation order → length order ≡ bound
    → Each (λ i. i < bound) order
each_low bound order permutation long i x is =
    let within = slice_get_within order i x is in
    let at : slice_index order i ≡ x = get_or_from_slice_get order i x 0 is in
    let below = permutation.below i within in
    omega arith

-- ---- a part
regrouped : (a b c d e f g t : List ℕ)
    → ((((((a ++ b) ++ c) ++ d) ++ e) ++ f) ++ g) ++ t
    ≡ a ++ (b ++ (c ++ (d ++ (e ++ (f ++ (g ++ t))))))
regrouped a b c d e f g t =
    append_assoc (((((a ++ b) ++ c) ++ d) ++ e) ++ f) g t
    ∙ append_assoc ((((a ++ b) ++ c) ++ d) ++ e) f (g ++ t)
    ∙ append_assoc (((a ++ b) ++ c) ++ d) e (f ++ (g ++ t))
    ∙ append_assoc ((a ++ b) ++ c) d (e ++ (f ++ (g ++ t)))
    ∙ append_assoc (a ++ b) c (d ++ (e ++ (f ++ (g ++ t))))
    ∙ append_assoc a b (c ++ (d ++ (e ++ (f ++ (g ++ t)))))

-- the lines of a part after the order
abbrev counts : Part → List ℕ
counts q = line (codes "diagram" ++ numbers (q.first ∷ q.count ∷ []))

abbrev size_line : List ℕ → ℕ → List ℕ
size_line word n = line (word ++ numbers (n ∷ []))

abbrev order_line : Network → Machine → List ℕ → List ℕ
order_line net m order = codes "order " ++ join_by (label net m) (codes ", ") order

same_size : (word : List ℕ) (j k : ℕ) (x y : List ℕ) → lacks 10 word ≡ true → j < 2 ^ 64
    → k < 2 ^ 64 → size_line word j ++ x ≡ size_line word k ++ y → (j ≡ k) × (x ≡ y)
same_size word j k x y plain fj fk e =
    let hj : list_all fits_word (j ∷ []) ≡ true =
    and_from (fits_word j) true (fits_from j fj) refl in
    let hk : list_all fits_word (k ∷ []) ≡ true =
    and_from (fits_word k) true (fits_from k fk) refl in
    let r = line_cut (word ++ numbers (j ∷ [])) (word ++ numbers (k ∷ [])) x y
    (both_lack 10 word (numbers (j ∷ [])) plain (numbers_lack 10 (omega arith) (j ∷ []) hj))
    (both_lack 10 word (numbers (k ∷ [])) plain
    (numbers_lack 10 (omega arith) (k ∷ []) hk)) e in
    let f : j ∷ [] ≡ k ∷ [] =
    same_numbers (j ∷ []) (k ∷ []) hj hk
    (append_cancel_left word (numbers (j ∷ [])) (numbers (k ∷ [])) r.0) in
    let same : j ≡ k = cc in
    (same, r.1)

joined_lacks : (words : ℕ → List ℕ) (items : List ℕ) → Each (λ i. lacks 10 (words i) ≡ true) items
    → lacks 10 (join_by words (codes ", ") items) ≡ true
joined_lacks words [] h = refl
joined_lacks words (x ∷ xs) h =
    both_lack 10 (words x) (flat_map (λ y. codes ", " ++ words y) xs) (h 0 x refl)
    (others xs (λ i y e. h (suc i) y e))
  where
    others : (ys : List ℕ) → Each (λ i. lacks 10 (words i) ≡ true) ys
        → lacks 10 (flat_map (λ y. codes ", " ++ words y) ys) ≡ true
    others [] g = refl
    others (y ∷ ys) g =
        both_lack 10 (codes ", " ++ words y) (flat_map (λ y. codes ", " ++ words y) ys)
        (both_lack 10 (codes ", ") (words y) refl (g 0 y refl)) (others ys (λ i z e. g (suc i) z e))

module _ (net : Network) (m : Machine) (names : Names net m) where
  same_order : (p q : Part) (x y : List ℕ) → IsRightPart m p → IsRightPart m q
      → line (order_line net m p.order) ++ x ≡ line (order_line net m q.order) ++ y
      → (p.order ≡ q.order) × (x ≡ y)
  same_order p q x y rp rq e =
      let bound = length m.vars + length m.results in
      let long_p : length p.order ≡ length (labels net m) =
      rp.sifted.allowed.long ∙ long_sizes ∙ sym (long_labels net m) in
      let long_q : length q.order ≡ length (labels net m) =
      rq.sifted.allowed.long ∙ long_sizes ∙ sym (long_labels net m) in
      let low_p = each_low (length (labels net m)) p.order rp.sifted.allowed.permutation long_p in
      let low_q = each_low (length (labels net m)) q.order rq.sifted.allowed.permutation long_q in
      let plain = λ (order : List ℕ) (low : Each (λ i. i < length (labels net m)) order). both_lack
      10 (codes "order ") (join_by (label net m) (codes ", ") order) refl
      (joined_lacks (label net m) order (λ i n is.
      (is_label net m names n (low i n is)).one_line)) in
      let r = line_cut (order_line net m p.order) (order_line net m q.order) x y
      (plain p.order low_p) (plain q.order low_q) e in
      let f = append_cancel_left (codes "order ") (join_by (label net m) (codes ", ") p.order)
      (join_by (label net m) (codes ", ") q.order) r.0 in (
        same_items (label net m) (λ i. i < length (labels net m))
            (λ i low. (is_label net m names i low).no_comma)
            (λ i j li lj same. same_item net m names i j li lj same) p.order q.order low_p low_q
            (long_p ∙ sym long_q) f,
        r.1,
      )
    where
      long_both : {X : Type 0} (xs ys : List X) → length (xs ++ ys) ≡ length xs + length ys
      long_both [] ys = omega arith
      long_both (x ∷ xs) ys = let r = long_both xs ys in omega arith

      long_sizes : length (sizes_of m) ≡ length m.vars + length m.results
      long_sizes = long_both m.vars m.results

  pub same_part : (p q : Part) (t u : List ℕ) → IsRightPart m p → IsRightPart m q
      → part_text net m p ++ t ≡ part_text net m q ++ u → (p ≡ q) × (t ≡ u)
  same_part p q t u rp rq e =
      let head = line (codes "machine " ++ m.name) in
      let after_order = λ (x : Part). size_line (codes "vertices") (length x.graph) in
      let vertices = λ (x : Part). numbered_lines (vertex_words net m) 0 x.graph in
      let sizes = λ (x : Part). size_line (codes "code") (length x.code) in
      let instrs = λ (x : Part). numbered_lines (instr_words net m) 0 x.code in
      let from = λ (x : Part) (v : List ℕ). counts x
      ++ (after_order x ++ (vertices x ++ (sizes x ++ (instrs x ++ v)))) in
      let whole : head ++ (line (order_line net m p.order) ++ from p t)
      ≡ head ++ (line (order_line net m q.order) ++ from q u) =
      sym (regrouped head (line (order_line net m p.order)) (counts p) (after_order p)
      (vertices p) (sizes p) (instrs p) t)
      ∙ e
      ∙ regrouped head (line (order_line net m q.order)) (counts q) (after_order q) (vertices q)
      (sizes q) (instrs q) u
      in
      let one = same_order p q (from p t) (from q u) rp rq
      (append_cancel_left head (line (order_line net m p.order) ++ from p t)
      (line (order_line net m q.order) ++ from q u) whole) in
      let order : p.order ≡ q.order = one.0 in
      let first_same : p.first ≡ q.first =
      one_first_size m p.first q.first rp.sifted.first rq.sifted.first in
      let count_same : p.count ≡ q.count =
      one_size m q.order p.count q.count rq.sifted.allowed.permutation rq.sifted.allowed.long
      (subst (λ (o : List ℕ). IsSize m o p.count) order rp.sifted.counted) rq.sifted.counted in
      let counts_same : counts p ≡ counts q =
      ap (λ (n : ℕ). line (codes "diagram" ++ numbers (n ∷ p.count ∷ []))) first_same
      ∙ ap (λ (n : ℕ). line (codes "diagram" ++ numbers (q.first ∷ n ∷ []))) count_same in
      let rest = λ (x : Part) (v : List ℕ). after_order x
      ++ (vertices x ++ (sizes x ++ (instrs x ++ v))) in
      let two : rest p t ≡ rest q u =
      append_cancel_left (counts q) (rest p t) (rest q u)
      (ap (λ (w : List ℕ). w ++ rest p t) (sym counts_same) ∙ one.1) in
      let few_p = rp.few in
      let few_q = rq.few in
      let three = same_size (codes "vertices") (length p.graph) (length q.graph)
      (vertices p ++ (sizes p ++ (instrs p ++ t))) (vertices q ++ (sizes q ++ (instrs q ++ u)))
      refl (omega arith) (omega arith) two in
      let four = same_lines (vertex_words net m) (Holds m) (writes net m names) p.graph q.graph 0
      (sizes p ++ (instrs p ++ t)) (sizes q ++ (instrs q ++ u))
      (each_holds m p.graph rp.is_graph rp.of_machine.fits_machine rp.bytes rp.few)
      (each_holds m q.graph rq.is_graph rq.of_machine.fits_machine rq.bytes rq.few) three.0 (omega arith)
      three.1 in
      let graph : p.graph ≡ q.graph = four.0 in
      let code : p.code ≡ q.code = rp.lowered
      ∙ ap (λ (g : List Vertex). laid_out (start g) 0 g) graph ∙ sym rq.lowered in
      let tails = λ (c : List Instr) (v : List ℕ). size_line (codes "code") (length c)
      ++ (numbered_lines (instr_words net m) 0 c ++ v) in
      let five : tails q.code t ≡ tails q.code u =
      ap (λ (c : List Instr). tails c t) (sym code) ∙ four.1 in
      let six = append_cancel_left (size_line (codes "code") (length q.code))
      (numbered_lines (instr_words net m) 0 q.code ++ t)
      (numbered_lines (instr_words net m) 0 q.code ++ u) five in
      let seven = append_cancel_left (numbered_lines (instr_words net m) 0 q.code) t u six in
      let same : p ≡ q =
      λ i. record {
        order = order i;
        first = first_same i;
        count = count_same i;
        graph = graph i;
        code = code i;
      } in
      (same, seven)

-- ---- all parts
same_parts : (net : Network) (ms : List Machine) (ps qs : List Part) (t : List ℕ)
    → Each (Names net) ms
    → length ps ≡ length ms
    → length qs ≡ length ms
    → ((k : ℕ) (m : Machine) (q : Part) → slice_get ms k ≡ Some m → slice_get ps k ≡ Some q
    → IsRightPart m q)
    → ((k : ℕ) (m : Machine) (q : Part) → slice_get ms k ≡ Some m → slice_get qs k ≡ Some q
    → IsRightPart m q)
    → parts_text net ms ps ++ t ≡ parts_text net ms qs ++ t
    → ps ≡ qs
same_parts net [] [] [] t names lp lq rp rq e = refl
same_parts net [] [] (q ∷ qs) t names lp lq rp rq e = absurd (omega arith)
same_parts net [] (p ∷ ps) qs t names lp lq rp rq e = absurd (omega arith)
same_parts net (m ∷ ms) [] qs t names lp lq rp rq e = absurd (omega arith)
same_parts net (m ∷ ms) (p ∷ ps) [] t names lp lq rp rq e = absurd (omega arith)
same_parts net (m ∷ ms) (p ∷ ps) (q ∷ qs) t names lp lq rp rq e =
    let f : part_text net m p ++ (parts_text net ms ps ++ t)
    ≡ part_text net m q ++ (parts_text net ms qs ++ t) =
    sym (append_assoc (part_text net m p) (parts_text net ms ps) t) ∙ e
    ∙ append_assoc (part_text net m q) (parts_text net ms qs) t
    in
    let r = same_part net m (names 0 m refl) p q (parts_text net ms ps ++ t)
    (parts_text net ms qs ++ t) (rp 0 m p refl refl) (rq 0 m q refl refl) f in
    let others = same_parts net ms ps qs t (λ i n g. names (suc i) n g) (omega arith) (omega arith)
    (λ k n x a b. rp (suc k) n x a b) (λ k n x a b. rq (suc k) n x a b) r.1 in
    let same : p ≡ q = r.0 in
    let tail : ps ≡ qs = others in
    cc

pub listing_determines : ListingDeterminesParts
listing_determines net p q hold rp rq e =
    let head = line (codes "polis listing 1") in
    let end = line (codes "end") in
    let f = append_cancel_left head (parts_text net net.machines p ++ end)
    (parts_text net net.machines q ++ end)
    (sym (append_assoc head (parts_text net net.machines p) end) ∙ e
    ∙ append_assoc head (parts_text net net.machines q) end)
    in
    same_parts net net.machines p q end (λ k m is. names_of net k m hold is) rp.long rq.long rp.each
    rq.each f
