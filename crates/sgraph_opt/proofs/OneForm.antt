-- Vertices from which walks give the same codes are twins.
use Rattle.std.proofs.Common.{◌≡◌, ⊎_elim, ℕ, ◌+◌, ◌<◌, List, length, replicate, slice_get, slice_index, slice_set, Some, refl, ap, sym, ◌∙◌, arith}
use Rattle.std.proofs.lemmas.Bool.{cases_eq, cases_order}
use Rattle.domains.specs.Orders.{place}
use Rattle.transition_table.specs.declared.machine.Machine.{Machine}
use Rattle.sgraph.specs.declared.vertex.Vertex.{Vertex}
use Rattle.sgraph.specs.declared.vertex.Vertex.TheVariants.{Begin, Test, Assign, End}
use Rattle.sgraph.specs.Graphs.{depth}
use Rattle.sgraph_opt.proofs.Deeper.{OneForEach, deeper}
use Rattle.sgraph_opt.proofs.Depths.{Placed, item_place, same_item}
use Rattle.sgraph_opt.proofs.FirstCodes.{code_in}
use Rattle.sgraph_opt.proofs.Twins.{Same, Twins, same_back, zero_fits, leads_to, child_code, own_code, other_code, next_code}
use Rattle.sgraph_opt.proofs.WalksFrom.{walk_from}

module _ (m : Machine) (order : List ℕ) (g h : List Vertex) (pg : Placed m order g)
    (ph : Placed m order h) where
  two_tests : (k l v w : ℕ) (kids others : List ℕ) → slice_get g k ≡ Some (Test v kids)
      → slice_get h l ≡ Some (Test w others) → place order v ≡ place order w → Same m g h k l
      → Twins m g h (Test v kids) (Test w others)
  two_tests k l v w kids others is_a is_b level same =
      let a = pg.of_machine.fits_machine.tests k v kids is_a in
      let b = ph.of_machine.fits_machine.tests l w others is_b in
      let low_v : v < length m.vars = a.0 in
      let low_w : w < length m.vars = b.0 in
      let one : v ≡ w = same_item m order pg.allowed v w (omega arith) (omega arith) level in
      let long : length kids ≡ length others =
      a.1 ∙ ap (slice_index m.vars) one ∙ sym b.1 in (
        one,
        long,
        λ i inside s fit y low.
            child_code m order g pg k v kids is_a i inside s fit y
            ∙ same (slice_set s v i) (leads_to m order g pg k v kids is_a i inside s fit) y low
            ∙ ap (λ (x : ℕ). code_in (walk_from h (slice_set s x i) l) y) one
            ∙ sym (child_code m order h ph l w others is_b i (omega (arith, inside, long)) s fit y),
      )

  two_assigns : (k l y z c d next other : ℕ) → slice_get g k ≡ Some (Assign y c next)
      → slice_get h l ≡ Some (Assign z d other)
      → place order (length m.vars + y) ≡ place order (length m.vars + z) → Same m g h k l
      → Twins m g h (Assign y c next) (Assign z d other)
  two_assigns k l y z c d next other is_a is_b level same =
      let low_y = pg.of_machine.fits_machine.assigns k y c next is_a in
      let low_z = ph.of_machine.fits_machine.assigns l z d other is_b in
      let item : length m.vars + y ≡ length m.vars + z =
      same_item m order pg.allowed (length m.vars + y) (length m.vars + z) (omega arith)
      (omega arith) level in
      let one : y ≡ z = omega (arith, item) in
      let zeros : List ℕ = replicate (length m.vars) 0 in (
        one,
        sym (own_code m order g pg k y c next is_a zeros y refl)
            ∙ same zeros (zero_fits m order g pg) y low_y
            ∙ own_code m order h ph l z d other is_b zeros y (sym one),
        λ s fit x low.
            ⊎_elim
            (λ own.
            next_code m order g pg k y c next is_a s fit x own
            ∙ sym (next_code m order h ph l z d other is_b s fit x (sym one ∙ own)))
            (λ differ.
            other_code m order g pg k y c next is_a s x differ
            ∙ same s fit x low
            ∙ sym (other_code m order h ph l z d other is_b s x (λ e. differ (one ∙ e))))
            (cases_eq y x),
      )

  -- a test of a variable and an assignment, or one of these and an end, stand apart
  test_assign : (k l v y c next : ℕ) (kids : List ℕ) → slice_get g k ≡ Some (Test v kids)
      → slice_get h l ≡ Some (Assign y c next)
      → place order v ≡ place order (length m.vars + y) → ⊥
  test_assign k l v y c next kids is_a is_b level =
      let low_v : v < length m.vars = (pg.of_machine.fits_machine.tests k v kids is_a).0 in
      let low_y = ph.of_machine.fits_machine.assigns l y c next is_b in
      let item = same_item m order pg.allowed v (length m.vars + y) (omega arith) (omega arith)
      level in
      omega (arith, item, low_v)

  test_end : (k v : ℕ) (kids : List ℕ) → slice_get g k ≡ Some (Test v kids)
      → place order v ≡ length order → ⊥
  test_end k v kids is level =
      let low_v : v < length m.vars = (pg.of_machine.fits_machine.tests k v kids is).0 in
      let here = item_place m order pg.allowed v (omega arith) in
      omega (arith, here, level)

  assign_end : (k y c next : ℕ) → slice_get g k ≡ Some (Assign y c next)
      → place order (length m.vars + y) ≡ length order → ⊥
  assign_end k y c next is level =
      let low_y = pg.of_machine.fits_machine.assigns k y c next is in
      let here = item_place m order pg.allowed (length m.vars + y) (omega arith) in
      omega (arith, here, level)

module _ (m : Machine) (order : List ℕ) (g h : List Vertex) (pg : Placed m order g)
    (ph : Placed m order h) where
  level_twins : (k l : ℕ) (a b : Vertex) → slice_get g k ≡ Some a → slice_get h l ≡ Some b → 0 < k
      → 0 < l → depth (length m.vars) order (Some a) ≡ depth (length m.vars) order (Some b)
      → Same m g h k l → Twins m g h a b
  level_twins k l (Begin next) b is_a is_b some_k some_l level same =
      absurd (let first = pg.graph.only_begin k next is_a in omega arith)
  level_twins k l (Test v kids) (Begin next) is_a is_b some_k some_l level same =
      absurd (let first = ph.graph.only_begin l next is_b in omega arith)
  level_twins k l (Test v kids) (Test w others) is_a is_b some_k some_l level same =
      two_tests m order g h pg ph k l v w kids others is_a is_b (omega (arith, level)) same
  level_twins k l (Test v kids) (Assign z d other) is_a is_b some_k some_l level same =
      absurd (test_assign m order g h pg ph k l v z d other kids is_a is_b (omega (arith, level)))
  level_twins k l (Test v kids) End is_a is_b some_k some_l level same =
      absurd (test_end m order g h pg ph k v kids is_a (omega (arith, level)))
  level_twins k l (Assign y c next) (Begin n) is_a is_b some_k some_l level same =
      absurd (let first = ph.graph.only_begin l n is_b in omega arith)
  level_twins k l (Assign y c next) (Test w others) is_a is_b some_k some_l level same =
      absurd (test_assign m order h g ph pg l k w y c next others is_b is_a (omega (arith, level)))
  level_twins k l (Assign y c next) (Assign z d other) is_a is_b some_k some_l level same =
      two_assigns m order g h pg ph k l y z c d next other is_a is_b (omega (arith, level)) same
  level_twins k l (Assign y c next) End is_a is_b some_k some_l level same =
      absurd (assign_end m order g h pg ph k y c next is_a (omega (arith, level)))
  level_twins k l End (Begin next) is_a is_b some_k some_l level same =
      absurd (let first = ph.graph.only_begin l next is_b in omega arith)
  level_twins k l End (Test w others) is_a is_b some_k some_l level same =
      absurd (test_end m order h g ph pg l w others is_b (omega (arith, level)))
  level_twins k l End (Assign z d other) is_a is_b some_k some_l level same =
      absurd (assign_end m order h g ph pg l z d other is_b (omega (arith, level)))
  level_twins k l End End is_a is_b some_k some_l level same = tt

  pub twins : (k l : ℕ) (a b : Vertex) → slice_get g k ≡ Some a → slice_get h l ≡ Some b → 0 < k
      → 0 < l → OneForEach m g a → OneForEach m h b → Same m g h k l → Twins m g h a b
  twins k l a b is_a is_b some_k some_l one_a one_b same =
      ⊎_elim
      (λ level. level_twins k l a b is_a is_b some_k some_l level same)
      (λ apart.
      absurd (⊎_elim
      (λ less. deeper m order g h pg ph k l a b is_a is_b some_k one_a same less)
      (λ more. deeper m order h g ph pg l k b a is_b is_a some_l one_b
      (same_back m g h k l same) more)
      apart))
      (cases_order (depth (length m.vars) order (Some a)) (depth (length m.vars) order (Some b)))
