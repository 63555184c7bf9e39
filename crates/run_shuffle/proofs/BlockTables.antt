-- The table of blocks, and that of which have begun.
use Rattle.std.proofs.Common.{◌≡◌, ℕ, zero, suc, ◌+◌, ◌<◌, ◌≤◌, Bool, false, ◌||◌, List, [], ◌∷◌, ◌++◌, map, length, take, get_or, replicate, slice_get, Option, Some, None, refl, sym, ap, ◌∙◌, subst, add-one, arith}
use Rattle.std.specs.List.{list_any}
use Rattle.std.proofs.lemmas.List.{map-append, replicate_more}
use Rattle.std.proofs.lemmas.Option.{slice_get-get_or}
use Rattle.polis_base.specs.Lists.{upto}
use Rattle.transition_table.specs.declared.decl.Party.TheVariants.{Env}
use Rattle.transition_table.specs.declared.network.Network.{Network}
use Rattle.journals.specs.declared.entry.Entry.{Entry}
use Rattle.journals.specs.declared.entry.Entry.TheVariants.{Dep}
use Rattle.journals.specs.declared.entry.TraceItem.{TraceItem}
use Rattle.journals.specs.declared.entry.TraceItem.TheVariants.{Event, Settle}
use Rattle.journals.specs.Cursors.{cursor}
use Rattle.journals.specs.Laws.{TraceGivesSent}
use Rattle.journals.proofs.MomentsAfter.{get_or_table, length_table}
use Rattle.run_shuffle.specs.Blocks.{block_to, has_begun}
use Rattle.run_shuffle.specs.Moves.{machines_of}
use Rattle.run_shuffle.specs.Orders.{same_block}
use Rattle.run_shuffle.specs.inner.Blocks.{settles}
use Rattle.run_shuffle.specs.inner.Ways.{begun_table, blocks_table}
use Rattle.run_shuffle.proofs.BegunBlocks.{begun_after_own, table_stays}
use Rattle.run_shuffle.proofs.BlocksByPlaces.{block_at_place, no_block_past, settles_more}
use Rattle.polis_base.proofs.Bools.{or_none}

settles_within : (trace : List TraceItem) (i : ℕ) → settles (take i trace) ≤ settles trace
settles_within [] zero = omega arith
settles_within [] (suc i) = omega arith
settles_within (item ∷ items) zero = omega arith
settles_within (Settle ∷ items) (suc i) = let rest = settles_within items i in omega (arith, rest)
settles_within (Event e c ∷ items) (suc i) = settles_within items i

-- the block that stands at a place
table_at : (trace : List TraceItem) (place b : ℕ) → place < length trace
    → slice_get (blocks_table trace) place ≡ Some b → b ≡ settles (take place trace)
table_at trace place b within at =
    let long = length_table (λ i. settles (take i trace)) (length trace) in
    let read = slice_get-get_or (blocks_table trace) place 0 (omega (arith, long, within)) in
    let same : b ≡ get_or (blocks_table trace) place 0 = cc in
    same ∙ get_or_table (λ i. settles (take i trace)) (length trace) place 0 within

-- what is read at a machine's place
pub block_read : TraceGivesSent
    → (net : Network) (trace : List TraceItem) (journal : List Entry) (m place b : ℕ)
    (blocks : List ℕ) → blocks ≡ blocks_table trace → place ≡ cursor net trace journal m
    → place < length blocks → slice_get blocks place ≡ Some b
    → (Some b ≡ block_to net trace journal m) × (b ≤ settles trace)
block_read gives net trace journal m place b blocks are own within at =
    let long = length_table (λ i. settles (take i trace)) (length trace) in
    let size = ap length are in
    let inside : place < length trace = omega (arith, long, size, within) in
    let is = table_at trace place b inside (ap (λ l. slice_get l place) (sym are) ∙ at) in
    let below : cursor net trace journal m < length trace =
    subst (λ k. k < length trace) own inside in
    let most = settles_within trace place in (
      ap Some is ∙ ap (λ k. Some (settles (take k trace))) own
          ∙ sym (block_at_place gives net trace journal m below),
      subst (λ k. k ≤ settles trace) (sym is) most,
    )

pub nothing_read : TraceGivesSent
    → (net : Network) (trace : List TraceItem) (journal : List Entry) (m place : ℕ)
    (blocks : List ℕ) → blocks ≡ blocks_table trace → place ≡ cursor net trace journal m
    → length blocks ≤ place → None ≡ block_to net trace journal m
nothing_read gives net trace journal m place blocks are own past =
    let long = length_table (λ i. settles (take i trace)) (length trace) in
    let size = ap length are in
    sym
    (no_block_past gives net trace journal m
    (subst (λ k. length trace ≤ k) own (omega (arith, long, size, past))))

-- a block that is there has a mark
pub block_has_mark : (net : Network) (trace : List TraceItem) (journal : List Entry) (b : ℕ)
    (begun : List Bool) → begun ≡ begun_table net trace journal → b ≤ settles trace
    → b < length begun
block_has_mark net trace journal b begun are within =
    let long = length_table (has_begun net trace journal) (suc (settles trace)) in
    let size = ap length are in
    omega (arith, long, size, within)

-- which says whether it has begun
pub mark_says : (net : Network) (trace : List TraceItem) (journal : List Entry) (b : ℕ)
    (begun : List Bool) (is : Bool) → begun ≡ begun_table net trace journal → b ≤ settles trace
    → slice_get begun b ≡ Some is → is ≡ has_begun net trace journal b
mark_says net trace journal b begun is are within at =
    let long = length_table (has_begun net trace journal) (suc (settles trace)) in
    let read =
    slice_get-get_or (begun_table net trace journal) b false (omega (arith, long, within)) in
    let here : slice_get (begun_table net trace journal) b ≡ Some is =
    ap (λ l. slice_get l b) (sym are) ∙ at in
    let same : is ≡ get_or (begun_table net trace journal) b false = cc in
    let below : b < suc (settles trace) = omega (arith, within) in
    same ∙ get_or_table (has_begun net trace journal) (suc (settles trace)) b false below

-- where the environment owes a machine nothing, no block begins
pub nothing_begins : TraceGivesSent
    → (net : Network) (trace : List TraceItem) (journal : List Entry) (m e c : ℕ)
    → m < length net.machines → block_to net trace journal m ≡ None
    → begun_table net trace journal ≡ begun_table net trace (journal ++ Dep Env m e c ∷ [])
nothing_begins gives net trace journal m e c below none =
    table_stays net trace journal (journal ++ Dep Env m e c ∷ [])
    (λ b.
    begun_after_own gives net trace journal m e c b below
    ∙ ap (λ (o : Option ℕ). has_begun net trace journal b || same_block o (Some b)) none
    ∙ or_none (has_begun net trace journal b))

-- ---- the tables of an empty journal

-- one place more
pub block_pushed : (trace : List TraceItem) (i block : ℕ) (blocks pushed : List ℕ)
    → blocks ≡ map (λ k. settles (take k trace)) (upto i) → block ≡ settles (take i trace)
    → pushed ≡ blocks ++ block ∷ []
    → pushed ≡ map (λ k. settles (take k trace)) (upto (i + 1))
block_pushed trace i block blocks pushed are is push =
    rw add-one
    (push ∙ ap (λ l. l ++ block ∷ []) are
    ∙ ap (λ k. map (λ k. settles (take k trace)) (upto i) ++ k ∷ []) is
    ∙ sym (map-append (λ k. settles (take k trace)) (upto i) (i ∷ [])))

pub block_counted : (trace : List TraceItem) (i block more : ℕ) (item : TraceItem)
    → slice_get trace i ≡ Some item → block ≡ settles (take i trace)
    → more ≡ settles (item ∷ []) → block + more ≡ settles (take (i + 1) trace)
block_counted trace i block more item at is one =
    let step = settles_more trace i item at in
    rw add-one (omega (arith, step, is, one))

pub none_begun : (net : Network) (trace : List TraceItem) (n : ℕ)
    → replicate n false ≡ map (has_begun net trace []) (upto n)
none_begun net trace n =
    table_of_same n false (has_begun net trace []) (λ b. no_mark (machines_of net))
  where
    no_mark : (ms : List ℕ) → list_any (λ m. false) ms ≡ false
    no_mark [] = refl
    no_mark (m ∷ ms) = no_mark ms

    table_of_same : (k : ℕ) (is : Bool) (p : ℕ → Bool) → ((b : ℕ) → p b ≡ is)
        → replicate k is ≡ map p (upto k)
    table_of_same zero is p same = refl
    table_of_same (suc k) is p same =
        sym
        (map-append p (upto k) (k ∷ [])
        ∙ ap (λ l. l ++ p k ∷ []) (sym (table_of_same k is p same))
        ∙ ap (λ b. replicate k is ++ b ∷ []) (same k)
        ∙ replicate_more k is ∙ ap (λ j. replicate j is) (add-one k))
