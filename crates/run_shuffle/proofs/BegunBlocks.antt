-- Which blocks have begun after one entry more.
use Rattle.std.proofs.Common.{◌≡◌, ◌≢◌, ℕ, zero, suc, ◌<◌, Bool, true, false, ◌||◌, ◌==◌, List, [], ◌∷◌, ◌++◌, map, length, length-append, take, slice_get, Some, refl, sym, ap, ◌∙◌, inl, inr, arith}
use Rattle.std.specs.Prelude.{slice_set}
use Rattle.std.specs.List.{list_any}
use Rattle.std.proofs.lemmas.Bool.{cases_eq, eq-eqb, ne_eqb}
use Rattle.std.proofs.lemmas.List.Folds.{list_any-append}
use Rattle.polis_base.specs.Lists.{upto}
use Rattle.transition_table.specs.NetworkFacts.{has}
use Rattle.transition_table.specs.declared.decl.Party.TheVariants.{Env, Machine as Sender}
use Rattle.transition_table.specs.declared.network.Network.{Network}
use Rattle.transition_table.specs.declared.snapshot.Outcome.{Outcome}
use Rattle.transition_table.specs.declared.snapshot.Snapshot.{Snapshot}
use Rattle.journals.specs.declared.entry.Entry.{Entry}
use Rattle.journals.specs.declared.entry.Entry.TheVariants.{Dep, Rea}
use Rattle.journals.specs.declared.entry.TraceItem.{TraceItem}
use Rattle.journals.specs.Journals.{delivered}
use Rattle.journals.specs.Laws.{TraceGivesSent}
use Rattle.journals.proofs.DeliveredBeginsSent.{delivered_by_reaction, delivered_other, delivered_own}
use Rattle.journals.proofs.MomentsAfter.{set_table}
use Rattle.run_shuffle.specs.Blocks.{block_to, blocks_to, has_begun}
use Rattle.run_shuffle.specs.Moves.{machines_of}
use Rattle.run_shuffle.specs.Orders.{same_block}
use Rattle.run_shuffle.specs.inner.Blocks.{settles}
use Rattle.run_shuffle.specs.inner.Ways.{begun_table}
use Rattle.run_shuffle.proofs.BlocksByPlaces.{block_by_count, blocks_of_way}
use Rattle.polis_base.proofs.Bools.{or_none}

-- a delivery of the block came to the machine
abbrev came : Network → List TraceItem → List Entry → ℕ → ℕ → Bool
came net trace journal b m =
    has (take (length (delivered Env m journal)) (blocks_to net trace m)) b

-- ---- lists

-- with one item more
take_one_more : (xs : List ℕ) (i b : ℕ)
    → has (take (suc i) xs) b ≡ (has (take i xs) b || same_block (slice_get xs i) (Some b))
take_one_more [] zero b = refl
take_one_more [] (suc i) b = refl
take_one_more (x ∷ xs) zero b = or_none (x == b)
take_one_more (x ∷ xs) (suc i) b =
    ap (λ t. x == b || t) (take_one_more xs i b)
    ∙ sym (or_assoc (x == b) (has (take i xs) b) (same_block (slice_get xs i) (Some b)))
  where
    or_assoc : (a c d : Bool) → ((a || c) || d) ≡ (a || (c || d))
    or_assoc true c d = refl
    or_assoc false c d = refl

-- a test that also passes one number, if this is true
any_with : (p q : ℕ → Bool) (m n : ℕ) (t : Bool) → m < n → q m ≡ (p m || t)
    → ((k : ℕ) → (k ≡ m → ⊥) → q k ≡ p k)
    → list_any q (upto n) ≡ (list_any p (upto n) || t)
any_with p q m zero t below own others = absurd (omega arith)
any_with p q m (suc n) t below own others =
    list_any-append q (upto n) (n ∷ [])
    ∙ (elim (cases_eq n m) [
      | inl same ↦
          ap (λ u. u || list_any q (n ∷ []))
          (all_same n (λ k low. others k (λ e. absurd (omega arith))))
          ∙ ap (λ u. list_any p (upto n) || u)
          (or_none (q n) ∙ ap q same ∙ own ∙ ap (λ k. p k || t) (sym same))
          ∙ sym (or_assoc (list_any p (upto n)) (p n) t)
          ∙ ap (λ u. (list_any p (upto n) || u) || t) (sym (or_none (p n)))
          ∙ ap (λ u. u || t) (sym (list_any-append p (upto n) (n ∷ [])))
      | inr other ↦
          ap (λ u. u || list_any q (n ∷ []))
          (any_with p q m n t (let apart : n ≢ m = other in omega arith) own others)
          ∙ ap (λ u. (list_any p (upto n) || t) || u)
          (or_none (q n) ∙ others n other ∙ sym (or_none (p n)))
          ∙ swapped (list_any p (upto n)) t (list_any p (n ∷ []))
          ∙ ap (λ u. u || t) (sym (list_any-append p (upto n) (n ∷ [])))
    ])
  where
    or_assoc : (a c d : Bool) → ((a || c) || d) ≡ (a || (c || d))
    or_assoc true c d = refl
    or_assoc false c d = refl

    swapped : (a c d : Bool) → ((a || c) || d) ≡ ((a || d) || c)
    swapped true c d = refl
    swapped false true true = refl
    swapped false true false = refl
    swapped false false true = refl
    swapped false false false = refl

    all_same : (j : ℕ) → ((k : ℕ) → k < j → q k ≡ p k) → list_any q (upto j) ≡ list_any p (upto j)
    all_same zero h = refl
    all_same (suc j) h =
        list_any-append q (upto j) (j ∷ [])
        ∙ ap (λ u. u || list_any q (j ∷ [])) (all_same j (λ k low. h k (omega arith)))
        ∙ ap (λ u. list_any p (upto j) || u)
        (or_none (q j) ∙ h j (omega arith) ∙ sym (or_none (p j)))
        ∙ sym (list_any-append p (upto j) (j ∷ []))

same_tests : (p q : ℕ → Bool) (xs : List ℕ) → ((x : ℕ) → p x ≡ q x)
    → list_any p xs ≡ list_any q xs
same_tests p q [] same = refl
same_tests p q (x ∷ xs) same =
    ap (λ t. t || list_any p xs) (same x) ∙ ap (λ t. q x || t) (same_tests p q xs same)

-- ---- what has begun

block_of_next : TraceGivesSent
    → (net : Network) (trace : List TraceItem) (journal : List Entry) (m : ℕ)
    → slice_get (blocks_to net trace m) (length (delivered Env m journal))
    ≡ block_to net trace journal m
block_of_next gives net trace journal m =
    ap (λ l. slice_get l (length (delivered Env m journal))) (blocks_of_way gives net m 0 trace)
    ∙ sym (block_by_count gives net trace journal m)

-- the environment's delivery to m begins the block of what it owes to m
pub begun_after_own : TraceGivesSent
    → (net : Network) (trace : List TraceItem) (journal : List Entry) (m e c b : ℕ)
    → m < length net.machines
    → has_begun net trace (journal ++ Dep Env m e c ∷ []) b
    ≡ (has_begun net trace journal b || same_block (block_to net trace journal m) (Some b))
begun_after_own gives net trace journal m e c b below =
    any_with (came net trace journal b) (came net trace (journal ++ Dep Env m e c ∷ []) b) m
    (length net.machines) (same_block (block_to net trace journal m) (Some b)) below own others
  where
    longer : length (delivered Env m (journal ++ Dep Env m e c ∷ []))
        ≡ suc (length (delivered Env m journal))
    longer =
        let size = length-append (delivered Env m journal) ((e, c) ∷ []) in
        let own = ap length (delivered_own Env m e c journal) in
        omega arith

    own : came net trace (journal ++ Dep Env m e c ∷ []) b m
        ≡ (came net trace journal b m || same_block (block_to net trace journal m) (Some b))
    own =
        ap (λ k. has (take k (blocks_to net trace m)) b) longer
        ∙ take_one_more (blocks_to net trace m) (length (delivered Env m journal)) b
        ∙ ap (λ o. came net trace journal b m || same_block o (Some b))
        (block_of_next gives net trace journal m)

    others : (k : ℕ) → (k ≡ m → ⊥)
        → came net trace (journal ++ Dep Env m e c ∷ []) b k ≡ came net trace journal b k
    others k apart =
        ap (λ (l : List (ℕ × ℕ)). has (take (length l) (blocks_to net trace k)) b)
        (delivered_other Env Env k m e c journal
        (ne_eqb m k (λ e. apart (sym e))))

-- other entries begin nothing
pub begun_after_machine : (net : Network) (trace : List TraceItem) (journal : List Entry)
    (s m e c b : ℕ)
    → has_begun net trace (journal ++ Dep (Sender s) m e c ∷ []) b ≡ has_begun net trace journal b
begun_after_machine net trace journal s m e c b =
    same_tests (came net trace (journal ++ Dep (Sender s) m e c ∷ []) b)
    (came net trace journal b) (machines_of net)
    (λ k. ap (λ (l : List (ℕ × ℕ)). has (take (length l) (blocks_to net trace k)) b)
    (delivered_other Env (Sender s) k m e c journal refl))

pub begun_after_reaction : (net : Network) (trace : List TraceItem) (journal : List Entry)
    (k : ℕ) (x : Snapshot) (o : Outcome) (b : ℕ)
    → has_begun net trace (journal ++ Rea k x o ∷ []) b ≡ has_begun net trace journal b
begun_after_reaction net trace journal k x o b =
    same_tests (came net trace (journal ++ Rea k x o ∷ []) b) (came net trace journal b)
    (machines_of net)
    (λ m. ap (λ (l : List (ℕ × ℕ)). has (take (length l) (blocks_to net trace m)) b)
    (delivered_by_reaction Env m k x o journal))

-- ---- the table

map_same : (f g : ℕ → Bool) (xs : List ℕ) → ((k : ℕ) → f k ≡ g k) → map f xs ≡ map g xs
map_same f g [] same = refl
map_same f g (x ∷ xs) same =
    ap (λ y. y ∷ map f xs) (same x) ∙ ap (λ l. g x ∷ l) (map_same f g xs same)

-- where no mark changes the table stays
pub table_stays : (net : Network) (trace : List TraceItem) (old new : List Entry)
    → ((b : ℕ) → has_begun net trace new b ≡ has_begun net trace old b)
    → begun_table net trace old ≡ begun_table net trace new
table_stays net trace old new same =
    map_same (has_begun net trace old) (has_begun net trace new) (upto (suc (settles trace)))
    (λ b. sym (same b))

-- the mark of the block that a delivery of the environment begins
pub table_marked : TraceGivesSent
    → (net : Network) (trace : List TraceItem) (journal : List Entry) (m e c block : ℕ)
    → m < length net.machines → block < suc (settles trace)
    → block_to net trace journal m ≡ Some block
    → slice_set (begun_table net trace journal) block true
    ≡ begun_table net trace (journal ++ Dep Env m e c ∷ [])
table_marked gives net trace journal m e c block below few is =
    set_table (has_begun net trace journal)
    (has_begun net trace (journal ++ Dep Env m e c ∷ [])) (suc (settles trace)) block true few
    (begun_after_own gives net trace journal m e c block below
    ∙ ap (λ o. has_begun net trace journal block || same_block o (Some block)) is
    ∙ ap (λ t. has_begun net trace journal block || t) (eq-eqb block block refl)
    ∙ or_true (has_begun net trace journal block))
    (λ k apart low.
    begun_after_own gives net trace journal m e c k below
    ∙ ap (λ o. has_begun net trace journal k || same_block o (Some k)) is
    ∙ ap (λ t. has_begun net trace journal k || t) (ne_eqb block k (λ e. apart (sym e)))
    ∙ or_none (has_begun net trace journal k))
  where
    or_true : (t : Bool) → (t || true) ≡ true
    or_true true = refl
    or_true false = refl
