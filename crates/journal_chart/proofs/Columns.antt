-- Which machines have a column, and how wide columns are.
use Rattle.std.proofs.Common.{subst, nat_lt, ◌&&◌, Option, unwrap_or, option_map, codes, ◌≡◌, ℕ, zero, suc, ◌+◌, ◌*◌, ◌/◌, ◌-◌, ◌<◌, ◌≤◌, max, Bool, true, false, cond, ◌==◌, ◌||◌, List, [], ◌∷◌, ◌++◌, map, filter, filter_map, length, replicate, take, drop, slice_get, slice_set, Some, refl, sym, ap, ◌∙◌, arith}
use Rattle.std.proofs.lemmas.Bool.{and_parts, eq-eqb, ltb-true, ne_eqb}
use Rattle.std.proofs.lemmas.Grind.{replicate_next}
use Rattle.std.proofs.lemmas.List.{append-nil, append_assoc, take-replicate, drop-replicate, length-replicate, length-append, map-append}
use Rattle.std.proofs.lemmas.List.Folds.{list_any-append}
use Rattle.std.proofs.lemmas.List.Elements.{filter_map-append}
use Rattle.polis_base.specs.Lists.{upto}
use Rattle.polis_base.proofs.Lists.{one_more}
use Rattle.polis_base.proofs.Members.{in_at, of_filter, of_upto}
use Rattle.polis_base.proofs.Places.{flat_map_push, length_map, map_same, same_some, take_next}
use Rattle.polis_base.proofs.UptoPlaces.{get_map_upto, length_upto, map_upto}
use Rattle.transition_table.specs.NetworkNames.{machine_name}
use Rattle.transition_table.specs.declared.decl.Party.{Party}
use Rattle.transition_table.specs.declared.decl.Party.TheVariants.{Env, Machine as Sender}
use Rattle.transition_table.specs.declared.machine.Machine.{Machine}
use Rattle.transition_table.specs.declared.network.Network.{Network}
use Rattle.journals.specs.declared.entry.Entry.{Entry}
use Rattle.journals.specs.declared.entry.Entry.TheVariants.{Dep, Rea}
use Rattle.journals.specs.Journals.{FitsNetwork, is_event_code, is_party, same_party}
use Rattle.journals.specs.Moved.{machine_of}
use Rattle.journals.proofs.MomentsAfter.{set_table}
use Rattle.journal_chart.specs.Columns.{columns, greatest, has_column, item_of, names, party_names, width_of}
use Rattle.journal_chart.specs.Labels.{axis_of}
use Rattle.journal_chart.specs.Pictures.{cell, cells}
use Rattle.journal_chart.specs.inner.Layouts.{machine_axes, sender}

-- ---- the machines that entries name

-- nothing is named yet
pub none_named : (n : ℕ) → replicate n false ≡ map (has_column []) (upto n)
none_named zero = refl
none_named (suc n) =
    ap (λ (k : ℕ). replicate k false) (add n) ∙ replicate_next n false
    ∙ ap (λ (l : List Bool). l ++ false ∷ []) (none_named n)
    ∙ sym (map_upto (has_column []) n)
    ∙ ap (λ (k : ℕ). map (has_column []) (upto k)) (sym (add n))
  where
    add : (n : ℕ) → suc n ≡ n + 1
    add n = omega arith

-- one machine more is noted
pub noted : (f : ℕ → Bool) (n m : ℕ) → m < n
    → slice_set (map f (upto n)) m true ≡ map (λ k. f k || m == k) (upto n)
noted f n m below =
    set_table f (λ k. f k || m == k) n m true below
    (ap (λ (b : Bool). f m || b) (eq-eqb m m refl) ∙ either (f m))
    (λ k other inside. ap (λ (b : Bool). f k || b) (ne_eqb m k (λ e. other (sym e)))
    ∙ neither (f k))
  where
    either : (b : Bool) → (b || true) ≡ true
    either true = refl
    either false = refl

    neither : (b : Bool) → (b || false) ≡ b
    neither true = refl
    neither false = refl

or_grouped : (a b c : Bool) → ((a || b) || c) ≡ (a || (b || c))
or_grouped true b c = refl
or_grouped false b c = refl

or_none : (b : Bool) → (b || false) ≡ b
or_none true = refl
or_none false = refl

named_more : (before : List Entry) (x : Entry) (k : ℕ)
    → has_column (before ++ x ∷ []) k ≡ (has_column before k || names k x)
named_more before x k =
    list_any-append (names k) before (x ∷ [])
    ∙ ap (λ (b : Bool). has_column before k || b) (or_none (names k x))

-- the sender is noted
sender_noted : (f : ℕ → Bool) (n : ℕ) (from : Party) (flags one : List Bool)
    → ((m : ℕ) → from ≡ Sender m → m < n)
    → flags ≡ map f (upto n)
    → (from ≡ Env → one ≡ flags)
    → ((m : ℕ) → from ≡ Sender m → one ≡ slice_set flags m true)
    → one ≡ map (λ k. f k || same_party from (Sender k)) (upto n)
sender_noted f n Env flags one within was env machine =
    env refl ∙ was
    ∙ map_same f (λ k. f k || false) (upto n) (λ k. sym (or_none (f k)))
sender_noted f n (Sender s) flags one within was env machine =
    machine s refl ∙ ap (λ (l : List Bool). slice_set l s true) was
    ∙ noted f n s (within s refl)

names_are : (x : Entry) (k : ℕ)
    → (same_party (sender x) (Sender k) || machine_of x == k) ≡ names k x
names_are (Dep from to e c) k = refl
names_are (Rea m s o) k = refl

-- the machines that an entry names are noted
pub entry_noted : (before : List Entry) (x : Entry) (n : ℕ) (flags one new : List Bool)
    → machine_of x < n
    → ((m : ℕ) → sender x ≡ Sender m → m < n)
    → (sender x ≡ Env → one ≡ flags)
    → ((m : ℕ) → sender x ≡ Sender m → one ≡ slice_set flags m true)
    → new ≡ slice_set one (machine_of x) true
    → flags ≡ map (has_column before) (upto n)
    → new ≡ map (has_column (before ++ x ∷ [])) (upto n)
entry_noted before x n flags one new below within env machine is was =
    is
    ∙ ap (λ (l : List Bool). slice_set l (machine_of x) true)
    (sender_noted (has_column before) n (sender x) flags one within was env machine)
    ∙ noted (λ k. has_column before k || same_party (sender x) (Sender k)) n (machine_of x) below
    ∙ map_same
    (λ k. (has_column before k || same_party (sender x) (Sender k)) || machine_of x == k)
    (has_column (before ++ x ∷ [])) (upto n)
    (λ k. or_grouped (has_column before k) (same_party (sender x) (Sender k)) (machine_of x == k)
    ∙ ap (λ (b : Bool). has_column before k || b) (names_are x k)
    ∙ sym (named_more before x k))

-- the machines that have a column, one more
pub columns_more : (p : ℕ → Bool) (m : ℕ) (b : Bool) → p m ≡ b
    → filter p (upto (m + 1)) ≡ filter p (upto m) ++ cond b (m ∷ []) []
columns_more p m b is =
    ap (λ (n : ℕ). filter p (upto n)) (add m) ∙ one_more p m
    ∙ ap (λ (t : Bool). filter p (upto m) ++ cond t (m ∷ []) []) is
  where
    add : (n : ℕ) → n + 1 ≡ suc n
    add n = omega arith

-- ---- the greatest length

max_grouped : (a b c : ℕ) → max a (max b c) ≡ max (max a b) c
max_grouped a b c = omega arith

pub greatest_append : (xs ys : List (List ℕ))
    → greatest (xs ++ ys) ≡ max (greatest xs) (greatest ys)
greatest_append [] ys = none (greatest ys)
  where
    none : (n : ℕ) → n ≡ max 0 n
    none n = omega arith
greatest_append (x ∷ xs) ys =
    ap (λ (n : ℕ). max (length x) n) (greatest_append xs ys)
    ∙ max_grouped (length x) (greatest xs) (greatest ys)

-- ---- cells

pub cell_is : (width : ℕ) (text : List ℕ)
    → cell width text
    ≡ replicate (width / 2 - length text / 2) 32 ++ text
    ++ replicate (width - (width / 2 - length text / 2 + length text)) 32
cell_is width text =
    ap
    (λ (l : List ℕ). l ++ text
    ++ drop (width / 2 - length text / 2 + length text) (replicate width 32))
    (take-replicate (width / 2 - length text / 2) width 32 (low width (length text / 2)))
    ∙ ap (λ (l : List ℕ). replicate (width / 2 - length text / 2) 32 ++ text ++ l)
    (drop-replicate (width / 2 - length text / 2 + length text) width 32)
  where
    low : (w n : ℕ) → w / 2 - n ≤ w
    low w n = omega arith

-- of three parts
length_parts : (a b : List ℕ) (c : ℕ) → length (a ++ c ∷ [] ++ b) ≡ length a + 1 + length b
length_parts a b c =
    length-append (a ++ c ∷ []) b ∙ ap (λ (k : ℕ). k + length b) (length-append a (c ∷ []))

length_cell : (width : ℕ) (c : ℕ) → 1 ≤ width → length (cell width (c ∷ [])) ≡ width
length_cell width c some =
    let n : ℕ = width / 2 - 1 / 2 in
    let front : List ℕ = replicate n 32 in
    let back : List ℕ = replicate (width - (n + 1)) 32 in
    ap (λ (l : List ℕ). length l) (cell_is width (c ∷ []))
    ∙ length_parts front back c
    ∙ ap (λ (k : ℕ). k + 1 + length back) (length-replicate n 32)
    ∙ ap (λ (k : ℕ). n + 1 + k) (length-replicate (width - (n + 1)) 32)
    ∙ filled width some
  where
    filled : (w : ℕ) → 1 ≤ w → w / 2 - 1 / 2 + 1 + (w - (w / 2 - 1 / 2 + 1)) ≡ w
    filled w some = omega arith

pub length_cells : (width c n : ℕ) → 1 ≤ width
    → length (cells width (replicate n (c ∷ []))) ≡ n * width
length_cells width c zero some = none width
  where
    none : (w : ℕ) → 0 ≡ 0 * w
    none w = omega arith
length_cells width c (suc n) some =
    length-append (cell width (c ∷ [])) (cells width (replicate n (c ∷ [])))
    ∙ ap (λ (k : ℕ). k + length (cells width (replicate n (c ∷ [])))) (length_cell width c some)
    ∙ ap (λ (k : ℕ). width + k) (length_cells width c n some)
    ∙ next width n
  where
    next : (w n : ℕ) → w + n * w ≡ suc n * w
    next w n = omega arith

-- a column is written in three parts
pub cell_written : (width : ℕ) (text old one two : List ℕ) (at room : ℕ)
    → at ≡ width / 2 - length text / 2 → room ≡ width - (at + length text)
    → one ≡ old ++ replicate at 32 → two ≡ one ++ text
    → two ++ replicate room 32 ≡ old ++ cell width text
cell_written width text old one two at room at_is room_is first second =
    ap (λ (l : List ℕ). l ++ replicate room 32) (second ∙ ap (λ (l : List ℕ). l ++ text) first)
    ∙ grouped old (replicate at 32) text (replicate room 32)
    ∙ ap (λ (n : ℕ). old ++ (replicate at 32 ++ text ++ replicate n 32)) room_is
    ∙ ap (λ (n : ℕ). old ++ (replicate n 32 ++ text ++ replicate (width - (n + length text)) 32))
    at_is
    ∙ ap (λ (l : List ℕ). old ++ l) (sym (cell_is width text))
  where
    grouped : (a b c d : List ℕ) → a ++ b ++ c ++ d ≡ a ++ (b ++ c ++ d)
    grouped a b c d = simp append_assoc refl

-- ---- where columns stand

length_table : (f : ℕ → ℕ) (n : ℕ) → length (map f (upto n)) ≡ n
length_table f n = length_map f (upto n) ∙ length_upto n

-- a machine of the network has an axis
pub axis_there : (net : Network) (entries : List Entry) (places : List ℕ) (m : ℕ)
    → places ≡ machine_axes net entries (length net.machines)
    → is_party net (Sender m) ≡ true → m < length places
axis_there net entries places m are there =
    let low = ltb-true m (length net.machines) there in
    let long = ap (λ (l : List ℕ). length l) are
    ∙ length_table (λ m. axis_of net entries (Sender m)) (length net.machines) in
    omega (arith, low, long)

pub axis_at : (net : Network) (entries : List Entry) (places : List ℕ) (m x : ℕ)
    → places ≡ machine_axes net entries (length net.machines)
    → is_party net (Sender m) ≡ true → slice_get places m ≡ Some x
    → x ≡ axis_of net entries (Sender m)
axis_at net entries places m x are there at =
    same_some (slice_get places m) x (axis_of net entries (Sender m)) at
    (ap (λ (l : List ℕ). slice_get l m) are
    ∙ get_map_upto (λ m. axis_of net entries (Sender m)) (length net.machines) m
    (ltb-true m (length net.machines) there))

-- the sender of an entry that fits is a machine of the network, where it is a machine
pub sender_within : (net : Network) (x : Entry) (m : ℕ) → FitsNetwork net x → sender x ≡ Sender m
    → m < length net.machines
sender_within net (Dep from to e c) m fits is =
    ltb-true m (length net.machines)
    (subst (λ (p : Party). is_party net p ≡ true) is
    (and_parts (is_party net from) (nat_lt to (length net.machines))
    (and_parts (is_party net from && nat_lt to (length net.machines))
    (is_event_code net e c) fits).0).0)
sender_within net (Rea k s o) m fits is = absurd (apart is)
  where
    apart : Env ≡ Sender m → ⊥
    apart e = cc

-- a column's machine is one of the network
pub column_within : (net : Network) (entries : List Entry) (machines : List ℕ) (k m : ℕ)
    → machines ≡ columns net entries → slice_get machines k ≡ Some m
    → m < length net.machines
column_within net entries machines k m are at =
    of_upto (length net.machines) m
    (of_filter (has_column entries) (upto (length net.machines)) m
    (in_at (columns net entries) k m
    (ap (λ (l : List ℕ). slice_get l k) (sym are) ∙ at))).0

-- a flag says whether a machine has a column
pub flag_is : (p : ℕ → Bool) (n m : ℕ) (flags : List Bool) (flag : Bool)
    → flags ≡ map p (upto n) → m < n → slice_get flags m ≡ Some flag → p m ≡ flag
flag_is p n m flags flag are below at =
    sym (same_some (slice_get flags m) flag (p m) at
    (ap (λ (l : List Bool). slice_get l m) are ∙ get_map_upto p n m below))

pub length_flags : (p : ℕ → Bool) (n : ℕ) (flags : List Bool) → flags ≡ map p (upto n)
    → length flags ≡ n
length_flags p n flags are =
    ap (λ (l : List Bool). length l) are ∙ length_map p (upto n) ∙ length_upto n

-- ---- what a name adds

pub name_of_machine : (net : Network) (m : ℕ) (machine : Machine) (name : List ℕ)
    → slice_get net.machines m ≡ Some machine → name ≡ machine.name → name ≡ machine_name net m
name_of_machine net m machine name at is =
    is ∙ ap (λ (o : Option Machine). unwrap_or (option_map (λ machine. machine.name) o) []) (sym at)

-- the names with one more
names_more : (net : Network) (machines : List ℕ) (k m : ℕ) → slice_get machines k ≡ Some m
    → map (machine_name net) (take (k + 1) machines)
    ≡ map (machine_name net) (take k machines) ++ machine_name net m ∷ []
names_more net machines k m at =
    ap (map (machine_name net)) (take_next machines k m at)
    ∙ map-append (machine_name net) (take k machines) (m ∷ [])

pub longest_more : (net : Network) (machines : List ℕ) (k m longest new : ℕ) (name : List ℕ)
    → slice_get machines k ≡ Some m
    → name ≡ machine_name net m
    → longest ≡ greatest (codes "env" ∷ map (machine_name net) (take k machines))
    → new ≡ max longest (length name)
    → new ≡ greatest (codes "env" ∷ map (machine_name net) (take (k + 1) machines))
longest_more net machines k m longest new name at named was is =
    is
    ∙ ap (λ (l : List ℕ). max longest (length l)) named
    ∙ ap (λ (n : ℕ). max n (length (machine_name net m))) was
    ∙ one (greatest (codes "env" ∷ map (machine_name net) (take k machines)))
    (length (machine_name net m))
    ∙ sym (greatest_append (codes "env" ∷ map (machine_name net) (take k machines))
    (machine_name net m ∷ []))
    ∙ ap (λ (l : List (List ℕ)). greatest (codes "env" ∷ l)) (sym (names_more net machines k m at))
  where
    one : (a b : ℕ) → max a b ≡ max a (max b 0)
    one a b = omega arith

pub item_more : (net : Network) (entries : List Entry) (k longest count new : ℕ) (x : Entry)
    → slice_get entries k ≡ Some x
    → longest ≡ greatest (filter_map (item_of net) (take k entries))
    → count ≡ greatest (filter_map (item_of net) (x ∷ []))
    → new ≡ max longest count
    → new ≡ greatest (filter_map (item_of net) (take (k + 1) entries))
item_more net entries k longest count new x at was one is =
    is
    ∙ ap (λ (n : ℕ). max n count) was
    ∙ ap (λ (n : ℕ). max (greatest (filter_map (item_of net) (take k entries))) n) one
    ∙ sym (greatest_append (filter_map (item_of net) (take k entries))
    (filter_map (item_of net) (x ∷ [])))
    ∙ ap greatest (sym (filter_map-append (item_of net) (take k entries) (x ∷ [])))
    ∙ ap (λ (l : List Entry). greatest (filter_map (item_of net) l)) (sym (take_next entries k x at))

pub names_written : (net : Network) (machines : List ℕ) (width k m : ℕ) (old now new name : List ℕ)
    → slice_get machines k ≡ Some m
    → name ≡ machine_name net m
    → now ≡ old ++ cells width (codes "env" ∷ map (machine_name net) (take k machines))
    → new ≡ now ++ cell width name
    → new ≡ old ++ cells width (codes "env" ∷ map (machine_name net) (take (k + 1) machines))
names_written net machines width k m old now new name at named was is =
    is
    ∙ ap (λ (l : List ℕ). now ++ cell width l) named
    ∙ ap (λ (l : List ℕ). l ++ cell width (machine_name net m)) was
    ∙ append_assoc old (cells width (codes "env" ∷ map (machine_name net) (take k machines)))
    (cell width (machine_name net m))
    ∙ ap (λ (l : List ℕ). old ++ l)
    (sym (flat_map_push (cell width) (codes "env" ∷ map (machine_name net) (take k machines))
    (machine_name net m))
    ∙ ap (λ (l : List (List ℕ)). cells width (codes "env" ∷ l))
    (sym (names_more net machines k m at)))

-- ---- one column more

bars_more : (width n : ℕ) (b : Bool)
    → cells width (replicate n (codes "|")) ++ cond b (cell width (codes "|")) []
    ≡ cells width (replicate (n + cond b 1 0) (codes "|"))
bars_more width n true =
    sym (flat_map_push (cell width) (replicate n (codes "|")) (codes "|"))
    ∙ ap (cells width) (sym (replicate_next n (codes "|")))
bars_more width n false =
    append-nil (cells width (replicate n (codes "|")))
    ∙ ap (λ (k : ℕ). cells width (replicate k (codes "|"))) (none n)
  where
    none : (n : ℕ) → n ≡ n + 0
    none n = omega arith

counted_more : (p : ℕ → Bool) (m : ℕ) (b : Bool) → p m ≡ b
    → 1 + length (filter p (upto (m + 1))) ≡ 1 + length (filter p (upto m)) + cond b 1 0
counted_more p m true is =
    ap (λ (l : List ℕ). 1 + length l) (columns_more p m true is)
    ∙ ap (λ (n : ℕ). 1 + n) (length-append (filter p (upto m)) (m ∷ []))
    ∙ grouped (length (filter p (upto m)))
  where
    grouped : (n : ℕ) → 1 + (n + 1) ≡ 1 + n + 1
    grouped n = omega arith
counted_more p m false is =
    ap (λ (l : List ℕ). 1 + length l) (columns_more p m false is)
    ∙ ap (λ (l : List ℕ). 1 + length l) (append-nil (filter p (upto m)))
    ∙ none (length (filter p (upto m)))
  where
    none : (n : ℕ) → 1 + n ≡ 1 + n + 0
    none n = omega arith

pub bare_more : (entries : List Entry) (width m : ℕ) (b : Bool) (now new : List ℕ)
    → has_column entries m ≡ b
    → now ≡ cells width
    (replicate (1 + length (filter (has_column entries) (upto m))) (codes "|"))
    → new ≡ now ++ cond b (cell width (codes "|")) []
    → new ≡ cells width
    (replicate (1 + length (filter (has_column entries) (upto (m + 1)))) (codes "|"))
bare_more entries width m b now new flag was is =
    is ∙ ap (λ (l : List ℕ). l ++ cond b (cell width (codes "|")) []) was
    ∙ bars_more width (1 + length (filter (has_column entries) (upto m))) b
    ∙ ap (λ (n : ℕ). cells width (replicate n (codes "|")))
    (sym (counted_more (has_column entries) m b flag))

-- the axis of the next machine stands half a column behind what is there
pub places_more : (net : Network) (entries : List Entry) (width m : ℕ) (bare places new : List ℕ)
    → width ≡ width_of net entries
    → bare ≡ cells width
    (replicate (1 + length (filter (has_column entries) (upto m))) (codes "|"))
    → places ≡ machine_axes net entries m
    → new ≡ places ++ (length bare + width / 2) ∷ []
    → new ≡ machine_axes net entries (m + 1)
places_more net entries width m bare places new wide was axes is =
    is
    ∙ ap (λ (l : List ℕ). l ++ (length bare + width / 2) ∷ []) axes
    ∙ ap (λ (n : ℕ). machine_axes net entries m ++ (n + width / 2) ∷ [])
    (ap (λ (l : List ℕ). length l) was
    ∙ length_cells width 124 (1 + length (filter (has_column entries) (upto m))) some)
    ∙ ap
    (λ (n : ℕ). machine_axes net entries m
    ++ ((1 + length (filter (has_column entries) (upto m))) * n + n / 2) ∷ []) wide
    ∙ sym (map_upto (λ m. axis_of net entries (Sender m)) m)
  where
    positive : (n : ℕ) → 1 ≤ 6 + n
    positive n = omega arith

    some : 1 ≤ width
    some = subst (λ (n : ℕ). 1 ≤ n) (sym wide)
        (positive (max (greatest (party_names net entries))
        (greatest (filter_map (item_of net) entries))))

-- as many axes as parties
pub bars_are : (net : Network) (entries : List Entry)
    → 1 + length (filter (has_column entries) (upto (length net.machines)))
    ≡ length (party_names net entries)
bars_are net entries =
    ap (λ (n : ℕ). 1 + n)
    (sym (length_map (machine_name net) (columns net entries)))
    ∙ next (length (map (machine_name net) (columns net entries)))
  where
    next : (n : ℕ) → 1 + n ≡ suc n
    next n = omega arith
