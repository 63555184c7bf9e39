-- What stands at the places of lists that are joined, cut, mapped or changed.
use Rattle.std.proofs.Common.{Bool, Contains, List, Option, Some, [], ap, append_assoc, arith, cond, drop, false, flat_map, get_or, inl, inr, length, length-drop, map, refl, replicate, slice_get, slice_index, slice_index_or, slice_set, subst, suc, sym, take, true, zero, ℕ, ◌++◌, ◌+◌, ◌-◌, ◌<◌, ◌==◌, ◌∙◌, ◌∷◌, ◌≡◌, ◌≤◌, ◌⊎◌}
use Rattle.std.proofs.Math.Seq.{drop-cons}
use Rattle.std.proofs.lemmas.Bool.{cases_Bool}
use Rattle.std.proofs.lemmas.List.{append-nil, get_or-set_same, take_all, take_more}
use Rattle.std.proofs.lemmas.Option.{get_or_from_slice_get, slice_get_within}
use Rattle.std.specs.Cmp.Lexicographic.{other_text, pointwise, same_text}
use Rattle.std.specs.List.{AllZip}
use Rattle.std.specs.Option.{option_or}
use Rattle.polis_base.specs.Lists.{head_of, last_of}

pub flat_map_push : {X Y : Type 0} (f : X → List Y) (xs : List X) (x : X)
    → flat_map f (xs ++ x ∷ []) ≡ flat_map f xs ++ f x
flat_map_push f [] x = append-nil (f x)
flat_map_push f (y ∷ xs) x =
    ap (λ l. f y ++ l) (flat_map_push f xs x) ∙ sym (append_assoc (f y) (flat_map f xs) (f x))

pub get_stays : {X : Type 0} (xs ys : List X) (n : ℕ) (x : X) → slice_get xs n ≡ Some x
    → slice_get (xs ++ ys) n ≡ Some x
get_stays [] ys n x h = absurd (cc)
get_stays (y ∷ xs) ys zero x h = h
get_stays (y ∷ xs) ys (suc n) x h = get_stays xs ys n x h

pub get_right : {X : Type 0} (xs ys : List X) (i : ℕ)
    → slice_get (xs ++ ys) (length xs + i) ≡ slice_get ys i
get_right [] ys i = let e : 0 + i ≡ i = omega arith in ap (slice_get ys) e
get_right (x ∷ xs) ys i = let e : suc (length xs) + i ≡ suc (length xs + i) = omega arith in
    ap (slice_get (x ∷ xs ++ ys)) e ∙ get_right xs ys i

pub get_map : {X Y : Type 0} (f : X → Y) (xs : List X) (i : ℕ) (x : X) → slice_get xs i ≡ Some x
    → slice_get (map f xs) i ≡ Some (f x)
get_map f [] i x is = cc
get_map f (z ∷ xs) zero x is = cc
get_map f (z ∷ xs) (suc i) x is = get_map f xs i x is

pub index_end : (xs : List ℕ) (n : ℕ) → slice_index (xs ++ n ∷ []) (length xs) ≡ n
index_end [] n = refl
index_end (x ∷ xs) n = index_end xs n

pub empty_of_length : (group : List ℕ) → length group ≡ 0 → group ≡ []
empty_of_length [] e = refl
empty_of_length (x ∷ xs) e = absurd (omega arith)

pub index_zeros : (n k : ℕ) → slice_index (replicate n 0) k ≡ 0
index_zeros zero k = refl
index_zeros (suc n) zero = refl
index_zeros (suc n) (suc k) = index_zeros n k

pub index_append : (xs ys : List ℕ) (j : ℕ) → j < length xs
    → slice_index (xs ++ ys) j ≡ slice_index xs j
index_append [] ys j low = absurd (omega arith)
index_append (x ∷ xs) ys zero low = refl
index_append (x ∷ xs) ys (suc j) low = index_append xs ys j (omega arith)

pub nowhere_set : (n k : ℕ) → get_or (replicate n false) k false ≡ false
nowhere_set zero k = refl
nowhere_set (suc n) zero = refl
nowhere_set (suc n) (suc k) = nowhere_set n k

pub length_map : {X Y : Type 0} (f : X → Y) (xs : List X) → length (map f xs) ≡ length xs
length_map f [] = refl
length_map f (x ∷ xs) = ap suc (length_map f xs)

pub get_left : {X : Type 0} (xs ys : List X) (i : ℕ) → i < length xs
    → slice_get (xs ++ ys) i ≡ slice_get xs i
get_left [] ys i low = absurd (omega arith)
get_left (x ∷ xs) ys zero low = refl
get_left (x ∷ xs) ys (suc i) low = get_left xs ys i (omega arith)

pub some_is : {X : Type 0} (x y : X) → Some x ≡ Some y → x ≡ y
some_is x y e = cc

pub head_if : (b : Bool) (xs : List ℕ) (y : ℕ)
    → head_of (xs ++ cond b (y ∷ []) []) ≡ cond b (option_or (head_of xs) (Some y)) (head_of xs)
head_if true [] y = refl
head_if true (x ∷ xs) y = refl
head_if false xs y = ap head_of (append-nil xs)

pub get_end : {X : Type 0} (xs : List X) (y : X)
    → slice_get (xs ++ y ∷ []) (length xs) ≡ Some y
get_end [] y = refl
get_end (x ∷ xs) y = get_end xs y

pub take_whole : {X : Type 0} (xs : List X) (k : ℕ) → length xs ≤ k → take k xs ≡ xs
take_whole [] zero h = refl
take_whole [] (suc k) h = refl
take_whole (x ∷ xs) zero h = absurd (omega arith)
take_whole (x ∷ xs) (suc k) h = ap (λ l. x ∷ l) (take_whole xs k (omega arith))

pub drop_past : {X : Type 0} (xs : List X) (n : ℕ) → length xs ≤ n → drop n xs ≡ []
drop_past [] zero h = refl
drop_past [] (suc n) h = refl
drop_past (x ∷ xs) zero h = absurd (omega arith)
drop_past (x ∷ xs) (suc n) h = drop_past xs n (omega arith)

pub length_append : {X : Type 0} (xs ys : List X) → length (xs ++ ys) ≡ length xs + length ys
length_append [] ys = omega arith
length_append (x ∷ xs) ys = let rest = length_append xs ys in omega arith

pub drop_one : {X : Type 0} (xs : List X) (k : ℕ) (x : X) → slice_get xs k ≡ Some x
    → drop k xs ≡ x ∷ drop (suc k) xs
drop_one {X = X} xs k x e =
    drop-cons xs k x (slice_get_within xs k x e)
    ∙ ap (λ (y : X). y ∷ drop (suc k) xs) (get_or_from_slice_get xs k x x e)

pub some_at : {X : Type 0} (xs : List X) (i : ℕ) → i < length xs → (x : X) × (slice_get xs i ≡ Some x)
some_at [] i below = absurd (omega arith)
some_at (x ∷ xs) zero below = (x, refl)
some_at (x ∷ xs) (suc i) below = some_at xs i (omega arith)

pub last_more : {X : Type 0} (x y : X) (xs : List X) → last_of x (xs ++ y ∷ []) ≡ y
last_more x y [] = refl
last_more x y (z ∷ xs) = last_more z y xs

pub map_of_map : {X Y Z : Type 0} (g : Y → Z) (f : X → Y) (xs : List X)
    → map g (map f xs) ≡ map (λ x. g (f x)) xs
map_of_map g f [] = refl
map_of_map g f (x ∷ xs) = ap (λ l. g (f x) ∷ l) (map_of_map g f xs)

pub same_numbers : (xs ys : List ℕ) → pointwise ◌==◌ xs ys ≡ true → xs ≡ ys
same_numbers xs ys h = same_text xs ys (sym h)

pub both_empty : {X : Type 0} (xs ys : List X) → xs ++ ys ≡ [] → (xs ≡ []) × (ys ≡ [])
both_empty [] ys h = (refl, h)
both_empty (x ∷ xs) ys h = cc

pub each_more : {X : Type 0} (P : X → Type 0) (xs : List X) (x : X)
    → ((i : ℕ) (y : X) → slice_get xs i ≡ Some y → P y)
    → P x
    → (i : ℕ) (y : X) → slice_get (xs ++ x ∷ []) i ≡ Some y → P y
each_more P [] x all holds zero y at = let same : x ≡ y = cc in subst P same holds
each_more P [] x all holds (suc i) y at = absurd cc
each_more P (z ∷ xs) x all holds zero y at = all zero y at
each_more P (z ∷ xs) x all holds (suc i) y at =
    each_more P xs x (λ j w there. all (suc j) w there) holds i y at

pub length_set : {X : Type 0} (xs : List X) (k : ℕ) (x : X) → length (slice_set xs k x) ≡ length xs
length_set [] k x = refl
length_set (y ∷ xs) zero x = refl
length_set (y ∷ xs) (suc k) x = ap suc (length_set xs k x)

pub append_twice : (old one new a b : List ℕ) → one ≡ old ++ a → new ≡ one ++ b → new ≡ old ++ (a ++ b)
append_twice old one new a b e f = f ∙ ap (λ (xs : List ℕ). xs ++ b) e ∙ append_assoc old a b

pub same_or_not : (xs ys : List ℕ) → (xs ≡ ys) ⊎ (xs ≡ ys → ⊥)
same_or_not xs ys =
    elim (cases_Bool (pointwise ◌==◌ xs ys)) [
      | inl same ↦ inl (same_text xs ys (sym same))
      | inr differ ↦ inr (other_text xs ys (sym differ))
    ]

pub zip_length : {A B : Type 0} (R : A → B → Type 0) (xs : List A) (ys : List B) → AllZip R xs ys
    → length ys ≡ length xs
zip_length R [] [] all = λ i. 0
zip_length R [] (y ∷ ys) all = absurd all
zip_length R (x ∷ xs) [] all = absurd all
zip_length R (x ∷ xs) (y ∷ ys) all = ap suc (zip_length R xs ys all.1)

pub index_set : (xs : List ℕ) (v code : ℕ) → v < length xs → slice_index (slice_set xs v code) v ≡ code
index_set xs v code low = get_or-set_same xs v code 0 low

pub list_at_end : (xs : List (List ℕ)) (x : List ℕ) → get_or (xs ++ x ∷ []) (length xs) [] ≡ x
list_at_end [] x = refl
list_at_end (y ∷ xs) x = list_at_end xs x

pub drop_index : (xs : List ℕ) (i : ℕ) → i < length xs
    → drop i xs ≡ slice_index xs i ∷ drop (i + 1) xs
drop_index xs i low = drop-cons xs i 0 low
    ∙ (let e : suc i ≡ i + 1 = omega arith in ap (λ (k : ℕ). slice_index xs i ∷ drop k xs) e)

pub index_past : (xs : List ℕ) (i : ℕ) → length xs ≤ i → slice_index xs i ≡ 0
index_past [] i high = refl
index_past (x ∷ xs) zero high = absurd (omega arith)
index_past (x ∷ xs) (suc i) high = index_past xs i (omega arith)

pub map_same : {X : Type 0} (f g : ℕ → X) (ks : List ℕ) → ((k : ℕ) → f k ≡ g k)
    → map f ks ≡ map g ks
map_same f g [] same = refl
map_same {X} f g (k ∷ ks) same =
    ap (λ (x : X). x ∷ map f ks) (same k) ∙ ap (λ (l : List X). g k ∷ l) (map_same f g ks same)

pub drop_whole : (xs : List ℕ) → drop (length xs) xs ≡ []
drop_whole [] = refl
drop_whole (x ∷ xs) = drop_whole xs

pub same_some : {X : Type 0} (o : Option X) (a b : X) → o ≡ Some a → o ≡ Some b → a ≡ b
same_some o a b p q = cc

pub take_next : {X : Type 0} (xs : List X) (k : ℕ) (x : X) → slice_get xs k ≡ Some x
    → take (k + 1) xs ≡ take k xs ++ x ∷ []
take_next {X} xs k x at =
    take_more xs k x (slice_get_within xs k x at)
    ∙ ap (λ (y : X). take k xs ++ y ∷ []) (get_or_from_slice_get xs k x x at)

pub length_push : (xs : List ℕ) (x : ℕ) → length (xs ++ x ∷ []) ≡ suc (length xs)
length_push [] x = refl
length_push (y ∷ ys) x = ap suc (length_push ys x)

pub contains_at : (xs : List ℕ) (i : ℕ) → i < length xs → Contains xs (slice_index xs i)
contains_at xs i low = (i, low, sym (default_too xs i (slice_index xs i) low))
  where
    default_too : (xs : List ℕ) (i d : ℕ) → i < length xs → slice_index xs i ≡ slice_index_or xs i d
    default_too [] i d low = absurd (omega arith)
    default_too (x ∷ xs) zero d low = refl
    default_too (x ∷ xs) (suc i) d low = default_too xs i d (omega arith)

pub map_push : (f : ℕ → ℕ) (xs : List ℕ) (x : ℕ) → map f (xs ++ x ∷ []) ≡ map f xs ++ f x ∷ []
map_push f [] x = refl
map_push f (y ∷ ys) x = ap (λ (zs : List ℕ). f y ∷ zs) (map_push f ys x)

pub take_one : (xs : List ℕ) (i x : ℕ) → slice_get xs i ≡ Some x
    → take (suc i) xs ≡ take i xs ++ x ∷ []
take_one [] i x e = cc
take_one (y ∷ ys) zero x e = let f : y ≡ x = cc in ap (λ (n : ℕ). n ∷ []) f
take_one (y ∷ ys) (suc i) x e = ap (λ (zs : List ℕ). y ∷ zs) (take_one ys i x e)

pub to_the_end : (bytes : List ℕ) (n : ℕ) → take (length bytes - n) (drop n bytes) ≡ drop n bytes
to_the_end bytes n = take_all (length bytes - n) (drop n bytes) (omega (arith, length-drop n bytes))
