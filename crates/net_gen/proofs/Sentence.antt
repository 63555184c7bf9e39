-- The declarations of a ring are those of a sentence.
use Rattle.std.proofs.Common.{ℕ, ◌<◌, List, [], ◌∷◌, ◌++◌, map, length, flat_map, refl, arith, ◌∙◌}
use Rattle.std.proofs.lemmas.List.{length-map}
use Rattle.std.specs.Prelude.{⊤}
use Rattle.polis_base.specs.Lists.{upto}
use Rattle.polis_base.specs.declared.token.Kind.{Kind}
use Rattle.polis_base.specs.declared.token.Kind.TheVariants as kinds
use Rattle.net_reader.specs.Lexemes.{Lexeme}
use Rattle.net_reader.specs.Grammar.{Part, ◌⨾◌, Only, IsWord, IsNum, IsValue, Nothing, Each, OneAnd, IsDomain, IsEvent, IsRow, IsMachine}
use Rattle.net_reader.specs.Layout.{IsOfSentence}
use Rattle.net_reader.specs.declared.raw.Word.{Word}
use Rattle.net_reader.specs.declared.raw.RawRow.{RawRow}
use Rattle.polis_base.specs.Draws.{after}
use Rattle.net_gen.specs.Networks.{num, value, events_of, tick_row, value_row, last_row, tick_row_at, value_row_at, tick_rows, value_rows, rows, machine, machine_at, machines, domain, ring}
use Rattle.polis_base.proofs.UptoPlaces.{length_upto}

-- some tokens are of the part
abbrev Has : Part → Type 0
Has P = (ts : List Lexeme) × P ts

infixr 20 ◌⨟◌
◌⨟◌ : {P Q : Part} → Has P → Has Q → Has (P ⨾ Q)
(x, p) ⨟ (y, q) = (x ++ y, (x, y, refl, p, q))

abbrev token : Kind → Lexeme
token kind = record { kind = kind; bytes = []; at = 0 }

only : {kind : Kind} → Has (Only kind)
only {kind} = (token kind ∷ [], (token kind, refl, refl))

word : (w : Word) → Has (IsWord w)
word w =
    let l : Lexeme = record { kind = kinds.Name; bytes = w.name; at = w.at } in
    (l ∷ [], (l, refl, refl))

number : (n : ℕ) → Has (IsNum (num n))
number n = (token (kinds.Number n) ∷ [], (token (kinds.Number n), refl, refl))

valued : (n : ℕ) → Has (IsValue (value n))
valued n = (token (kinds.Number n) ∷ [], (token (kinds.Number n), refl, refl))

none : Has Nothing
none = ([], refl)

-- tokens for each item
abbrev HaveEach : {A : Type 0} → (A → Part) → List A → Type 0
HaveEach P [] = ⊤
HaveEach P (a ∷ rest) = Has (P a) × HaveEach P rest

each : {A : Type 0} (P : A → Part) (xs : List A) → HaveEach P xs → Has (Each P xs)
each P [] h = ([], refl)
each P (a ∷ rest) h = h.0 ⨟ each P rest h.1

have_append : {A : Type 0} (P : A → Part) (xs ys : List A) → HaveEach P xs → HaveEach P ys
    → HaveEach P (xs ++ ys)
have_append P [] ys h k = k
have_append P (a ∷ rest) ys h k = (h.0, have_append P rest ys h.1 k)

have_map : {A : Type 0} (P : A → Part) (f : ℕ → A) → ((i : ℕ) → Has (P (f i)))
    → (is : List ℕ) → HaveEach P (map f is)
have_map P f h [] = tt
have_map P f h (i ∷ is) = (h i, have_map P f h is)

have_flat : {A : Type 0} (P : A → Part) (f : ℕ → List A) → ((i : ℕ) → HaveEach P (f i))
    → (is : List ℕ) → HaveEach P (flat_map f is)
have_flat P f h [] = tt
have_flat P f h (i ∷ is) = have_append P (f i) (flat_map f is) (h i) (have_flat P f h is)

one_and : {A : Type 0} (P : A → Part) (xs : List A) → 0 < length xs → HaveEach P xs
    → Has (OneAnd P P xs)
one_and P [] some h = absurd (omega arith)
one_and P (a ∷ rest) some h = h.0 ⨟ each P rest h.1

event_tokens : (i : ℕ) → HaveEach IsEvent (events_of i)
event_tokens i = (
  only ⨟ word _ ⨟ none ⨟ only ⨟ only,
  (
    only ⨟ word _ ⨟ (only ⨟ word _) ⨟ none,
    (only ⨟ word _ ⨟ none ⨟ only ⨟ only, tt),
  ),
)

tick_row_tokens : (i j v a b : ℕ) → Has (IsRow 1 (tick_row i j v a b))
tick_row_tokens i j v a b =
    only
    ⨟ (word _ ⨟ (only ⨟ only ⨟ word _) ⨟ (only ⨟ word _ ⨟ only ⨟ valued v) ⨟ none)
    ⨟ only
    ⨟ ((word _ ⨟ only ⨟ valued a) ⨟ (only ⨟ only ⨟ word _ ⨟ only ⨟ valued b) ⨟ none)

value_row_tokens : (i j w a : ℕ) → Has (IsRow 1 (value_row i j w a))
value_row_tokens i j w a =
    only
    ⨟ ((word _ ⨟ only ⨟ valued w) ⨟ none)
    ⨟ only
    ⨟ ((word _ ⨟ only ⨟ valued a) ⨟ (only ⨟ only ⨟ word _ ⨟ only ⨟ valued _) ⨟ none)

last_row_tokens : (i a : ℕ) → Has (IsRow 1 (last_row i a))
last_row_tokens i a =
    only
    ⨟ ((word _ ⨟ only ⨟ valued 0) ⨟ none)
    ⨟ only
    ⨟ ((word _ ⨟ only ⨟ valued a) ⨟ (only ⨟ only ⨟ word _ ⨟ none) ⨟ none)

rows_tokens : (i j x : ℕ) → HaveEach (IsRow 1) (rows i j x)
unfolding rows tick_rows value_rows
rows_tokens i j x =
    let P : RawRow → Part = IsRow 1 in
    have_append P (tick_rows i j x ++ value_rows i j (after x 16)) (last_row i _ ∷ [])
    (have_append P (tick_rows i j x) (value_rows i j (after x 16))
    (have_map P (tick_row_at i j x) (λ v. tick_row_tokens i j v _ _) (upto 8))
    (have_map P (value_row_at i j (after x 16)) (λ k. value_row_tokens i j _ _) (upto 7)))
    (last_row_tokens i _, tt)

machine_tokens : (i j x : ℕ) → Has (IsMachine 1 (machine i j x))
machine_tokens i j x =
    only ⨟ word _ ⨟ only ⨟ number _ ⨟ only
    ⨟ only ⨟ (word _ ⨟ (only ⨟ word _) ⨟ none)
    ⨟ (only ⨟ word _ ⨟ (only ⨟ word _) ⨟ none)
    ⨟ ((only ⨟ word _ ⨟ only ⨟ word _ ⨟ only ⨟ valued 0) ⨟ none)
    ⨟ each (IsRow 1) (rows i j (after x 1)) (rows_tokens i j (after x 1))
    ⨟ only

domain_tokens : Has (IsDomain domain)
domain_tokens = only ⨟ word _ ⨟ only ⨟ number 0 ⨟ only ⨟ number 7

pub sentence : (n x : ℕ) → 0 < n → IsOfSentence (ring n x)
unfolding machines
sentence n x some =
    only ⨟ word _ ⨟ only ⨟ number 1 ⨟ (domain_tokens ⨟ none)
    ⨟ each IsEvent (flat_map events_of (upto n)) (have_flat IsEvent events_of event_tokens (upto n))
    ⨟ one_and (IsMachine 1) (map (machine_at n x) (upto n))
    (let size = length-map (upto n) (machine_at n x) ∙ length_upto n in omega arith)
    (have_map (IsMachine 1) (machine_at n x) (λ i. machine_tokens i _ _) (upto n))
