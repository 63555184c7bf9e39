-- What is declared breaks a rule somewhere or nowhere, whatever its places are.
use Rattle.std.proofs.Common.{◌≡◌, ℕ, ◌||◌, ◌&&◌, not, Bool, true, false, cond, List, [], ◌∷◌, ◌++◌, map, flat_map, Option, Some, None, refl, sym, ap, ◌∙◌}
use Rattle.std.specs.Prelude.{find, option_map, option_and_then, is_some}
use Rattle.std.proofs.lemmas.List.{length-map}
use Rattle.domains.specs.Names.{is_same}
use Rattle.net_reader.specs.declared.raw.Word.{Word}
use Rattle.net_reader.specs.declared.raw.RawValue.{RawValue}
use Rattle.net_reader.specs.declared.raw.RawValue.TheVariants as values
use Rattle.net_reader.specs.declared.raw.RawShape.{RawShape}
use Rattle.net_reader.specs.declared.raw.RawShape.TheVariants as shapes
use Rattle.net_reader.specs.declared.raw.RawDomain.{RawDomain}
use Rattle.net_reader.specs.declared.raw.RawEvent.{RawEvent}
use Rattle.net_reader.specs.declared.raw.RawNet.{RawNet}
use Rattle.net_reader.specs.Places.{word_alone, value_alone, shape_alone, domain_alone, typed_alone, event_alone, without_places}
use Rattle.net_names.specs.Places.{unless}
use Rattle.net_names.specs.Numbers.{names_of, missing, repeated, number_in}
use Rattle.net_names.specs.Scopes.{shape_of, event_domain}
use Rattle.net_names.specs.Values.{value_in, count_of, is_value}

-- there is no place
abbrev pub empty : List ℕ → Bool
empty [] = true
empty (p ∷ ps) = false

empty_append : (a b : List ℕ) → empty (a ++ b) ≡ (empty a && empty b)
empty_append [] b = refl
empty_append (p ∷ ps) b = refl

pub append_alone : (a b c d : List ℕ) → empty a ≡ empty c → empty b ≡ empty d
    → empty (a ++ b) ≡ empty (c ++ d)
append_alone a b c d p q =
    empty_append a b
    ∙ ap (λ (t : Bool). t && empty b) p
    ∙ ap (λ (t : Bool). empty c && t) q
    ∙ sym (empty_append c d)

pub unless_alone : (t u : Bool) (p q : ℕ) → t ≡ u → empty (unless t p) ≡ empty (unless u q)
unless_alone t u p q same = is_test t p ∙ same ∙ sym (is_test u q)
  where
    is_test : (b : Bool) (place : ℕ) → empty (unless b place) ≡ b
    is_test true place = refl
    is_test false place = refl

-- where each item is looked at alike
pub flat_alone : {X Y : Type 0} (f : X → List ℕ) (g : Y → List ℕ) (h : X → Y)
    → ((x : X) → empty (g (h x)) ≡ empty (f x)) → (xs : List X)
    → empty (flat_map g (map h xs)) ≡ empty (flat_map f xs)
flat_alone f g h alike [] = refl
flat_alone f g h alike (x ∷ xs) =
    append_alone (g (h x)) (flat_map g (map h xs)) (f x) (flat_map f xs) (alike x)
    (flat_alone f g h alike xs)

pub names_alone : (ws : List Word) → names_of (map word_alone ws) ≡ names_of ws
names_alone [] = refl
names_alone (w ∷ ws) = ap (λ (ns : List (List ℕ)). w.name ∷ ns) (names_alone ws)

pub missing_alone : (p q : List ℕ → Bool) → ((name : List ℕ) → p name ≡ q name) → (ws : List Word)
    → empty (missing p (map word_alone ws)) ≡ empty (missing q ws)
missing_alone p q same ws =
    flat_alone (λ (w : Word). unless (q w.name) w.at) (λ (w : Word). unless (p w.name) w.at)
    word_alone (λ w. unless_alone (p w.name) (q w.name) 0 w.at (same w.name)) ws

pub repeated_alone : (p q : List ℕ → Bool) → ((name : List ℕ) → p name ≡ q name)
    → (ws : List Word)
    → empty (repeated p (map word_alone ws)) ≡ empty (repeated q ws)
repeated_alone p q same [] = refl
repeated_alone p q same (w ∷ ws) =
    append_alone (unless (not (p w.name)) 0)
    (repeated (λ name. p name || is_same name w.name) (map word_alone ws))
    (unless (not (q w.name)) w.at) (repeated (λ name. q name || is_same name w.name) ws)
    (unless_alone (not (p w.name)) (not (q w.name)) 0 w.at (ap (λ (b : Bool). not b) (same w.name)))
    (repeated_alone (λ name. p name || is_same name w.name) (λ name. q name || is_same name w.name)
    (λ name. ap (λ (b : Bool). b || is_same name w.name) (same name)) ws)

-- what is looked up by name
pub find_alone : {X Y : Type 0} (p : X → Bool) (q : Y → Bool) (h : X → Y)
    → ((x : X) → q (h x) ≡ p x) → (xs : List X)
    → find q (map h xs) ≡ option_map h (find p xs)
find_alone p q h same [] = refl
find_alone {X} p q h same (x ∷ xs) =
    ap (λ (b : Bool). cond b (Some (h x)) (find q (map h xs))) (same x)
    ∙ step (p x) (find_alone p q h same xs)
  where
    step : (b : Bool) → find q (map h xs) ≡ option_map h (find p xs)
        → cond b (Some (h x)) (find q (map h xs)) ≡ option_map h (cond b (Some x) (find p xs))
    step true rest = refl
    step false rest = rest

pub shape_of_alone : (net : RawNet) (name : List ℕ)
    → shape_of (without_places net) name ≡ option_map shape_alone (shape_of net name)
shape_of_alone net name =
    let is_it : RawDomain → Bool = λ d. is_same name d.name.name in
    ap (option_map (λ (d : RawDomain). d.shape))
    (find_alone is_it is_it domain_alone (λ d. refl) net.domains)
    ∙ outer (find (λ (d : RawDomain). is_same name d.name.name) net.domains)
  where
    outer : (o : Option RawDomain)
        → option_map (λ (d : RawDomain). d.shape) (option_map domain_alone o)
        ≡ option_map shape_alone (option_map (λ (d : RawDomain). d.shape) o)
    outer None = refl
    outer (Some d) = refl

pub event_domain_alone : (net : RawNet) (name : List ℕ)
    → event_domain (without_places net) name ≡ typed_alone (event_domain net name)
event_domain_alone net name =
    let is_it : RawEvent → Bool = λ e. is_same name e.name.name in
    ap (option_and_then (λ (e : RawEvent). e.domain))
    (find_alone is_it is_it event_alone (λ e. refl) net.events)
    ∙ outer (find (λ (e : RawEvent). is_same name e.name.name) net.events)
  where
    outer : (o : Option RawEvent)
        → option_and_then (λ (e : RawEvent). e.domain) (option_map event_alone o)
        ≡ typed_alone (option_and_then (λ (e : RawEvent). e.domain) o)
    outer None = refl
    outer (Some e) = refl

pub value_in_alone : (s : RawShape) (v : RawValue)
    → value_in (shape_alone s) (value_alone v) ≡ value_in s v
value_in_alone (shapes.Names words) (values.Name word) =
    ap (λ (ns : List (List ℕ)). number_in ns word.name) (names_alone words)
value_in_alone (shapes.Names words) (values.Number n) = refl
value_in_alone (shapes.Range first last) (values.Name word) = refl
value_in_alone (shapes.Range first last) (values.Number n) = refl

pub is_value_alone : (s : Option RawShape) (v : RawValue)
    → is_value (option_map shape_alone s) (value_alone v) ≡ is_value s v
is_value_alone None v = refl
is_value_alone (Some s) v = ap (λ (o : Option ℕ). is_some o) (value_in_alone s v)

pub count_alone : (s : RawShape) → count_of (shape_alone s) ≡ count_of s
count_alone (shapes.Names words) = length-map words word_alone
count_alone (shapes.Range first last) = refl
