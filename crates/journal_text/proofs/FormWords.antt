-- The words of each form, and the form of words.
use Rattle.std.proofs.Common.{◌≡◌, Bool, true, false, not, ◌&&◌, cond, [], ◌∷◌, ◌++◌, Option, Some, None, refl, sym, ◌∙◌, ap}
use Rattle.std.specs.Prelude.{codes, option_map}
use Rattle.std.specs.List.{list_all}
use Rattle.std.specs.Option.{option_and_then}
use Rattle.std.proofs.lemmas.Bool.{and_parts, not-true, not_from_false, false≢true, and_from}
use Rattle.std.proofs.lemmas.Option.{option_and_then_some}
use Rattle.domains.specs.Names.{is_same}
use Rattle.journal_text.specs.Forms.{Text, Texts, EntryForm, DepForm, FireForm, IdleForm, dash, colon, semicolon, arrow, is_word, list_of, before, after, both, two_lists, four_lists, dep_form, reaction_form, fire_form, idle_form, entry_form}
use Rattle.polis_base.proofs.AllPass.{all_pass}
use Rattle.domains.proofs.Names.{same_texts, same_self, texts_differ}
use Rattle.journal_text.proofs.Pieces.{words_in}
use Rattle.polis_base.proofs.Lists.{all_append}

abbrev pub lists_words : Texts × Texts → Texts
lists_words (a, b) = words_in a ++ semicolon ∷ words_in b

abbrev pub form_words : EntryForm → Texts
form_words (DepForm from to event) = codes "dep" ∷ from ∷ to ∷ event ∷ []
form_words (FireForm machine seen given) =
    codes "fire" ∷ machine ∷ colon ∷ (lists_words seen ++ arrow ∷ lists_words given)
form_words (IdleForm machine seen) = codes "idle" ∷ machine ∷ colon ∷ lists_words seen

abbrev pub good_lists : Texts × Texts → Bool
good_lists (a, b) = list_all is_word a && list_all is_word b

abbrev pub good_form : EntryForm → Bool
good_form (DepForm from to event) = is_word from && is_word to && is_word event
good_form (FireForm machine seen given) = is_word machine && (good_lists seen && good_lists given)
good_form (IdleForm machine seen) = is_word machine && good_lists seen

-- a word is no sign
pub word_is_not : (w sign : Text) → is_word sign ≡ false → is_word w ≡ true → is_same w sign ≡ false
word_is_not w sign isnt is =
    texts_differ w sign (λ e. false≢true (sym isnt ∙ ap is_word (sym e) ∙ is))

pub list_of_words : (items : Texts) → list_all is_word items ≡ true
    → list_of (words_in items) ≡ Some items
list_of_words [] h = refl
list_of_words (w ∷ []) h =
    let good = (and_parts (is_word w) _ h).0 in
    rw (good, word_is_not w dash refl good) refl
list_of_words (w ∷ next ∷ ws) h = rw h refl

pub words_of_list : (ws items : Texts) → list_of ws ≡ Some items
    → (ws ≡ words_in items) × (list_all is_word items ≡ true)
words_of_list [] items h = cc
words_of_list (w ∷ []) items h = one (is_same w dash) (is_word w) refl refl h
  where
    one : (a b : Bool) → is_same w dash ≡ a → is_word w ≡ b
        → cond a (Some []) (cond b (Some (w ∷ [])) None) ≡ Some items
        → (w ∷ [] ≡ words_in items) × (list_all is_word items ≡ true)
    one true b p q e =
        let none : items ≡ [] = cc in
        let is = same_texts w dash p in
        rw (none, is) (refl, refl)
    one false true p q e =
        let some : items ≡ w ∷ [] = cc in
        rw some (refl, and_from _ _ q refl)
    one false false p q e = cc
words_of_list (w ∷ next ∷ ws) items h = more (list_all is_word (w ∷ next ∷ ws)) refl h
  where
    more : (b : Bool) → list_all is_word (w ∷ next ∷ ws) ≡ b
        → cond b (Some (w ∷ next ∷ ws)) None ≡ Some items
        → (w ∷ next ∷ ws ≡ words_in items) × (list_all is_word items ≡ true)
    more true q e =
        let some : items ≡ w ∷ next ∷ ws = cc in
        rw some (refl, q)
    more false q e = cc

-- none of the words is the sign
abbrev pub avoids : Text → Texts → Bool
avoids sign words = list_all (λ w. not (is_same w sign)) words

pub before_at : (sign : Text) (ws rest : Texts) → avoids sign ws ≡ true
    → before sign (ws ++ sign ∷ rest) ≡ ws
before_at sign [] rest h = rw (same_self sign) refl
before_at sign (w ∷ ws) rest h =
    let parts = and_parts (not (is_same w sign)) _ h in
    rw (not-true _ parts.0, before_at sign ws rest parts.1) refl

pub after_at : (sign : Text) (ws rest : Texts) → avoids sign ws ≡ true
    → after sign (ws ++ sign ∷ rest) ≡ Some rest
after_at sign [] rest h = rw (same_self sign) refl
after_at sign (w ∷ ws) rest h =
    let parts = and_parts (not (is_same w sign)) _ h in
    rw (not-true _ parts.0, after_at sign ws rest parts.1) refl

pub cut_at : (sign : Text) (ws rest : Texts) → after sign ws ≡ Some rest
    → ws ≡ before sign ws ++ sign ∷ rest
cut_at sign [] rest h = cc
cut_at sign (w ∷ ws) rest h = at_once (is_same w sign) refl h (λ e. cut_at sign ws rest e)
  where
    at_once : (b : Bool) → is_same w sign ≡ b → cond b (Some ws) (after sign ws) ≡ Some rest
        → (after sign ws ≡ Some rest → ws ≡ before sign ws ++ sign ∷ rest)
        → w ∷ ws ≡ cond b [] (w ∷ before sign ws) ++ sign ∷ rest
    at_once true p e more =
        let here : ws ≡ rest = cc in
        rw (same_texts w sign p, here) refl
    at_once false p e more = ap (λ xs. w ∷ xs) (more e)

-- both of two answers
pub both_are : {A B : Type 0} (x : Option A) (y : Option B) (a : A) (b : B) → both x y ≡ Some (a, b)
    → (x ≡ Some a) × (y ≡ Some b)
both_are {A = A} {B = B} (Some p) (Some q) a b h =
    let first : p ≡ a = ap (λ (o : Option (A × B)). first_or p o) h in
    let second : q ≡ b = ap (λ (o : Option (A × B)). second_or q o) h in
    (ap Some first, ap Some second)
  where
    first_or : A → Option (A × B) → A
    first_or d None = d
    first_or d (Some (p, q)) = p

    second_or : B → Option (A × B) → B
    second_or d None = d
    second_or d (Some (p, q)) = q
both_are (Some p) None a b h = cc
both_are None y a b h = cc

words_avoid : (sign : Text) (items : Texts) → is_word sign ≡ false → is_same dash sign ≡ false
    → list_all is_word items ≡ true → avoids sign (words_in items) ≡ true
words_avoid sign [] isnt other h = rw other refl
words_avoid sign (w ∷ ws) isnt other h =
    all_pass is_word (λ w. not (is_same w sign))
    (λ w good. not_from_false _ (word_is_not w sign isnt good)) (w ∷ ws) h

pub two_lists_of : (a b : Texts) → list_all is_word a ≡ true → list_all is_word b ≡ true
    → two_lists (lists_words (a, b)) ≡ Some (a, b)
two_lists_of a b p q =
    let apart = words_avoid semicolon a refl refl p in
    rw (
      before_at semicolon (words_in a) (words_in b) apart,
      after_at semicolon (words_in a) (words_in b) apart,
      list_of_words a p,
      list_of_words b q,
    ) refl

pub two_lists_are : (ws a b : Texts) → two_lists ws ≡ Some (a, b)
    → (ws ≡ lists_words (a, b)) × (good_lists (a, b) ≡ true)
two_lists_are ws a b h =
    let parts = both_are (list_of (before semicolon ws))
    (option_and_then list_of (after semicolon ws)) a b h in
    let prefix = words_of_list (before semicolon ws) a parts.0 in
    option_and_then_some list_of (after semicolon ws) b parts.1 (λ rest there is.
    let back = words_of_list rest b is in
    let cut = cut_at semicolon ws rest there in
    (cut ∙ rw (prefix.0, back.0) refl, and_from _ _ prefix.1 back.1))

lists_avoid : (a b : Texts) → list_all is_word a ≡ true → list_all is_word b ≡ true
    → avoids arrow (lists_words (a, b)) ≡ true
lists_avoid a b p q =
    all_append _ (words_in a) (semicolon ∷ words_in b) (words_avoid arrow a refl refl p)
    (words_avoid arrow b refl refl q)

pub four_lists_of : (seen given : Texts × Texts) → good_lists seen ≡ true → good_lists given ≡ true
    → four_lists (lists_words seen ++ arrow ∷ lists_words given) ≡ Some (seen, given)
four_lists_of (a, b) (c, d) p q =
    let first = and_parts _ _ p in
    let second = and_parts _ _ q in
    let apart = lists_avoid a b first.0 first.1 in
    rw (
      before_at arrow (lists_words (a, b)) (lists_words (c, d)) apart,
      after_at arrow (lists_words (a, b)) (lists_words (c, d)) apart,
      two_lists_of a b first.0 first.1,
      two_lists_of c d second.0 second.1,
    ) refl

pub four_lists_are : (ws : Texts) (seen given : Texts × Texts) → four_lists ws ≡ Some (seen, given)
    → (ws ≡ lists_words seen ++ arrow ∷ lists_words given)
    × ((good_lists seen && good_lists given) ≡ true)
four_lists_are ws (a, b) (c, d) h =
    let parts = both_are (two_lists (before arrow ws)) (option_and_then two_lists (after arrow ws))
    (a, b) (c, d) h in
    let prefix = two_lists_are (before arrow ws) a b parts.0 in
    option_and_then_some two_lists (after arrow ws) (c, d) parts.1 (λ rest there is.
    let back = two_lists_are rest c d is in
    let cut = cut_at arrow ws rest there in
    (cut ∙ rw (prefix.0, back.0) refl, and_from _ _ prefix.1 back.1))

-- the words of a form have that form
pub form_of_words : (form : EntryForm) → good_form form ≡ true
    → entry_form (form_words form) ≡ Some form
form_of_words (DepForm from to event) h = rw h refl
form_of_words (FireForm machine seen given) h =
    let parts = and_parts (is_word machine) _ h in
    let lists = and_parts (good_lists seen) _ parts.1 in
    rw (parts.0, four_lists_of seen given lists.0 lists.1) refl
form_of_words (IdleForm machine (a, b)) h =
    let parts = and_parts (is_word machine) _ h in
    let lists = and_parts (list_all is_word a) _ parts.1 in
    rw (parts.0, two_lists_of a b lists.0 lists.1) refl

words_of_dep : (ws : Texts) (form : EntryForm) → dep_form ws ≡ Some form
    → (codes "dep" ∷ ws ≡ form_words form) × (good_form form ≡ true)
words_of_dep (from ∷ to ∷ event ∷ []) form h =
    go (is_word from && is_word to && is_word event) refl h
  where
    go : (b : Bool) → (is_word from && is_word to && is_word event) ≡ b
        → cond b (Some (DepForm from to event)) None ≡ Some form
        → (codes "dep" ∷ from ∷ to ∷ event ∷ [] ≡ form_words form) × (good_form form ≡ true)
    go true p e =
        let is : form ≡ DepForm from to event = cc in
        rw is (refl, p)
    go false p e = cc
words_of_dep [] form h = cc
words_of_dep (from ∷ []) form h = cc
words_of_dep (from ∷ to ∷ []) form h = cc
words_of_dep (from ∷ to ∷ event ∷ next ∷ ws) form h = cc

pub some_same : {A : Type 0} {a b : A} → Some a ≡ Some b → a ≡ b
some_same {A = A} {a = a} e = ap (λ (o : Option A). or_else a o) e
  where
    or_else : A → Option A → A
    or_else d None = d
    or_else d (Some x) = x

words_of_reaction : (ws : Texts) (machine : Text) (rest : Texts)
    → reaction_form ws ≡ Some (machine, rest)
    → (ws ≡ machine ∷ colon ∷ rest) × (is_word machine ≡ true)
words_of_reaction [] machine rest h = cc
words_of_reaction (w ∷ []) machine rest h = cc
words_of_reaction (w ∷ next ∷ ws) machine rest h = go (is_word w) (is_same next colon) refl refl h
  where
    go : (a b : Bool) → is_word w ≡ a → is_same next colon ≡ b
        → cond {A = Option (Text × Texts)} (a && b) (Some (w, ws)) None ≡ Some (machine, rest)
        → (w ∷ next ∷ ws ≡ machine ∷ colon ∷ rest) × (is_word machine ≡ true)
    go true true p q e =
        let pair : (w, ws) ≡ (machine, rest) = some_same e in
        let first : w ≡ machine = ap (λ (x : Text × Texts). x.0) pair in
        let second : ws ≡ rest = ap (λ (x : Text × Texts). x.1) pair in
        rw (← first, ← second, same_texts next colon q) (refl, p)
    go true false p q e = cc
    go false b p q e = cc

words_of_fire : (machine : Text) (rest : Texts) (form : EntryForm) → is_word machine ≡ true
    → fire_form (machine, rest) ≡ Some form
    → (codes "fire" ∷ machine ∷ colon ∷ rest ≡ form_words form) × (good_form form ≡ true)
words_of_fire machine rest form good h = go (four_lists rest) refl h
  where
    go : (o : Option ((Texts × Texts) × (Texts × Texts))) → four_lists rest ≡ o
        → option_map (λ lists. FireForm machine lists.0 lists.1) o ≡ Some form
        → (codes "fire" ∷ machine ∷ colon ∷ rest ≡ form_words form) × (good_form form ≡ true)
    go None p e = cc
    go (Some (seen, given)) p e =
        let is : FireForm machine seen given ≡ form = some_same e in
        let f = four_lists_are rest seen given p in (
          ap (λ ws. codes "fire" ∷ machine ∷ colon ∷ ws) f.0
              ∙ ap form_words is,
          ap good_form (sym is) ∙ and_from _ _ good f.1,
        )

words_of_idle : (machine : Text) (rest : Texts) (form : EntryForm) → is_word machine ≡ true
    → idle_form (machine, rest) ≡ Some form
    → (codes "idle" ∷ machine ∷ colon ∷ rest ≡ form_words form) × (good_form form ≡ true)
words_of_idle machine rest form good h = go (two_lists rest) refl h
  where
    go : (o : Option (Texts × Texts)) → two_lists rest ≡ o
        → option_map (λ lists. IdleForm machine lists) o ≡ Some form
        → (codes "idle" ∷ machine ∷ colon ∷ rest ≡ form_words form) × (good_form form ≡ true)
    go None p e = cc
    go (Some (a, b)) p e =
        let is : IdleForm machine (a, b) ≡ form = some_same e in
        let f = two_lists_are rest a b p in (
          ap (λ ws. codes "idle" ∷ machine ∷ colon ∷ ws) f.0
              ∙ ap form_words is,
          ap good_form (sym is) ∙ and_from _ _ good f.1,
        )

-- words of a form are the words of that form
pub words_of_form : (ws : Texts) (form : EntryForm) → entry_form ws ≡ Some form
    → (ws ≡ form_words form) × (good_form form ≡ true)
words_of_form [] form h = cc
words_of_form (w ∷ ws) form h =
    go (is_same w (codes "dep")) (is_same w (codes "fire")) (is_same w (codes "idle")) refl
    refl refl h
  where
    go : (a b d : Bool) → is_same w (codes "dep") ≡ a → is_same w (codes "fire") ≡ b
        → is_same w (codes "idle") ≡ d
        → cond a (dep_form ws)
        (cond b (option_and_then fire_form (reaction_form ws))
        (cond d (option_and_then idle_form (reaction_form ws)) None)) ≡ Some form
        → (w ∷ ws ≡ form_words form) × (good_form form ≡ true)
    go true b d p q r e = rw (same_texts w (codes "dep") p) (words_of_dep ws form e)
    go false true d p q r e =
        option_and_then_some fire_form (reaction_form ws) form e (λ (x : Text × Texts) there is.
        let f = words_of_reaction ws x.0 x.1 there in
        rw (same_texts w (codes "fire") q, f.0) (words_of_fire x.0 x.1 form f.1 is))
    go false false true p q r e =
        option_and_then_some idle_form (reaction_form ws) form e (λ (x : Text × Texts) there is.
        let f = words_of_reaction ws x.0 x.1 there in
        rw (same_texts w (codes "idle") r, f.0) (words_of_idle x.0 x.1 form f.1 is))
    go false false false p q r e = cc
