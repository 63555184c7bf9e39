-- What is left of saves that are made one after another.
use Rattle.std.proofs.Common.{◌≡◌, ◌⊎◌, inl, inr, ◌+◌, ℕ, zero, suc, List, [], ◌∷◌, ◌++◌, Option, Some, Err, take, drop, slice_get, refl, ◌∙◌, ap, subst, arith}
use Rattle.std.specs.FinMap.{insert}
use Rattle.polis_base.specs.Host.{Files, bytes_at, Changes}
use Rattle.polis_base.specs.inner.Held.{held_there, held_elsewhere}
use Rattle.polis_words.specs.declared.status.Status.{Status}
use Rattle.polis_words.specs.declared.status.Status.TheVariants.{WriteFault, NoMemory}
use Rattle.output_files.specs.declared.product.Product.{Product}
use Rattle.output_files.specs.Products.{saves_one}
use Rattle.output_files.specs.Saves.{Save, files_after, MadeSome, IsOther, AreApart, AreHeld}
use Rattle.output_files.specs.Shown.{ShowsPrefix}
use Rattle.output_files.specs.Written.{no_memory_line}
use Rattle.output_files.specs.inner.Writing.{SavesText, ShowsLineOf, StopsSaving}
use Rattle.polis_words.specs.Lines.{write_fault_line}
use Rattle.polis_base.proofs.WhereTold.{changes_from, changes_through}

-- the saves before a place, the one there, and those after it
pub split_at : (saves : List Save) (k : ℕ) (save : Save) → slice_get saves k ≡ Some save
    → saves ≡ take k saves ++ save ∷ drop (k + 1) saves
split_at saves k save at = let n : k + 1 ≡ suc k = omega arith in rw n (split saves k save at)
  where
    split : (saves : List Save) (k : ℕ) (save : Save) → slice_get saves k ≡ Some save
        → saves ≡ take k saves ++ save ∷ drop (suc k) saves
    split [] k save at = cc
    split (first ∷ saves) zero save at = let same : first ≡ save = cc in
        ap (λ (s : Save). s ∷ saves) same
    split (first ∷ saves) (suc k) save at =
        ap (λ (rest : List Save). first ∷ rest) (split saves k save at)

-- one save more
pub files_next : (files : Files) (saves : List Save) (k : ℕ) (save : Save)
    → slice_get saves k ≡ Some save
    → files_after files (take (k + 1) saves)
    ≡ insert (files_after files (take k saves)) save.name save.text
files_next files saves k save at = let n : k + 1 ≡ suc k = omega arith in
    rw n (next files saves k save at)
  where
    next : (files : Files) (saves : List Save) (k : ℕ) (save : Save) → slice_get saves k ≡ Some save
        → files_after files (take (suc k) saves)
        ≡ insert (files_after files (take k saves)) save.name save.text
    next files [] k save at = cc
    next files (first ∷ saves) zero save at = let same : first ≡ save = cc in
        ap (λ (s : Save). insert files s.name s.text) same
    next files (first ∷ saves) (suc k) save at =
        next (insert files first.name first.text) saves k save at

-- What the loop over the saves keeps: those before the place are made, and nothing else changed.
pub record SavedSoFar (saves : List Save) (k : ℕ) (before now : Option Files)
    (shown_before shown_now : Option (List ℕ)) (load_before load_now write_before write_now : ℕ) :
    Type 0 where
  pub files : Changes before now (λ old new. new ≡ files_after old (take k saves))
  pub shown : shown_now ≡ shown_before
  pub load_faults : load_now ≡ load_before
  pub write_faults : write_now ≡ write_before

-- a save isn't made
pub stops_at : (a b c : Option Files) (s t : Option (List ℕ)) (saves : List Save) (k : ℕ)
    (save : Save) (status : Status) (rose : Type 0) → slice_get saves k ≡ Some save
    → Changes a b (λ old new. new ≡ files_after old (take k saves))
    → Changes b c (SavesText (Err status) save)
    → Changes s t (ShowsLineOf status save.name rose)
    → (status ≡ WriteFault) ⊎ (status ≡ NoMemory) → StopsSaving status saves rose a c s t
stops_at a b c s t saves k save status rose at before one shown (inl fault) = inl (
  fault,
  record {
    made = take k saves;
    next = save;
    rest = drop (k + 1) saves;
    split = split_at saves k save at;
    files = changes_through a b c (λ old new. new ≡ files_after old (take k saves))
        (SavesText (Err status) save) _ left before one;
    shown = changes_from s t (ShowsLineOf status save.name rose) _ line shown;
  },
)
  where
    left : (x y z : Files) → y ≡ files_after x (take k saves) → SavesText (Err status) save y z
        → (z ≡ files_after x (take k saves))
        ⊎ ((n : ℕ) × (z ≡ insert (files_after x (take k saves)) save.name (take n save.text)))
    left x y z h (inl e) = inl (e ∙ h)
    left x y z h (inr (f, n, e)) =
        inr (n, e ∙ ap (λ (files : Files). insert files save.name (take n save.text)) h)

    line : (x y : List ℕ) → ShowsLineOf status save.name rose x y
        → ShowsPrefix (write_fault_line save.name) rose x y
    line x y (inl h) = h.1
    line x y (inr h) = let e = h.0 in cc
stops_at a b c s t saves k save status rose at before one shown (inr wanting) = inr (
  wanting,
  record {
    files = changes_through a b c (λ old new. new ≡ files_after old (take k saves))
        (SavesText (Err status) save) (MadeSome saves) left before one;
    shown = changes_from s t (ShowsLineOf status save.name rose) _ line shown;
  },
)
  where
    left : (x y z : Files) → y ≡ files_after x (take k saves) → SavesText (Err status) save y z
        → MadeSome saves x z
    left x y z h (inl e) =
        (take k saves, save ∷ drop (k + 1) saves, split_at saves k save at, e ∙ h)
    left x y z h (inr (f, n, e)) = cc

    line : (x y : List ℕ) → ShowsLineOf status save.name rose x y
        → ShowsPrefix no_memory_line rose x y
    line x y (inl h) = let e = h.0 in cc
    line x y (inr h) = h.1

-- another name holds what it held
pub held_other : (files : Files) (saves : List Save) (name : List ℕ) → IsOther name saves
    → bytes_at (files_after files saves) name ≡ bytes_at files name
held_other files [] name other = refl
held_other files (save ∷ saves) name other =
    held_other (insert files save.name save.text) saves name other.1
    ∙ held_elsewhere files save.name save.text name other.0

-- each text is held under its name
pub all_held : (files : Files) (saves : List Save) → AreApart saves
    → AreHeld (files_after files saves) saves
all_held files [] apart = tt
all_held files (save ∷ saves) apart = (
  held_other (insert files save.name save.text) saves save.name apart.0
      ∙ held_there files save.name save.text,
  all_held (insert files save.name save.text) saves apart.1,
)

-- the line of a save that failed
pub save_line : (s m t : Option (List ℕ)) (name line : List ℕ) (rose rose' : Type 0) → m ≡ s
    → line ≡ write_fault_line name → (rose → rose')
    → Changes m t (ShowsPrefix line rose) → Changes s t (ShowsLineOf WriteFault name rose')
save_line s m t name line rose rose' same is raise shown =
    changes_from s t (ShowsPrefix (write_fault_line name) rose) _
    (λ old new h. inl (refl, raised old new h))
    (subst (λ (u : Option (List ℕ)). Changes u t (ShowsPrefix (write_fault_line name) rose)) same
    (subst (λ (l : List ℕ). Changes m t (ShowsPrefix l rose)) is shown))
  where
    raised : (old new : List ℕ) → ShowsPrefix (write_fault_line name) rose old new
        → ShowsPrefix (write_fault_line name) rose' old new
    raised old new (inl whole) = inl whole
    raised old new (inr (inl (k, e, r))) = inr (inl (k, e, raise r))
    raised old new (inr (inr none)) = inr (inr none)

-- one save, and three, put into a list one after another
pub one_save : (none all : List Save) (a x : Save) → none ≡ [] → all ≡ none ++ a ∷ [] → a ≡ x
    → all ≡ x ∷ []
one_save none all a x n e s = e ∙ ap (λ (l : List Save). l ++ a ∷ []) n
    ∙ ap (λ (save : Save). save ∷ []) s

-- the parts of a product that saves one text
pub one_made : (ending stem stem_is text text_is shown shown_is : List ℕ) (product : Product)
    → product ≡ saves_one (stem ++ ending) text shown → stem ≡ stem_is → text ≡ text_is
    → shown ≡ shown_is → product ≡ saves_one (stem_is ++ ending) text_is shown_is
one_made ending stem stem_is text text_is shown shown_is product p st te sh =
    p ∙ (λ i. saves_one (st i ++ ending) (te i) (sh i))
