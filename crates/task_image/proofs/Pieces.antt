-- The bytes of an image are those of its fields.
use Rattle.std.proofs.Common.{◌≡◌, ℕ, List, [], ◌∷◌, ◌++◌, map, length, refl, sym, ap, ◌∙◌}
use Rattle.std.specs.Prelude.{codes}
use Rattle.std.specs.List.{flat_map, concat}
use Rattle.std.proofs.lemmas.List.{append-nil}
use Rattle.std.proofs.lemmas.List.Concat.{flat_map-cons}
use Rattle.std.proofs.lemmas.List.Folds.{concat-append}
use Rattle.task_code.specs.declared.instr.Instr.{Instr}
use Rattle.task_code.specs.declared.instr.Instr.TheVariants.{Test, Set, Goto, Halt}
use Rattle.task_image.specs.declared.image.ImageMachine.{ImageMachine}
use Rattle.task_image.specs.Fields.{one_byte, four_bytes, instr_fields, sizes_fields, code_fields, machine_fields, ImageBytes}
use Rattle.task_image.specs.inner.Pieces.{instr_bytes, counted, code_bytes, machine_bytes, image_bytes}

concat_map : {X : Type 0} (f : X → List ℕ) (xs : List X) → concat (map f xs) ≡ flat_map f xs
concat_map f [] = refl
concat_map f (x ∷ xs) =
    ap (λ (b : List ℕ). f x ++ b) (concat_map f xs) ∙ sym (flat_map-cons f x xs)

concat_each : {X : Type 0} (f : X → List (List ℕ)) (g : X → List ℕ)
    → ((x : X) → concat (f x) ≡ g x) → (xs : List X)
    → concat (flat_map f xs) ≡ flat_map g xs
concat_each f g is [] = refl
concat_each f g is (x ∷ xs) =
    ap concat (flat_map-cons f x xs) ∙ concat-append (f x) (flat_map f xs)
    ∙ ap (λ (b : List ℕ). b ++ concat (flat_map f xs)) (is x)
    ∙ ap (λ (b : List ℕ). g x ++ b) (concat_each f g is xs) ∙ sym (flat_map-cons g x xs)

bytes_of_instr : (i : Instr) → concat (instr_fields i) ≡ instr_bytes i
bytes_of_instr Halt = refl
bytes_of_instr (Test var targets) =
    ap (λ (b : List ℕ). 1 ∷ var ∷ b) (concat_map four_bytes targets)
bytes_of_instr (Set result code) = refl
bytes_of_instr (Goto target) = ap (λ (b : List ℕ). 3 ∷ b) (append-nil (four_bytes target))

bytes_of_code : (c : List Instr) → concat (code_fields c) ≡ code_bytes c
bytes_of_code c =
    ap (λ (b : List ℕ). four_bytes (length c) ++ b)
    (concat_each instr_fields instr_bytes bytes_of_instr c)

singles : (xs : List ℕ) → concat (map one_byte xs) ≡ xs
singles [] = refl
singles (x ∷ xs) = ap (λ (ys : List ℕ). x ∷ ys) (singles xs)

bytes_of_sizes : (sizes : List ℕ) → concat (sizes_fields sizes) ≡ counted sizes
bytes_of_sizes sizes = ap (λ (b : List ℕ). length sizes ∷ b) (singles sizes)

bytes_of_machine : (m : ImageMachine) → concat (machine_fields m) ≡ machine_bytes m
bytes_of_machine m =
    ap (λ (b : List ℕ). length m.name ∷ (m.name ++ b))
    (concat-append (sizes_fields m.vars) (sizes_fields m.results ++ code_fields m.code)
    ∙ ap (λ (b : List ℕ). b ++ concat (sizes_fields m.results ++ code_fields m.code))
    (bytes_of_sizes m.vars)
    ∙ ap (λ (b : List ℕ). counted m.vars ++ b)
    (concat-append (sizes_fields m.results) (code_fields m.code)
    ∙ ap (λ (b : List ℕ). b ++ concat (code_fields m.code)) (bytes_of_sizes m.results)
    ∙ ap (λ (b : List ℕ). counted m.results ++ b) (bytes_of_code m.code)))

pub bytes_of_image : (i : List ImageMachine) → ImageBytes i ≡ image_bytes i
bytes_of_image i =
    ap (λ (b : List ℕ). codes "PIMG" ++ 1 ∷ length i ∷ b)
    (concat_each machine_fields machine_bytes bytes_of_machine i)
