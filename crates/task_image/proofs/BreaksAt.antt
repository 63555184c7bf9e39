-- What decoding answers is what reading gives.
use Rattle.std.proofs.Common.{◌≡◌, ℕ, zero, suc, ◌+◌, ◌≤◌, Bool, true, false, cond, eqb, List, [], ◌∷◌, ◌++◌, length, Result, Ok, Err, refl, sym, ap, subst, ◌∙◌, arith, inl, inr}
use Rattle.std.specs.Prelude.{nat_lt}
use Rattle.std.specs.List.{concat, list_all}
use Rattle.std.proofs.lemmas.Bool.{eqb-true, ltb-true}
use Rattle.std.proofs.lemmas.List.{append-nil, nil_from_length, length-append}
use Rattle.task_image.specs.declared.image.ImageMachine.{ImageMachine}
use Rattle.task_image.specs.Decoding.{AreBytesOf, BreaksAt, Decodes}
use Rattle.task_image.specs.Fields.{image_fields, ImageBytes}
use Rattle.task_image.specs.inner.FieldReaders.{Read, ◌>>=◌}
use Rattle.task_image.specs.inner.Reading.{machines_at, image_at}
use Rattle.task_image.proofs.IsReader.{IsBytes, Begins, left_of, bind_ok, bind_err, ok_is, ok_no_err}
use Rattle.task_image.proofs.MachinesAt.{MachinesOk, machines_reads}
use Rattle.task_image.proofs.IsImage.{image_to, image_few, image_from}
use Rattle.polis_base.proofs.Bools.{and_first, and_second}

pub fit : (bytes : List ℕ) → list_all (λ byte. nat_lt byte 256) bytes ≡ true → IsBytes bytes
fit [] all i = omega arith
fit (b ∷ bytes) all zero =
    ltb-true b 256 (and_first (nat_lt b 256) (list_all (λ byte. nat_lt byte 256) bytes) all)
fit (b ∷ bytes) all (suc i) =
    fit bytes (and_second (nat_lt b 256) (list_all (λ byte. nat_lt byte 256) bytes) all) i

-- nothing may be left
abbrev ended : List ImageMachine × List ℕ → Result (List ImageMachine) ℕ
ended x = cond (eqb (length x.1) 0) (Ok x.0) (Err (length x.1))

ended_ok : (x : List ImageMachine × List ℕ) (i : List ImageMachine) → (b : Bool)
    → eqb (length x.1) 0 ≡ b → cond b (Ok x.0) (Err (length x.1)) ≡ Ok i
    → (x.0 ≡ i) × (x.1 ≡ [])
ended_ok x i true t e = (ok_is x.0 i e, nil_from_length x.1 (eqb-true _ _ t))
ended_ok x i false t e = absurd cc

ended_err : (x : List ImageMachine × List ℕ) (left : ℕ) (b : Bool)
    → cond b (Ok x.0) (Err (length x.1)) ≡ Err left → length x.1 ≡ left
ended_err x left true e = absurd (ok_no_err x.0 left e)
ended_err x left false e = cc

pub image_takes : (bytes : List ℕ) (i : List ImageMachine) → IsBytes bytes
    → image_at bytes ≡ Ok i → AreBytesOf i bytes
unfolding image_at
image_takes bytes i fits e =
    let a = bind_ok (machines_at bytes) ended i e in
    let g = ended_ok a.0 i (eqb (length a.0.1) 0) refl a.2 in
    let t = machines_reads.takes bytes a.0 fits a.1 in
    let whole : bytes ≡ ImageBytes a.0.0 =
    t.0.parts ∙ ap (λ (rest : List ℕ). ImageBytes a.0.0 ++ rest) g.1
    ∙ append-nil (ImageBytes a.0.0) in
    subst (λ (j : List ImageMachine). AreBytesOf j bytes) g.0
    (record {
      image = image_to a.0.0 t.1;
      counts = image_few a.0.0 t.1;
      bytes_are = whole;
    })

pub image_again : (bytes : List ℕ) (i : List ImageMachine) → AreBytesOf i bytes
    → image_at bytes ≡ Ok i
unfolding image_at
image_again bytes i are =
    let again = machines_reads.again i [] (image_from i are.image are.counts) in
    let whole : bytes ≡ ImageBytes i ++ [] = are.bytes_are ∙ sym (append-nil (ImageBytes i)) in
    ap (λ (b : List ℕ). machines_at b >>= ended) whole
    ∙ ap (λ (r : Read (List ImageMachine)). r >>= ended) again

-- ---- where it breaks
-- what stands before the fault are fields of an image
image_begins : (bytes : List ℕ) (left : ℕ) → IsBytes bytes → image_at bytes ≡ Err left
    → Begins image_fields MachinesOk bytes left
unfolding image_at
image_begins bytes left fits e =
    elim (bind_err (machines_at bytes) ended left e) [
      | inl stops ↦ machines_reads.begins bytes left fits stops
      | inr a ↦
          let t = machines_reads.takes bytes a.0 fits a.1 in
          record {
            thing = a.0.0;
            allowed = t.1;
            prefix = image_fields a.0.0;
            more = [];
            parts = sym (append-nil (image_fields a.0.0));
            rest = a.0.1;
            bytes_are = t.0.parts;
            long = ended_err a.0 left (eqb (length a.0.1) 0) a.2;
          }
    ]

-- no image agrees with the bytes any further
image_most : (bytes : List ℕ) (left : ℕ) → IsBytes bytes → image_at bytes ≡ Err left
    → (i : List ImageMachine) → MachinesOk i → (prefix more : List (List ℕ)) → (rest : List ℕ)
    → image_fields i ≡ prefix ++ more → bytes ≡ concat prefix ++ rest → left ≤ length rest
unfolding image_at
image_most bytes left fits e i ok prefix more rest parts are =
    let most = machines_reads.most bytes fits i ok prefix more rest parts are in
    elim (bind_err (machines_at bytes) ended left e) [
      | inl stops ↦
          subst (λ (r : Read (List ImageMachine)). left_of r ≤ length rest) stops most
      | inr a ↦
          let l = ended_err a.0 left (eqb (length a.0.1) 0) a.2 in
          let m : length a.0.1 ≤ length rest =
          subst (λ (r : Read (List ImageMachine)). left_of r ≤ length rest) a.1 most in
          omega (arith, l, m)
    ]

pub image_ends : (bytes : List ℕ) (left : ℕ) → IsBytes bytes → image_at bytes ≡ Err left
    → left ≤ length bytes
image_ends bytes left fits e =
    let b = image_begins bytes left fits e in
    let l = ap length b.bytes_are ∙ length-append (concat b.prefix) b.rest in
    let long = b.long in
    omega (arith, l, long)

pub breaks : (bytes : List ℕ) (left place : ℕ) → IsBytes bytes → image_at bytes ≡ Err left
    → place + left ≡ length bytes → BreaksAt bytes place
breaks bytes left place fits e there =
    let b = image_begins bytes left fits e in
    let long = b.long in
    let l = ap length b.bytes_are ∙ length-append (concat b.prefix) b.rest in
    record {
      none = λ i are. ok_no_err i left (sym (image_again bytes i are) ∙ e);
      begin = record {
        image = b.thing;
        has_bytes = record {
          image = image_to b.thing b.allowed;
          counts = image_few b.thing b.allowed;
          bytes_are = refl;
        };
        prefix = b.prefix;
        more = b.more;
        fields = b.parts;
        rest = b.rest;
        bytes_are = b.bytes_are;
        long = omega (arith, l, long, there);
      };
      most = λ count s.
          let m = image_most bytes left fits e s.image
          (image_from s.image s.has_bytes.image s.has_bytes.counts) s.prefix s.more s.rest s.fields
          s.bytes_are in
          let k = ap length s.bytes_are ∙ length-append (concat s.prefix) s.rest in
          let n = s.long in
          omega (arith, m, k, n, there);
    }

pub decodes_ok : (bytes : List ℕ) (i : List ImageMachine) → IsBytes bytes → image_at bytes ≡ Ok i
    → Decodes bytes (Ok i)
decodes_ok bytes i fits e = (
  image_takes bytes i fits e,
  λ j are. ok_is j i (sym (image_again bytes j are) ∙ e),
)
