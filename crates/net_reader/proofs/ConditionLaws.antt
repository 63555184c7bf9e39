-- The laws of the rules of conditions.
use Rattle.std.proofs.Common.{◌≡◌, ℕ, Bool, true, false, ◌||◌, List, [], ◌++◌, refl, sym, ◌∙◌, ap, subst, append-nil, inl, inr}
use Rattle.polis_base.specs.declared.token.Keyword.TheVariants.{KwAbsent, KwIn}
use Rattle.polis_base.specs.declared.token.Sign.TheVariants.{Equal, LeftBrace, RightBrace}
use Rattle.polis_base.specs.declared.token.Kind.TheVariants as kinds
use Rattle.net_reader.specs.Lexemes.{Lexeme}
use Rattle.net_reader.specs.Grammar.{Part, ◌⨾◌, Key, Sign, IsWord, IsValue, Listed, IsCond}
use Rattle.net_reader.specs.Reading.{is, absent_at, is_at, one_of_at, after_name_at, named_at, cond_at}
use Rattle.net_reader.specs.declared.raw.Word.{Word}
use Rattle.net_reader.specs.declared.raw.RawValue.{RawValue}
use Rattle.net_reader.specs.declared.raw.RawCond.{RawCond}
use Rattle.net_reader.specs.declared.raw.RawCond.TheVariants as conds
use Rattle.net_reader.proofs.BoundParts.{closed, last_of, with_value, without_value}
use Rattle.net_reader.proofs.Laws.{Laws, none, Bind, bind_laws}
use Rattle.net_reader.proofs.Combinators.{Just, Or, same_laws, pure_laws, either_laws}
use Rattle.net_reader.proofs.Tokens.{apart, within, only_laws, word_laws, value_laws, listed_laws}

abbrev pub Is_absent : RawCond → Part
Is_absent e ts = (name : Word) × (e ≡ conds.Absent name) × (Key KwAbsent ⨾ IsWord name) ts

pub absent_laws : Laws (absent_at) (Is_absent) (is (kinds.Keyword KwAbsent)) none false
unfolding absent_at
absent_laws = same_laws
    (λ e ts f. (f.5.2, f.5.5.0, without_value f (last_of f.5)))
    (λ e ts f. with_value tt f.2 (closed f.0 f.2.4 f.1))
    (bind_laws (only_laws (kinds.Keyword KwAbsent) refl)
    (λ _. bind_laws word_laws (λ name. pure_laws {A = RawCond} (conds.Absent name))
    (apart _ _ refl)) (apart _ _ refl))

abbrev pub Is_is : (name : Word) → RawCond → Part
Is_is name e ts = (value : RawValue) × (e ≡ conds.Is name value) × (Sign Equal ⨾ IsValue value) ts

pub is_laws : (name : Word) → Laws (is_at name) (Is_is name) (is (kinds.Sign Equal)) none false
unfolding is_at
is_laws name = same_laws
    (λ e ts f. (f.5.2, f.5.5.0, without_value f (last_of f.5)))
    (λ e ts f. with_value tt f.2 (closed f.0 f.2.4 f.1))
    (bind_laws (only_laws (kinds.Sign Equal) refl)
    (λ _. bind_laws value_laws (λ value. pure_laws {A = RawCond} (conds.Is name value))
    (apart _ _ refl)) (apart _ _ refl))

abbrev pub Is_one_of : (name : Word) → RawCond → Part
Is_one_of name e ts =
    (values : List RawValue) × (e ≡ conds.OneOf name values)
    × (Key KwIn ⨾ Sign LeftBrace ⨾ Listed IsValue values ⨾ Sign RightBrace) ts

pub one_of_laws : (name : Word)
    → Laws (one_of_at name) (Is_one_of name) (is (kinds.Keyword KwIn)) none false
unfolding one_of_at
one_of_laws name = same_laws
    (λ e ts f. (
      f.5.5.2,
      f.5.5.5.5.0,
      without_value f (without_value f.5 (without_value f.5.5 (last_of
          f.5.5.5))),
    ))
    (λ e ts f.
    with_value tt f.2 (with_value tt f.2.4 (with_value f.0 f.2.4.4 (closed tt f.2.4.4.4
    f.1))))
    (bind_laws (only_laws (kinds.Keyword KwIn) refl)
    (λ _. bind_laws (only_laws (kinds.Sign LeftBrace) refl)
    (λ _. bind_laws (listed_laws value_laws (apart _ _ refl))
    (λ values. bind_laws (only_laws (kinds.Sign RightBrace) refl)
    (λ _. pure_laws {A = RawCond} (conds.OneOf name values)) (apart _ _ refl)) (apart _ _ refl))
    (apart _ _ refl)) (apart _ _ refl))

abbrev pub Is_after : Word → RawCond → Part
Is_after name = Or (Is_is name) (Or (Is_one_of name) (Just (conds.Present name)))

abbrev pub cond_goes : ℕ → Bool
cond_goes c = is (kinds.Keyword KwIn) c || is (kinds.Sign Equal) c

after_laws : (name : Word)
    → Laws (after_name_at name) (Is_after name)
    (λ c. is (kinds.Sign Equal) c || (is (kinds.Keyword KwIn) c || false)) cond_goes true
unfolding after_name_at
after_laws name =
    either_laws (is (kinds.Sign Equal)) (is_laws name)
    (either_laws (is (kinds.Keyword KwIn)) (one_of_laws name) (pure_laws (conds.Present name))
    (within _ _ refl) (apart _ _ refl)) (within _ _ refl) (apart _ _ refl)

pub named_laws : Laws named_at (Bind IsWord Is_after) (is kinds.Name)
    (λ c. cond_goes c || false) false
unfolding named_at
named_laws = bind_laws word_laws after_laws (apart _ _ refl)

named_there : (name : Word) (e : RawCond) (ts x y : List Lexeme) → ts ≡ x ++ y → IsWord name x
    → Is_after name e y → IsCond e ts
named_there name e ts x y s w (inl f) =
    subst (λ (z : RawCond). IsCond z ts) (sym f.1) (x, y, s, w, f.2)
named_there name e ts x y s w (inr (inl f)) =
    subst (λ (z : RawCond). IsCond z ts) (sym f.1) (x, y, s, w, f.2)
named_there name e ts x y s w (inr (inr f)) =
    subst (λ (z : RawCond). IsCond z ts) (sym f.0)
    (subst (IsWord name) (sym (s ∙ ap (λ m. x ++ m) f.1 ∙ append-nil x)) w)

cond_there : (e : RawCond) (ts : List Lexeme) → Or Is_absent (Bind IsWord Is_after) e ts
    → IsCond e ts
cond_there e ts (inl f) = subst (λ (z : RawCond). IsCond z ts) (sym f.1) f.2
cond_there e ts (inr f) = named_there f.2 e ts f.0 f.1 f.3 f.4 f.5

cond_back : (e : RawCond) (ts : List Lexeme) → IsCond e ts
    → Or Is_absent (Bind IsWord Is_after) e ts
cond_back (conds.Present name) ts f =
    inr (ts, [], name, sym (append-nil ts), f, inr (inr (refl, refl)))
cond_back (conds.Absent name) ts f = inl (name, refl, f)
cond_back (conds.Is name value) ts f = inr (with_value name f (inl (value, refl, f.4)))
cond_back (conds.OneOf name values) ts f =
    inr (with_value name f (inr (inl (values, refl, f.4))))

pub cond_laws : Laws cond_at IsCond (λ c. is (kinds.Keyword KwAbsent) c || is kinds.Name c)
    (λ c. cond_goes c || false) false
unfolding cond_at
cond_laws = same_laws cond_there cond_back
    (either_laws (is (kinds.Keyword KwAbsent)) absent_laws named_laws (within _ _ refl)
    (apart _ _ refl))
