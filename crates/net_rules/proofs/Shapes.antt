-- The names of a shape that keeps the rules are the values of a domain.
use Rattle.std.proofs.Common.{◌≡◌, ◌∙◌, ◌≤◌, ℕ, List, [], length, ap, sym, subst, refl, arith}
use Rattle.std.proofs.lemmas.List.{length-map}
use Rattle.domains.specs.Names.{AreValues}
use Rattle.domains.specs.declared.domain.Span.{Span}
use Rattle.domains.specs.declared.domain.Domain.TheVariants as domains
use Rattle.net_reader.specs.declared.raw.Word.{Word}
use Rattle.net_reader.specs.declared.raw.Num.{Num}
use Rattle.net_reader.specs.declared.raw.RawShape.{RawShape}
use Rattle.net_reader.specs.declared.raw.RawShape.TheVariants as shapes
use Rattle.net_names.specs.Numbers.{names_of, no_name}
use Rattle.net_names.specs.Values.{count_of}
use Rattle.rule_judge.specs.Rules.{disorder}
use Rattle.net_rules.specs.Networks.{IsDomainOf}
use Rattle.net_rules.proofs.HasReceivers.{fresh}

values_of : (words : List Word) → disorder (shapes.Names words) ≡ [] → 1 ≤ length words
    → length words ≤ 32 → AreValues (names_of words)
values_of words order some few = record {
  some = omega (arith, some, length-map words (λ (w : Word). w.name));
  few = omega (arith, few, length-map words (λ (w : Word). w.name));
  distinct = (fresh no_name words order).distinct;
}

pub names_kept : (shape : RawShape) (words : List Word) (names : List (List ℕ))
    → shape ≡ shapes.Names words → names ≡ names_of words → disorder shape ≡ [] → 1 ≤ count_of shape
    → count_of shape ≤ 32 → AreValues names
names_kept shape words names is same order some few =
    subst AreValues (sym same)
    (values_of words (sym (ap disorder is) ∙ order) (subst (λ s. 1 ≤ count_of s) is some)
    (subst (λ s. count_of s ≤ 32) is few))

pub range_of : (shape : RawShape) (first last : Num) (span : Span) → shape ≡ shapes.Range first last
    → span.first ≡ first.number → span.last ≡ last.number → IsDomainOf shape (domains.Range span)
range_of shape first last span is low high =
    subst (λ s. IsDomainOf s (domains.Range span)) (sym is) (span, refl, low, high)
