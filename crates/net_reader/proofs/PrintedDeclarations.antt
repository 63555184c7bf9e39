-- The tokens of printed domains, events and state variables.
use Rattle.std.proofs.Common.{◌≡◌, ℕ, true, ◌&&◌, List, ◌++◌, Option, Some, None, refl, ap}
use Rattle.std.specs.Prelude.{codes, decimal}
use Rattle.polis_base.specs.declared.token.Sign.TheVariants.{Colon}
use Rattle.net_reader.specs.Lexemes.{Lexeme}
use Rattle.net_reader.specs.Grammar.{◌⨾◌, Sign, Optional, IsWord, IsShape, IsDomain, IsEnv, IsEvent, IsState}
use Rattle.net_reader.specs.Formed.{word_formed, num_formed, value_formed, shape_formed, domain_formed, typed_formed, event_formed, state_formed}
use Rattle.net_reader.specs.Layout.{word_text, value_text, listed_text, shape_text, domain_text, typed_text, env_text, event_text, state_text}
use Rattle.net_reader.specs.Places.{shape_alone, domain_alone, typed_alone, event_alone, state_alone}
use Rattle.net_reader.specs.declared.raw.Word.{Word}
use Rattle.net_reader.specs.declared.raw.RawShape.{RawShape}
use Rattle.net_reader.specs.declared.raw.RawShape.TheVariants as shapes
use Rattle.net_reader.specs.declared.raw.RawDomain.{RawDomain}
use Rattle.net_reader.specs.declared.raw.RawEnv.{RawEnv}
use Rattle.net_reader.specs.declared.raw.RawEnv.TheVariants as envs
use Rattle.net_reader.specs.declared.raw.RawEvent.{RawEvent}
use Rattle.net_reader.specs.declared.raw.RawState.{RawState}
use Rattle.net_reader.proofs.OtherParts.{with_rest, with_both}
use Rattle.net_reader.proofs.Lexemes.{Made, conv, seq, trail, retext, any}
use Rattle.net_reader.proofs.PrintedWords.{Like, ends, word_made, number_made, value_made}
use Rattle.net_reader.proofs.AppendAssociative.{as3, as5, as7}
use Rattle.net_reader.proofs.PrintedTokens.{domain_key, event_key, from_key, to_key, env_key, state_key, equal_sign, colon_sign, open_sign, close_sign, dots_sign, weak, blank_made, words_made}
use Rattle.polis_base.proofs.Bools.{and_first, and_second}

shape_made : (s : RawShape) (ts : List Lexeme) → shape_formed s ≡ true → IsShape s ts
    → Made ends (Like IsShape shape_alone s) (shape_text s)
shape_made (shapes.Names names) ts f h =
    conv (retext (as3 (codes "{ ") (listed_text word_text names) (codes " }"))
    (seq open_sign (seq (words_made names h.4.0 f h.4.3) (weak close_sign) (λ rest h. refl))
    (λ rest h. refl)))
    (λ ms x. record {
      same = shapes.Names x.4.3.same;
      alike = ap (λ (names : List Word). shapes.Names names) x.4.3.alike;
      is =
          (x.0, x.1, x.2, x.3, (x.4.0, x.4.1, x.4.2, x.4.3.is, x.4.4));
    })
shape_made (shapes.Range first last) ts f h =
    conv (retext (as3 (decimal first.number) (codes " .. ") (decimal last.number))
    (seq (number_made first (and_first _ (num_formed last) f))
    (seq dots_sign (number_made last (and_second (num_formed first) _ f)) (λ rest h. refl))
    (λ rest h. refl)))
    (λ ms x. record {
      same = shapes.Range x.3.same x.4.4.same;
      alike = (λ i. shapes.Range (x.3.alike i) (x.4.4.alike i));
      is =
          (x.0, x.1, x.2, x.3.is, (x.4.0, x.4.1, x.4.2, x.4.3, x.4.4.is));
    })

pub domain_made : (d : RawDomain) (ts : List Lexeme) → domain_formed d ≡ true → IsDomain d ts
    → Made any (Like IsDomain domain_alone d) (domain_text d)
domain_made d ts f h =
    conv (retext (as5 (codes "domain ") d.name.name (codes " = ") (shape_text d.shape) (codes "\n"))
    (seq domain_key
    (seq (word_made d.name (and_first _ (shape_formed d.shape) f))
    (seq equal_sign
    (trail (codes "\n")
    (shape_made d.shape h.4.4.1 (and_second (word_formed d.name) _ f) h.4.4.4) refl
    (λ rest. refl)) (λ rest h. refl)) (λ rest h. refl)) (λ rest h. refl)))
    (λ ms x. record {
      same = record { name = x.4.3.same; shape = x.4.4.4.same };
      alike = (λ i. record { name = x.4.3.alike i; shape = x.4.4.4.alike i });
      is =
          with_rest x (with_both x.4 x.4.3.is (with_rest x.4.4 x.4.4.4.is));
    })

typed_made : (d : Option Word) → typed_formed d ≡ true
    → Made ends (Like (Optional (λ d. Sign Colon ⨾ IsWord d)) typed_alone d) (typed_text d)
typed_made None f = conv blank_made (λ ms x. record { same = None; alike = refl; is = x })
typed_made (Some w) f =
    conv (seq colon_sign (word_made w f) (λ rest h. refl))
    (λ ms x. record {
      same = Some x.4.same;
      alike = ap (λ (w : Word). Some w) x.4.alike;
      is = (x.0, x.1, x.2, x.3, x.4.is);
    })

env_made : (e : RawEnv) → Made any (IsEnv e) (env_text e ++ codes "\n")
env_made envs.Between = trail (codes "\n") (blank_made {n = any}) refl (λ rest. refl)
env_made envs.FromEnv = seq from_key env_key (λ rest h. refl)
env_made envs.ToEnv = seq to_key env_key (λ rest h. refl)

env_begins : (e : RawEnv) (rest : List ℕ) → ends ((env_text e ++ codes "\n") ++ rest) ≡ true
env_begins envs.Between rest = refl
env_begins envs.FromEnv rest = refl
env_begins envs.ToEnv rest = refl

typed_begins : (d : Option Word) (e : RawEnv) (rest : List ℕ)
    → ends ((typed_text d ++ (env_text e ++ codes "\n")) ++ rest) ≡ true
typed_begins None e rest = env_begins e rest
typed_begins (Some w) e rest = refl

pub event_made : (e : RawEvent) (ts : List Lexeme) → event_formed e ≡ true → IsEvent e ts
    → Made any (Like IsEvent event_alone e) (event_text e)
event_made e ts f h =
    conv (retext (as5 (codes "event ") e.name.name (typed_text e.domain) (env_text e.env)
    (codes "\n")) (seq event_key
    (seq (word_made e.name (and_first _ (typed_formed e.domain) f))
    (seq (typed_made e.domain (and_second (word_formed e.name) _ f)) (env_made e.env)
    (λ rest h. env_begins e.env rest)) (λ rest h. typed_begins e.domain e.env rest))
    (λ rest h. refl)))
    (λ ms x. record {
      same = record { name = x.4.3.same; domain = x.4.4.3.same; env = e.env };
      alike = (λ i. record { name = x.4.3.alike i; domain = x.4.4.3.alike i; env = e.env });
      is =
          with_rest x (with_both x.4 x.4.3.is (with_both x.4.4 x.4.4.3.is x.4.4.4));
    })

pub state_made : (s : RawState) (ts : List Lexeme) → state_formed s ≡ true → IsState s ts
    → Made any (Like IsState state_alone s) (state_text s)
state_made s ts f h =
    conv (retext (as7 (codes "  state ") s.name.name (codes " : ") s.domain.name (codes " = ")
    (value_text s.init) (codes "\n"))
    (seq state_key (seq
    (word_made s.name (and_first _ (word_formed s.domain && value_formed s.init) f))
    (seq colon_sign
    (seq (word_made s.domain
    (and_first _ (value_formed s.init) (and_second (word_formed s.name) _ f)))
    (seq equal_sign
    (trail (codes "\n")
    (value_made s.init
    (and_second (word_formed s.domain) _ (and_second (word_formed s.name) _ f))) refl
    (λ rest. refl)) (λ rest h. refl)) (λ rest h. refl)) (λ rest h. refl)) (λ rest h. refl))
    (λ rest h. refl)))
    (λ ms x. record {
      same = record { name = x.4.3.same; domain = x.4.4.4.3.same; init = x.4.4.4.4.4.same };
      alike = (λ i. record {
        name = x.4.3.alike i;
        domain = x.4.4.4.3.alike i;
        init = x.4.4.4.4.4.alike i;
      });
      is =
          with_rest x (with_both x.4 x.4.3.is (with_rest x.4.4 (with_both x.4.4.4
          x.4.4.4.3.is (with_rest x.4.4.4.4 x.4.4.4.4.4.is))));
    })
