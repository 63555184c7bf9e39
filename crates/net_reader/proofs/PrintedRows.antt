-- The tokens of printed conditions, actions and rows.
use Rattle.std.proofs.Common.{◌≡◌, ℕ, true, List, [], ◌∷◌, ◌++◌, map, Some, None, refl, ap}
use Rattle.std.specs.Prelude.{codes, decimal}
use Rattle.std.specs.List.{list_all}
use Rattle.std.proofs.lemmas.List.{append-nil}
use Rattle.polis_base.specs.declared.token.Keyword.TheVariants.{KwValue}
use Rattle.net_reader.specs.Lexemes.{Lexeme}
use Rattle.net_reader.specs.Grammar.{◌⨾◌, Key, IsWord, Listed, IsCond, IsGiven, IsSource, IsAct, AreActs, IsRow}
use Rattle.net_reader.specs.Formed.{word_formed, num_formed, value_formed, cond_formed, source_formed, act_formed, row_formed}
use Rattle.net_reader.specs.Layout.{value_text, listed_text, cond_text, source_text, act_text, acts_text, row_text}
use Rattle.net_reader.specs.Places.{word_alone, cond_alone, source_alone, act_alone, row_alone}
use Rattle.net_reader.specs.declared.raw.Word.{Word}
use Rattle.net_reader.specs.declared.raw.RawValue.{RawValue}
use Rattle.net_reader.specs.declared.raw.RawCond.{RawCond}
use Rattle.net_reader.specs.declared.raw.RawCond.TheVariants as conds
use Rattle.net_reader.specs.declared.raw.RawSource.{RawSource}
use Rattle.net_reader.specs.declared.raw.RawSource.TheVariants as sources
use Rattle.net_reader.specs.declared.raw.RawAct.{RawAct}
use Rattle.net_reader.specs.declared.raw.RawAct.TheVariants as acts
use Rattle.net_reader.specs.declared.raw.RawRow.{RawRow}
use Rattle.net_reader.proofs.OtherParts.{with_rest, with_both}
use Rattle.net_reader.proofs.Lexemes.{Made, conv, seq, trail, retext, any}
use Rattle.net_reader.proofs.PrintedWords.{Like, ends, word_made, number_made, value_made, listed_made}
use Rattle.net_reader.proofs.AppendAssociative.{as3, as4, as5}
use Rattle.net_reader.proofs.PrintedTokens.{when_key, do_key, emit_key, absent_key, in_key, nothing_key, value_key, plus_sign, equal_sign, assign_sign, open_sign, close_sign, weak, blank_made, values_made}
use Rattle.polis_base.proofs.Bools.{and_first, and_second}

cond_made : (c : RawCond) (ts : List Lexeme) → cond_formed c ≡ true → IsCond c ts
    → Made ends (Like IsCond cond_alone c) (cond_text c)
cond_made (conds.Present w) ts f h =
    conv (word_made w f)
    (λ ms x. record {
      same = conds.Present x.same;
      alike = ap (λ (w : Word). conds.Present w) x.alike;
      is = x.is;
    })
cond_made (conds.Absent w) ts f h =
    conv (seq absent_key (word_made w f) (λ rest h. refl))
    (λ ms x. record {
      same = conds.Absent x.4.same;
      alike = ap (λ (w : Word). conds.Absent w) x.4.alike;
      is = (x.0, x.1, x.2, x.3, x.4.is);
    })
cond_made (conds.Is w v) ts f h =
    conv (retext (as3 w.name (codes " = ") (value_text v))
    (seq (word_made w (and_first _ (value_formed v) f))
    (seq equal_sign (value_made v (and_second (word_formed w) _ f)) (λ rest h. refl))
    (λ rest h. refl)))
    (λ ms x. record {
      same = conds.Is x.3.same x.4.4.same;
      alike = (λ i. conds.Is (x.3.alike i) (x.4.4.alike i));
      is =
          (x.0, x.1, x.2, x.3.is, (x.4.0, x.4.1, x.4.2, x.4.3, x.4.4.is));
    })
cond_made (conds.OneOf w values) ts f h =
    conv (retext (as4 w.name (codes " in { ") (listed_text value_text values) (codes " }"))
    (seq (word_made w (and_first _ (list_all value_formed values) f))
    (seq in_key (seq open_sign
    (seq (values_made values h.4.4.4.0 (and_second (word_formed w) _ f) h.4.4.4.3)
    (weak close_sign) (λ rest h. refl)) (λ rest h. refl)) (λ rest h. refl)) (λ rest h. refl)))
    (λ ms x. record {
      same = conds.OneOf x.3.same x.4.4.4.3.same;
      alike = (λ i. conds.OneOf (x.3.alike i) (x.4.4.4.3.alike i));
      is =
          with_both x x.3.is (with_rest x.4 (with_rest x.4.4 (with_both x.4.4.4 x.4.4.4.3.is
          x.4.4.4.4)));
    })

input_made : (w : Word) → word_formed w ≡ true
    → Made ends (Like (λ w. Key KwValue ⨾ IsWord w) word_alone w) (codes "value " ++ w.name)
input_made w f =
    conv (seq value_key (word_made w f) (λ rest h. refl))
    (λ ms x. record { same = x.4.same; alike = x.4.alike; is = (x.0, x.1, x.2, x.3, x.4.is) })

given_made : (version : ℕ) (s : RawSource) (ts : List Lexeme) → source_formed s ≡ true
    → IsGiven version s ts → Made ends (Like (IsGiven version) source_alone s) (source_text s)
given_made version (sources.Value v) ts f h =
    conv (value_made v f)
    (λ ms x. record {
      same = sources.Value x.same;
      alike = ap (λ (v : RawValue). sources.Value v) x.alike;
      is = x.is;
    })
given_made version (sources.Input w) ts f h =
    conv (input_made w f)
    (λ ms x. record {
      same = sources.Input x.same;
      alike = ap (λ (w : Word). sources.Input w) x.alike;
      is = (h.0, x.is);
    })
given_made version (sources.Add w n) ts f h = absurd h

source_made : (version : ℕ) (s : RawSource) (ts : List Lexeme) → source_formed s ≡ true
    → IsSource version s ts → Made ends (Like (IsSource version) source_alone s) (source_text s)
source_made version (sources.Value v) ts f h =
    conv (value_made v f)
    (λ ms x. record {
      same = sources.Value x.same;
      alike = ap (λ (v : RawValue). sources.Value v) x.alike;
      is = x.is;
    })
source_made version (sources.Input w) ts f h =
    conv (input_made w f)
    (λ ms x. record {
      same = sources.Input x.same;
      alike = ap (λ (w : Word). sources.Input w) x.alike;
      is = (h.0, x.is);
    })
source_made version (sources.Add w n) ts f h =
    conv (retext (as3 w.name (codes " + ") (decimal n.number))
    (seq (word_made w (and_first _ (num_formed n) f))
    (seq plus_sign (number_made n (and_second (word_formed w) _ f)) (λ rest h. refl))
    (λ rest h. refl)))
    (λ ms x. record {
      same = sources.Add x.3.same x.4.4.same;
      alike = (λ i. sources.Add (x.3.alike i) (x.4.4.alike i));
      is =
          (h.0, (x.0, x.1, x.2, x.3.is, (x.4.0, x.4.1, x.4.2, x.4.3, x.4.4.is)));
    })

act_made : (version : ℕ) (a : RawAct) (ts : List Lexeme) → act_formed a ≡ true → IsAct version a ts
    → Made ends (Like (IsAct version) act_alone a) (act_text a)
act_made version (acts.Emit w None) ts f h =
    conv (retext (ap (λ (t : List ℕ). codes "emit " ++ t) (append-nil w.name))
    (seq emit_key (seq (word_made w (and_first _ true f)) (blank_made {n = ends}) (λ rest h. h))
    (λ rest h. refl)))
    (λ ms x. record {
      same = acts.Emit x.4.3.same None;
      alike = (λ i. acts.Emit (x.4.3.alike i) None);
      is =
          (x.0, x.1, x.2, x.3, (x.4.0, x.4.1, x.4.2, x.4.3.is, x.4.4));
    })
act_made version (acts.Emit w (Some s)) ts f h =
    conv (retext (as4 (codes "emit ") w.name (codes " = ") (source_text s))
    (seq emit_key (seq (word_made w (and_first _ (source_formed s) f))
    (seq equal_sign (given_made version s h.4.4.1 (and_second (word_formed w) _ f) h.4.4.4)
    (λ rest h. refl)) (λ rest h. refl)) (λ rest h. refl)))
    (λ ms x. record {
      same = acts.Emit x.4.3.same (Some x.4.4.4.same);
      alike = (λ i. acts.Emit (x.4.3.alike i) (Some (x.4.4.4.alike i)));
      is =
          with_rest x (with_both x.4 x.4.3.is (with_rest x.4.4 x.4.4.4.is));
    })
act_made version (acts.Set w s) ts f h =
    conv (retext (as3 w.name (codes " := ") (source_text s))
    (seq (word_made w (and_first _ (source_formed s) f))
    (seq assign_sign (source_made version s h.4.1 (and_second (word_formed w) _ f) h.4.4)
    (λ rest h. refl)) (λ rest h. refl)))
    (λ ms x. record {
      same = acts.Set x.3.same x.4.4.same;
      alike = (λ i. acts.Set (x.3.alike i) (x.4.4.alike i));
      is =
          (x.0, x.1, x.2, x.3.is, (x.4.0, x.4.1, x.4.2, x.4.3, x.4.4.is));
    })

are_acts : (version : ℕ) (a : List RawAct) (ms : List Lexeme) → Listed (IsAct version) a ms
    → AreActs version a ms
are_acts version [] ms h = absurd h
are_acts version (a ∷ others) ms h = h

acts_made : (version : ℕ) (a : List RawAct) (ts : List Lexeme) → list_all act_formed a ≡ true
    → AreActs version a ts
    → Made any (Like (AreActs version) (map act_alone) a) (acts_text a ++ codes "\n")
acts_made version [] ts f h = conv nothing_key (λ ms x. record { same = []; alike = refl; is = x })
acts_made version (a ∷ others) ts f h =
    conv (trail (codes "\n")
    (listed_made (IsAct version) act_alone act_text act_formed (act_made version) (a ∷ others)
    ts f h) refl (λ rest. refl)) (λ ms x.
    record { same = x.same; alike = x.alike; is = are_acts version x.same ms x.is })

pub row_made : (version : ℕ) (r : RawRow) (ts : List Lexeme) → row_formed r ≡ true → IsRow version r ts
    → Made any (Like (IsRow version) row_alone r) (row_text r)
row_made version r ts f h =
    conv (retext (as5 (codes "  when ") (listed_text cond_text r.conds) (codes " do ")
    (acts_text r.acts) (codes "\n"))
    (seq when_key (seq
    (listed_made IsCond cond_alone cond_text cond_formed cond_made r.conds h.4.0
    (and_first _ (list_all act_formed r.acts) f) h.4.3)
    (seq do_key (acts_made version r.acts h.4.4.1
    (and_second (list_all cond_formed r.conds) _ f) h.4.4.4) (λ rest h. refl)) (λ rest h. refl))
    (λ rest h. refl)))
    (λ ms x. record {
      same = record { conds = x.4.3.same; acts = x.4.4.4.same };
      alike = (λ i. record { conds = x.4.3.alike i; acts = x.4.4.4.alike i });
      is =
          with_rest x (with_both x.4 x.4.3.is (with_rest x.4.4 x.4.4.4.is));
    })
