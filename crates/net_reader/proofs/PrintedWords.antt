-- The tokens of printed names, numbers and lists.
use Rattle.std.proofs.Common.{◌≡◌, ℕ, ◌+◌, ◌-◌, ◌^◌, ◌<◌, ◌≤◌, Bool, true, false, not, ◌&&◌, ◌==◌, nat_le, nat_lt, List, ◌∷◌, ◌++◌, length, map, Option, Some, None, get_or, refl, sym, ◌∙◌, ap, arith, add-zero, []}
use Rattle.std.specs.Prelude.{is_some, codes, flat_map, decimal}
use Rattle.std.specs.List.{list_all, take_while}
use Rattle.std.proofs.lemmas.Bool.{false≢true, not-true}
use Rattle.std.proofs.lemmas.Bool.Decides.{nat_tests}
use Rattle.std.proofs.lemmas.List.Sums.{take_while-cons}
use Rattle.std.proofs.lemmas.Fmt.{digits_decimal, digits_value-decimal, decimal_nonempty}
use Rattle.polis_base.specs.Names.{begins_name, continues_name, is_word, is_name, is_keyword}
use Rattle.polis_base.specs.inner.Keywords.{keyword_of}
use Rattle.polis_base.specs.Digits.{is_digit, number_of}
use Rattle.polis_base.specs.Tokens.{is_blank}
use Rattle.polis_base.specs.declared.token.Keyword.{Keyword as Reserved}
use Rattle.polis_base.specs.declared.token.Kind.{Kind}
use Rattle.polis_base.specs.declared.token.Kind.TheVariants as kinds
use Rattle.polis_base.specs.declared.token.Sign.TheVariants.{Comma}
use Rattle.net_reader.specs.Lexemes.{Lexeme, word_of, value_of, word_as, num_as, value_as}
use Rattle.net_reader.specs.Grammar.{Part, ◌⨾◌, Sign, IsWord, IsNum, IsValue, Each, Listed}
use Rattle.net_reader.specs.Formed.{value_formed}
use Rattle.net_reader.specs.Layout.{value_text, listed_text}
use Rattle.net_reader.specs.Places.{word_alone, num_alone, value_alone}
use Rattle.net_reader.specs.declared.raw.Word.{Word}
use Rattle.net_reader.specs.declared.raw.Num.{Num}
use Rattle.net_reader.specs.declared.raw.RawValue.{RawValue}
use Rattle.net_reader.specs.declared.raw.RawValue.TheVariants as values
use Rattle.net_reader.proofs.Lexemes.{ReadsAs, Lexed, Made, reads, conv, seq, lit, moved, any}
use Rattle.polis_base.proofs.Bools.{and_first, and_second}
use Rattle.polis_base.proofs.Digits.{first_zero, own}
use Rattle.polis_base.proofs.Places.{empty_of_length}
use Rattle.polis_base.proofs.Scans.{begins_continues}

-- what may stand after a name or a number
abbrev pub ends : List ℕ → Bool
ends [] = false
ends (c ∷ rest) = not (continues_name c)

none_from : (o : Option Reserved) → is_some o ≡ false → o ≡ None
none_from None h = refl
none_from (Some k) h = cc

-- all that pass, up to the first byte of the rest
run : (p : ℕ → Bool) (cs : List ℕ) (d : ℕ) (rest : List ℕ) → list_all p cs ≡ true → p d ≡ false
    → take_while p (cs ++ d ∷ rest) ≡ cs
run p [] d rest all stop = take_while-cons p d rest ∙ rw stop refl
run p (c ∷ cs) d rest all stop =
    take_while-cons p c (cs ++ d ∷ rest)
    ∙ rw (
      and_first (p c) (list_all p cs) all,
      run p cs d rest
          (and_second (p c) (list_all p cs) all) stop,
    ) refl

no_blank : (c : ℕ) → begins_name c ≡ true → is_blank c ≡ false
no_blank c h = grind (arith, nat_tests)

no_comment : (c : ℕ) → begins_name c ≡ true → (c == 35) ≡ false
no_comment c h = grind (arith, nat_tests)

word_stands : (at c : ℕ) (cs : List ℕ) (d : ℕ) (rest : List ℕ) → is_name (c ∷ cs) ≡ true
    → continues_name d ≡ false → ReadsAs at (c ∷ (cs ++ d ∷ rest)) kinds.Name (length (c ∷ cs))
word_stands at c cs d rest name stop =
    let parts = and_first (nat_le (length (c ∷ cs)) 24 && is_word (c ∷ cs))
    (not (is_keyword (c ∷ cs))) name in
    let begins : begins_name c ≡ true = and_first (begins_name c) (list_all continues_name cs)
    (and_second (nat_le (length (c ∷ cs)) 24) (is_word (c ∷ cs)) parts) in
    let go : list_all continues_name cs
    ≡ true = and_second (begins_name c) _
    (and_second (nat_le (length (c ∷ cs)) 24) (is_word (c ∷ cs)) parts) in
    let short : nat_lt 24 (length (c ∷ cs))
    ≡ false = (let s : nat_le (length (c ∷ cs)) 24
    ≡ true = and_first _ (is_word (c ∷ cs)) parts in grind (arith, nat_tests)) in
    let all : list_all continues_name (c ∷ cs) ≡ true = rw (begins_continues c begins) go in
    let word : take_while continues_name (c ∷ (cs ++ d ∷ rest)) ≡ c
    ∷ cs = run continues_name (c ∷ cs) d rest all stop in
    let free : keyword_of (c ∷ cs) ≡ None = none_from (keyword_of (c ∷ cs))
    (not-true _ (and_second _ (not (is_keyword (c ∷ cs))) name)) in
    record {
      size = rw (word, no_blank c begins, no_comment c begins, begins, short) refl;
      token = λ read. rw (word, no_blank c begins, no_comment c begins, begins, short, free) refl;
    }

digit_no_blank : (c : ℕ) → is_digit c ≡ true → is_blank c ≡ false
digit_no_blank c h = grind (arith, nat_tests)

digit_no_comment : (c : ℕ) → is_digit c ≡ true → (c == 35) ≡ false
digit_no_comment c h = grind (arith, nat_tests)

digit_no_name : (c : ℕ) → is_digit c ≡ true → begins_name c ≡ false
digit_no_name c h = grind (arith, nat_tests)

digit_stops : (d : ℕ) → continues_name d ≡ false → is_digit d ≡ false
digit_stops d h = grind (arith, nat_tests)

large_stands : (at c : ℕ) (cs : List ℕ) (d : ℕ) (rest : List ℕ) → list_all is_digit (c ∷ cs) ≡ true
    → (c == 48) ≡ false → number_of (c ∷ cs) ≤ 4294967295 → continues_name d ≡ false
    → ReadsAs at (c ∷ (cs ++ d ∷ rest)) (kinds.Number (number_of (c ∷ cs))) (length (c ∷ cs))
large_stands at c cs d rest digits some fits stop =
    let digit : is_digit c ≡ true = and_first (is_digit c) (list_all is_digit cs) digits in
    let number : take_while is_digit (c ∷ (cs ++ d ∷ rest)) ≡ c
    ∷ cs = run is_digit (c ∷ cs) d rest digits (digit_stops d stop) in
    let small : nat_lt 4294967295 (number_of (c ∷ cs)) ≡ false = grind (arith, nat_tests) in
    record {
      size = rw (
        number,
        digit_no_blank c digit,
        digit_no_comment c digit,
        digit_no_name c digit,
        some,
        digit,
        small,
      ) refl;
      token = λ read. rw (
        number,
        digit_no_blank c digit,
        digit_no_comment c digit,
        digit_no_name c
            digit,
        some,
        digit,
        small,
      ) refl;
    }

is_zero : (c : ℕ) → (c == 48) ≡ true → c ≡ 48
is_zero c h = grind (arith, nat_tests)

number_stands : (at c : ℕ) (cs : List ℕ) (d : ℕ) (rest : List ℕ) (b : Bool) → (c == 48) ≡ b
    → list_all is_digit (c ∷ cs) ≡ true → (c ≡ 48 → length (c ∷ cs) ≡ 1)
    → number_of (c ∷ cs) ≤ 4294967295 → continues_name d ≡ false
    → ReadsAs at (c ∷ (cs ++ d ∷ rest)) (kinds.Number (number_of (c ∷ cs))) (length (c ∷ cs))
number_stands at c cs d rest false some digits alone fits stop =
    large_stands at c cs d rest digits some fits stop
number_stands at c cs d rest true none digits alone fits stop =
    let zero_here : c ≡ 48 = is_zero c none in
    let empty : cs ≡ [] = empty_of_length cs (let e = alone zero_here in omega arith) in
    rw (zero_here, empty) record { size = refl; token = λ read. refl }

-- one value that a token says, places aside
pub record Like {A : Type 0} (Is : A → List Lexeme → Type 0) (alone : A → A) (a : A)
    (ms : List Lexeme) : Type 0 where
  pub same : A
  pub alike : alone same ≡ alone a
  pub is : Is same ms

pub word_made : (w : Word) → is_name w.name ≡ true → Made ends (Like IsWord word_alone w) w.name
word_made w name = record { made = λ at rest ls h l. made w.name rest w at ls name h refl l }
  where
    made : (name rest : List ℕ) (w : Word) (at : ℕ) (ls : List Lexeme) → is_name name ≡ true
        → ends rest ≡ true → w.name ≡ name → Lexed (at + length name) rest ls
        → (ms : List Lexeme) × Like IsWord word_alone w ms × Lexed at (name ++ rest) (ms ++ ls)
    made [] rest w at ls is h e l = absurd (false≢true is)
    made (c ∷ cs) [] w at ls is h e l = absurd (false≢true h)
    made (c ∷ cs) (d ∷ rest) w at ls is h e l =
        let x = reads c cs (d ∷ rest) kinds.Name at ls
        (word_stands at c cs d rest is (not-true (continues_name d) h)) l in
        let here : Lexeme = record { kind = kinds.Name; bytes = c ∷ cs; at = at } in (
          here ∷ [],
          record {
            same = record { name = c ∷ cs; at = at };
            alike =
                (λ i. record { name = sym e i; at = 0 });
            is = (here, refl, refl);
          },
          x,
        )

pub number_made : (n : Num) → nat_le n.number 4294967295 ≡ true
    → Made ends (Like IsNum num_alone n) (decimal n.number)
number_made n small =
    let fits : n.number ≤ 4294967295 = grind (arith, nat_tests) in
    let wide : n.number < 2 ^ 64 = omega arith in
    record {
      made = λ at rest ls h l. made (decimal n.number) rest at ls
          (decimal_nonempty n.number wide) (digits_decimal own n.number wide)
          (first_zero n.number wide) fits (digits_value-decimal own n.number wide) h l;
    }
  where
    made : (text rest : List ℕ) (at : ℕ) (ls : List Lexeme) → 0 < length text
        → list_all is_digit text ≡ true → (get_or text 0 0 ≡ 48 → length text ≡ 1)
        → n.number ≤ 4294967295 → number_of text ≡ n.number → ends rest ≡ true
        → Lexed (at + length text) rest ls
        → (ms : List Lexeme) × Like IsNum num_alone n ms × Lexed at (text ++ rest) (ms ++ ls)
    made [] rest at ls some digits zero_alone fits value h l = absurd (omega arith)
    made (c ∷ cs) [] at ls some digits zero_alone fits value h l = absurd (false≢true h)
    made (c ∷ cs) (d ∷ rest) at ls some digits zero_alone fits value h l =
        let x = reads c cs (d ∷ rest) (kinds.Number (number_of (c ∷ cs))) at ls
        (number_stands at c cs d rest (c == 48) refl digits zero_alone (rw value fits)
        (not-true (continues_name d) h)) l in
        let here : Lexeme = record {
          kind = kinds.Number (number_of (c ∷ cs));
          bytes = c
              ∷ cs;
          at = at;
        } in (
          here ∷ [],
          record {
            same = record { number = number_of (c ∷ cs); at = at };
            alike =
                (λ i. record { number = value i; at = 0 });
            is = (here, refl, refl);
          },
          x,
        )

pub value_made : (v : RawValue) → value_formed v ≡ true
    → Made ends (Like IsValue value_alone v) (value_text v)
value_made (values.Name w) f = conv (word_made w f)
    (λ ms x. record {
      same = values.Name x.same;
      alike = ap (λ (w : Word). values.Name w) x.alike;
      is = (x.is.0, x.is.1, value_name x.is.0 x.same x.is.2);
    })
  where
    value_name : (l : Lexeme) (w : Word) → word_of l ≡ Some w → value_of l ≡ Some (values.Name w)
    value_name l w h = named l.kind l.bytes l.at w h
      where
        named : (k : Kind) (bytes : List ℕ) (at : ℕ) (w : Word)
            → word_as k (record { name = bytes; at = at }) ≡ Some w
            → value_as k (record { name = bytes; at = at }) ≡ Some (values.Name w)
        named kinds.Name bytes at w h = cc
        named (kinds.Number n) bytes at w h = cc
        named (kinds.Keyword k) bytes at w h = cc
        named (kinds.Sign s) bytes at w h = cc
value_made (values.Number n) f = conv (number_made n f)
    (λ ms x. record {
      same = values.Number x.same;
      alike = ap (λ (n : Num). values.Number n)
          x.alike;
      is = (x.is.0, x.is.1, value_number x.is.0.kind x.is.0.bytes x.is.0.at x.same x.is.2);
    })
  where
    value_number : (k : Kind) (bytes : List ℕ) (at : ℕ) (n : Num) → num_as k at ≡ Some n
        → value_as k (record { name = bytes; at = at }) ≡ Some (values.Number n)
    value_number kinds.Name bytes at n h = cc
    value_number (kinds.Number m) bytes at n h =
        (let e : ◌≡◌ {A = Num} (record { number = m; at = at }) n = cc in ap
        (λ (n : Num). Some (values.Number n)) e)
    value_number (kinds.Keyword k) bytes at n h = cc
    value_number (kinds.Sign s) bytes at n h = cc

-- lists

pub each_made : {A : Type 0} (next : List ℕ → Bool) (Is : A → Part) (alone : A → A) (f : A → List ℕ)
    (formed : A → Bool)
    → ((a : A) (ts : List Lexeme) → formed a ≡ true → Is a ts → Made next (Like Is alone a) (f a))
    → ((items : List A) (rest : List ℕ) → next rest ≡ true → next (flat_map f items ++ rest) ≡ true)
    → (items : List A) (ts : List Lexeme) → list_all formed items ≡ true → Each Is items ts
    → Made next (Like (Each Is) (map alone) items) (flat_map f items)
each_made next Is alone f formed make fits [] ts all each = record {
  made = λ at rest ls h l. (
    [],
    record { same = []; alike = refl; is = refl },
    moved _ _ _ _ _ _
        (add-zero at) refl refl l,
  );
}
each_made next Is alone f formed make fits (a ∷ items) ts all each =
    let first = make a each.0 (and_first (formed a) (list_all formed items) all) each.3 in
    let others = each_made next Is alone f formed make fits items each.1
    (and_second (formed a) _ all) each.4 in
    conv (seq first others (fits items))
    (λ ms x. record {
      same = x.3.same
          ∷ x.4.same;
      alike = (λ i. x.3.alike i ∷ x.4.alike i);
      is = (x.0, x.1, x.2, x.3.is, x.4.is);
    })

comma : Made any (Sign Comma) (codes ", ")
comma = lit [] 44 [] (codes " ") (kinds.Sign Comma) refl refl
    (λ at rest. record { size = refl; token = λ read. refl })

pub listed_made : {A : Type 0} (Is : A → Part) (alone : A → A) (f : A → List ℕ) (formed : A → Bool)
    → ((a : A) (ts : List Lexeme) → formed a ≡ true → Is a ts → Made ends (Like Is alone a) (f a))
    → (items : List A) (ts : List Lexeme) → list_all formed items ≡ true → Listed Is items ts
    → Made ends (Like (Listed Is) (map alone) items) (listed_text f items)
listed_made Is alone f formed make [] ts all listed = absurd listed
listed_made {A = A} Is alone f formed make (a ∷ items) ts all listed =
    let first = make a listed.0 (and_first (formed a) (list_all formed items) all) listed.3 in
    let others = each_made ends (λ a. Sign Comma ⨾ Is a) alone (λ a. codes ", " ++ f a) formed
    (λ a ts g is. conv (seq comma (make a is.1 g is.4) (λ rest h. refl))
    (λ ms x. record { same = x.4.same; alike = x.4.alike; is = (x.0, x.1, x.2, x.3, x.4.is) }))
    begin items listed.1 (and_second (formed a) _ all) listed.4 in
    conv (seq first others (begin items))
    (λ ms x. record {
      same = x.3.same
          ∷ x.4.same;
      alike = (λ i. x.3.alike i ∷ x.4.alike i);
      is = (x.0, x.1, x.2, x.3.is, x.4.is);
    })
  where
    begin : (items : List A) (rest : List ℕ) → ends rest ≡ true
        → ends (flat_map (λ a. codes ", " ++ f a) items ++ rest) ≡ true
    begin [] rest h = h
    begin (a ∷ items) rest h = refl
