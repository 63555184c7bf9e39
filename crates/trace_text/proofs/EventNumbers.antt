-- The numbers of the events that the environment sends, noted one by one.
use Rattle.std.proofs.Common.{◌≡◌, ◌+◌, ℕ, Bool, true, false, ◌&&◌, cond, List, [], ◌∷◌, Option, Some, None, slice_get, refl, sym, ◌∙◌, ap, add-one}
use Rattle.std.specs.List.{find}
use Rattle.std.specs.Option.{option_or}
use Rattle.std.specs.Cmp.Lexicographic.{nat_list_eq_equiv}
use Rattle.std.proofs.lemmas.List.Folds.{find-append}
use Rattle.polis_base.specs.Lists.{upto}
use Rattle.domains.specs.Names.{is_same}
use Rattle.net_names.specs.Tables.{NameNumbers, number_at}
use Rattle.transition_table.specs.declared.decl.Party.TheVariants.{Env}
use Rattle.transition_table.specs.declared.decl.EventDecl.{EventDecl}
use Rattle.transition_table.specs.declared.network.Network.{Network}
use Rattle.journals.specs.Journals.{same_party}
use Rattle.trace_text.specs.Traces.{is_sent_event}
use Rattle.trace_text.proofs.IsSentEvent.{sent_event}

-- the table has the events before this one that the environment sends
abbrev pub HasEvents : Network → ℕ → NameNumbers → Type 0
HasEvents net n table =
    (word : List ℕ) → number_at table word ≡ find (is_sent_event net word) (upto n)

-- one more number, which may pass
find_more : (test : ℕ → Bool) (n : ℕ) → find test (upto (n + 1))
    ≡ option_or (find test (upto n)) (cond (test n) (Some n) None)
find_more test n = rw add-one (find-append test (upto n) (n ∷ []))

pub one_noted : (net : Network) (n : ℕ) (event : EventDecl) (before after : NameNumbers)
    → slice_get net.events n ≡ Some event → same_party event.sender Env ≡ true
    → ((word : List ℕ) → number_at after word
    ≡ option_or (number_at before word) (cond (is_same word event.name) (Some n) None))
    → HasEvents net n before → HasEvents net (n + 1) after
one_noted net n event before after at env noted has word =
    noted word
    ∙ ap (λ o. option_or o (cond (is_same word event.name) (Some n) None)) (has word)
    ∙ ap (λ b. option_or (find (is_sent_event net word) (upto n)) (cond b (Some n) None))
    (sym (sent_event net word n event _ at
    (nat_list_eq_equiv.symm word event.name ∙ with_true _ _ env)))
    ∙ sym (find_more (is_sent_event net word) n)
  where
    with_true : (a b : Bool) → b ≡ true → a ≡ (a && b)
    with_true true b h = sym h
    with_true false b h = refl

pub none_noted : (net : Network) (n : ℕ) (event : EventDecl) (table : NameNumbers)
    → slice_get net.events n ≡ Some event → same_party event.sender Env ≡ false
    → HasEvents net n table → HasEvents net (n + 1) table
none_noted net n event table at other has word =
    has word
    ∙ ends (find (is_sent_event net word) (upto n))
    ∙ ap (λ b. option_or (find (is_sent_event net word) (upto n)) (cond b (Some n) None))
    (sym (sent_event net word n event false at (with_false _ _ other)))
    ∙ sym (find_more (is_sent_event net word) n)
  where
    ends : (o : Option ℕ) → o ≡ option_or o None
    ends None = refl
    ends (Some k) = refl

    with_false : (a b : Bool) → b ≡ false → false ≡ (a && b)
    with_false true b h = sym h
    with_false false b h = refl
