-- The numbers of names that are noted one by one, and words that are no names.
use Rattle.std.proofs.Common.{◌≡◌, ◌<◌, ◌+◌, ℕ, zero, suc, true, false, cond, List, [], ◌∷◌, length, Option, Some, None, refl, sym, ◌∙◌, ap, arith, slice_get, true≢false}
use Rattle.std.specs.Prelude.{option_map, unwrap_or}
use Rattle.std.specs.List.{find, list_all}
use Rattle.std.specs.Option.{option_or}
use Rattle.std.specs.Cmp.Lexicographic.{nat_list_eq_equiv}
use Rattle.std.proofs.lemmas.Bool.{and_parts}
use Rattle.std.proofs.lemmas.List.Folds.{find-append}
use Rattle.polis_base.specs.Lists.{upto}
use Rattle.polis_base.specs.Names.{is_name}
use Rattle.domains.specs.Names.{is_same}
use Rattle.net_names.specs.Tables.{NameNumbers, number_at}
use Rattle.transition_table.specs.declared.decl.EventDecl.{EventDecl}
use Rattle.transition_table.specs.declared.machine.Machine.{Machine}
use Rattle.transition_table.specs.declared.network.Network.{Network}
use Rattle.journal_text.specs.Forms.{Text}
use Rattle.journal_text.specs.Items.{machine_named, event_named}
use Rattle.journal_text.specs.Holding.{names_hold, machine_holds, state_has_name}
use Rattle.polis_base.proofs.AllPass.{all_pass}
use Rattle.journal_text.proofs.EntryForms.{holds_of}
use Rattle.journal_text.proofs.FoundByName.{text_at, has_found_name}
use Rattle.polis_base.proofs.Found.{find_is}

module _ {X : Type 0} (f : X → Text) (xs : List X) where
  -- the first of so many things with this name
  abbrev pub first_of : ℕ → Text → Option ℕ
  first_of n word = find (λ k. is_same (text_at f xs k) word) (upto n)

  -- one more thing with its number
  pub one_more_noted : (n : ℕ) (x : X) (before after : NameNumbers) → slice_get xs n ≡ Some x
      → ((q : Text) → number_at after q
      ≡ option_or (number_at before q) (cond (is_same q (f x)) (Some n) None))
      → ((q : Text) → number_at before q ≡ first_of n q) → (q : Text)
      → number_at after q ≡ first_of (n + 1) q
  one_more_noted n x before after at is held q =
      let next : n + 1 ≡ suc n = omega arith in
      is q
      ∙ ap (λ o. option_or o (cond (is_same q (f x)) (Some n) None)) (held q)
      ∙ ap (λ b. option_or (first_of n q) (cond b (Some n) None))
      (nat_list_eq_equiv.symm q (f x)
      ∙ ap (λ o. is_same (unwrap_or (option_map f o) []) q) (sym at))
      ∙ sym (find-append (λ k. is_same (text_at f xs k) q) (upto n) (n ∷ []))
      ∙ ap (λ k. first_of k q) (sym next)

  all_tokens : (ys : List X) (k : ℕ) → list_all (λ x. is_name (f x)) ys ≡ true → k < length ys
      → is_name (text_at f ys k) ≡ true
  all_tokens [] k all below = absurd (omega arith)
  all_tokens (y ∷ ys) zero all below = (and_parts (is_name (f y)) _ all).0
  all_tokens (y ∷ ys) (suc k) all below =
      all_tokens ys k (and_parts (is_name (f y)) _ all).1 (omega arith)

  -- the number of a name is that of a thing
  pub first_below : (n : ℕ) (word : Text) (k : ℕ) → first_of n word ≡ Some k → k < n
  first_below n word k h = (find_is (λ k. is_same (text_at f xs k) word) n k h).0

  -- no thing has a word as its name that is no name token
  pub none_of_word : (word : Text) → list_all (λ x. is_name (f x)) xs ≡ true
      → is_name word ≡ false → first_of (length xs) word ≡ None
  none_of_word word all strange = go (first_of (length xs) word) refl
    where
      go : (o : Option ℕ) → first_of (length xs) word ≡ o → o ≡ None
      go None e = refl
      go (Some k) e =
          let found = has_found_name f xs word k e in
          absurd (true≢false (sym (all_tokens xs k all found.0) ∙ ap is_name found.1 ∙ strange))

pub no_such_machine : (net : Network) (word : Text) → names_hold net ≡ true → is_name word ≡ false
    → machine_named net word ≡ None
no_such_machine net word hold strange =
    none_of_word (λ (machine : Machine). machine.name) net.machines word
    (all_pass machine_holds (λ machine. is_name machine.name)
    (λ machine h. (and_parts (is_name machine.name) (list_all state_has_name machine.states) h).0)
    net.machines (holds_of net hold).machines) strange

pub no_such_event : (net : Network) (word : Text) → names_hold net ≡ true → is_name word ≡ false
    → event_named net word ≡ None
no_such_event net word hold strange =
    none_of_word (λ (event : EventDecl). event.name) net.events word
    (holds_of net hold).events strange
