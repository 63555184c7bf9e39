-- What a trace text of a network reads as fits the network.
use Rattle.std.proofs.Common.{◌≡◌, ◌≤◌, ◌+◌, ℕ, Bool, true, false, cond, nat_lt, List, [], ◌∷◌, ◌++◌, length, fold, slice_get, Option, Some, None, option_map, unwrap_or, Ok, Err, refl, ap, subst, arith}
use Rattle.std.specs.Prelude.{Result}
use Rattle.std.specs.List.{enumerate_from}
use Rattle.std.proofs.lemmas.Bool.{and_from}
use Rattle.polis_base.proofs.Found.{find_is}
use Rattle.polis_base.proofs.Lists.{all_append}
use Rattle.polis_base.specs.declared.limits.TheConstants.{TRACE_ITEMS_MAX}
use Rattle.domains.specs.Domains.{size_of, word_of}
use Rattle.domains.specs.Names.{is_same}
use Rattle.domains.specs.declared.domain.Domain.{Domain}
use Rattle.transition_table.specs.NetworkFacts.{values_of}
use Rattle.transition_table.specs.NetworkNames.{event_domain, joined}
use Rattle.transition_table.specs.declared.decl.EventDecl.{EventDecl}
use Rattle.transition_table.specs.declared.network.Network.{Network}
use Rattle.journals.specs.declared.entry.TraceItem.{TraceItem}
use Rattle.journals.specs.Journals.{IsTrace, is_trace_item}
use Rattle.journals.specs.ValueWords.{value_named, word_code}
use Rattle.trace_text.specs.Pieces.{trace_lines, without_comment, trace_words}
use Rattle.trace_text.specs.Traces.{AddsItem, added, coded, env_event, is_sent_event, is_settle, item_of_line, item_of_words, sent_item, trace_of, with_line}
use Rattle.trace_text.specs.declared.fault.TraceFault.{TraceFault}
use Rattle.trace_text.specs.declared.fault.TraceFault.TheVariants.{Line}
use Rattle.trace_text.specs.declared.fault.TraceKind.{TraceKind}
use Rattle.trace_text.specs.declared.fault.TraceKind.TheVariants.{Many}
use Rattle.trace_text.proofs.Items.{item_fits}
use Rattle.trace_text.proofs.Lines.{fault_stays}
use Rattle.polis_base.proofs.Places.{some_at}

-- ---- one item
-- a code that a word gives is one of what has the domain
value_fits : (word : List ℕ) (domain : Option Domain) (code : ℕ)
    → option_map (λ v. 1 + v) (joined (option_map (value_named word) domain)) ≡ Some code
    → (1 ≤ code) × (code ≤ unwrap_or (option_map size_of domain) 0)
value_fits word None code is = cc
value_fits word (Some domain) code is = by (value_named word domain) refl is
  where
    by : (v : Option ℕ) → value_named word domain ≡ v → option_map (λ v. 1 + v) v ≡ Some code
        → (1 ≤ code) × (code ≤ size_of domain)
    by None named e = cc
    by (Some v) named e =
        let below = (find_is (λ u. is_same (word_of domain u) word) (size_of domain) v named).0 in
        let same : 1 + v ≡ code = cc in
        (omega (arith, same), omega (arith, same, below))

code_fits : (net : Network) (domain : Option ℕ) (word : Option (List ℕ)) (code : ℕ)
    → word_code net domain word ≡ Some code
    → (1 ≤ code) × (code ≤ values_of net.domains domain)
code_fits net None None code is = let same : 1 ≡ code = cc in
    (omega (arith, same), omega (arith, same))
code_fits net None (Some word) code is = cc
code_fits net (Some d) None code is = cc
code_fits net (Some d) (Some word) code is = value_fits word (slice_get net.domains d) code is

-- an item of an event that the environment sends fits the network
sent_fits : (net : Network) (name : List ℕ) (sent : Option ℕ) (word : Option (List ℕ))
    → env_event net name ≡ sent → AddsItem net (sent_item net sent word)
sent_fits net name None word is = tt
sent_fits net name (Some e) word is = by (word_code net (event_domain net e) word) refl
  where
    by : (code : Option ℕ) → word_code net (event_domain net e) word ≡ code
        → AddsItem net (coded e code)
    by None gives = tt
    by (Some code) gives =
        let found = find_is (is_sent_event net name) (length net.events) e is in
        let event = some_at net.events e found.0 in
        let domain : event_domain net e ≡ event.0.domain =
        ap (λ (o : Option EventDecl). joined (option_map (λ (x : EventDecl). x.domain) o)) event.1
        in
        let codes = code_fits net (event_domain net e) word code gives in
        item_fits net name e code event.0 found.0 event.1 found.1 codes.0
        (subst (λ (o : Option ℕ). code ≤ values_of net.domains o) domain codes.1)

either : (net : Network) (test : Bool) (x y : Result (Option TraceItem) TraceKind)
    → AddsItem net x → AddsItem net y → AddsItem net (cond test x y)
either net true x y a b = a
either net false x y a b = b

-- and so does what the words of a line are
words_fit : (net : Network) (words : List (List ℕ)) → AddsItem net (item_of_words net words)
words_fit net [] = tt
words_fit net (word ∷ []) =
    either net (is_settle word) _ _ refl (sent_fits net word (env_event net word) None refl)
words_fit net (word ∷ value ∷ []) =
    either net (is_settle word) _ _ tt (sent_fits net word (env_event net word) (Some value) refl)
words_fit net (word ∷ value ∷ more ∷ words) = tt

-- ---- lines
-- one line more
added_fits : (net : Network) (items after : List TraceItem) (line : ℕ)
    (r : Result (Option TraceItem) TraceKind) → IsTrace net items → AddsItem net r
    → added items line r ≡ Ok after → IsTrace net after
added_fits net items after line (Err kind) fit item is = cc
added_fits net items after line (Ok None) fit item is =
    let same : items ≡ after = cc in subst (IsTrace net) same fit
added_fits net items after line (Ok (Some one)) fit item is =
    by (nat_lt (length items) TRACE_ITEMS_MAX) is
  where
    by : (few : Bool) → cond few (Ok (items ++ one ∷ [])) (Err (Line line Many)) ≡ Ok after
        → IsTrace net after
    by true e = let same : items ++ one ∷ [] ≡ after = cc in
        subst (IsTrace net) same
        (all_append (is_trace_item net) items (one ∷ []) fit (and_from _ _ item refl))
    by false e = cc

lines_fit : (net : Network) (lines : List (ℕ × List ℕ)) (items trace : List TraceItem)
    → IsTrace net items → fold (with_line net) (Ok items) lines ≡ Ok trace → IsTrace net trace
lines_fit net [] items trace fit is =
    let same : items ≡ trace = cc in subst (IsTrace net) same fit
lines_fit net ((line, text) ∷ lines) items trace fit is =
    by (added items line (item_of_line net text)) refl
    (λ more ok rest. lines_fit net lines more trace
    (added_fits net items more line (item_of_line net text) fit
    (words_fit net (trace_words (without_comment text))) ok) rest) is
  where
    by : (next : Result (List TraceItem) TraceFault)
        → added items line (item_of_line net text) ≡ next
        → ((more : List TraceItem) → added items line (item_of_line net text) ≡ Ok more
        → fold (with_line net) (Ok more) lines ≡ Ok trace → IsTrace net trace)
        → fold (with_line net) next lines ≡ Ok trace → IsTrace net trace
    by (Err fault) adds others e = let stays = fault_stays net fault lines in cc
    by (Ok more) adds others e = others more adds e

pub trace_fits : (net : Network) (text : List ℕ) (trace : List TraceItem)
    → trace_of net text ≡ Ok trace → IsTrace net trace
trace_fits net text trace read =
    lines_fit net (enumerate_from 1 (trace_lines text)) [] trace refl read
