-- Outputs with the places of their entries.
use Rattle.std.proofs.Common.{◌≡◌, ℕ, zero, suc, ◌+◌, ◌≤◌, ◌<◌, Bool, true, false, cond, List, [], ◌∷◌, ◌++◌, map, filter, flat_map, length, drop, slice_get, Option, Some, option_map, unwrap_or, refl, sym, ap, ◌∙◌, arith, append_assoc}
use Rattle.std.specs.List.{enumerate_from}
use Rattle.std.proofs.lemmas.List.{append-nil, map-append}
use Rattle.std.proofs.lemmas.List.Elements.{filter-append}
use Rattle.polis_base.specs.Lists.{head_of}
use Rattle.transition_table.specs.declared.decl.EventDecl.{EventDecl}
use Rattle.transition_table.specs.declared.network.Network.{Network}
use Rattle.journals.specs.declared.entry.Entry.{Entry}
use Rattle.journals.specs.Journals.{emissions, emitted}
use Rattle.journals.specs.Outputs.{goes_out, outputs}
use Rattle.journals.proofs.Emitted.{drop_at_item}
use Rattle.run_watch.specs.Emissions.{emission_at, placed_in, placed_outputs}
use Rattle.run_watch.specs.declared.emission.Emission.{Emission}
use Rattle.run_watch.specs.inner.Emissions.{going_out}

-- an emission's event with its code
abbrev pub event_code : Emission → ℕ × ℕ
event_code x = (x.event, x.code)

-- ---- one output more

emitted_first : (e c : ℕ) (events codes : List ℕ)
    → emitted (e ∷ events) (c ∷ codes) ≡ emitted (e ∷ []) (c ∷ []) ++ emitted events codes
emitted_first e zero events codes = refl
emitted_first e (suc v) events codes = refl

going_out_joined : (net : Network) (place : ℕ) (xs ys : List (ℕ × ℕ))
    → going_out net place (xs ++ ys) ≡ going_out net place xs ++ going_out net place ys
going_out_joined net place xs ys =
    ap (map (emission_at place)) (filter-append (λ (p : ℕ × ℕ). goes_out net p.0) xs ys)
    ∙ map-append (emission_at place) (filter (λ (p : ℕ × ℕ). goes_out net p.0) xs)
    (filter (λ (p : ℕ × ℕ). goes_out net p.0) ys)

-- those of the outputs from the next one on are left
pub one_output_more : (net : Network) (place : ℕ) (events codes : List ℕ) (k e c : ℕ)
    (old new whole : List Emission) → slice_get events k ≡ Some e → slice_get codes k ≡ Some c
    → new ≡ old ++ going_out net place (emitted (e ∷ []) (c ∷ []))
    → old ++ going_out net place (emitted (drop k events) (drop k codes)) ≡ whole
    → new ++ going_out net place (emitted (drop (k + 1) events) (drop (k + 1) codes)) ≡ whole
one_output_more net place events codes k e c old new whole event code is before =
    ap (λ (l : List Emission). l ++ rest) is
    ∙ append_assoc old one rest
    ∙ ap (λ (l : List Emission). old ++ l) (sym joined)
    ∙ before
  where
    one : List Emission
    one = going_out net place (emitted (e ∷ []) (c ∷ []))

    rest : List Emission
    rest = going_out net place (emitted (drop (k + 1) events) (drop (k + 1) codes))

    joined : going_out net place (emitted (drop k events) (drop k codes))
        ≡ going_out net place (emitted (e ∷ []) (c ∷ []))
        ++ going_out net place (emitted (drop (k + 1) events) (drop (k + 1) codes))
    joined =
        ap (λ (l : List ℕ). going_out net place (emitted l (drop k codes)))
        (drop_at_item events k e event)
        ∙ ap (λ (l : List ℕ). going_out net place (emitted (e ∷ drop (k + 1) events) l))
        (drop_at_item codes k c code)
        ∙ ap (going_out net place) (emitted_first e c (drop (k + 1) events) (drop (k + 1) codes))
        ∙ going_out_joined net place (emitted (e ∷ []) (c ∷ []))
        (emitted (drop (k + 1) events) (drop (k + 1) codes))

-- those of the entries from the next one on are left
pub one_entry_more : (net : Network) (journal : List Entry) (k : ℕ) (entry : Entry)
    (old new whole : List Emission) → slice_get journal k ≡ Some entry
    → new ≡ old ++ placed_in net (k, entry)
    → old ++ flat_map (placed_in net) (enumerate_from k (drop k journal)) ≡ whole
    → new ++ flat_map (placed_in net) (enumerate_from (k + 1) (drop (k + 1) journal)) ≡ whole
one_entry_more net journal k entry old new whole at is before =
    ap (λ (l : List Emission). l ++ rest) is
    ∙ append_assoc old (placed_in net (k, entry)) rest
    ∙ sym
    (ap (λ (l : List Entry). old ++ flat_map (placed_in net) (enumerate_from k l))
    (drop_at_item journal k entry at))
    ∙ before
  where
    rest : List Emission
    rest = flat_map (placed_in net) (enumerate_from (k + 1) (drop (k + 1) journal))

-- ---- placed outputs are outputs

pub outputs_first : (net : Network) (entry : Entry) (journal : List Entry)
    → outputs net (entry ∷ journal) ≡ outputs net (entry ∷ []) ++ outputs net journal
outputs_first net entry journal =
    filter-append (λ (p : ℕ × ℕ). goes_out net p.0) (emissions net entry)
    (flat_map (emissions net) journal)
    ∙ ap
    (λ (l : List (ℕ × ℕ)). filter (λ (p : ℕ × ℕ). goes_out net p.0) l ++ outputs net journal)
    (sym (append-nil (emissions net entry)))

same_events : (place : ℕ) (ps : List (ℕ × ℕ)) → map event_code (map (emission_at place) ps) ≡ ps
same_events place [] = refl
same_events place ((e, c) ∷ ps) =
    ap (λ (l : List (ℕ × ℕ)). (e, c) ∷ l) (same_events place ps)

placed_from : (net : Network) (n : ℕ) (journal : List Entry)
    → map event_code (flat_map (placed_in net) (enumerate_from n journal)) ≡ outputs net journal
placed_from net n [] = refl
placed_from net n (entry ∷ journal) =
    map-append event_code (placed_in net (n, entry))
    (flat_map (placed_in net) (enumerate_from (n + 1) journal))
    ∙ ap
    (λ (l : List (ℕ × ℕ)). l
    ++ map event_code (flat_map (placed_in net) (enumerate_from (n + 1) journal)))
    (same_events n (outputs net (entry ∷ [])))
    ∙ ap (λ (l : List (ℕ × ℕ)). outputs net (entry ∷ []) ++ l) (placed_from net (n + 1) journal)
    ∙ sym (outputs_first net entry journal)

pub placed_are_outputs : (net : Network) (journal : List Entry)
    → map event_code (placed_outputs net journal) ≡ outputs net journal
placed_are_outputs net journal = placed_from net 0 journal

-- ---- the first output

pub none_placed : (net : Network) (journal : List Entry) → placed_outputs net journal ≡ []
    → outputs net journal ≡ []
none_placed net journal none = sym (placed_from net 0 journal) ∙ ap (map event_code) none

head_of_map : {X Y : Type 0} (f : X → Y) (xs : List X) (x : X) → head_of xs ≡ Some x
    → head_of (map f xs) ≡ Some (f x)
head_of_map f [] x h = cc
head_of_map f (y ∷ xs) x h = let same : y ≡ x = cc in ap (λ z. Some (f z)) same

pub first_placed : (net : Network) (journal : List Entry) (x : Emission)
    → head_of (placed_outputs net journal) ≡ Some x
    → head_of (outputs net journal) ≡ Some (x.event, x.code)
first_placed net journal x first =
    ap (λ (l : List (ℕ × ℕ)). head_of l) (sym (placed_from net 0 journal))
    ∙ head_of_map event_code (placed_outputs net journal) x first

-- it is that of an entry of the journal
pub placed_within : (net : Network) (n : ℕ) (journal : List Entry) (x : Emission)
    → head_of (flat_map (placed_in net) (enumerate_from n journal)) ≡ Some x
    → (n ≤ x.place) × (x.place < n + length journal)
placed_within net n [] x first = cc
placed_within net n (entry ∷ journal) x first =
    go (outputs net (entry ∷ [])) first (placed_within net (n + 1) journal x)
  where
    go : (ps : List (ℕ × ℕ))
        → head_of
        (map (emission_at n) ps ++ flat_map (placed_in net) (enumerate_from (n + 1) journal))
        ≡ Some x
        → (head_of (flat_map (placed_in net) (enumerate_from (n + 1) journal)) ≡ Some x
        → (n + 1 ≤ x.place) × (x.place < n + 1 + length journal))
        → (n ≤ x.place) × (x.place < n + suc (length journal))
    go [] h later = let both = later h in (omega (arith, both.0), omega (arith, both.1))
    go ((e, c) ∷ ps) h later =
        let same : emission_at n (e, c) ≡ x = cc in
        let place : n ≡ x.place = ap (λ (y : Emission). y.place) same in
        (omega arith, omega arith)

-- ---- one output

pub none_coded : (net : Network) (place e c : ℕ) → c ≡ 0
    → going_out net place (emitted (e ∷ []) (c ∷ [])) ≡ []
none_coded net place e c none =
    ap (λ (n : ℕ). going_out net place (emitted (e ∷ []) (n ∷ []))) none

one_coded : (net : Network) (place e c : ℕ) (goes : Bool) → 0 < c → goes_out net e ≡ goes
    → going_out net place (emitted (e ∷ []) (c ∷ []))
    ≡ map (emission_at place) (cond goes ((e, c) ∷ []) [])
one_coded net place e zero goes some is = absurd (omega arith)
one_coded net place e (suc v) goes some is =
    ap (λ b. map (emission_at place) (cond b ((e, suc v) ∷ []) [])) is

goes_by : (net : Network) (e : ℕ) (event : EventDecl) → slice_get net.events e ≡ Some event
    → goes_out net e ≡ event.to_env
goes_by net e event at =
    ap
    (λ (o : Option EventDecl). unwrap_or (option_map (λ (event : EventDecl). event.to_env) o) false)
    at

pub stays_in : (net : Network) (place e c : ℕ) (event : EventDecl) → 0 < c
    → slice_get net.events e ≡ Some event → event.to_env ≡ false
    → going_out net place (emitted (e ∷ []) (c ∷ [])) ≡ []
stays_in net place e c event some at stays =
    one_coded net place e c false some (goes_by net e event at ∙ stays)

pub goes_out_once : (net : Network) (place e c : ℕ) (event : EventDecl) → 0 < c
    → slice_get net.events e ≡ Some event → event.to_env ≡ true
    → going_out net place (emitted (e ∷ []) (c ∷ [])) ≡ emission_at place (e, c) ∷ []
goes_out_once net place e c event some at goes =
    one_coded net place e c true some (goes_by net e event at ∙ goes)

-- ---- one entry

pub placed_is : (net : Network) (place : ℕ) (entry : Entry)
    → going_out net place (emissions net entry) ≡ placed_in net (place, entry)
placed_is net place entry = ap (going_out net place) (sym (append-nil (emissions net entry)))

pub none_added : {X : Type 0} (old more : List X) → more ≡ [] → old ≡ old ++ more
none_added {X} old more none =
    sym (append-nil old) ∙ ap (λ (l : List X). old ++ l) (sym none)

pub nothing_more : {X : Type 0} (old all more : List X) → more ≡ [] → old ++ more ≡ all → old ≡ all
nothing_more old all more none is = none_added old more none ∙ is

pub first_at : {X : Type 0} (xs : List X) → head_of xs ≡ slice_get xs 0
first_at [] = refl
first_at (x ∷ xs) = refl
