-- The words for a machine's variables and results tell them apart.
use Rattle.std.proofs.Common.{◌≡◌, ℕ, zero, suc, ◌+◌, ◌<◌, true, false, not, ◌&&◌, ◌==◌, List, [], ◌∷◌, ◌++◌, map, length, slice_get, Option, Some, None, refl, ap, sym, subst, ◌∙◌, append_assoc, arith, ltb, codes}
use Rattle.std.specs.Prelude.{option_map, unwrap_or}
use Rattle.std.specs.List.{list_all}
use Rattle.std.proofs.lemmas.Bool.{and_parts, and_from, ltb-true}
use Rattle.std.proofs.lemmas.List.Folds.{list_all-append}
use Rattle.std.proofs.lemmas.Option.{slice_get-map}
use Rattle.polis_base.specs.Names.{is_name}
use Rattle.domains.specs.Names.{are_distinct}
use Rattle.transition_table.specs.declared.decl.EventDecl.{EventDecl}
use Rattle.transition_table.specs.declared.decl.StateDecl.{StateDecl}
use Rattle.transition_table.specs.declared.machine.Machine.{Machine}
use Rattle.transition_table.specs.declared.network.Network.{Network}
use Rattle.transition_table.specs.NetworkFacts.{are_different, is_numbered, lists_once}
use Rattle.journal_text.specs.Holding.{names_hold, has_name_token, state_has_name, machine_holds, values_hold}
use Rattle.task_code.proofs.Labels.{ins, sts, tos, outs}
use Rattle.transition_table.specs.NetworkNames.{event_name}
use Rattle.task_code.specs.Listings.{labels, label}
use Rattle.machine_compiler.proofs.DistinctItems.{Apart, apart_mapped, distinct_apart, different_apart}
use Rattle.machine_compiler.proofs.CutAtByte.{lacks}
use Rattle.machine_compiler.proofs.IsLabel.{IsLabel, Each, each_both, each_mapped, Five, five_apart, first, name_lacks}
use Rattle.transition_table.proofs.Ranges.{vars_length}
use Rattle.polis_base.proofs.ListTests.{all_get}
use Rattle.polis_base.proofs.Places.{length_append, length_map, some_at}
use Rattle.transition_table.proofs.MachineCounts.{results_long}

-- what the types of a network keep of the words for a machine
pub record Names (net : Network) (m : Machine) : Type 0 where
  pub inputs_numbered : list_all (λ e. ltb e (length net.events)) m.inputs ≡ true
  pub outputs_numbered : list_all (λ e. ltb e (length net.events)) m.outputs ≡ true
  pub inputs_once : are_different m.inputs ≡ true
  pub outputs_once : are_different m.outputs ≡ true
  pub states_once : are_distinct (map (λ state. state.name) m.states) ≡ true
  pub state_names : list_all state_has_name m.states ≡ true
  pub event_names : list_all has_name_token net.events ≡ true

pub names_of : (net : Network) (k : ℕ) (m : Machine) → names_hold net ≡ true
    → slice_get net.machines k ≡ Some m → Names net m
names_of net k m hold is =
    let inputs = list_all (λ e. ltb e (length net.events)) m.inputs in
    let outputs = list_all (λ e. ltb e (length net.events)) m.outputs in
    let states = list_all (λ (state : StateDecl). ltb state.domain (length net.domains)) m.states in
    let numbered = and_parts (inputs && outputs) states
    (all_get (is_numbered net.domains net.events) net.machines k m net.numbered is) in
    let ports = and_parts inputs outputs numbered.0 in
    let names = map (λ (state : StateDecl). state.name) m.states in
    let once = and_parts (are_different m.inputs && are_different m.outputs) (are_distinct names)
    (all_get lists_once net.machines k m net.once is) in
    let ports_once = and_parts (are_different m.inputs) (are_different m.outputs) once.0 in
    let events = list_all has_name_token net.events in
    let machines = list_all machine_holds net.machines in
    let holds = and_parts events machines
    (and_parts (events && machines) (list_all values_hold net.domains) hold).0 in
    let machine = and_parts (is_name m.name) (list_all state_has_name m.states)
    (all_get machine_holds net.machines k m holds.1 is) in
    record {
      inputs_numbered = ports.0;
      outputs_numbered = ports.1;
      inputs_once = ports_once.0;
      outputs_once = ports_once.1;
      states_once = once.1;
      state_names = machine.1;
      event_names = holds.0;
    }

-- a kind, a space and a name
kind_label : (kind name : List ℕ) → lacks 32 kind ≡ true → lacks 10 kind ≡ true
    → lacks 44 kind ≡ true → (first kind == 103) ≡ false → is_name name ≡ true
    → IsLabel (kind ++ 32 ∷ name)
kind_label kind name whole one_line no_comma which token =
    record {
      kind = kind;
      name = name;
      go = false;
      is = refl;
      which = which;
      kind_whole = whole;
      name_whole = name_lacks 32 refl name token;
      one_line = list_all-append (λ (c : ℕ). not (c == 10)) kind (32 ∷ name)
          ∙ and_from (lacks 10 kind) (lacks 10 name) one_line (name_lacks 10 refl name token);
      no_comma = list_all-append (λ (c : ℕ). not (c == 44)) kind (32 ∷ name)
          ∙ and_from (lacks 44 kind) (lacks 44 name) no_comma (name_lacks 44 refl name token);
    }

go_label : IsLabel (codes "go")
go_label =
    record {
      kind = codes "go";
      name = [];
      go = true;
      is = refl;
      which = refl;
      kind_whole = refl;
      name_whole = refl;
      one_line = refl;
      no_comma = refl;
    }

-- ---- events
record Named (net : Network) (e : ℕ) : Type 0 where
  event : EventDecl
  is : slice_get net.events e ≡ Some event
  words : event_name net e ≡ event.name
  token : is_name event.name ≡ true

named : (net : Network) (m : Machine) (e : ℕ) → Names net m → ltb e (length net.events) ≡ true
    → Named net e
named net m e names low =
    let r = some_at net.events e (ltb-true e (length net.events) low) in
    record {
      event = r.0;
      is = r.1;
      words = ap (λ (o : Option EventDecl). unwrap_or
          (option_map (λ (event : EventDecl). event.name) o) []) r.1;
      token = all_get has_name_token net.events e r.0 names.event_names r.1;
    }

same_event : (net : Network) (e f : ℕ) → Named net e → Named net f
    → event_name net e ≡ event_name net f → e ≡ f
same_event net e f a b same =
    let name_at = λ (i : ℕ) (n : Named net i). slice_get-map (λ (event : EventDecl). event.name)
    net.events i ∙ ap (option_map (λ (event : EventDecl). event.name)) n.is in
    let named_same : a.event.name ≡ b.event.name = sym a.words ∙ same ∙ b.words in
    distinct_apart (map (λ (event : EventDecl). event.name) net.events) net.event_names e f
    b.event.name (name_at e a ∙ ap (λ (n : List ℕ). Some n) named_same) (name_at f b)

-- ---- the words
module _ (net : Network) (m : Machine) (names : Names net m) where
  grouped : labels net m ≡ ins net m ++ (sts net m ++ ((codes "go" ∷ []) ++ (tos net m ++ outs net m)))
  grouped = append_assoc (ins net m ++ sts net m) (codes "go" ∷ tos net m) (outs net m)
      ∙ append_assoc (ins net m) (sts net m) ((codes "go" ∷ tos net m) ++ outs net m)

  input_named : (i e : ℕ) → slice_get m.inputs i ≡ Some e → Named net e
  input_named i e is =
      named net m e names
      (all_get (λ e. ltb e (length net.events)) m.inputs i e names.inputs_numbered is)

  output_named : (i e : ℕ) → slice_get m.outputs i ≡ Some e → Named net e
  output_named i e is =
      named net m e names
      (all_get (λ e. ltb e (length net.events)) m.outputs i e names.outputs_numbered is)

  state_named : (i : ℕ) (state : StateDecl) → slice_get m.states i ≡ Some state
      → is_name state.name ≡ true
  state_named i state is = all_get state_has_name m.states i state names.state_names is

  states_apart : (i j : ℕ) (x : List ℕ)
      → slice_get (map (λ (state : StateDecl). state.name) m.states) i ≡ Some x
      → slice_get (map (λ (state : StateDecl). state.name) m.states) j ≡ Some x → i ≡ j
  states_apart = distinct_apart (map (λ (state : StateDecl). state.name) m.states) names.states_once

  -- two words of states that are the same are of one state
  words_apart : (f : List ℕ → List ℕ) → ((a b : List ℕ) → f a ≡ f b → a ≡ b)
      → Apart (map (λ (state : StateDecl). f state.name) m.states)
  words_apart f tells i j x ei ej =
      let wi = slice_get-map (λ (state : StateDecl). f state.name) m.states i in
      let wj = slice_get-map (λ (state : StateDecl). f state.name) m.states j in
      go (slice_get m.states i) (slice_get m.states j) refl refl (sym wi ∙ ei) (sym wj ∙ ej)
    where
      name_at : (k : ℕ) (state : StateDecl) → slice_get m.states k ≡ Some state
          → slice_get (map (λ (state : StateDecl). state.name) m.states) k ≡ Some state.name
      name_at k state is = slice_get-map (λ (state : StateDecl). state.name) m.states k
          ∙ ap (option_map (λ (state : StateDecl). state.name)) is

      go : (a b : Option StateDecl) → slice_get m.states i ≡ a → slice_get m.states j ≡ b
          → option_map (λ (state : StateDecl). f state.name) a ≡ Some x
          → option_map (λ (state : StateDecl). f state.name) b ≡ Some x → i ≡ j
      go None b ai bj ha hb = cc
      go (Some s) None ai bj ha hb = cc
      go (Some s) (Some t) ai bj ha hb =
          let same_words : f s.name ≡ f t.name = cc in
          let same : s.name ≡ t.name = tells s.name t.name same_words in
          states_apart i j t.name (name_at i s ai ∙ ap (λ (n : List ℕ). Some n) same)
          (name_at j t bj)

  five : Five (ins net m) (sts net m) (codes "go" ∷ []) (tos net m) (outs net m)
  five =
      record {
        ins_begin = each_mapped (λ w. first w ≡ 105) (λ e. codes "in " ++ event_name net e) m.inputs
            (λ i e is. refl);
        sts_begin = each_mapped (λ w. first w ≡ 115)
            (λ (state : StateDecl). codes "st " ++ state.name) m.states (λ i state is. refl);
        go_begin = each_mapped (λ w. first w ≡ 103) (λ (w : List ℕ). codes "go") ([] ∷ [])
            (λ i w is. refl);
        tos_begin = each_mapped (λ w. first w ≡ 116)
            (λ (state : StateDecl). codes "to " ++ state.name) m.states (λ i state is. refl);
        outs_begin = each_mapped (λ w. first w ≡ 111) (λ e. codes "out " ++ event_name net e)
            m.outputs (λ i e is. refl);
        ins_apart = apart_mapped (λ e. codes "in " ++ event_name net e) m.inputs
            (different_apart m.inputs names.inputs_once)
            (λ i j e f ei ej same. same_event net e f (input_named i e ei) (input_named j f ej)
            (three_off 105 110 32 (event_name net e) (event_name net f) same));
        sts_apart = words_apart (λ name. codes "st " ++ name)
            (λ a b same. three_off 115 116 32 a b same);
        go_apart = one_apart;
        tos_apart = words_apart (λ name. codes "to " ++ name)
            (λ a b same. three_off 116 111 32 a b same);
        outs_apart = apart_mapped (λ e. codes "out " ++ event_name net e) m.outputs
            (different_apart m.outputs names.outputs_once)
            (λ i j e f ei ej same. same_event net e f (output_named i e ei) (output_named j f ej)
            (four_off 111 117 116 32 (event_name net e) (event_name net f) same));
      }
    where
      three_off : (a b c : ℕ) (x y : List ℕ) → a ∷ b ∷ c ∷ x ≡ a ∷ b ∷ c ∷ y → x ≡ y
      three_off a b c x y e = cc

      four_off : (a b c d : ℕ) (x y : List ℕ) → a ∷ b ∷ c ∷ d ∷ x ≡ a ∷ b ∷ c ∷ d ∷ y → x ≡ y
      four_off a b c d x y e = cc

      one_apart : Apart (codes "go" ∷ [])
      one_apart zero zero x ei ej = refl
      one_apart zero (suc j) x ei ej = cc
      one_apart (suc i) j x ei ej = cc

  labels_apart : Apart (labels net m)
  labels_apart = subst (λ (ws : List (List ℕ)). Apart ws) (sym grouped)
      (five_apart (ins net m) (sts net m) (codes "go" ∷ []) (tos net m) (outs net m) five)

  labels_are : Each IsLabel (labels net m)
  labels_are =
      subst (λ (ws : List (List ℕ)). Each IsLabel ws) (sym grouped)
      (each_both IsLabel (ins net m) (sts net m ++ ((codes "go" ∷ []) ++ (tos net m ++ outs net m)))
      (each_mapped IsLabel (λ e. codes "in " ++ event_name net e) m.inputs
      (λ i e is. let n = input_named i e is in
      subst (λ w. IsLabel (codes "in " ++ w)) (sym n.words)
      (kind_label (codes "in") n.event.name refl refl refl refl n.token)))
      (each_both IsLabel (sts net m) ((codes "go" ∷ []) ++ (tos net m ++ outs net m))
      (each_mapped IsLabel (λ (state : StateDecl). codes "st " ++ state.name) m.states
      (λ i state is. kind_label (codes "st") state.name refl refl refl refl
      (state_named i state is)))
      (each_both IsLabel (codes "go" ∷ []) (tos net m ++ outs net m)
      (each_mapped IsLabel (λ (w : List ℕ). codes "go") ([] ∷ [])
      (λ i w is. go_label))
      (each_both IsLabel (tos net m) (outs net m)
      (each_mapped IsLabel (λ (state : StateDecl). codes "to " ++ state.name)
      m.states (λ i state is. kind_label (codes "to") state.name refl refl
      refl refl (state_named i state is)))
      (each_mapped IsLabel (λ e. codes "out " ++ event_name net e) m.outputs
      (λ i e is. let n = output_named i e is in
      subst (λ w. IsLabel (codes "out " ++ w)) (sym n.words)
      (kind_label (codes "out") n.event.name refl refl refl refl
      n.token)))))))

  -- ---- by number
  label_at : (i : ℕ) → i < length (labels net m) → slice_get (labels net m) i ≡ Some (label net m i)
  label_at i low =
      let r = some_at (labels net m) i low in
      r.1 ∙ ap (λ (w : List ℕ). Some w) (sym (ap (λ (o : Option (List ℕ)). unwrap_or o []) r.1))

  pub is_label : (i : ℕ) → i < length (labels net m) → IsLabel (label net m i)
  is_label i low = labels_are i (label net m i) (label_at i low)

  pub same_item : (i j : ℕ) → i < length (labels net m) → j < length (labels net m)
      → label net m i ≡ label net m j → i ≡ j
  same_item i j li lj same =
      labels_apart i j (label net m j) (label_at i li ∙ ap (λ (w : List ℕ). Some w) same)
      (label_at j lj)

-- ---- how many there are

-- a word for each variable and each result
pub long_labels : (net : Network) (m : Machine)
    → length (labels net m) ≡ length m.vars + length m.results
long_labels net m =
    let ins = map (λ e. codes "in " ++ event_name net e) m.inputs in
    let sts = map (λ (state : StateDecl). codes "st " ++ state.name) m.states in
    let tos = map (λ (state : StateDecl). codes "to " ++ state.name) m.states in
    let outs = map (λ e. codes "out " ++ event_name net e) m.outputs in
    let a : length ins ≡ length m.inputs =
    length_map (λ e. codes "in " ++ event_name net e) m.inputs in
    let b : length sts ≡ length m.states =
    length_map (λ (state : StateDecl). codes "st " ++ state.name) m.states in
    let c : length tos ≡ length m.states =
    length_map (λ (state : StateDecl). codes "to " ++ state.name) m.states in
    let d : length outs ≡ length m.outputs =
    length_map (λ e. codes "out " ++ event_name net e) m.outputs in
    let v = vars_length m in
    let r = results_long m in
    let e : length (labels net m) ≡ length ((ins ++ sts) ++ (codes "go" ∷ tos)) + length outs =
    length_append ((ins ++ sts) ++ (codes "go" ∷ tos)) outs in
    let f : length ((ins ++ sts) ++ (codes "go" ∷ tos))
    ≡ length (ins ++ sts) + length (codes "go" ∷ tos) =
    length_append (ins ++ sts) (codes "go" ∷ tos) in
    let g : length (ins ++ sts) ≡ length ins + length sts = length_append ins sts in
    let h : length (codes "go" ∷ tos) ≡ length tos + 1 = omega arith in
    omega arith
