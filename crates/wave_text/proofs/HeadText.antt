-- The steps of the head.
use Rattle.std.specs.Prelude.{◌≡◌, ℕ, ◌+◌, List, [], ◌∷◌, ◌++◌, map, flat_map, length, drop, slice_get, Some}
use Rattle.std.specs.List.{enumerate_from}
use Rattle.std.proofs.Common.{sym, ap, ◌∙◌, arith, add-one, subst, inl, inr}
use Rattle.std.proofs.lemmas.List.{append_assoc, drop_more, length-append, length_push}
use Rattle.std.proofs.lemmas.Bool.{cases_lt}
use Rattle.std.proofs.lemmas.Option.{same_Some, slice_get_within, get_or_from_slice_get}
use Rattle.polis_base.specs.Lists.{upto}
use Rattle.transition_table.specs.declared.decl.StateDecl.{StateDecl}
use Rattle.transition_table.specs.declared.machine.Machine.{Machine}
use Rattle.transition_table.specs.declared.network.Network.{Network}
use Rattle.journals.specs.Journals.{inputs_of}
use Rattle.wave_text.specs.inner.Changing.{IsNumbering}
use Rattle.wave_text.specs.declared.change.Numbering.{Numbering}
use Rattle.wave_text.specs.Signals.{snapshot_signals, loss_signals, machine_signals, first_number}
use Rattle.wave_text.specs.Waves.{start_line, machine_scope, var_line, var_lines}
use Rattle.wave_text.specs.declared.signal.Signal.TheVariants.{Input, Loss, State}
use Rattle.wave_text.proofs.MachineSignals.{snapshot_signals_many, loss_signals_many, states_of_machine}
use Rattle.event_accounts.proofs.InputsOf.{inputs_of_machine}
use Rattle.wave_text.specs.declared.signal.Signal.{Signal}
use Rattle.polis_base.proofs.Places.{flat_map_push, get_end, get_left}

pub vars_more : (net : Network) (n i : ℕ) (list : List Signal) (s : Signal)
    → slice_get list i ≡ Some s
    → var_lines net (n + i) (drop i list)
    ≡ var_line net (n + i, s) ++ var_lines net (n + (i + 1)) (drop (i + 1) list)
vars_more net n i list s at =
    ap (var_lines net (n + i)) (drop_more list i s (slice_get_within list i s at))
    ∙ ap (λ (x : Signal). var_line net (n + i, x) ++ var_lines net (n + i + 1) (drop (i + 1) list))
    (get_or_from_slice_get list i s s at)
    ∙ ap (λ (k : ℕ). var_line net (n + i, s) ++ var_lines net k (drop (i + 1) list))
    (let h : n + i + 1 ≡ n + (i + 1) = omega arith in h)

pub numbers_more : (net : Network) (m : ℕ) (machine : Machine)
    → slice_get net.machines m ≡ Some machine
    → first_number net (m + 1)
    ≡ first_number net m + (length machine.inputs + length machine.states + length machine.inputs)
numbers_more net m machine at =
    let front = flat_map (machine_signals net) (upto m) in
    let a = length-append front (machine_signals net m) in
    let b = length-append (snapshot_signals net m) (loss_signals net m) in
    let c = snapshot_signals_many net m in
    let d = loss_signals_many net m in
    let e = ap length (inputs_of_machine net m machine at) in
    let f = ap length (states_of_machine net m machine at) in
    let g : first_number net (m + 1) ≡ length (front ++ machine_signals net m) =
    ap (λ (k : ℕ). length (flat_map (machine_signals net) (upto k))) (add-one m)
    ∙ ap length (flat_map_push (machine_signals net) (upto m) m) in
    omega arith

pub snapshot_signals_by : (net : Network) (m k : ℕ) (machine : Machine) (list : List Signal)
    → slice_get net.machines m ≡ Some machine → k ≡ m
    → list ≡ map (Input k) machine.inputs ++ map (State k) (upto (length machine.states))
    → list ≡ snapshot_signals net m
snapshot_signals_by net m k machine list at same is =
    is
    ∙ ap (λ (i : ℕ). map (Input i) machine.inputs ++ map (State i) (upto (length machine.states)))
    same
    ∙ ap (λ (l : List ℕ). map (Input m) l ++ map (State m) (upto (length machine.states)))
    (sym (inputs_of_machine net m machine at))
    ∙ ap (λ (l : List StateDecl). map (Input m) (inputs_of net m)
    ++ map (State m) (upto (length l)))
    (sym (states_of_machine net m machine at))

pub losses_by : (net : Network) (m k : ℕ) (machine : Machine) (list : List Signal)
    → slice_get net.machines m ≡ Some machine → k ≡ m
    → list ≡ map (Loss k) machine.inputs → list ≡ loss_signals net m
losses_by net m k machine list at same is =
    is ∙ ap (λ (i : ℕ). map (Loss i) machine.inputs) same
    ∙ ap (λ (l : List ℕ). map (Loss m) l) (sym (inputs_of_machine net m machine at))

pub scopes_more : (net : Network) (m : ℕ) (into old new : List ℕ)
    → old ≡ into ++ flat_map (machine_scope net) (upto m)
    → new ≡ old ++ machine_scope net m
    → new ≡ into ++ flat_map (machine_scope net) (upto (m + 1))
scopes_more net m into old new were made =
    made ∙ ap (λ (l : List ℕ). l ++ machine_scope net m) were
    ∙ append_assoc into (flat_map (machine_scope net) (upto m)) (machine_scope net m)
    ∙ ap (λ (l : List ℕ). into ++ l) (sym (flat_map_push (machine_scope net) (upto m) m))
    ∙ ap (λ (k : ℕ). into ++ flat_map (machine_scope net) (upto k)) (sym (add-one m))

pub start_lines_more : (net : Network) (k : ℕ) (list : List Signal) (s : Signal)
    → slice_get list k ≡ Some s
    → flat_map (start_line net) (enumerate_from k (drop k list))
    ≡ start_line net (k, s) ++ flat_map (start_line net)
    (enumerate_from (k + 1) (drop (k + 1) list))
start_lines_more net k list s at =
    ap (λ (l : List Signal). flat_map (start_line net) (enumerate_from k l))
    (drop_more list k s (slice_get_within list k s at))
    ∙ ap (λ (x : Signal). start_line net (k, x)
    ++ flat_map (start_line net) (enumerate_from (k + 1) (drop (k + 1) list)))
    (get_or_from_slice_get list k s s at)

pub numberings_more : (net : Network) (m : ℕ) (old : List Numbering) (one : Numbering)
    → length old ≡ m
    → ((k : ℕ) (s : Numbering) → slice_get old k ≡ Some s → IsNumbering net k s)
    → IsNumbering net m one
    → (k : ℕ) (s : Numbering) → slice_get (old ++ one ∷ []) k ≡ Some s → IsNumbering net k s
numberings_more net m old one many each last k s at =
    elim (cases_lt k m) [
      | inl below ↦ each k s (sym (get_left old (one ∷ []) k (omega arith)) ∙ at)
      | inr above ↦
          let within = slice_get_within (old ++ one ∷ []) k s at in
          let size = length_push old one in
          let is : k ≡ length old = omega arith in
          let same = same_Some one s (sym (get_end old one)
          ∙ ap (slice_get (old ++ one ∷ [])) (sym is) ∙ at) in
          subst (λ (x : Numbering). IsNumbering net k x) same
          (subst (λ (n : ℕ). IsNumbering net n one) (sym many ∙ sym is) last)
    ]
