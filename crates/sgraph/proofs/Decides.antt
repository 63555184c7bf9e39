-- In an allowed order a result is decided by the variables before it.
use Rattle.std.proofs.Common.{◌≡◌, ℕ, ◌+◌, ◌<◌, true, List, length, take, drop, slice_index, Some, ap, sym, ◌∙◌, arith, get_or-drop, get_or-take, length-append}
use Rattle.std.specs.Cmp.Lexicographic.{same_text}
use Rattle.domains.specs.Tables.{fits}
use Rattle.transition_table.specs.declared.machine.Machine.{Machine}
use Rattle.domains.specs.Orders.{place}
use Rattle.decision_diagram.specs.Diagrams.{Node, Diagrams, inner_at}
use Rattle.decision_diagram.specs.Leading.{LeadTo, Decided, OneCode}
use Rattle.transition_table.specs.Computed.{char, result_codes}
use Rattle.transition_table.specs.Orders.{sizes_of}
use Rattle.sgraph.proofs.ByRows.{IsDiagramByRows}
use Rattle.domains.proofs.Places.{place_below, at_place}
use Rattle.sgraph.proofs.Below.{Below}
use Rattle.domains.proofs.FittingCodes.{fits_prefix}

-- where the characteristic function is true, a result has its code
pub char_code : (m : Machine) (codes : List ℕ) (y : ℕ) → char m codes ≡ true
    → slice_index codes (length m.vars + y)
    ≡ slice_index (result_codes m (take (length m.vars) codes)) y
char_code m codes y h =
    let e : result_codes m (take (length m.vars) codes) ≡ drop (length m.vars) codes =
    same_text (result_codes m (take (length m.vars) codes)) (drop (length m.vars) codes)
    (sym h) in
    sym (get_or-drop (length m.vars) codes y 0) ∙ ap (λ (xs : List ℕ). slice_index xs y) (sym e)

-- codes that agree on the variables before the result agree on the result
pub decided : (m : Machine) → Below → (s : Diagrams) (root y : ℕ) → IsDiagramByRows m s root
    → y < length m.results → Decided s root (length m.vars + y)
decided m laws s root y d hy one other fit_one fit_other true_one true_other agree =
    let n = length m.vars in
    let order = s.order in
    let allowed = d.allowed in
    let long : length order ≡ length (sizes_of m) = allowed.long in
    let both : length (sizes_of m) ≡ length m.vars + length m.results =
    length-append m.vars m.results in
    let f : fits (sizes_of m) one ≡ true = rw (← d.sizes) fit_one in
    let g : fits (sizes_of m) other ≡ true = rw (← d.sizes) fit_other in
    let c : char m one ≡ true = sym (d.means.value one fit_one) ∙ true_one in
    let e : char m other ≡ true = sym (d.means.value other fit_other) ∙ true_other in
    char_code m one y c
    ∙ laws.on_support m y (take n one) (take n other) (fits_prefix m.vars m.results one f)
    (fits_prefix m.vars m.results other g) (λ v low sup.
    let before : place order v < place order (n + y) =
    allowed.after y v hy low ((laws.by_test m y v d.sure low).0 sup) in
    let within = place_below order allowed.permutation v (omega arith) in
    let at : slice_index order (place order v) ≡ v = at_place order v within in
    get_or-take n one v 0 low ∙ (rw at at (agree (place order v) before))
    ∙ sym (get_or-take n other v 0 low))
    ∙ sym (char_code m other y e)

-- at a result's node that codes lead to, exactly one code has a child that isn't False
pub one_code : (m : Machine) → Below → (s : Diagrams) (root n : ℕ) (node : Node) (y : ℕ)
    → IsDiagramByRows m s root → inner_at s.nodes n ≡ Some node → node.var ≡ length m.vars + y
    → y < length m.results → (a : List ℕ) → fits s.sizes a ≡ true → LeadTo s root a n
    → OneCode node.kids
one_code m laws s root n node y d is var hy a fit there =
    let fixed : Decided s root node.var = rw var (decided m laws s root y d hy) in
    laws.one_child s root n node a d.reduced is fit there fixed
