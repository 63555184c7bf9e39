-- What a firing gives, output by output.
use Rattle.std.specs.Prelude.{◌≡◌, ℕ, zero, suc, ◌+◌, List, ◌∷◌, ◌++◌, map, flat_map, drop, slice_get, Some}
use Rattle.std.proofs.Common.{sym, ap, ◌∙◌}
use Rattle.transition_table.specs.declared.decl.Party.TheVariants.{Machine as Sender}
use Rattle.transition_table.specs.declared.network.Network.{Network}
use Rattle.journals.specs.Journals.{emitted}
use Rattle.journals.specs.Schedules.{receivers_of, deliveries_of}
use Rattle.net_core.specs.Emissions.{owed_to, no_place}
use Rattle.polis_base.specs.Sets.{members}
use Rattle.journals.proofs.Emitted.{drop_at_item}
use Rattle.net_core.specs.inner.Emissions.{given_to}

-- what an output gives, and what those after it give
pub given_and_rest : (net : Network) (m : ℕ) (events codes : List ℕ) (k e c left : ℕ)
    → slice_get events k ≡ Some e → slice_get codes k ≡ Some c → members left ≡ receivers_of net e
    → given_to m e c left ++ flat_map (deliveries_of net (Sender m))
    (emitted (drop (k + 1) events) (drop (k + 1) codes))
    ≡ flat_map (deliveries_of net (Sender m)) (emitted (drop k events) (drop k codes))
given_and_rest net m events codes k e c left event code readers = at c code
  where
    split : (c : ℕ) → slice_get codes k ≡ Some c
        → emitted (drop k events) (drop k codes)
        ≡ emitted (e ∷ drop (k + 1) events) (c ∷ drop (k + 1) codes)
    split c code = ap (λ l. emitted l (drop k codes)) (drop_at_item events k e event)
        ∙ ap (λ l. emitted (e ∷ drop (k + 1) events) l) (drop_at_item codes k c code)

    at : (c : ℕ) → slice_get codes k ≡ Some c
        → given_to m e c left ++ flat_map (deliveries_of net (Sender m))
        (emitted (drop (k + 1) events) (drop (k + 1) codes))
        ≡ flat_map (deliveries_of net (Sender m)) (emitted (drop k events) (drop k codes))
    at zero code = sym (ap (flat_map (deliveries_of net (Sender m))) (split zero code))
    at (suc v) code =
        ap (λ (l : List ℕ). map
        (owed_to (record { from = m; event = e; code = suc v; left = left; next = no_place })) l
        ++ flat_map (deliveries_of net (Sender m))
        (emitted (drop (k + 1) events) (drop (k + 1) codes))) readers
        ∙ sym (ap (flat_map (deliveries_of net (Sender m))) (split (suc v) code))
