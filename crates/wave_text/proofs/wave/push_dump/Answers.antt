use Rattle.wave_text.proofs.TextChains.{three_parts}
use Rattle.wave_text.specs.Waves.{head_text, moment_text, start_text}
use Rattle.std.specs.List.{filter, flat_map, list_all}
use Rattle.polis_base.specs.Lists.{upto}
use Rattle.std.proofs.Common.{◌≡◌, ℕ, List, ◌<◌, ◌^◌, length, map, get_or, subst, sym, ap, ◌∙◌}
use Rattle.std.specs.Prelude.{nat_lt, true}
use Rattle.std.proofs.lemmas.Bool.{ltb-true}
use Rattle.wave_text.specs.Signals.{out_events, has_values}
use Rattle.wave_text.proofs.EntryChanges.{out_below}
use Rattle.wave_text.specs.declared.signal.Signal.{Signal}
use Rattle.wave_text.specs.declared.signal.Signal.TheVariants.{Emission, Value}
use Rattle.wave_text.proofs.wave.push_dump.Goals as goal
use Rattle.polis_base.proofs.ListTests.{all_get_or}

pub with_values-requires : goal.with_values-requires
with_values-requires c = λ k d below.
    let net = c.args.net.now in
    let n = length net.events in
    let are : c.as_slice.result.now ≡ out_events net = c.as_slice.ensures
    ∙ c.in_ok-events.ensures in
    ltb-true (get_or c.as_slice.result.now k d) n
    (all_get_or (λ e. nat_lt e n) c.as_slice.result.now k d
    (subst (λ (l : List ℕ). list_all (λ e. nat_lt e n) l ≡ true) (sym are) (out_below net)) below)

pub all_signals-requires-clause-events : goal.all_signals-requires-clause-events
all_signals-requires-clause-events c = c.as_slice-2.ensures ∙ c.in_ok-events.ensures

pub all_signals-requires-clause-valued : goal.all_signals-requires-clause-valued
all_signals-requires-clause-valued c =
    c.as_slice-3.ensures ∙ c.in_ok-valued.ensures
    ∙ ap (λ (l : List ℕ). filter (has_values c.args.net.now) l)
    (c.as_slice.ensures ∙ c.in_ok-events.ensures)

pub all_numberings-requires-clause-events : goal.all_numberings-requires-clause-events
all_numberings-requires-clause-events c = c.in_ok-events.ensures

pub all_numberings-requires-clause-next : goal.all_numberings-requires-clause-next
all_numberings-requires-clause-next c = c.in_ok-n.ensures.next

pub all_numberings-requires-clause-room : goal.all_numberings-requires-clause-room
all_numberings-requires-clause-room c =
    subst (λ (l : List Signal). length l < 2 ^ 64) c.in_ok-list.ensures c.counted.ensures

pub all_numberings-requires-clause-valued : goal.all_numberings-requires-clause-valued
all_numberings-requires-clause-valued c =
    c.in_ok-valued.ensures
    ∙ ap (λ (l : List ℕ). filter (has_values c.args.net.now) l)
    (c.as_slice.ensures ∙ c.in_ok-events.ensures)

pub push_head-requires-clause-emissions : goal.push_head-requires-clause-emissions
push_head-requires-clause-emissions c =
    c.in_ok-emissions.ensures ∙ ap (λ (l : List ℕ). map Emission l) c.in_ok-events.ensures

pub push_head-requires-clause-room : goal.push_head-requires-clause-room
push_head-requires-clause-room c =
    subst (λ (l : List Signal). length l < 2 ^ 64) c.in_ok-list.ensures c.counted.ensures

pub push_head-requires-clause-values : goal.push_head-requires-clause-values
push_head-requires-clause-values c =
    c.in_ok-values.ensures ∙ ap (λ (l : List ℕ). map Value l)
    (c.in_ok-valued.ensures
    ∙ ap (λ (l : List ℕ). filter (has_values c.args.net.now) l)
    (c.as_slice.ensures ∙ c.in_ok-events.ensures))

pub push_start-requires : goal.push_start-requires
push_start-requires c = c.in_ok-list.ensures

pub push_moments-requires-clause-journal : goal.push_moments-requires-clause-journal
push_moments-requires-clause-journal c = c.requires

pub push_moments-requires-clause-numberings : goal.push_moments-requires-clause-numberings
push_moments-requires-clause-numberings c =
    rw c.deref.ensures.value c.in_ok-numberings.ensures

pub push_moments-requires-clause-room : goal.push_moments-requires-clause-room
push_moments-requires-clause-room c =
    subst (λ (l : List Signal). length l < 2 ^ 64) c.in_ok-list.ensures c.counted.ensures

pub push_moments-requires-clause-signals : goal.push_moments-requires-clause-signals
push_moments-requires-clause-signals c = c.in_ok-list.ensures

pub returns : goal.returns
returns c =
    let net = c.args.net.now in
    let j = c.args.j.now in
    three_parts c.args.into.now c.push_head.new.into c.push_start.new.into c.push_moments.new.into
    (head_text net) (start_text net) (flat_map (moment_text net j) (upto (length j)))
    c.in_ok-n.ensures.text c.in_ok-push_start.ensures c.in_ok-push_moments.ensures
