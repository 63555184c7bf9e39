-- A command line asks for one request at most.
use Rattle.std.proofs.Common.{◌≡◌, ℕ, List, [], ◌∷◌, length, slice_get, sym, ap, ◌∙◌, arith, codes}
use Rattle.polis_words.specs.Bound.{BoundWords, AsksBound}
use Rattle.polis_words.specs.Check.{CheckWords, AsksNet}
use Rattle.polis_words.specs.Demo.{DemoWords, AsksDemo}
use Rattle.polis_words.specs.Equiv.{EquivWords, AsksEquiv}
use Rattle.polis_words.specs.Explain.{AsksExplain}
use Rattle.polis_words.specs.NetStem.{NetStemWords, AsksNetStem}
use Rattle.polis_words.specs.NetTrace.{NetTraceWords, AsksNetTrace}
use Rattle.polis_words.specs.Replay.{ReplayWords, AsksReplay}
use Rattle.polis_words.specs.ReplayStem.{ReplayStemWords, AsksReplayStem}
use Rattle.polis_words.specs.Requests.{Asks}
use Rattle.polis_words.specs.Watch.{WatchWords, AsksWatch, named_by}
use Rattle.polis_words.specs.declared.requests.Request.{Request}
use Rattle.polis_words.specs.declared.requests.Request.TheVariants.{Run, OnNet, FromNet, Replay, OnJournal, FromJournal, Demo, Bound, Equiv, Explain, Shuffle, Watch, Survey, Chart}
use Rattle.polis_words.specs.declared.requests.explain.Explain.{Explain as Explained}
use Rattle.polis_words.specs.declared.requests.explain.Explain.TheVariants as explains
use Rattle.polis_words.proofs.Asks.{one_demo, same_item}
use Rattle.polis_words.proofs.AsksBound.{one_bound, one_costs, given_costs}
use Rattle.polis_words.proofs.AsksChart.{one_charted}
use Rattle.polis_words.proofs.AsksRun.{one_asked}
use Rattle.polis_words.proofs.AsksShuffle.{one_shuffle}
use Rattle.polis_words.proofs.AsksSurvey.{one_surveyed}
use Rattle.polis_words.proofs.Commands.{command_of, same_command}

-- ---- the words after it
one_net : (word other : List ℕ) (words : List (List ℕ)) (a b : CheckWords) → AsksNet word words a
    → AsksNet other words b → a ≡ b
one_net word other words a b p q =
    let net = same_item 1 (sym p.form ∙ q.form) in
    λ i. record { net = net i }

one_net_stem : (word other : List ℕ) (words : List (List ℕ)) (a b : NetStemWords)
    → AsksNetStem word words a → AsksNetStem other words b → a ≡ b
one_net_stem word other words a b p q =
    let net = same_item 1 (sym p.form ∙ q.form) in
    let stem = same_item 2 (sym p.form ∙ q.form) in
    λ i. record { net = net i; stem = stem i }

one_net_trace : (word : List ℕ) (words : List (List ℕ)) (a b : NetTraceWords)
    → AsksNetTrace word words a → AsksNetTrace word words b → a ≡ b
one_net_trace word words a b p q =
    let net = same_item 1 (sym p.form ∙ q.form) in
    let trace = same_item 2 (sym p.form ∙ q.form) in
    λ i. record { net = net i; trace = trace i }

one_equiv : (words : List (List ℕ)) (a b : EquivWords) → AsksEquiv words a → AsksEquiv words b
    → a ≡ b
one_equiv words a b p q =
    let net = same_item 1 (sym p.form ∙ q.form) in
    let other = same_item 2 (sym p.form ∙ q.form) in
    λ i. record { net = net i; other = other i }

one_files : (words : List (List ℕ)) (word other : List ℕ) (a b : ReplayWords)
    (rest more : List (List ℕ)) → words ≡ word ∷ a.net ∷ a.trace ∷ a.journal ∷ rest
    → words ≡ other ∷ b.net ∷ b.trace ∷ b.journal ∷ more → a ≡ b
one_files words word other a b rest more p q =
    let net = same_item 1 (sym p ∙ q) in
    let trace = same_item 2 (sym p ∙ q) in
    let journal = same_item 3 (sym p ∙ q) in
    λ i. record { net = net i; trace = trace i; journal = journal i }

one_replay : (word other : List ℕ) (words : List (List ℕ)) (a b : ReplayWords)
    → AsksReplay word words a → AsksReplay other words b → a ≡ b
one_replay word other words a b p q = one_files words word other a b [] [] p.form q.form

one_replay_stem : (word other : List ℕ) (words : List (List ℕ)) (a b : ReplayStemWords)
    → AsksReplayStem word words a → AsksReplayStem other words b → a ≡ b
one_replay_stem word other words a b p q =
    let replay = one_files words word other a.replay b.replay (a.stem ∷ []) (b.stem ∷ []) p.form q.form in
    let stem = same_item 4 (sym p.form ∙ q.form) in
    λ i. record { replay = replay i; stem = stem i }

one_watch : (words : List (List ℕ)) (a b : WatchWords) → AsksWatch words a → AsksWatch words b
    → a ≡ b
one_watch words a b p q =
    let same = one_replay_stem (codes "watch") (codes "watch") words (named_by a) (named_by b) p q in
    λ i. record { replay = (same i).replay; monitor = (same i).stem }

one_bounds : (words : List (List ℕ)) (a b : BoundWords) → AsksBound words a → AsksBound words b
    → a ≡ b
one_bounds words a b asks again =
    one_bound words b.net b.costs (ap (λ (w : List (List ℕ)). slice_get w 1) again.form)
    (λ costs gives. one_costs _ costs b.costs gives (given_costs words b again)) a asks

one_seed : (words : List (List ℕ)) (a b : DemoWords) → AsksDemo words a → AsksDemo words b
    → a ≡ b
one_seed words a b asks again =
    one_demo words b.seed again.seed (ap (λ (w : List (List ℕ)). slice_get w 1) again.form) a asks

-- the number of words tells the three apart
one_explain : (words : List (List ℕ)) (a b : Explained) → AsksExplain words a
    → AsksExplain words b → a ≡ b
one_explain words (explains.Net a) (explains.Net b) asks again =
    ap explains.Net (one_net (codes "explain") (codes "explain") words a b asks again)
one_explain words (explains.Trace a) (explains.Trace b) asks again =
    ap explains.Trace (one_net_trace (codes "explain") words a b asks again)
one_explain words (explains.Journal a) (explains.Journal b) asks again =
    ap explains.Journal (one_replay (codes "explain") (codes "explain") words a b asks again)
one_explain words a b asks again =
    let long = ap (λ (w : List (List ℕ)). length w) (sym asks.form ∙ again.form) in
    absurd (omega (arith, long))

-- ---- the requests
one_of : (words : List (List ℕ)) (a b : Request) → command_of a ≡ command_of b → Asks words a
    → Asks words b → a ≡ b
one_of words (Run a) (Run b) same p q = ap Run (one_asked words b a q p)
one_of words (OnNet kind a) (OnNet other b) same p q =
    let kinds : kind ≡ other = cc in
    let asked = one_net _ _ words a b p q in
    λ i. OnNet (kinds i) (asked i)
one_of words (FromNet kind a) (FromNet other b) same p q =
    let kinds : kind ≡ other = cc in
    let asked = one_net_stem _ _ words a b p q in
    λ i. FromNet (kinds i) (asked i)
one_of words (Replay a) (Replay b) same p q = ap Replay (one_replay _ _ words a b p q)
one_of words (OnJournal kind a) (OnJournal other b) same p q =
    let kinds : kind ≡ other = cc in
    let asked = one_replay _ _ words a b p q in
    λ i. OnJournal (kinds i) (asked i)
one_of words (FromJournal kind a) (FromJournal other b) same p q =
    let kinds : kind ≡ other = cc in
    let asked = one_replay_stem _ _ words a b p q in
    λ i. FromJournal (kinds i) (asked i)
one_of words (Demo a) (Demo b) same p q = ap Demo (one_seed words a b p q)
one_of words (Bound a) (Bound b) same p q = ap Bound (one_bounds words a b p q)
one_of words (Equiv a) (Equiv b) same p q = ap Equiv (one_equiv words a b p q)
one_of words (Explain a) (Explain b) same p q = ap Explain (one_explain words a b p q)
one_of words (Shuffle a) (Shuffle b) same p q = ap Shuffle (one_shuffle words a b p q)
one_of words (Watch a) (Watch b) same p q = ap Watch (one_watch words a b p q)
one_of words (Survey a) (Survey b) same p q = ap Survey (one_surveyed words a b p q)
one_of words (Chart a) (Chart b) same p q = ap Chart (one_charted words a b p q)
one_of words a b same p q = cc

pub one_request : (words : List (List ℕ)) (a b : Request) → Asks words a → Asks words b → a ≡ b
one_request words a b asks again =
    one_of words a b (same_command words a b asks again) asks again
