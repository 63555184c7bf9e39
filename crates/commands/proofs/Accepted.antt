-- The names of a network that is accepted are names.
use Rattle.std.proofs.Common.{◌≡◌, ℕ, zero, suc, ◌^◌, Bool, true, ◌&&◌, nat_le, nat_lt, List, [], ◌∷◌, ◌++◌, map, length, Some, refl, sym, ◌∙◌, ap, subst, arith}
use Rattle.std.proofs.lemmas.List.{length-map}
use Rattle.std.specs.List.{list_all, AllZip}
use Rattle.polis_base.specs.Names.{is_name}
use Rattle.polis_base.specs.declared.token.Kind.{Kind}
use Rattle.polis_base.specs.declared.token.Kind.TheVariants as kinds
use Rattle.domains.specs.declared.domain.Domain.{Domain}
use Rattle.transition_table.specs.declared.machine.Machine.{Machine}
use Rattle.transition_table.specs.declared.network.Network.{Network}
use Rattle.net_reader.specs.Grammar.{Part, ◌⨾◌, Each, OneAnd, Listed, IsWord, IsNum, IsShape, IsDomain, IsEvent, IsState, IsMachine, Sign}
use Rattle.polis_base.specs.declared.token.Sign.TheVariants.{Comma}
use Rattle.net_reader.specs.Lexemes.{Lexeme, lexemes, word_as, num_as}
use Rattle.net_reader.specs.declared.raw.Word.{Word}
use Rattle.net_reader.specs.declared.raw.Num.{Num}
use Rattle.net_reader.specs.declared.raw.RawShape.{RawShape}
use Rattle.net_reader.specs.declared.raw.RawShape.TheVariants as shapes
use Rattle.net_reader.specs.declared.raw.RawDomain.{RawDomain}
use Rattle.net_reader.specs.declared.raw.RawEvent.{RawEvent}
use Rattle.net_reader.specs.declared.raw.RawState.{RawState}
use Rattle.net_reader.specs.declared.raw.RawMachine.{RawMachine}
use Rattle.net_reader.specs.declared.raw.RawNet.{RawNet}
use Rattle.net_names.specs.Numbers.{names_of, no_name}
use Rattle.net_names.specs.Values.{count_of}
use Rattle.rule_judge.specs.Rules.{disorder}
use Rattle.net_rules.specs.Networks.{event_of, state_of, IsDomainOf, IsMachineOf}
use Rattle.net_rules.specs.inner.Sound.{Each as AtEach, has_count}
use Rattle.net_rules.proofs.IsSound.{sound}
use Rattle.net_rules.proofs.HasReceivers.{fresh}
use Rattle.net_rules.proofs.Sentences.{sentences_have_values}
use Rattle.journal_text.specs.Holding.{names_hold, has_name_token, state_has_name, machine_holds, values_hold}
use Rattle.input_files.specs.Accepted.{Accepted}
use Rattle.commands.proofs.Tokens.{AreGood, kind_small, tokens_good}
use Rattle.polis_base.proofs.Bools.{and_first, and_second}

-- ---- what a part of good tokens says
before : {ts : List Lexeme} (x y : List Lexeme) → ts ≡ x ++ y → AreGood ts → AreGood x
before x y split h = first x y (subst AreGood split h)
  where
    first : (x y : List Lexeme) → AreGood (x ++ y) → AreGood x
    first [] y h = tt
    first (l ∷ x) y h = (h.0, first x y h.1)

after : {ts : List Lexeme} (x y : List Lexeme) → ts ≡ x ++ y → AreGood ts → AreGood y
after x y split h = rest x y (subst AreGood split h)
  where
    rest : (x y : List Lexeme) → AreGood (x ++ y) → AreGood y
    rest [] y h = h
    rest (l ∷ x) y h = rest x y h.1

word_kind : (kind : Kind) (v w : Word) → word_as kind v ≡ Some w → (kind ≡ kinds.Name) × (v ≡ w)
word_kind kinds.Name v w h = (refl, cc)
word_kind (kinds.Number n) v w h = cc
word_kind (kinds.Keyword k) v w h = cc
word_kind (kinds.Sign s) v w h = cc

num_kind : (kind : Kind) (at : ℕ) (n : Num) → num_as kind at ≡ Some n
    → kind_small kind ≡ true → nat_le n.number 4294967295 ≡ true
num_kind (kinds.Number k) at n h small =
    let same : ◌≡◌ {A = Num} (record { number = k; at = at }) n = cc in
    subst (λ (m : Num). nat_le m.number 4294967295 ≡ true) same small
num_kind kinds.Name at n h small = cc
num_kind (kinds.Keyword k) at n h small = cc
num_kind (kinds.Sign s) at n h small = cc

abbrev IsNamed : Word → Type 0
IsNamed w = is_name w.name ≡ true

word_named : (w : Word) (ts : List Lexeme) → IsWord w ts → AreGood ts → IsNamed w
word_named w ts h g =
    let l = (subst AreGood h.1 g).0 in
    let kind = word_kind h.0.kind (record { name = h.0.bytes; at = h.0.at }) w h.2 in
    subst IsNamed kind.1 (l.name kind.0)

num_small : (n : Num) (ts : List Lexeme) → IsNum n ts → AreGood ts
    → nat_le n.number 4294967295 ≡ true
num_small n ts h g = let l = (subst AreGood h.1 g).0 in num_kind h.0.kind h.0.at n h.2 l.small

each_holds : {A : Type 0} (P : A → Part) (test : A → Bool)
    → ((a : A) (ts : List Lexeme) → P a ts → AreGood ts → test a ≡ true)
    → (items : List A) (ts : List Lexeme) → Each P items ts → AreGood ts
    → list_all test items ≡ true
each_holds P test one [] ts h g = refl
each_holds P test one (a ∷ rest) ts h g =
    let own = one a h.0 h.3 (before h.0 h.1 h.2 g) in
    let others = each_holds P test one rest h.1 h.4 (after h.0 h.1 h.2 g) in
    λ i. own i && others i

-- ---- declarations
event_named : (e : RawEvent) (ts : List Lexeme) → IsEvent e ts → AreGood ts
    → is_name e.name.name ≡ true
event_named e ts h g =
    let r = h.4 in
    word_named e.name r.0 r.3 (before r.0 r.1 r.2 (after h.0 h.1 h.2 g))

state_named : (s : RawState) (ts : List Lexeme) → IsState s ts → AreGood ts
    → is_name s.name.name ≡ true
state_named s ts h g =
    let r = h.4 in
    word_named s.name r.0 r.3 (before r.0 r.1 r.2 (after h.0 h.1 h.2 g))

abbrev machine_named : RawMachine → Bool
machine_named m =
    is_name m.name.name && list_all (λ (s : RawState). is_name s.name.name) m.states

machine_is : (version : ℕ) (m : RawMachine) (ts : List Lexeme) → IsMachine version m ts
    → AreGood ts → machine_named m ≡ true
machine_is version m ts a g =
    let b = a.4 in let c = b.4 in let d = c.4 in let e = d.4 in let f = e.4 in let k = f.4 in
    let o = k.4 in let s = o.4 in
    let gb = after a.0 a.1 a.2 g in let gc = after b.0 b.1 b.2 gb in
    let gd = after c.0 c.1 c.2 gc in let ge = after d.0 d.1 d.2 gd in
    let gf = after e.0 e.1 e.2 ge in let gk = after f.0 f.1 f.2 gf in
    let go = after k.0 k.1 k.2 gk in let gs = after o.0 o.1 o.2 go in
    let own = word_named m.name b.0 b.3 (before b.0 b.1 b.2 gb) in
    let states = each_holds IsState (λ (t : RawState). is_name t.name.name) state_named m.states
    s.0 s.3 (before s.0 s.1 s.2 gs) in
    λ i. own i && states i

-- the names of a list with commas
rest_named : (words : List Word) (ts : List Lexeme)
    → Each (λ (w : Word). Sign Comma ⨾ IsWord w) words ts → AreGood ts
    → list_all is_name (names_of words) ≡ true
rest_named [] ts h g = refl
rest_named (w ∷ words) ts h g =
    let p = h.3 in
    let own = word_named w p.1 p.4 (after p.0 p.1 p.2 (before h.0 h.1 h.2 g)) in
    let others = rest_named words h.1 h.4 (after h.0 h.1 h.2 g) in
    λ i. own i && others i

all_named : (words : List Word) (ts : List Lexeme) → Listed IsWord words ts → AreGood ts
    → list_all is_name (names_of words) ≡ true
all_named [] ts h g = absurd h
all_named (w ∷ words) ts h g =
    let own = word_named w h.0 h.3 (before h.0 h.1 h.2 g) in
    let others = rest_named words h.1 h.4 (after h.0 h.1 h.2 g) in
    λ i. own i && others i

-- the names of a shape are names, and its last number is small
abbrev shape_good : RawShape → Bool
shape_good (shapes.Names words) = list_all is_name (names_of words)
shape_good (shapes.Range first last) = nat_le last.number 4294967295

shape_is : (shape : RawShape) (ts : List Lexeme) → IsShape shape ts → AreGood ts
    → shape_good shape ≡ true
shape_is (shapes.Names words) ts h g =
    let r = h.4 in all_named words r.0 r.3 (before r.0 r.1 r.2 (after h.0 h.1 h.2 g))
shape_is (shapes.Range first last) ts h g =
    let r = h.4 in num_small last r.1 r.4 (after r.0 r.1 r.2 (after h.0 h.1 h.2 g))

domain_is : (d : RawDomain) (ts : List Lexeme) → IsDomain d ts → AreGood ts
    → shape_good d.shape ≡ true
domain_is d ts a g =
    let b = a.4 in let c = b.4 in
    let gb = after a.0 a.1 a.2 g in let gc = after b.0 b.1 b.2 gb in
    shape_is d.shape c.1 c.4 (after c.0 c.1 c.2 gc)

-- ---- the network
small_last : (n k : ℕ) → nat_le n 4294967295 ≡ true → k ≡ n → nat_lt k (2 ^ 32) ≡ true
small_last n k h e = grind (arith, h, e)

length_names : (words : List Word) → length (names_of words) ≡ length words
length_names words = length-map words (λ (w : Word). w.name)

domain_holds : (shape : RawShape) (domain : Domain) → IsDomainOf shape domain
    → shape_good shape ≡ true → disorder shape ≡ []
    → (nat_le 1 (count_of shape) && nat_le (count_of shape) 32) ≡ true
    → values_hold domain ≡ true
domain_holds (shapes.Names words) domain is good order count =
    subst (λ (d : Domain). values_hold d ≡ true) (sym is)
    (let names = names_of words in
    let some = ap (λ n. nat_le 1 n) (length_names words)
    ∙ and_first (nat_le 1 (length words)) (nat_le (length words) 32) count in
    let few = ap (λ n. nat_le n 32) (length_names words)
    ∙ and_second (nat_le 1 (length words)) (nat_le (length words) 32) count in
    let distinct = (fresh no_name words order).distinct in
    λ i. some i && few i && distinct i && good i)
domain_holds (shapes.Range first last) domain is good order count =
    subst (λ (d : Domain). values_hold d ≡ true) (sym is.1)
    (small_last last.number is.0.last good is.3)

domains_hold : (ds : List RawDomain) (made : List Domain)
    → AllZip (λ (d : RawDomain). IsDomainOf d.shape) ds made
    → list_all (λ (d : RawDomain). shape_good d.shape) ds ≡ true
    → AtEach (λ (d : RawDomain). disorder d.shape ≡ []) ds → list_all has_count ds ≡ true
    → list_all values_hold made ≡ true
domains_hold [] [] all good order counts = refl
domains_hold [] (domain ∷ made) all good order counts = absurd all
domains_hold (d ∷ ds) [] all good order counts = absurd all
domains_hold (d ∷ ds) (domain ∷ made) all good order counts =
    let own = domain_holds d.shape domain all.0
    (and_first (shape_good d.shape) (list_all (λ (e : RawDomain). shape_good e.shape) ds) good)
    (order zero d refl) (and_first (has_count d) (list_all has_count ds) counts) in
    let others = domains_hold ds made all.1
    (and_second (shape_good d.shape) (list_all (λ (e : RawDomain). shape_good e.shape) ds) good)
    (λ k e at. order (suc k) e at)
    (and_second (has_count d) (list_all has_count ds) counts) in
    λ i. own i && others i

events_hold : (raw : RawNet) (events : List RawEvent)
    → list_all (λ (e : RawEvent). is_name e.name.name) events ≡ true
    → list_all has_name_token (map (event_of raw) events) ≡ true
events_hold raw [] h = refl
events_hold raw (e ∷ events) h =
    let own = and_first (is_name e.name.name)
    (list_all (λ (x : RawEvent). is_name x.name.name) events) h in
    let others = events_hold raw events (and_second (is_name e.name.name)
    (list_all (λ (x : RawEvent). is_name x.name.name) events) h) in
    λ i. own i && others i

states_hold : (raw : RawNet) (states : List RawState)
    → list_all (λ (s : RawState). is_name s.name.name) states ≡ true
    → list_all state_has_name (map (state_of raw) states) ≡ true
states_hold raw [] h = refl
states_hold raw (s ∷ states) h =
    let own = and_first (is_name s.name.name)
    (list_all (λ (x : RawState). is_name x.name.name) states) h in
    let others = states_hold raw states (and_second (is_name s.name.name)
    (list_all (λ (x : RawState). is_name x.name.name) states) h) in
    λ i. own i && others i

machines_hold : (raw : RawNet) (rs : List RawMachine) (ms : List Machine)
    → AllZip (IsMachineOf raw) rs ms → list_all machine_named rs ≡ true
    → list_all machine_holds ms ≡ true
machines_hold raw [] [] all h = refl
machines_hold raw [] (m ∷ ms) all h = absurd all
machines_hold raw (r ∷ rs) [] all h = absurd all
machines_hold raw (r ∷ rs) (m ∷ ms) all h =
    let named = and_first (machine_named r) (list_all machine_named rs) h in
    let states = list_all (λ (s : RawState). is_name s.name.name) r.states in
    let name = ap is_name all.0.name ∙ and_first (is_name r.name.name) states named in
    let kept = ap (list_all state_has_name) all.0.states
    ∙ states_hold raw r.states (and_second (is_name r.name.name) states named) in
    let others = machines_hold raw rs ms all.1
    (and_second (machine_named r) (list_all machine_named rs) h) in
    λ i. (name i && kept i) && others i

pub names_hold_accepted : (text : List ℕ) (net : Network) → Accepted text net
    → names_hold net ≡ true
names_hold_accepted text net accepted =
    let raw = accepted.0.0 in
    let has = accepted.0.1 in
    let none = accepted.0.2.0 in
    let made = accepted.0.2.1 in
    let ts = lexemes text has.tokens in
    let a = has.sentence in
    let b = a.4 in let c = b.4 in let d = c.4 in let e = d.4 in let f = e.4 in
    let ga = tokens_good text has.tokens has.read in
    let gb = after a.0 a.1 a.2 ga in let gc = after b.0 b.1 b.2 gb in
    let gd = after c.0 c.1 c.2 gc in let ge = after d.0 d.1 d.2 gd in
    let gf = after e.0 e.1 e.2 ge in
    let lawful = sound raw none (sentences_have_values raw (ts, has.sentence)) in
    let domains = domains_hold raw.domains net.domains made.domains
    (each_holds IsDomain (λ (x : RawDomain). shape_good x.shape) domain_is raw.domains e.0 e.3
    (before e.0 e.1 e.2 ge)) lawful.order lawful.counts in
    let events = ap (list_all has_name_token) made.events
    ∙ events_hold raw raw.events
    (each_holds IsEvent (λ (x : RawEvent). is_name x.name.name) event_named raw.events f.0 f.3
    (before f.0 f.1 f.2 gf)) in
    let machines = machines_hold raw raw.machines net.machines made.machines
    (one_and raw.version.number raw.machines f.1 f.4 (after f.0 f.1 f.2 gf)) in
    λ i. events i && machines i && domains i
  where
    one_and : (version : ℕ) (machines : List RawMachine) (ts : List Lexeme)
        → OneAnd (IsMachine version) (IsMachine version) machines ts → AreGood ts
        → list_all machine_named machines ≡ true
    one_and version [] ts h g = absurd h
    one_and version (m ∷ machines) ts h g =
        let own = machine_is version m h.0 h.3 (before h.0 h.1 h.2 g) in
        let others = each_holds (IsMachine version) machine_named (machine_is version) machines h.1
        h.4 (after h.0 h.1 h.2 g) in
        λ i. own i && others i
