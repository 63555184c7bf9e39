-- The moves that the members of a set stand for.
use Rattle.std.proofs.Common.{◌≡◌, ℕ, ◌<◌, Bool, true, false, List, [], ◌∷◌, map, filter, filter_map, length, slice_get, Option, Some, None, option_map, unwrap_or, refl, sym, ap, ◌∙◌, subst, inl, inr}
use Rattle.std.specs.Prelude.{is_some}
use Rattle.std.specs.List.{Contains}
use Rattle.std.proofs.lemmas.List.{length-map}
use Rattle.std.proofs.lemmas.Option.{slice_get-map}
use Rattle.polis_base.proofs.Members.{first_or_later, here, in_at, none_in_empty, of_filter, of_upto, there}
use Rattle.transition_table.specs.declared.network.Network.{Network}
use Rattle.journals.specs.declared.entry.Pick.{Pick}
use Rattle.journals.specs.declared.entry.Pick.TheVariants.{Stop}
use Rattle.run_shuffle.specs.Moves.{machines_of}
use Rattle.run_shuffle.specs.Shuffles.{move_at}
use Rattle.run_shuffle.specs.inner.Ways.{Gives, IsSetOf}
use Rattle.polis_base.specs.Sets.{members}
use Rattle.run_shuffle.proofs.MembersOfSets.{members_are, no_members}

-- a function gives nothing of what is left out
given_of_passing : {Y : Type 0} (f : ℕ → Option Y) (p : ℕ → Bool) (xs : List ℕ)
    → ((x : ℕ) → p x ≡ is_some (f x)) → filter_map f (filter p xs) ≡ filter_map f xs
given_of_passing f p [] same = refl
given_of_passing {Y} f p (x ∷ xs) same =
    cases (f x) refl (given_of_passing f p xs same)
  where
    cases : (o : Option Y) → f x ≡ o → filter_map f (filter p xs) ≡ filter_map f xs
        → filter_map f (filter p (x ∷ xs)) ≡ filter_map f (x ∷ xs)
    cases None is rest =
        let out : p x ≡ false = same x ∙ ap is_some is in
        rw out (rw is rest)
    cases (Some y) is rest =
        let in_it : p x ≡ true = same x ∙ ap is_some is in
        rw in_it (rw is (ap (λ l. y ∷ l) rest))

-- where it gives something of each, these in order
given_each : {Y : Type 0} (f : ℕ → Option Y) (xs : List ℕ)
    → ((x : ℕ) → Contains xs x → is_some (f x) ≡ true) → map f xs ≡ map Some (filter_map f xs)
given_each f [] some = refl
given_each {Y} f (x ∷ xs) some =
    cases (f x) refl (some x (here x xs))
    (given_each f xs (λ y later. some y (there x xs y later)))
  where
    cases : (o : Option Y) → f x ≡ o → is_some (f x) ≡ true
        → map f xs ≡ map Some (filter_map f xs)
        → map f (x ∷ xs) ≡ map Some (filter_map f (x ∷ xs))
    cases None is gives rest = absurd (let none : is_some (f x) ≡ false = ap is_some is in cc)
    cases (Some y) is gives rest = rw is (ap (λ l. Some y ∷ l) rest)

-- the moves of the machines that pass, each of which has one
pub gives_passing : (net : Network) (f : ℕ → Option Pick) (p : ℕ → Bool) (set : ℕ)
    → IsSetOf (length net.machines) p set
    → ((m : ℕ) → m < length net.machines → p m ≡ true → is_some (f m) ≡ true)
    → Gives net f set (filter_map f (filter p (machines_of net)))
gives_passing net f p set is some =
    let are = members_are (length net.machines) p set net.few_machines is in
    record {
      below = λ m member.
          of_upto (length net.machines) m
          (of_filter p (machines_of net) m (subst (λ l. Contains l m) are member)).0;
      gives =
          ap (map f) are
          ∙ given_each f (filter p (machines_of net)) (λ m member.
          let (inside, passes) = of_filter p (machines_of net) m member in
          some m (of_upto (length net.machines) m inside) passes);
    }

-- the moves of all machines that have one
pub gives_all : (net : Network) (f : ℕ → Option Pick) (p : ℕ → Bool) (set : ℕ)
    → IsSetOf (length net.machines) p set → ((m : ℕ) → p m ≡ is_some (f m))
    → Gives net f set (filter_map f (machines_of net))
gives_all net f p set is same =
    subst (λ l. Gives net f set l) (given_of_passing f p (machines_of net) same)
    (gives_passing net f p set is (λ m below passes. sym (same m) ∙ passes))

pub gives_none : (net : Network) (f : ℕ → Option Pick) → Gives net f 0 []
gives_none net f =
    record {
      below = λ m member. absurd (none_in_empty m (subst (λ l. Contains l m) no_members member));
      gives = ap (map f) no_members;
    }

pub gives_one : (net : Network) (f : ℕ → Option Pick) (set m : ℕ) (move : Pick)
    → m < length net.machines → members set ≡ m ∷ [] → f m ≡ Some move
    → Gives net f set (move ∷ [])
gives_one net f set m move below only is =
    record {
      below = λ k member.
          one k (subst (λ l. Contains l k) only member);
      gives = ap (map f) only ∙ ap (λ (o : Option Pick). o ∷ []) is;
    }
  where
    one : (k : ℕ) → Contains (m ∷ []) k → k < length net.machines
    one k member = elim (first_or_later m [] k member) [
      | inl same ↦ subst (λ j. j < length net.machines) same below
      | inr none ↦ absurd (none_in_empty k none)
    ]

-- there are as many as members
pub gives_many : (net : Network) (f : ℕ → Option Pick) (set : ℕ) (moves : List Pick)
    → Gives net f set moves → length (members set) ≡ length moves
gives_many net f set moves is =
    sym (length-map (members set) f) ∙ ap length is.gives ∙ length-map moves Some

some_is : (o : Option Pick) (p : Option Pick) → option_map Some o ≡ Some p
    → unwrap_or p Stop ≡ unwrap_or o Stop
some_is None p none = cc
some_is (Some move) p is =
    let same : Some move ≡ p = cc in ap (λ (o : Option Pick). unwrap_or o Stop) (sym same)

-- and that of the member of a number is the move of this number
pub gives_at : (net : Network) (f : ℕ → Option Pick) (set : ℕ) (moves : List Pick) (k m : ℕ)
    → Gives net f set moves → slice_get (members set) k ≡ Some m
    → unwrap_or (f m) Stop ≡ move_at moves k
gives_at net f set moves k m is at =
    some_is (slice_get moves k) (f m)
    (sym (slice_get-map Some moves k) ∙ ap (λ l. slice_get l k) (sym is.gives)
    ∙ slice_get-map f (members set) k ∙ ap (option_map f) at)

-- a member of some number is a machine
pub given_below : (net : Network) (f : ℕ → Option Pick) (set : ℕ) (moves : List Pick) (k m : ℕ)
    → Gives net f set moves → slice_get (members set) k ≡ Some m
    → m < length net.machines
given_below net f set moves k m is at = is.below m (in_at (members set) k m at)
