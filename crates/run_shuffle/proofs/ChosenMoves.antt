-- The move of a number that is low enough is one of those that are offered.
use Rattle.std.proofs.Common.{◌≡◌, ℕ, zero, suc, ◌+◌, ◌-◌, ◌*◌, ◌/◌, ◌^◌, ◌<◌, ◌≤◌, Bool, true, false, cond, nat_lt, List, ◌++◌, length, Option, unwrap_or, refl, sym, ap, ◌∙◌, subst, inl, inr, arith}
use Rattle.std.specs.List.{Contains}
use Rattle.std.proofs.Math.Nat.{div-lt_iff_lt-mul}
use Rattle.std.proofs.lemmas.Bool.{le-ltb, lt-ltb, ltb-true, ltb-false}
use Rattle.std.proofs.lemmas.List.Elements.{Contains-append_left, Contains-append_right}
use Rattle.std.proofs.lemmas.Option.{slice_get_cases}
use Rattle.journals.specs.declared.entry.Pick.{Pick}
use Rattle.journals.specs.declared.entry.Pick.TheVariants.{Stop}
use Rattle.run_shuffle.specs.Shuffles.{chosen, move_at}
use Rattle.polis_base.specs.Draws.{draw}
use Rattle.polis_base.proofs.Members.{in_at}

has_at : (moves : List Pick) (k : ℕ) → k < length moves → Contains moves (move_at moves k)
has_at moves k below = elim (slice_get_cases moves k).1 [
  | inl (move, within, at, same) ↦
      subst (λ (p : Pick). Contains moves p)
      (sym (ap (λ (o : Option Pick). unwrap_or o Stop) at)) (in_at moves k move at)
  | inr (past, none) ↦ absurd (omega arith)
]

pub chosen_is_one : (env network : List Pick) (pace r : ℕ) → 0 < pace
    → r < length env + pace * length network
    → Contains (env ++ network) (chosen env network pace r)
chosen_is_one env network pace r some below = cases (nat_lt r (length env)) refl
  where
    place : nat_lt r (length env) ≡ false → (r - length env) / pace < length network
    place past =
        let above : length env ≤ r = ltb-false r (length env) past in
        let product : length network * pace ≡ pace * length network = grind arith in
        (div-lt_iff_lt-mul {k = pace} {x = r - length env} {y = length network} some).1
        (omega (arith, above, below, product))

    cases : (b : Bool) → nat_lt r (length env) ≡ b
        → Contains (env ++ network)
        (cond b (move_at env r) (move_at network ((r - length env) / pace)))
    cases true is =
        Contains-append_left env network (move_at env r)
        (has_at env r (ltb-true r (length env) is))
    cases false is =
        Contains-append_right env network (move_at network ((r - length env) / pace))
        (has_at network ((r - length env) / pace) (place is))

-- a power of 2 below the fifth
pub small_power : (k : ℕ) → k < 5 → 2 ^ k ≤ 16
small_power zero low = omega arith
small_power (suc zero) low = omega arith
small_power (suc (suc zero)) low = omega arith
small_power (suc (suc (suc zero))) low = omega arith
small_power (suc (suc (suc (suc zero)))) low = omega arith
small_power (suc (suc (suc (suc (suc k))))) low = absurd (omega arith)

-- ---- by counts

pub chosen_of_env : (env network : List Pick) (pace r many : ℕ) → many ≡ length env → r < many
    → move_at env r ≡ chosen env network pace r
chosen_of_env env network pace r many is below =
    sym
    (ap (λ b. cond b (move_at env r) (move_at network ((r - length env) / pace)))
    (lt-ltb r (length env) (omega (arith, is, below))))

pub chosen_of_network : (env network : List Pick) (pace r many : ℕ) → many ≡ length env → many ≤ r
    → move_at network ((r - many) / pace) ≡ chosen env network pace r
chosen_of_network env network pace r many is past =
    ap (λ k. move_at network ((r - k) / pace)) is
    ∙ sym
    (ap (λ b. cond b (move_at env r) (move_at network ((r - length env) / pace)))
    (le-ltb r (length env) (omega (arith, is, past))))

-- the move of a number that is drawn is drawn, and one of those that are offered
pub drawn_by_counts : (env network : List Pick) (pace x r own many : ℕ) (move : Pick) → 0 < pace
    → own ≡ length env → many ≡ length network → r ≡ draw x (own + pace * many)
    → r < own + pace * many → move ≡ chosen env network pace r
    → (move ≡ chosen env network pace (draw x (length env + pace * length network)))
    × Contains (env ++ network) move
drawn_by_counts env network pace x r own many move some own_is many_is answer below is =
    let all : own + pace * many ≡ length env + pace * length network =
    ap (λ k. k + pace * many) own_is ∙ ap (λ k. length env + pace * k) many_is in (
      is ∙ ap (chosen env network pace) (answer ∙ ap (draw x) all),
      subst (λ (p : Pick). Contains (env ++ network) p) (sym is)
          (chosen_is_one env network pace r some (subst (λ k. r < k) all below)),
    )
