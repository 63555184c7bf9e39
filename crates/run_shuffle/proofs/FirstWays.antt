-- What is kept beside an empty journal.
use Rattle.std.proofs.Common.{◌≡◌, ℕ, suc, Bool, false, ◌*◌, List, [], ◌∷◌, ◌++◌, length, get_or, replicate, Option, Some, None, refl, sym, ap, ◌∙◌, subst, add-one}
use Rattle.std.specs.List.{sum_by}
use Rattle.std.proofs.Math.Nat.{mul-zero}
use Rattle.std.proofs.lemmas.List.Folds.{sum_by-replicate}
use Rattle.std.proofs.lemmas.List.{get_or-replicate, length-replicate, replicate_more}
use Rattle.transition_table.specs.declared.network.Network.{Network}
use Rattle.journals.specs.declared.entry.Entry.{Entry}
use Rattle.journals.specs.declared.entry.TraceItem.{TraceItem}
use Rattle.journals.specs.Journals.{is_woken}
use Rattle.net_core.specs.Moments.{Moment}
use Rattle.scheduler_gen.specs.Plans.{IsPlanOf}
use Rattle.run_shuffle.specs.Blocks.{block_to}
use Rattle.run_shuffle.specs.Orders.{same_block}
use Rattle.run_shuffle.specs.inner.Blocks.{settles}
use Rattle.run_shuffle.specs.inner.Ways.{AreWays, IsSetOf, blocks_table, env_owes, how_many, is_of_block, owes}
use Rattle.run_shuffle.proofs.BlockTables.{none_begun}
use Rattle.run_shuffle.proofs.MembersOfSets.{no_members, set_none}

of_no_block : (b : Option ℕ) → same_block b None ≡ false
of_no_block None = refl
of_no_block (Some b) = refl

none_yet : (net : Network) (trace : List TraceItem) (plan sends : List ℕ) (env : ℕ)
    (blocks : List ℕ) (begun : List Bool) → IsPlanOf net plan
    → sends ≡ replicate (length net.machines) 0
    → IsSetOf (length net.machines) (env_owes net trace []) env → blocks ≡ blocks_table trace
    → begun ≡ replicate (settles trace) false ++ false ∷ []
    → AreWays (record { net = net; trace = trace; journal = [] })
    (record {
      plan = plan;
      sends = sends;
      owed = 0;
      env = env;
      woken = 0;
      blocks = blocks;
      begun = begun;
      of_block = 0;
      block = None;
    })
none_yet net trace plan sends env blocks begun planned empty sent places marks =
    let n = length net.machines in
    record {
      plan_is = planned;
      long = ap length empty ∙ length-replicate n 0;
      owed_is =
          sym
          (ap (sum_by how_many) empty ∙ sum_by-replicate how_many n 0
          ∙ ap (λ k. n * k) (ap length no_members) ∙ mul-zero n);
      sends_are = λ s below.
          subst (λ set. IsSetOf n (owes net [] s) set)
          (sym (ap (λ l. get_or l s 0) empty ∙ get_or-replicate n s 0 0 below))
          (set_none n (owes net [] s) (λ m. refl));
      env_is = sent;
      woken_is = set_none n (is_woken []) (λ m. refl);
      blocks_are = places;
      begun_are =
          marks ∙ replicate_more (settles trace) false
          ∙ ap (λ k. replicate k false) (add-one (settles trace))
          ∙ none_begun net trace (suc (settles trace));
      of_block_is =
          set_none n (is_of_block net trace [] None) (λ m. of_no_block (block_to net trace [] m));
    }

pub first_ways : (now : Moment) (plan sends : List ℕ) (env : ℕ) (blocks : List ℕ)
    (begun : List Bool) → now.journal ≡ [] → IsPlanOf now.net plan
    → sends ≡ replicate (length now.net.machines) 0
    → IsSetOf (length now.net.machines) (env_owes now.net now.trace now.journal) env
    → blocks ≡ blocks_table now.trace
    → begun ≡ replicate (settles now.trace) false ++ false ∷ []
    → AreWays now
    (record {
      plan = plan;
      sends = sends;
      owed = 0;
      env = env;
      woken = 0;
      blocks = blocks;
      begun = begun;
      of_block = 0;
      block = None;
    })
first_ways now plan sends env blocks begun start planned empty sent places marks =
    subst
    (λ (j : List Entry). AreWays (record { net = now.net; trace = now.trace; journal = j })
    (record {
      plan = plan;
      sends = sends;
      owed = 0;
      env = env;
      woken = 0;
      blocks = blocks;
      begun = begun;
      of_block = 0;
      block = None;
    }))
    (sym start)
    (none_yet now.net now.trace plan sends env blocks begun planned empty
    (subst
    (λ (j : List Entry). IsSetOf (length now.net.machines) (env_owes now.net now.trace j) env)
    start sent) places marks)
