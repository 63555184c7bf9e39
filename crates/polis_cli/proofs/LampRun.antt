-- What a call promises holds of the lamp on one press.
use Rattle.std.proofs.Common.{◌≡◌, ◌≤◌, zero, suc, length, true, List, [], ◌∷◌, Some, refl, ◌∙◌, subst, lit≤, codes, arith}
use Rattle.std.specs.Fmt.{digits}
use Rattle.std.specs.FinMap.{empty, insert, get-insert}
use Rattle.std.proofs.lemmas.Cmp.{nat_list_cmp_total}
use Rattle.polis_base.specs.Lines.{line}
use Rattle.polis_base.specs.Host.{Files}
use Rattle.polis_base.specs.inner.Held.{held_elsewhere}
use Rattle.transition_table.specs.declared.machine.Machine.{Machine}
use Rattle.transition_table.specs.Transitions.{AreDeterministic}
use Rattle.transition_table.specs.Laws.{OneRow}
use Rattle.journals.specs.Samples.{lamp, press, lamp_run}
use Rattle.journals.specs.inner.Samples.{lamp_ctl}
use Rattle.journals.specs.Worked.{IsRun}
use Rattle.polis_words.specs.declared.status.Status.TheVariants.{Done}
use Rattle.polis_words.specs.declared.requests.Request.TheVariants.{Run}
use Rattle.output_files.specs.declared.product.Product.{Product}
use Rattle.commands.specs.declared.run_result.RunResult.{RunResult}
use Rattle.net_reader.specs.Samples.{lamp_text}
use Rattle.task_code.specs.Listings.{Part, ListingText}
use Rattle.machine_compiler.specs.Parts.{AreRightParts}
use Rattle.polis_cli.specs.Samples.{press_text, lamp_journal}
use Rattle.output_files.specs.Saves.{AreHeld}
use Rattle.polis_cli.specs.LampRun.{lamp_words, lamp_asked, files_before, files_after, lamp_shown}
use Rattle.polis_words.specs.RunOptions.{unsaid}
use Rattle.commands.specs.Run.{MakesRun, Compiled, run_product}
use Rattle.polis_cli.specs.Top.{MadeAndWritten}
use Rattle.net_rules.specs.NetOf.{NetOf}

lamp_deterministic : OneRow → AreDeterministic lamp
lamp_deterministic one zero m e = let same : lamp_ctl ≡ m = cc in
    one m (subst (λ (n : Machine). length n.rows ≤ 1) same (lit≤ tt))
lamp_deterministic one (suc k) m e = cc

abbrev lamp_ran : RunResult
lamp_ran = record { journal = lamp_run; complete = true; gathered = 0; adopted = 0 }

abbrev lamp_product : List Part → Product
lamp_product parts = run_product lamp_asked lamp lamp_ran (Compiled parts)

lamp_made : NetOf lamp_text lamp → OneRow → IsRun lamp press lamp_run ((1, 1) ∷ []) 0
    → (parts : List Part) → AreRightParts lamp parts
    → MakesRun lamp_asked files_before (lamp_product parts)
unfolding digits
lamp_made net one run parts right = record {
  net = lamp;
  trace = press;
  holds_net = record {
    text = lamp_text;
    holds = record {
      held = get-insert nat_list_cmp_total (insert empty (codes "net") lamp_text) (codes "trc")
          press_text (codes "net") ∙ get-insert nat_list_cmp_total empty (codes "net") lamp_text
          (codes "net");
      within = lit≤ tt;
    };
    accepted = (net, lamp_deterministic one);
  };
  holds_trace = record {
    text = press_text;
    holds = record {
      held = get-insert nat_list_cmp_total (insert empty (codes "net") lamp_text)
          (codes "trc") press_text (codes "trc");
      within = lit≤ tt;
    };
    read = refl;
  };
  ran = lamp_ran;
  is_ran = record {
    is = record {
      within = lit≤ tt;
      legal = run.legal;
      ends = (λ whole. run.complete, λ whole. refl);
      limited = λ none. cc;
    };
    begins = record {
      gathered_few = lit≤ tt;
      adopted_few = lit≤ tt;
      adopted_first = lit≤ tt;
      alone = λ one. refl;
      enough = λ more. absurd (omega (arith, more));
      follows = run.follows;
    };
  };
  tasks = Compiled parts;
  are_tasks = right;
  made = refl;
}

abbrev after_one : Files
after_one = insert files_before (codes "o.out") (line (codes "light"))

abbrev after_two : Files
after_two = insert after_one (codes "o.jnl") lamp_journal

-- each save is held after all of them
lamp_held : (parts : List Part) → AreHeld (files_after parts) (lamp_product parts).saves
unfolding digits
lamp_held parts = (
  get-insert nat_list_cmp_total after_two (codes "o.lst") (ListingText lamp parts) (codes "o.out")
      ∙ get-insert nat_list_cmp_total after_one (codes "o.jnl") lamp_journal (codes "o.out")
      ∙ get-insert nat_list_cmp_total files_before (codes "o.out") (line (codes "light"))
      (codes "o.out"),
  (
    get-insert nat_list_cmp_total after_two (codes "o.lst") (ListingText lamp parts) (codes "o.jnl")
        ∙ get-insert nat_list_cmp_total after_one (codes "o.jnl") lamp_journal (codes "o.jnl"),
    (
      get-insert nat_list_cmp_total after_two (codes "o.lst") (ListingText lamp parts)
          (codes "o.lst"),
      tt,
    ),
  ),
)

pub lamp_row : NetOf lamp_text lamp → OneRow → IsRun lamp press lamp_run ((1, 1) ∷ []) 0
    → (parts : List Part) → AreRightParts lamp parts
    → MadeAndWritten Done lamp_words files_before (files_after parts) (Some [])
    (Some (lamp_shown parts))
unfolding digits
lamp_row net one run parts right = record {
  request = Run lamp_asked;
  asked = record {
    options = [];
    form = refl;
    net = (lit≤ tt, lit≤ tt);
    trace = (lit≤ tt, lit≤ tt);
    stem = (lit≤ tt, lit≤ tt);
    said = unsaid;
    asks = record { options = []; words_are = refl; say = refl };
    workers = refl;
    limit = refl;
    image = refl;
    draws_nothing = record {
      no_order = refl;
      no_seed = refl;
      no_watch = refl;
      shows_all = record { no_from = refl; no_to = refl };
    };
  };
  product = lamp_product parts;
  made = lamp_made net one run parts right;
  ends = refl;
  saved = lamp_held parts;
  other_names = λ name other. held_elsewhere after_two (codes "o.lst") (ListingText lamp parts) name
      other.1.1.0 ∙ held_elsewhere after_one (codes "o.jnl") lamp_journal name other.1.0
      ∙ held_elsewhere files_before (codes "o.out") (line (codes "light")) name other.0;
  shown = refl;
}
