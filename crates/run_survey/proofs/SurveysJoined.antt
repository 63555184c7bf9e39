-- Surveys of some runs and of those after them.
use Rattle.std.proofs.Common.{◌≡◌, ℕ, ◌+◌, ◌<◌, ◌≤◌, ◌^◌, cond, nat_lt, List, [], ◌∷◌, ◌++◌, map, length, take, drop, count_by, slice_get, slice_index, sum_by, Option, Some, None, IfSome, refl, sym, ap, subst, ◌∙◌, append-nil, arith}
use Rattle.std.proofs.lemmas.List.{length-append, length-map, map-append, take-append-drop, take-map}
use Rattle.std.proofs.lemmas.List.Sums.{count_by-le-length, sum_by-append}
use Rattle.transition_table.specs.declared.network.Network.{Network}
use Rattle.run_watch.specs.WatchLines.{IsShown}
use Rattle.run_watch.specs.declared.answer.Watched.TheVariants.{Found}
use Rattle.run_survey.specs.declared.figures.Figures.{Figures}
use Rattle.run_survey.specs.declared.told.FoundRuns.{FoundRuns}
use Rattle.run_survey.specs.declared.told.Kind.{Kind}
use Rattle.run_survey.specs.declared.told.Others.{Others}
use Rattle.run_survey.specs.declared.told.Spread.{Spread}
use Rattle.run_survey.specs.declared.told.Survey.{Survey}
use Rattle.run_survey.specs.Joins.{KeepsShape, TellsBoth}
use Rattle.run_survey.specs.Kinds.{kind_of, most_kinds, new_texts}
use Rattle.run_survey.specs.Spreads.{AreSpreads, column}
use Rattle.run_survey.specs.Surveys.{AreAlike, IsOfRuns, IsSurvey, texts_of}
use Rattle.run_survey.specs.inner.Joining.{AreJoined, HaveRoom}
use Rattle.run_survey.specs.inner.Merging.{AreTold, all_kinds, all_merged, count_of, gathered, run_count}
use Rattle.run_survey.specs.inner.Watching.{found_joined, others_joined}
use Rattle.run_survey.proofs.MergedKinds.{joined_kinds}
use Rattle.run_survey.proofs.OtherTexts.{kinds_count, others_gathered}
use Rattle.run_survey.proofs.SaidOfRuns.{found_of_all, unfinished_of_all}
use Rattle.run_survey.proofs.SpreadsJoined.{joined_spreads}
use Rattle.run_survey.proofs.ToldApart.{count_told}

-- ---- what a survey tells

pub told_of : (first : ℕ) (xs : List Figures) (s : Survey) → IsSurvey first xs s
    → AreTold most_kinds (all_kinds first (texts_of xs)) s.kinds.items s.others
told_of first xs s is =
    let texts = texts_of xs in
    record {
      apart =
          is.kinds ∙ sym (take-map (kind_of first texts) most_kinds (new_texts texts));
      rest = is.others ∙ others_gathered most_kinds first texts;
    }

pub of_told : (first : ℕ) (texts : List (List ℕ)) (kinds : List Kind) (others : Option Others)
    → AreTold most_kinds (all_kinds first texts) kinds others
    → kinds ≡ map (kind_of first texts) (take most_kinds (new_texts texts))
of_told first texts kinds others told =
    told.apart ∙ take-map (kind_of first texts) most_kinds (new_texts texts)

none_left : (kinds : List Kind) → gathered kinds ≡ None → kinds ≡ []
none_left [] none = refl
none_left (k ∷ kinds) none = cc

-- where there are no others all kinds are told
all_told : (all kinds : List Kind) (others : Option Others) → AreTold most_kinds all kinds others
    → others ≡ None → kinds ≡ all
all_told all kinds others told none =
    let empty = none_left (drop most_kinds all) (sym told.rest ∙ none) in
    told.apart
    ∙ sym (append-nil (take most_kinds all))
    ∙ ap (λ (l : List Kind). take most_kinds all ++ l) (sym empty)
    ∙ take-append-drop most_kinds all

-- ---- no number is above that of the runs

pub complete_below : (s : Survey) → IsOfRuns s → s.complete ≤ s.runs
complete_below s of =
    let is = of.1 in
    let most = count_by-le-length (λ (one : Figures). one.complete) of.0 in
    let complete = is.complete in
    let runs = is.runs in
    omega arith

pub kinds_below : (s : Survey) → IsOfRuns s → run_count s.kinds.items s.others ≤ s.runs
kinds_below s of =
    let is = of.1 in
    let texts = texts_of of.0 in
    let sum = count_told most_kinds (all_kinds s.seed texts) s.kinds.items s.others
    (told_of s.seed of.0 s is) in
    let most = kinds_count s.seed texts in
    let size = length-map of.0 (λ (one : Figures). one.outputs) in
    let runs = is.runs in
    omega arith

spread_below : (first : ℕ) (lists : List (List ℕ)) (spreads : List Spread)
    → AreSpreads first lists spreads → (k : ℕ) (s : Spread) → slice_get spreads k ≡ Some s
    → s.runs ≤ length lists
spread_below first lists spreads are k s at =
    let runs : s.runs ≡ count_by (nat_lt 0) (column k lists) =
    ap (λ (t : Spread). t.runs) (are.each k s at) in
    let most = count_by-le-length (nat_lt 0) (column k lists) in
    let size = length-map lists (λ (l : List ℕ). slice_index l k) in
    omega arith

rooms : (field : Figures → List ℕ) (one next : Survey) (a b : List Spread) (xs ys : List Figures)
    → one.runs + next.runs < 2 ^ 64 → one.runs ≡ length xs → next.runs ≡ length ys
    → AreSpreads one.seed (map field xs) a → AreSpreads next.seed (map field ys) b → HaveRoom a b
rooms field one next a b xs ys room many more before after = λ k s t at there.
    let low = spread_below one.seed (map field xs) a before k s at in
    let high = spread_below next.seed (map field ys) b after k t there in
    let size = length-map xs field in
    let long = length-map ys field in
    omega arith

module _ (one next : Survey) (of : IsOfRuns one) (of_next : IsOfRuns next)
    (room : one.runs + next.runs < 2 ^ 64) where
  pub lost_room : HaveRoom one.lost next.lost
  lost_room =
      rooms (λ (f : Figures). f.lost) one next one.lost next.lost of.0 of_next.0 room of.1.runs
      of_next.1.runs of.1.lost of_next.1.lost

  pub unused_room : HaveRoom one.unused next.unused
  unused_room =
      rooms (λ (f : Figures). f.unused) one next one.unused next.unused of.0 of_next.0 room
      of.1.runs of_next.1.runs of.1.unused of_next.1.unused

  pub jammed_room : HaveRoom one.jammed next.jammed
  jammed_room =
      rooms (λ (f : Figures). f.jammed) one next one.jammed next.jammed of.0 of_next.0 room
      of.1.runs of_next.1.runs of.1.jammed of_next.1.jammed

  pub taken_room : HaveRoom one.taken next.taken
  taken_room =
      rooms (λ (f : Figures). f.taken) one next one.taken next.taken of.0 of_next.0 room
      of.1.runs of_next.1.runs of.1.taken of_next.1.taken

  pub kinds_room : run_count one.kinds.items one.others + sum_by count_of next.kinds.items < 2 ^ 64
  kinds_room =
      let low = kinds_below one of in
      let high = kinds_below next of_next in
      omega arith

-- ---- the survey of all

-- what joining leaves
pub record IsJoined (one next new : Survey) : Type 0 where
  pub seed : new.seed ≡ one.seed
  pub runs : new.runs ≡ one.runs + next.runs
  pub complete : new.complete ≡ one.complete + next.complete
  pub found : new.found ≡ found_joined one.found next.found
  pub unfinished : new.unfinished ≡ others_joined one.unfinished next.unfinished
  pub lost : AreJoined one.lost next.lost new.lost
  pub unused : AreJoined one.unused next.unused new.unused
  pub jammed : AreJoined one.jammed next.jammed new.jammed
  pub taken : AreJoined one.taken next.taken new.taken
  pub kinds : (all : List Kind) → AreTold most_kinds all one.kinds.items one.others
      → AreTold most_kinds (all_merged all next.kinds.items) new.kinds.items new.others

spreads_of_all : (field : Figures → List ℕ) (first : ℕ) (xs ys : List Figures)
    (one next new : List Spread) → 0 < length xs → 0 < length ys → length one ≡ length next
    → AreJoined one next new → AreSpreads first (map field xs) one
    → AreSpreads (first + length xs) (map field ys) next
    → AreSpreads first (map field (xs ++ ys)) new
spreads_of_all field first xs ys one next new some other alike joins before after =
    let size = length-map xs field in
    let long = length-map ys field in
    subst (λ (l : List (List ℕ)). AreSpreads first l new) (sym (map-append field xs ys))
    (joined_spreads first (map field xs) (map field ys) one next new (omega arith) (omega arith)
    alike joins before
    (subst (λ (n : ℕ). AreSpreads (first + n) (map field ys) next) (sym size) after))

kinds_of_all : (first : ℕ) (xs ys : List Figures) (one next new : Survey) → next.others ≡ None
    → IsJoined one next new → IsSurvey first xs one → IsSurvey (first + length xs) ys next
    → AreTold most_kinds (all_kinds first (texts_of (xs ++ ys))) new.kinds.items new.others
kinds_of_all first xs ys one next new none joins before after =
    let texts = texts_of xs in
    let more = texts_of ys in
    let size = length-map xs (λ (f : Figures). f.outputs) in
    let rest = all_told (all_kinds (first + length xs) more) next.kinds.items next.others
    (told_of (first + length xs) ys next after) none in
    let all : all_merged (all_kinds first texts) next.kinds.items
    ≡ all_kinds first (texts_of (xs ++ ys)) =
    ap (all_merged (all_kinds first texts)) rest
    ∙ ap (λ (n : ℕ). all_merged (all_kinds first texts) (all_kinds (first + n) more)) (sym size)
    ∙ joined_kinds first texts more
    ∙ ap (all_kinds first) (sym (map-append (λ (f : Figures). f.outputs) xs ys)) in
    subst (λ (l : List Kind). AreTold most_kinds l new.kinds.items new.others) all
    (joins.kinds (all_kinds first texts) (told_of first xs one before))

pub tells_both : (one next new : Survey) → AreAlike one next → next.others ≡ None
    → IsJoined one next new → TellsBoth one next new
tells_both one next new alike none joins first xs ys before after =
    let some = before.some in
    let other = after.some in
    let many = length-append xs ys in
    let told = kinds_of_all first xs ys one next new none joins before after in
    let texts = texts_of (xs ++ ys) in
    record {
      some = omega arith;
      seed = joins.seed ∙ before.seed;
      runs =
          (let all = joins.runs in
          let one_is = before.runs in
          let next_is = after.runs in
          omega arith);
      complete =
          (let all = joins.complete in
          let one_is = before.complete in
          let next_is = after.complete in
          let both : count_by (λ (f : Figures). f.complete) (xs ++ ys)
          ≡ count_by (λ (f : Figures). f.complete) xs
          + count_by (λ (f : Figures). f.complete) ys =
          sum_by-append (λ (f : Figures). cond f.complete 1 0) xs ys in
          omega arith);
      kinds = of_told first texts new.kinds.items new.others told;
      others = told.rest ∙ sym (others_gathered most_kinds first texts);
      found =
          found_of_all first xs ys one.found next.found new.found joins.found before.found
          after.found;
      unfinished =
          unfinished_of_all first xs ys one.unfinished next.unfinished new.unfinished
          joins.unfinished before.unfinished after.unfinished;
      lost = spreads_of_all (λ (f : Figures). f.lost) first xs ys one.lost next.lost new.lost some
          other alike.lost joins.lost before.lost after.lost;
      unused = spreads_of_all (λ (f : Figures). f.unused) first xs ys one.unused next.unused
          new.unused some other alike.unused joins.unused before.unused after.unused;
      jammed = spreads_of_all (λ (f : Figures). f.jammed) first xs ys one.jammed next.jammed
          new.jammed some other alike.jammed joins.jammed before.jammed after.jammed;
      taken = spreads_of_all (λ (f : Figures). f.taken) first xs ys one.taken next.taken new.taken
          some other alike.taken joins.taken before.taken after.taken;
    }

-- ---- its shape

found_shown : (m : Network) (one next : Option FoundRuns)
    → IfSome one (λ f. IsShown m (Found f.complaint))
    → IfSome next (λ f. IsShown m (Found f.complaint))
    → IfSome (found_joined one next) (λ f. IsShown m (Found f.complaint))
found_shown m None next here more = more
found_shown m (Some found) next here more = here

complaint_shown : (monitor : Option Network) (one next new : Survey) → IsJoined one next new
    → IfSome monitor (λ m. IfSome one.found (λ f. IsShown m (Found f.complaint)))
    → IfSome monitor (λ m. IfSome next.found (λ f. IsShown m (Found f.complaint)))
    → IfSome monitor (λ m. IfSome new.found (λ f. IsShown m (Found f.complaint)))
complaint_shown None one next new joins here more = tt
complaint_shown (Some m) one next new joins here more =
    subst (λ (o : Option FoundRuns). IfSome o (λ f. IsShown m (Found f.complaint)))
    (sym joins.found)
    (found_shown m one.found next.found here more)

pub keeps_shape : (one next new : Survey) → IsJoined one next new → KeepsShape one next new
keeps_shape one next new joins net monitor here more = record {
  lost = joins.lost.long ∙ here.lost;
  unused = joins.unused.long ∙ here.unused;
  jammed = joins.jammed.long ∙ here.jammed;
  taken = joins.taken.long ∙ here.taken;
  shown = complaint_shown monitor one next new joins here.shown more.shown;
}
