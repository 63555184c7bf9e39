use Rattle.std.proofs.Common.{◌≡◌, ◌<◌, ◌≤◌, ℕ, [], List, take, length, flat_map, drop, get_or, set, sym, ap, subst, ◌∙◌, arith}
use Rattle.std.proofs.lemmas.List.{length-set}
use Rattle.journals.specs.Journals.{IsJournal}
use Rattle.net_core.specs.inner.Clocks.{firings_of, left, cursor_at, IsCursor}
use Rattle.net_core.specs.declared.clocks.Cursor.{Cursor}
use Rattle.journals.specs.Stamps.{greatest, once_each}
use Rattle.net_core.proofs.ClocksAfter.{firings_fit, cursors_with, columns_kept}
use Rattle.journals.proofs.MomentsAfter.{length_table, get_or_table}
use Rattle.net_core.proofs.clocks.Clocks.owed.Goals as goal
use Rattle.journals.specs.declared.stamped.Stamped.{Stamped}
use Rattle.journals.specs.Logs.{entries}

pub get-requires : goal.get-requires
get-requires c =
    let h = c.requires.has.1 in
    let size = ap length h.firings_are
    ∙ length_table (firings_of c.requires.has.0) (length c.args.net.now.machines) in
    let below = c.requires.sender in
    omega arith

pub first_owed-stamp-requires-clause-fits : goal.first_owed-stamp-requires-clause-fits
first_owed-stamp-requires-clause-fits c =
    let net = c.args.net.now in
    let done = c.requires.has.0 in
    let is = c.get.ensures ∙ ap (λ (l : List (List Stamped)). get_or l c.args.s [])
    c.requires.has.1.firings_are ∙ get_or_table (firings_of done) (length net.machines) c.args.s
    [] c.requires.sender in
    subst (λ (l : List Stamped). IsJournal net (entries l)) (sym is)
    (firings_fit net c.args.s done c.requires.has.1.fitting)

pub first_owed-stamp-requires-clause-within : goal.first_owed-stamp-requires-clause-within
first_owed-stamp-requires-clause-within c =
    let net = c.args.net.now in
    let done = c.requires.has.0 in
    let is = c.get.ensures ∙ ap (λ (l : List (List Stamped)). get_or l c.args.s [])
    c.requires.has.1.firings_are ∙ get_or_table (firings_of done) (length net.machines) c.args.s
    [] c.requires.sender in
    let old = (c.requires.has.1.cursors_are c.args.s c.args.m c.requires.sender
    c.requires.receiver).within in
    rw (is, c.get-cursor.ensures) old

pub returns-clause-stamp : goal.returns-clause-stamp
returns-clause-stamp c = λ done h.
    let net = c.args.net.now in
    let is = c.get.ensures ∙ ap (λ (l : List (List Stamped)). get_or l c.args.s []) h.firings_are
    ∙ get_or_table (firings_of done) (length net.machines) c.args.s [] c.requires.sender in
    c.first_owed-stamp.ensures.stamp
    ∙ ap (λ (l : List Stamped). greatest (take 1 (left net c.args.m l c.get-cursor.result))) is
    ∙ ap (λ cursor. greatest (take 1 (left net c.args.m (firings_of done c.args.s) cursor)))
    c.get-cursor.ensures
    ∙ ap (λ (l : List ℕ). greatest (take 1 l))
    (h.cursors_are c.args.s c.args.m c.requires.sender c.requires.receiver).left_is

pub returns-clause-same : goal.returns-clause-same
returns-clause-same c = λ done h.
    let net = c.args.net.now in
    let s = c.args.s in
    let m = c.args.m in
    let own : List Stamped = firings_of done s in
    let cursors = c.args.self.now.cursors in
    let is : c.get.result.now ≡ own = c.get.ensures
    ∙ ap (λ (l : List (List Stamped)). get_or l s []) h.firings_are
    ∙ get_or_table (firings_of done) (length net.machines) s [] c.requires.sender in
    let old = h.cursors_are s m c.requires.sender c.requires.receiver in
    let old_given : c.get-cursor.result.taken
    ≤ length (flat_map (once_each net m) (drop c.get-cursor.result.firing c.get.result.now)) =
    rw (is, c.get-cursor.ensures) old.given in
    let few = old.few in
    let fewer = c.first_owed-stamp.ensures.few in
    let was = ap (λ cursor. cursor.taken) c.get-cursor.ensures in
    let new = c.first_owed-stamp.new.cursor in
    let rows = h.rows in
    let sender = c.requires.sender in
    let receiver = c.requires.receiver in
    let columns = h.columns s sender in
    let row : s < length cursors = omega arith in
    let column : m < length (get_or cursors s []) = omega arith in
    record {
      fitting = h.fitting;
      clocks_are = h.clocks_are;
      firings_are = h.firings_are;
      rows = ap length c.set.ensures ∙ length-set cursors s (set (get_or cursors s []) m new)
          ∙ h.rows;
      columns = λ j inside. ap (λ (l : List (List Cursor)). length (get_or l j [])) c.set.ensures
          ∙ columns_kept cursors s m j (length net.machines) new row (h.columns j inside);
      cursors_are = λ j k inside within.
          subst (λ (l : List (List Cursor)). IsCursor net done j k (cursor_at l j k))
          (sym c.set.ensures)
          (cursors_with net (length net.machines) done done cursors s m new row column
          (record {
            within = subst (λ (l : List Stamped). new.firing ≤ length l) is
                c.first_owed-stamp.ensures.within;
            given = subst (λ (l : List Stamped). new.taken
                ≤ length (flat_map (once_each net m) (drop new.firing l))) is
                (c.first_owed-stamp.ensures.given old_given);
            few = omega arith;
            left_is = sym (ap (λ (l : List Stamped). left net m l new) is)
                ∙ c.first_owed-stamp.ensures.left ∙ ap
                (λ (l : List Stamped). left net m l c.get-cursor.result) is
                ∙ ap (left net m own) c.get-cursor.ensures ∙ old.left_is;
          })
          (λ i l other g. g) h.cursors_are j k inside within);
    }
