-- What the reader's forms stand for.
use Rattle.std.specs.Prelude.{⊤}
use Rattle.journal_text.specs.Forms.{EntryForm, DepForm, FireForm, IdleForm}
use Rattle.journal_text.specs.Cursors.{items_in, AreLists}
use Rattle.journal_text.specs.Reading.{Said, More, Last}
use Rattle.journal_text.specs.declared.form.Form.{Form}
use Rattle.journal_text.specs.declared.form.Form.TheVariants.{Delivery, Firing, Try}
use Rattle.journal_text.specs.declared.line.Content.{Content}
use Rattle.journal_text.specs.declared.line.Content.TheVariants.{More as MoreContent, Last as LastContent}

-- the form, with the items of its lists
abbrev pub as_form : Form → EntryForm
as_form (Delivery from to event) = DepForm from.now to.now event.now
as_form (Firing machine seen given) =
    FireForm machine.now (items_in seen.0.now, items_in seen.1.now)
    (items_in given.0.now, items_in given.1.now)
as_form (Try machine seen) = IdleForm machine.now (items_in seen.0.now, items_in seen.1.now)

-- what stands for lists are lists
abbrev pub HasLists : Form → Type 0
HasLists (Delivery from to event) = ⊤
HasLists (Firing machine seen given) =
    AreLists seen.0.now seen.1.now × AreLists given.0.now given.1.now
HasLists (Try machine seen) = AreLists seen.0.now seen.1.now

-- what a line says that isn't at fault
abbrev pub as_said : Content → Said
as_said (MoreContent stamp entry) = More (stamp, entry)
as_said (LastContent complete) = Last complete
