-- What follows the word of a command, and the command that it gives.
use Rattle.std.specs.Prelude.{List, ℕ}
use Rattle.redodb_model.specs.Names.{Text}
use Rattle.redodb_model.specs.Command.{Command, Gone, Lock, Unlock, Start, IfChange, IfCreate, Always, Failed, Ood, Targets, Sources}
use Rattle.redodb_text.specs.declared.form.Bare.{Bare}
use Rattle.redodb_text.specs.declared.form.Bare.TheVariants as bare
use Rattle.redodb_text.specs.declared.form.Form.{Form}
use Rattle.redodb_text.specs.declared.form.Form.TheVariants as forms
use Rattle.redodb_text.specs.declared.form.Listing.{Listing}
use Rattle.redodb_text.specs.declared.form.Listing.TheVariants as listings
use Rattle.redodb_text.specs.declared.form.OneName.{OneName}
use Rattle.redodb_text.specs.declared.form.OneName.TheVariants as one
use Rattle.redodb_text.specs.Support.Reading.{Reading, one_name_in, names_form_in, no_words_in, file_in, stamp_in, done_in}

-- the command about this name
abbrev pub about_name : OneName → Text → Command Text
about_name one.Gone name = Gone name
about_name one.Lock name = Lock name
about_name one.Unlock name = Unlock name
about_name one.Start name = Start name
about_name one.Always name = Always name
about_name one.Failed name = Failed name

-- the command about this target and these names
abbrev pub about_names : Listing → Text → List Text → Command Text
about_names listings.IfChange target names = IfChange target names
about_names listings.IfCreate target names = IfCreate target names

-- the command without words
abbrev pub about_nothing : Bare → Command Text
about_nothing bare.Ood = Ood
about_nothing bare.Targets = Targets
about_nothing bare.Sources = Sources

-- the reading of the words of a form
abbrev pub words_read : ℕ → Form → List Text → List Text → Reading
words_read most (forms.OneName form) names args = one_name_in most (about_name form) names args
words_read most (forms.Listing form) names args = names_form_in most (about_names form) names args
words_read most (forms.Bare form) names args = no_words_in (about_nothing form) names args
words_read most forms.File names args = file_in most names args
words_read most forms.Stamp names args = stamp_in most names args
words_read most forms.Done names args = done_in most names args
