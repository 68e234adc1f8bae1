use Rattle.std.proofs.Common.{◌≡◌, ◌∙◌, [], length, map, sym, ap}
use Rattle.std.proofs.lemmas.List.{length-map, nil_from_length}
use Rattle.redodb_commands.specs.Support.Meaning.{item_at}
use Rattle.redodb_io.specs.Watched.{inner_of}
use Rattle.redodb_run.specs.Files.{bytes_of_files, failed_files}
use Rattle.redodb_run.specs.Support.Files.{scripts_at}
use Rattle.redodb_run.proofs.Accepted.{IsRunCause-sessions, AreAccepted-length}
use Rattle.redodb_run.proofs.RunTexts.{runs_as}
use Rattle.redodb_run.proofs.texts.text_of_files.Goals as goal

pub returns : goal.returns
returns g c =
    let names = c.read_files.new.names in
    let files = bytes_of_files g.R.Read.remaining c.args.files.now in
    let scripts = c.in_ok-scripts.scripts.items in
    let are = c.in_ok-scripts.ensures.accepted in
    let told = c.text_of_scripts.ensures in
    let long : length c.args.files.now ≡ length scripts =
    sym (length-map c.args.files.now (λ file. g.R.Read.remaining (inner_of file)))
    ∙ AreAccepted-length [] files (scripts_at names scripts) names are
    ∙ length-map scripts (λ script. map (item_at names) script) in
    record {
      text = runs_as c.text_of_scripts.result files scripts names are told.text told.few
          told.none.1;
      cause = IsRunCause-sessions c.text_of_scripts.result files
          (failed_files c.args.files.now c.read_files.new.files)
          (scripts_at names scripts) names are
          (λ is. rw length-map (told.many.0 is))
          (λ is. ap (scripts_at names) (nil_from_length scripts (told.none.0 is)))
          told.others;
      none = λ empty. told.none.1 (sym long ∙ ap length empty);
      others = λ quiet. c.in_ok-scripts.ensures.others (λ no. no);
    }
