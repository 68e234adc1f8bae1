use Rattle.std.proofs.Common.{◌≡◌, ◌∙◌, sym, ap, Option, Some, None, arith}
use Rattle.redodb_model.specs.Names.{Text}
use Rattle.redodb_records.specs.Meaning.{target_state_of}
use Rattle.redodb_dump.specs.Dumps.{done_word}
use Rattle.redodb_dump.proofs.DumpCells.{told_cell}
use Rattle.redodb_dump.proofs.DumpWords.{same_number}
use Rattle.redodb_dump.proofs.ReadCells.{build_cut, is_none}
use Rattle.redodb_dump.proofs.ReadWords.{digest_found, done_found, holder_found, state_found}
use Rattle.redodb_dump.proofs.reading.build_of.Goals as goal

pub returns-in_err-builds-clause-only : goal.returns-in_err-builds-clause-only
returns-in_err-builds-clause-only c = λ cell grants holder is file e.
    let words =
    build_cut cell grants holder is c.args.words.now e _ _ _ _ _ _ _ _ _ _ c.cut_at_space.ensures
    c.cut_at_space-2.ensures c.cut_at_space-3.ensures c.cut_at_space-4.ensures
    c.cut_at_space-5.ensures in
    let few = is.form.builds in
    absurd (c.in_err-builds.ensures cell.builds (omega (arith, few)) words.builds)

pub returns-in_err-done-clause-only : goal.returns-in_err-done-clause-only
returns-in_err-done-clause-only c = λ cell grants holder is file e.
    let words =
    build_cut cell grants holder is c.args.words.now e _ _ _ _ _ _ _ _ _ _ c.cut_at_space.ensures
    c.cut_at_space-2.ensures c.cut_at_space-3.ensures c.cut_at_space-4.ensures
    c.cut_at_space-5.ensures in
    is_none (done_found _ c.args.file None c.in_err-done.ensures.same c.in_err-done.ensures.none
    c.in_err-done.ensures.stamp cell.done is.form.done
    (words.done ∙ ap (λ (f : Option Text). done_word f cell.done) (sym file)))

pub returns-in_err-digest-clause-only : goal.returns-in_err-digest-clause-only
returns-in_err-digest-clause-only c = λ cell grants holder is file e.
    let words =
    build_cut cell grants holder is c.args.words.now e _ _ _ _ _ _ _ _ _ _ c.cut_at_space.ensures
    c.cut_at_space-2.ensures c.cut_at_space-3.ensures c.cut_at_space-4.ensures
    c.cut_at_space-5.ensures in
    is_none (digest_found _ None c.in_err-digest.ensures.none c.in_err-digest.ensures.digest
    cell.digest is.form.digest words.digest)

pub returns-in_err-grants-clause-only : goal.returns-in_err-grants-clause-only
returns-in_err-grants-clause-only c = λ cell grants holder is file e.
    let words =
    build_cut cell grants holder is c.args.words.now e _ _ _ _ _ _ _ _ _ _ c.cut_at_space.ensures
    c.cut_at_space-2.ensures c.cut_at_space-3.ensures c.cut_at_space-4.ensures
    c.cut_at_space-5.ensures in
    let few = is.grants in
    absurd (c.in_err-grants.ensures grants (omega (arith, few)) words.grants)

pub returns-in_err-holder-clause-only : goal.returns-in_err-holder-clause-only
returns-in_err-holder-clause-only c = λ cell grants holder is file e.
    let words =
    build_cut cell grants holder is c.args.words.now e _ _ _ _ _ _ _ _ _ _ c.cut_at_space.ensures
    c.cut_at_space-2.ensures c.cut_at_space-3.ensures c.cut_at_space-4.ensures
    c.cut_at_space-5.ensures in
    is_none (holder_found _ None c.in_err-holder.ensures.none c.in_err-holder.ensures.session
    holder is.holder words.holder)

pub returns-in_err-state-clause-only : goal.returns-in_err-state-clause-only
returns-in_err-state-clause-only c = λ cell grants holder is file e.
    let words =
    build_cut cell grants holder is c.args.words.now e _ _ _ _ _ _ _ _ _ _ c.cut_at_space.ensures
    c.cut_at_space-2.ensures c.cut_at_space-3.ensures c.cut_at_space-4.ensures
    c.cut_at_space-5.ensures in
    let held : Some c.in_ok-holder.holder ≡ Some holder =
    holder_found _ (Some c.in_ok-holder.holder) c.in_ok-holder.ensures.none
    c.in_ok-holder.ensures.session holder is.holder words.holder in
    let holds : c.in_ok-holder.holder ≡ holder = cc in
    let told = c.in_err-state.ensures in
    is_none (state_found _ c.in_ok-holder.holder None told.building told.built told.failed told.idle
    cell.state (λ s building. holds ∙ is.builder s building) words.state)

pub returns-clause-only : goal.returns-clause-only
returns-clause-only c = λ cell grants holder is file e.
    let words =
    build_cut cell grants holder is c.args.words.now e _ _ _ _ _ _ _ _ _ _ c.cut_at_space.ensures
    c.cut_at_space-2.ensures c.cut_at_space-3.ensures c.cut_at_space-4.ensures
    c.cut_at_space-5.ensures in
    let held : Some c.in_ok-holder.holder ≡ Some holder =
    holder_found _ (Some c.in_ok-holder.holder) c.in_ok-holder.ensures.none
    c.in_ok-holder.ensures.session holder is.holder words.holder in
    let holds : c.in_ok-holder.holder ≡ holder = cc in
    let told = c.in_ok-state.ensures in
    let stage : Some (target_state_of c.in_ok-state.state) ≡ Some cell.state =
    state_found _ c.in_ok-holder.holder (Some (target_state_of c.in_ok-state.state)) told.building
    told.built told.failed told.idle cell.state (λ s building. holds ∙ is.builder s building)
    words.state in
    let state : target_state_of c.in_ok-state.state ≡ cell.state = cc in
    let done_read : Some c.in_ok-done.done ≡ Some cell.done =
    done_found _ c.args.file (Some c.in_ok-done.done) c.in_ok-done.ensures.same
    c.in_ok-done.ensures.none c.in_ok-done.ensures.stamp cell.done is.form.done
    (words.done ∙ ap (λ (f : Option Text). done_word f cell.done) (sym file)) in
    let done : c.in_ok-done.done ≡ cell.done = cc in
    let digest_read : Some c.in_ok-digest.digest ≡ Some cell.digest =
    digest_found _ (Some c.in_ok-digest.digest) c.in_ok-digest.ensures.none
    c.in_ok-digest.ensures.digest cell.digest is.form.digest words.digest in
    let digest : c.in_ok-digest.digest ≡ cell.digest = cc in
    let few = is.form.builds in
    let many = is.grants in
    let builds : c.in_ok-builds.builds ≡ cell.builds =
    same_number c.in_ok-builds.builds cell.builds (omega arith) (omega arith)
    (sym c.in_ok-builds.ensures ∙ words.builds) in
    record {
      cell = c.known.ensures
          ∙ (λ i. told_cell (file i) (state i) (builds i) (done i) (digest i));
      grants = same_number c.in_ok-grants.grants grants (omega arith) (omega arith)
          (sym c.in_ok-grants.ensures ∙ words.grants);
      holder = holds;
    }
