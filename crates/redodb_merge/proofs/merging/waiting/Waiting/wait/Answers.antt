use Rattle.std.proofs.Common.{◌<◌, ◌∙◌, length, ap, refl, arith, w64}
use Rattle.std.proofs.lemmas.List.{length-set, get_or_default}
use Rattle.std.proofs.lemmas.Nat.Bits.{bit_at_clear_same, bit_at_clear_other}
use Rattle.redodb_journal.specs.declared.entry.Entry.{Entry}
use Rattle.redodb_merge.specs.Support.Merging.{none}
use Rattle.redodb_merge.specs.Support.Waiting.{bucket_of}
use Rattle.redodb_merge.proofs.WaitingBits.{fewer_ready, bucket_small, put_here, put_others}
use Rattle.redodb_merge.proofs.merging.waiting.Waiting.wait.Goals as goal

pub returns-in-Some : goal.returns-in-Some
returns-in-Some c =
    let ready = c.args.self.now.ready in
    let buckets = c.args.self.now.buckets.items in
    let s = c.args.s in
    let i = c.bucket_of.result in
    let e = c.in-Some.entry.now in
    let w = c.index_mut.result.now in
    let in' : i < length buckets =
    omega (arith, c.bucket_of.ensures, bucket_small e.place, c.requires.buckets) in
    record {
      bucketed = length-set buckets i _ ∙ c.requires.buckets;
      here = bit_at_clear_same w64 ready s c.requires.below;
      noted = λ more. put_here buckets i w s in' c.index_mut.ensures.value c.requires.below _
          (c.bucket_of.ensures
          ∙ ap (λ (x : Entry). bucket_of x.place)
          (c.in-Some.ensures.lookup.1 ∙ get_or_default c.args.entries.now c.args.k e none more));
      ready = λ u small other. bit_at_clear_other w64 ready s c.requires.below u small other;
      others = λ u place other. put_others buckets i w s in' c.index_mut.ensures.value
          c.requires.below (bucket_of place) u other;
      less = fewer_ready ready s c.requires.below;
    }

pub returns-in_default : goal.returns-in_default
returns-in_default c =
    let ready = c.args.self.now.ready in
    let s = c.args.s in
    record {
      bucketed = c.requires.buckets;
      here = bit_at_clear_same w64 ready s c.requires.below;
      noted = λ more. absurd (omega (arith, more, c.in_default.ensures.lookup));
      ready = λ u small other. bit_at_clear_other w64 ready s c.requires.below u small other;
      others = λ u place other. refl;
      less = fewer_ready ready s c.requires.below;
    }
