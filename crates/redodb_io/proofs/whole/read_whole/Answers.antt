use Rattle.std.proofs.Common.{◌≡◌, ◌+◌, ◌<◌, ◌≤◌, ◌++◌, length, take, length-append, length-take-le, arith}
use Rattle.std.proofs.KnownBytes.{Consumes-trans}
use Rattle.std.proofs.lemmas.Grind.{common_steps}
use Rattle.redodb_io.specs.Watched.{inner_of}
use Rattle.redodb_io.proofs.whole.read_whole.Goals as goal

-- what was read so far and this read's bytes are at least one and within the limit
pub returns-in_err-extend_from_slice-clause-memory :
    goal.returns-in_err-extend_from_slice-clause-memory
returns-in_err-extend_from_slice-clause-memory g c =
    λ memory.
    let n = c.in-Some.n in
    let items = c.loop-n.whole.items in
    let more = take n c.read.new.buf in
    let some : 0 < n = grind (arith, common_steps) in
    let few : length items + n ≤ c.args.limit = grind (arith, common_steps) in
    let count : length more ≡ n =
    length-take-le n c.read.new.buf c.in-Some.ensures.within in
    let both : length (items ++ more) ≡ length items + length more = length-append items more in (
      items ++ more,
      omega arith,
      omega arith,
      Consumes-trans
          (g.R.Read.remaining (inner_of c.args.reader.now))
          (g.R.Read.remaining (inner_of c.loop-n.reader))
          (g.R.Read.remaining (inner_of c.read.new.self))
          items
          more
          c.loop-n.invariant.so_far
          c.in-Some.ensures.given,
    )

pub loop-n-preserved : goal.loop-n-preserved
loop-n-preserved g c = grind (arith, common_steps)
